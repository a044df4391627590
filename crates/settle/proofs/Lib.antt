mod Closing
mod Steps
mod Following
