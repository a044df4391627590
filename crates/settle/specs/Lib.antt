pub mod Courses
pub mod Answers
pub mod Lines
pub mod Report
