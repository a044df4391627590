mod Agreeing
mod Askings
mod Covering
mod Cutting
mod Stepping
mod Values
