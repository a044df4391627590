pub mod Line
pub mod Refusals
pub mod Runs
pub mod Laws
pub mod Examples
