pub mod Histories
pub mod Paying
pub mod Quoting
pub mod Running
pub mod Sendings
pub mod Stating
