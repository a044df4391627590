pub mod Stands
pub mod Sendings
pub mod Statements
pub mod Books
