pub mod Puts
pub mod Pieces
pub mod Writers
