pub mod Ranges
pub mod Units
pub mod Weights
pub mod Nearest
pub mod Pays
pub mod Bound
