pub mod Rounding
pub mod Payments
pub mod Bounds
pub mod Paying
