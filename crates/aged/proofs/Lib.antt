pub mod Rows
pub mod Spending
pub mod Closing
pub mod Taking
pub mod Parts
pub mod Units
pub mod Histories
