pub mod Showing
pub mod NoneShown
pub mod AverageShown
pub mod FivePlaces
pub mod IndexShown
pub mod FiveWorked
