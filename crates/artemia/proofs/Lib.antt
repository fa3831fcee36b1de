pub mod Sizes
pub mod Parts
pub mod Lanes
pub mod Rules
pub mod Quarters
