pub mod Artemia
pub mod Lanes
