mod Outcomes
mod Numbers
mod Signs
mod Spaces
mod OneColumn
pub mod InRange
pub mod LineLaid
