pub mod Limits
pub mod Padding
pub mod Steps
pub mod Faults
pub mod Sealing
pub mod Opening
pub mod Laws
