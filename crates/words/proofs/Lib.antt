pub mod Table
pub mod Field
pub mod Bytes
pub mod Conversions
