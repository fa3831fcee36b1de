pub mod Laws
pub mod Linear
pub mod Diffusion
pub mod Field
pub mod Sbox
pub mod Bytes
