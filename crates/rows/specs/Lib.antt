pub mod Places
pub mod Primitives
