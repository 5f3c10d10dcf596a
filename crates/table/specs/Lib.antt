pub mod Sets
pub mod Tasks
pub mod Lent
