pub mod Ages
pub mod Endings
pub mod History
pub mod Invariants
pub mod Notes
pub mod Performed
pub mod Reruns
