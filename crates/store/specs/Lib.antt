pub mod Calls
pub mod Endings
pub mod Model
pub mod Rows
pub mod Tells
pub mod Values
