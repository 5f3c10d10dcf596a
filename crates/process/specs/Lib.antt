pub mod Answers
pub mod Moves
pub mod Rows
pub mod Tells
pub mod Traits
pub mod Turns
