pub mod Grammar
pub mod Lines
pub mod Walk
