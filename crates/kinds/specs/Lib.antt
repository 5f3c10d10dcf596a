pub mod Fields
pub mod Knots
pub mod Settings
pub mod SettingsLemmas
