pub mod Steps
pub mod Fronts
pub mod Numbers
pub mod Groups
pub mod Windows
