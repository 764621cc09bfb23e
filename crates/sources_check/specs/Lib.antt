pub mod Ones
pub mod OnesLaws
