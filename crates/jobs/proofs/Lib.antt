pub mod Texts
pub mod Forming
pub mod Spelling
pub mod Accepting
pub mod SoFar
pub mod Verdicts
pub mod Lines
pub mod Listed
