pub mod Spelling
pub mod Counted
pub mod OfForms
pub mod Whole
pub mod Passed
pub mod Judging
pub mod ReadingLoop
pub mod Growing
