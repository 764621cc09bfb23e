pub mod Grammar
pub mod Reading
pub mod Listing
pub mod Faults
pub mod Entries
