pub mod Faults
pub mod Tally
pub mod Held
pub mod Zero
pub mod Constants
pub mod Record
pub mod Sums
