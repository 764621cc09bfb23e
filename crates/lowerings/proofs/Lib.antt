pub mod Holding
pub mod Zeros
pub mod Wide
pub mod Carries
pub mod SignedDigits
pub mod AddedDigit
