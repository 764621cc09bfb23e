pub mod Numerals
pub mod Topmost
pub mod Accepted
pub mod FromTop
pub mod Negating
pub mod PlainDigits
pub mod Deciding
pub mod Signed
