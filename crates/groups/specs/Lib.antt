pub mod Faults
pub mod Laws
pub mod Lanes
pub mod Powers
pub mod Words
pub mod Arrangements
pub mod Pigeonholes
