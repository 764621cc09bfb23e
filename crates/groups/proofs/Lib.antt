pub mod LaneLoops
pub mod PowerLaws
