pub mod Candidates
pub mod Faults
pub mod Headers
pub mod Outputs
pub mod Plain
pub mod Slots
pub mod steps
