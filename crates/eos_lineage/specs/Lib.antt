pub mod Lineage
pub mod Faults
pub mod steps
