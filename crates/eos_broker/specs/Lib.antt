pub mod Kept
pub mod steps
pub mod Held
pub mod Named
