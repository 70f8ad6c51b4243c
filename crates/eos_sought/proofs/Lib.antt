pub mod Keeping
pub mod NoState
pub mod FoldedBatches
pub mod FoldedNames
mod NoneHeld
