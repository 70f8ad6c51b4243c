pub mod Pair
pub mod Rules
pub mod Neighbours
pub mod Touches
pub mod Front
pub mod FaultNames
