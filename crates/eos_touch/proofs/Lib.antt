pub mod TableRows
pub mod AllTouches
pub mod CountingUp
pub mod NeighboursLaw
pub mod TouchLists
pub mod Continuity
pub mod BatchReading
pub mod Beginnings
