pub mod Phases
pub mod Shards
