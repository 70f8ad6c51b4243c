pub mod steps
pub mod LineageFaults
pub mod OneInput
pub mod OutputKinds
pub mod PartitionPlaces
pub mod PartitionLists
pub mod Sinks
