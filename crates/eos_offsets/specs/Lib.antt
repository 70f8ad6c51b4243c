pub mod Text
pub mod Reading
pub mod Writing
pub mod Views
pub mod LeaderEpochs
pub mod steps
