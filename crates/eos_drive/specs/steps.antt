pub mod Drives
pub mod Replay
pub mod Turns
