pub mod Texts
pub mod Frames
