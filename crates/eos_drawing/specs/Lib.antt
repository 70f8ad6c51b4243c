pub mod Drawings
pub mod Folders
pub mod FirstPictures
pub mod Pictures
pub mod Refused
pub mod steps
pub mod Whens
