pub mod Fetching
pub mod Taken
pub mod Restarting
pub mod Refusing
