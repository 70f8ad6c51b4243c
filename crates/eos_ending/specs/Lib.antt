pub mod Endings
pub mod Leaving
pub mod Subjects
