pub mod Breaches
pub mod Courses
pub mod Names
pub mod steps
