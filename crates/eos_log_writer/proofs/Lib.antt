pub mod Adding
pub mod Grouping
pub mod Refusals
pub mod Texts
