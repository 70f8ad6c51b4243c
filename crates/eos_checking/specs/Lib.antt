pub mod Checking
pub mod Dates
pub mod Demands
pub mod FoldCounts
pub mod Folders
pub mod Refused
pub mod Sources
pub mod steps
