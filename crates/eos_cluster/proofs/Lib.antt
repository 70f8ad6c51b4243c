pub mod AllLogs
pub mod Openings
pub mod Reaching
pub mod Replies
pub mod Backward
pub mod Settled
pub mod Ranges
pub mod Lossless
mod Refused
mod LastEntries
mod Arriving
mod Ticking
