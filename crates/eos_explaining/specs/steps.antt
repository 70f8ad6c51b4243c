-- What only private functions promise: steps towards what the public calls say.
pub mod Tellings
pub mod Found
pub mod Counting
pub mod Picking
pub mod Kinds
pub mod Again
pub mod Untold
pub mod HeadersRead
pub mod Seen
pub mod Times
