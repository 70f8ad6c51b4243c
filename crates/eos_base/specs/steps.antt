-- What only private functions promise: steps towards what the public calls say.
pub mod Decided
pub mod Least
pub mod Records
