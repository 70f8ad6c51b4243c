-- What only private functions promise: steps towards what the public calls say.
pub mod Alone
pub mod Endings
pub mod States
pub mod Joins
pub mod Summaries
