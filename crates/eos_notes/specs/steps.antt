-- What only private functions promise: steps towards what the public calls say.
pub mod Counted
pub mod Unlisted
pub mod TalliesCounted
pub mod Replaced
