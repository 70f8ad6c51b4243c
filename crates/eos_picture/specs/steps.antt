-- What only private functions promise: steps towards what the public calls say.
pub mod Acts
pub mod Found
pub mod Kept
pub mod Spots
pub mod Standing
pub mod Tellings
