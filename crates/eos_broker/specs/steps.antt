-- What only private functions promise: steps towards what the public calls say.
pub mod Kept
pub mod Proper
pub mod Listing
pub mod Named
