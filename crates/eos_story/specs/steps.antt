-- What only private functions promise: steps towards what the public calls say.
pub mod Batches
pub mod Ends
pub mod Seen
pub mod Telling
pub mod Claims
pub mod Same
