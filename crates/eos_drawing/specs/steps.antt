-- What only private functions promise: steps towards what the public calls say.
pub mod Answers
pub mod Pictures
pub mod Undrawn
