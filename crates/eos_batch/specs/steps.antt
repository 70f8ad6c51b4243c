-- What only private functions promise: steps towards what the public calls say.
pub mod Reading
pub mod Answers
pub mod Places
pub mod Writing
