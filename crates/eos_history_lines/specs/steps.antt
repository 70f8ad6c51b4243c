-- What only private functions promise: steps towards what the public calls say.
pub mod Held
pub mod Reading
pub mod Pieces
pub mod Found
