-- What only private functions promise: steps towards what the public calls say.
pub mod Such
pub mod Holding
pub mod Placing
