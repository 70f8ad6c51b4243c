-- What only private functions promise: steps towards what the public calls say.
pub mod Machine
pub mod Writable
pub mod Fits
pub mod Joined
