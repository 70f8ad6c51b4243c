-- What only private functions promise: steps towards what the public calls say.
pub mod Passing
pub mod Folding
pub mod Heads
pub mod Taking
pub mod Closes
pub mod Counts
pub mod Fronts
pub mod Made
