-- What only private functions promise: steps towards what the public calls say.
pub mod Order
pub mod Partitions
pub mod Runs
pub mod Seats
pub mod Slots
pub mod Folds
pub mod OpenSeats
