-- What only private functions promise: steps towards what the public calls say.
pub mod Faults
pub mod Refusals
pub mod Counts
pub mod Widths
pub mod Walks
pub mod Passing
pub mod Seals
pub mod Sealing
pub mod Fronts
pub mod Heads
pub mod Kept
pub mod TextLists
pub mod TextsRead
