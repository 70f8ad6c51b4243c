-- What only private functions promise: steps towards what the public calls say.
pub mod Heads
pub mod Passing
pub mod AddedLabels
pub mod Judging
pub mod AddedLines
pub mod Walking
