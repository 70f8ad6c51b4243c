-- What only private functions promise: steps towards what the public calls say.
pub mod Neighbours
pub mod Keys
pub mod KeptFaults
pub mod LogCandidates
pub mod OneShard
pub mod Wanted
pub mod Doubled
pub mod Apart
pub mod Known
pub mod Deciders
pub mod Shown
pub mod Held
pub mod Reads
