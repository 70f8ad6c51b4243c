-- What only private functions promise: steps towards what the public calls say.
pub mod Roles
pub mod Gathered
pub mod Lent
pub mod Settled
pub mod CommitLists
pub mod Entries
pub mod SetOffsets
