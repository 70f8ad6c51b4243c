-- What only private functions promise: steps towards what the public calls say.
pub mod Tables
pub mod Walks
pub mod Keys
pub mod Shares
