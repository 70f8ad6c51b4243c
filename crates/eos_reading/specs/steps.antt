-- What only private functions promise: steps towards what the public calls say.
pub mod Bytes
pub mod Fed
pub mod Forms
pub mod Keeping
pub mod TextForms
pub mod TextEnds
