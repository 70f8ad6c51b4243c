-- What only private functions promise: steps towards what the public calls say.
pub mod AcceptedMembers
pub mod OrderedEnds
pub mod SegmentIndexes
pub mod WrittenEnds
pub mod WrittenApps
