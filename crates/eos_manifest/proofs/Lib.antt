pub mod ItemsOfWords
pub mod JavaHashes
pub mod SegmentFronts
pub mod TextPieces
pub mod TopicCounts
