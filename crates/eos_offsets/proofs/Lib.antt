pub mod FieldTexts
pub mod KeyTexts
pub mod ValueTexts
pub mod LeaderEpochTexts
pub mod WrittenTexts
