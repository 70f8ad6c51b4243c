pub mod Exits
pub mod Dated
pub mod TablesRead
pub mod Reports
pub mod SourceAnswers
pub mod FolderAnswers
pub mod FoldsCounted
