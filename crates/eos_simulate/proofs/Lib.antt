pub mod Deeds
pub mod Partitions
pub mod Placing
pub mod Singles
pub mod Joining
pub mod Agreeing
mod LedBatches
pub mod WholeFronts
pub mod LogTouches
pub mod TxnRecords
pub mod TxnRules
pub mod ListedNames
pub mod Settled
pub mod TransactionRule
pub mod Decisions
pub mod Atomics
pub mod KeptRules
pub mod EverySchedule
pub mod AddedEvidence
pub mod CoveredBytes
pub mod ItemTexts
pub mod LeftEvidence
mod OneEvidence
mod Labelled
mod Stopping
mod LeftFolders
mod MadeRuns
mod ScheduleTexts
mod HistoryLines
mod ShrunkParts
mod ShrunkFiles
mod CleanedLogs
mod Gathered
mod LookedFor
pub mod Brought
pub mod CollectedRuns
mod EachSchedule
