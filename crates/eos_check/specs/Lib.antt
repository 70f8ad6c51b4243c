pub mod PartitionRules
pub mod Good
pub mod VisibleRecords
pub mod Verdicts
pub mod Judged
pub mod steps
pub mod KeptVerdicts
pub mod KeptLogs
