pub mod Atomic
pub mod MatchFaults
pub mod Shards
pub mod TransactionLog
pub mod LogFaults
pub mod steps
pub mod MatchPlaces
pub mod Wanted
