-- What only private functions promise: steps towards what the public calls say.
pub mod Apart
pub mod InPartitions
pub mod Earned
pub mod FaultsAgain
pub mod Rising
pub mod Timing
pub mod Each
pub mod JudgedBy
pub mod FoldsAgain
pub mod TextsAgain
pub mod Picking
pub mod PicksAgain
