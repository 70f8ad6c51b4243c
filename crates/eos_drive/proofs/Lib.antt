pub mod Drawing
pub mod MoreDeeds
pub mod OneAfterAnother
pub mod Replaying
pub mod Agreeing
pub mod Equal
mod Counted
pub mod Losses
