pub mod Driven
pub mod Mishaps
pub mod Rates
pub mod Totals
pub mod Words
pub mod steps
pub mod Replay
