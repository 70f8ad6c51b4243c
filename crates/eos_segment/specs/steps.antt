pub mod Holding
pub mod Opening
pub mod Feeding
pub mod Walks
