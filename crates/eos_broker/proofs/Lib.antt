pub mod StateOfLog
pub mod KeptInOrder
pub mod Rooms
