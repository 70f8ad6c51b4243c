mod PartitionsShared
mod PartitionsTold
mod PiecesDrawn
mod PiecesJoined
mod PiecesOrdered
mod PiecesRead
mod ShapesFilled
mod SlotsFilled
mod SlotsRead
mod SlotsRefused
pub mod FoldBounds
pub mod Saying
pub mod SameShape
pub mod OneEvidence
pub mod StandsWhole
pub mod Refused
pub mod FirstRefusals
pub mod RefusalsNamed
pub mod Gathering
pub mod SeatSums
pub mod TicketSteps
