mod FolderAnswers
mod FirstOnes
mod FirstRefused
mod JudgedAnswers
pub mod KeptPictures
mod Placed
pub mod RowTimes
