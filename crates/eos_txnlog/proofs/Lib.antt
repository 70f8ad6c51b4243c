pub mod SameNames
pub mod FieldTexts
pub mod ValueTexts
pub mod Appended
pub mod WrittenTexts
mod SameLists
