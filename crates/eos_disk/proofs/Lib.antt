mod Changed
mod GivenTexts
pub mod Kept
pub mod OneShape
pub mod WholeFiles
pub mod JustWritten
pub mod InMemory
pub mod ListedBack
mod OnePlace
mod LeftBehind
mod Unknown
mod AddedOne
mod FileNames
mod FilesInOrder
mod FilesMore
mod FirstFold
mod FolderNames
mod Listings
mod ListingsCut
mod ManifestRead
mod NamedMore
mod PaddedNames
mod PartitionsCut
mod PartitionsGrown
mod Places
mod ShapeRead
mod Staying
mod WrittenMore
