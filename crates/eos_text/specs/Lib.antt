pub mod Adding
pub mod Escaping
pub mod Writing
pub mod Catalogue
pub mod Kinds
pub mod Pages
pub mod steps
