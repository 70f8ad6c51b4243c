pub mod Appended
pub mod Fronts
pub mod PagesFound
pub mod KindsListed
