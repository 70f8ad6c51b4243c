pub mod OnceNamed
pub mod PlainLines
pub mod FileLines
pub mod ReadBack
