pub mod Depths
mod Floats
mod Fresh
mod LastCalls
mod FilledTexts
mod FilledReports
