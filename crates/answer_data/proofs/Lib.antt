mod Members
mod Rising
mod Reading
mod Parts
mod Bracketing
mod Pieces
mod CauseTexts
mod Bodies
mod Orders
mod WordsBack
mod Printing
pub mod Laws
