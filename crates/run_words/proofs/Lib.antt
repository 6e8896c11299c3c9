mod Numbers
mod Spelling
mod Going
mod Texts
mod Choices
mod Meaning
pub mod Laws
