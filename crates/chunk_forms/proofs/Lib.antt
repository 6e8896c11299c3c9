pub mod Laws
pub mod MadeLaws
