pub mod ChainLaws
pub mod CongruenceLaws
pub mod Laws
