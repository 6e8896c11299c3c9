pub mod NoData
pub mod Collecting
pub mod ItemLists
pub mod OrderedNames
pub mod NoFloats
pub mod Laws
