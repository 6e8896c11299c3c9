-- What crates above rest on. Each law with what it says.

-- no script has more than 2^26 bytes
pub use Rattle.made_scripts.proofs.Lengths.{made_short}
