-- The laws of stores that other crates rest on.
pub use Rattle.kv_face.proofs.Changes.{get-put_bytes, together_of_empty}
