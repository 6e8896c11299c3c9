-- The laws of a cache's list that other crates rest on: what is first, and what holds of each entry.
pub use Rattle.chunk_cache.proofs.CallerLaws.{kept-first, after_hit-first, after_keep-first, All-kept, All-after_hit, All-after_keep}
