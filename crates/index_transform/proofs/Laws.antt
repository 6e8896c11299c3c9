-- The laws of transforms that other crates rest on.
pub use Rattle.index_transform.proofs.CellLemmas.{length-cells_of, AreCells, AreCells-cells_of, length-counting, length-flat_map}
pub use Rattle.index_transform.proofs.EntryLemmas.{product_small, entry_place-below, reaches-lengths, IsAlong, IsAlong-end, IsAlong-most, IsAlong-next, IsAlong-product}
pub use Rattle.index_transform.proofs.InsideLemmas.{reaches_between, reaches_dim-fits, reaches-fits, has_value-inside}
pub use Rattle.index_transform.proofs.ListLemmas.{get_or-inside, position_from-zip, all-at, all-zip-at, fails, position_from-none, set-more}
pub use Rattle.index_transform.proofs.MapLemmas.{list_all-position_from}
pub use Rattle.index_transform.proofs.NumberLemmas.{*ℤ_assoc, multiplied_out, between_up, between_down, product_nonzero}
pub use Rattle.index_transform.proofs.WalkLemmas.{written_back}
pub use Rattle.index_transform.proofs.ShapeLemmas.{any-cell, some-cell, IsCell-first, IsCell-last, ends_leave-leaves, inside-shape}
pub use Rattle.index_transform.proofs.ValueLaws.{effective-cell, length-cell, has_value-cell, are_words-in_shape}
pub use Rattle.index_transform.proofs.IdentityLaws.{length-identity_maps, IsTransform-identity}
-- laws of crates below, given on to those above
pub use Rattle.cells.proofs.Laws.{both, both_true, second_true}
pub use Rattle.index_intervals.proofs.Laws.{AreBounds-true, IsBetween-met_all, IsIndex-true, IsMember-interval_of, before_at, beyond_at, down_at, hi_infinite, is_index-true, lo_infinite, same_bounds, up_at}
