-- The laws of changed dimensions that other crates rest on.
pub use Rattle.dim_changes.proofs.CauseLaws.{NoneOf-first, causes-more, none-mapped}
pub use Rattle.dim_changes.proofs.CutStrides.{IsEffectiveMember-strided, index-reached}
pub use Rattle.dim_changes.proofs.LabelLaws.{AreLabels-from, AreLabels-taken, are_labels-true}
pub use Rattle.dim_changes.proofs.LeftLaws.{left_spot, others_few, others_known, spot_distinct, rest_at, rest_distinct, rest_few, rest_fewer}
pub use Rattle.dim_changes.proofs.Lists.{listed_more}
pub use Rattle.dim_changes.proofs.MarkLemmas.{ends_marked, length_marked, marks_made}
pub use Rattle.dim_changes.proofs.OverLaws.{gives-over, gives-same, gives-tightened}
pub use Rattle.dim_changes.proofs.RangeLaws.{AreBounds-each, map-map, range-all, range-at, range-length, read-each}
pub use Rattle.dim_changes.proofs.ReachedLaws.{cell-closed, value-at}
pub use Rattle.dim_changes.proofs.SpotLaws.{spot_in-Some}
pub use Rattle.dim_changes.proofs.StepLemmas.{made-of}
pub use Rattle.dim_changes.proofs.TightAnswers.{BecomesTight, IsTightTransform, IsTightened, IsTightened-same, tighten_answer-Ok, tighten_answer-same}
pub use Rattle.dim_changes.proofs.TightBounds.{Edge, IsTight, IsTight-none, IsTight-one, finite_part-index, preimage-same, preimage_lower-same, preimage_upper-same}
pub use Rattle.dim_changes.proofs.TightMaps.{is_strided_from, preimages-none, preimages-one}
