use Rattle.std.proofs.Common.{map, subst}
use Rattle.std.specs.List.{IsDistinct}
use Rattle.std.specs.Str.{bytes_eq}
use Rattle.std.proofs.lemmas.Map.Keys.{IsDistinct-from_sorted}
use Rattle.transaction_cells.specs.Found.{by_id}
use Rattle.transaction_cells.specs.Staging.{StagedChunk}
use Rattle.transaction_cells.proofs.StagingLaws.{apart_ids}
use Rattle.transaction_cells.proofs.staging.Staging.chunks.Goals as goal

pub returns-clause-apart : goal.returns-clause-apart
returns-clause-apart c = subst (λ chunks. IsDistinct bytes_eq (map (λ (s : StagedChunk). s.id) chunks)) c.self.view_is (apart_ids _ (IsDistinct-from_sorted by_id _ c.iter.ensures.ordered))
