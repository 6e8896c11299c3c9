use Rattle.std.proofs.Common.{sym, ◌∙◌}
use Rattle.std.proofs.lemmas.Bool.Decides.{Decides-eqb}
use Rattle.std.proofs.lemmas.Slice.Eq.{slice_eq-Decides}
use Rattle.chunk_plans.proofs.planning.has_shape.Goals as goal

pub returns : goal.returns
returns c = λ yes. sym c.shape.ensures.value ∙ (slice_eq-Decides Decides-eqb c.shape.result.now c.chunk_shape.result.now c.eq.result c.eq.ensures).0 yes ∙ c.chunk_shape.ensures.value
