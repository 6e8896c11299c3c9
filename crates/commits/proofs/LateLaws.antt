-- The first late mark.
use Rattle.std.proofs.Common.{◌≡◌, ℕ, ◌<◌, List, ◌∷◌, Option, Some, None, inl, inr, refl, sym, subst}
use Rattle.chunk_plans.specs.Log.{Log}
use Rattle.commits.specs.declared.late.Late.{Late}
use Rattle.chunk_plans.specs.declared.mark.Mark.{Mark}
use Rattle.commits.specs.Late.{IsFirstLate, IsGenerationIn, IsStill}

-- it is found behind a mark that is still
pub late_more : (log : Log) (m : Mark) (marks : List Mark) (found : Option Late) → IsStill log m → IsFirstLate log marks found → IsFirstLate log (m ∷ marks) found
late_more log m marks None still is = (still, is)
late_more log m marks (Some l) still is = inr (still, is)

pub late_here : (log : Log) (m : Mark) (marks : List Mark) (now : ℕ) (found : Option Late) → IsGenerationIn log m.key now → m.generation < now → found ≡ Some (record { key = m.key; read = m.generation; now = now }) → IsFirstLate log (m ∷ marks) found
late_here log m marks now found is later same = subst (IsFirstLate log (m ∷ marks)) (sym same) (inl (record { key = refl; read = refl; later = later; is = is }))
