-- Lists of two flags.
use Rattle.std.proofs.Common.{◌≡◌, ◌≢◌, List, [], ◌∷◌, length, Bool, Option, Some, None, refl, arith}
use Rattle.std.specs.Prelude.{slice_index_or}
use Rattle.step_forms.specs.Acts.{two_flags}
use Rattle.step_forms.specs.declared.act.Act.TheVariants as act

pub not_two : (flags : List (Option Bool)) → length flags ≢ 2 → None ≡ two_flags flags
not_two [] ne = refl
not_two (a ∷ []) ne = refl
not_two (a ∷ b ∷ []) ne = absurd (ne refl)
not_two (a ∷ b ∷ more ∷ flags) ne = refl

pub two : (flags : List (Option Bool)) (d : Option Bool) → length flags ≡ 2 → Some (act.MarkBoundsImplicit (slice_index_or flags 0 d) (slice_index_or flags 1 d)) ≡ two_flags flags
two [] d e = absurd (omega (arith, e))
two (a ∷ []) d e = absurd (omega (arith, e))
two (a ∷ b ∷ []) d e = refl
two (a ∷ b ∷ more ∷ flags) d e = absurd (omega (arith, e))
