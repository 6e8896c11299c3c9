-- What crates above rest on: a mount keeps what all names of mounts keep; the plan of a Spec is sound.
use Rattle.std.proofs.Common.{◌≡◌, ℕ, Bool, true, false, List, [], ◌∷◌, refl, subst}
use Rattle.std.specs.Prelude.{◌||◌}
use Rattle.std.specs.List.{AllByRecursion}
use Rattle.std.specs.Str.{bytes_eq}
use Rattle.std.proofs.lemmas.Slice.Eq.{bytes_eq-Decides}
use Rattle.json_forms.specs.Members.{is_among}
-- the plan that a whole Spec gives is sound
pub use Rattle.spec_open.proofs.Fits.{plan_sound}

one-of : (P : List ℕ → Type 0) (n name : List ℕ) (test others : Bool) → bytes_eq n name ≡ test → P n → (others ≡ true → P name) → (test || others) ≡ true → P name
one-of P n name true others is first rest e = subst P ((bytes_eq-Decides n name).0 is) first
one-of P n name false others is first rest e = rest e

-- what every name keeps, a name among them keeps
pub among-keeps : (P : List ℕ → Type 0) (names : List (List ℕ)) (name : List ℕ) → AllByRecursion P names → is_among name names ≡ true → P name
among-keeps P [] name all e = absurd cc
among-keeps P (n ∷ ns) name all e = one-of P n name (bytes_eq n name) (is_among name ns) refl all.0 (λ rest. among-keeps P ns name all.1 rest) e
