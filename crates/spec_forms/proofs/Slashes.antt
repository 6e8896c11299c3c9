-- A text without the slash at its end.
use Rattle.std.proofs.Common.{◌≡◌, ◌≢◌, ℕ, ◌-◌, List, [], ◌∷◌, ◌++◌, Bool, true, false, length, take, cond, refl, nat_eq}
use Rattle.std.proofs.lemmas.Bool.Decides.{Decides-eqb}
use Rattle.std.proofs.lemmas.Slice.Eq.{ends_is}
use Rattle.std.specs.List.{ends_with}
use Rattle.spec_forms.specs.Paths.{without_slash}

kept : (text front : List ℕ) (test : Bool) → (test ≡ true → ⊥) → text ≡ cond test front text
kept text front true never = absurd (never refl)
kept text front false never = refl

pub without_slash-none : (text : List ℕ) → ((front : List ℕ) → text ≢ front ++ 47 ∷ []) → text ≡ without_slash text
without_slash-none text none =
    kept text (take (length text - 1) text) (ends_with nat_eq text (47 ∷ [])) (λ ends. none _ ((ends_is Decides-eqb text (47 ∷ []) (ends_with nat_eq text (47 ∷ [])) refl).0 ends))
