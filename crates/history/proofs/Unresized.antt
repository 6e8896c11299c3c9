-- An array that no event has given a new shape since.
use Rattle.std.proofs.Common.{◌≡◌, ℕ, ◌+◌, ◌≤◌, [], ◌∷◌, ◌++◌, length, Bool, true, false, cond, Some, refl, sym, ap, subst, ◌∙◌, append_assoc, append-nil, length-append, arith}
use Rattle.std.specs.Prelude.{◌==◌}
use Rattle.kv_face.specs.Store.{Contents}
use Rattle.history.specs.declared.event.Kind.{Kind}
use Rattle.history.specs.declared.event.Kind.TheVariants.{Opened, Done, Resized, Fault}
use Rattle.history.specs.History.{History}
use Rattle.history.specs.Arrays.{Known, known_after, known_step, known_reshaped}
use Rattle.history.specs.Legal.{IsLegal, IsLegalKind}
use Rattle.history.specs.Store.{resized_after, resized_step}
use Rattle.history.proofs.Histories.{each_history, known_after-more, resized_after-more, legal_step}
use Rattle.history.proofs.Known.{fresh_number, opening_of}

step_within : (a : ℕ) (h : History) (kind : Kind) (n : ℕ) → n ≤ length h → resized_step a h kind n ≤ length h + 1
step_within a h (Opened info) n low = omega arith
step_within a h (Done line mode ops key) n low = omega arith
step_within a h (Resized b shape) n low = by (b == a)
  where
    by : (t : Bool) → cond t (length h + 1) n ≤ length h + 1
    by true = omega arith
    by false = omega arith
step_within a h (Fault mount) n low = omega arith

-- the number of an array's last new shape is one of the events'
pub resized_after-le-length : (events : History) (a : ℕ) → resized_after events a ≤ length events
resized_after-le-length events a =
    each_history (λ h. resized_after h a ≤ length h) (omega arith)
    (λ h e before. subst (λ n. resized_after (h ++ e ∷ []) a ≤ n) (sym (length-append h (e ∷ []))) (subst (λ g. g ≤ length h + 1) (sym (resized_after-more h e a)) (step_within a h e.kind (resized_after h a) before)))
    events

module _ (start : Contents) (early : History) (a : ℕ) (k : Known) where
  -- one event more, which gives the array no new shape
  unresized_step : (h : History) (kind : Kind) → length early ≤ length h → IsLegal start h → IsLegalKind start h kind → resized_step a h kind (resized_after h a) ≤ length early
      → (resized_after h a ≤ length early → known_after h a ≡ Some k) → known_step a h kind (known_after h a) ≡ Some k
  unresized_step h (Opened info) longer legal next low before =
      let is = before low in
      ap (λ t. cond t (Some (record { info = info; opened = length h + 1; shape = info.shape })) (known_after h a)) (fresh_number start h info a k legal (opening_of start h (Opened info) info refl next) is) ∙ is
  unresized_step h (Done line mode ops key) longer legal next low before = before low
  unresized_step h (Resized b shape) longer legal next low before = by (b == a) low
    where
      by : (t : Bool) → cond t (length h + 1) (resized_after h a) ≤ length early → cond t (known_reshaped shape (known_after h a)) (known_after h a) ≡ Some k
      by true late = absurd (omega (arith, longer, late))
      by false late = before late
  unresized_step h (Fault mount) longer legal next low before = before low

  -- an array that none of the later events has given a new shape is as it was
  pub known_unresized : known_after early a ≡ Some k → (late : History) → IsLegal start (early ++ late) → resized_after (early ++ late) a ≤ length early → known_after (early ++ late) a ≡ Some k
  known_unresized is =
      each_history (λ late. IsLegal start (early ++ late) → resized_after (early ++ late) a ≤ length early → known_after (early ++ late) a ≡ Some k) (λ legal low. ap (λ h. known_after h a) (append-nil early) ∙ is)
      (λ late e before legal low.
      let all = early ++ late in
      let to : early ++ (late ++ e ∷ []) ≡ all ++ e ∷ [] = sym (append_assoc early late (e ∷ [])) in
      let parts = legal_step start all e (subst (IsLegal start) to legal) in
      let sum = length-append early late in
      ap (λ h. known_after h a) to ∙ known_after-more all e a
      ∙ unresized_step all e.kind (omega (arith, sum)) parts.0 parts.1 (subst (λ n. n ≤ length early) (ap (λ h. resized_after h a) to ∙ resized_after-more all e a) low) (before parts.0))
