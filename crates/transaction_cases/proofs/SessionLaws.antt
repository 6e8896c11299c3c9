-- Sessions before their first line, and between two.
use Rattle.std.proofs.Common.{◌≡◌, ◌∙◌, ℕ, ◌<◌, ◌++◌, List, [], ◌∷◌, Option, Some, None, refl, sym, ap, subst, arith}
use Rattle.std.specs.Prelude.{zero, suc, ◌-◌, take, slice_index_or}
use Rattle.history.specs.declared.event.Event.{Event}
use Rattle.transaction_cases.specs.Sessions.{IsBetween, IsFresh}
use Rattle.session_runs.specs.Session.{SessionSeen}
use Rattle.session_runs.specs.Turns.{IsRested}
use Rattle.state_laws.specs.Agreement.{Opening}
use Rattle.turn_book.specs.Passes.{AreNew, BookView, PassView, HasNumber, new_pass}

-- a session that was given no line is between lines
pub between_fresh : (book : BookView Opening) (k : ℕ) (s : SessionSeen) → IsFresh book k s → IsBetween book k s.pass s.names s.txn s.ended
between_fresh book k s fresh = record { number = fresh.number; rested = fresh.on.rested; on = fresh.on.fit }

-- a pass as its book begins rests
pub new_rested : (book : BookView Opening) (pass : PassView Event Opening) (k : ℕ) → pass ≡ new_pass book k → IsRested book pass
new_rested book pass k is = subst (λ (p : PassView Event Opening). IsRested book p) (sym is) (record { idle = ((refl, refl), refl); own = refl; past = record { outline = tt; legal = λ start told. tt } })

-- two passes with the numbers of a book of two
pub two_passes : (passes : List (PassView Event Opening)) (a b : PassView Event Opening) → passes ≡ a ∷ b ∷ [] → a.number ≡ 0 → b.number ≡ 1 → (k : ℕ) → k < 2 → HasNumber passes k
two_passes passes a b is p q zero less = subst (λ (ps : List (PassView Event Opening)). HasNumber ps 0) (sym is) (0, omega arith, λ d. p)
two_passes passes a b is p q (suc zero) less = subst (λ (ps : List (PassView Event Opening)). HasNumber ps 1) (sym is) (1, omega arith, λ d. q)
two_passes passes a b is p q (suc (suc k)) less = absurd (omega (arith, less))

inside : PassView Event Opening → Option (PassView Event Opening) → PassView Event Opening
inside d None = d
inside d (Some p) = p

-- the last of two new passes
pub pass_last : (book : BookView Opening) (passes : List (PassView Event Opening)) (n : ℕ) (r : Option (PassView Event Opening)) (a : PassView Event Opening) → AreNew book passes → book.passes ≡ 2 → n ≡ 2
    → ((d : PassView Event Opening) → 0 < n → r ≡ Some (slice_index_or passes (n - 1) d)) → r ≡ Some a → a ≡ new_pass book 1
unfolding inside
pass_last book passes n r a new two is value some =
    ap (inside a) (sym some ∙ value a (omega (arith, is))) ∙ (ap (λ (k : ℕ). slice_index_or passes (k - 1) a) is ∙ new 1 a (omega (arith, two)))

front_of : (passes : List (PassView Event Opening)) (d : PassView Event Opening) → slice_index_or (take 1 passes) 0 d ≡ slice_index_or passes 0 d
front_of [] d = refl
front_of (x ∷ passes) d = refl

-- and the first
pub pass_first : (book : BookView Opening) (passes rest : List (PassView Event Opening)) (n m : ℕ) (r : Option (PassView Event Opening)) (a : PassView Event Opening) → AreNew book passes → book.passes ≡ 2 → n ≡ 2 → m ≡ 1 → rest ≡ take (n - 1) passes
    → ((d : PassView Event Opening) → 0 < m → r ≡ Some (slice_index_or rest (m - 1) d)) → r ≡ Some a → a ≡ new_pass book 0
unfolding inside
pass_first book passes rest n m r a new two is one front value some =
    ap (inside a) (sym some ∙ value a (omega (arith, one))) ∙ (ap (λ (k : ℕ). slice_index_or rest (k - 1) a) one ∙ (ap (λ (l : List (PassView Event Opening)). slice_index_or l 0 a) (front ∙ ap (λ (k : ℕ). take (k - 1) passes) is)
    ∙ (front_of passes a ∙ new 0 a (omega (arith, two)))))
