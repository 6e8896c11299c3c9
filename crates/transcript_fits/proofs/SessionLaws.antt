-- The lines of one session among those of all.
use Rattle.std.proofs.Common.{◌≡◌, ◌≢◌, ◌∙◌, ◌⊎◌, inl, inr, ◌<◌, ◌≤◌, ◌+◌, ℕ, zero, suc, List, [], ◌∷◌, true, false, Some, take, drop, refl, ap, arith, eqb-true, eq-eqb}
use Rattle.std.specs.Prelude.{◌==◌}
use Rattle.std.specs.List.{slice_get}
use Rattle.cells.proofs.Laws.{true_or_false}
use Rattle.stated_history.specs.Said.{AreSaid}
use Rattle.stated_history.specs.ToldNumbers.{told_of}
use Rattle.stated_history.specs.Transcript.{Told}
use Rattle.stated_history.specs.declared.Said.{Said}
use Rattle.stated_history.specs.Walks.{AreToldIn}
use Rattle.stated_history.specs.declared.commits.Source.{Source}
use Rattle.stated_history.proofs.Laws.{got_low, said_count, said_is, got_below}
use Rattle.transcript_fits.specs.Sessions.{IsSessionAt}
use Rattle.transcript_fits.proofs.Slices.{AreMarked, all_marked, marked_upto}

-- of what is told something is kept
pub said_of_told : (scripts : List (List ℕ)) (transcript : List ℕ) (said : List Said) (told : List Told) (k : ℕ) (t : Told) → AreSaid scripts transcript said told → slice_get told k ≡ Some t → (d : Said) × (slice_get said k ≡ Some d)
said_of_told scripts transcript said told k t are is =
    let count = said_count scripts transcript said told are in
    let low = got_below told k t is in
    got_low said k (omega (arith, count, low))

pub not_same : (a b : ℕ) → a ≢ b → (a == b) ≡ false
not_same a b apart = by (true_or_false (a == b))
  where
    by : ((a == b) ≡ true) ⊎ ((a == b) ≡ false) → (a == b) ≡ false
    by (inl same) = absurd (apart (eqb-true a b same))
    by (inr is) = is

module _ (s : Source) (told : List Told) (of_it : AreToldIn s told) (session begin many : ℕ) (at : IsSessionAt s.said.now session begin many) where
  session_of : (k : ℕ) (t : Told) → slice_get told k ≡ Some t → (d : Said) × ((slice_get s.said.now k ≡ Some d) × (t.session ≡ d.line.session))
  session_of k t is =
      let kept = said_of_told s.scripts.now s.transcript.now s.said.now told k t of_it.said_of is in
      (kept.0, (kept.1, (said_is s told k kept.0 t of_it kept.1 is).session))

  marked : AreMarked (λ (t : Told). t.session == session) begin many told
  marked = record {
    before = λ k t low is.
        let one = session_of k t is in
        let under = at.before k one.0 low one.1.0 in
        let same = one.1.1 in
        not_same t.session session (λ is_own. let no : ⊥ = omega (arith, under, same, is_own) in no);
    own = λ k t from low is.
        let one = session_of k t is in
        eq-eqb t.session session (one.1.1 ∙ at.own k one.0 from low one.1.0);
    behind = λ k t from is.
        let one = session_of k t is in
        let over = at.behind k one.0 from one.1.0 in
        let same = one.1.1 in
        not_same t.session session (λ is_own. let no : ⊥ = omega (arith, over, same, is_own) in no);
  }

  -- they stand one after another
  pub session_lines : told_of session told ≡ take many (drop begin told)
  session_lines = all_marked (λ (t : Told). t.session == session) begin many told marked

  pub session_upto : (i place : ℕ) → place ≡ begin + i → i ≤ many → told_of session (take place told) ≡ take i (drop begin told)
  session_upto i place is low = marked_upto (λ (t : Told). t.session == session) begin many i place told is marked low

-- items behind the first ones
pub got_behind : {A : Type 0} (xs : List A) (begin i place : ℕ) → place ≡ begin + i → slice_get (drop begin xs) i ≡ slice_get xs place
got_behind xs zero i place is = ap (slice_get xs) (let same : i ≡ place = omega (arith, is) in same)
got_behind [] (suc begin) i place is = refl
got_behind (x ∷ xs) (suc begin) i zero is = absurd (omega (arith, is))
got_behind (x ∷ xs) (suc begin) i (suc place) is = got_behind xs begin i place (omega (arith, is))

pub got_front : {A : Type 0} (xs : List A) (many i : ℕ) → i < many → slice_get (take many xs) i ≡ slice_get xs i
got_front xs zero i low = absurd (omega (arith, low))
got_front [] (suc many) i low = refl
got_front (x ∷ xs) (suc many) zero low = refl
got_front (x ∷ xs) (suc many) (suc i) low = got_front xs many i (omega (arith, low))

pub take_front : {A : Type 0} (xs : List A) (many i : ℕ) → i ≤ many → take i (take many xs) ≡ take i xs
take_front xs many zero low = refl
take_front xs zero (suc i) low = absurd (omega (arith, low))
take_front [] (suc many) (suc i) low = refl
take_front (x ∷ xs) (suc many) (suc i) low = ap (λ ys. x ∷ ys) (take_front xs many i (omega (arith, low)))
