-- A session before its first line.
use Rattle.std.proofs.Common.{◌≡◌, ◌∙◌, ◌<◌, ◌≤◌, ◌+◌, ℕ, zero, suc, List, [], ◌∷◌, Some, take, refl, sym, ap, subst, arith}
use Rattle.std.specs.List.{AllByRecursion, slice_get}
use Rattle.history.specs.History.{History}
use Rattle.history.proofs.Laws.{none_is_none}
use Rattle.stated_history.specs.Standings.{IsSoundStanding, standing_of}
use Rattle.stated_history.specs.ToldNumbers.{told_of}
use Rattle.stated_history.specs.ToldStandings.{Standing, first_standing, standing}
use Rattle.stated_history.specs.Transcript.{Told}
use Rattle.stated_history.specs.Walks.{AreToldIn, IsReached, outlined}
use Rattle.stated_history.proofs.Laws.{said_is}
use Rattle.transcript_fits.specs.Judges.{history_of}
use Rattle.transcript_fits.specs.Sessions.{IsSessionAt}
use Rattle.transcript_fits.specs.Stands.{IsBegunAt, IsOwnOf, IsStandAt, IsThereStanding, ops_in}
use Rattle.transcript_fits.specs.declared.judge.Judge.{Judge}
use Rattle.transcript_fits.specs.declared.stand.Stand.{Stand}
use Rattle.transcript_fits.proofs.SessionLaws.{said_of_told, session_upto}

-- what holds of the items before a place
first_all : {A : Type 0} (P : A → Type 0) (n : ℕ) (xs : List A) → ((k : ℕ) (x : A) → k < n → slice_get xs k ≡ Some x → P x) → AllByRecursion P (take n xs)
first_all P zero xs each = tt
first_all P (suc n) [] each = tt
first_all P (suc n) (x ∷ xs) each = (each zero x (omega arith) refl, first_all P n xs (λ k y low is. each (suc k) y (omega (arith, low)) is))

first_there : (h : History) (upto : ℕ) → IsThereStanding h upto first_standing
first_there h upto = record { views = λ name view bound. absurd (none_is_none view bound); ops = tt }

module _ (j : Judge) (session begin many : ℕ) (here : IsSessionAt j.source.now.said.now session begin many) (stand : Stand) (same : stand.walk.session ≡ session) (first : standing_of stand.walk.standing ≡ first_standing) where
  module _ (told : List Told) (of_it : AreToldIn j.source.now told) where
    -- nothing is told of the session before its first line
    none_before : told_of stand.walk.session (take (begin + 0) told) ≡ []
    none_before = ap (λ n. told_of n (take (begin + 0) told)) same ∙ session_upto j.source.now told of_it session begin many here 0 (begin + 0) refl (omega arith)

    before_low : AllByRecursion (λ (t : Told). t.session ≤ stand.walk.session) (take (begin + 0) told)
    before_low = first_all (λ (t : Told). t.session ≤ stand.walk.session) (begin + 0) told (λ k t low is.
        let kept = said_of_told j.source.now.scripts.now j.source.now.transcript.now j.source.now.said.now told k t of_it.said_of is in
        let under = here.before k kept.0 (omega (arith, low)) kept.1 in
        let own = (said_is j.source.now told k kept.0 t of_it kept.1 is).session in
        omega (arith, under, own, same))

  first_reached : IsReached j.source.now (begin + 0) stand.walk
  first_reached = λ told of_it. record {
    stands = first ∙ ap (standing (outlined j.source.now)) (sym (none_before told of_it));
    before = before_low told of_it;
  }

  pub first_stands : IsSoundStanding stand.walk.standing → ((history : History) (upto : ℕ) → IsOwnOf history upto [] stand.own) → stand.upto ≡ 0 → IsStandAt j session begin 0 stand
  first_stands sound own upto = record {
    session_is = same;
    reached = first_reached;
    sound = sound;
    within = omega (arith, upto);
    there = subst (IsThereStanding (history_of j) stand.upto) (sym first) (first_there (history_of j) stand.upto);
    own = subst (λ (s : Standing). IsOwnOf (history_of j) stand.upto (ops_in s.transaction) stand.own) (sym first) (own (history_of j) stand.upto);
    begun = λ told of_it. subst (λ (s : Standing). IsBegunAt (told_of session told) begin (begin + 0) stand.begun s.transaction) (sym first) (λ u stands. absurd (none_is_none u stands));
    earlier = λ told t of_it there. omega (arith, upto);
  }
