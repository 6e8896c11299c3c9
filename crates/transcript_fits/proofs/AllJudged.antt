-- The sessions of a transcript, judged one after another.
use Rattle.std.proofs.Common.{◌≡◌, ◌≢◌, ◌↔◌, ◌∙◌, ◌⊎◌, inl, inr, ◌<◌, ◌≤◌, ◌+◌, ℕ, zero, suc, List, [], ◌∷◌, Bool, true, false, Some, length, sym, ap, subst, arith}
use Rattle.std.specs.Prelude.{IsTrue, ◌==◌}
use Rattle.std.specs.List.{slice_get}
use Rattle.cells.proofs.Laws.{less_or_not}
use Rattle.history.specs.Arrays.{known_after}
use Rattle.open_fits.specs.Fitting.{AreFitting, IsAnswered}
use Rattle.open_fits.specs.StoredPuts.{AreStored}
use Rattle.stated_history.specs.ToldNumbers.{told_of}
use Rattle.stated_history.specs.ToldStandings.{first_standing}
use Rattle.stated_history.specs.Transcript.{Told}
use Rattle.stated_history.specs.declared.Said.{Said}
use Rattle.stated_history.proofs.Laws.{known-outline}
use Rattle.stated_history.specs.Walks.{AreInOrder, AreToldIn, outlined}
use Rattle.stated_history.proofs.Laws.{cut_in_order, got_below, got_low, said_is}
use Rattle.transcript_fits.specs.Judges.{AreCounts, IsJudge, IsJudgedSource, history_of}
use Rattle.transcript_fits.specs.Pendings.{AreJudgedBefore, Holds, IsSessionJudged, MayHold}
use Rattle.transcript_fits.specs.Sessions.{IsSessionAt}
use Rattle.transcript_fits.specs.declared.judge.Judge.{Judge}
use Rattle.transcript_fits.specs.declared.pending.Pending.{Pending}
use Rattle.transcript_fits.proofs.SessionLaws.{not_same, said_of_told}
use Rattle.transcript_fits.proofs.Slices.{none_marked}

-- a line that is kept has no session before that of an earlier one
low_from : (from : ℕ) (said : List Said) (k : ℕ) (d : Said) → AreInOrder from said → slice_get said k ≡ Some d → from ≤ d.line.session
low_from from [] k d are is = absurd (cc)
low_from from (s ∷ said) zero d are is = let same : s ≡ d = cc in subst (λ (x : Said). from ≤ x.line.session) same are.0
low_from from (s ∷ said) (suc k) d are is = let one = are.0 in let rest = low_from s.line.session said k d are.1 is in omega (arith, one, rest)

in_order : (from : ℕ) (said : List Said) (k m : ℕ) (s r : Said) → AreInOrder from said → k ≤ m → slice_get said k ≡ Some s → slice_get said m ≡ Some r → s.line.session ≤ r.line.session
in_order from [] k m s r are low at there = absurd (cc)
in_order from (q ∷ said) zero zero s r are low at there = let one : q ≡ s = cc in let two : q ≡ r = cc in let same = ap (λ (x : Said). x.line.session) (sym one ∙ two) in omega (arith, same)
in_order from (q ∷ said) zero (suc m) s r are low at there = let one : q ≡ s = cc in subst (λ (x : Said). x.line.session ≤ r.line.session) one (low_from q.line.session said m r are.1 there)
in_order from (q ∷ said) (suc k) zero s r are low at there = absurd (omega (arith, low))
in_order from (q ∷ said) (suc k) (suc m) s r are low at there = in_order q.line.session said k m s r are.1 (omega (arith, low)) at there

-- what lines are judged by is there where a transcript states what is judged
pub judge_is : (j : Judge) → IsJudgedSource j.source.now j.acts.now j.events.now j.store.now → AreCounts (history_of j) j.counts.now → AreStored (outlined j.source.now) j.stored.now → IsJudge j
judge_is j is counts stored = record {
  source = is.source;
  acts = is.acts_kept;
  told = is.told;
  told_in = is.told_in;
  numbered = is.numbered;
  claimed = is.claimed;
  outlined = is.outlined;
  stated = is.stated;
  store = is.kept;
  counts = counts;
  stored = record { each = λ a k known. stored.each a k (ap (λ h. known_after h a) (sym is.outlined) ∙ known-outline a j.events.now ∙ known) };
}

-- before the first session
pub none_judged : (j : Judge) (p : Pending) → MayHold (history_of j) p → Holds (history_of j) p → AreJudgedBefore j 0 0 p
none_judged j p may holds = record {
  may = may;
  before = λ k d low is. absurd (omega (arith, low));
  behind = λ k d low is. omega arith;
  fits = λ told of_it. (λ so other low. absurd (omega (arith, low)), λ all. holds);
}

module _ (j : Judge) (is : IsJudge j) where
  -- the lines of the next session
  pub session_here : (session place many : ℕ) (p : Pending) → AreJudgedBefore j session place p → place + many ≤ length j.source.now.said.now
      → ((k : ℕ) (d : Said) → place ≤ k → k < place + many → slice_get j.source.now.said.now k ≡ Some d → d.line.session ≡ session)
      → ((d : Said) → slice_get j.source.now.said.now (place + many) ≡ Some d → d.line.session ≢ session) → IsSessionAt j.source.now.said.now session place many
  session_here session place many p judged within own next = record {
    within = within;
    before = judged.before;
    own = own;
    behind = λ k d from there.
        let said = j.source.now.said.now in
        let below = got_below said k d there in
        let first = got_low said (place + many) (omega (arith, from, below)) in
        let low = judged.behind (place + many) first.0 (omega arith) first.1 in
        let over = above session first.0.line.session low (next first.0 first.1) in
        let after = in_order 0 said (place + many) k first.0 d (cut_in_order j.source.now.scripts.now j.source.now.transcript.now said is.source.cut) from first.1 there in
        omega (arith, over, after);
  }
    where
      above : (m n : ℕ) → m ≤ n → n ≢ m → m < n
      above m n low apart = by (less_or_not m n)
        where
          by : (m < n) ⊎ (n ≤ m) → m < n
          by (inl less) = less
          by (inr over) = absurd (apart (omega (arith, low, over)))

  pub next_judged : (session place many : ℕ) (old new : Pending) → AreJudgedBefore j session place old → IsSessionAt j.source.now.said.now session place many → MayHold (history_of j) new → IsSessionJudged j session old new true
      → AreJudgedBefore j (session + 1) (place + many) new
  next_judged session place many old new before here may judged = record {
    may = may;
    before = λ k d low there. by_place k d low there (less_or_not k place);
    behind = λ k d from there. let over = here.behind k d from there in omega (arith, over);
    fits = λ told of_it.
        let one = judged told of_it in
        let all = before.fits told of_it in (
          λ holds other low. let two = one.0 holds in by_other told other low (all.0 two.0) two.1 (less_or_not other session),
          λ each. one.1 (all.1 (λ other low. each other (omega (arith, low))), each session (omega arith)),
        );
  }
    where
      by_place : (k : ℕ) (d : Said) → k < place + many → slice_get j.source.now.said.now k ≡ Some d → (k < place) ⊎ (place ≤ k) → d.line.session < session + 1
      by_place k d low there (inl under) = let less = before.before k d under there in omega (arith, less)
      by_place k d low there (inr from) = let same = here.own k d from low there in omega (arith, same)

      by_other : (told : List Told) (other : ℕ) → other < session + 1 → ((n : ℕ) → n < session → AreFitting (history_of j) [] first_standing (told_of n told)) → AreFitting (history_of j) [] first_standing (told_of session told)
          → (other < session) ⊎ (session ≤ other) → AreFitting (history_of j) [] first_standing (told_of other told)
      by_other told other low each last (inl under) = each other under
      by_other told other low each last (inr from) = let same : session ≡ other = omega (arith, low, from) in subst (λ n. AreFitting (history_of j) [] first_standing (told_of n told)) same last

  -- a session of which a line doesn't fit
  pub one_wrong : (session : ℕ) (old new : Pending) → IsSessionJudged j session old new false → (told : List Told) → AreToldIn j.source.now told → IsTrue false ↔ IsAnswered told (history_of j)
  one_wrong session old new judged told of_it = (λ so. absurd (let clash : false ≡ true = so in cc), λ all. absurd (judged told of_it (all session)))

  -- nothing is told of sessions without a script
  no_lines : (other : ℕ) (told : List Told) → AreToldIn j.source.now told → length j.source.now.scripts.now ≤ other → told_of other told ≡ []
  no_lines other told of_it over = none_marked (λ (t : Told). t.session == other) told (λ k t there.
      let kept = said_of_told j.source.now.scripts.now j.source.now.transcript.now j.source.now.said.now told k t of_it.said_of there in
      let said = said_is j.source.now told k kept.0 t of_it kept.1 there in
      let same = said.session in
      let low = said.placed.session in
      not_same t.session other (λ own. let none : ⊥ = omega (arith, own, same, low, over) in none))

  -- all sessions
  pub all_sessions : (session place : ℕ) (p : Pending) (b : Bool) → length j.source.now.scripts.now ≤ session → AreJudgedBefore j session place p → IsTrue b ↔ Holds (history_of j) p
      → (told : List Told) → AreToldIn j.source.now told → IsTrue b ↔ IsAnswered told (history_of j)
  all_sessions session place p b over before tells told of_it = (
    λ so other. by other ((before.fits told of_it).0 (tells.0 so)) (less_or_not other session),
    λ all. tells.1 ((before.fits told of_it).1 (λ other low. all other)),
  )
    where
      by : (other : ℕ) → ((n : ℕ) → n < session → AreFitting (history_of j) [] first_standing (told_of n told)) → (other < session) ⊎ (session ≤ other) → AreFitting (history_of j) [] first_standing (told_of other told)
      by other each (inl under) = each other under
      by other each (inr from) = subst (AreFitting (history_of j) [] first_standing) (sym (no_lines other told of_it (omega (arith, over, from)))) tt
