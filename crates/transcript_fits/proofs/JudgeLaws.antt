-- The lines of a session, judged one after another.
use Rattle.std.proofs.Common.{◌≡◌, ◌↔◌, ◌<◌, ◌≤◌, ◌+◌, ℕ, zero, suc, List, [], ◌∷◌, true, false, take, drop, length, ap, subst, arith}
use Rattle.history.specs.History.{History}
use Rattle.stated_history.specs.ToldNumbers.{told_of}
use Rattle.stated_history.specs.Transcript.{Told}
use Rattle.stated_history.specs.Walks.{AreToldIn}
use Rattle.transcript_fits.specs.Judges.{history_of}
use Rattle.transcript_fits.specs.LineFits.{IsLineFit}
use Rattle.transcript_fits.specs.Pendings.{AreAwaited, HasAdded, Holds, IsSessionJudged, IsSo, MayHold}
use Rattle.transcript_fits.specs.Sessions.{AreFittingUpTo, IsFittingAt, IsSessionAt}
use Rattle.transcript_fits.specs.Stands.{IsStandAt}
use Rattle.transcript_fits.specs.declared.judge.Judge.{Judge}
use Rattle.transcript_fits.specs.declared.line_fit.LineFit.{LineFit}
use Rattle.transcript_fits.specs.declared.line_fit.LineFit.TheVariants.{Unfit, Fits, IfRefused, IfMet}
use Rattle.transcript_fits.specs.declared.pending.Pending.{Pending}
use Rattle.transcript_fits.specs.declared.stand.Stand.{Stand}
use Rattle.transcript_fits.proofs.Fitted.{all_fit, fit_all, fit_fewer, fit_more}
use Rattle.transcript_fits.proofs.SessionLaws.{session_lines}

-- what a line waits for is so exactly where it fits
pub so_fits : (h : History) (A : Type 0) (fit : LineFit) → IsLineFit h A fit → A ↔ IsSo h fit
so_fits h A Unfit is = (is, λ none. absurd none)
so_fits h A Fits is = (λ a. tt, λ so. is)
so_fits h A (IfRefused question) is = is
so_fits h A (IfMet waiting) is = is

-- a line more that is waited for
awaited_more : (h : History) (old new next : Pending) (before one : Type 0) (fit : LineFit) → IsLineFit h one fit → Holds h new ↔ (Holds h old × before) → Holds h next ↔ (Holds h new × IsSo h fit) → Holds h next ↔ (Holds h old × (before × one))
awaited_more h old new next before one fit is first more = (
  λ holds. let a = more.0 holds in let b = first.0 a.0 in (b.0, (b.1, (so_fits h one fit is).1 a.1)),
  λ all. more.1 (first.1 (all.0, all.1.0), (so_fits h one fit is).0 all.1.1),
)

module _ (j : Judge) (session begin many : ℕ) (first : Pending) where
  -- behind the first lines of a session
  pub record AreJudgedUpTo (at : ℕ) (stand : Stand) (pending : Pending) : Type 0 where
    pub stands : IsStandAt j session begin at stand
    pub may : MayHold (history_of j) pending
    pub awaited : AreAwaited j session first pending at

  -- behind none of them
  pub judged_first : AreAwaited j session first first 0
  judged_first = λ told of_it. (λ holds. (holds, λ k low. absurd (omega (arith, low))), λ all. all.0)

  -- one line more that may be answered so
  pub judged_more : (at : ℕ) (old new : Pending) (fit : LineFit) → AreAwaited j session first old at
      → ((told : List Told) → AreToldIn j.source.now told → IsLineFit (history_of j) (IsFittingAt (history_of j) (told_of session told) at) fit)
      → HasAdded (history_of j) fit old new true → AreAwaited j session first new (at + 1)
  judged_more at old new fit awaited fits added = λ told of_it.
      let h = history_of j in
      let ts = told_of session told in
      let all = awaited_more h first old new (AreFittingUpTo h ts at) (IsFittingAt h ts at) fit (fits told of_it) (awaited told of_it) added in (
        λ holds. let a = all.0 holds in (a.0, fit_more h ts at a.1.0 a.1.1),
        λ a. all.1 (a.0, (fit_fewer h ts at a.1, a.1 at (omega arith))),
      )

  pub judged_none : (at : ℕ) (fit : LineFit) (old new : Pending) → at < many → IsSessionAt j.source.now.said.now session begin many
      → ((told : List Told) → AreToldIn j.source.now told → IsLineFit (history_of j) (IsFittingAt (history_of j) (told_of session told) at) fit) → fit ≡ Unfit → IsSessionJudged j session old new false
  judged_none at fit old new low here fits unfit = λ told of_it are.
      let never = subst (IsLineFit (history_of j) (IsFittingAt (history_of j) (told_of session told) at)) unfit (fits told of_it) in
      never (fit_all (history_of j) (told_of session told) (at + 1) are at (omega arith))

  pub judged_all : (at : ℕ) (pending : Pending) → many ≤ at → IsSessionAt j.source.now.said.now session begin many → AreAwaited j session first pending at → IsSessionJudged j session first pending true
  judged_all at pending all here awaited = λ told of_it.
      let h = history_of j in
      let ts = told_of session told in
      let long : length ts ≤ at = let one = shorter many (drop begin told) in let lines = ap length (session_lines j.source.now told of_it session begin many here) in omega (arith, one, lines, all) in
      let is = awaited told of_it in (
        λ holds. let a = is.0 holds in (a.0, all_fit h ts at long a.1),
        λ a. is.1 (a.0, fit_all h ts at a.1),
      )
    where
      shorter : (n : ℕ) (xs : List Told) → length (take n xs) ≤ n
      shorter zero xs = omega arith
      shorter (suc n) [] = omega arith
      shorter (suc n) (x ∷ xs) = let rest = shorter n xs in omega (arith, rest)
