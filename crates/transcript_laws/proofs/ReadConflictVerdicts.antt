-- The verdicts on the transcript with a conflict, and on those whose conflict has wrong numbers.
use Rattle.std.proofs.Common.{◌≡◌, ◌≢◌, ◌<◌, ℕ, ◌+◌, List, [], ◌∷◌, ◌++◌, codes, length, true, false, Option, Some, None, inl, inr, refl, sym, ap, subst, ◌∙◌, arith}
use Rattle.std.specs.Prelude.{◌⊎◌, option_and_then}
use Rattle.std.specs.List.{AllByRecursion}
use Rattle.serde_json.specs.Data.{Data}
use Rattle.serde_json.specs.Find.{get}
use Rattle.json_forms.specs.Numbers.{natural}
use Rattle.answer_data.specs.Answers.{answer_data}
use Rattle.history.specs.declared.event.Event.{Event}
use Rattle.history.specs.Acts.{Act, opens, binds, reads, stages, writes, begins, commits, aborts, resizes, resolves}
use Rattle.history.specs.Answers as body
use Rattle.history.specs.Answers.{Body}
use Rattle.history.specs.Commit.{Key, Transaction}
use Rattle.history.specs.History.{History}
use Rattle.transcript_laws.specs.Transcript.{ScriptLine, Told, IsCut}
use Rattle.transcript_laws.specs.Windows.{Window, window_of}
use Rattle.transcript_laws.specs.Standings.{Standing, first_standing, standing_step}
use Rattle.transcript_laws.specs.Fitting.{open_answer, viewed, read, read_failed, staged, written, write_failed, begun, committed, conflicts, commit_failed, aborted, IsActAnswer, IsAnswer, printed_at, IsFitting, IsAnswered, IsConflictTold}
use Rattle.transcript_laws.specs.Unchecked.{is_unchecked, IsFirstUnchecked, by_script, by_memory}
use Rattle.transcript_laws.specs.Verdicts.{IsVerdict, is_yes, is_no, IsChecked, yes, no, part_4}
use Rattle.transcript_laws.specs.ReadConflict.{scripts, transcript_of, text_4, late_4, same_4, own_4}
use Rattle.transcript_laws.specs.ReadConflictTold.{object_4, conflict_told, told_1, told_2, told_3, told_with, event_1, events}
use Rattle.transcript_laws.proofs.Cuts.{among, uncut}
use Rattle.transcript_laws.proofs.ReadConflict.{row_fits, read_3, standing_in, acts_4, stands_1, stands_2, stands_3, numbered, claimed}
use Rattle.transcript_laws.proofs.ReadConflictAsks.{checked, no_memory, is_cut, late_cut, same_cut, own_cut}

none_first : (line : ScriptLine) → IsFirstUnchecked scripts line → ⊥
none_first line first =
    let is : is_unchecked line ≡ false = among (λ l. is_unchecked l ≡ false) first.earlier first.later line (subst (AllByRecursion (λ l. is_unchecked l ≡ false)) first.lines checked) in
    let both : true ≡ false = sym first.unchecked ∙ is in
    cc

module _ (text : List ℕ) (now from : ℕ) (cut : IsCut scripts (transcript_of text) (told_with (conflict_told text now from))) where
  is_checked : IsChecked scripts (transcript_of text)
  is_checked line (by_script first) = none_first line first
  is_checked line (by_memory all off) = uncut scripts (transcript_of text) _ cut (no_memory text now from) line off

-- {"events":2,"legal":true}
pub fits_verdict : IsVerdict scripts (transcript_of text_4) (yes 2)
fits_verdict = is_yes (is_checked text_4 2 1 is_cut) row_fits

-- the answers that a commit may have
abbrev window : Window
window = record { from = 1; upto = 2 }

abbrev CommitTold : Act → Body → Type 0
CommitTold (opens name leaves build) answer = Unit {0}
CommitTold (binds name view) answer = Unit {0}
CommitTold (reads view down) answer = Unit {0}
CommitTold (stages t view words) answer = Unit {0}
CommitTold (writes view words) answer = Unit {0}
CommitTold (begins mode) answer = Unit {0}
CommitTold (commits t) answer =
    ((n : ℕ) × (answer ≡ body.committed (n ∷ [])))
    ⊎ (((key : Key) × (read : ℕ) × (now : ℕ) × IsConflictTold events 0 t key read now × (answer ≡ body.conflict key read now))
    ⊎ ((n : ℕ) × (answer ≡ body.store_failed (n + 1) [] None)))
CommitTold aborts answer = Unit {0}
CommitTold (resizes array shape) answer = Unit {0}
CommitTold (resolves name view array) answer = Unit {0}

commit_told : (t : Transaction) (act : Act) (answer : Body) → IsActAnswer events 0 window (Some t) 4 [] act answer → CommitTold act answer
commit_told t act answer (open_answer is) = tt
commit_told t act answer viewed = tt
commit_told t act answer (read seen) = tt
commit_told t act answer (read_failed n fetched) = tt
commit_told t act answer staged = tt
commit_told t act answer (written n) = tt
commit_told t act answer (write_failed n changed) = tt
commit_told t act answer begun = tt
commit_told t act answer (committed n) = inl (n, refl)
commit_told t act answer (conflicts {u} {key} {read} {now} is) = inr (inl (key, read, now, is, refl))
commit_told t act answer (commit_failed n changed) = inr (inr (n, refl))
commit_told t act answer aborted = tt

-- another session's event that touches the chunk is event 2
only_second : (before : History) (e : Event) (later : History) (now : ℕ) → events ≡ before ++ e ∷ later → now ≡ length before + 1 → e.owner ≢ 0 → now ≡ 2
only_second [] e later now parts number other = let first : event_1 ≡ e = cc in absurd (other (sym (ap (λ (x : Event). x.owner) first)))
only_second (a ∷ []) e later now parts number other = number
only_second (a ∷ b ∷ []) e later now parts number other = absurd (cc)
only_second (a ∷ b ∷ c ∷ before) e later now parts number other = absurd (cc)

-- the numbers that an object tells of a conflict
abbrev now_in : Data → Option Data
now_in d = option_and_then (get (codes "now")) (get (codes "conflict") d)

abbrev read_in : Data → Option Data
read_in d = option_and_then (get (codes "read")) (get (codes "conflict") d)

committed_none : (n : ℕ) → now_in (answer_data (printed_at 4 (body.committed (n ∷ [])))) ≡ None
committed_none n = refl

failed_none : (n : ℕ) → now_in (answer_data (printed_at 4 (body.store_failed (n + 1) [] None))) ≡ None
failed_none n = refl

same_number : (n m : ℕ) → Some (natural n) ≡ Some (natural m) → n ≡ m
same_number n m is = cc

no_number : (n : ℕ) → Some (natural n) ≡ None → ⊥
no_number n is = cc

-- these numbers are none of a conflict with event 2, which must lie behind what was read
abbrev AreWrong : ℕ → ℕ → Type 0
AreWrong now from = now ≡ 2 → from < now → ⊥

not_told : (now from : ℕ) → AreWrong now from → (answer : Body) → object_4 now from ≡ answer_data (printed_at 4 answer) → CommitTold (commits read_3) answer → ⊥
not_told now from wrong answer object (inl (n, same)) =
    no_number now (ap now_in object ∙ ap (λ b. now_in (answer_data (printed_at 4 b))) same ∙ committed_none n)
not_told now from wrong answer object (inr (inl (k, older, newer, is, same))) =
    let second : newer ≡ 2 = only_second is.now_at.touch.before is.now_at.touch.event is.now_at.touch.later newer is.now_at.touch.parts is.now_at.touch.number is.now_at.other in
    let told_now : now ≡ newer = same_number now newer (ap now_in object ∙ ap (λ b. now_in (answer_data (printed_at 4 b))) same) in
    let told_read : from ≡ older = same_number from older (ap read_in object ∙ ap (λ b. read_in (answer_data (printed_at 4 b))) same) in
    wrong (told_now ∙ second) (subst (λ n. n < now) (sym told_read) (subst (λ n. older < n) (sym told_now) is.later))
not_told now from wrong answer object (inr (inr (n, same))) =
    no_number now (ap now_in object ∙ ap (λ b. now_in (answer_data (printed_at 4 b))) same ∙ failed_none n)

stands : standing_in (Some read_3) ≡ standing_step events (standing_step events (standing_step events first_standing told_1) told_2) told_3
stands =
    sym (ap (λ (s : Standing). standing_step events (standing_step events s told_2) told_3) stands_1
    ∙ ap (λ (s : Standing). standing_step events s told_3) stands_2 ∙ stands_3)

module _ (text : List ℕ) (now from : ℕ) (wrong : AreWrong now from) (cut : IsCut scripts (transcript_of text) (told_with (conflict_told text now from))) where
  abbrev conflict : Told
  conflict = conflict_told text now from

  not_fourth : (s : Standing) → standing_in (Some read_3) ≡ s → IsFitting events (window_of 2 s.transaction (told_1 ∷ told_2 ∷ told_3 ∷ []) conflict []) s conflict → ⊥
  not_fourth s is fitting =
      let f : IsFitting events window (standing_in (Some read_3)) conflict = subst (λ (u : Standing). IsFitting events (window_of 2 u.transaction (told_1 ∷ told_2 ∷ told_3 ∷ []) conflict []) u conflict) (sym is) fitting in
      not_told now from wrong f.answer f.object (commit_told read_3 (commits read_3) f.answer (subst (λ asked. IsAnswer events 0 window (Some read_3) 4 [] asked f.answer) acts_4 f.may))

  not_answered : IsAnswered (told_with conflict) events → ⊥
  not_answered is = not_fourth _ stands (is 0).1.1.1.0

  wrong_verdict : IsVerdict scripts (transcript_of text) (no 4)
  wrong_verdict = is_no (is_checked text now from cut) (part_4 (record { told = _; history = events; stated = record { cut = cut; numbered = numbered text now from; claimed = claimed text now from }; fails = not_answered }))

-- {"legal":false,"part":4}
pub late_verdict : IsVerdict scripts (transcript_of late_4) (no 4)
late_verdict = wrong_verdict late_4 1 1 (λ now later. omega (arith, now)) late_cut

pub same_verdict : IsVerdict scripts (transcript_of same_4) (no 4)
same_verdict = wrong_verdict same_4 2 2 (λ now later. omega (arith, later)) same_cut

pub own_verdict : IsVerdict scripts (transcript_of own_4) (no 4)
own_verdict = wrong_verdict own_4 1 0 (λ now later. omega (arith, now)) own_cut
