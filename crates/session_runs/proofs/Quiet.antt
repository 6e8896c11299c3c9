-- While a transaction stands, its session makes no change, whatever the store tells.
use Rattle.std.proofs.Common.{◌≡◌, ◌≢◌, ◌∙◌, ℕ, ◌+◌, ◌==◌, List, [], ◌∷◌, ◌++◌, length, take, drop, Bool, true, false, cond, Option, Some, None, Result, Ok, refl, sym, ap, subst, arith, eqb-true, length-append}
use Rattle.std.specs.List.{AllByRecursion}
use Rattle.std.proofs.lemmas.List.{drop-append-le}
use Rattle.std.proofs.Math.Seq.{take-append_seam, take-length}
use mathlib.Core.List.{IsPrefix}
use Rattle.history.specs.Acts.{Act, act_of}
use Rattle.history.specs.Answers as old
use Rattle.history.specs.Commit.{Fixed, Transaction}
use Rattle.history.specs.CommitRows.{own_after}
use Rattle.history.specs.History.{History}
use Rattle.history.specs.Lines.{Line}
use Rattle.history.specs.Own.{Numbered, fault, own_events}
use Rattle.history.specs.Sessions.{Names, SessionState}
use Rattle.history.proofs.Laws.{HasQuiet, IsActIn, IsAskedIn, IsNoChange, IsQuiet, act_of-in, quiet_begun, quiet_marked, seen_quiet}
use Rattle.history.proofs.Quiet.{IsQuietEvent}
use Rattle.session_openings.specs.Bodies.{body_of}
use Rattle.session_openings.specs.Caused.{IsCaused, IsCausedAct, abort_made, begin_made, by_act, by_line, by_memory, commit_made, open_made, open_none, read_cut, read_failing, read_given, read_spoilt, resize_apart, resize_failing, resize_made, resize_much, resize_spoilt, resolve_made, resolve_none, view_made, write_kept, write_made}
use Rattle.session_openings.specs.CommitCauses.{IsCausedCommit, all_made, for_bytes, for_failure, for_memory, for_memory_first, for_read, for_shape, for_stores}
use Rattle.session_openings.specs.declared.Body.{Body}
use Rattle.session_openings.specs.declared.Body.TheVariants.{Memory}

-- where a transaction stands then, no change was added
abbrev pub IsQuietRow : ℕ → ℕ → History → Option Transaction → List Numbered → Type 0
IsQuietRow owner seen events None own = Unit {0}
IsQuietRow owner seen events (Some t) own = IsQuiet owner seen events t × AllByRecursion IsNoChange own

module _ (owner seen : ℕ) (events : History) where
  still_quiet : (t : Option Transaction) (own : List Numbered) → HasQuiet owner seen events t → AllByRecursion IsNoChange own → IsQuietRow owner seen events t own
  still_quiet None own quiet none = tt
  still_quiet (Some t) own quiet none = (quiet, none)

  outside_quiet : (t : Option Transaction) (own : List Numbered) → t ≡ None → IsQuietRow owner seen events t own
  outside_quiet t own none = subst (λ u. IsQuietRow owner seen events u own) (sym none) tt

  left_quiet : (b : Bool) (t : Transaction) (own : List Numbered) → IsQuiet owner seen events t → (b ≡ true → AllByRecursion IsNoChange own) → IsQuietRow owner seen events (cond b (Some t) None) own
  left_quiet true t own quiet none = (quiet, none refl)
  left_quiet false t own quiet none = tt

  fault_alone : (number count : ℕ) (mount : List ℕ) (own : List Numbered) → (count == 0) ≡ true → AllByRecursion IsNoChange (take count own ++ record { number = number; event = fault owner mount } ∷ [])
  fault_alone number count mount own none =
      let zero_is : count ≡ 0 = eqb-true count 0 none in
      subst (λ k. AllByRecursion IsNoChange (take k own ++ record { number = number; event = fault owner mount } ∷ [])) (sym zero_is) ((λ change. change), tt)

  -- behind a commit
  commit_quiet : (fixed : Fixed) (t : Transaction) (left : Option Transaction) (answer : old.Body) (own : List Numbered) → IsCausedCommit fixed owner events t left answer own → body_of answer ≢ Memory → IsQuiet owner seen events t → IsQuietRow owner seen events left own
  commit_quiet fixed t left answer own (for_read met) other quiet = tt
  commit_quiet fixed t left answer own (for_shape free shrunk) other quiet = tt
  commit_quiet fixed t left answer own (for_stores free uncut split) other quiet = tt
  commit_quiet fixed t left answer own (for_bytes may) other quiet = (quiet, tt)
  commit_quiet fixed t left answer own (all_made n may) other quiet = tt
  commit_quiet fixed t left answer own (for_failure n count mount part changed) other quiet = left_quiet (count == 0) t _ quiet (fault_alone (n + count + 1) count mount (own_after fixed owner events n t))
  commit_quiet fixed t left answer own (for_memory n count part) other quiet = absurd (other refl)
  commit_quiet fixed t left answer own for_memory_first other quiet = absurd (other refl)

  -- behind an act of the session's transaction, or outside of one
  act_quiet : (fixed : Fixed) (s : SessionState) (line : ℕ) (act : Act) (names : Names) (left : Option Transaction) (answer : old.Body) (own : List Numbered) → IsCausedAct fixed owner events s line act names left answer own → body_of answer ≢ Memory → s.seen ≡ seen
      → IsActIn s.transaction act → HasQuiet owner seen events s.transaction → IsQuietRow owner seen events left own
  act_quiet fixed s line act names left answer own (open_made refs count known opened made) other at fits quiet = outside_quiet s.transaction _ fits
  act_quiet fixed s line act names left answer own (open_none told refusal) other at fits quiet = outside_quiet s.transaction _ fits
  act_quiet fixed s line act names left answer own view_made other at fits quiet = still_quiet s.transaction [] quiet tt
  act_quiet fixed s line act names left answer own (read_given {view = view} {marks = marks} words marked inside count) other at fits quiet =
      still_quiet left [] (subst (λ n. HasQuiet owner n events left) at (quiet_marked owner s.seen events line s.transaction view words marks marked (subst (λ n. HasQuiet owner n events s.transaction) (sym at) quiet))) tt
  act_quiet fixed s line act names left answer own (read_cut shrunk) other at fits quiet = still_quiet s.transaction [] quiet tt
  act_quiet fixed s line act names left answer own read_spoilt other at fits quiet = still_quiet s.transaction [] quiet tt
  act_quiet fixed s line act names left answer own (read_failing before added fetched) other at fits quiet = still_quiet s.transaction _ quiet ((λ change. change), tt)
  act_quiet fixed s line act names left answer own (write_kept {t = t}) other at fits quiet =
      let old_quiet : IsQuiet owner seen events t = subst (HasQuiet owner seen events) fits quiet in
      (record { begun = old_quiet.begun; low = old_quiet.low; marked = old_quiet.marked; quiet = old_quiet.quiet }, tt)
  act_quiet fixed s line act names left answer own (write_made commit) other at fits quiet = tt
  act_quiet fixed s line act names left answer own (begin_made {mode = mode}) other at fits quiet = (quiet_begun owner seen events line mode, tt)
  act_quiet fixed s line act names left answer own (commit_made {t = t} {left = u} {answer = given} {own = added} commit) other at fits quiet = commit_quiet fixed t u given added commit other (subst (HasQuiet owner seen events) fits quiet)
  act_quiet fixed s line act names left answer own abort_made other at fits quiet = tt
  act_quiet fixed s line act names left answer own (resize_made before added may) other at fits quiet = outside_quiet s.transaction _ fits
  act_quiet fixed s line act names left answer own (resize_much many) other at fits quiet = outside_quiet s.transaction _ fits
  act_quiet fixed s line act names left answer own (resize_apart few split) other at fits quiet = outside_quiet s.transaction _ fits
  act_quiet fixed s line act names left answer own (resize_spoilt may) other at fits quiet = outside_quiet s.transaction _ fits
  act_quiet fixed s line act names left answer own (resize_failing before added may on_mount) other at fits quiet = outside_quiet s.transaction _ fits
  act_quiet fixed s line act names left answer own (resolve_made m low high renewed) other at fits quiet = outside_quiet s.transaction _ fits
  act_quiet fixed s line act names left answer own (resolve_none m low high renewed) other at fits quiet = outside_quiet s.transaction _ fits

  -- behind a line that isn't answered by want of memory
  pub line_quiet : (fixed : Fixed) (s : SessionState) (line : ℕ) (asked : Line) (names : Names) (t : Option Transaction) (answer : Body) (own : List Numbered) → IsCaused fixed owner events s line asked names t answer own → answer ≢ Memory → s.seen ≡ seen
      → HasQuiet owner seen events s.transaction → IsQuietRow owner seen events t own
  line_quiet fixed s line asked names t answer own (by_line refused) other at quiet = still_quiet s.transaction [] quiet tt
  line_quiet fixed s line asked names t answer own (by_act {act = act} {answer = given} is cause) other at quiet =
      act_quiet fixed s line act names t given own cause other at (subst (IsAskedIn s.transaction) is (act_of-in s.names s.transaction asked)) quiet
  line_quiet fixed s line asked names t answer own by_memory other at quiet = absurd (other refl)

-- what was quiet as far as it was seen is so in a longer history
pub quiet_longer : (owner : ℕ) (seen later : History) (t : Option Transaction) → IsPrefix seen later → HasQuiet owner (length seen) seen t → HasQuiet owner (length seen) later t
quiet_longer owner seen later None front quiet = tt
quiet_longer owner seen later (Some t) front quiet =
    let same : take (length seen) seen ≡ take (length seen) later = take-length seen ∙ sym (ap (take (length seen)) (sym front.1) ∙ take-append_seam seen front.0) in
    record { begun = quiet.begun; low = quiet.low; marked = quiet.marked; quiet = subst (λ h. AllByRecursion (IsQuietEvent owner) (drop quiet.begun h)) same quiet.quiet }

pub prefix_length : (seen later : History) → IsPrefix seen later → (n : ℕ) × (length later ≡ length seen + n)
prefix_length seen later front = (length front.0, ap length (sym front.1) ∙ length-append seen front.0)

-- a transaction that was quiet as far as its session had seen, and behind which no change of its own was added, is quiet as far as is seen then
pub quiet_seen : (owner : ℕ) (seen later : History) (t : Transaction) → IsPrefix seen later → IsQuiet owner (length seen) later t → AllByRecursion IsNoChange (own_events owner (length seen + 1) (drop (length seen) later)) → IsQuiet owner (length later) later t
quiet_seen owner seen later t front quiet none =
    let size = (prefix_length seen later front).1 in
    let on = seen_quiet owner (length seen) later t (omega (arith, size)) quiet (length later) (omega (arith, size)) (omega arith) (subst (λ h. AllByRecursion IsNoChange (own_events owner (length seen + 1) (drop (length seen) h))) (sym (take-length later)) none) in
    subst (λ h. IsQuiet owner (length h) h t) (take-length later) on

pub quiet_behind : (owner : ℕ) (seen later : History) (t : Option Transaction) → IsPrefix seen later → IsQuietRow owner (length seen) later t (own_events owner (length seen + 1) (drop (length seen) later)) → HasQuiet owner (length later) later t
quiet_behind owner seen later None front quiet = tt
quiet_behind owner seen later (Some t) front quiet = quiet_seen owner seen later t front quiet.0 quiet.1
