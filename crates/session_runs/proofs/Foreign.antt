-- Each conflict that a session answers is with another session, whatever the store tells.
use Rattle.std.proofs.Common.{◌≡◌, ◌≢◌, ◌∙◌, ℕ, ◌+◌, List, [], ◌∷◌, ◌++◌, length, take, drop, false, Option, Some, None, Result, Ok, Err, refl, sym, ap, subst, arith, append_assoc, append-nil}
use Rattle.std.specs.Prelude.{IsTrue}
use Rattle.std.specs.List.{AllByRecursion}
use mathlib.Core.List.{IsPrefix}
use Rattle.history.specs.declared.Damage.{Damage}
use Rattle.history.specs.Acts.{Act, act_of}
use Rattle.history.specs.Answers as old
use Rattle.history.specs.Commit.{Fixed, Key, Transaction}
use Rattle.history.specs.History.{History}
use Rattle.history.specs.Lines.{Line}
use Rattle.history.specs.Own.{Numbered, own_events}
use Rattle.history.specs.Sessions.{Names, SessionState}
use Rattle.history.specs.Steps.{as_written}
use Rattle.history.proofs.Laws.{HasQuiet, IsActIn, IsAskedIn, IsAskedSettled, IsForeignConflict, IsNoChange, IsQuiet, IsSettled, act_of-in, act_of-settled, met_is_foreign}
use Rattle.session_openings.proofs.Laws.{damage_no_conflict, metadata_no_conflict}
use Rattle.session_openings.specs.Bodies.{body_of}
use Rattle.session_openings.specs.Caused.{IsCaused, IsCausedAct, IsOpenRefusal, abort_made, begin_made, by_act, by_line, by_memory, commit_made, open_made, open_none, read_cut, read_failing, read_given, read_spoilt, resize_apart, resize_failing, resize_made, resize_much, resize_spoilt, resolve_made, resolve_none, view_made, write_kept, write_made}
use Rattle.session_openings.specs.CommitCauses.{IsCausedCommit, all_made, for_bytes, for_failure, for_memory, for_memory_first, for_read, for_shape, for_stores}
use Rattle.session_openings.specs.declared.Answer.{Answer}
use Rattle.session_openings.specs.declared.Body.{Body}
use Rattle.session_openings.specs.declared.Body.TheVariants as printed
use Rattle.session_runs.specs.Causes.{AreCaused, blank_given, last_given, line_given, none_given}
use Rattle.session_runs.proofs.Quiet.{line_quiet, quiet_behind, quiet_longer, quiet_seen}

-- an answer that is a conflict names another session's change, as far as some line has seen
abbrev pub IsForeignSeen : ℕ → History → Body → Type 0
IsForeignSeen owner seen (printed.Conflict key read now) = (h : History) × IsPrefix h seen × IsForeignConflict owner h key read now
IsForeignSeen owner seen answer = Unit {0}

module _ (owner : ℕ) (seen : History) where
  -- so is each that is none
  unlike_foreign : (answer : Body) → ((key : Key) (read now : ℕ) → answer ≢ printed.Conflict key read now) → IsForeignSeen owner seen answer
  unlike_foreign (printed.Conflict key read now) other = absurd (other key read now refl)
  unlike_foreign answer other = tt

  spoilt_foreign : (key : Key) (cause : Damage) → IsForeignSeen owner seen (body_of (old.damaged key cause))
  spoilt_foreign key cause = unlike_foreign (body_of (old.damaged key cause)) (λ other was now. damage_no_conflict key cause other was now)

  other_foreign : (answer : old.Body) → ((key : Key) (read now : ℕ) → answer ≢ old.conflict key read now) → IsForeignSeen owner seen (body_of answer)
  other_foreign (old.conflict key read now) other = absurd (other key read now refl)
  other_foreign (old.damaged key cause) other = spoilt_foreign key cause
  other_foreign (old.bad_metadata key why events) other = unlike_foreign (body_of (old.bad_metadata key why events)) (λ other was now. metadata_no_conflict key why events other was now)
  other_foreign answer other = tt

no_question : IsTrue false → ⊥
no_question e = absurd (cc)

module _ (fixed : Fixed) (owner : ℕ) (events : History) where
  -- one of a commit during whose transaction the session made no change
  commit_foreign : (t : Transaction) (left : Option Transaction) (answer : old.Body) (own : List Numbered) → IsCausedCommit fixed owner events t left answer own → (own ≡ [] → IsQuiet owner (length events) events t) → IsForeignSeen owner events (body_of answer)
  commit_foreign t left answer own (for_read {key = key} {read = read} {now = now} met) calm = (
    events,
    ([], append-nil events),
    record { chunk = met.conflict.chunk; named = met.conflict.named; foreign = met_is_foreign owner events t key read now met.conflict met.marked met.real (calm refl) },
  )
  commit_foreign t left answer own (for_shape free shrunk) calm = tt
  commit_foreign t left answer own (for_stores free uncut split) calm = tt
  commit_foreign t left answer own (for_bytes {key = key} {cause = cause} may) calm = spoilt_foreign owner events key cause
  commit_foreign t left answer own (all_made n may) calm = tt
  commit_foreign t left answer own (for_failure n count mount part changed) calm = tt
  commit_foreign t left answer own (for_memory n count part) calm = tt
  commit_foreign t left answer own for_memory_first calm = tt

  -- a write of its own reads nothing
  written_foreign : (cells : ℕ) (t : Transaction) (left : Option Transaction) (answer : old.Body) (own : List Numbered) → ¬ IsTrue t.mode.repeatable_read → IsCausedCommit fixed owner events t left answer own → IsForeignSeen owner events (body_of (as_written cells answer))
  written_foreign cells t left answer own plain (for_read met) = absurd (plain met.conflict.conflict.asked)
  written_foreign cells t left answer own plain (for_shape free shrunk) = tt
  written_foreign cells t left answer own plain (for_stores free uncut split) = tt
  written_foreign cells t left answer own plain (for_bytes {key = key} {cause = cause} may) = spoilt_foreign owner events key cause
  written_foreign cells t left answer own plain (all_made n may) = tt
  written_foreign cells t left answer own plain (for_failure n count mount part changed) = tt
  written_foreign cells t left answer own plain (for_memory n count part) = tt
  written_foreign cells t left answer own plain for_memory_first = tt

  act_foreign : (s : SessionState) (line : ℕ) (act : Act) (names : Names) (left : Option Transaction) (answer : old.Body) (own : List Numbered) → IsCausedAct fixed owner events s line act names left answer own → IsActIn s.transaction act
      → ((t : Transaction) → s.transaction ≡ Some t → own ≡ [] → IsQuiet owner (length events) events t) → IsForeignSeen owner events (body_of answer)
  act_foreign s line act names left answer own (open_made refs count known opened made) fits calm = tt
  act_foreign s line act names left answer own (open_none {answer = given} told refusal) fits calm = other_foreign owner events given (λ key read now is. subst IsOpenRefusal is refusal)
  act_foreign s line act names left answer own view_made fits calm = tt
  act_foreign s line act names left answer own (read_given words marked inside count) fits calm = tt
  act_foreign s line act names left answer own (read_cut shrunk) fits calm = tt
  act_foreign s line act names left answer own (read_spoilt {key = key} {cause = cause}) fits calm = spoilt_foreign owner events key cause
  act_foreign s line act names left answer own (read_failing before added fetched) fits calm = tt
  act_foreign s line act names left answer own write_kept fits calm = tt
  act_foreign s line act names left answer own (write_made {words = words} {left = rest} {answer = given} {own = added} commit) fits calm = written_foreign (length words) _ rest given added no_question commit
  act_foreign s line act names left answer own begin_made fits calm = tt
  act_foreign s line act names left answer own (commit_made {t = t} {left = rest} {answer = given} {own = added} commit) fits calm = commit_foreign t rest given added commit (calm t fits)
  act_foreign s line act names left answer own abort_made fits calm = tt
  act_foreign s line act names left answer own (resize_made before added may) fits calm = tt
  act_foreign s line act names left answer own (resize_much many) fits calm = tt
  act_foreign s line act names left answer own (resize_apart few split) fits calm = tt
  act_foreign s line act names left answer own (resize_spoilt {key = key} {cause = cause} may) fits calm = spoilt_foreign owner events key cause
  act_foreign s line act names left answer own (resize_failing before added may on_mount) fits calm = tt
  act_foreign s line act names left answer own (resolve_made m low high renewed) fits calm = tt
  act_foreign s line act names left answer own (resolve_none m low high renewed) fits calm = tt

  line_foreign : (s : SessionState) (line : ℕ) (asked : Line) (names : Names) (t : Option Transaction) (answer : Body) (own : List Numbered) → IsCaused fixed owner events s line asked names t answer own
      → ((t : Transaction) → s.transaction ≡ Some t → own ≡ [] → IsQuiet owner (length events) events t) → IsForeignSeen owner events answer
  line_foreign s line asked names t answer own (by_line {answer = given} is) calm =
      let settled : IsSettled given = subst IsAskedSettled is (act_of-settled s.names s.transaction asked) in
      other_foreign owner events given (λ key read now same. subst IsSettled same settled)
  line_foreign s line asked names t answer own (by_act {act = act} {answer = given} is cause) calm = act_foreign s line act names t given own cause (subst (IsAskedIn s.transaction) is (act_of-in s.names s.transaction asked)) calm
  line_foreign s line asked names t answer own by_memory calm = tt

further : (seen later h : History) → IsPrefix h seen → IsPrefix seen later → IsPrefix h later
further seen later h one two = (one.0 ++ two.0, sym (append_assoc h one.0 two.0) ∙ ap (λ xs. xs ++ two.0) one.1 ∙ two.1)

-- what is seen later has it too
foreign_longer : (owner : ℕ) (seen later : History) (answer : Body) → IsPrefix seen later → IsForeignSeen owner seen answer → IsForeignSeen owner later answer
foreign_longer owner seen later (printed.Conflict key read now) front is = (is.0, further seen later is.0 is.1 front, is.2)
foreign_longer owner seen later answer front is = tt

all_longer : (owner : ℕ) (seen later : History) (log : List Answer) → IsPrefix seen later → AllByRecursion (λ (a : Answer). IsForeignSeen owner seen a.body) log → AllByRecursion (λ (a : Answer). IsForeignSeen owner later a.body) log
all_longer owner seen later [] front all = tt
all_longer owner seen later (a ∷ log) front all = (foreign_longer owner seen later a.body front all.0, all_longer owner seen later log front all.1)

all_more : (P : Answer → Type 0) (log : List Answer) (a : Answer) → AllByRecursion P log → P a → AllByRecursion P (log ++ a ∷ [])
all_more P [] a all one = (one, tt)
all_more P (b ∷ log) a all one = (all.0, all_more P log a all.1 one)

-- the session has seen so many events, and made no change while its transaction stands
abbrev IsCalm : ℕ → History → Option SessionState → Type 0
IsCalm owner seen None = Unit {0}
IsCalm owner seen (Some s) = (s.seen ≡ length seen) × HasQuiet owner (length seen) seen s.transaction

record AreForeignTo (owner : ℕ) (log : List Answer) (seen : History) (last : Option SessionState) : Type 0 where
  answers : AllByRecursion (λ (a : Answer). IsForeignSeen owner seen a.body) log
  calm : IsCalm owner seen last

-- one line more
module _ (fixed : Fixed) (owner : ℕ) (seen later : History) (s : SessionState) (line : ℕ) (asked : Line) (names : Names) (t : Option Transaction) (answer : Body) (log : List Answer) (was : AreForeignTo owner log seen (Some s)) (front : IsPrefix seen later)
    (cause : IsCaused fixed owner later s line asked names t answer (own_events owner (length seen + 1) (drop (length seen) later))) where
  quiet : HasQuiet owner (length seen) later s.transaction
  quiet = quiet_longer owner seen later s.transaction front was.calm.1

  calm_at : (u : Transaction) → s.transaction ≡ Some u → own_events owner (length seen + 1) (drop (length seen) later) ≡ [] → IsQuiet owner (length later) later u
  calm_at u is none = quiet_seen owner seen later u front (subst (HasQuiet owner (length seen) later) is quiet) (subst (AllByRecursion IsNoChange) (sym none) tt)

  more_foreign : AllByRecursion (λ (a : Answer). IsForeignSeen owner later a.body) (log ++ record { line = line; body = answer } ∷ [])
  more_foreign = all_more (λ (a : Answer). IsForeignSeen owner later a.body) log (record { line = line; body = answer }) (all_longer owner seen later log front was.answers) (line_foreign fixed owner later s line asked names t answer _ cause calm_at)

  more_calm : answer ≢ printed.Memory → HasQuiet owner (length later) later t
  more_calm other = quiet_behind owner seen later t front (line_quiet owner (length seen) later fixed s line asked names t answer _ cause other was.calm.0 quiet)

lines_foreign : {fixed : Fixed} {owner : ℕ} {lines : List (Option Line)} {log : List Answer} {seen : History} {last : Option SessionState} → AreCaused fixed owner lines log seen last → AreForeignTo owner log seen last
lines_foreign none_given = record { answers = tt; calm = (refl, tt) }
lines_foreign (blank_given are) = let was = lines_foreign are in record { answers = was.answers; calm = was.calm }
lines_foreign {fixed = fixed} {owner = owner} (line_given {lines = lines} {log = log} {seen = seen} {later = later} {s = s} {asked = asked} {names = names} {t = t} {answer = answer} are front other cause) =
    let was = lines_foreign are in record {
      answers = more_foreign fixed owner seen later s (length lines + 1) asked names t answer log was front cause;
      calm = (refl, more_calm fixed owner seen later s (length lines + 1) asked names t answer log was front cause other);
    }
lines_foreign {fixed = fixed} {owner = owner} (last_given {lines = lines} {log = log} {seen = seen} {later = later} {s = s} {asked = asked} {names = names} {t = t} are front cause) =
    record { answers = more_foreign fixed owner seen later s (length lines + 1) asked names t printed.Memory log (lines_foreign are) front cause; calm = tt }

-- so it is of each answer of lines that are answered for their causes
pub caused_foreign : (fixed : Fixed) (owner : ℕ) (lines : List (Option Line)) (log : List Answer) (seen : History) (last : Option SessionState) → AreCaused fixed owner lines log seen last → AllByRecursion (λ (a : Answer). IsForeignSeen owner seen a.body) log
caused_foreign fixed owner lines log seen last are = (lines_foreign are).answers
