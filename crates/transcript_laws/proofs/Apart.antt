-- An answer of a run prints numbers of commits or numbers of new arrays, and not both.
use Rattle.std.proofs.Common.{◌≡◌, ℕ, ◌⊎◌, inl, inr, List, [], length, false, Option, refl}
use Rattle.std.specs.List.{AllByRecursion}
use Rattle.history.specs.Acts.{Act, Asked, act_of}
use Rattle.history.specs.Answers as body
use Rattle.history.specs.Answers.{Body, Answer}
use Rattle.history.specs.Commit.{Fixed, Transaction}
use Rattle.history.specs.CommitRows.{IsCommit, conflicts, is_shrunk, is_split, is_damaged, is_done, is_failed, is_wanting}
use Rattle.history.specs.History.{History}
use Rattle.history.specs.Own.{Numbered}
use Rattle.history.specs.Sessions.{Names, SessionState}
use Rattle.history.specs.Steps.{as_written, IsRow, open_done, open_refused, open_unbuilt, open_failed, open_wanting, view_done, read_done, read_shrunk, read_damaged, read_failed, write_staged, write_done, begin_done, commit_done, abort_done, resize_done, resize_many, resize_split, resize_damaged, resize_failed, resolve_done, resolve_refused, IsAnswered, refused_line, wanting, done_line, IsSessionRun, no_line, blank_line, next_line, last_line}
use Rattle.history.proofs.Asking.{IsAskedBy}
use Rattle.serial_runs.specs.Attempts.{blames_store}
use Rattle.serial_runs.specs.Numbered.{numbers_in, opened_in}
use Rattle.serial_runs.specs.Runs.{Script}
use Rattle.serial_runs.proofs.Refused.{IsRefusedAsked, act_of-refused, leaf_refusal}
use Rattle.transcript_laws.proofs.Bodies.{IsCounted}
use Rattle.transcript_laws.proofs.Checked.{IsCheckedAct, AreCheckedLines, act_checked}

-- the answer isn't one of a resize
abbrev pub IsNoResize : Body → Type 0
IsNoResize (body.resized event) = ⊥
IsNoResize answer = Unit {0}

-- nor does it print numbers of both kinds
pub record IsApart (answer : Body) : Type 0 where
  pub no_resize : IsNoResize answer
  pub apart : (numbers_in answer ≡ []) ⊎ (opened_in answer ≡ [])

no_resize_of : (b : Body) → numbers_in b ≡ [] → IsNoResize b
no_resize_of (body.resized event) none = absurd (cc)
no_resize_of b none = tt

no_numbers : (b : Body) → numbers_in b ≡ [] → IsApart b
no_numbers b none = record { no_resize = no_resize_of b none; apart = inl none }

-- one that doesn't blame the store has the numbers that its body prints
pub counted_of : (b : Body) → IsNoResize b → blames_store b ≡ false → IsCounted b
counted_of (body.resized event) no_resize sound = absurd no_resize
counted_of (body.not_atomic keys) no_resize sound = absurd (cc)
counted_of (body.damaged key cause) no_resize sound = absurd (cc)
counted_of (body.bad_metadata key why events) no_resize sound = absurd (cc)
counted_of b no_resize sound = tt

module _ (fixed : Fixed) (owner : ℕ) (events : History) where
  commit_apart : (t : Transaction) (left : Option Transaction) (answer : Body) (own : List Numbered) → IsCommit fixed owner events t left answer own → IsApart answer
  commit_apart t left answer own (conflicts conflict) = record { no_resize = tt; apart = inl refl }
  commit_apart t left answer own (is_shrunk free shrunk) = record { no_resize = tt; apart = inl refl }
  commit_apart t left answer own (is_split free present split) = record { no_resize = tt; apart = inl refl }
  commit_apart t left answer own (is_damaged may damage) = record { no_resize = tt; apart = inl refl }
  commit_apart t left answer own (is_done n may undamaged) = record { no_resize = tt; apart = inr refl }
  commit_apart t left answer own (is_failed n count mount part changed) = record { no_resize = tt; apart = inr refl }
  commit_apart t left answer own (is_wanting n count part) = record { no_resize = tt; apart = inl refl }

  written_apart : (cells : ℕ) (answer : Body) → IsApart answer → IsApart (as_written cells answer)
  written_apart cells (body.committed numbers) is = record { no_resize = tt; apart = inr refl }
  written_apart cells answer is = is

  row_apart : {s : SessionState} {line : ℕ} (act : Act) (names : Names) (left : Option Transaction) (answer : Body) (own : List Numbered) → IsCheckedAct act → IsRow fixed owner events s line act names left answer own → IsApart answer
  row_apart act names left answer own checked (open_done opened built) = record { no_resize = tt; apart = inl refl }
  row_apart act names left answer own checked (open_refused {node = node} {leaf = leaf} opened refused) = no_numbers answer (leaf_refusal node leaf refused.at _ refused.outcome answer refused.answered).no_change
  row_apart act names left answer own checked (open_unbuilt opened built) = record { no_resize = tt; apart = inl refl }
  row_apart act names left answer own checked (open_failed before opened failed) = record { no_resize = tt; apart = inl refl }
  row_apart act names left answer own checked (open_wanting opened) = record { no_resize = tt; apart = inl refl }
  row_apart act names left answer own checked view_done = record { no_resize = tt; apart = inl refl }
  row_apart act names left answer own checked (read_done shown) = record { no_resize = tt; apart = inl refl }
  row_apart act names left answer own checked (read_shrunk shrunk) = record { no_resize = tt; apart = inl refl }
  row_apart act names left answer own checked (read_damaged damaged) = record { no_resize = tt; apart = inl refl }
  row_apart act names left answer own checked (read_failed before fetched) = record { no_resize = tt; apart = inl refl }
  row_apart act names left answer own checked write_staged = record { no_resize = tt; apart = inl refl }
  row_apart act names left answer own checked (write_done {words = words} {left = rest} {answer = inner} commit) = written_apart (length words) inner (commit_apart _ rest inner own commit)
  row_apart act names left answer own checked begin_done = record { no_resize = tt; apart = inl refl }
  row_apart act names left answer own checked (commit_done {t = t} commit) = commit_apart t left answer own commit
  row_apart act names left answer own checked abort_done = record { no_resize = tt; apart = inl refl }
  row_apart act names left answer own checked (resize_done n may undamaged) = absurd checked
  row_apart act names left answer own checked (resize_many many) = absurd checked
  row_apart act names left answer own checked (resize_split few split) = absurd checked
  row_apart act names left answer own checked (resize_damaged may damaged) = absurd checked
  row_apart act names left answer own checked (resize_failed n may on_mount) = absurd checked
  row_apart act names left answer own checked (resolve_done k low high is) = absurd checked
  row_apart act names left answer own checked (resolve_refused k low high is) = absurd checked

  answered_apart : {s : SessionState} {line : ℕ} (asked : Asked) (names : Names) (left : Option Transaction) (answer : Body) (own : List Numbered) → IsRefusedAsked asked → IsAskedBy IsCheckedAct asked → IsAnswered fixed owner events s line asked names left answer own → IsApart answer
  answered_apart asked names left answer own refusal checked refused_line = no_numbers answer refusal.no_change
  answered_apart asked names left answer own refusal checked wanting = record { no_resize = tt; apart = inl refl }
  answered_apart asked names left answer own refusal checked (done_line {act = act} row) = row_apart act names left answer own checked row

-- so it is of each answer of a run
pub run_apart : (fixed : Fixed) (owner : ℕ) (history : History) {s last : SessionState} {n : ℕ} {lines : Script} {log : List Answer} → AreCheckedLines lines → IsSessionRun fixed owner history s n lines log last
    → AllByRecursion (λ (a : Answer). IsApart a.body) log
run_apart fixed owner history checked no_line = tt
run_apart fixed owner history checked (blank_line rest) = run_apart fixed owner history checked.1 rest
run_apart fixed owner history checked (next_line {s} {m} {last} {line} {asked} {answer} step goes_on rest) = (
  answered_apart fixed owner _ (act_of s.names s.transaction asked) m.names m.transaction answer _ (act_of-refused s.names s.transaction asked) (act_checked s.names s.transaction asked checked.0) step.row,
  run_apart fixed owner history checked.1 rest,
)
run_apart fixed owner history checked (last_line step) = (record { no_resize = tt; apart = inl refl }, tt)
