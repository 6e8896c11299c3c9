-- Where want of memory is printed, want of memory may be answered.
use Rattle.std.proofs.Common.{◌≡◌, ℕ, List, [], length, Option, None, Ok, subst}
use Rattle.session_openings.specs.declared.Body.TheVariants.{Memory}
use Rattle.history.specs.Acts.{Act, Asked, writes, commits}
use Rattle.history.specs.Answers as old
use Rattle.history.specs.Answers.{Body}
use Rattle.history.specs.Commit.{Fixed, Transaction}
use Rattle.history.specs.History.{History}
use Rattle.history.specs.Own.{Numbered}
use Rattle.history.specs.Sessions.{Names, SessionState}
use Rattle.history.specs.Steps.{IsRow, open_done, open_refused, open_unbuilt, open_failed, open_wanting, view_done, read_done, read_shrunk, read_damaged, read_failed, write_staged, write_done, begin_done, commit_done, abort_done, resize_done, resize_many, resize_split, resize_damaged, resize_failed, resolve_done, resolve_refused, IsAnswered, refused_line, wanting, done_line, write_alone, as_written}
use Rattle.session_openings.specs.Bodies.{body_of}
use Rattle.session_openings.proofs.Laws.{commit_ends, write_ends}

-- want of memory is answered, with these events
pub record IsWanting (fixed : Fixed) (owner : ℕ) (events : History) (s : SessionState) (line : ℕ) (asked : Asked) (own : List Numbered) : Type 0 where
  pub names : Names
  pub left : Option Transaction
  pub row : IsAnswered fixed owner events s line asked names left old.memory own

module _ (fixed : Fixed) (owner : ℕ) (events : History) (s : SessionState) (line : ℕ) where
  -- without an event it may be
  bare : (asked : Asked) → IsWanting fixed owner events s line asked []
  bare asked = record { names = s.names; left = s.transaction; row = wanting }

  row_wants : (act : Act) (names : Names) (left : Option Transaction) (answer : Body) (own : List Numbered) → IsRow fixed owner events s line act names left answer own → body_of answer ≡ Memory → IsWanting fixed owner events s line (Ok act) own
  row_wants act names left answer own (open_done opened is) printed = record { names = s.names; left = s.transaction; row = done_line (open_wanting opened) }
  row_wants act names left answer own (open_refused opened refused) printed = record { names = s.names; left = s.transaction; row = done_line (open_wanting opened) }
  row_wants act names left answer own (open_unbuilt opened is) printed = record { names = s.names; left = s.transaction; row = done_line (open_wanting opened) }
  row_wants act names left answer own (open_failed before opened failed) printed = absurd (let no_such : ⊥ = cc in no_such)
  row_wants act names left answer own (open_wanting opened) printed = record { names = s.names; left = s.transaction; row = done_line (open_wanting opened) }
  row_wants act names left answer own view_done printed = bare (Ok act)
  row_wants act names left answer own (read_done is) printed = bare (Ok act)
  row_wants act names left answer own (read_shrunk is) printed = bare (Ok act)
  row_wants act names left answer own (read_damaged is) printed = bare (Ok act)
  row_wants act names left answer own (read_failed before is) printed = absurd (let no_such : ⊥ = cc in no_such)
  row_wants act names left answer own write_staged printed = bare (Ok act)
  row_wants act names left answer own (write_done {view = view} {words = words} {left = stays} {answer = inner} commit) printed =
      let is : as_written (length words) inner ≡ old.memory = write_ends fixed owner events (write_alone line view words) stays inner own (length words) commit printed in
      record { names = names; left = left; row = subst (λ a. IsAnswered fixed owner events s line (Ok (writes view words)) s.names None a own) is (done_line (write_done commit)) }
  row_wants act names left answer own begin_done printed = bare (Ok act)
  row_wants act names left answer own (commit_done {t = t} commit) printed =
      let is : answer ≡ old.memory = commit_ends fixed owner events t left answer own commit printed in
      record { names = names; left = left; row = subst (λ a. IsAnswered fixed owner events s line (Ok (commits t)) s.names left a own) is (done_line (commit_done commit)) }
  row_wants act names left answer own abort_done printed = bare (Ok act)
  row_wants act names left answer own (resize_done n may sound) printed = absurd (let no_such : ⊥ = cc in no_such)
  row_wants act names left answer own (resize_many many) printed = bare (Ok act)
  row_wants act names left answer own (resize_split few split) printed = bare (Ok act)
  row_wants act names left answer own (resize_damaged may is) printed = bare (Ok act)
  row_wants act names left answer own (resize_failed n may on) printed = absurd (let no_such : ⊥ = cc in no_such)
  row_wants act names left answer own (resolve_done m low high is) printed = bare (Ok act)
  row_wants act names left answer own (resolve_refused m low high is) printed = bare (Ok act)

  pub answer_wants : (asked : Asked) (names : Names) (left : Option Transaction) (answer : Body) (own : List Numbered) → IsAnswered fixed owner events s line asked names left answer own → body_of answer ≡ Memory → IsWanting fixed owner events s line asked own
  answer_wants asked names left answer own refused_line printed = bare asked
  answer_wants asked names left answer own wanting printed = bare asked
  answer_wants asked names left answer own (done_line {act} row) printed = row_wants act names left answer own row printed
