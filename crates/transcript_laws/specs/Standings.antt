-- How a session stands behind its lines: which names are bound, and which transaction stands.
use Rattle.std.specs.Prelude.{ℕ, List, [], ◌∷◌, Bool, Option, Some, None, Ok, Err, codes, if◌then◌else◌}
use Rattle.std.specs.List.{fold}
use Rattle.serde_json.specs.Data.{Data}
use Rattle.serde_json.specs.Find.{get}
use Rattle.stack_driver.specs.Views.{look_of}
use Rattle.stack_driver.specs.declared.view.View.{View}
use Rattle.history.specs.Acts.{Act, Asked, opens, binds, reads, stages, writes, begins, commits, aborts, resizes, resolves, act_of}
use Rattle.history.specs.Answers.{Text}
use Rattle.history.specs.Commit.{Transaction}
use Rattle.history.specs.History.{History}
use Rattle.history.specs.ReadRows.{with_read}
use Rattle.history.specs.Sessions.{Names, bind, new_transaction}
use Rattle.history.specs.Steps.{with_write}
use Rattle.history.specs.Viewing.{shape_of}
use Rattle.script_lines.specs.NestedWords.{Given, nested_words}
use Rattle.transcript_laws.specs.Transcript.{Told}
use Rattle.transcript_laws.specs.Numbers.{opened_in, done_in, failed_in, damaged_in}
use Rattle.transcript_laws.specs.Takings.{takings, opened_view}

-- a session between two lines, as its lines and the answers to them show it; its transaction has no marks
pub record Standing : Type 0 where
  pub names : Names
  pub transaction : Option Transaction

-- before the first line
abbrev pub first_standing : Standing
first_standing = record { names = λ name. None; transaction = None }

-- the names behind an open line: the name is bound where the answer has the member `open` and there is a view
abbrev pub names_opened : Names → Text → Option Data → Option View → Names
names_opened names name None view = names
names_opened names name (Some said) None = names
names_opened names name (Some said) (Some view) = bind names name view

-- the words that values give; values that are none of the view give no word, and so a Read that no history allows
-- where the view has a cell
abbrev pub words_given : Given → List ℕ
words_given (Ok words) = words
words_given (Err path) = []

-- the transaction behind a read: where the answer has `values`, a Read with the words that these are joins it under
-- repeatable read
abbrev pub read_told : Option Transaction → View → Option Data → Option Transaction
read_told t view None = t
read_told t view (Some values) =
    with_read t view (words_given (nested_words (look_of view).dtype (shape_of view) values)) []

-- the transaction behind its commit: it stands on where nothing was done, and a store call failed or a chunk is damaged
abbrev pub left_told : Transaction → List ℕ → List ℕ → Bool → Option Transaction
left_told t [] [] damaged = if damaged then Some t else None
left_told t [] (n ∷ failed) damaged = Some t
left_told t (m ∷ done_before) failed damaged = None

-- the same after its answer
abbrev pub left_by : Transaction → Data → Option Transaction
left_by t answer = left_told t (done_in answer) (failed_in answer) (damaged_in answer)

-- how a session stands behind an act with an answer
abbrev pub standing_by : History → Standing → ℕ → Act → Data → Standing
standing_by history s line (opens name leaves build) answer =
    record s {
      names = names_opened s.names name (get (codes "open") answer)
          (opened_view history (takings history leaves (opened_in answer)) build);
    }
standing_by history s line (binds name view) answer = record s { names = bind s.names name view }
standing_by history s line (reads view down) answer =
    record s { transaction = read_told s.transaction view (get (codes "values") answer) }
standing_by history s line (stages t view words) answer = record s { transaction = Some (with_write t view words) }
standing_by history s line (writes view words) answer = s
standing_by history s line (begins mode) answer = record s { transaction = Some (new_transaction line mode) }
standing_by history s line (commits t) answer = record s { transaction = left_by t answer }
standing_by history s line aborts answer = record s { transaction = None }
standing_by history s line (resizes array shape) answer = s
standing_by history s line (resolves name view array) answer = s

-- how it stands behind a line; a refused one changes nothing
abbrev pub standing_asked : History → Standing → ℕ → Asked → Data → Standing
standing_asked history s line (Err refusal) answer = s
standing_asked history s line (Ok act) answer = standing_by history s line act answer

-- what a line does for a session that stands so, or why it is refused
abbrev pub act_at : Standing → Told → Asked
act_at s told = act_of s.names s.transaction told.asked

-- how a session stands behind what is told of a line
abbrev pub standing_step : History → Standing → Told → Standing
standing_step history s told = standing_asked history s told.number (act_at s told) told.answer

-- how a session stands behind what is told of its first lines
abbrev pub standing : History → List Told → Standing
standing history told = fold (standing_step history) first_standing told
