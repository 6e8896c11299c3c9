-- One script alone over one mount, and the single session on plain arrays.
use Rattle.std.specs.Prelude.{◌≡◌, ◌⊎◌, ℕ, List, [], ◌∷◌, ◌++◌, length, filter_map, false}
use Rattle.std.specs.List.{AllByRecursion}
use Rattle.history.specs.Answers as body
use Rattle.history.specs.Answers.{Text, Answer}
use Rattle.history.specs.History.{History}
use Rattle.history.specs.Single.{single_session}
use Rattle.history.specs.Steps.{is_memory}
use Rattle.serial_runs.specs.Runs.{Script}

-- the answers are first ones of others, or these with want of memory behind them
pub record IsBegunBy (answers others : List Answer) : Type 0 where
  pub front : List Answer
  pub rest : List Answer
  pub parts : others ≡ front ++ rest
  pub ends : (answers ≡ front) ⊎ ((line : ℕ) × (answers ≡ front ++ record { line = line; body = body.memory } ∷ []))

-- a run of one script is the single session on its lines, as far as it goes: its events and its answers are first ones of that one's, with want
-- of memory behind these where it was wanting, and all of them where
-- each line that isn't blank has its answer and none is want of memory
pub record IsAloneRun (mount : Text) (script : Script) (history : History) (answers : List Answer) : Type 0 where
  pub more : History
  pub events : (single_session mount 0 script).session.events ≡ history ++ more
  pub begun : IsBegunBy answers (single_session mount 0 script).answers
  pub whole : AllByRecursion (λ (a : Answer). is_memory a.body ≡ false) answers → length answers ≡ length (filter_map (λ line. line) script)
      → ((single_session mount 0 script).answers ≡ answers) × ((single_session mount 0 script).session.events ≡ history)
