-- How a session stands, as it is kept.
use Rattle.std.specs.Prelude.{◌≡◌, ℕ, List, [], Bool, Option, Some, None}
use Rattle.serde_json.specs.Data.{Data}
use Rattle.indexmap.specs.IndexMap.{get_by_text}
use Rattle.history.specs.Commit.{Transaction, kept_ops}
use Rattle.history.specs.History.{History}
use Rattle.history.specs.Steps.{with_write}
use Rattle.line_acts.specs.Bound.{AreViews}
use Rattle.stack_driver.specs.declared.view.View.{View}
use Rattle.line_acts.specs.Openings as meant
use Rattle.stated_arrays.specs.Standings as told
use Rattle.stated_arrays.specs.Standings.{left_told}
use Rattle.stated_arrays.specs.Takings.{takings, opened_view}
use Rattle.stated_arrays.specs.ToldNumbers.{opened_in}
use Rattle.stated_acts.specs.declared.acts.Act.{Act}
use Rattle.stated_acts.specs.declared.acts.Act.TheVariants.{Opens, Commits}
use Rattle.stated_acts.specs.declared.standing.Ongoing.{Ongoing}
use Rattle.stated_acts.specs.declared.standing.Standing.{Standing}

-- a transaction that stands, without marks
abbrev pub transaction_of : Ongoing → Transaction
transaction_of t = record { line = t.line; mode = t.mode; ops = t.ops.items; marks = [] }

-- the one that stands, if one does
abbrev pub transaction_in : Option Ongoing → Option Transaction
transaction_in None = None
transaction_in (Some t) = Some (transaction_of t)

-- the session
abbrev pub standing_of : Standing → told.Standing
standing_of s = record { names = get_by_text s.names; transaction = transaction_in s.transaction }

-- each view keeps the rules of views, and a transaction's operations are those that its event has
pub record IsSoundStanding (s : Standing) : Type 0 where
  pub views : AreViews (get_by_text s.names)
  pub kept : (t : Transaction) → transaction_in s.transaction ≡ Some t → kept_ops t ≡ t.ops

-- the transaction behind a write, if one stands
abbrev pub written_in : Option Transaction → View → List ℕ → Option Transaction
written_in None view words = None
written_in (Some t) view words = Some (with_write t view words)

-- the transaction behind a commit, if one stands: these were done, these failed, and a chunk is damaged or not
abbrev pub left_in : Option Transaction → List ℕ → List ℕ → Bool → Option Transaction
left_in None done failed damaged = None
left_in (Some t) done failed damaged = left_told t done failed damaged

-- the transaction that a commit ended, by what stood before it and what stands behind it
abbrev pub ended_by : Option Transaction → Option Transaction → Option Transaction
ended_by before None = before
ended_by before (Some t) = None

-- what came back is the transaction that a commit ended; other acts give none back
abbrev pub IsEnded : Act → Option Transaction → Option Transaction → Option Ongoing → Type 0
IsEnded Commits before after ended = transaction_in ended ≡ ended_by before after
IsEnded _ before after ended = ended ≡ None

-- the view that an open line binds over the arrays of a history, if there is one; other acts open none
abbrev pub IsOpenedBy : History → Data → Act → Option View → Type 0
IsOpenedBy history answer (Opens name plan) view =
    opened_view history (takings history (meant.leaves_of plan) (opened_in answer)) (meant.build_of plan) ≡ view
IsOpenedBy history answer _ view = view ≡ None
