-- What a line does for a session, as it is told.
use Rattle.std.specs.Prelude.{◌≡◌, ◌≢◌, ℕ, [], ◌∷◌, length, Option, None, Some, Ok, Err}
use Rattle.history.specs.Acts.{Act as ActOf, Asked, opens, binds, reads, write_act, begins, commits, aborts, without, act_of}
use Rattle.history.specs.Answers as old
use Rattle.history.specs.Commit.{Transaction}
use Rattle.history.specs.Lines.{Line}
use Rattle.history.specs.Sessions.{Names}
use Rattle.history.specs.Viewing.{cell_fault}
use Rattle.index_transform.specs.Cells.{cells_of, count_answer}
use Rattle.line_acts.specs.Bodies.{body_of}
use Rattle.line_acts.specs.declared.Body.{Body}
use Rattle.line_acts.specs.declared.Body.TheVariants.{Memory}
use Rattle.stack_driver.specs.Conditions.{IsView}
use Rattle.stack_driver.specs.Views.{look_of}
use Rattle.stack_driver.specs.declared.view.View.{View}
use Rattle.line_acts.specs.Openings as meant
use Rattle.stated_arrays.specs.Conditions.{IsSoundPlan}
use Rattle.stated_arrays.specs.Standings.{Standing}
use Rattle.stated_arrays.specs.Transcript.{mount}
use Rattle.stated_acts.specs.declared.acts.Act.{Act}
use Rattle.stated_acts.specs.declared.acts.Act.TheVariants.{Refused, Opens, Binds, Reads, Writes, Begins, Commits, Aborts}

-- what is asked is this act, where this transaction stands
abbrev pub IsActBy : Option Transaction → Asked → Act → Type 0
IsActBy t asked (Refused body) = (told : old.Body) × (asked ≡ Err told) × (body ≡ body_of told)
IsActBy t asked (Opens name plan) = asked ≡ Ok (opens name (meant.leaves_of plan) (meant.build_of plan))
IsActBy t asked (Binds name view) = asked ≡ Ok (binds name view)
IsActBy t asked (Reads view) = asked ≡ Ok (reads view None)
IsActBy t asked (Writes view words) = asked ≡ Ok (write_act t view words)
IsActBy t asked (Begins mode) = (t ≡ None) × (asked ≡ Ok (begins mode))
IsActBy t asked Commits = (u : Transaction) × (t ≡ Some u) × (asked ≡ Ok (commits u))
IsActBy t asked Aborts = asked ≡ Ok aborts

-- so it is of a line, for a session that stands so
abbrev pub IsActAt : Standing → Line → Act → Type 0
IsActAt s line act = IsActBy s.transaction (act_of s.names s.transaction line) act

-- and of one that any transaction leaves as it is, by these names
abbrev pub IsActAmong : Names → Line → Act → Type 0
IsActAmong names line act = (t : Option Transaction) → IsActBy t (act_of names t line) act

-- what is asked is this, unless a cell of the view has no target
abbrev pub IsActOfView : View → ActOf → Option Transaction → Act → Type 0
IsActOfView view wanted t act = (asked : Asked) → asked ≡ without (cell_fault view) (Ok wanted) → IsActBy t asked act

-- the line is refused by this body, which is none of want of memory
abbrev pub IsRefusedBy : Body → Act → Type 0
IsRefusedBy body act = (act ≡ Refused body) × (body ≢ Memory)

-- a view has so many cells, as many as a line may name
abbrev pub HasCells : View → ℕ → Type 0
HasCells view count = IsView view × (count_answer (look_of view).dims ≡ Ok count)

-- what may be done with an act rests on this
abbrev pub IsSoundAct : Act → Type 0
IsSoundAct (Refused body) = Unit {0}
IsSoundAct (Opens name plan) = IsSoundPlan (mount ∷ []) plan
IsSoundAct (Binds name view) = IsView view
IsSoundAct (Reads view) = HasCells view (length (cells_of (look_of view).dims))
IsSoundAct (Writes view words) = HasCells view (length words)
IsSoundAct (Begins mode) = Unit {0}
IsSoundAct Commits = Unit {0}
IsSoundAct Aborts = Unit {0}

-- an act as it is copied: there is no copy of what an open line asks for, nor of a refusal
abbrev pub kept_act : Act → Option Act
kept_act (Refused body) = None
kept_act (Opens name plan) = None
kept_act act = Some act
