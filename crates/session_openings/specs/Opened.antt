-- What a session answers to a line that opens a Spec, and what the line leaves.
use Rattle.std.specs.Prelude.{◌≡◌, ◌⊎◌, ℕ, List, length, false, Option, Some, Result, Ok, Err}
use Rattle.std.specs.FinMap as finmap
use Rattle.std.specs.List.{AllByRecursion}
use Rattle.sessions.specs.Status.{is_ok_body}
use Rattle.sessions.specs.declared.Body as printed
use Rattle.sessions.specs.declared.Body.TheVariants as body
use Rattle.history.specs.declared.event.Event.{Event}
use Rattle.history.specs.Acts.{opens}
use Rattle.history.specs.Answers.{Body, Text}
use Rattle.history.specs.Own.{numbers_of}
use Rattle.history.specs.Refs.{IsKnownRef}
use Rattle.history.specs.Sessions.{Names, bind}
use Rattle.history.specs.Steps.{IsRow}
use Rattle.kv_face.specs.Store.{Contents}
use Rattle.sessions.specs.AnswerBodies.{body_of}
use Rattle.sessions.specs.MeaningOpenings.{leaves_of, build_of}
use Rattle.sessions.specs.OpenEvents.{AreTold}
use Rattle.sessions.specs.Caused.{IsCausedAct}
use Rattle.sessions.specs.Turns.{HasPassed, added_by}
use Rattle.sessions.specs.Standing.{session_state, transaction_in}
use Rattle.sessions.specs.Told.{IsBoundAs}
use Rattle.spec_open.specs.Built.{built}
use Rattle.spec_open.specs.declared.error.BuildError.{BuildError}
use Rattle.spec_open.specs.declared.error.BuildError.TheVariants as build_error
use Rattle.spec_open.specs.declared.plan.OpenPlan.{OpenPlan}
use Rattle.stack_driver.specs.Conditions.{IsView}
use Rattle.stack_driver.specs.References.{Reference}
use Rattle.stack_driver.specs.Views.{look_of, own_transform}
use Rattle.stack_driver.specs.declared.view.View.{View}
use Rattle.sessions.specs.Agreement.{Opening}
use Rattle.sessions.specs.Answers.{fixed_by}
use Rattle.sessions.specs.Txn.{TxnSeen}
use Rattle.turn_book.specs.Passes.{BookView, PassView}

-- the answer where no view is built
abbrev pub IsUnbuilt : BuildError → List ℕ → printed.Body → Type 0
IsUnbuilt (build_error.Refused path cause) events answer = answer ≡ body.RefusedSpec path cause events
IsUnbuilt build_error.Memory events answer = answer ≡ body.Memory

-- a name is bound to what was built, or nothing was
abbrev pub IsBuiltBy : Result View BuildError → List ℕ → Text → Names → Names → printed.Body → Type 0
IsBuiltBy r events name names later answer =
    ((view : View) × (r ≡ Ok view) × IsView view × IsBoundAs (body.Opened name (look_of view).dtype (own_transform view).domain events) names name view later answer)
    ⊎ ((later ≡ names) × ((answer ≡ body.Memory) ⊎ ((e : BuildError) × (r ≡ Err e) × IsUnbuilt e events answer)))

-- the name is bound to the view that the plan's tree is over known arrays, one for each leaf, and the answer tells it
pub record IsBoundToPlan (first now : PassView Event Opening) (plan : OpenPlan) (name : Text) (names later : Names) (answer : printed.Body) : Type 0 where
  pub arrays : List Reference
  pub view : View
  pub count : length arrays ≡ length plan.leaves
  pub known : AllByRecursion (IsKnownRef now.seen) arrays
  pub made : built arrays plan.tree ≡ Ok view
  pub rules : IsView view
  pub bound : later ≡ bind names name view
  pub told : answer ≡ body.Opened name (look_of view).dtype (own_transform view).domain (numbers_of (added_by first now))

-- it is, or the names are as they were and the answer isn't Ok
abbrev pub IsBoundOrNot : PassView Event Opening → PassView Event Opening → OpenPlan → Text → Names → Names → printed.Body → Type 0
IsBoundOrNot first now plan name names later answer = IsBoundToPlan first now plan name names later answer ⊎ ((later ≡ names) × (is_ok_body answer ≡ false))

-- a line that opens: the pass rests, the answer tells the line's events, and the name is bound or nothing is; its act is answered for its cause; where
-- the store told its contents at the start, the answer is that of a row, by which the names are these
pub record IsLineOpened (book : BookView Opening) (first now : PassView Event Opening) (names later : Names) (name : Text) (plan : OpenPlan) (answer : printed.Body) : Type 0 where
  pub passed : HasPassed book first now
  pub events : AreTold (added_by first now) answer
  pub bound : IsBoundOrNot first now plan name names later answer
  pub caused : (b : Body) × (answer ≡ body_of b)
      × ((t : Option TxnSeen) (line : ℕ) → IsCausedAct (fixed_by book.fixed finmap.empty) first.number now.seen (session_state names (length first.seen) t) line (opens name (leaves_of plan) (build_of plan)) later (transaction_in t) b (added_by first now))
  pub told : (start : Contents) → book.fixed.store.contents ≡ Some start → (b : Body) × (answer ≡ body_of b)
      × ((t : Option TxnSeen) (line : ℕ) → IsRow (fixed_by book.fixed start) first.number now.seen (session_state names (length first.seen) t) line (opens name (leaves_of plan) (build_of plan)) later (transaction_in t) b (added_by first now))
