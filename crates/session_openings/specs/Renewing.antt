-- What a session answers to a line that takes a view's bounds anew.
use Rattle.std.specs.Prelude.{◌≡◌, ◌⊎◌, ℕ, List, Ok, Err}
use Rattle.sessions.specs.declared.Body.{Body}
use Rattle.sessions.specs.declared.Body.TheVariants.{Resolved, RefusedView, Memory}
use Rattle.history.specs.Answers.{Text}
use Rattle.history.specs.Sessions.{Names}
use Rattle.sessions.specs.Told.{IsBoundAs}
use Rattle.stack_driver.specs.Conditions.{IsView}
use Rattle.stack_driver.specs.Renewed.{renewed}
use Rattle.stack_driver.specs.Views.{look_of, own_transform}
use Rattle.stack_driver.specs.declared.error.RenewError.TheVariants.{Refused}
use Rattle.stack_driver.specs.declared.view.View.{View}
use Rattle.transform_composition.specs.declared.error.ComposeError.{ComposeError}

-- the name is bound to the view that there is under the shape
pub record IsBoundAnew (shape : List ℕ) (name : Text) (view : View) (names later : Names) (answer : Body) : Type 0 where
  pub made : View
  pub renewal : renewed shape view ≡ Ok made
  pub rules : IsView made
  pub bound : IsBoundAs (Resolved name (look_of made).dtype (own_transform made)) names name made later answer

-- there is none
pub record IsRefusedAnew (shape : List ℕ) (view : View) (names later : Names) (answer : Body) : Type 0 where
  pub cause : ComposeError
  pub renewal : renewed shape view ≡ Err (Refused cause)
  pub told : answer ≡ RefusedView cause
  pub same : later ≡ names

-- one of these, or memory was wanting
abbrev pub IsRenewed : List ℕ → Text → View → Names → Names → Body → Type 0
IsRenewed shape name view names later answer =
    IsBoundAnew shape name view names later answer ⊎ (IsRefusedAnew shape view names later answer ⊎ ((answer ≡ Memory) × (later ≡ names)))
