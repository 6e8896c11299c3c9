-- Views that names are bound to.
use Rattle.std.specs.Prelude.{◌≡◌, ◌⊎◌, Some}
use Rattle.history.specs.Answers.{Text}
use Rattle.history.specs.Sessions.{Names, bind}
use Rattle.line_meanings.specs.declared.Body.{Body}
use Rattle.line_meanings.specs.declared.Body.TheVariants.{Memory}
use Rattle.stack_driver.specs.Conditions.{IsView}
use Rattle.stack_driver.specs.declared.view.View.{View}

-- what each name is bound to keeps the rules of views
abbrev pub AreViews : Names → Type 0
AreViews names = (name : Text) (view : View) → names name ≡ Some view → IsView view

-- a name is bound to a view, which this body tells, or memory was wanting and the names are as they were
abbrev pub IsBoundAs : Body → Names → Text → View → Names → Body → Type 0
IsBoundAs body names name view later answer = ((answer ≡ body) × (later ≡ bind names name view)) ⊎ ((answer ≡ Memory) × (later ≡ names))
