-- A Spec's leaves as they are opened one after another, over every store.
use Rattle.std.specs.Prelude.{◌≡◌, ◌<◌, ℕ, List, ◌∷◌, length, vec_capacity, Option, Some}
use Rattle.std.specs.List.{AllByRecursion}
use Rattle.sessions.specs.declared.Body as printed
use Rattle.history.specs.declared.event.Event.{Event}
use Rattle.history.specs.Acts.{opens}
use Rattle.history.specs.Answers.{Body, Text}
use Rattle.history.specs.Lines.{SpecLeaf, Build}
use Rattle.history.specs.Sessions.{Names}
use Rattle.history.specs.Steps.{IsRow}
use Rattle.kv_face.specs.Store.{Contents}
use Rattle.sessions.specs.AnswerBodies.{body_of}
use Rattle.sessions.specs.OpenEvents.{IsArrayOpened, AreTold}
use Rattle.session_openings.specs.Events.{IsUnbound}
use Rattle.session_openings.specs.declared.opening.OpenedArrays.{OpenedArrays}
use Rattle.sessions.specs.Opening.{AreOpenedBy}
use Rattle.sessions.specs.Turns.{HasPassed, added_by}
use Rattle.sessions.specs.Standing.{session_state, transaction_in}
use Rattle.stack_driver.specs.References.{Reference}
use Rattle.sessions.specs.Agreement.{Opening}
use Rattle.sessions.specs.Answers.{fixed_by}
use Rattle.sessions.specs.Txn.{TxnSeen}
use Rattle.turn_book.specs.Passes.{BookView, PassView}

-- the first of some leaves were opened, and every event that was added for them is an opening
pub record AreAllOpened (book : BookView Opening) (first now : PassView Event Opening) (leaves rest : List SpecLeaf) (arrays : List Reference) (events : List ℕ) : Type 0 where
  pub opened : AreOpenedBy book first now leaves rest arrays events
  pub openings : AllByRecursion IsArrayOpened (added_by first now)

-- one leaf more is opened, whatever leaves were before it
abbrev pub OpensOne : BookView Opening → PassView Event Opening → PassView Event Opening → SpecLeaf → List Reference → List ℕ → List Reference → List ℕ → Type 0
OpensOne book old new leaf arrays events later_arrays later_events = (first : PassView Event Opening) (leaves rest : List SpecLeaf)
    → AreAllOpened book first old leaves (leaf ∷ rest) arrays events → AreAllOpened book first new leaves rest later_arrays later_events

-- a line whose leaf isn't opened: the pass rests, the answer tells the line's events and binds no name; where the store told its contents at
-- the start, it is that of a row
pub record IsLeafRefused (book : BookView Opening) (first now : PassView Event Opening) (leaves : List SpecLeaf) (answer : printed.Body) : Type 0 where
  pub passed : HasPassed book first now
  pub events : AreTold (added_by first now) answer
  pub refused : IsUnbound answer
  pub told : (start : Contents) → book.fixed.store.contents ≡ Some start → (b : Body) × (answer ≡ body_of b)
      × ((names : Names) (t : Option TxnSeen) (line : ℕ) (name : Text) (build : Build) → IsRow (fixed_by book.fixed start) first.number now.seen (session_state names (length first.seen) t) line (opens name leaves build) names (transaction_in t) b (added_by first now))

-- it is one, whatever leaves were opened before it
abbrev pub RefusesOne : BookView Opening → PassView Event Opening → PassView Event Opening → SpecLeaf → List Reference → List ℕ → printed.Body → Type 0
RefusesOne book old new leaf arrays events answer = (first : PassView Event Opening) (leaves rest : List SpecLeaf)
    → AreAllOpened book first old leaves (leaf ∷ rest) arrays events → IsLeafRefused book first new leaves answer

-- there is room for an array and a number more
pub record HasRoom (opened : OpenedArrays) : Type 0 where
  pub arrays : length opened.arrays.items < vec_capacity opened.arrays
  pub events : length opened.events.items < vec_capacity opened.events
