-- What a line does in a session, or the answer that its form, the names, the transaction, the view and the values give alone.
use Rattle.std.specs.Prelude.{ℕ, List, [], ◌∷◌, length, ◌==◌, Option, Some, None, Result, Ok, Err, if◌then◌else◌}
use Rattle.stack_driver.specs.declared.ComposeError.TheVariants as compose
use Rattle.stack_driver.specs.References.{Reference}
use Rattle.stack_driver.specs.Renewed.{array_of}
use Rattle.stack_driver.specs.Views.{look_of}
use Rattle.stack_driver.specs.declared.view.View.{View}
use Rattle.history.specs.declared.event.Mode.{Mode}
use Rattle.history.specs.Answers as body
use Rattle.history.specs.Answers.{Body, Text, JoinCause}
use Rattle.history.specs.Commit.{Transaction}
use Rattle.history.specs.Lines.{FormError, bad_line, bad_spec, unsupported, bad_step, ChangeError, unknown_dim, repeated_dim, refused_step, refused_view, Change, Values, Downsampling, SpecLeaf, Build, Line, refused, opening, viewing, joining, reading, writing, beginning, committing, aborting, resizing, resolving}
use Rattle.history.specs.Sessions.{Names}
use Rattle.history.specs.Viewing.{shape_of, view_fault, cell_fault}

-- what a line does once nothing refuses it
pub data Act : Type 0 where
  opens : (name : Text) → (leaves : List SpecLeaf) → (build : Build) → Act
  binds : (name : Text) → (view : View) → Act
  reads : (view : View) → (down : Option Downsampling) → Act
  stages : (t : Transaction) → (view : View) → (words : List ℕ) → Act
  writes : (view : View) → (words : List ℕ) → Act
  begins : (mode : Mode) → Act
  commits : (t : Transaction) → Act
  aborts : Act
  resizes : (array : Reference) → (shape : List ℕ) → Act
  resolves : (name : Text) → (view : View) → (array : Reference) → Act

-- an act, or a refusal
abbrev pub Asked : Type 0
Asked = Result Act Body

-- the answer to a line that has no form
abbrev pub form_body : FormError → Body
form_body (bad_line text) = body.bad_line text
form_body (bad_spec path) = body.bad_spec path None
form_body (unsupported path) = body.unsupported path
form_body (bad_step step) = body.bad_step step

-- the answer where a transform or a step doesn't go with its view
abbrev pub change_body : ChangeError → Body
change_body (unknown_dim step) = body.unknown_dim step
change_body (repeated_dim step) = body.repeated_dim step
change_body (refused_step step cause) = body.refused_step step cause
change_body (refused_view cause) = body.refused_view cause

-- only outside a transaction
abbrev pub outside : Option Transaction → Asked → Asked
outside None asked = asked
outside (Some t) asked = Err body.in_transaction

-- only inside one
abbrev pub inside : Option Transaction → (Transaction → Act) → Asked
inside None act = Err body.no_transaction
inside (Some t) act = Ok (act t)

-- only where the name is bound
abbrev pub named : Text → Option View → (View → Asked) → Asked
named name None next = Err (body.unknown_name name)
named name (Some view) next = next view

-- only where all names are bound; the first that isn't is told
abbrev pub all_named : Names → List Text → (List View → Asked) → Asked
all_named names [] next = next []
all_named names (name ∷ more) next = named name (names name) (λ view. all_named names more (λ views. next (view ∷ views)))

-- a view after its changes, and the first that refuses it
abbrev pub changed : Result View ChangeError → List Change → Result View ChangeError
changed (Err e) changes = Err e
changed (Ok view) [] = Ok view
changed (Ok view) (change ∷ changes) = changed (change view) changes

-- only where no change refuses the view
abbrev pub with_changes : Result View ChangeError → (View → Asked) → Asked
with_changes (Err e) next = Err (change_body e)
with_changes (Ok view) next = next view

-- only where the views are joined
abbrev pub with_join : Result View JoinCause → (View → Asked) → Asked
with_join (Err cause) next = Err (body.refused_join cause)
with_join (Ok view) next = next view

-- only where there is no fault
abbrev pub without : Option Body → Asked → Asked
without (Some fault) asked = Err fault
without None asked = asked

-- only where the values fit
abbrev pub with_values : Result (List ℕ) (List ℕ) → (List ℕ → Asked) → Asked
with_values (Err path) next = Err (body.bad_values path)
with_values (Ok words) next = next words

-- only with a factor for each dimension
abbrev pub with_factors : Option Downsampling → View → Asked → Asked
with_factors None view asked = asked
with_factors (Some down) view asked = if down.rank == length (look_of view).dims then asked else Err (body.refused_view compose.Rank)

-- a write in a transaction is staged there, and one outside is a transaction of its own
abbrev pub write_act : Option Transaction → View → List ℕ → Act
write_act None view words = writes view words
write_act (Some t) view words = stages t view words

-- only on a leaf, through casts
abbrev pub on_leaf : Option Reference → (Reference → Asked) → Asked
on_leaf None next = Err body.not_array
on_leaf (Some array) next = next array

-- only on a stored leaf, and with as many sizes as it has dimensions
abbrev pub on_stored : Reference → List ℕ → Asked
on_stored array shape =
    if array.local then Err body.not_array
    else (if length shape == length array.shape then Ok (resizes array shape) else Err (body.refused_view compose.Rank))

-- a read of a view may be refused by its factors, by the count of its cells, or by a cell without a target
abbrev pub read_of : Option Downsampling → View → Asked
read_of down view = with_factors down view (without (view_fault view) (without (cell_fault view) (Ok (reads view down))))

-- a write to a view may be refused by the count of its cells, by the values, or by a cell without a target
abbrev pub write_of : Option Transaction → Values → View → Asked
write_of t values view = without (view_fault view) (with_values (values (look_of view).dtype (shape_of view)) (λ words. without (cell_fault view) (Ok (write_act t view words))))

-- what a line does, or why it is refused before anything is done; each command's refusals in their order
abbrev pub act_of : Names → Option Transaction → Line → Asked
act_of names t (refused error) = Err (form_body error)
act_of names t (opening name leaves build) = outside t (Ok (opens name leaves build))
act_of names t (viewing name of changes) = named of (names of) (λ view. with_changes (changed (Ok view) changes) (λ made. Ok (binds name made)))
act_of names t (joining name of join changes) =
    all_named names of (λ views. with_join (join views) (λ view. with_changes (changed (Ok view) changes) (λ made. Ok (binds name made))))
act_of names t (reading name changes down) = named name (names name) (λ view. with_changes (changed (Ok view) changes) (read_of down))
act_of names t (writing name changes values) = named name (names name) (λ view. with_changes (changed (Ok view) changes) (write_of t values))
act_of names t (beginning mode) = outside t (Ok (begins mode))
act_of names t committing = inside t commits
act_of names t aborting = inside t (λ old. aborts)
act_of names t (resizing name shape) = outside t (named name (names name) (λ view. on_leaf (array_of view) (λ array. on_stored array shape)))
act_of names t (resolving name) = outside t (named name (names name) (λ view. on_leaf (array_of view) (λ array. Ok (resolves name view array))))
