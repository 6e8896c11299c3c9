-- A refusal says of no line that it did what it asks for, and prints no number of an event but those of new arrays.
use Rattle.std.proofs.Common.{◌≡◌, ℕ, ℤ, List, [], ◌∷◌, length, Bool, true, false, cond, Option, Some, None, Result, Ok, Err, refl, sym, ap, subst, ◌∙◌}
use Rattle.std.specs.Prelude.{◌==◌}
use Rattle.transform_composition.specs.declared.error.ComposeError.TheVariants as compose
use Rattle.index_transform.specs.Cells.{cells_of}
use Rattle.stack_driver.specs.References.{Reference}
use Rattle.stack_driver.specs.Renewed.{array_of}
use Rattle.stack_driver.specs.Targets.{Target}
use Rattle.stack_driver.specs.Views.{look_of, targets_of}
use Rattle.stack_driver.specs.declared.error.TargetError.{TargetError}
use Rattle.stack_driver.specs.declared.error.TargetError.TheVariants as target
use Rattle.stack_driver.specs.declared.view.View.{View}
use Rattle.history.specs.Acts.{Act, opens, reads, begins, commits, aborts, resolves, Asked, form_body, change_body, outside, inside, named, all_named, changed, with_changes, with_join, without, with_values, with_factors, write_act, on_leaf, read_of, write_of, act_of}
use Rattle.history.specs.Answers as body
use Rattle.history.specs.Answers.{Body, Text, JoinCause}
use Rattle.history.specs.Commit.{Transaction}
use Rattle.history.specs.Leaves.{Leaf}
use Rattle.history.specs.Lines as line
use Rattle.history.specs.Lines.{FormError, ChangeError, Downsampling, Line, refused, opening, viewing, joining, reading, writing, beginning, committing, aborting, resizing, resolving}
use Rattle.history.specs.OpenRows.{IsRefusal}
use Rattle.history.specs.History.{History}
use Rattle.history.specs.Outcomes.{Outcome, path_taken, bad_metadata, exists, mismatch, there, found, not_found, bad_want, made, IsOutcome}
use Rattle.history.specs.Sessions.{Names}
use Rattle.history.specs.Steps.{as_written}
use Rattle.history.specs.Viewing.{shape_of, first_infinite, too_many, size_fault, view_fault, first_fault, cell_fault}
use Rattle.history.proofs.AloneOpens.{none_stored, outcome_is, never_bad}
use Rattle.serial_runs.specs.Attempts.{is_ok, is_open_refusal, is_read_refusal, blames_store}
use Rattle.serial_runs.specs.Numbered.{numbers_in, failed_in, opened_in}

-- the answer isn't one of a line that did what it asks for, prints no number of an event, and doesn't blame the store
pub record IsRefusedBody (answer : Body) : Type 0 where
  pub no_ok : is_ok answer ≡ false
  pub no_change : numbers_in answer ≡ []
  pub no_fault : failed_in answer ≡ []
  pub no_opening : opened_in answer ≡ []
  pub no_blame : blames_store answer ≡ false

plain : {answer : Body} → is_ok answer ≡ false → numbers_in answer ≡ [] → failed_in answer ≡ [] → opened_in answer ≡ [] → blames_store answer ≡ false → IsRefusedBody answer
plain ok change fault anew blame = record { no_ok = ok; no_change = change; no_fault = fault; no_opening = anew; no_blame = blame }

abbrev pub IsRefusedAsked : Asked → Type 0
IsRefusedAsked (Ok act) = Unit {0}
IsRefusedAsked (Err answer) = IsRefusedBody answer

abbrev pub IsFaultBody : Option Body → Type 0
IsFaultBody None = Unit {0}
IsFaultBody (Some answer) = IsRefusedBody answer

form_refused : (e : FormError) → IsRefusedBody (form_body e)
form_refused (line.bad_line text) = plain refl refl refl refl refl
form_refused (line.bad_spec path) = plain refl refl refl refl refl
form_refused (line.unsupported path) = plain refl refl refl refl refl
form_refused (line.bad_step step) = plain refl refl refl refl refl

change_refused : (e : ChangeError) → IsRefusedBody (change_body e)
change_refused (line.unknown_dim step) = plain refl refl refl refl refl
change_refused (line.repeated_dim step) = plain refl refl refl refl refl
change_refused (line.refused_step step cause) = plain refl refl refl refl refl
change_refused (line.refused_view cause) = plain refl refl refl refl refl

size_refused : (a b : Option ℕ) → IsFaultBody (size_fault a b)
size_refused (Some dim) b = plain refl refl refl refl refl
size_refused None (Some dim) = plain refl refl refl refl refl
size_refused None None = tt

cells_refused : (xs : List (List ℤ)) (ts : List (Result Target TargetError)) → IsFaultBody (first_fault xs ts)
cells_refused [] ts = tt
cells_refused (x ∷ xs) [] = tt
cells_refused (x ∷ xs) (Ok t ∷ ts) = cells_refused xs ts
cells_refused (x ∷ xs) (Err (target.OutOfRange dim) ∷ ts) = plain refl refl refl refl refl
cells_refused (x ∷ xs) (Err target.Uncovered ∷ ts) = plain refl refl refl refl refl
cells_refused (x ∷ xs) (Err target.Memory ∷ ts) = plain refl refl refl refl refl

outside_refused : (t : Option Transaction) (asked : Asked) → IsRefusedAsked asked → IsRefusedAsked (outside t asked)
outside_refused None asked p = p
outside_refused (Some u) asked p = plain refl refl refl refl refl

inside_refused : (t : Option Transaction) (act : Transaction → Act) → IsRefusedAsked (inside t act)
inside_refused None act = plain refl refl refl refl refl
inside_refused (Some u) act = tt

named_refused : (name : Text) (o : Option View) (next : View → Asked) → ((v : View) → IsRefusedAsked (next v)) → IsRefusedAsked (named name o next)
named_refused name None next p = plain refl refl refl refl refl
named_refused name (Some v) next p = p v

all_named_refused : (names : Names) (of : List Text) (next : List View → Asked) → ((views : List View) → IsRefusedAsked (next views)) → IsRefusedAsked (all_named names of next)
all_named_refused names [] next p = p []
all_named_refused names (name ∷ more) next p = named_refused name (names name) _ (λ v. all_named_refused names more (λ views. next (v ∷ views)) (λ views. p (v ∷ views)))

join_refused : (r : Result View JoinCause) (next : View → Asked) → ((v : View) → IsRefusedAsked (next v)) → IsRefusedAsked (with_join r next)
join_refused (Err cause) next p = plain refl refl refl refl refl
join_refused (Ok v) next p = p v

changes_refused : (r : Result View ChangeError) (next : View → Asked) → ((v : View) → IsRefusedAsked (next v)) → IsRefusedAsked (with_changes r next)
changes_refused (Err e) next p = change_refused e
changes_refused (Ok v) next p = p v

pub without_refused : (fault : Option Body) (asked : Asked) → IsFaultBody fault → IsRefusedAsked asked → IsRefusedAsked (without fault asked)
without_refused None asked f p = p
without_refused (Some b) asked f p = f

values_refused : (r : Result (List ℕ) (List ℕ)) (next : List ℕ → Asked) → ((ws : List ℕ) → IsRefusedAsked (next ws)) → IsRefusedAsked (with_values r next)
values_refused (Err path) next p = plain refl refl refl refl refl
values_refused (Ok words) next p = p words

leaf_refused : (o : Option Reference) (next : Reference → Asked) → ((a : Reference) → IsRefusedAsked (next a)) → IsRefusedAsked (on_leaf o next)
leaf_refused None next p = plain refl refl refl refl refl
leaf_refused (Some a) next p = p a

cond_refused : (b : Bool) (x y : Asked) → IsRefusedAsked x → IsRefusedAsked y → IsRefusedAsked (cond b x y)
cond_refused true x y p q = p
cond_refused false x y p q = q

factors_refused : (down : Option Downsampling) (view : View) (asked : Asked) → IsRefusedAsked asked → IsRefusedAsked (with_factors down view asked)
factors_refused None view asked p = p
factors_refused (Some d) view asked p = cond_refused (d.rank == length (look_of view).dims) asked (Err (body.refused_view compose.Rank)) p (plain refl refl refl refl refl)

pub fault_refused : (v : View) → IsFaultBody (view_fault v)
fault_refused v = size_refused (first_infinite 0 (look_of v).dims) (too_many (shape_of v))

pub cell_refused : (v : View) → IsFaultBody (cell_fault v)
cell_refused v = cells_refused (cells_of (look_of v).dims) (targets_of v)

-- what a line is refused with before anything is done
pub act_of-refused : (names : Names) (t : Option Transaction) (asked : Line) → IsRefusedAsked (act_of names t asked)
act_of-refused names t (refused error) = form_refused error
act_of-refused names t (opening name leaves build) = outside_refused t (Ok (opens name leaves build)) tt
act_of-refused names t (viewing name of changes) = named_refused of (names of) _ (λ v. changes_refused (changed (Ok v) changes) _ (λ made. tt))
act_of-refused names t (joining name of join changes) =
    all_named_refused names of _ (λ views. join_refused (join views) _ (λ v. changes_refused (changed (Ok v) changes) _ (λ made. tt)))
act_of-refused names t (reading name changes down) =
    named_refused name (names name) _
    (λ v. changes_refused (changed (Ok v) changes) (read_of down)
    (λ w. factors_refused down w _ (without_refused (view_fault w) _ (fault_refused w) (without_refused (cell_fault w) (Ok (reads w down)) (cell_refused w) tt))))
act_of-refused names t (writing name changes values) =
    named_refused name (names name) _
    (λ v. changes_refused (changed (Ok v) changes) (write_of t values)
    (λ w. without_refused (view_fault w) _ (fault_refused w) (values_refused (values (look_of w).dtype (shape_of w)) _ (λ words. without_refused (cell_fault w) (Ok (write_act t w words)) (cell_refused w) tt))))
act_of-refused names t (beginning mode) = outside_refused t (Ok (begins mode)) tt
act_of-refused names t committing = inside_refused t commits
act_of-refused names t aborting = inside_refused t (λ u. aborts)
act_of-refused names t (resizing name shape) = outside_refused t _ (named_refused name (names name) _ (λ v. leaf_refused (array_of v) _ (λ array. cond_refused array.local _ _ (plain refl refl refl refl refl) (cond_refused (length shape == length array.shape) _ _ tt (plain refl refl refl refl refl)))))
act_of-refused names t (resolving name) = outside_refused t _ (named_refused name (names name) _ (λ v. leaf_refused (array_of v) (λ array. Ok (resolves name v array)) (λ array. tt)))

-- the answer to the first leaf that is refused prints the numbers of the arrays that were opened before it, and no other event's
pub record IsLeafBody (numbers : List ℕ) (answer : Body) : Type 0 where
  pub no_change : numbers_in answer ≡ []
  pub no_fault : failed_in answer ≡ []
  pub openings : opened_in answer ≡ numbers

leaf_body : (numbers : List ℕ) (told answer : Body) → answer ≡ told → numbers_in told ≡ [] → failed_in told ≡ [] → opened_in told ≡ numbers → IsLeafBody numbers answer
leaf_body numbers told answer is change fault anew = subst (IsLeafBody numbers) (sym is) (record { no_change = change; no_fault = fault; openings = anew })

pub leaf_refusal : (node : Text) (leaf : Leaf) (at : ℕ) (numbers : List ℕ) (outcome : Outcome) (answer : Body) → IsRefusal node leaf at numbers outcome answer → IsLeafBody numbers answer
leaf_refusal node leaf at numbers (path_taken other) answer is = leaf_body numbers _ answer is refl refl refl
leaf_refusal node leaf at numbers (bad_metadata bytes) answer is = leaf_body numbers _ answer is.2 refl refl refl
leaf_refusal node leaf at numbers exists answer is = leaf_body numbers _ answer is refl refl refl
leaf_refusal node leaf at numbers (mismatch member) answer is = leaf_body numbers _ answer is refl refl refl
leaf_refusal node leaf at numbers (there array) answer is = absurd is
leaf_refusal node leaf at numbers (found meta) answer is = absurd is
leaf_refusal node leaf at numbers not_found answer is = leaf_body numbers _ answer is refl refl refl
leaf_refusal node leaf at numbers (bad_want member) answer is = leaf_body numbers _ answer is refl refl refl
leaf_refusal node leaf at numbers (made meta) answer is = absurd is

-- over a store that starts empty no metadata is bad
pub never_unreadable : (events : History) (leaf : Leaf) (outcome : Outcome) → IsOutcome none_stored events leaf outcome → (bytes : List ℕ) → outcome ≡ bad_metadata bytes → ⊥
never_unreadable events leaf outcome is bytes same = never_bad events leaf bytes (outcome_is none_stored events leaf outcome refl is ∙ same)

-- so the answer to a leaf is one of an open
pub leaf_open_refusal : (node : Text) (leaf : Leaf) (at : ℕ) (numbers : List ℕ) (outcome : Outcome) (answer : Body) → ((bytes : List ℕ) → outcome ≡ bad_metadata bytes → ⊥) → IsRefusal node leaf at numbers outcome answer → is_open_refusal answer ≡ true
leaf_open_refusal node leaf at numbers (path_taken other) answer good is = ap is_open_refusal is
leaf_open_refusal node leaf at numbers (bad_metadata bytes) answer good is = absurd (good bytes refl)
leaf_open_refusal node leaf at numbers exists answer good is = ap is_open_refusal is
leaf_open_refusal node leaf at numbers (mismatch member) answer good is = ap is_open_refusal is
leaf_open_refusal node leaf at numbers (there array) answer good is = absurd is
leaf_open_refusal node leaf at numbers (found meta) answer good is = absurd is
leaf_open_refusal node leaf at numbers not_found answer good is = ap is_open_refusal is
leaf_open_refusal node leaf at numbers (bad_want member) answer good is = ap is_open_refusal is
leaf_open_refusal node leaf at numbers (made meta) answer good is = absurd is

-- which doesn't blame the store
pub open_unblamed : (answer : Body) → is_open_refusal answer ≡ true → blames_store answer ≡ false
open_unblamed (body.not_atomic keys) is = absurd (cc)
open_unblamed (body.damaged key cause) is = absurd (cc)
open_unblamed (body.bad_metadata key why events) is = absurd (cc)
open_unblamed answer is = refl

-- nor does the answer to a write that its commit doesn't
pub written_unblamed : (cells : ℕ) (answer : Body) → blames_store answer ≡ false → blames_store (as_written cells answer) ≡ false
written_unblamed cells (body.committed events) is = refl
written_unblamed cells answer is = is

-- a refusal of an open or a read says of no line that it did what it asks for
pub open_no_ok : (answer : Body) → is_open_refusal answer ≡ true → is_ok answer ≡ false
open_no_ok (body.bad_spec path (Some events)) is = refl
open_no_ok (body.refused_spec path cause events) is = refl
open_no_ok (body.not_found at path events) is = refl
open_no_ok (body.exists at path events) is = refl
open_no_ok (body.path_taken at path events) is = refl
open_no_ok (body.mismatch at member path events) is = refl
open_no_ok (body.store_failed event [] (Some events)) is = refl
open_no_ok answer is = absurd (cc)

pub read_no_ok : (answer : Body) → is_read_refusal answer ≡ true → is_ok answer ≡ false
read_no_ok (body.shrunk key now) is = refl
read_no_ok (body.store_failed event [] None) is = refl
read_no_ok answer is = absurd (cc)
