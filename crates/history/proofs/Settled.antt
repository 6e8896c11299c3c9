-- What a line is refused with before anything is done is no conflict and no want of memory.
use Rattle.std.proofs.Common.{ℕ, ℤ, List, [], ◌∷◌, length, Bool, true, false, cond, Option, Some, None, Result, Ok, Err, refl, sym, subst}
use Rattle.std.specs.Prelude.{◌==◌}
use Rattle.std.specs.List.{AllByRecursion}
use Rattle.stack_driver.specs.declared.ComposeError.TheVariants as compose
use Rattle.stack_driver.specs.Cells.{cells_of}
use Rattle.stack_driver.specs.References.{Reference}
use Rattle.stack_driver.specs.Renewed.{array_of}
use Rattle.stack_driver.specs.Targets.{Target}
use Rattle.stack_driver.specs.Views.{look_of, targets_of}
use Rattle.stack_driver.specs.declared.error.TargetError.{TargetError}
use Rattle.stack_driver.specs.declared.error.TargetError.TheVariants as target
use Rattle.stack_driver.specs.declared.view.View.{View}
use Rattle.history.specs.Acts.{Act, opens, reads, begins, commits, aborts, resolves, Asked, form_body, change_body, outside, inside, named, all_named, changed, with_changes, with_join, without, with_values, with_factors, write_act, on_leaf, read_of, write_of, act_of}
use Rattle.history.specs.Answers as body
use Rattle.history.specs.Answers.{Body, Text, JoinCause}
use Rattle.history.specs.Commit.{Transaction}
use Rattle.history.specs.Leaves.{Leaf}
use Rattle.history.specs.Lines as line
use Rattle.history.specs.Lines.{FormError, ChangeError, Downsampling, Line, refused, opening, viewing, joining, reading, writing, beginning, committing, aborting, resizing, resolving}
use Rattle.history.specs.OpenRows.{IsRefusal}
use Rattle.history.specs.Outcomes.{Outcome, path_taken, bad_metadata, exists, mismatch, there, found, not_found, bad_want, made}
use Rattle.history.specs.Sessions.{Names}
use Rattle.history.proofs.Found.{IsTold, all_told}
use Rattle.history.specs.Viewing.{shape_of, first_infinite, too_many, size_fault, view_fault, first_fault, cell_fault}

abbrev pub IsSettled : Body → Type 0
IsSettled (body.conflict key read now) = ⊥
IsSettled body.memory = ⊥
IsSettled answer = Unit {0}

abbrev pub IsAskedSettled : Asked → Type 0
IsAskedSettled (Ok act) = Unit {0}
IsAskedSettled (Err answer) = IsSettled answer

abbrev IsFaultSettled : Option Body → Type 0
IsFaultSettled None = Unit {0}
IsFaultSettled (Some answer) = IsSettled answer

form_settled : (e : FormError) → IsSettled (form_body e)
form_settled (line.bad_line text) = tt
form_settled (line.bad_spec path) = tt
form_settled (line.unsupported path) = tt
form_settled (line.bad_step step) = tt

change_settled : (e : ChangeError) → IsSettled (change_body e)
change_settled (line.unknown_dim step) = tt
change_settled (line.repeated_dim step) = tt
change_settled (line.refused_step step cause) = tt
change_settled (line.refused_view cause) = tt

size_settled : (a b : Option ℕ) → IsFaultSettled (size_fault a b)
size_settled (Some dim) b = tt
size_settled None (Some dim) = tt
size_settled None None = tt

cells_settled : (xs : List (List ℤ)) (ts : List (Result Target TargetError)) → AllByRecursion IsTold ts → IsFaultSettled (first_fault xs ts)
cells_settled [] ts told = tt
cells_settled (x ∷ xs) [] told = tt
cells_settled (x ∷ xs) (Ok t ∷ ts) told = cells_settled xs ts told.1
cells_settled (x ∷ xs) (Err (target.OutOfRange dim) ∷ ts) told = tt
cells_settled (x ∷ xs) (Err target.Uncovered ∷ ts) told = tt
cells_settled (x ∷ xs) (Err target.Memory ∷ ts) told = absurd (told.0 refl)

outside_settled : (t : Option Transaction) (asked : Asked) → IsAskedSettled asked → IsAskedSettled (outside t asked)
outside_settled None asked p = p
outside_settled (Some u) asked p = tt

inside_settled : (t : Option Transaction) (act : Transaction → Act) → IsAskedSettled (inside t act)
inside_settled None act = tt
inside_settled (Some u) act = tt

named_settled : (name : Text) (o : Option View) (next : View → Asked) → ((v : View) → IsAskedSettled (next v)) → IsAskedSettled (named name o next)
named_settled name None next p = tt
named_settled name (Some v) next p = p v

all_named_settled : (names : Names) (of : List Text) (next : List View → Asked) → ((views : List View) → IsAskedSettled (next views)) → IsAskedSettled (all_named names of next)
all_named_settled names [] next p = p []
all_named_settled names (name ∷ more) next p = named_settled name (names name) _ (λ v. all_named_settled names more (λ views. next (v ∷ views)) (λ views. p (v ∷ views)))

join_settled : (r : Result View JoinCause) (next : View → Asked) → ((v : View) → IsAskedSettled (next v)) → IsAskedSettled (with_join r next)
join_settled (Err cause) next p = tt
join_settled (Ok v) next p = p v

changes_settled : (r : Result View ChangeError) (next : View → Asked) → ((v : View) → IsAskedSettled (next v)) → IsAskedSettled (with_changes r next)
changes_settled (Err e) next p = change_settled e
changes_settled (Ok v) next p = p v

without_settled : (fault : Option Body) (asked : Asked) → IsFaultSettled fault → IsAskedSettled asked → IsAskedSettled (without fault asked)
without_settled None asked f p = p
without_settled (Some b) asked f p = f

values_settled : (r : Result (List ℕ) (List ℕ)) (next : List ℕ → Asked) → ((ws : List ℕ) → IsAskedSettled (next ws)) → IsAskedSettled (with_values r next)
values_settled (Err path) next p = tt
values_settled (Ok words) next p = p words

leaf_settled : (o : Option Reference) (next : Reference → Asked) → ((a : Reference) → IsAskedSettled (next a)) → IsAskedSettled (on_leaf o next)
leaf_settled None next p = tt
leaf_settled (Some a) next p = p a

cond_settled : (b : Bool) (x y : Asked) → IsAskedSettled x → IsAskedSettled y → IsAskedSettled (cond b x y)
cond_settled true x y p q = p
cond_settled false x y p q = q

factors_settled : (down : Option Downsampling) (view : View) (asked : Asked) → IsAskedSettled asked → IsAskedSettled (with_factors down view asked)
factors_settled None view asked p = p
factors_settled (Some d) view asked p = cond_settled (d.rank == length (look_of view).dims) asked (Err (body.refused_view compose.Rank)) p tt

fault_settled : (v : View) → IsFaultSettled (view_fault v)
fault_settled v = size_settled (first_infinite 0 (look_of v).dims) (too_many (shape_of v))

cell_settled : (v : View) → IsFaultSettled (cell_fault v)
cell_settled v = cells_settled (cells_of (look_of v).dims) (targets_of v) (all_told v)

pub act_of-settled : (names : Names) (t : Option Transaction) (asked : Line) → IsAskedSettled (act_of names t asked)
act_of-settled names t (refused error) = form_settled error
act_of-settled names t (opening name leaves build) = outside_settled t (Ok (opens name leaves build)) tt
act_of-settled names t (viewing name of changes) = named_settled of (names of) _ (λ v. changes_settled (changed (Ok v) changes) _ (λ made. tt))
act_of-settled names t (joining name of join changes) =
    all_named_settled names of _ (λ views. join_settled (join views) _ (λ v. changes_settled (changed (Ok v) changes) _ (λ made. tt)))
act_of-settled names t (reading name changes down) =
    named_settled name (names name) _
    (λ v. changes_settled (changed (Ok v) changes) (read_of down)
    (λ w. factors_settled down w _ (without_settled (view_fault w) _ (fault_settled w) (without_settled (cell_fault w) (Ok (reads w down)) (cell_settled w) tt))))
act_of-settled names t (writing name changes values) =
    named_settled name (names name) _
    (λ v. changes_settled (changed (Ok v) changes) (write_of t values)
    (λ w. without_settled (view_fault w) _ (fault_settled w) (values_settled (values (look_of w).dtype (shape_of w)) _ (λ words. without_settled (cell_fault w) (Ok (write_act t w words)) (cell_settled w) tt))))
act_of-settled names t (beginning mode) = outside_settled t (Ok (begins mode)) tt
act_of-settled names t committing = inside_settled t commits
act_of-settled names t aborting = inside_settled t (λ u. aborts)
act_of-settled names t (resizing name shape) = outside_settled t _ (named_settled name (names name) _ (λ v. leaf_settled (array_of v) _ (λ array. cond_settled array.local _ _ tt (cond_settled (length shape == length array.shape) _ _ tt tt))))
act_of-settled names t (resolving name) = outside_settled t _ (named_settled name (names name) _ (λ v. leaf_settled (array_of v) (λ array. Ok (resolves name v array)) (λ array. tt)))

pub refusal_settled : (node : Text) (leaf : Leaf) (at : ℕ) (numbers : List ℕ) (outcome : Outcome) (answer : Body) → IsRefusal node leaf at numbers outcome answer → IsSettled answer
refusal_settled node leaf at numbers (path_taken other) answer is = subst IsSettled (sym is) tt
refusal_settled node leaf at numbers (bad_metadata bytes) answer is = subst IsSettled (sym is.2) tt
refusal_settled node leaf at numbers exists answer is = subst IsSettled (sym is) tt
refusal_settled node leaf at numbers (mismatch member) answer is = subst IsSettled (sym is) tt
refusal_settled node leaf at numbers (there array) answer is = absurd is
refusal_settled node leaf at numbers (found meta) answer is = absurd is
refusal_settled node leaf at numbers not_found answer is = subst IsSettled (sym is) tt
refusal_settled node leaf at numbers (bad_want member) answer is = subst IsSettled (sym is) tt
refusal_settled node leaf at numbers (made meta) answer is = absurd is
