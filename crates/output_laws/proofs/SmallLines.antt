-- What lines do over small views, and how they are refused by the line alone.
use Rattle.std.proofs.Common.{◌≡◌, ℕ, zero, suc, ◌+◌, ◌*◌, ◌<◌, ◌≤◌, ◌^◌, ◌==◌, nat_le, leb-true, eqb-true, ℤ, pos, negsuc, ◌+ℤ◌, ◌≤ℤ◌, Bool, true, false, cond, ◌||◌, List, [], ◌∷◌, ◌++◌, length, map, Option, Some, None, Result, Ok, Err, IsUtf8, refl, sym, ap, subst, arith}
use Rattle.std.specs.List.{AllByRecursion, flat_map, list_any}
use Rattle.std.proofs.lemmas.Bool.{and_parts}
use Rattle.std.proofs.lemmas.Int.{ints}
use Rattle.std.proofs.lemmas.List.{length-map}
use Rattle.cells.specs.Places.{cell_count}
use Rattle.cells.specs.declared.dtype.Dtype.{Dtype}
use Rattle.index_intervals.specs.Bounds.{Bounds, is_index}
use Rattle.index_intervals.specs.Members.{is_finite, size_of}
use Rattle.index_intervals.proofs.Laws.{is_index-true}
use Rattle.index_transform.specs.Cells.{counting, members_of}
use Rattle.stack_driver.specs.Cells.{cells_of}
use Rattle.stack_driver.specs.References.{Reference}
use Rattle.stack_driver.specs.Targets.{Target}
use Rattle.stack_driver.specs.Views.{look_of, own_transform}
use Rattle.stack_driver.specs.declared.error.TargetError.{TargetError}
use Rattle.stack_driver.specs.declared.error.TargetError.TheVariants as target
use Rattle.stack_driver.specs.declared.view.View.{View}
use Rattle.stack_driver.proofs.Looks.{own_dims, targets_by}
use Rattle.history.specs.Acts.{Act, Asked, opens, binds, reads, stages, writes, begins, commits, aborts, resizes, resolves, form_body, change_body, outside, inside, named, with_changes, without, with_values, changed, write_act, read_of, write_of, act_of}
use Rattle.history.specs.Answers.{Body, Text, BuildCause}
use Rattle.history.specs.Commit.{Transaction}
use Rattle.history.specs.Lines.{FormError, ChangeError, unknown_dim, repeated_dim, refused_step, refused_view, bad_line, bad_spec, unsupported, bad_step, Change, Values, Build, Line, refused, opening, viewing, joining, reading, writing, beginning, committing, aborting, resizing, resolving}
use Rattle.history.specs.Sessions.{Names}
use Rattle.history.specs.Staged.{HasFittingValues}
use Rattle.history.specs.Viewing.{shape_of, size_fault, first_infinite, first_over, too_many, view_fault, target_body, first_fault, cell_fault}
use Rattle.transcript_laws.proofs.Checked.{IsCheckedLine}
use Rattle.output_laws.specs.Plain.{IsWhole}
use Rattle.output_laws.specs.Small.{IsSmallFault}
use Rattle.output_laws.specs.Parts.{AreNumbers, IsSmallStepCause, IsSmallBuildCause, IsSmallBody}
use Rattle.output_laws.specs.TextSpecs.{IsSmallFormError}
use Rattle.output_laws.proofs.FlatOutputs.{AreRankNames}
use Rattle.output_laws.proofs.HeldData.{May}
use Rattle.output_laws.proofs.LineRanks.{IsKeeping, IsRankLine}
use Rattle.output_laws.proofs.SmallViews.{IsSmallRef, IsSmallView, IsSmallTarget, targets_small}
use Rattle.output_laws.proofs.TextEvents.{IsTextLeaf}
use Rattle.output_laws.proofs.ViewRanks.{HasViewRank}

-- ---- what is asked of lines

abbrev pub IsSmallChangeError : ChangeError → Type 0
IsSmallChangeError (unknown_dim step) = step < 2 ^ 64
IsSmallChangeError (repeated_dim step) = step < 2 ^ 64
IsSmallChangeError (refused_step step cause) = (step < 2 ^ 64) × IsSmallStepCause cause
IsSmallChangeError (refused_view cause) = IsSmallFault cause

abbrev pub IsSmallChanged : Result View ChangeError → Type 0
IsSmallChanged (Ok v) = IsSmallView v
IsSmallChanged (Err e) = IsSmallChangeError e

-- what a change makes of a small view is one
abbrev pub IsSmallChange : Change → Type 0
IsSmallChange change = (v : View) → HasViewRank v → IsSmallView v → IsSmallChanged (change v)

abbrev pub IsSmallBuilt : Result View (Text × BuildCause) → Type 0
IsSmallBuilt (Ok v) = IsSmallView v
IsSmallBuilt (Err p) = IsUtf8 p.0 × IsSmallBuildCause p.1

abbrev pub IsSmallBuild : Build → Type 0
IsSmallBuild build = (refs : List Reference) → AllByRecursion IsSmallRef refs → IsSmallBuilt (build refs)

abbrev pub IsSmallGiven : Result (List ℕ) (List ℕ) → Type 0
IsSmallGiven (Ok words) = Unit {0}
IsSmallGiven (Err path) = AreNumbers path

abbrev pub AreSmallValues : Values → Type 0
AreSmallValues values = (dtype : Dtype) (shape : List ℕ) → IsSmallGiven (values dtype shape)

-- a line's texts are UTF-8, and what its parts make is small; joins aren't looked at
abbrev pub IsSmallLine : Line → Type 0
IsSmallLine (refused error) = IsSmallFormError error
IsSmallLine (opening name leaves build) = IsUtf8 name × AllByRecursion IsTextLeaf leaves × IsSmallBuild build
IsSmallLine (viewing name of changes) = IsUtf8 name × IsUtf8 of × AllByRecursion IsSmallChange changes
IsSmallLine (joining name of join changes) = Unit {0}
IsSmallLine (reading name changes down) = IsUtf8 name × AllByRecursion IsSmallChange changes
IsSmallLine (writing name changes values) = IsUtf8 name × AllByRecursion IsSmallChange changes × AreSmallValues values
IsSmallLine (beginning mode) = Unit {0}
IsSmallLine committing = Unit {0}
IsSmallLine aborting = Unit {0}
IsSmallLine (resizing name shape) = Unit {0}
IsSmallLine (resolving name) = Unit {0}

-- each name is bound to a small view
abbrev pub AreSmallNames : Names → Type 0
AreSmallNames names = (name : Text) (view : View) → names name ≡ Some view → IsSmallView view

abbrev pub IsSmallDone : Act → Type 0
IsSmallDone (opens name leaves build) = IsUtf8 name × AllByRecursion IsTextLeaf leaves × IsSmallBuild build
IsSmallDone (binds name view) = IsUtf8 name × IsSmallView view
IsSmallDone (reads view down) = IsSmallView view
IsSmallDone (stages t view words) = length words < 2 ^ 64
IsSmallDone (writes view words) = length words < 2 ^ 64
IsSmallDone (begins mode) = Unit {0}
IsSmallDone (commits t) = Unit {0}
IsSmallDone aborts = Unit {0}
IsSmallDone (resizes array shape) = Unit {0}
IsSmallDone (resolves name view array) = Unit {0}

-- an act, or a refusal of small parts
abbrev pub IsSmallAsked : Asked → Type 0
IsSmallAsked (Ok act) = IsSmallDone act
IsSmallAsked (Err answer) = IsSmallBody answer

-- ---- numbers of dimensions and of cells

infinite_low : (dim : ℕ) (dims : List Bounds) (k : ℕ) → first_infinite dim dims ≡ Some k → k < dim + length dims
infinite_low dim [] k is = absurd (cc)
infinite_low dim (d ∷ dims) k is = go (is_finite d) (infinite_low (dim + 1) dims k) is
  where
    go : (t : Bool) → (first_infinite (dim + 1) dims ≡ Some k → k < dim + 1 + length dims) → cond t (first_infinite (dim + 1) dims) (Some dim) ≡ Some k → k < dim + length (d ∷ dims)
    go true more e = let low = more e in omega (arith, low)
    go false more e = let same : dim ≡ k = cc in omega (arith, same)

over_low : (count dim : ℕ) (shape : List ℕ) (k : ℕ) → first_over count dim shape ≡ Some k → k < dim + length shape
over_low count dim [] k is = absurd (cc)
over_low count dim (size ∷ shape) k is = go (nat_le (count * size) (2 ^ 22)) (over_low (count * size) (dim + 1) shape k) is
  where
    go : (t : Bool) → (first_over (count * size) (dim + 1) shape ≡ Some k → k < dim + 1 + length shape) → cond t (first_over (count * size) (dim + 1) shape) (Some dim) ≡ Some k → k < dim + length (size ∷ shape)
    go true more e = let low = more e in omega (arith, low)
    go false more e = let same : dim ≡ k = cc in omega (arith, same)

many_low : (shape : List ℕ) (k : ℕ) → too_many shape ≡ Some k → k < length shape
many_low shape k is = go (list_any (λ size. size == 0) shape) is
  where
    go : (t : Bool) → cond t None (first_over 1 0 shape) ≡ Some k → k < length shape
    go true e = absurd (cc)
    go false e = let low = over_low 1 0 shape k e in omega (arith, low)

under : (count dim : ℕ) (shape : List ℕ) → count ≤ 2 ^ 22 → first_over count dim shape ≡ None → count * cell_count shape ≤ 2 ^ 22
under count dim [] low is = omega (arith, low)
under count dim (size ∷ shape) low is = go (nat_le (count * size) (2 ^ 22)) refl (under (count * size) (dim + 1) shape) is
  where
    go : (t : Bool) → nat_le (count * size) (2 ^ 22) ≡ t → (count * size ≤ 2 ^ 22 → first_over (count * size) (dim + 1) shape ≡ None → count * size * cell_count shape ≤ 2 ^ 22)
        → cond t (first_over (count * size) (dim + 1) shape) (Some dim) ≡ None → count * cell_count (size ∷ shape) ≤ 2 ^ 22
    go true so more e = let less = more (leb-true (count * size) (2 ^ 22) so) e in omega (arith, less)
    go false so more e = absurd (cc)

no_cell : (shape : List ℕ) → list_any (λ size. size == 0) shape ≡ true → cell_count shape ≡ 0
no_cell [] is = absurd (cc)
no_cell (size ∷ shape) is = go (size == 0) refl (no_cell shape) is
  where
    go : (t : Bool) → (size == 0) ≡ t → (list_any (λ s. s == 0) shape ≡ true → cell_count shape ≡ 0) → (t || list_any (λ s. s == 0) shape) ≡ true → cell_count (size ∷ shape) ≡ 0
    go true so more e = let same : size ≡ 0 = eqb-true size 0 so in subst (λ s. s * cell_count shape ≡ 0) (sym same) (omega arith)
    go false so more e = let same = more e in subst (λ c. size * c ≡ 0) (sym same) (omega arith)

-- a line names few cells
cells_few : (shape : List ℕ) → too_many shape ≡ None → cell_count shape < 2 ^ 64
cells_few shape is = go (list_any (λ size. size == 0) shape) refl is
  where
    go : (t : Bool) → list_any (λ size. size == 0) shape ≡ t → cond t None (first_over 1 0 shape) ≡ None → cell_count shape < 2 ^ 64
    go true so e = let same = no_cell shape so in omega (arith, same)
    go false so e = let low = under 1 0 shape (omega arith) e in omega (arith, low)

all_finite : (dim : ℕ) (dims : List Bounds) → first_infinite dim dims ≡ None → AllByRecursion (λ (d : Bounds). is_finite d ≡ true) dims
all_finite dim [] is = tt
all_finite dim (d ∷ dims) is = go (is_finite d) refl (all_finite (dim + 1) dims) is
  where
    go : (t : Bool) → is_finite d ≡ t → (first_infinite (dim + 1) dims ≡ None → AllByRecursion (λ (e : Bounds). is_finite e ≡ true) dims) → cond t (first_infinite (dim + 1) dims) (Some dim) ≡ None → AllByRecursion (λ (e : Bounds). is_finite e ≡ true) (d ∷ dims)
    go true so more e = (so, more e)
    go false so more e = absurd (cc)

counting_whole : (x : ℤ) (n : ℕ) → negsuc 9223372036854775807 ≤ℤ x → (x +ℤ pos n) ≤ℤ pos 18446744073709551616 → AllByRecursion IsWhole (counting x n)
counting_whole x zero low high = tt
counting_whole x (suc n) low high = (record { from_least = low; to_greatest = omega (arith, ints, high) }, counting_whole (x +ℤ pos 1) n (omega (arith, ints, low)) (omega (arith, ints, high)))

members_whole : (d : Bounds) → is_finite d ≡ true → AllByRecursion IsWhole (members_of d)
members_whole d is =
    let both = and_parts (is_index d.lo) (is_index d.hi) is in
    let lo = is_index-true d.lo both.0 in
    let hi = is_index-true d.hi both.1 in
    counting_whole d.lo (size_of d) (omega (arith, ints, lo.above)) (omega (arith, ints, lo.above, lo.below, hi.above, hi.below))

flat_all : {A B : Type 0} (P : A → Type 0) (Q : B → Type 0) (f : A → List B) (xs : List A) → ((x : A) → P x → AllByRecursion Q (f x)) → AllByRecursion P xs → AllByRecursion Q (flat_map f xs)
flat_all P Q f [] each all = tt
flat_all P Q f (x ∷ xs) each all = join (f x) (flat_map f xs) (each x all.0) (flat_all P Q f xs each all.1)
  where
    join : (ys zs : List _) → AllByRecursion Q ys → AllByRecursion Q zs → AllByRecursion Q (ys ++ zs)
    join [] zs one two = two
    join (y ∷ ys) zs one two = (one.0, join ys zs one.1 two)

behind_whole : (x : ℤ) (cells : List (List ℤ)) → IsWhole x → AllByRecursion (AllByRecursion IsWhole) cells → AllByRecursion (AllByRecursion IsWhole) (map (λ cell. x ∷ cell) cells)
behind_whole x [] is all = tt
behind_whole x (cell ∷ cells) is all = ((is, all.0), behind_whole x cells is all.1)

cells_whole : (dims : List Bounds) → AllByRecursion (λ (d : Bounds). is_finite d ≡ true) dims → AllByRecursion (AllByRecursion IsWhole) (cells_of dims)
cells_whole [] all = (tt, tt)
cells_whole (d ∷ dims) all =
    flat_all IsWhole (AllByRecursion IsWhole) (λ x. map (λ cell. x ∷ cell) (cells_of dims)) (members_of d) (λ x is. behind_whole x (cells_of dims) is (cells_whole dims all.1)) (members_whole d all.0)

-- ---- refusals by the view

view_dims : (v : View) → IsSmallView v → length (look_of v).dims ≤ 32
view_dims v is = let few = is.own.few in let same : length (own_transform v).domain.dims ≡ length (look_of v).dims = ap length (own_dims v) in omega (arith, few, same)

view_small : (v : View) → IsSmallView v → May IsSmallBody (view_fault v)
view_small v is =
    let few = view_dims v is in
    let count = length-map (look_of v).dims size_of in
    go (first_infinite 0 (look_of v).dims) (too_many (shape_of v)) (λ k e. let low = infinite_low 0 (look_of v).dims k e in omega (arith, low, few)) (λ k e. let low = many_low (shape_of v) k e in omega (arith, low, few, count))
  where
    go : (one other : Option ℕ) → ((k : ℕ) → one ≡ Some k → k < 2 ^ 64) → ((k : ℕ) → other ≡ Some k → k < 2 ^ 64) → May IsSmallBody (size_fault one other)
    go (Some dim) other first second = first dim refl
    go None (Some dim) first second = second dim refl
    go None None first second = tt

-- a view without a fault
record HasFew (v : View) : Type 0 where
  finite : first_infinite 0 (look_of v).dims ≡ None
  few : too_many (shape_of v) ≡ None

few_of : (v : View) → view_fault v ≡ None → HasFew v
few_of v is = go (first_infinite 0 (look_of v).dims) refl (too_many (shape_of v)) refl is
  where
    go : (one : Option ℕ) → first_infinite 0 (look_of v).dims ≡ one → (other : Option ℕ) → too_many (shape_of v) ≡ other → size_fault one other ≡ None → HasFew v
    go (Some dim) at other so e = absurd (cc)
    go None at (Some dim) so e = absurd (cc)
    go None at None so e = record { finite = at; few = so }

target_small : (x : List ℤ) (e : TargetError) → AllByRecursion IsWhole x → IsSmallTarget (Err e) → IsSmallBody (target_body x e)
target_small x (target.OutOfRange dim) whole is = (whole, is)
target_small x target.Uncovered whole is = whole
target_small x target.Memory whole is = tt

first_small : (f : List ℤ → Result Target TargetError) → ((x : List ℤ) → IsSmallTarget (f x)) → (xs : List (List ℤ)) → AllByRecursion (AllByRecursion IsWhole) xs → May IsSmallBody (first_fault xs (map f xs))
first_small f each [] all = tt
first_small f each (x ∷ xs) all = go (f x) (each x) (first_small f each xs all.1)
  where
    go : (r : Result Target TargetError) → IsSmallTarget r → May IsSmallBody (first_fault xs (map f xs)) → May IsSmallBody (first_fault (x ∷ xs) (r ∷ map f xs))
    go (Ok t) is rest = rest
    go (Err e) is rest = target_small x e all.0 is

cell_small : (v : View) → IsSmallView v → view_fault v ≡ None → May IsSmallBody (cell_fault v)
cell_small v is none =
    let has = few_of v none in
    subst (λ ts. May IsSmallBody (first_fault (cells_of (look_of v).dims) ts)) (sym (targets_by v (look_of v) refl))
    (first_small (look_of v).target (targets_small v is.few) (cells_of (look_of v).dims) (cells_whole (look_of v).dims (all_finite 0 (look_of v).dims has.finite)))

-- ---- what a line does

outside_small : (t : Option Transaction) (asked : Asked) → IsSmallAsked asked → IsSmallAsked (outside t asked)
outside_small None asked is = is
outside_small (Some u) asked is = tt

inside_small : (t : Option Transaction) (act : Transaction → Act) → ((u : Transaction) → IsSmallDone (act u)) → IsSmallAsked (inside t act)
inside_small None act is = tt
inside_small (Some u) act is = is u

named_small : (name : Text) (o : Option View) (next : View → Asked) → IsUtf8 name → ((v : View) → o ≡ Some v → IsSmallAsked (next v)) → IsSmallAsked (named name o next)
named_small name None next text each = text
named_small name (Some v) next text each = each v refl

change_small : (e : ChangeError) → IsSmallChangeError e → IsSmallBody (change_body e)
change_small (unknown_dim step) is = is
change_small (repeated_dim step) is = is
change_small (refused_step step cause) is = is
change_small (refused_view cause) is = is

changes_small : (r : Result View ChangeError) (next : View → Asked) → IsSmallChanged r → ((v : View) → IsSmallView v → IsSmallAsked (next v)) → IsSmallAsked (with_changes r next)
changes_small (Err e) next is each = change_small e is
changes_small (Ok v) next is each = each v is

without_small : (fault : Option Body) (asked : Asked) → May IsSmallBody fault → (fault ≡ None → IsSmallAsked asked) → IsSmallAsked (without fault asked)
without_small None asked may each = each refl
without_small (Some f) asked may each = may

values_small : (r : Result (List ℕ) (List ℕ)) (next : List ℕ → Asked) → IsSmallGiven r → ((ws : List ℕ) → r ≡ Ok ws → IsSmallAsked (next ws)) → IsSmallAsked (with_values r next)
values_small (Err path) next is each = is
values_small (Ok ws) next is each = each ws refl

write_small : (t : Option Transaction) (v : View) (words : List ℕ) → length words < 2 ^ 64 → IsSmallDone (write_act t v words)
write_small None v words few = few
write_small (Some u) v words few = few

form_small : (e : FormError) → IsSmallFormError e → IsSmallBody (form_body e)
form_small (bad_line text) is = is
form_small (bad_spec path) is = (is, tt)
form_small (unsupported path) is = is
form_small (bad_step step) is = is

-- changes one after another
changed_small : (changes : List Change) (r : Result View ChangeError) → AllByRecursion IsKeeping changes → AllByRecursion IsSmallChange changes → ((v : View) → r ≡ Ok v → HasViewRank v) → IsSmallChanged r → IsSmallChanged (changed r changes)
changed_small changes (Err e) keeps small rank is = is
changed_small [] (Ok v) keeps small rank is = is
changed_small (change ∷ changes) (Ok v) keeps small rank is = changed_small changes (change v) keeps.1 small.1 (λ w e. keeps.0 v w (rank v refl) e) (small.0 v (rank v refl) is)

abbrev Same : Result View ChangeError → Result View ChangeError → Type 0
Same a b = a ≡ b

one_rank : (v w : View) → Same (Ok v) (Ok w) → HasViewRank v → HasViewRank w
one_rank v w e has = let same : v ≡ w = cc in subst HasViewRank same has

-- what a line does over such names, or its refusal
pub act_small : (names : Names) (t : Option Transaction) (line : Line) → AreRankNames names → AreSmallNames names → IsCheckedLine line → IsRankLine line → HasFittingValues line → IsSmallLine line → IsSmallAsked (act_of names t line)
act_small names t (refused error) ranks small checked keeps fits is = form_small error is
act_small names t (opening name leaves build) ranks small checked keeps fits is = outside_small t (Ok (opens name leaves build)) is
act_small names t (viewing name of changes) ranks small checked keeps fits is =
    named_small of (names of) _ is.1
    (λ v at. changes_small (changed (Ok v) changes) _ (changed_small changes (Ok v) keeps is.2 (λ w e. one_rank v w e (ranks of v at)) (small of v at)) (λ made made_is. (is.0, made_is)))
act_small names t (joining name of join changes) ranks small checked keeps fits is = absurd checked
act_small names t (reading name changes None) ranks small checked keeps fits is =
    named_small name (names name) _ is.0
    (λ v at. changes_small (changed (Ok v) changes) (read_of None) (changed_small changes (Ok v) keeps is.1 (λ w e. one_rank v w e (ranks name v at)) (small name v at))
    (λ made made_is. without_small (view_fault made) _ (view_small made made_is) (λ none. without_small (cell_fault made) (Ok (reads made None)) (cell_small made made_is none) (λ found. made_is))))
act_small names t (reading name changes (Some down)) ranks small checked keeps fits is = absurd (cc)
act_small names t (writing name changes values) ranks small checked keeps fits is =
    named_small name (names name) _ is.0
    (λ v at. changes_small (changed (Ok v) changes) (write_of t values) (changed_small changes (Ok v) keeps is.1 (λ w e. one_rank v w e (ranks name v at)) (small name v at))
    (λ made made_is. without_small (view_fault made) _ (view_small made made_is)
    (λ none. values_small (values (look_of made).dtype (shape_of made)) _ (is.2 (look_of made).dtype (shape_of made))
    (λ words given. without_small (cell_fault made) (Ok (write_act t made words)) (cell_small made made_is none)
    (λ found. let same = (fits (look_of made).dtype (shape_of made) words given).0 in let few = cells_few (shape_of made) (few_of made none).few in write_small t made words (omega (arith, same, few)))))))
act_small names t (beginning mode) ranks small checked keeps fits is = outside_small t (Ok (begins mode)) tt
act_small names t committing ranks small checked keeps fits is = inside_small t commits (λ u. tt)
act_small names t aborting ranks small checked keeps fits is = inside_small t (λ u. aborts) (λ u. tt)
act_small names t (resizing name shape) ranks small checked keeps fits is = absurd checked
act_small names t (resolving name) ranks small checked keeps fits is = absurd checked
