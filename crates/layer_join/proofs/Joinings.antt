-- What the joined views are, from what they are made of.
use Rattle.std.proofs.Common.{◌≡◌, ◌∙◌, ◌<◌, ◌≤◌, ℕ, suc, ◌+◌, ◌==◌, nat_lt, ℤ, pos, Bool, true, false, not, List, [], ◌∷◌, length, map, Option, Some, None, Result, Ok, Err, IfOk, refl, sym, ap, subst, arith}
use Rattle.std.proofs.lemmas.Bool.Decides.{nat_tests}
use Rattle.std.proofs.lemmas.List.Edits.{length-insert}
use Rattle.std.proofs.lemmas.Slice.Eq.{bytes_eq-Decides}
use Rattle.std.specs.List.{AllByRecursion, position_from, zip}
use Rattle.std.specs.Str.{bytes_eq}
use Rattle.cells.proofs.Laws.{both_true, else_from}
use Rattle.cells.specs.DtypeNames.{dtype_name}
use Rattle.cells.specs.declared.dtype.Dtype.{Dtype}
use Rattle.index_intervals.specs.Bounds.{Bounds}
use Rattle.index_transform.specs.Identity.{identity_over}
use Rattle.index_transform.specs.Transforms.{DomainAndMaps}
use Rattle.index_transform.specs.declared.domain.Domain.{Domain}
use Rattle.stack_driver.proofs.Laws.{layers_alike, last_targets, length-identity, length-stacked_dims, look-Stack, own-Stack, stack_view}
use Rattle.stack_driver.specs.Conditions.{AreLayers, HasKind, IsView}
use Rattle.stack_driver.specs.Stacks.{is_like, first_unlike, stacked_domain}
use Rattle.stack_driver.specs.Views.{Look, look_of, own_transform}
use Rattle.stack_driver.specs.declared.view.View.{View}
use Rattle.stack_driver.specs.declared.view.View.TheVariants as view
use Rattle.layer_join.specs.Joins.{IsJoined, moved_layers, joined_domain}
use Rattle.layer_join.specs.Joins as joins
use Rattle.layer_join.specs.Placed.{from_on, placed_from}
use Rattle.layer_join.specs.Refusals.{first_infinite, first_stuck, if_none, at_layer, only_if, is_too_deep, rank_of, unlike_refusal, concat_refusal, stack_refusal}
use Rattle.layer_join.specs.Slid.{behind, shifts, shifts_from, start_of}
use Rattle.layer_join.specs.declared.error.JoinError.{JoinError}
use Rattle.layer_join.specs.declared.error.JoinError.TheVariants.{Depth, Layers, Axis, Rank, Unbounded, Overflow}
use Rattle.layer_join.proofs.SlidLaws.{slid_kinds, slid_are_views, slid_last}
use Rattle.layer_join.proofs.PlacedLaws.{placed_kinds, placed_are_views, length-placed_from, placed_last}

pub if_ok : {A E : Type 0} (P Q : A → Type 0) → ((x : A) → P x → Q x) → (r : Result A E) → IfOk r P → IfOk r Q
if_ok P Q f (Ok x) p = f x p
if_ok P Q f (Err e) p = p

-- no reason of two
pub first_none : (a b : Option JoinError) → if_none a b ≡ None → a ≡ None
first_none None b e = refl
first_none (Some x) b e = absurd (let no_such : ⊥ = cc in no_such)

pub second_none : (a b : Option JoinError) → if_none a b ≡ None → b ≡ None
second_none None b e = e
second_none (Some x) b e = absurd (let no_such : ⊥ = cc in no_such)

no_layer : (cause : ℕ → JoinError) (o : Option ℕ) → at_layer cause o ≡ None → o ≡ None
no_layer cause None e = refl
no_layer cause (Some k) e = absurd (let no_such : ⊥ = cc in no_such)

not_so : (b : Bool) (x : JoinError) → only_if b x ≡ None → b ≡ false
not_so false x e = refl
not_so true x e = absurd (let no_such : ⊥ = cc in no_such)

pub none_unlike : (layers : List View) → unlike_refusal layers ≡ None → first_unlike layers ≡ None
none_unlike layers e = no_layer Layers (first_unlike layers) (second_none (only_if (is_too_deep layers) Depth) (at_layer Layers (first_unlike layers)) e)

-- views that can be put behind one another
pub record CanConcat (axis : ℕ) (layers : List View) : Type 0 where
  pub alike : first_unlike layers ≡ None
  pub has : axis < rank_of layers
  pub finite : first_infinite axis layers ≡ None
  pub able : first_stuck (start_of axis layers) 0 axis layers ≡ None

pub can_concat : (axis : ℕ) (layers : List View) → concat_refusal axis layers ≡ None → CanConcat axis layers
can_concat axis layers e =
    let infinite = at_layer Unbounded (first_infinite axis layers) in
    let stuck = at_layer Overflow (first_stuck (start_of axis layers) 0 axis layers) in
    let no_axis = only_if (not (nat_lt axis (rank_of layers))) Axis in
    let one = second_none (unlike_refusal layers) (if_none no_axis (if_none infinite stuck)) e in
    let two = second_none no_axis (if_none infinite stuck) one in
    let test = not_so (not (nat_lt axis (rank_of layers))) Axis (first_none no_axis (if_none infinite stuck) one) in
    record {
      alike = none_unlike layers (first_none (unlike_refusal layers) (if_none no_axis (if_none infinite stuck)) e);
      has = below (nat_lt axis (rank_of layers)) refl test;
      finite = no_layer Unbounded (first_infinite axis layers) (first_none infinite stuck two);
      able = no_layer Overflow (first_stuck (start_of axis layers) 0 axis layers) (second_none infinite stuck two);
    }
  where
    below : (b : Bool) → nat_lt axis (rank_of layers) ≡ b → not b ≡ false → axis < rank_of layers
    below true f g = grind (arith, nat_tests, f)
    below false f g = absurd (let no_such : ⊥ = cc in no_such)

-- views that can be put beside one another
pub record CanStack (axis : ℕ) (layers : List View) : Type 0 where
  pub alike : first_unlike layers ≡ None
  pub has : axis ≤ rank_of layers
  pub small : rank_of layers < 32

pub can_stack : (axis : ℕ) (layers : List View) → stack_refusal axis layers ≡ None → CanStack axis layers
can_stack axis layers e =
    let no_axis = only_if (nat_lt (rank_of layers) axis) Axis in
    let large = only_if (nat_lt 32 (rank_of layers + 1)) Rank in
    let one = second_none (unlike_refusal layers) (if_none no_axis large) e in
    let a = not_so (nat_lt (rank_of layers) axis) Axis (first_none no_axis large one) in
    let b = not_so (nat_lt 32 (rank_of layers + 1)) Rank (second_none no_axis large one) in
    record {
      alike = none_unlike layers (first_none (unlike_refusal layers) (if_none no_axis large) e);
      has = grind (arith, nat_tests, a);
      small = grind (arith, nat_tests, b);
    }

pub rank-domain : (layers : List View) → length (stacked_domain layers).dims ≡ rank_of layers
rank-domain [] = refl
rank-domain (v ∷ vs) = length-stacked_dims 0 (look_of v).dims (v ∷ vs)

pub alike_layers : (layers : List View) → 0 < length layers → length layers ≤ 256 → first_unlike layers ≡ None → AreLayers layers (rank_of layers)
alike_layers layers some few alike = layers_alike layers (rank_of layers) some few alike (sym (rank-domain layers))

-- each of views of one rank has what their rank has
pub all_ranks : (P : ℕ → Type 0) (dtype : Dtype) (rank : ℕ) (views : List View) → AllByRecursion (HasKind dtype rank) views → P rank → AllByRecursion (λ v. P (length (look_of v).dims)) views
all_ranks P dtype rank [] all p = tt
all_ranks P dtype rank (v ∷ vs) all p = (subst P (sym all.0.rank_is) p, all_ranks P dtype rank vs all.1 p)

like : (dtype : Dtype) (rank : ℕ) (v w : View) → HasKind dtype rank v → HasKind dtype rank w → is_like v w ≡ true
like dtype rank v w a b =
    both_true (bytes_eq (dtype_name (look_of w).dtype) (dtype_name (look_of v).dtype)) (length (look_of w).dims == length (look_of v).dims)
    ((bytes_eq-Decides (dtype_name (look_of w).dtype) (dtype_name (look_of v).dtype)).1 (ap dtype_name (b.dtype_is ∙ sym a.dtype_is)))
    (let r = a.rank_is in let s = b.rank_is in grind (arith, nat_tests, r, s))

all_like : (dtype : Dtype) (rank k : ℕ) (v : View) (views : List View) → HasKind dtype rank v → AllByRecursion (HasKind dtype rank) views → position_from (λ w. not (is_like v w)) k views ≡ None
all_like dtype rank k v [] h all = refl
all_like dtype rank k v (w ∷ ws) h all =
    else_from (not (is_like v w)) (Some k) (position_from (λ w. not (is_like v w)) (k + 1) ws) (ap not (like dtype rank v w h all.0)) ∙ all_like dtype rank (k + 1) v ws h all.1

-- views of one kind are like the first of them
pub none_unlike-kinds : (dtype : Dtype) (rank : ℕ) (views : List View) → AllByRecursion (HasKind dtype rank) views → first_unlike views ≡ None
none_unlike-kinds dtype rank [] all = refl
none_unlike-kinds dtype rank (v ∷ vs) all = all_like dtype rank 0 v (v ∷ vs) all.0 all

rank-kinds : (dtype : Dtype) (rank : ℕ) (views : List View) → 0 < length views → AllByRecursion (HasKind dtype rank) views → rank_of views ≡ rank
rank-kinds dtype rank [] some all = absurd (omega (arith, some))
rank-kinds dtype rank (v ∷ vs) some all = all.0.rank_is

length-shifts_from : (axis : ℕ) (views : List View) (next : ℤ) → length (shifts_from next axis views) ≡ length views
length-shifts_from axis [] next = refl
length-shifts_from axis (v ∷ vs) next = ap suc (length-shifts_from axis vs (behind next axis v))

length-pairs : {A : Type 0} (f : ℤ × View → A) (shifts : List ℤ) (views : List View) → length shifts ≡ length views → length (map f (zip shifts views)) ≡ length views
length-pairs f [] [] same = refl
length-pairs f [] (v ∷ vs) same = absurd (omega (arith, same))
length-pairs f (x ∷ xs) [] same = absurd (omega (arith, same))
length-pairs f (x ∷ xs) (v ∷ vs) same = ap suc (length-pairs f xs vs (omega (arith, same)))

pub length-moved : (axis : ℕ) (layers : List View) → length (moved_layers axis layers) ≡ length layers
length-moved axis layers = length-pairs _ (shifts axis layers) layers (length-shifts_from axis layers (start_of axis layers))

-- moved views are views of one kind
pub record AreMoved (axis : ℕ) (layers : List View) : Type 0 where
  pub count : length (moved_layers axis layers) ≡ length layers
  pub alike : first_unlike (moved_layers axis layers) ≡ None
  pub views : AllByRecursion IsView (moved_layers axis layers)
  pub rank : length (stacked_domain (moved_layers axis layers)).dims ≡ rank_of layers

pub moved_are : (axis : ℕ) (layers : List View) → 0 < length layers → length layers ≤ 256 → first_unlike layers ≡ None → AllByRecursion IsView layers → AreMoved axis layers
moved_are axis layers some few alike views =
    let node = alike_layers layers some few alike in
    let kinds = slid_kinds axis (shifts axis layers) layers node.dtype (rank_of layers) node.alike in
    let count = length-moved axis layers in
    record {
      count = count;
      alike = none_unlike-kinds node.dtype (rank_of layers) (moved_layers axis layers) kinds;
      views = slid_are_views axis (shifts axis layers) layers views;
      rank = rank-domain (moved_layers axis layers) ∙ rank-kinds node.dtype (rank_of layers) (moved_layers axis layers) (omega (arith, some, count)) kinds;
    }

dims-Stack : (layers : List View) (domain : Domain) → (look_of (view.Stack layers (identity_over domain))).dims ≡ domain.dims
dims-Stack layers domain = ap (λ (l : Look). l.dims) (look-Stack layers (identity_over domain))

domain-Stack : (layers : List View) (domain : Domain) → (own_transform (view.Stack layers (identity_over domain))).domain ≡ domain
domain-Stack layers domain = ap (λ (t : DomainAndMaps). t.domain) (own-Stack layers (identity_over domain))

ranks-Stack : (layers : List View) (domain : Domain) (index : List ℤ) → length index ≡ length domain.dims → length index ≡ length (look_of (view.Stack layers (identity_over domain))).dims
ranks-Stack layers domain index same = same ∙ sym (ap (λ (ds : List Bounds). length ds) (dims-Stack layers domain))

-- a stack over the least domain around its layers lays them over one another
pub overlaid : (layers : List View) → IsJoined joins.overlay layers (view.Stack layers (identity_over (stacked_domain layers)))
overlaid layers = record {
  domain = domain-Stack layers (stacked_domain layers);
  targets = λ index same. last_targets layers (stacked_domain layers) index (ranks-Stack layers (stacked_domain layers) index same);
}

-- a stack of moved views puts them behind one another
pub concatenated : (axis : ℕ) (layers : List View) → AreMoved axis layers → axis < rank_of layers
    → IsJoined (joins.concat axis) layers (view.Stack (moved_layers axis layers) (identity_over (stacked_domain (moved_layers axis layers))))
concatenated axis layers m has = record {
  domain = domain-Stack (moved_layers axis layers) (stacked_domain (moved_layers axis layers));
  targets = λ index same.
      last_targets (moved_layers axis layers) (stacked_domain (moved_layers axis layers)) index (ranks-Stack (moved_layers axis layers) (stacked_domain (moved_layers axis layers)) index same)
      ∙ slid_last axis (shifts axis layers) layers index (Err _) (let r = m.rank in omega (arith, has, same, r));
}

-- a stack of placed views puts them beside one another
pub beside : (axis : ℕ) (layers : List View) → 0 < length layers → length layers ≤ 256 → CanStack axis layers
    → IsJoined (joins.stack axis) layers (view.Stack (placed_from 0 axis layers) (identity_over (joined_domain (joins.stack axis) layers)))
beside axis layers some few can =
    let domain = joined_domain (joins.stack axis) layers in
    let node = alike_layers layers some few can.alike in
    let inside = can.has in
    let rank = rank-domain layers in
    let count = length-insert (stacked_domain layers).dims axis (from_on (pos 0) (length layers)) (omega (arith, inside, rank)) in
    record {
      domain = domain-Stack (placed_from 0 axis layers) domain;
      targets = λ index same.
          last_targets (placed_from 0 axis layers) domain index (ranks-Stack (placed_from 0 axis layers) domain index same)
          ∙ placed_last axis layers index (all_ranks (λ n. axis ≤ n) node.dtype (rank_of layers) layers node.alike inside) (omega (arith, inside, same, count, rank)) few;
    }

pub beside_view : (axis : ℕ) (layers : List View) → 0 < length layers → length layers ≤ 256 → CanStack axis layers → AllByRecursion IsView layers
    → IsView (view.Stack (placed_from 0 axis layers) (identity_over (joined_domain (joins.stack axis) layers)))
beside_view axis layers some few can views =
    let node = alike_layers layers some few can.alike in
    let inside = can.has in
    let domain = joined_domain (joins.stack axis) layers in
    let rank = rank-domain layers in
    let n = length-placed_from axis 0 layers in
    let count : length (identity_over domain).maps ≡ rank_of layers + 1 =
    length-identity 0 domain.dims ∙ length-insert (stacked_domain layers).dims axis (from_on (pos 0) (length layers)) (omega (arith, inside, rank)) ∙ ap (λ k. k + 1) rank in
    stack_view (placed_from 0 axis layers) (identity_over domain) (placed_are_views axis 0 layers views)
    (record {
      some = omega (arith, some, n);
      few = omega (arith, few, n);
      dtype = node.dtype;
      alike = subst (λ k. AllByRecursion (HasKind node.dtype k) (placed_from 0 axis layers)) (sym count) (placed_kinds axis 0 layers node.dtype (rank_of layers) inside node.alike);
    })
