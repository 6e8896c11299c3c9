-- A cell's target is that of the leaf in which it lands.
use Rattle.std.proofs.Common.{◌≡◌, ◌<◌, ◌∙◌, ℕ, ◌+◌, ℤ, Bool, true, false, List, [], ◌∷◌, ◌++◌, length, map, get_or, Result, Ok, Err, refl, sym, ap, subst, arith, length-append, append_assoc}
use Rattle.std.specs.Prelude.{if◌then◌else◌}
use Rattle.std.proofs.lemmas.List.{get_or_append_left, get_or-append-add, get_or-map, length-map}
use Rattle.cast_driver.specs.declared.cast.Cast.{Cast}
use Rattle.cells.specs.declared.dtype.Dtype.{Dtype}
use Rattle.index_transform.specs.Transforms.{DomainAndMaps}
use Rattle.index_transform.specs.Values.{value_at}
use Rattle.stack_driver.specs.Counts.{leaves_step, sum_of, leaves_of as leaf_count}
use Rattle.stack_driver.specs.References.{Reference}
use Rattle.stack_driver.specs.Targets.{Target, in_dim, in_shape, has_index}
use Rattle.stack_driver.specs.Views.{Look, look_of, leaf_target, cast_target, last_target, layers_dtype}
use Rattle.stack_driver.specs.declared.error.TargetError.{TargetError}
use Rattle.stack_driver.specs.declared.error.TargetError.TheVariants.{Uncovered}
use Rattle.stack_driver.specs.declared.view.View.{View, ind-View, roll-View, map-View, fold-roll-View}
use Rattle.stack_driver.specs.declared.view.View.TheOpen.{View-F}
use Rattle.stack_driver.specs.declared.view.View.TheVariants as view
use Rattle.stack_driver.proofs.Laws.{look-Leaf, look-Cast, look-Stack}
use Rattle.stack_targets.specs.Landings.{Seen, Landing, Ground, ground_of, ground_dtype, first_landing, behind_leaves, last_landing, all_leaves, with_cast, no_leaf, target_among}
use Rattle.stack_targets.proofs.Grounds.{ground-Leaf, ground-Cast, ground-Stack}

leaf_at : List Seen → ℕ → Seen
leaf_at leaves n = get_or leaves n no_leaf

-- a cell lands in one of the leaves and its target is the leaf's; or both have one fault
abbrev pub Meets : List Seen → Result Target TargetError → Result Landing TargetError → Type 0
Meets leaves t (Ok l) = (l.leaf < length leaves) × (t ≡ Ok (target_among leaves l)) × (length l.index ≡ length (get_or leaves l.leaf no_leaf).array.shape)
Meets leaves t (Err e) = t ≡ Err e

-- a view's ground is that of its look
pub record Agrees (v : View) : Type 0 where
  pub dims : (ground_of v).dims ≡ (look_of v).dims
  pub dtype : (ground_of v).dtype ≡ (look_of v).dtype
  pub leaves : leaf_count v ≡ length (ground_of v).leaves
  pub meets : (x : List ℤ) → Meets (ground_of v).leaves ((look_of v).target x) ((ground_of v).landing x)

-- the rank of an index vector inside a shape
one_dim : (x : ℤ) (size dim n : ℕ) (rest : Result (List ℕ) ℕ) (index : List ℕ) → ((more : List ℕ) → rest ≡ Ok more → length more ≡ n) → in_dim x size dim rest ≡ Ok index → length index ≡ n + 1
one_dim x size dim n rest index all is = grind (arith, all, is)

pub length-in_shape : (dim : ℕ) (xs : List ℤ) (shape index : List ℕ) → in_shape dim xs shape ≡ Ok index → length index ≡ length shape
length-in_shape dim [] [] index is = let same : [] ≡ index = cc in ap length (sym same)
length-in_shape dim [] (size ∷ shape) index is = absurd (let no_such : ⊥ = cc in no_such)
length-in_shape dim (x ∷ xs) [] index is = absurd (let no_such : ⊥ = cc in no_such)
length-in_shape dim (x ∷ xs) (size ∷ shape) index is =
    let here = one_dim x size dim (length shape) (in_shape (dim + 1) xs shape) index (λ more e. length-in_shape (dim + 1) xs shape more e) is in omega (arith, here)

leaf_meets : (array : Reference) (r : Result (List ℕ) ℕ) → ((index : List ℕ) → r ≡ Ok index → length index ≡ length array.shape) → Meets (record { array = array; casts = [] } ∷ []) (leaf_target array r) (first_landing r)
leaf_meets array (Ok index) rank = (omega arith, refl, rank index refl)
leaf_meets array (Err dim) rank = refl

cast_meets : (c : Cast) (leaves : List Seen) (t : Result Target TargetError) (r : Result Landing TargetError) → Meets leaves t r → Meets (map (with_cast c) leaves) (cast_target c t) r
cast_meets c leaves t (Ok l) m =
    let at : get_or (map (with_cast c) leaves) l.leaf no_leaf ≡ with_cast c (get_or leaves l.leaf no_leaf) = get_or-map (with_cast c) leaves l.leaf no_leaf no_leaf m.0 in
    let inside : l.leaf < length (map (with_cast c) leaves) = let n = length-map leaves (with_cast c) in omega (arith, m.0, n) in
    (inside, ap (cast_target c) m.1 ∙ ap (λ (s : Seen). Ok (record { cell = record { array = s.array.number; index = l.index }; casts = s.casts })) (sym at), m.2 ∙ ap (λ (s : Seen). length s.array.shape) (sym at))
cast_meets c leaves t (Err e) m = ap (cast_target c) m

-- the leaves of one layer among all
behind_meets : (done leaves rest total : List Seen) → done ++ (leaves ++ rest) ≡ total → (t : Result Target TargetError) (r : Result Landing TargetError) → Meets leaves t r → Meets total t (behind_leaves (length done) r)
behind_meets done leaves rest total is t (Ok l) m =
    let at : get_or total (length done + l.leaf) no_leaf ≡ get_or leaves l.leaf no_leaf =
    ap (λ xs. get_or xs (length done + l.leaf) no_leaf) (sym is) ∙ get_or-append-add done (leaves ++ rest) l.leaf no_leaf ∙ get_or_append_left leaves rest no_leaf l.leaf m.0 in
    let inside : length done + l.leaf < length total = let n = ap length (sym is) ∙ length-append done (leaves ++ rest) in let k = length-append leaves rest in omega (arith, m.0, n, k) in
    (inside, m.1 ∙ ap (λ (s : Seen). Ok (record { cell = record { array = s.array.number; index = l.index }; casts = s.casts })) (sym at), m.2 ∙ ap (λ (s : Seen). length s.array.shape) (sym at))
behind_meets done leaves rest total is t (Err e) m = m

chosen : (total : List Seen) (b : Bool) (t u : Result Target TargetError) (r s : Result Landing TargetError) → Meets total t r → Meets total u s → Meets total (if b then t else u) (if b then r else s)
chosen total true t u r s m n = m
chosen total false t u r s m n = n

-- the last layer that has an index vector, among leaves and among targets
last_meets : (ys : List ((z : View) × Agrees z)) (x : List ℤ) (done total : List Seen) → done ++ all_leaves (map ground_of (map (λ y. y.0) ys)) ≡ total → (t : Result Target TargetError) (r : Result Landing TargetError)
    → Meets total t r → Meets total (last_target (map look_of (map (λ y. y.0) ys)) x t) (last_landing (length done) (map ground_of (map (λ y. y.0) ys)) x r)
last_meets [] x done total is t r m = m
last_meets (y ∷ ys) x done total is t r m =
    let g = ground_of y.0 in
    let l = look_of y.0 in
    let rest = all_leaves (map ground_of (map (λ y. y.0) ys)) in
    let mine = behind_meets done g.leaves rest total is (l.target x) (g.landing x) (y.1.meets x) in
    let here = chosen total (has_index g.dims x) (l.target x) t (behind_leaves (length done) (g.landing x)) r mine m in
    let both = subst (λ ds. Meets total (if has_index ds x then l.target x else t) (if has_index g.dims x then behind_leaves (length done) (g.landing x) else r)) y.1.dims here in
    let more = last_meets ys x (done ++ g.leaves) total (append_assoc done g.leaves rest ∙ is) (if has_index l.dims x then l.target x else t) (if has_index g.dims x then behind_leaves (length done) (g.landing x) else r) both in
    subst (λ n. Meets total (last_target (map look_of (map (λ y. y.0) ys)) x (if has_index l.dims x then l.target x else t)) (last_landing n (map ground_of (map (λ y. y.0) ys)) x (if has_index g.dims x then behind_leaves (length done) (g.landing x) else r)))
    (length-append done g.leaves) more

all_counted : (ys : List ((z : View) × Agrees z)) → sum_of (map leaf_count (map (λ y. y.0) ys)) ≡ length (all_leaves (map ground_of (map (λ y. y.0) ys)))
all_counted [] = refl
all_counted (y ∷ ys) = let rest = all_counted ys in let n = length-append (ground_of y.0).leaves (all_leaves (map ground_of (map (λ y. y.0) ys))) in let mine = y.1.leaves in omega (arith, rest, n, mine)

first_dtype : (ys : List ((z : View) × Agrees z)) → ground_dtype (map ground_of (map (λ y. y.0) ys)) ≡ layers_dtype (map look_of (map (λ y. y.0) ys))
first_dtype [] = refl
first_dtype (y ∷ ys) = y.1.dtype

agrees-Leaf : (array : Reference) (t : DomainAndMaps) → Agrees (view.Leaf array t)
agrees-Leaf array t =
    let g = ground-Leaf array t in
    let l = look-Leaf array t in
    record {
      dims = ap (λ (h : Ground). h.dims) g ∙ sym (ap (λ (k : Look). k.dims) l);
      dtype = ap (λ (h : Ground). h.dtype) g ∙ sym (ap (λ (k : Look). k.dtype) l);
      leaves = ap leaf_count (sym (view.rolls-Leaf array t)) ∙ fold-roll-View ℕ leaves_step (View-F.Leaf array t) ∙ sym (ap (λ (h : Ground). length h.leaves) g);
      meets = λ x.
          subst (λ (h : Ground). Meets h.leaves ((look_of (view.Leaf array t)).target x) (h.landing x)) (sym g)
          (subst (λ (k : Look). Meets (record { array = array; casts = [] } ∷ []) (k.target x) (first_landing (in_shape 0 (value_at t x) array.shape))) (sym l)
          (leaf_meets array (in_shape 0 (value_at t x) array.shape) (λ index e. length-in_shape 0 (value_at t x) array.shape index e)));
    }

agrees-Cast : (to : Dtype) (base : View) → Agrees base → Agrees (view.Cast to base)
agrees-Cast to base a =
    let g = ground-Cast to base in
    let l = look-Cast to base in
    let c : Cast = record { from = (ground_of base).dtype; to = to } in
    let d : Cast = record { from = (look_of base).dtype; to = to } in
    let same : c ≡ d = λ i. record { from = a.dtype i; to = to } in
    record {
      dims = ap (λ (h : Ground). h.dims) g ∙ a.dims ∙ sym (ap (λ (k : Look). k.dims) l);
      dtype = ap (λ (h : Ground). h.dtype) g ∙ sym (ap (λ (k : Look). k.dtype) l);
      leaves = ap leaf_count (sym (view.rolls-Cast to base)) ∙ fold-roll-View ℕ leaves_step (View-F.Cast to base) ∙ a.leaves ∙ sym (length-map (ground_of base).leaves (with_cast c)) ∙ sym (ap (λ (h : Ground). length h.leaves) g);
      meets = λ x.
          subst (λ (h : Ground). Meets h.leaves ((look_of (view.Cast to base)).target x) (h.landing x)) (sym g)
          (subst (λ (k : Look). Meets (map (with_cast c) (ground_of base).leaves) (k.target x) ((ground_of base).landing x)) (sym l)
          (subst (λ e. Meets (map (with_cast c) (ground_of base).leaves) (cast_target e ((look_of base).target x)) ((ground_of base).landing x)) same
          (cast_meets c (ground_of base).leaves ((look_of base).target x) ((ground_of base).landing x) (a.meets x))));
    }

agrees-Stack : (ys : List ((z : View) × Agrees z)) (t : DomainAndMaps) → Agrees (view.Stack (map (λ y. y.0) ys) t)
agrees-Stack ys t =
    let layers = map (λ y. y.0) ys in
    let g = ground-Stack layers t in
    let l = look-Stack layers t in
    record {
      dims = ap (λ (h : Ground). h.dims) g ∙ sym (ap (λ (k : Look). k.dims) l);
      dtype = ap (λ (h : Ground). h.dtype) g ∙ first_dtype ys ∙ sym (ap (λ (k : Look). k.dtype) l);
      leaves = ap leaf_count (sym (view.rolls-Stack layers t)) ∙ fold-roll-View ℕ leaves_step (View-F.Stack layers t) ∙ all_counted ys ∙ sym (ap (λ (h : Ground). length h.leaves) g);
      meets = λ x.
          subst (λ (h : Ground). Meets h.leaves ((look_of (view.Stack layers t)).target x) (h.landing x)) (sym g)
          (subst (λ (k : Look). Meets (all_leaves (map ground_of layers)) (k.target x) (last_landing 0 (map ground_of layers) (value_at t x) (Err Uncovered))) (sym l)
          (last_meets ys (value_at t x) [] (all_leaves (map ground_of layers)) refl (Err Uncovered) (Err Uncovered) refl));
    }

agrees_step : (x : View-F View) (y : View-F ((z : View) × Agrees z)) → map-View ((z : View) × Agrees z) View (λ e. e.0) y ≡ x → Agrees (roll-View x)
agrees_step x (View-F.Leaf array u) e = subst (λ z. Agrees (roll-View z)) e (subst Agrees (sym (view.rolls-Leaf array u)) (agrees-Leaf array u))
agrees_step x (View-F.Cast to p) e = subst (λ z. Agrees (roll-View z)) e (subst Agrees (sym (view.rolls-Cast to p.0)) (agrees-Cast to p.0 p.1))
agrees_step x (View-F.Stack ys u) e = subst (λ z. Agrees (roll-View z)) e (subst Agrees (sym (view.rolls-Stack (map (λ y. y.0) ys) u)) (agrees-Stack ys u))

-- where a cell lands tells its target
pub agrees : (v : View) → Agrees v
agrees v = ind-View Agrees agrees_step v
