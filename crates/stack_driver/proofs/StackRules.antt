-- The domain of a stack: what is done of it after some dimensions, and that it keeps the rules.
use Rattle.std.proofs.Common.{◌≡◌, ◌∙◌, ◌≤◌, ◌<◌, ℕ, get_or, take, subst, ◌+◌, ◌==◌, ◌&&◌, ◌||◌, cond, nat_le, nat_eq, Bool, true, false, not, List, [], ◌∷◌, Some, None, ◌++◌, length, refl, sym, ap, arith}
use Rattle.std.proofs.lemmas.Bool.Decides.{nat_tests}
use Rattle.std.specs.List.{list_any, list_all, AllByRecursion, position_from}
use Rattle.std.specs.Cmp.Lexicographic.{pointwise}
use Rattle.transform_composition.specs.Bounds.{Bounds}
use Rattle.transform_composition.specs.Around.{around_all}
use Rattle.std.proofs.lemmas.List.{take_more, length-take-le}
use Rattle.std.specs.Str.{bytes_eq}
use Rattle.std.proofs.lemmas.Slice.Eq.{bytes_eq-Decides}
use Rattle.cast_driver.specs.DtypeNames.{dtype_name, dtype_named}
use Rattle.cast_driver.specs.declared.Dtype.{Dtype}
use Rattle.transform_composition.proofs.Laws.{list_all-position_from}
use Rattle.stack_driver.specs.Conditions.{HasKind, AreLayers}
use Rattle.stack_driver.specs.Views.{look_of}
use Rattle.transform_composition.specs.Maps.{are_labels}
use Rattle.transform_composition.specs.Transforms.{DomainAndMaps, IsDomain, IsTransform}
use Rattle.cast_driver.proofs.Laws.{both, both_false, dtype_named-dtype_name}
use Rattle.stack_driver.specs.Stacks.{column, stacked_dims, has_label, stacked_labels, stacked_domain, is_like, first_unlike}
use Rattle.stack_driver.specs.declared.view.View.{View}

-- one dimension more
pub stacked_dims-more : (k : ℕ) (dims : List Bounds) (dim : Bounds) (layers : List View)
    → stacked_dims k (dims ++ dim ∷ []) layers ≡ stacked_dims k dims layers ++ around_all (column (k + length dims) dim layers) ∷ []
stacked_dims-more k [] dim layers = ap (λ n. around_all (column n dim layers) ∷ []) (omega arith)
stacked_dims-more k (d ∷ dims) dim layers =
    ap (λ ds. around_all (column k d layers) ∷ ds) (stacked_dims-more (k + 1) dims dim layers ∙ ap (λ n. stacked_dims (k + 1) dims layers ++ around_all (column n dim layers) ∷ []) (omega arith))

-- one label more
pub stacked_labels-more : (k : ℕ) (labels : List (List ℕ)) (label : List ℕ) (layers : List View)
    → stacked_labels k (labels ++ label ∷ []) layers
    ≡ stacked_labels k labels layers ++ cond (list_all (has_label (k + length labels) label) layers) label [] ∷ []
stacked_labels-more k [] label layers = ap (λ n. cond (list_all (has_label n label) layers) label [] ∷ []) (omega arith)
stacked_labels-more k (l ∷ labels) label layers =
    ap (λ ls. cond (list_all (has_label k l) layers) l [] ∷ ls) (stacked_labels-more (k + 1) labels label layers ∙ ap (λ n. stacked_labels (k + 1) labels layers ++ cond (list_all (has_label n label) layers) label [] ∷ []) (omega arith))

pub length-stacked_dims : (k : ℕ) (dims : List Bounds) (layers : List View) → length (stacked_dims k dims layers) ≡ length dims
length-stacked_dims k [] layers = refl
length-stacked_dims k (d ∷ dims) layers = let rest = length-stacked_dims (k + 1) dims layers in grind (arith, rest)

pub length-stacked_labels : (k : ℕ) (labels : List (List ℕ)) (layers : List View) → length (stacked_labels k labels layers) ≡ length labels
length-stacked_labels k [] layers = refl
length-stacked_labels k (l ∷ labels) layers = let rest = length-stacked_labels (k + 1) labels layers in grind (arith, rest)

from_zero : (n k : ℕ) → n ≡ k → 0 + n ≡ k
from_zero n k e = omega (arith, e)

-- of a list of dimensions, and of one of labels, the front with one more
pub stacked_dims-step : (dims : List Bounds) (k : ℕ) (dim : Bounds) (layers : List View) → k < length dims → dim ≡ get_or dims k dim
    → stacked_dims 0 (take (k + 1) dims) layers ≡ stacked_dims 0 (take k dims) layers ++ around_all (column k dim layers) ∷ []
stacked_dims-step dims k dim layers below is =
    ap (λ ds. stacked_dims 0 ds layers) (take_more dims k dim below ∙ ap (λ d. take k dims ++ d ∷ []) (sym is))
    ∙ stacked_dims-more 0 (take k dims) dim layers
    ∙ ap (λ n. stacked_dims 0 (take k dims) layers ++ around_all (column n dim layers) ∷ []) (from_zero (length (take k dims)) k (length-take-le k dims (omega (arith, below))))

pub stacked_labels-step : (labels : List (List ℕ)) (k : ℕ) (label : List ℕ) (layers : List View) → k < length labels → label ≡ get_or labels k label
    → stacked_labels 0 (take (k + 1) labels) layers ≡ stacked_labels 0 (take k labels) layers ++ cond (list_all (has_label k label) layers) label [] ∷ []
stacked_labels-step labels k label layers below is =
    ap (λ ls. stacked_labels 0 ls layers) (take_more labels k label below ∙ ap (λ l. take k labels ++ l ∷ []) (sym is))
    ∙ stacked_labels-more 0 (take k labels) label layers
    ∙ ap (λ n. stacked_labels 0 (take k labels) layers ++ cond (list_all (has_label n label) layers) label [] ∷ []) (from_zero (length (take k labels)) k (length-take-le k labels (omega (arith, below))))

-- a label that isn't empty, and doesn't come among others, doesn't come among those of them that stay
none_comes : (x : List ℕ) (k : ℕ) (labels : List (List ℕ)) (layers : List View) → (length x == 0) ≡ false
    → list_any (λ other. pointwise nat_eq other x) labels ≡ false → list_any (λ other. pointwise nat_eq other x) (stacked_labels k labels layers) ≡ false
none_comes x k [] layers some none = refl
none_comes x k (l ∷ labels) layers some none =
    let p = both_false (pointwise nat_eq l x) (list_any (λ other. pointwise nat_eq other x) labels) none in
    told (list_all (has_label k l) layers) p.0 (none_comes x (k + 1) labels layers some p.1)
  where
    empty : (y : List ℕ) → (length y == 0) ≡ false → pointwise nat_eq [] y ≡ false
    empty [] e = absurd (grind (arith, nat_tests, e))
    empty (a ∷ y) e = refl

    told : (b : Bool) → pointwise nat_eq l x ≡ false → list_any (λ other. pointwise nat_eq other x) (stacked_labels (k + 1) labels layers) ≡ false
        → (pointwise nat_eq (cond b l []) x || list_any (λ other. pointwise nat_eq other x) (stacked_labels (k + 1) labels layers)) ≡ false
    told true here rest = rw (here, rest) refl
    told false here rest = rw (empty x some, rest) refl

-- labels of which some are left out differ still
pub are_labels-stacked : (k : ℕ) (labels : List (List ℕ)) (layers : List View) → are_labels labels ≡ true → are_labels (stacked_labels k labels layers) ≡ true
are_labels-stacked k [] layers e = refl
are_labels-stacked k (l ∷ labels) layers e =
    let p = both (nat_le (length l) 64 && (length l == 0 || not (list_any (λ other. pointwise nat_eq other l) labels))) (are_labels labels) e in
    let q = both (nat_le (length l) 64) (length l == 0 || not (list_any (λ other. pointwise nat_eq other l) labels)) p.0 in
    told (list_all (has_label k l) layers) q.0 q.1 (are_labels-stacked (k + 1) labels layers p.1)
  where
    once : (b : Bool) → (length l == 0) ≡ b → (b || not (list_any (λ other. pointwise nat_eq other l) labels)) ≡ true
        → (b || not (list_any (λ other. pointwise nat_eq other l) (stacked_labels (k + 1) labels layers))) ≡ true
    once true f g = refl
    once false f g = other (list_any (λ other. pointwise nat_eq other l) labels) refl g
      where
        other : (c : Bool) → list_any (λ other. pointwise nat_eq other l) labels ≡ c → not c ≡ true
            → not (list_any (λ other. pointwise nat_eq other l) (stacked_labels (k + 1) labels layers)) ≡ true
        other true h i = cc
        other false h i = rw (none_comes l (k + 1) labels layers f h) refl

    told : (b : Bool) → nat_le (length l) 64 ≡ true → (length l == 0 || not (list_any (λ other. pointwise nat_eq other l) labels)) ≡ true
        → are_labels (stacked_labels (k + 1) labels layers) ≡ true
        → (nat_le (length (cond b l [])) 64
        && (length (cond b l []) == 0 || not (list_any (λ other. pointwise nat_eq other (cond b l [])) (stacked_labels (k + 1) labels layers)))
        && are_labels (stacked_labels (k + 1) labels layers)) ≡ true
    told true short differ rest = rw (short, once (length l == 0) refl differ, rest) refl
    told false short differ rest = rw rest refl

-- the domain of a stack, by the domain of its first layer, keeps the rules
pub stacked_rules : (t : DomainAndMaps) (layers : List View) → IsTransform t
    → IsDomain (record { dims = stacked_dims 0 t.domain.dims layers; labels = stacked_labels 0 t.domain.labels layers })
stacked_rules t layers w =
    let p = both (nat_le (length t.domain.dims) 32 && (length t.domain.labels == length t.domain.dims)) (nat_le (length t.maps) 32) w.ranks in
    let q = both (nat_le (length t.domain.dims) 32) (length t.domain.labels == length t.domain.dims) p.0 in
    let few : length t.domain.dims ≤ 32 = grind (arith, nat_tests, q.0) in
    let same : length t.domain.labels ≡ length t.domain.dims = grind (arith, nat_tests, q.1) in
    record {
      rank = subst (λ n. n ≤ 32) (sym (length-stacked_dims 0 t.domain.dims layers)) few;
      same = length-stacked_labels 0 t.domain.labels layers ∙ same ∙ sym (length-stacked_dims 0 t.domain.dims layers);
      labels = are_labels-stacked 0 t.domain.labels layers w.labels;
    }

-- the first view that isn't like the first one, by that one
pub first_unlike-from : (layers : List View) (v : View) → 0 < length layers → v ≡ get_or layers 0 v → position_from (λ w. not (is_like v w)) 0 layers ≡ first_unlike layers
first_unlike-from [] v some is = absurd (omega (arith, some))
first_unlike-from (l ∷ ls) v some is = ap (λ (u : View). position_from (λ w. not (is_like u w)) 0 (l ∷ ls)) is

same_names : (a b : Dtype) → bytes_eq (dtype_name a) (dtype_name b) ≡ true → a ≡ b
same_names a b e = some (sym (dtype_named-dtype_name a) ∙ ap dtype_named ((bytes_eq-Decides (dtype_name a) (dtype_name b)).0 e) ∙ dtype_named-dtype_name b)
  where
    some : Some a ≡ Some b → a ≡ b
    some f = cc

like_kind : (v w : View) → is_like v w ≡ true → HasKind (look_of v).dtype (length (look_of v).dims) w
like_kind v w e =
    let p = both (bytes_eq (dtype_name (look_of w).dtype) (dtype_name (look_of v).dtype)) (length (look_of w).dims == length (look_of v).dims) e in
    record { dtype_is = same_names (look_of w).dtype (look_of v).dtype p.0; rank_is = grind (arith, nat_tests, p.1) }

all_like : (v : View) (layers : List View) → list_all (is_like v) layers ≡ true → AllByRecursion (HasKind (look_of v).dtype (length (look_of v).dims)) layers
all_like v [] e = tt
all_like v (l ∷ ls) e = let p = both (is_like v l) (list_all (is_like v) ls) e in (like_kind v l p.0, all_like v ls p.1)

-- views that are all like the first one make layers
pub layers_alike : (layers : List View) (n : ℕ) → 0 < length layers → length layers ≤ 256 → first_unlike layers ≡ None → n ≡ length (stacked_domain layers).dims → AreLayers layers n
layers_alike [] n some few none rank = absurd (omega (arith, some))
layers_alike (l ∷ ls) n some few none rank =
    let same : n ≡ length (look_of l).dims = rank ∙ length-stacked_dims 0 (look_of l).dims (l ∷ ls) in
    record {
      some = some;
      few = few;
      dtype = (look_of l).dtype;
      alike = subst (λ k. AllByRecursion (HasKind (look_of l).dtype k) (l ∷ ls)) (sym same) (all_like l (l ∷ ls) (list_all-position_from (is_like l) 0 (l ∷ ls) none));
    }
