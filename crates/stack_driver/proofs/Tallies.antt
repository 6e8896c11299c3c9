-- Casts, leaves and depth of a view, by its form and layer by layer.
use Rattle.std.proofs.Common.{◌≡◌, ◌∙◌, ℕ, ◌+◌, ◌<◌, min, max, List, [], ◌∷◌, ◌++◌, length, map, take, get_or, refl, sym, ap, subst, arith}
use Rattle.std.proofs.lemmas.List.{take_more, map-append}
use Rattle.cast_driver.specs.declared.Dtype.{Dtype}
use Rattle.transform_composition.specs.Transforms.{DomainAndMaps}
use Rattle.stack_driver.specs.References.{Reference}
use Rattle.stack_driver.specs.Targets.{LeadTo}
use Rattle.stack_driver.specs.Counts.{Shown, first_dtype, shown_step, casts_of, sum_of, leaves_of, greatest_of, depth_of}
use Rattle.stack_driver.specs.Views.{Look, look_of}
use Rattle.stack_driver.specs.declared.view.View.{View, fold-View, ind-View, roll-View, map-View, fold-roll-View}
use Rattle.stack_driver.specs.declared.view.View.TheOpen.{View-F}
use Rattle.stack_driver.specs.declared.view.View.TheVariants as view
use Rattle.stack_driver.proofs.Looks.{look-Leaf, look-Cast, look-Stack}

abbrev shown_of : View → Shown
shown_of = fold-View Shown shown_step

pub shown-Leaf : (array : Reference) (t : DomainAndMaps) → shown_of (view.Leaf array t) ≡ shown_step (View-F.Leaf array t)
shown-Leaf array t = ap shown_of (sym (view.rolls-Leaf array t)) ∙ fold-roll-View Shown shown_step (View-F.Leaf array t)

shown-Cast : (to : Dtype) (base : View) → shown_of (view.Cast to base) ≡ shown_step (View-F.Cast to (shown_of base))
shown-Cast to base = ap shown_of (sym (view.rolls-Cast to base)) ∙ fold-roll-View Shown shown_step (View-F.Cast to base)

pub shown-Stack : (layers : List View) (t : DomainAndMaps) → shown_of (view.Stack layers t) ≡ shown_step (View-F.Stack (map shown_of layers) t)
shown-Stack layers t = ap shown_of (sym (view.rolls-Stack layers t)) ∙ fold-roll-View Shown shown_step (View-F.Stack layers t)

abbrev Same : View → Type 0
Same v = (shown_of v).dtype ≡ (look_of v).dtype

same-Stack : (layers : List View) (t : DomainAndMaps) → (first_dtype (map shown_of layers)) ≡ (look_of (view.Stack layers t)).dtype → Same (view.Stack layers t)
same-Stack layers t e = ap (λ (s : Shown). s.dtype) (shown-Stack layers t) ∙ e

first_same : (ys : List ((z : View) × Same z)) (t : DomainAndMaps) → first_dtype (map shown_of (map (λ y. y.0) ys)) ≡ (look_of (view.Stack (map (λ y. y.0) ys) t)).dtype
first_same [] t = sym (ap (λ (l : Look). l.dtype) (look-Stack [] t))
first_same (y ∷ ys) t = y.1 ∙ sym (ap (λ (l : Look). l.dtype) (look-Stack (map (λ y. y.0) (y ∷ ys)) t))

same_step : (x : View-F View) (y : View-F ((z : View) × Same z)) → map-View ((z : View) × Same z) View (λ e. e.0) y ≡ x → Same (roll-View x)
same_step x (View-F.Leaf array u) e =
    subst (λ z. Same (roll-View z)) e (subst Same (sym (view.rolls-Leaf array u)) (ap (λ (s : Shown). s.dtype) (shown-Leaf array u) ∙ sym (ap (λ (l : Look). l.dtype) (look-Leaf array u))))
same_step x (View-F.Cast to p) e =
    subst (λ z. Same (roll-View z)) e (subst Same (sym (view.rolls-Cast to p.0)) (ap (λ (s : Shown). s.dtype) (shown-Cast to p.0) ∙ sym (ap (λ (l : Look). l.dtype) (look-Cast to p.0))))
same_step x (View-F.Stack ys u) e =
    subst (λ z. Same (roll-View z)) e (subst Same (sym (view.rolls-Stack (map (λ y. y.0) ys) u)) (same-Stack (map (λ y. y.0) ys) u (first_same ys u)))

same : (v : View) → Same v
same v = ind-View Same same_step v

-- a cast's casts are its base's and one more
pub casts-Cast : (to : Dtype) (base : View) → casts_of (view.Cast to base) ≡ casts_of base ++ record { from = (look_of base).dtype; to = to } ∷ []
casts-Cast to base =
    ap (λ (s : Shown). s.casts) (shown-Cast to base) ∙ ap (λ (d : Dtype). casts_of base ++ record { from = d; to = to } ∷ []) (same base)

pub no_casts : (dtype : Dtype) → LeadTo [] dtype
no_casts dtype = record { base = dtype; begins = tt; ends = refl }

sum-append : (xs : List ℕ) (n : ℕ) → sum_of (xs ++ n ∷ []) ≡ sum_of xs + n
sum-append [] n = omega arith
sum-append (x ∷ xs) n = let rest = sum-append xs n in rw rest (omega arith)

greatest-append : (xs : List ℕ) (n : ℕ) → greatest_of (xs ++ n ∷ []) ≡ max (greatest_of xs) n
greatest-append [] n = omega arith
greatest-append (x ∷ xs) n = let rest = greatest-append xs n in rw rest (omega arith)

one_more : {X : Type 0} (f : X → ℕ) (xs : List X) (k : ℕ) (d : X) → k < length xs → d ≡ get_or xs k d → map f (take (k + 1) xs) ≡ map f (take k xs) ++ f d ∷ []
one_more f xs k d below is = ap (map f) (take_more xs k d below ∙ ap (λ x. take k xs ++ x ∷ []) (sym is)) ∙ map-append f (take k xs) (d ∷ [])

capped_sum : (s n m : ℕ) → min (min s m + min n m) m ≡ min (s + n) m
capped_sum s n m = omega arith

capped_max : (s n m : ℕ) → max (min s m) (min n m) ≡ min (max s n) m
capped_max s n m = omega arith

-- one layer more
pub leaves-more : (layers : List View) (k : ℕ) (d : View) (m : ℕ) → k < length layers → d ≡ get_or layers k d
    → min (min (sum_of (map leaves_of (take k layers))) m + min (leaves_of d) m) m ≡ min (sum_of (map leaves_of (take (k + 1) layers))) m
leaves-more layers k d m below is =
    capped_sum (sum_of (map leaves_of (take k layers))) (leaves_of d) m
    ∙ ap (λ n. min n m) (sym (ap sum_of (one_more leaves_of layers k d below is) ∙ sum-append (map leaves_of (take k layers)) (leaves_of d)))

pub depth-more : (layers : List View) (k : ℕ) (d : View) (m : ℕ) → k < length layers → d ≡ get_or layers k d
    → max (min (greatest_of (map depth_of (take k layers))) m) (min (depth_of d) m) ≡ min (greatest_of (map depth_of (take (k + 1) layers))) m
depth-more layers k d m below is =
    capped_max (greatest_of (map depth_of (take k layers))) (depth_of d) m
    ∙ ap (λ n. min n m) (sym (ap greatest_of (one_more depth_of layers k d below is) ∙ greatest-append (map depth_of (take k layers)) (depth_of d)))
