-- What an axis tells of a stack's layers.
use Rattle.std.proofs.Common.{◌≡◌, ◌<◌, ◌≤◌, ◌≤ℤ◌, ◌∙◌, ℕ, ◌+◌, ◌-◌, zero, suc, ℤ, pos, Bool, true, false, not, ◌&&◌, List, [], ◌∷◌, length, map, drop, get_or, Option, Some, None, refl, sym, ap, subst, arith}
use Rattle.std.specs.Prelude.{int_le, int_lt, if◌then◌else◌, IfSome}
use Rattle.std.proofs.lemmas.Int.{ints}
use Rattle.std.proofs.lemmas.List.{drop_all, drop_more}
use Rattle.cells.proofs.Laws.{both, else_from, then_from}
use Rattle.index_intervals.specs.Bounds.{Bounds, is_index}
use Rattle.stack_driver.specs.Reading.{point}
use Rattle.stack_driver.specs.Targets.{is_member, has_index}
use Rattle.stack_driver.specs.declared.view.View.{View}
use Rattle.stack_targets.specs.Axes.{IsAxis, LackIndex, along, axis_among, axis_of, begin_along, begins_before, begins_by, column, dims_of, rise, rise_from}
use Rattle.stack_targets.proofs.Members.{second_false}

not_before : (a b : ℤ) → not (int_lt b a) ≡ true → a ≤ℤ b
not_before a b h = told (int_lt b a) refl h
  where
    told : (t : Bool) → int_lt b a ≡ t → not t ≡ true → a ≤ℤ b
    told true is isnt = absurd (let no_such : ⊥ = cc in no_such)
    told false isnt so = grind (arith, ints, isnt)

through : (a b c : ℤ) → a ≤ℤ b → b ≤ℤ c → a ≤ℤ c
through a b c h k = omega (arith, ints, h, k)

-- where layers rise, none begins before the last one so far
from_last : (axis : ℕ) (first last : Bounds) (layers : List View) (k : ℕ) (v : View) → rise_from first last (column axis (map dims_of layers)) ≡ true → k < length layers
    → last.lo ≤ℤ begin_along axis (get_or layers k v)
from_last axis first last [] k v rises less = absurd (omega (arith, less))
from_last axis first last (l ∷ ls) zero v rises less =
    let here = along axis (dims_of l) in
    let p = both (not (begins_before here last)) (rise_from first here (column axis (map dims_of ls))) rises in
    not_before last.lo here.lo p.0
from_last axis first last (l ∷ ls) (suc k) v rises less =
    let here = along axis (dims_of l) in
    let p = both (not (begins_before here last)) (rise_from first here (column axis (map dims_of ls))) rises in
    through last.lo here.lo (begin_along axis (get_or ls k v)) (not_before last.lo here.lo p.0) (from_last axis first here ls k v p.1 (omega (arith, less)))

-- nor before another that stands before it
in_order : (axis : ℕ) (first last : Bounds) (layers : List View) (i j : ℕ) (v w : View) → rise_from first last (column axis (map dims_of layers)) ≡ true → i ≤ j → j < length layers
    → begin_along axis (get_or layers i v) ≤ℤ begin_along axis (get_or layers j w)
in_order axis first last [] i j v w rises order less = absurd (omega (arith, less))
in_order axis first last (l ∷ ls) zero zero v w rises order less = same (begin_along axis l)
  where
    same : (a : ℤ) → a ≤ℤ a
    same a = omega (arith, ints)
in_order axis first last (l ∷ ls) zero (suc j) v w rises order less =
    let here = along axis (dims_of l) in
    from_last axis first here ls j w (both (not (begins_before here last)) (rise_from first here (column axis (map dims_of ls))) rises).1 (omega (arith, less))
in_order axis first last (l ∷ ls) (suc i) zero v w rises order less = absurd (omega (arith, order))
in_order axis first last (l ∷ ls) (suc i) (suc j) v w rises order less =
    let here = along axis (dims_of l) in
    in_order axis first here ls i j v w (both (not (begins_before here last)) (rise_from first here (column axis (map dims_of ls))) rises).1 (omega (arith, order)) (omega (arith, less))

-- the first dimension along which layers rise is one of them
among : (n from : ℕ) (layers : List View) → IfSome (axis_among n from (map dims_of layers)) (λ axis. (axis < from + n) × (rise (column axis (map dims_of layers)) ≡ true))
among zero from layers = tt
among (suc n) from layers = by_test (rise (column from (map dims_of layers))) refl (among n (from + 1) layers)
  where
    by_test : (t : Bool) → rise (column from (map dims_of layers)) ≡ t
        → IfSome (axis_among n (from + 1) (map dims_of layers)) (λ axis. (axis < (from + 1) + n) × (rise (column axis (map dims_of layers)) ≡ true))
        → IfSome (if t then Some from else axis_among n (from + 1) (map dims_of layers)) (λ axis. (axis < from + suc n) × (rise (column axis (map dims_of layers)) ≡ true))
    by_test true so rest = (omega arith, so)
    by_test false isnt rest =
        let same : (from + 1) + n ≡ from + suc n = omega arith in
        subst (λ m. IfSome (axis_among n (from + 1) (map dims_of layers)) (λ axis. (axis < m) × (rise (column axis (map dims_of layers)) ≡ true))) same rest

-- along a stack's axis no layer begins before one that stands before it
pub axis_is : (rank : ℕ) (layers : List View) (o : Option ℕ) → o ≡ axis_of rank (map dims_of layers) → IfSome o (IsAxis rank layers)
axis_is rank layers o is = subst (λ p. IfSome p (IsAxis rank layers)) (sym is) (made (axis_of rank (map dims_of layers)) (among rank 0 layers))
  where
    made : (p : Option ℕ) → IfSome p (λ axis. (axis < 0 + rank) × (rise (column axis (map dims_of layers)) ≡ true)) → IfSome p (IsAxis rank layers)
    made None found = tt
    made (Some axis) found =
        let first = get_or (column axis (map dims_of layers)) 0 point in
        record {
          below = (let less = found.0 in omega (arith, less));
          rises = λ i j v w order inside. in_order axis first first layers i j v w found.1 order inside;
        }

-- dimension after dimension
pub axis_begins : (rank : ℕ) (domains : List (List Bounds)) → axis_of rank domains ≡ axis_among (rank - 0) 0 domains
axis_begins rank domains = ap (λ m. axis_among m 0 domains) (all rank)
  where
    all : (n : ℕ) → n ≡ n - 0
    all n = omega arith

one_less : (rank axis : ℕ) → axis < rank → rank - axis ≡ suc (rank - (axis + 1))
one_less rank axis less = omega (arith, less)

pub axis_next : (rank axis : ℕ) (domains : List (List Bounds)) → axis < rank → rise (column axis domains) ≡ false
    → axis_among (rank - axis) axis domains ≡ axis_among (rank - (axis + 1)) (axis + 1) domains
axis_next rank axis domains less isnt =
    ap (λ m. axis_among m axis domains) (one_less rank axis less)
    ∙ else_from (rise (column axis domains)) (Some axis) (axis_among (rank - (axis + 1)) (axis + 1) domains) isnt

pub axis_found : (rank axis : ℕ) (domains : List (List Bounds)) → axis < rank → rise (column axis domains) ≡ true → axis_among (rank - axis) axis domains ≡ Some axis
axis_found rank axis domains less so =
    ap (λ m. axis_among m axis domains) (one_less rank axis less)
    ∙ then_from (rise (column axis domains)) (Some axis) (axis_among (rank - (axis + 1)) (axis + 1) domains) so

pub axis_none : (rank axis : ℕ) (domains : List (List Bounds)) → rank ≤ axis → axis_among (rank - axis) axis domains ≡ None
axis_none rank axis domains all = ap (λ m. axis_among m axis domains) (nothing_left rank axis all)
  where
    nothing_left : (n a : ℕ) → n ≤ a → n - a ≡ 0
    nothing_left n a h = omega (arith, h)

-- layer after layer
pub rise_none : (layers : List View) (axis : ℕ) → length layers ≡ 0 → rise (column axis (map dims_of layers)) ≡ false
rise_none [] axis none = refl
rise_none (l ∷ ls) axis none = absurd (omega (arith, none))

pub rise_begins : (layers : List View) (axis : ℕ) (first : Bounds) (v : View) → 0 < length layers → v ≡ get_or layers 0 v → first ≡ along axis (dims_of v)
    → rise (column axis (map dims_of layers)) ≡ rise_from first first (column axis (map dims_of layers))
rise_begins [] axis first v some is at = absurd (omega (arith, some))
rise_begins (l ∷ ls) axis first v some is at =
    let same : along axis (dims_of l) ≡ first = ap (λ w. along axis (dims_of w)) (sym is) ∙ sym at in
    λ i. rise_from (same i) (same i) (column axis (map dims_of (l ∷ ls)))

rise_step : (layers : List View) (axis : ℕ) (first last next : Bounds) (k : ℕ) (v : View) → k < length layers → v ≡ get_or layers k v → next ≡ along axis (dims_of v)
    → rise_from first last (column axis (map dims_of (drop k layers))) ≡ (not (begins_before next last) && rise_from first next (column axis (map dims_of (drop (k + 1) layers))))
rise_step layers axis first last next k v inside is at =
    ap (λ ls. rise_from first last (column axis (map dims_of ls))) (drop_more layers k v inside ∙ ap (λ w. w ∷ drop (k + 1) layers) (sym is))
    ∙ ap (λ b. not (begins_before b last) && rise_from first b (column axis (map dims_of (drop (k + 1) layers)))) (sym at)

pub rise_more : (layers : List View) (axis : ℕ) (first last next : Bounds) (k : ℕ) (v : View) → k < length layers → v ≡ get_or layers k v → next ≡ along axis (dims_of v) → begins_before next last ≡ false
    → rise_from first last (column axis (map dims_of (drop k layers))) ≡ rise_from first next (column axis (map dims_of (drop (k + 1) layers)))
rise_more layers axis first last next k v inside is at isnt =
    rise_step layers axis first last next k v inside is at ∙ ap (λ t. not t && rise_from first next (column axis (map dims_of (drop (k + 1) layers)))) isnt

pub rise_stops : (layers : List View) (axis : ℕ) (first last next : Bounds) (k : ℕ) (v : View) → k < length layers → v ≡ get_or layers k v → next ≡ along axis (dims_of v) → begins_before next last ≡ true
    → rise_from first last (column axis (map dims_of (drop k layers))) ≡ false
rise_stops layers axis first last next k v inside is at so =
    rise_step layers axis first last next k v inside is at ∙ ap (λ t. not t && rise_from first next (column axis (map dims_of (drop (k + 1) layers)))) so

pub rise_ends : (layers : List View) (axis : ℕ) (first last : Bounds) (k : ℕ) → length layers ≤ k → rise_from first last (column axis (map dims_of (drop k layers))) ≡ begins_before first last
rise_ends layers axis first last k all = ap (λ ls. rise_from first last (column axis (map dims_of ls))) (drop_all k layers all)

-- a domain that begins behind an index vector doesn't have it
no_low : (i l h r : Bool) → l ≡ false → ((i && (l && h)) && r) ≡ false
no_low true l h r isnt = ap (λ t. (t && h) && r) isnt
no_low false l h r isnt = refl

not_there : (dims : List Bounds) (index : List ℤ) (axis : ℕ) → axis < length index → int_le (along axis dims).lo (get_or index axis (pos 0)) ≡ false → has_index dims index ≡ false
not_there dims [] axis less isnt = absurd (omega (arith, less))
not_there [] (x ∷ xs) axis less isnt = refl
not_there (d ∷ ds) (x ∷ xs) zero less isnt = no_low (is_index x) (int_le d.lo x) (int_le x d.hi) (has_index ds xs) isnt
not_there (d ∷ ds) (x ∷ xs) (suc axis) less isnt = second_false (is_member d x) (has_index ds xs) (not_there ds xs axis (omega (arith, less)) isnt)

later : (a b x : ℤ) → a ≤ℤ b → int_le a x ≡ false → int_le b x ≡ false
later a b x order isnt = grind (arith, ints, order, isnt)

-- where a layer begins behind it along the axis, none from there on has it
pub lack_from : (layers : List View) (index : List ℤ) (axis place : ℕ) (v : View) → IsAxis (length index) layers axis → v ≡ get_or layers place v → begins_by axis v index ≡ false
    → LackIndex place layers index
lack_from layers index axis place v rising is isnt = λ k w from inside.
    let order : begin_along axis v ≤ℤ begin_along axis (get_or layers k w) =
    subst (λ u. begin_along axis u ≤ℤ begin_along axis (get_or layers k w)) (sym is) (rising.rises place k v w from inside) in
    not_there (dims_of (get_or layers k w)) index axis rising.below (later (begin_along axis v) (begin_along axis (get_or layers k w)) (get_or index axis (pos 0)) order isnt)

-- behind all there is none
pub lack_past : (layers : List View) (index : List ℤ) → LackIndex (length layers) layers index
lack_past layers index = λ k v from inside. absurd (omega (arith, from, inside))
