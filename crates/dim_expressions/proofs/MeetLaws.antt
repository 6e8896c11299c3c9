-- The meet of intervals lies in each of them.
use Rattle.std.proofs.Common.{◌≡◌, ◌∙◌, ap, Bool, true, false, cond, not, ◌&&◌, ◌||◌, List, [], ◌∷◌, map, refl, sym, subst, arith, ℤ, pos, ◌≤ℤ◌, ◌<ℤ◌, ◌+ℤ◌, ◌-ℤ◌, Option, Some, None, unwrap_or, fold, if◌then◌else◌}
use Rattle.std.proofs.lemmas.Int.{ints}
use Rattle.std.specs.Option.{ForSome}
use Rattle.std.specs.Int.{int_max, int_min}
use Rattle.std.specs.Int.RustNames.{int_lt}
use Rattle.index_intervals.specs.Bounds.{Bounds, AreBounds, IsIndex, is_index, minus_infinity, plus_infinity}
use Rattle.index_intervals.proofs.Laws.{lo_infinite, hi_infinite}
use Rattle.index_intervals.specs.Edges.{finite_part, lower_edge, upper_edge, ends_of, interval_of}
use Rattle.transform_composition.specs.Inside.{end_inside, are_ends_inside}
use Rattle.index_intervals.specs.Meet.{greater_at, greater_edge, lesser_at, lesser_edge, cross_at, below, uncrossed}
use Rattle.dim_expressions.specs.Diagonal.{unbounded, meet_of, meet_ends}
use Rattle.index_intervals.specs.declared.edge.Ends.{Ends}
use Rattle.dim_expressions.proofs.PassedLaws.{as_it_is, lies}
use Rattle.dim_changes.proofs.Laws.{Edge, finite_part-index}

-- one lower bound is at least another, and one upper bound at most another; none is infinite
abbrev pub AtLeast : Option ℤ → Option ℤ → Type 0
AtLeast m None = Unit {0}
AtLeast None (Some x) = ⊥
AtLeast (Some y) (Some x) = x ≤ℤ y

abbrev pub AtMost : Option ℤ → Option ℤ → Type 0
AtMost m None = Unit {0}
AtMost None (Some x) = ⊥
AtMost (Some y) (Some x) = y ≤ℤ x

least_self : (o : Option ℤ) → AtLeast o o
least_self None = tt
least_self (Some x) = omega (arith, ints)

most_self : (o : Option ℤ) → AtMost o o
most_self None = tt
most_self (Some x) = omega (arith, ints)

least_least : (a b c : Option ℤ) → AtLeast a b → AtLeast b c → AtLeast a c
least_least a b None p q = tt
least_least a None (Some z) p q = absurd q
least_least None (Some y) (Some z) p q = absurd p
least_least (Some x) (Some y) (Some z) p q = omega (arith, ints, p, q)

most_most : (a b c : Option ℤ) → AtMost a b → AtMost b c → AtMost a c
most_most a b None p q = tt
most_most a None (Some z) p q = absurd q
most_most None (Some y) (Some z) p q = absurd p
most_most (Some x) (Some y) (Some z) p q = omega (arith, ints, p, q)

greater_left : (a b : Edge) (x y : Option ℤ) → a.at ≡ x → b.at ≡ y → AtLeast ((greater_at a b x y).at) x
greater_left a b None y e f = tt
greater_left a b (Some x) None e f = subst (λ (o : Option ℤ). AtLeast o (Some x)) (sym e) (least_self (Some x))
greater_left a b (Some x) (Some y) e f = grind (arith, ints)

greater_right : (a b : Edge) (x y : Option ℤ) → a.at ≡ x → b.at ≡ y → AtLeast ((greater_at a b x y).at) y
greater_right a b x None e f = tt
greater_right a b None (Some y) e f = subst (λ (o : Option ℤ). AtLeast o (Some y)) (sym f) (least_self (Some y))
greater_right a b (Some x) (Some y) e f = grind (arith, ints)

lesser_left : (a b : Edge) (x y : Option ℤ) → a.at ≡ x → b.at ≡ y → AtMost ((lesser_at a b x y).at) x
lesser_left a b None y e f = tt
lesser_left a b (Some x) None e f = subst (λ (o : Option ℤ). AtMost o (Some x)) (sym e) (most_self (Some x))
lesser_left a b (Some x) (Some y) e f = grind (arith, ints)

lesser_right : (a b : Edge) (x y : Option ℤ) → a.at ≡ x → b.at ≡ y → AtMost ((lesser_at a b x y).at) y
lesser_right a b x None e f = tt
lesser_right a b None (Some y) e f = subst (λ (o : Option ℤ). AtMost o (Some y)) (sym f) (most_self (Some y))
lesser_right a b (Some x) (Some y) e f = grind (arith, ints)

-- the bounds stay finite indices or infinite
either : (P : ℤ → Type 0) (b : Bool) (x y : ℤ) → P x → P y → P (cond b x y)
either P true x y p q = p
either P false x y p q = q

of_some : (P : ℤ → Type 0) (x : ℤ) → P x → ForSome (Some x) P
of_some P x p = λ z q. let same : x ≡ z = cc in subst P same p

greater_index : (a b : Edge) (x y : Option ℤ) → a.at ≡ x → b.at ≡ y → ForSome a.at IsIndex → ForSome b.at IsIndex → ForSome ((greater_at a b x y).at) IsIndex
greater_index a b None None e f p q = λ z h. cc
greater_index a b None (Some y) e f p q = q
greater_index a b (Some x) None e f p q = p
greater_index a b (Some x) (Some y) e f p q = of_some IsIndex (int_max x y) (either IsIndex (int_lt y x) x y (p x e) (q y f))

lesser_index : (a b : Edge) (x y : Option ℤ) → a.at ≡ x → b.at ≡ y → ForSome a.at IsIndex → ForSome b.at IsIndex → ForSome ((lesser_at a b x y).at) IsIndex
lesser_index a b None None e f p q = λ z h. cc
lesser_index a b None (Some y) e f p q = q
lesser_index a b (Some x) None e f p q = p
lesser_index a b (Some x) (Some y) e f p q = of_some IsIndex (int_min x y) (either IsIndex (int_lt y x) y x (q y f) (p x e))

-- a bound holds against each of a list
abbrev pub AllHold : (Option ℤ → Option ℤ → Type 0) → Option ℤ → List Edge → Type 0
AllHold Holds m [] = Unit {0}
AllHold Holds m (e ∷ es) = Holds m e.at × AllHold Holds m es

-- each is a finite index or infinite
abbrev pub AllIndex : List Edge → Type 0
AllIndex [] = Unit {0}
AllIndex (e ∷ es) = ForSome e.at IsIndex × AllIndex es

abbrev pub met_from : (Edge → Edge → Edge) → Option Edge → List Edge → Option Edge
met_from further None [] = None
met_from further None (edge ∷ edges) = Some (fold further edge edges)
met_from further (Some edge) edges = Some (fold further edge edges)

module _ (further : Edge → Edge → Edge) (Holds : Option ℤ → Option ℤ → Type 0) (self : (o : Option ℤ) → Holds o o)
    (trans : (a b c : Option ℤ) → Holds a b → Holds b c → Holds a c)
    (left : (a b : Edge) → Holds ((further a b).at) a.at) (right : (a b : Edge) → Holds ((further a b).at) b.at)
    (index : (a b : Edge) → ForSome a.at IsIndex → ForSome b.at IsIndex → ForSome ((further a b).at) IsIndex) where
  fold_first : (es : List Edge) (acc : Edge) → Holds ((fold further acc es).at) acc.at
  fold_first [] acc = self acc.at
  fold_first (e ∷ es) acc = trans _ ((further acc e).at) acc.at (fold_first es (further acc e)) (left acc e)

  fold_rest : (es : List Edge) (acc : Edge) → AllHold Holds ((fold further acc es).at) es
  fold_rest [] acc = tt
  fold_rest (e ∷ es) acc = (trans _ ((further acc e).at) e.at (fold_first es (further acc e)) (right acc e), fold_rest es (further acc e))

  fold_index : (es : List Edge) (acc : Edge) → ForSome acc.at IsIndex → AllIndex es → ForSome ((fold further acc es).at) IsIndex
  fold_index [] acc p q = p
  fold_index (e ∷ es) acc p q = fold_index es (further acc e) (index acc e p q.0) q.1

  pub met_holds : (es : List Edge) (other : Edge) → AllHold Holds ((unwrap_or (met_from further None es) other).at) es
  met_holds [] other = tt
  met_holds (e ∷ es) other = (fold_first es e, fold_rest es e)

  pub met_index : (es : List Edge) (other : Edge) → ForSome other.at IsIndex → AllIndex es → ForSome ((unwrap_or (met_from further None es) other).at) IsIndex
  met_index [] other p q = p
  met_index (e ∷ es) other p q = fold_index es e q.0 q.1

-- the lower and the upper bounds of intervals, before they are put right where they cross

abbrev pub low_of : List Bounds → Edge
low_of dims = unwrap_or (met_from greater_edge None (map lower_edge dims)) (lower_edge unbounded)

abbrev pub high_of : List Bounds → Edge
high_of dims = unwrap_or (met_from lesser_edge None (map upper_edge dims)) (upper_edge unbounded)

abbrev pub AllBelow : Option ℤ → List Edge → Type 0
AllBelow = AllHold AtLeast

abbrev pub AllAbove : Option ℤ → List Edge → Type 0
AllAbove = AllHold AtMost

pub low_holds : (dims : List Bounds) → AllBelow ((low_of dims).at) (map lower_edge dims)
low_holds dims = met_holds greater_edge AtLeast least_self least_least (λ a b. greater_left a b a.at b.at refl refl) (λ a b. greater_right a b a.at b.at refl refl) (λ a b. greater_index a b a.at b.at refl refl)
    (map lower_edge dims) (lower_edge unbounded)

pub high_holds : (dims : List Bounds) → AllAbove ((high_of dims).at) (map upper_edge dims)
high_holds dims = met_holds lesser_edge AtMost most_self most_most (λ a b. lesser_left a b a.at b.at refl refl) (λ a b. lesser_right a b a.at b.at refl refl) (λ a b. lesser_index a b a.at b.at refl refl)
    (map upper_edge dims) (upper_edge unbounded)

pub low_index : (dims : List Bounds) → ForSome ((low_of dims).at) IsIndex
low_index dims = met_index greater_edge AtLeast least_self least_least (λ a b. greater_left a b a.at b.at refl refl) (λ a b. greater_right a b a.at b.at refl refl) (λ a b. greater_index a b a.at b.at refl refl)
    (map lower_edge dims) (lower_edge unbounded) (λ x e. cc) (all dims)
  where
    all : (ds : List Bounds) → AllIndex (map lower_edge ds)
    all [] = tt
    all (d ∷ ds) = (finite_part-index d.lo, all ds)

pub high_index : (dims : List Bounds) → ForSome ((high_of dims).at) IsIndex
high_index dims = met_index lesser_edge AtMost most_self most_most (λ a b. lesser_left a b a.at b.at refl refl) (λ a b. lesser_right a b a.at b.at refl refl) (λ a b. lesser_index a b a.at b.at refl refl)
    (map upper_edge dims) (upper_edge unbounded) (λ x e. cc) (all dims)
  where
    all : (ds : List Bounds) → AllIndex (map upper_edge ds)
    all [] = tt
    all (d ∷ ds) = (finite_part-index d.hi, all ds)

-- the interval between two such bounds

bounds_at : (low high : Option ℤ) (f g : Bool) → ForSome low IsIndex → ForSome high IsIndex → AreBounds (record {
  lo = unwrap_or low minus_infinity;
  hi = (if int_lt (unwrap_or high plus_infinity +ℤ pos 1) (unwrap_or low minus_infinity) then unwrap_or low minus_infinity -ℤ pos 1 else unwrap_or high plus_infinity);
  lo_implicit = f;
  hi_implicit = g;
})
bounds_at low high f g p q = whole (unwrap_or low minus_infinity) (unwrap_or high plus_infinity) (lows low p) (highs high q)
  where
    lows : (o : Option ℤ) → ForSome o IsIndex → (minus_infinity ≤ℤ unwrap_or o minus_infinity) × (unwrap_or o minus_infinity <ℤ plus_infinity)
    lows None r = (omega (arith, ints), omega (arith, ints))
    lows (Some x) r = let i = r x refl in let a = i.above in let b = i.below in (omega (arith, ints, a), omega (arith, ints, b))

    highs : (o : Option ℤ) → ForSome o IsIndex → (minus_infinity <ℤ unwrap_or o plus_infinity) × (unwrap_or o plus_infinity ≤ℤ plus_infinity)
    highs None r = (omega (arith, ints), omega (arith, ints))
    highs (Some x) r = let i = r x refl in let a = i.above in let b = i.below in (omega (arith, ints, a), omega (arith, ints, b))

    whole : (lo hi : ℤ) → (minus_infinity ≤ℤ lo) × (lo <ℤ plus_infinity) → (minus_infinity <ℤ hi) × (hi ≤ℤ plus_infinity)
        → AreBounds (record { lo = lo; hi = (if int_lt (hi +ℤ pos 1) lo then lo -ℤ pos 1 else hi); lo_implicit = f; hi_implicit = g })
    whole lo hi r s = told (int_lt (hi +ℤ pos 1) lo) refl
      where
        told : (b : Bool) → int_lt (hi +ℤ pos 1) lo ≡ b → AreBounds (record { lo = lo; hi = (if b then lo -ℤ pos 1 else hi); lo_implicit = f; hi_implicit = g })
        told true e =
            let less : (hi +ℤ pos 1) <ℤ lo = grind (arith, ints) in
            record { lo_from = r.0; lo_below = r.1; hi_above = (let a = s.0 in omega (arith, ints, less, a)); hi_to = (let a = r.1 in omega (arith, ints, a)); ordered = omega (arith, ints) }
        told false e =
            let most : lo ≤ℤ (hi +ℤ pos 1) = grind (arith, ints) in
            record { lo_from = r.0; lo_below = r.1; hi_above = s.0; hi_to = s.1; ordered = most }

-- the meet's ends are these bounds put right
lows_mapped : (dims : List Bounds) → map (λ e. e.lower) (map ends_of dims) ≡ map lower_edge dims
lows_mapped [] = refl
lows_mapped (d ∷ dims) = ap (λ (es : List Edge). lower_edge d ∷ es) (lows_mapped dims)

highs_mapped : (dims : List Bounds) → map (λ e. e.upper) (map ends_of dims) ≡ map upper_edge dims
highs_mapped [] = refl
highs_mapped (d ∷ dims) = ap (λ (es : List Edge). upper_edge d ∷ es) (highs_mapped dims)

abbrev raw : List Bounds → Ends
raw dims = record { lower = low_of dims; upper = high_of dims }

pub meet_ends-raw : (dims : List Bounds) → meet_ends dims ≡ uncrossed (raw dims)
meet_ends-raw [] = refl
meet_ends-raw (d ∷ dims) =
    ap (λ (es : List Edge). uncrossed (record { lower = fold greater_edge (lower_edge d) es; upper = fold lesser_edge (upper_edge d) (map (λ e. e.upper) (map ends_of dims)) })) (lows_mapped dims)
    ∙ ap (λ (es : List Edge). uncrossed (record { lower = fold greater_edge (lower_edge d) (map lower_edge dims); upper = fold lesser_edge (upper_edge d) es })) (highs_mapped dims)

-- an interval puts crossed bounds right itself
interval_of-uncrossed : (e : Ends) → interval_of ((uncrossed e).lower) ((uncrossed e).upper) ≡ interval_of e.lower e.upper
interval_of-uncrossed e = told e.lower.at e.upper.at
  where
    same : (m n : Option ℤ) → (let lo = unwrap_or m minus_infinity in let hi = unwrap_or (if cross_at m n then below m else n) plus_infinity in if int_lt (hi +ℤ pos 1) lo then lo -ℤ pos 1 else hi)
        ≡ (let lo = unwrap_or m minus_infinity in let hi = unwrap_or n plus_infinity in if int_lt (hi +ℤ pos 1) lo then lo -ℤ pos 1 else hi)
    same None n = refl
    same (Some x) None = refl
    same (Some x) (Some y) = crossing (int_lt (y +ℤ pos 1) x) refl
      where
        crossing : (b : Bool) → int_lt (y +ℤ pos 1) x ≡ b
            → (let hi = unwrap_or (if b then Some (x -ℤ pos 1) else Some y) plus_infinity in if int_lt (hi +ℤ pos 1) x then x -ℤ pos 1 else hi) ≡ (if int_lt (y +ℤ pos 1) x then x -ℤ pos 1 else y)
        crossing true c = let n : int_lt (x -ℤ pos 1 +ℤ pos 1) x ≡ false = grind (arith, ints) in rw (c, n) refl
        crossing false c = rw c refl

    told : (m n : Option ℤ) → interval_of ((uncrossed e).lower) ((uncrossed e).upper) ≡ interval_of e.lower e.upper
    told m n = ap (λ (h : ℤ). let r : Bounds = record { lo = unwrap_or e.lower.at minus_infinity; hi = h; lo_implicit = e.lower.implicit; hi_implicit = e.upper.implicit } in r) (same e.lower.at e.upper.at)

pub meet_of-raw : (dims : List Bounds) → meet_of dims ≡ interval_of (low_of dims) (high_of dims)
meet_of-raw dims = ap (λ (e : Ends). interval_of e.lower e.upper) (meet_ends-raw dims) ∙ interval_of-uncrossed (raw dims)

-- and they are finite indices or missing
uncrossed_index : (m n : Option ℤ) → ForSome m IsIndex → ForSome n IsIndex → ForSome (if cross_at m n then below m else n) IsIndex
uncrossed_index None n p q = q
uncrossed_index (Some x) None p q = q
uncrossed_index (Some x) (Some y) p q = told (int_lt (y +ℤ pos 1) x) refl
  where
    told : (b : Bool) → int_lt (y +ℤ pos 1) x ≡ b → ForSome (if b then Some (x -ℤ pos 1) else Some y) IsIndex
    told false c = q
    told true c =
        let i = p x refl in
        let j = q y refl in
        let a = i.below in
        let d = j.above in
        of_some IsIndex (x -ℤ pos 1) (record { above = grind (arith, ints, c, d); below = omega (arith, ints, a) })

pub meet_low_index : (dims : List Bounds) → ForSome ((meet_ends dims).lower.at) IsIndex
meet_low_index dims = subst (λ (e : Ends). ForSome e.lower.at IsIndex) (sym (meet_ends-raw dims)) (low_index dims)

pub meet_high_index : (dims : List Bounds) → ForSome ((meet_ends dims).upper.at) IsIndex
meet_high_index dims = subst (λ (e : Ends). ForSome e.upper.at IsIndex) (sym (meet_ends-raw dims)) (uncrossed_index ((low_of dims).at) ((high_of dims).at) (low_index dims) (high_index dims))

raw_bounds : (dims : List Bounds) → AreBounds (interval_of (low_of dims) (high_of dims))
raw_bounds dims = bounds_at ((low_of dims).at) ((high_of dims).at) ((low_of dims).implicit) ((high_of dims).implicit) (low_index dims) (high_index dims)

pub meet_bounds : (dims : List Bounds) → AreBounds (meet_of dims)
meet_bounds dims = subst AreBounds (sym (meet_of-raw dims)) (raw_bounds dims)

-- an interval within another one goes into it
within : (m outer : Bounds) → AreBounds m → AreBounds outer → (m.lo ≤ℤ m.hi → outer.lo ≤ℤ m.lo) → (m.lo ≤ℤ m.hi → m.hi ≤ℤ outer.hi) → are_ends_inside m outer (pos 0) (pos 1) ≡ true
within m outer p o above below = told (int_lt m.hi m.lo) refl
  where
    low_open : (i : Bool) (x : ℤ) → x ≡ minus_infinity → not (is_index (cond i minus_infinity x)) ≡ true
    low_open true x e = refl
    low_open false x e = rw e refl

    high_open : (i : Bool) (x : ℤ) → x ≡ plus_infinity → not (is_index (cond i plus_infinity x)) ≡ true
    high_open true x e = refl
    high_open false x e = rw e refl

    low : m.lo ≤ℤ m.hi → (t : Bool) → is_index m.lo ≡ t → end_inside outer (pos 0) (pos 1) m.lo ≡ true
    low h true e =
        let same = as_it_is m.lo in
        let a = above h in
        let b = below h in
        rw (e, same) (lies outer m.lo e a (omega (arith, ints, h, b)))
    low h false e =
        let inf = lo_infinite m p e in
        let a = above h in
        let from = o.lo_from in
        let least : outer.lo ≡ minus_infinity = omega (arith, ints, a, inf, from) in
        rw (e, inf) (low_open outer.lo_implicit outer.lo least)

    high : m.lo ≤ℤ m.hi → (t : Bool) → is_index m.hi ≡ t → end_inside outer (pos 0) (pos 1) m.hi ≡ true
    high h true e =
        let same = as_it_is m.hi in
        let a = above h in
        let b = below h in
        rw (e, same) (lies outer m.hi e (omega (arith, ints, h, a)) b)
    high h false e =
        let inf = hi_infinite m p e in
        let b = below h in
        let to = o.hi_to in
        let most : outer.hi ≡ plus_infinity = omega (arith, ints, b, inf, to) in
        rw (e, inf) (high_open outer.hi_implicit outer.hi most)

    told : (t : Bool) → int_lt m.hi m.lo ≡ t → (t || (end_inside outer (pos 0) (pos 1) m.lo && end_inside outer (pos 0) (pos 1) m.hi)) ≡ true
    told true e = refl
    told false e =
        let h : m.lo ≤ℤ m.hi = grind (arith, ints) in
        let l = low h (is_index m.lo) refl in
        let g = high h (is_index m.hi) refl in
        rw (l, g) refl

-- the meet goes into an interval that neither of its bounds passes
pub meet_within : (dims : List Bounds) (outer : Bounds) → AreBounds outer → AtLeast ((low_of dims).at) (finite_part outer.lo) → AtMost ((high_of dims).at) (finite_part outer.hi)
    → are_ends_inside (meet_of dims) outer (pos 0) (pos 1) ≡ true
meet_within dims outer o least most =
    subst (λ (m : Bounds). are_ends_inside m outer (pos 0) (pos 1) ≡ true) (sym (meet_of-raw dims)) (within (interval_of (low_of dims) (high_of dims)) outer (raw_bounds dims) o
    (λ h. lower ((low_of dims).at) (low_index dims) (is_index outer.lo) refl least)
    (λ h. kept (unwrap_or ((low_of dims).at) minus_infinity) (unwrap_or ((high_of dims).at) plus_infinity) (int_lt (unwrap_or ((high_of dims).at) plus_infinity +ℤ pos 1) (unwrap_or ((low_of dims).at) minus_infinity)) refl h
    (upper ((high_of dims).at) (high_index dims) (is_index outer.hi) refl most)))
  where
    lower : (low : Option ℤ) → ForSome low IsIndex → (b : Bool) → is_index outer.lo ≡ b → AtLeast low (cond b (Some outer.lo) None) → outer.lo ≤ℤ unwrap_or low minus_infinity
    lower None p true e r = absurd r
    lower (Some x) p true e r = r
    lower None p false e r = let inf = lo_infinite outer o e in omega (arith, ints, inf)
    lower (Some x) p false e r = let inf = lo_infinite outer o e in let i = p x refl in let a = i.above in omega (arith, ints, inf, a)

    upper : (high : Option ℤ) → ForSome high IsIndex → (b : Bool) → is_index outer.hi ≡ b → AtMost high (cond b (Some outer.hi) None) → unwrap_or high plus_infinity ≤ℤ outer.hi
    upper None p true e r = absurd r
    upper (Some x) p true e r = r
    upper None p false e r = let inf = hi_infinite outer o e in omega (arith, ints, inf)
    upper (Some x) p false e r = let inf = hi_infinite outer o e in let i = p x refl in let a = i.below in omega (arith, ints, inf, a)

    kept : (lo hi : ℤ) (b : Bool) → int_lt (hi +ℤ pos 1) lo ≡ b → lo ≤ℤ (if b then lo -ℤ pos 1 else hi) → hi ≤ℤ outer.hi → (if b then lo -ℤ pos 1 else hi) ≤ℤ outer.hi
    kept lo hi true e h r = absurd (omega (arith, ints, h))
    kept lo hi false e h r = r
