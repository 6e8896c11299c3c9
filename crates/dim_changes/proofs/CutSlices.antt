-- Slices of dimensions: tightening leaves them as they are.
use Rattle.std.proofs.Common.{◌≡◌, ◌∙◌, zero, suc, Bool, true, false, cond, not, ◌&&◌, ◌||◌, refl, sym, ap, subst, arith, ℤ, pos, negsuc, neg_ℤ, ◌≤ℤ◌, ◌<ℤ◌, ◌+ℤ◌, ◌-ℤ◌, ◌*ℤ◌, Option, Some, None, is_none, Ok}
use Rattle.std.proofs.lemmas.Int.{ints}
use Rattle.std.proofs.lemmas.Bool.Decides.{Decides-int_eq}
use Rattle.std.proofs.Math.IntN.{*ℤ-one, one}
use Rattle.std.specs.Int.{is_negative}
use Rattle.std.specs.Int.RustNames.{int_lt}
use Rattle.std.specs.Ordering.{int_eq}
use Rattle.index_intervals.specs.Bounds.{Bounds, AreBounds, IsIndex, is_index, minus_infinity, plus_infinity}
use Rattle.index_intervals.specs.Slice.{slice_start, slice_stop, slice_lo, slice_hi, slice_size, keeps_flag, is_backward, kept_part, IsInOrder, KeepsPositions, sliced}
use Rattle.index_intervals.specs.declared.slice.Sliced.{Sliced}
use Rattle.index_intervals.proofs.Laws.{is_index-true, IsIndex-true, lo_infinite, hi_infinite, unsigned_abs-int_div, last_most, steps_up, first_at_one, not_negative, slice_hi-down, AreNewBounds-sliced, KeepsPositions-sliced}
use Rattle.index_intervals.specs.Edges.{is_open as Open, finite_part, lower_edge, upper_edge, preimage_lower, preimage_upper}
use Rattle.transform_composition.specs.Inside.{goes_down, end_inside}
use Rattle.step_forms.specs.declared.act.SlicePart.{SlicePart}
use Rattle.step_forms.specs.Given.{IsIndexPart}
use Rattle.dim_changes.proofs.TightBounds.{preimage_lower-same, preimage_upper-same}
use Rattle.dim_changes.proofs.CutLemmas.{IsSliced, IsSliced-Ok}
use Rattle.dim_changes.proofs.CutTight.{IsTightCut, ends_inside, end_inside-index, end_inside-down, end_inside-up, edge_at, one_times}
use Rattle.transform_composition.specs.Tightening.{is_open as Open}

-- the arguments are in order
IsInOrder-sliced : (b : Bounds) (part : SlicePart) (s : Sliced) → IsIndexPart part → IsSliced b part.start part.stop part.step s → IsInOrder b part.start part.stop part.step
IsInOrder-sliced b part s i t = record {
  start_index = i.start;
  stop_index = i.stop;
  nonzero = t.nonzero;
  closed = t.closed;
  forward = t.forward;
}

-- a bound that is left out at another step than 1 is finite
closed_out : (t lo_out hi_out l h : Bool) → (not t && ((lo_out && not l) || (hi_out && not h))) ≡ false → t ≡ false
    → (lo_out ≡ true → l ≡ true) × (hi_out ≡ true → h ≡ true)
closed_out true lo_out hi_out l h e f = cc
closed_out false true true true true e f = ((λ _. refl), (λ _. refl))
closed_out false true true true false e f = cc
closed_out false true true false h e f = cc
closed_out false true false true h e f = ((λ _. refl), (λ g. cc))
closed_out false true false false h e f = cc
closed_out false false true l true e f = ((λ g. cc), (λ _. refl))
closed_out false false true l false e f = cc
closed_out false false false l h e f = ((λ g. cc), (λ g. cc))

-- a start that doesn't keep its flag is a finite index
start-index : (b : Bounds) (start stop : Option ℤ) (step : ℤ) → IsInOrder b start stop step → keeps_flag start step ≡ false → IsIndex (slice_start b start step)
start-index b (Some x) stop step o k = o.start_index x refl
start-index b None stop step o k = told (is_negative step) o.closed
  where
    told : (n : Bool) → (not (int_eq step (pos 1)) && (((cond n (is_none stop) true) && not (is_index b.lo)) || ((cond n true (is_none stop)) && not (is_index b.hi)))) ≡ false
        → IsIndex (cond n b.hi b.lo)
    told true e = is_index-true b.hi ((closed_out (int_eq step (pos 1)) (is_none stop) true (is_index b.lo) (is_index b.hi) e k).1 refl)
    told false e = is_index-true b.lo ((closed_out (int_eq step (pos 1)) true (is_none stop) (is_index b.lo) (is_index b.hi) e k).0 refl)

-- a stop that doesn't is one, or the infinity on its side
stop-near : (b : Bounds) (start stop : Option ℤ) (step : ℤ) → IsInOrder b start stop step → keeps_flag stop step ≡ false
    → (minus_infinity ≤ℤ slice_stop b stop step) × (slice_stop b stop step ≤ℤ plus_infinity)
stop-near b start (Some x) step o k = let i = o.stop_index x refl in (omega (arith, ints, i.above), omega (arith, ints, i.below))
stop-near b start None step o k = told (is_negative step) o.closed
  where
    told : (n : Bool) → (not (int_eq step (pos 1)) && (((cond n true (is_none start)) && not (is_index b.lo)) || ((cond n (is_none start) true) && not (is_index b.hi)))) ≡ false
        → (minus_infinity ≤ℤ (cond n (b.lo -ℤ pos 1) (b.hi +ℤ pos 1))) × ((cond n (b.lo -ℤ pos 1) (b.hi +ℤ pos 1)) ≤ℤ plus_infinity)
    told true e =
        let i = is_index-true b.lo ((closed_out (int_eq step (pos 1)) true (is_none start) (is_index b.lo) (is_index b.hi) e k).0 refl) in
        (omega (arith, ints, i.above), omega (arith, ints, i.below))
    told false e =
        let i = is_index-true b.hi ((closed_out (int_eq step (pos 1)) (is_none start) true (is_index b.lo) (is_index b.hi) e k).1 refl) in
        (omega (arith, ints, i.above), omega (arith, ints, i.below))

-- a new lower bound that is explicit is a finite index
lo-index : (b : Bounds) (start stop : Option ℤ) (step : ℤ) → IsInOrder b start stop step → keeps_flag start step ≡ false
    → IsIndex (slice_lo step (slice_start b start step))
lo-index b start stop step o k =
    let i = start-index b start stop step o k in
    let m = unsigned_abs-int_div (slice_start b start step) step in
    record { above = omega (arith, ints, i.above, i.below, m); below = omega (arith, ints, i.above, i.below, m) }

not_less : (x y : ℤ) → int_lt x y ≡ false → y ≤ℤ x
not_less x y e = grind (arith, ints)

-- and so is a new upper one
hi-below : (b : Bounds) (start stop : Option ℤ) (step : ℤ) → IsInOrder b start stop step → keeps_flag stop step ≡ false
    → slice_hi step (slice_start b start step) (slice_stop b stop step) <ℤ plus_infinity
hi-below b start stop (pos zero) o k = absurd (o.nonzero refl)
hi-below b start stop (pos (suc n)) o k =
    let from = slice_start b start (pos (suc n)) in
    let to = slice_stop b stop (pos (suc n)) in
    let z = stop-near b start stop (pos (suc n)) o k in
    let w : from ≤ℤ to = ordered from to o.forward in
    let m = last_most from to (pos 4611686018427387902) n w (omega (arith, ints, z.1)) (omega (arith, ints)) in
    omega (arith, ints, m)
  where
    ordered : (from to : ℤ) → is_backward (pos (suc n)) from to ≡ false → from ≤ℤ to
    ordered from to e = let f = not_negative (suc n) in not_less to from (rw f at e)
hi-below b start stop (negsuc n) o k =
    let from = slice_start b start (negsuc n) in
    let to = slice_stop b stop (negsuc n) in
    let z = stop-near b start stop (negsuc n) o k in
    let w : neg_ℤ from ≤ℤ neg_ℤ to = ordered from to o.forward in
    let m = last_most (neg_ℤ from) (neg_ℤ to) (pos 4611686018427387902) n w (omega (arith, ints, z.0)) (omega (arith, ints)) in
    let d = slice_hi-down n from to in
    omega (arith, ints, m, d)
  where
    ordered : (from to : ℤ) → is_backward (negsuc n) from to ≡ false → neg_ℤ from ≤ℤ neg_ℤ to
    ordered from to e = grind (arith, ints)

-- at step 1 a bound that is left out stays

size-at-one : (from to : ℤ) → from ≤ℤ to → pos (slice_size (pos 1) from to) ≡ to -ℤ from
unfolding one
size-at-one from to h =
    let q = steps_up from to 0 h in
    let e = *ℤ-one (pos (slice_size (pos 1) from to)) in
    omega (arith, ints, q.at_least, q.least, e)

lo-at-one : (from : ℤ) → slice_lo (pos 1) from ≡ from
lo-at-one from = first_at_one from 0 refl

hi-at-one : (from to : ℤ) → from ≤ℤ to → slice_hi (pos 1) from to ≡ to -ℤ pos 1
hi-at-one from to h =
    let s = size-at-one from to h in
    let l = lo-at-one from in
    omega (arith, ints, s, l)

offset-at-one : (from : ℤ) → from -ℤ pos 1 *ℤ slice_lo (pos 1) from ≡ pos 0
offset-at-one from =
    let e = one_times (slice_lo (pos 1) from) in
    let l = lo-at-one from in
    omega (arith, ints, e, l)

-- a flag that is kept is that of a bound that is left out at step 1
kept_flag : (part : Option ℤ) (step : ℤ) → keeps_flag part step ≡ true → (part ≡ None) × (step ≡ pos 1)
kept_flag (Some x) step e = cc
kept_flag None step e = (refl, (Decides-int_eq step (pos 1)).0 e)

-- an edge that is explicit and finite isn't open
closed_edge : (f : Bool) (x : ℤ) → f ≡ false → IsIndex x → (f || is_none (finite_part x)) ≡ false
closed_edge f x e i = let t = IsIndex-true x i in rw (e, t) refl

-- a lower bound that is open is the old one
lower-kept : (b : Bounds) (start stop : Option ℤ) (step : ℤ) → IsInOrder b start stop step
    → Open (lower_edge ((kept_part b start stop step).interval)) ≡ true
    → preimage_lower b (kept_part b start stop step).offset step ≡ lower_edge ((kept_part b start stop step).interval)
lower-kept b start stop step o e = told (keeps_flag start step) refl
  where
    told : (t : Bool) → keeps_flag start step ≡ t
        → preimage_lower b (kept_part b start stop step).offset step ≡ lower_edge ((kept_part b start stop step).interval)
    told false k =
        let i = lo-index b start stop step o k in
        let f : (keeps_flag start step && b.lo_implicit) ≡ false = rw k refl in
        let g = closed_edge (keeps_flag start step && b.lo_implicit) (slice_lo step (slice_start b start step)) f i in
        let z = sym e ∙ g in
        cc
    told true k =
        let p = kept_flag start step k in
        subst (λ (x : Option ℤ). preimage_lower b (kept_part b x stop step).offset step ≡ lower_edge ((kept_part b x stop step).interval)) (sym p.0)
        (subst (λ (x : ℤ). preimage_lower b (kept_part b None stop x).offset x ≡ lower_edge ((kept_part b None stop x).interval)) (sym p.1)
        (ap (λ (x : ℤ). preimage_lower b x (pos 1)) (offset-at-one b.lo) ∙ preimage_lower-same b
        ∙ edge_at b.lo_implicit b.lo_implicit (finite_part b.lo) (finite_part (slice_lo (pos 1) b.lo)) (ap finite_part (sym (lo-at-one b.lo))) refl))

-- and an upper one
upper-kept : (b : Bounds) (start stop : Option ℤ) (step : ℤ) → IsInOrder b start stop step
    → minus_infinity <ℤ slice_hi step (slice_start b start step) (slice_stop b stop step)
    → Open (upper_edge ((kept_part b start stop step).interval)) ≡ true
    → preimage_upper b (kept_part b start stop step).offset step ≡ upper_edge ((kept_part b start stop step).interval)
upper-kept b start stop step o a e = told (keeps_flag stop step) refl
  where
    told : (t : Bool) → keeps_flag stop step ≡ t
        → preimage_upper b (kept_part b start stop step).offset step ≡ upper_edge ((kept_part b start stop step).interval)
    told false k =
        let h = hi-below b start stop step o k in
        let f : (keeps_flag stop step && b.hi_implicit) ≡ false = rw k refl in
        let g = closed_edge (keeps_flag stop step && b.hi_implicit) (slice_hi step (slice_start b start step) (slice_stop b stop step)) f (record { above = a; below = h }) in
        let z = sym e ∙ g in
        cc
    told true k =
        let p = kept_flag stop step k in
        let w = subst (λ (x : Option ℤ). is_backward step (slice_start b start step) (slice_stop b x step) ≡ false) p.0 o.forward in
        let v = subst (λ (x : ℤ). is_backward x (slice_start b start x) (slice_stop b None x) ≡ false) p.1 w in
        let h = hi-at-one (slice_start b start (pos 1)) (b.hi +ℤ pos 1) (not_less (b.hi +ℤ pos 1) (slice_start b start (pos 1)) v) in
        let same : b.hi ≡ slice_hi (pos 1) (slice_start b start (pos 1)) (b.hi +ℤ pos 1) = omega (arith, ints, h) in
        subst (λ (x : Option ℤ). preimage_upper b (kept_part b start x step).offset step ≡ upper_edge ((kept_part b start x step).interval)) (sym p.0)
        (subst (λ (x : ℤ). preimage_upper b (kept_part b start None x).offset x ≡ upper_edge ((kept_part b start None x).interval)) (sym p.1)
        (ap (λ (x : ℤ). preimage_upper b x (pos 1)) (offset-at-one (slice_start b start (pos 1))) ∙ preimage_upper-same b
        ∙ edge_at b.hi_implicit b.hi_implicit (finite_part b.hi) (finite_part (slice_hi (pos 1) (slice_start b start (pos 1)) (b.hi +ℤ pos 1))) (ap finite_part same) refl))

-- the ends of the new interval lie in the old one
inside-kept-lo : (b : Bounds) (start stop : Option ℤ) (step : ℤ) → AreBounds b → IsInOrder b start stop step
    → KeepsPositions b start stop step (kept_part b start stop step)
    → (kept_part b start stop step).interval.lo ≤ℤ (kept_part b start stop step).interval.hi
    → end_inside b (kept_part b start stop step).offset step (kept_part b start stop step).interval.lo ≡ true
inside-kept-lo b start stop step p o ps l = told (is_index (kept_part b start stop step).interval.lo) refl
  where
    bottom : ℤ → Type 0
    bottom x = end_inside b (b.lo -ℤ pos 1 *ℤ slice_lo (pos 1) b.lo) (pos 1) x ≡ true

    -- an infinite one is the old one
    far : is_index b.lo ≡ false → end_inside b (b.lo -ℤ pos 1 *ℤ slice_lo (pos 1) b.lo) (pos 1) (slice_lo (pos 1) b.lo) ≡ true
    far e =
        let v = lo_infinite b p e in
        let g : goes_down (pos 1) b.lo ≡ true = rw v refl in
        subst bottom (sym (lo-at-one b.lo)) (end_inside-down b (b.lo -ℤ pos 1 *ℤ slice_lo (pos 1) b.lo) (pos 1) b.lo e g e)

    kept_or : (t : Bool) → keeps_flag start step ≡ t → is_index (kept_part b start stop step).interval.lo ≡ false
        → end_inside b (kept_part b start stop step).offset step (kept_part b start stop step).interval.lo ≡ true
    kept_or false k e =
        let i = IsIndex-true (slice_lo step (slice_start b start step)) (lo-index b start stop step o k) in
        let z = sym e ∙ i in
        cc
    kept_or true k e =
        let q = kept_flag start step k in
        let e1 = subst (λ (x : Option ℤ). is_index (kept_part b x stop step).interval.lo ≡ false) q.0 e in
        let e2 = subst (λ (x : ℤ). is_index (kept_part b None stop x).interval.lo ≡ false) q.1 e1 in
        subst (λ (x : Option ℤ). end_inside b (kept_part b x stop step).offset step (kept_part b x stop step).interval.lo ≡ true) (sym q.0)
        (subst (λ (x : ℤ). end_inside b (kept_part b None stop x).offset x (kept_part b None stop x).interval.lo ≡ true) (sym q.1)
        (far (ap is_index (sym (lo-at-one b.lo)) ∙ e2)))

    told : (t : Bool) → is_index (kept_part b start stop step).interval.lo ≡ t
        → end_inside b (kept_part b start stop step).offset step (kept_part b start stop step).interval.lo ≡ true
    told true e =
        end_inside-index b (kept_part b start stop step).offset step (kept_part b start stop step).interval.lo e
        (ps.inside (kept_part b start stop step).interval.lo
        (record { index = is_index-true (kept_part b start stop step).interval.lo e; above_lo = omega (arith, ints); below_hi = l }))
    told false e = kept_or (keeps_flag start step) refl e

inside-kept-hi : (b : Bounds) (start stop : Option ℤ) (step : ℤ) → AreBounds b → IsInOrder b start stop step
    → minus_infinity <ℤ slice_hi step (slice_start b start step) (slice_stop b stop step)
    → KeepsPositions b start stop step (kept_part b start stop step)
    → (kept_part b start stop step).interval.lo ≤ℤ (kept_part b start stop step).interval.hi
    → end_inside b (kept_part b start stop step).offset step (kept_part b start stop step).interval.hi ≡ true
inside-kept-hi b start stop step p o a ps l = told (is_index (kept_part b start stop step).interval.hi) refl
  where
    -- an infinite one is the old one
    far : (from : ℤ) → from ≤ℤ (b.hi +ℤ pos 1) → is_index (slice_hi (pos 1) from (b.hi +ℤ pos 1)) ≡ false
        → end_inside b (from -ℤ pos 1 *ℤ slice_lo (pos 1) from) (pos 1) (slice_hi (pos 1) from (b.hi +ℤ pos 1)) ≡ true
    far from h e =
        let same : slice_hi (pos 1) from (b.hi +ℤ pos 1) ≡ b.hi = hi-at-one from (b.hi +ℤ pos 1) h ∙ omega (arith, ints) in
        let f : is_index b.hi ≡ false = ap is_index (sym same) ∙ e in
        let v = hi_infinite b p f in
        let g : goes_down (pos 1) b.hi ≡ false = rw v refl in
        subst (λ (x : ℤ). end_inside b (from -ℤ pos 1 *ℤ slice_lo (pos 1) from) (pos 1) x ≡ true) (sym same)
        (end_inside-up b (from -ℤ pos 1 *ℤ slice_lo (pos 1) from) (pos 1) b.hi f g f)

    kept_or : (t : Bool) → keeps_flag stop step ≡ t → is_index (kept_part b start stop step).interval.hi ≡ false
        → end_inside b (kept_part b start stop step).offset step (kept_part b start stop step).interval.hi ≡ true
    kept_or false k e =
        let i = IsIndex-true (slice_hi step (slice_start b start step) (slice_stop b stop step)) (record { above = a; below = hi-below b start stop step o k }) in
        let z = sym e ∙ i in
        cc
    kept_or true k e =
        let q = kept_flag stop step k in
        let w = subst (λ (x : Option ℤ). is_backward step (slice_start b start step) (slice_stop b x step) ≡ false) q.0 o.forward in
        let v = subst (λ (x : ℤ). is_backward x (slice_start b start x) (slice_stop b None x) ≡ false) q.1 w in
        let e1 = subst (λ (x : Option ℤ). is_index (kept_part b start x step).interval.hi ≡ false) q.0 e in
        let e2 = subst (λ (x : ℤ). is_index (kept_part b start None x).interval.hi ≡ false) q.1 e1 in
        subst (λ (x : Option ℤ). end_inside b (kept_part b start x step).offset step (kept_part b start x step).interval.hi ≡ true) (sym q.0)
        (subst (λ (x : ℤ). end_inside b (kept_part b start None x).offset x (kept_part b start None x).interval.hi ≡ true) (sym q.1)
        (far (slice_start b start (pos 1)) (not_less (b.hi +ℤ pos 1) (slice_start b start (pos 1)) v) e2))

    told : (t : Bool) → is_index (kept_part b start stop step).interval.hi ≡ t
        → end_inside b (kept_part b start stop step).offset step (kept_part b start stop step).interval.hi ≡ true
    told true e =
        end_inside-index b (kept_part b start stop step).offset step (kept_part b start stop step).interval.hi e
        (ps.inside (kept_part b start stop step).interval.hi
        (record { index = is_index-true (kept_part b start stop step).interval.hi e; above_lo = l; below_hi = omega (arith, ints) }))
    told false e = kept_or (keeps_flag stop step) refl e

-- a slice is tight
pub IsTightCut-sliced : (b : Bounds) (part : SlicePart) (s : Sliced) → AreBounds b → IsIndexPart part → sliced b part.start part.stop part.step ≡ Ok s
    → IsTightCut b (record { dim = s.interval; offset = s.offset; stride = s.step })
IsTightCut-sliced b part s p i e =
    let t = IsSliced-Ok b part.start part.stop part.step s e in
    let o = IsInOrder-sliced b part s i t in
    let above = less minus_infinity (slice_hi part.step (slice_start b part.start part.step) (slice_stop b part.stop part.step)) t.above in
    let n = AreNewBounds-sliced b part.start part.stop part.step p o in
    let ps = KeepsPositions-sliced b part.start part.stop part.step p o t.inside in
    subst (λ (x : Sliced). IsTightCut b (record { dim = x.interval; offset = x.offset; stride = x.step })) (sym t.same)
    (record {
      bounds = record { lo_from = n.lo_from; lo_below = n.lo_below; hi_above = above; hi_to = n.hi_to; ordered = n.ordered };
      nonzero = t.nonzero;
      lower = lower-kept b part.start part.stop part.step o;
      upper = upper-kept b part.start part.stop part.step o above;
      inside = ends_inside ((kept_part b part.start part.stop part.step).interval) b ((kept_part b part.start part.stop part.step).offset) part.step
          (inside-kept-lo b part.start part.stop part.step p o ps) (inside-kept-hi b part.start part.stop part.step p o above ps);
    })
  where
    less : (x y : ℤ) → int_lt x y ≡ true → x <ℤ y
    less x y e = grind (arith, ints)
