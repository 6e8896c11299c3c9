use Rattle.std.proofs.Common.{◌≡◌, ◌∙◌, ℕ, ℤ, sym, subst, ap, arith, to_z, of_z, w64, Ok, Err}
use Rattle.std.proofs.lemmas.Int.{ints}
use Rattle.std.specs.Int.{w128}
use Rattle.index_intervals.specs.Bounds.{AreBounds, minus_infinity}
use Rattle.index_intervals.specs.Slice.{slice_lo, slice_hi, KeepsPositions, kept_part}
use Rattle.index_intervals.specs.declared.slice.Sliced.{Sliced}
use Rattle.index_intervals.proofs.SlicingLemmas.{AreNewBounds}
use Rattle.index_intervals.proofs.SliceLemmas.{AreNewBounds-cut, KeepsPositions-sliced, IsNearIndex-from, IsNearIndex-to, same_sliced, cut-kept, cut-outside, cut-below, inside-at, above-true, AreBounds-cut}
use Rattle.index_intervals.proofs.interval.Interval.cut.Goals as goal
use Rattle.index_intervals.proofs.interval.Interval.cut.Goals.{then-not-is_inside-via-then-not-is_inside, then-not-is_inside-via-else-not-is_inside+then-hi}

-- the new bounds, with the numbers as the calls get them
bounds_are : (c : goal.After-self) → AreNewBounds (slice_lo c.args.step c.args.from) (slice_hi c.args.step c.args.from c.args.to)
bounds_are c =
    AreNewBounds-cut c.args.self.now c.args.start c.args.stop c.args.step c.args.from c.args.to
    (subst AreBounds c.self.view_is c.self.invariant) c.requires.ordered c.requires.from c.requires.to

pub last-hi-requires-clause-least : goal.last-hi-requires-clause-least
last-hi-requires-clause-least c =
    let s : to_z w64 (of_z w64 c.args.step) ≡ c.args.step = omega (arith, ints) in
    let f : to_z w64 (of_z w64 c.args.from) ≡ c.args.from = omega (arith, ints) in
    let t : to_z w64 (of_z w64 c.args.to) ≡ c.args.to = omega (arith, ints) in
    rw (s, f, t) ((bounds_are c).hi_from)

pub last-hi-requires-clause-most : goal.last-hi-requires-clause-most
last-hi-requires-clause-most c =
    let s : to_z w64 (of_z w64 c.args.step) ≡ c.args.step = omega (arith, ints) in
    let f : to_z w64 (of_z w64 c.args.from) ≡ c.args.from = omega (arith, ints) in
    let t : to_z w64 (of_z w64 c.args.to) ≡ c.args.to = omega (arith, ints) in
    rw (s, f, t) ((bounds_are c).hi_to)

pub is_inside-requires-clause-from : goal.is_inside-requires-clause-from
is_inside-requires-clause-from c =
    let f : to_z w64 (of_z w64 c.args.from) ≡ c.args.from = omega (arith, ints) in
    rw f (IsNearIndex-from c.args.self.now c.args.start c.args.stop c.args.step c.args.from
    (subst AreBounds c.self.view_is c.self.invariant) c.requires.ordered c.requires.from)

pub is_inside-requires-clause-to : goal.is_inside-requires-clause-to
is_inside-requires-clause-to c =
    let t : to_z w64 (of_z w64 c.args.to) ≡ c.args.to = omega (arith, ints) in
    rw t (IsNearIndex-to c.args.self.now c.args.start c.args.stop c.args.step c.args.to
    (subst AreBounds c.self.view_is c.self.invariant) c.requires.ordered c.requires.to)

pub first-requires-clause-from : goal.first-requires-clause-from
first-requires-clause-from c =
    let f : to_z w64 (of_z w64 c.args.from) ≡ c.args.from = omega (arith, ints) in
    rw f (IsNearIndex-from c.args.self.now c.args.start c.args.stop c.args.step c.args.from
    (subst AreBounds c.self.view_is c.self.invariant) c.requires.ordered c.requires.from)

pub remainder-requires-clause-from : goal.remainder-requires-clause-from
remainder-requires-clause-from c =
    let f : to_z w64 (of_z w64 c.args.from) ≡ c.args.from = omega (arith, ints) in
    rw f (IsNearIndex-from c.args.self.now c.args.start c.args.stop c.args.step c.args.from
    (subst AreBounds c.self.view_is c.self.invariant) c.requires.ordered c.requires.from)

pub returns-then-not-is_inside-clause-value : goal.returns-then-not-is_inside-clause-value
returns-then-not-is_inside-clause-value c =
    let s : to_z w64 (of_z w64 c.args.step) ≡ c.args.step = omega (arith, ints) in
    let f : to_z w64 (of_z w64 c.args.from) ≡ c.args.from = omega (arith, ints) in
    let t : to_z w64 (of_z w64 c.args.to) ≡ c.args.to = omega (arith, ints) in
    let h = (rw (s, f, t) at c.last-hi.ensures) in
    let i = (rw (s, f, t) at c.is_inside.ensures) in
    let hi_cast : to_z w64 (of_z w64 c.last-hi.result) ≡ c.last-hi.result = omega (arith, ints) in
    elim c.then-not-is_inside.branch [
      | then-not-is_inside-via-then-not-is_inside w ↦
          ap Err c.out_of_range.ensures ∙ cut-outside c.args.self.now c.args.start c.args.stop c.args.step c.args.from c.args.to
          c.requires.from c.requires.to (sym i ∙ w.if-not-is_inside.true)
      | then-not-is_inside-via-else-not-is_inside+then-hi w ↦
          ap Err c.out_of_range.ensures ∙ cut-below c.args.self.now c.args.start c.args.stop c.args.step c.args.from c.args.to c.last-hi.result
          c.requires.from c.requires.to h (sym i ∙ w.if-not-is_inside.false)
          (sym hi_cast ∙ ap (λ (n : ℕ). to_z w64 n) w.if-hi.true)
    ]

value_is : (c : goal.After-from) →
    (let r : Sliced = record { interval = record { lo = to_z w64 (of_z w64 c.first.result); hi = to_z w64 (of_z w64 c.last-hi.result); lo_implicit = c.keeps_lo_implicit.result; hi_implicit = c.keeps_hi_implicit.result }; offset = to_z w128 (of_z w128 c.from.result); step = to_z w64 (of_z w64 c.args.step) } in r)
    ≡ kept_part c.args.self.now c.args.start c.args.stop c.args.step
value_is c =
    let s : to_z w64 (of_z w64 c.args.step) ≡ c.args.step = omega (arith, ints) in
    let f : to_z w64 (of_z w64 c.args.from) ≡ c.args.from = omega (arith, ints) in
    let t : to_z w64 (of_z w64 c.args.to) ≡ c.args.to = omega (arith, ints) in
    let lo_cast : to_z w64 (of_z w64 c.first.result) ≡ c.first.result = omega (arith, ints) in
    let hi_cast : to_z w64 (of_z w64 c.last-hi.result) ≡ c.last-hi.result = omega (arith, ints) in
    let o_cast : to_z w128 (of_z w128 c.from.result) ≡ c.remainder.result = omega (arith, ints) in
    same_sliced c.args.self.now c.args.start c.args.stop c.args.step c.args.from c.args.to _ _ _ _ _ _
    c.requires.from c.requires.to
    (lo_cast ∙ (rw (s, f) at c.first.ensures))
    (hi_cast ∙ (rw (s, f, t) at c.last-hi.ensures))
    (rw s at c.keeps_lo_implicit.ensures)
    (rw s at c.keeps_hi_implicit.ensures)
    (o_cast ∙ (rw (s, f) at c.remainder.ensures))
    s

-- the last bound isn't below every index
not_below : (c : goal.After-from) → c.last-hi.result ≡ minus_infinity → ⊥
not_below c e = c.if-hi.false (ap (λ (z : ℤ). of_z w64 z) e)

new_bounds : (c : goal.After-from) → AreNewBounds (slice_lo c.args.step c.args.from) (slice_hi c.args.step c.args.from c.args.to)
new_bounds c =
    AreNewBounds-cut c.args.self.now c.args.start c.args.stop c.args.step c.args.from c.args.to
    (subst AreBounds c.self.view_is c.self.invariant) c.requires.ordered c.requires.from c.requires.to

pub invariant_of-result : goal.invariant_of-result
invariant_of-result c =
    let s : to_z w64 (of_z w64 c.args.step) ≡ c.args.step = omega (arith, ints) in
    let f : to_z w64 (of_z w64 c.args.from) ≡ c.args.from = omega (arith, ints) in
    let t : to_z w64 (of_z w64 c.args.to) ≡ c.args.to = omega (arith, ints) in
    let lo_cast : to_z w64 (of_z w64 c.first.result) ≡ c.first.result = omega (arith, ints) in
    let hi_cast : to_z w64 (of_z w64 c.last-hi.result) ≡ c.last-hi.result = omega (arith, ints) in
    let lo_is = (rw (s, f) at c.first.ensures) in
    let hi_is = (rw (s, f, t) at c.last-hi.ensures) in
    rw (lo_cast, hi_cast)
    (AreBounds-cut c.first.result c.last-hi.result _ _ (rw (lo_is, hi_is) (new_bounds c)) (not_below c))

pub returns-clause-value : goal.returns-clause-value
returns-clause-value c =
    let s : to_z w64 (of_z w64 c.args.step) ≡ c.args.step = omega (arith, ints) in
    let f : to_z w64 (of_z w64 c.args.from) ≡ c.args.from = omega (arith, ints) in
    let t : to_z w64 (of_z w64 c.args.to) ≡ c.args.to = omega (arith, ints) in
    let h = (rw (s, f, t) at c.last-hi.ensures) in
    let i = (rw (s, f, t) at c.is_inside.ensures) in
    ap Ok (value_is c) ∙ cut-kept c.args.self.now c.args.start c.args.stop c.args.step c.args.from c.args.to c.last-hi.result
    c.requires.from c.requires.to h (sym i ∙ c.if-not-is_inside.false)
    (above-true c.last-hi.result (rw h ((new_bounds c).hi_from)) (not_below c))

pub returns-clause-positions : goal.returns-clause-positions
returns-clause-positions c =
    let s : to_z w64 (of_z w64 c.args.step) ≡ c.args.step = omega (arith, ints) in
    let f : to_z w64 (of_z w64 c.args.from) ≡ c.args.from = omega (arith, ints) in
    let t : to_z w64 (of_z w64 c.args.to) ≡ c.args.to = omega (arith, ints) in
    let i = (rw (s, f, t) at c.is_inside.ensures) in
    subst (λ (r : Sliced). KeepsPositions c.args.self.now c.args.start c.args.stop c.args.step r) (sym (value_is c))
    (KeepsPositions-sliced c.args.self.now c.args.start c.args.stop c.args.step
    (subst AreBounds c.self.view_is c.self.invariant) c.requires.ordered
    (inside-at c.args.self.now c.args.start c.args.stop c.args.step c.args.from c.args.to c.requires.from c.requires.to (sym i ∙ c.if-not-is_inside.false)))
