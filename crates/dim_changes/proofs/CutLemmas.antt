-- What the steps do to one dimension, as the code computes it.
use Rattle.std.proofs.Common.{◌≡◌, ◌≢◌, ◌∙◌, zero, suc, ◌<◌, Bool, true, false, cond, not, ◌&&◌, ◌||◌, refl, sym, ap, subst, arith, ℤ, pos, negsuc, ◌+ℤ◌, ◌-ℤ◌, ◌*ℤ◌, neg_ℤ, unsigned_abs, Option, Result, Ok, Err}
use Rattle.std.proofs.lemmas.Int.{rem_below}
use Rattle.std.specs.Int.RustNames.{int_lt}
use Rattle.std.proofs.lemmas.Bool.Decides.{Decides-int_eq}
use Rattle.std.specs.Ordering.{int_eq}
use Rattle.index_intervals.specs.Bounds.{Bounds, IsIndex, is_index, minus_infinity}
use Rattle.index_intervals.specs.Members.{effective_lo, effective_hi}
use Rattle.index_intervals.specs.Slice.{slice_start, slice_stop, slice_lo, slice_hi, is_open, is_backward, is_inside, kept_part, cut, sliced}
use Rattle.index_intervals.specs.declared.slice.Sliced.{Sliced}
use Rattle.index_intervals.specs.declared.slice.SliceError.{SliceError}
use Rattle.index_intervals.specs.declared.slice.SliceError.TheVariants.{Unbounded, BadOrder, OutOfRange}
use Rattle.index_intervals.specs.declared.slice.SliceError.TheVariants as slice
use Rattle.index_intervals.specs.Shift.{shifted, CanShift}
use Rattle.index_intervals.specs.Stride.{strided}
use Rattle.index_intervals.proofs.Laws.{is_index-true, IsIndex-true, int_eq-false, int_rem-slice_lo}
use Rattle.dim_changes.specs.declared.cause.Cause.{Cause}
use Rattle.dim_changes.specs.declared.cause.Cause.TheVariants.{Overflow, ZeroStep}
use Rattle.step_forms.specs.declared.act.SlicePart.{SlicePart}
use Rattle.dim_changes.specs.declared.cut.Cut.{Cut}
use Rattle.dim_changes.specs.Cuts.{can_move, moved_by, moved_to, strided_by, sliced_by}
use Rattle.cells.proofs.Laws.{both}

can_move-true : (by x : ℤ) → (IsIndex x → IsIndex (x +ℤ by)) → can_move by x ≡ true
can_move-true by x h = told (is_index x) refl
  where
    told : (t : Bool) → is_index x ≡ t → (not t || is_index (x +ℤ by)) ≡ true
    told false e = refl
    told true e = IsIndex-true (x +ℤ by) (h (is_index-true x e))

can_move-index : (by x : ℤ) → can_move by x ≡ true → IsIndex x → IsIndex (x +ℤ by)
can_move-index by x e i = let t = IsIndex-true x i in is_index-true (x +ℤ by) (rw t at e)

-- both bounds can be moved exactly where the interval can
pub CanShift-moves : (b : Bounds) (by : ℤ) → (can_move by b.lo && can_move by b.hi) ≡ true → CanShift b by
CanShift-moves b by e =
    let p = both (can_move by b.lo) (can_move by b.hi) e in
    record { lo = can_move-index by b.lo p.0; hi = can_move-index by b.hi p.1 }

pub moved_by-Ok : (b : Bounds) (by : ℤ) → CanShift b by → moved_by b by ≡ Ok (record { dim = shifted b by; offset = neg_ℤ by; stride = pos 1 })
moved_by-Ok b by c =
    let l = can_move-true by b.lo c.lo in
    let h = can_move-true by b.hi c.hi in
    rw (l, h) refl

pub moved_by-Err : (b : Bounds) (by : ℤ) → (CanShift b by → ⊥) → moved_by b by ≡ Err Overflow
moved_by-Err b by c = told (can_move by b.lo && can_move by b.hi) refl
  where
    told : (t : Bool) → (can_move by b.lo && can_move by b.hi) ≡ t
        → (cond t (Ok (let r : Cut = record { dim = shifted b by; offset = neg_ℤ by; stride = pos 1 } in r)) (Err Overflow)) ≡ Err Overflow
    told true e = absurd (c (CanShift-moves b by e))
    told false e = refl

pub strided_by-Err : (b : Bounds) (s : ℤ) → s ≡ pos 0 → strided_by b s ≡ Err ZeroStep
strided_by-Err b s e = let t = (Decides-int_eq s (pos 0)).1 e in rw t refl

pub strided_by-Ok : (b : Bounds) (s : ℤ) → s ≢ pos 0 → strided_by b s ≡ Ok (record { dim = strided b s; offset = pos 0; stride = s })
strided_by-Ok b s n = let t = int_eq-false s (pos 0) n in rw t refl

-- a cut by its parts
pub moved_by-is : (b d : Bounds) (by off : ℤ) → CanShift b by → d ≡ shifted b by → off ≡ neg_ℤ by
    → (let r : Result Cut Cause = Ok (record { dim = d; offset = off; stride = pos 1 }) in r) ≡ moved_by b by
moved_by-is b d by off c e f = let m = moved_by-Ok b by c in cc

pub moved_to-is : (b : Bounds) (origin : ℤ) → is_index b.lo ≡ true → moved_by b (origin -ℤ b.lo) ≡ moved_to b origin
moved_to-is b origin e = rw e refl

pub strided_by-is : (b d : Bounds) (s : ℤ) → s ≢ pos 0 → d ≡ strided b s
    → (let r : Result Cut Cause = Ok (record { dim = d; offset = pos 0; stride = s }) in r) ≡ strided_by b s
strided_by-is b d s n e =
    ap (λ (x : Bounds). let r : Result Cut Cause = Ok (record { dim = x; offset = pos 0; stride = s }) in r) e ∙ sym (strided_by-Ok b s n)

-- what holds where there is a slice, and what it is
pub record IsSliced (b : Bounds) (start stop : Option ℤ) (step : ℤ) (s : Sliced) : Type 0 where
  pub nonzero : step ≢ pos 0
  pub closed : is_open b start stop step ≡ false
  pub forward : is_backward step (slice_start b start step) (slice_stop b stop step) ≡ false
  pub inside : is_inside b step (slice_start b start step) (slice_stop b stop step) ≡ true
  pub above : int_lt minus_infinity (slice_hi step (slice_start b start step) (slice_stop b stop step)) ≡ true
  pub same : s ≡ kept_part b start stop step

pub IsSliced-Ok : (b : Bounds) (start stop : Option ℤ) (step : ℤ) (s : Sliced) → sliced b start stop step ≡ Ok s → IsSliced b start stop step s
IsSliced-Ok b start stop step s e = zero_or (int_eq step (pos 0)) refl e
  where
    from : ℤ
    from = slice_start b start step

    to : ℤ
    to = slice_stop b stop step

    Answer : Type 0
    Answer = Result Sliced SliceError

    kept_if : Bool → Answer
    kept_if i = cond i (Ok (kept_part b start stop step)) (Err (OutOfRange (effective_lo b) (effective_hi b)))

    forward_if : Bool → Answer
    forward_if w = cond w (Err BadOrder) (cut b start stop step)

    closed_if : Bool → Answer
    closed_if o = cond o (Err Unbounded) (forward_if (is_backward step from to))

    inside_or : (n : int_eq step (pos 0) ≡ false) (o : is_open b start stop step ≡ false) (w : is_backward step from to ≡ false)
        → (i : Bool) → (is_inside b step from to && int_lt minus_infinity (slice_hi step from to)) ≡ i → kept_if i ≡ Ok s → IsSliced b start stop step s
    inside_or n o w true i e =
        let p = both (is_inside b step from to) (int_lt minus_infinity (slice_hi step from to)) i in
        record {
          nonzero = λ z. let t = (Decides-int_eq step (pos 0)).1 z in cc;
          closed = o;
          forward = w;
          inside = p.0;
          above = p.1;
          same = cc;
        }
    inside_or n o w false i e = cc

    forward_or : (n : int_eq step (pos 0) ≡ false) (o : is_open b start stop step ≡ false)
        → (w : Bool) → is_backward step from to ≡ w → forward_if w ≡ Ok s → IsSliced b start stop step s
    forward_or n o true w e = cc
    forward_or n o false w e = inside_or n o w (is_inside b step from to && int_lt minus_infinity (slice_hi step from to)) refl e

    open_or : (n : int_eq step (pos 0) ≡ false) → (o : Bool) → is_open b start stop step ≡ o → closed_if o ≡ Ok s → IsSliced b start stop step s
    open_or n true o e = cc
    open_or n false o e = forward_or n o (is_backward step from to) refl e

    zero_or : (z : Bool) → int_eq step (pos 0) ≡ z → cond z (Err slice.ZeroStep) (closed_if (is_open b start stop step)) ≡ Ok s → IsSliced b start stop step s
    zero_or true z e = cc
    zero_or false z e = open_or z (is_open b start stop step) refl e

-- the position of the number 0 is less than the step's size
pub offset_small : (step from : ℤ) → step ≢ pos 0 → unsigned_abs (from -ℤ step *ℤ slice_lo step from) < unsigned_abs step
offset_small step from n =
    subst (λ (x : ℤ). unsigned_abs x < unsigned_abs step) (int_rem-slice_lo step from) (rem_below from step (above step n))
  where
    above : (x : ℤ) → x ≢ pos 0 → 0 < unsigned_abs x
    above (pos zero) n = absurd (n refl)
    above (pos (suc k)) n = omega arith
    above (negsuc k) n = omega arith

pub sliced_offset : (b : Bounds) (part : SlicePart) (s : Sliced) → Ok s ≡ sliced b part.start part.stop part.step
    → unsigned_abs s.offset < unsigned_abs part.step
sliced_offset b part s e =
    let i = IsSliced-Ok b part.start part.stop part.step s (sym e) in
    subst (λ (x : Sliced). unsigned_abs x.offset < unsigned_abs part.step) (sym i.same) (offset_small part.step (slice_start b part.start part.step) i.nonzero)

pub sliced_step : (b : Bounds) (part : SlicePart) (s : Sliced) → Ok s ≡ sliced b part.start part.stop part.step → s.step ≡ part.step
sliced_step b part s e =
    let i = IsSliced-Ok b part.start part.stop part.step s (sym e) in
    ap (λ (x : Sliced). x.step) i.same

pub sliced_by-is : (b : Bounds) (part : SlicePart) (s : Sliced) (d : Bounds) (offset stride : ℤ) → Ok s ≡ sliced b part.start part.stop part.step
    → d ≡ s.interval → offset ≡ s.offset → stride ≡ s.step
    → (let r : Result Cut Cause = Ok (record { dim = d; offset = offset; stride = stride }) in r) ≡ sliced_by b part
sliced_by-is b part s d offset stride e p q r =
    let f : (let x : Result Cut Cause = Ok (record { dim = s.interval; offset = s.offset; stride = s.step }) in x) ≡ sliced_by b part = rw (← e, sliced_by) refl in
    cc
