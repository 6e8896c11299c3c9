-- A cut takes each of its indices that goes to a finite index to an effective member.
use Rattle.std.proofs.Common.{◌≡◌, ◌≢◌, suc, ℕ, Bool, true, false, cond, List, refl, arith, ℤ, pos, negsuc, ◌+ℤ◌, ◌*ℤ◌, ◌≤ℤ◌, Option, Some, None, Result, Ok, Err}
use Rattle.std.proofs.lemmas.Int.{ints}
use Rattle.std.proofs.lemmas.Bool.Decides.{Decides-int_eq}
use Rattle.std.specs.Ordering.{int_eq}
use Rattle.std.specs.Int.RustNames.{int_lt}
use Rattle.index_intervals.specs.Bounds.{Bounds, AreBounds, IsIndex, is_index, minus_infinity, plus_infinity}
use Rattle.index_intervals.specs.Stride.{strided}
use Rattle.index_intervals.proofs.Laws.{is_index-true}
use Rattle.transform_composition.specs.Values.{is_effective}
use Rattle.step_forms.specs.declared.act.Act.{Act}
use Rattle.step_forms.specs.declared.act.Act.TheVariants as act
use Rattle.step_forms.specs.Given.{number_for, part_for, HasIndicesAt}
use Rattle.dim_changes.specs.declared.cause.Cause.{Cause}
use Rattle.dim_changes.specs.declared.cause.Cause.TheVariants.{ZeroStep}
use Rattle.dim_changes.specs.declared.cut.Cut.{Cut}
use Rattle.dim_changes.specs.Cuts.{kept, moved_by, moved_to, moved_back, strided_by, sliced_by, by_number, cut_for}
use Rattle.dim_changes.specs.CutViews.{cut_or_kept, cut_at}
use Rattle.dim_changes.specs.Dims.{spot_in, dim_at}
use Rattle.dim_changes.proofs.CutTight.{IsTightCut, IsTightCut-kept, is_effective-member}
use Rattle.dim_changes.proofs.CutStrides.{IsEffectiveMember-strided, AreBounds-strided}
use Rattle.dim_changes.proofs.CutViews.{moved_by-tight, moved_to-tight, sliced_by-tight}
use Rattle.dim_changes.proofs.ReachedLaws.{strided-reached}

abbrev pub IsReachedCut : Bounds → Cut → Type 0
IsReachedCut b cut =
    (x : ℤ) → cut.dim.lo ≤ℤ x → x ≤ℤ cut.dim.hi → is_index (cut.offset +ℤ cut.stride *ℤ x) ≡ true → is_effective b (cut.offset +ℤ cut.stride *ℤ x) ≡ true

-- by its ends, where it is tight
reached-ends : (b : Bounds) (cut : Cut) → AreBounds b → IsTightCut b cut → IsReachedCut b cut
reached-ends b cut p t x l h i = strided-reached cut.dim b cut.offset cut.stride x t.bounds p l h t.inside i

-- a multiple of an infinity is no finite index
index-factor : (s x : ℤ) → s ≢ pos 0 → minus_infinity ≤ℤ x → x ≤ℤ plus_infinity → IsIndex (pos 0 +ℤ s *ℤ x) → IsIndex x
index-factor s x n l h i = told (int_lt minus_infinity x) (int_lt x plus_infinity) refl refl
  where
    low : (t : ℤ) → t ≢ pos 0 → x ≡ minus_infinity → IsIndex (pos 0 +ℤ t *ℤ x) → ⊥
    low (pos ℕ.zero) m e j = m refl
    low (pos (suc k)) m e j = let r = (rw e at j) in omega (arith, ints, r.above)
    low (negsuc k) m e j = let r = (rw e at j) in omega (arith, ints, r.below)

    high : (t : ℤ) → t ≢ pos 0 → x ≡ plus_infinity → IsIndex (pos 0 +ℤ t *ℤ x) → ⊥
    high (pos ℕ.zero) m e j = m refl
    high (pos (suc k)) m e j = let r = (rw e at j) in omega (arith, ints, r.below)
    high (negsuc k) m e j = let r = (rw e at j) in omega (arith, ints, r.above)

    told : (a b : Bool) → int_lt minus_infinity x ≡ a → int_lt x plus_infinity ≡ b → IsIndex x
    told true true e f = record { above = grind (arith, ints, e); below = grind (arith, ints, f) }
    told false b e f = absurd (low s n (grind (arith, ints, e, l)) i)
    told true false e f = absurd (high s n (grind (arith, ints, f, h)) i)

strided_by-reached : (b : Bounds) (s : ℤ) → AreBounds b → IsReachedCut b (cut_or_kept b (strided_by b s))
strided_by-reached b s p = told (int_eq s (pos 0)) refl
  where
    told : (t : Bool) → int_eq s (pos 0) ≡ t → IsReachedCut b (cut_or_kept b (cond t (Err ZeroStep) (Ok (record { dim = strided b s; offset = pos 0; stride = s }))))
    told true e = reached-ends b (kept b) p (IsTightCut-kept b p)
    told false e = λ x l h i.
        let n : s ≢ pos 0 = λ z. (let f = (Decides-int_eq s (pos 0)).1 z in cc) in
        let q = AreBounds-strided b s p n in
        let j = is_index-true (pos 0 +ℤ s *ℤ x) i in
        let low : minus_infinity ≤ℤ x = omega (arith, ints, q.lo_from, l) in
        let high : x ≤ℤ plus_infinity = omega (arith, ints, q.hi_to, h) in
        is_effective-member b (pos 0 +ℤ s *ℤ x) (IsEffectiveMember-strided b s x p n (record { index = index-factor s x n low high j; above_lo = l; below_hi = h }) j)

by_number-reached : (f : Bounds → ℤ → Result Cut Cause) (o : Option ℤ) (b : Bounds) → AreBounds b → ((n : ℤ) → IsReachedCut b (cut_or_kept b (f b n)))
    → IsReachedCut b (cut_or_kept b (by_number f o b))
by_number-reached f None b p h = reached-ends b (kept b) p (IsTightCut-kept b p)
by_number-reached f (Some n) b p h = h n

cut_for-reached : (a : Act) (spot : ℕ) (b : Bounds) → AreBounds b → HasIndicesAt a spot → IsReachedCut b (cut_or_kept b (cut_for a spot b))
cut_for-reached (act.TranslateTo by) spot b p i =
    by_number-reached moved_to (number_for by spot) b p (λ n. reached-ends b (cut_or_kept b (moved_to b n)) p (moved_to-tight b n p))
cut_for-reached (act.TranslateBy by) spot b p i =
    by_number-reached moved_by (number_for by spot) b p (λ n. reached-ends b (cut_or_kept b (moved_by b n)) p (moved_by-tight b n p))
cut_for-reached (act.TranslateBackwardBy by) spot b p i =
    by_number-reached moved_back (number_for by spot) b p
    (λ n. reached-ends b (cut_or_kept b (moved_back b n)) p (moved_by-tight b (Rattle.std.specs.Prelude.neg_ℤ n) p))
cut_for-reached (act.Stride by) spot b p i = by_number-reached strided_by (number_for by spot) b p (λ n. strided_by-reached b n p)
cut_for-reached (act.Slice by) spot b p i =
    reached-ends b (cut_or_kept b (sliced_by b (part_for by spot))) p (sliced_by-tight b (part_for by spot) p i)
cut_for-reached (act.Label labels) spot b p i = reached-ends b (kept b) p (IsTightCut-kept b p)
cut_for-reached (act.Transpose targets) spot b p i = reached-ends b (kept b) p (IsTightCut-kept b p)
cut_for-reached act.Diagonal spot b p i = reached-ends b (kept b) p (IsTightCut-kept b p)
cut_for-reached (act.At by) spot b p i = reached-ends b (kept b) p (IsTightCut-kept b p)
cut_for-reached (act.Oindex arrays) spot b p i = reached-ends b (kept b) p (IsTightCut-kept b p)
cut_for-reached (act.Vindex arrays) spot b p i = reached-ends b (kept b) p (IsTightCut-kept b p)
cut_for-reached act.Newaxis spot b p i = reached-ends b (kept b) p (IsTightCut-kept b p)
cut_for-reached (act.MarkBoundsImplicit lower upper) spot b p i = reached-ends b (kept b) p (IsTightCut-kept b p)

pub cut_at-reached : (a : Act) (dims : List Bounds) (selected : List ℕ) (dim : ℕ) → AreBounds (dim_at dims dim) → ((spot : ℕ) → HasIndicesAt a spot)
    → IsReachedCut (dim_at dims dim) (cut_at a dims selected dim)
cut_at-reached a dims selected dim p i = told (spot_in selected dim)
  where
    told : (o : Option ℕ)
        → IsReachedCut (dim_at dims dim) (elim o [ Some spot ↦ cut_or_kept (dim_at dims dim) (cut_for a spot (dim_at dims dim)) | None ↦ kept (dim_at dims dim) ])
    told (Some spot) = cut_for-reached a spot (dim_at dims dim) p (i spot)
    told None = reached-ends (dim_at dims dim) (kept (dim_at dims dim)) p (IsTightCut-kept (dim_at dims dim) p)
