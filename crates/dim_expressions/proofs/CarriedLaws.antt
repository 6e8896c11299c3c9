-- Dimensions that go to other positions, and back.
use Rattle.std.proofs.Common.{◌≡◌, ◌∙◌, ℕ, ◌<◌, false, List, length, get_or, unwrap_or, refl, sym, ap, arith, Option, Some, None, Result, Ok, Err}
use Rattle.std.specs.Result.{OnOk}
use Rattle.dim_changes.specs.Dims.{spot_in, others}
use Rattle.step_forms.specs.Selection.{has_repeat}
use Rattle.dim_expressions.specs.Transpose.{AreInverse, carried, carried_by}
use Rattle.dim_expressions.proofs.CountLaws.{others-count}
use Rattle.dim_changes.proofs.Laws.{spot_in-Some, rest_at, rest_distinct, spot_distinct, left_spot}

-- dimensions of a rank, none twice
pub record AreDims (rank : ℕ) (dims : List ℕ) : Type 0 where
  pub once : has_repeat dims ≡ false
  pub below : (k d : ℕ) → k < length dims → get_or dims k d < rank

module _ (rank : ℕ) (from to : List ℕ) (f : AreDims rank from) (t : AreDims rank to) (same : length from ≡ length to) where
  as-many : length (others from rank) ≡ length (others to rank)
  as-many =
      let a = others-count from rank f.once f.below in
      let b = others-count to rank t.once t.below in
      omega (arith, a, b, same)

  -- the new number lies below the rank, and comes from the old one
  pub record IsCarried (x y : ℕ) : Type 0 where
    pub below : y < rank
    pub back : carried rank to from y ≡ x

  to-spot : (x spot : ℕ) → spot_in from x ≡ Some spot → IsCarried x (get_or to spot 0)
  to-spot x spot e =
      let p = spot_in-Some from x spot e in
      let l = p.inside in
      let h : spot < length to = omega (arith, l, same) in
      let q : spot_in to (get_or to spot 0) ≡ Some spot = spot_distinct to spot 0 t.once h in
      record {
        below = t.below spot 0 h;
        back = ap (carried_by (others to rank) from (others from rank) (get_or to spot 0)) q ∙ p.there 0;
      }

  to-other : (x : ℕ) → x < rank → spot_in from x ≡ None → IsCarried x (get_or (others to rank) (unwrap_or (spot_in (others from rank) x) 0) 0)
  to-other x h e =
      let p = left_spot from rank x h e in
      let i = p.inside in
      let k : p.spot < length (others to rank) = omega (arith, i, as-many) in
      let l = rest_at to 0 rank p.spot 0 k in
      let b = l.below in
      let q : spot_in (others to rank) (get_or (others to rank) p.spot 0) ≡ Some p.spot = spot_distinct (others to rank) p.spot 0 (rest_distinct to 0 rank) k in
      let at : unwrap_or (spot_in (others from rank) x) 0 ≡ p.spot = ap (λ (o : Option ℕ). unwrap_or o 0) p.found in
      let here : IsCarried x (get_or (others to rank) p.spot 0) = record {
        below = omega (arith, b);
        back = ap (carried_by (others to rank) from (others from rank) (get_or (others to rank) p.spot 0)) l.kept
            ∙ ap (λ (o : Option ℕ). get_or (others from rank) (unwrap_or o 0) 0) q ∙ p.there 0;
      } in
      rw at here

  pub IsCarried-of : (x : ℕ) → x < rank → IsCarried x (carried rank from to x)
  IsCarried-of x h = told (spot_in from x) refl
    where
      told : (o : Option ℕ) → spot_in from x ≡ o → IsCarried x (carried_by (others from rank) to (others to rank) x o)
      told None e = to-other x h e
      told (Some spot) e = to-spot x spot e

-- the two lists of a transposition are inverse
pub are-inverse : (rank : ℕ) (selected targets : List ℕ) → AreDims rank selected → AreDims rank targets → length targets ≡ length selected → AreInverse rank selected targets
are-inverse rank selected targets f g same =
    λ k h. ((IsCarried-of rank selected targets f g (sym same) k h).back, (IsCarried-of rank targets selected g f same k h).back)

-- what holds anyway holds of a result
pub on-ok : {A B : Type 0} (r : Result A B) (P : Type 0) → P → OnOk r P
on-ok (Ok x) P p = p
on-ok (Err e) P p = tt
