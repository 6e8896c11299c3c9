-- Edges met one after another.
use Rattle.std.proofs.Common.{◌≡◌, ◌∙◌, suc, ℕ, ◌+◌, ◌<◌, ◌==◌, ◌||◌, Bool, true, false, cond, List, [], ◌∷◌, ◌++◌, length, drop, get_or, refl, sym, ap, arith, ℤ, Option, Some, None, option_to_list}
use Rattle.std.proofs.Math.Seq.{drop-cons}
use Rattle.index_transform.specs.Bounds.{Bounds}
use Rattle.index_transform.specs.declared.Ends.{Ends}
use Rattle.index_transform.specs.Edges.{preimage}
use Rattle.index_transform.specs.Meet.{bounds_met}
use Rattle.index_transform.specs.declared.map.OutMap.{OutMap}
use Rattle.index_transform.specs.declared.map.OutMap.TheVariants.{Constant, Strided, Indexed}
use Rattle.transform_composition.specs.Tightening.{gathered_from, preimages, preimages_at}
use Rattle.transform_composition.specs.Inside.{end_inside, are_ends_inside}
use Rattle.std.specs.Int.RustNames.{int_lt}

bounds_met-append : (e : Ends) (xs ys : List Ends) → bounds_met e (xs ++ ys) ≡ bounds_met (bounds_met e xs) ys
bounds_met-append e [] ys = refl
bounds_met-append e (x ∷ xs) ys = bounds_met-append (bounds_met e (x ∷ [])) xs ys

pub gathered_from-append : (bounds : Option Ends) (xs ys : List Ends) → gathered_from bounds (xs ++ ys) ≡ gathered_from (gathered_from bounds xs) ys
gathered_from-append None [] ys = refl
gathered_from-append None (x ∷ xs) ys = ap Some (bounds_met-append x xs ys)
gathered_from-append (Some e) xs ys = ap Some (bounds_met-append e xs ys)

pub preimages_at-append : (dim : ℕ) (o : Bounds) (m : OutMap) (more : List Ends) → preimages_at preimage dim o m more ≡ preimages_at preimage dim o m [] ++ more
preimages_at-append dim o (Constant offset) more = refl
preimages_at-append dim o (Strided offset stride from) more = told (from == dim)
  where
    told : (b : Bool) → cond b (preimage o offset stride ∷ more) more ≡ cond b (preimage o offset stride ∷ []) [] ++ more
    told true = refl
    told false = refl
preimages_at-append dim o (Indexed offset stride sizes entries) more = refl

-- one output further
pub gathered_from-next : (dim : ℕ) (outers : List Bounds) (maps : List OutMap) (k : ℕ) (bounds : Option Ends) (o : Bounds) (m : OutMap) (e : Option Ends)
    → k < length outers → k < length maps → o ≡ get_or outers k o → m ≡ get_or maps k m
    → option_to_list e ≡ preimages_at preimage dim o m []
    → gathered_from bounds (preimages preimage dim (drop k outers) (drop k maps))
    ≡ gathered_from (gathered_from bounds (option_to_list e)) (preimages preimage dim (drop (k + 1) outers) (drop (k + 1) maps))
gathered_from-next dim outers maps k bounds o m e h i p q r =
    let one : k + 1 ≡ suc k = omega arith in
    let a = drop-cons outers k o h ∙ ap (λ (z : Bounds). z ∷ drop (suc k) outers) (sym p) in
    let b = drop-cons maps k m i ∙ ap (λ (z : OutMap). z ∷ drop (suc k) maps) (sym q) in
    rw (a, b, one)
    (ap (gathered_from bounds) (preimages_at-append dim o m (preimages preimage dim (drop (suc k) outers) (drop (suc k) maps))
    ∙ ap (λ (z : List Ends). z ++ preimages preimage dim (drop (suc k) outers) (drop (suc k) maps)) (sym r))
    ∙ gathered_from-append bounds (option_to_list e) (preimages preimage dim (drop (suc k) outers) (drop (suc k) maps)))

-- a disjunction by its first part
pub or-then : (r s t : Bool) → r ≡ s → r ≡ true → r ≡ (s || t)
or-then r s t e f = f ∙ sym (ap (λ (z : Bool). z || t) (sym e ∙ f))

pub or-else : (r u s t : Bool) → r ≡ s → u ≡ t → r ≡ false → u ≡ (s || t)
or-else r u s t e g f = g ∙ sym (ap (λ (z : Bool). z || t) (sym e ∙ f))

-- the ends of an interval that isn't empty
pub ends-both : (d outer : Bounds) (o s : ℤ) (r q : Bool) → int_lt d.hi d.lo ≡ false → q ≡ end_inside outer o s d.lo → q ≡ true
    → r ≡ end_inside outer o s d.hi → r ≡ are_ends_inside d outer o s
ends-both d outer o s r q e f t g =
    let l = sym f ∙ t in
    g ∙ sym (rw (e, l) refl)

pub ends-first : (d outer : Bounds) (o s : ℤ) (q : Bool) → int_lt d.hi d.lo ≡ false → q ≡ end_inside outer o s d.lo → q ≡ false
    → q ≡ are_ends_inside d outer o s
ends-first d outer o s q e f t =
    let l = sym f ∙ t in
    t ∙ sym (rw (e, l) refl)
