-- The strided maps that go from one dimension.
use Rattle.std.proofs.Common.{◌≡◌, ◌≢◌, ◌∙◌, zero, suc, ℕ, ◌<◌, ◌==◌, Bool, true, false, List, [], ◌∷◌, length, get_or, refl, ap, arith, ℤ}
use Rattle.std.proofs.lemmas.Bool.Decides.{nat_tests}
use Rattle.index_intervals.specs.Bounds.{Bounds}
use Rattle.dim_changes.proofs.TightBounds.{Edge}
use Rattle.transform_composition.specs.declared.OutMap.{OutMap}
use Rattle.transform_composition.specs.declared.OutMap.TheVariants.{Constant, Strided, Indexed}
use Rattle.transform_composition.specs.Reading.{point}
use Rattle.transform_composition.specs.Composing.{nowhere}
use Rattle.transform_composition.specs.Tightening.{preimages, preimages_at}

-- the map is a strided one from the dimension
abbrev pub is_strided_from : ℕ → OutMap → Bool
is_strided_from dim (Constant offset) = false
is_strided_from dim (Strided offset stride from) = from == dim
is_strided_from dim (Indexed offset stride sizes entries) = false

preimages_at-other : (side : Bounds → ℤ → ℤ → Edge) (dim : ℕ) (o : Bounds) (m : OutMap) (more : List Edge)
    → is_strided_from dim m ≡ false → preimages_at side dim o m more ≡ more
preimages_at-other side dim o (Constant offset) more e = refl
preimages_at-other side dim o (Strided offset stride from) more e = rw e refl
preimages_at-other side dim o (Indexed offset stride sizes entries) more e = refl

-- where no map is strided from the dimension, it has no pre-images
pub preimages-none : (side : Bounds → ℤ → ℤ → Edge) (dim : ℕ) (outers : List Bounds) (maps : List OutMap)
    → ((j : ℕ) → j < length maps → is_strided_from dim (get_or maps j nowhere) ≡ false) → preimages side dim outers maps ≡ []
preimages-none side dim [] maps h = refl
preimages-none side dim (o ∷ outers) [] h = refl
preimages-none side dim (o ∷ outers) (m ∷ maps) h =
    preimages_at-other side dim o m (preimages side dim outers maps) (h 0 (omega arith))
    ∙ preimages-none side dim outers maps (λ j i. h (suc j) (omega (arith, i)))

-- where exactly the map at one spot is, it has the one pre-image
pub preimages-one : (side : Bounds → ℤ → ℤ → Edge) (dim : ℕ) (outers : List Bounds) (maps : List OutMap) (k : ℕ) (offset stride : ℤ)
    → k < length maps → length maps ≡ length outers → get_or maps k nowhere ≡ Strided offset stride dim
    → ((j : ℕ) → j < length maps → j ≢ k → is_strided_from dim (get_or maps j nowhere) ≡ false)
    → preimages side dim outers maps ≡ side (get_or outers k point) offset stride ∷ []
preimages-one side dim [] [] k offset stride i l e h = absurd (omega (arith, i))
preimages-one side dim [] (m ∷ maps) k offset stride i l e h = absurd (omega (arith, l))
preimages-one side dim (o ∷ outers) [] k offset stride i l e h = absurd (omega (arith, i))
preimages-one side dim (o ∷ outers) (m ∷ maps) zero offset stride i l e h =
    let same : (dim == dim) ≡ true = grind (arith, nat_tests) in
    ap (λ (x : OutMap). preimages_at side dim o x (preimages side dim outers maps)) e
    ∙ rw same refl
    ∙ ap (λ (es : List Edge). side o offset stride ∷ es)
    (preimages-none side dim outers maps (λ j b. h (suc j) (omega (arith, b)) (λ q. omega (arith, q))))
preimages-one side dim (o ∷ outers) (m ∷ maps) (suc k) offset stride i l e h =
    preimages_at-other side dim o m (preimages side dim outers maps) (h 0 (omega arith) (λ q. omega (arith, q)))
    ∙ preimages-one side dim outers maps k offset stride (omega (arith, i)) (omega (arith, l)) e
    (λ j b n. h (suc j) (omega (arith, b)) (λ q. n (omega (arith, q))))
