use Rattle.std.proofs.Common.{◌≡◌, ◌∙◌, ◌++◌, ◌∷◌, [], ℕ, List, Option, pos, ◌+ℤ◌, to_z, of_z, w64, sym, ap, arith}
use Rattle.std.proofs.lemmas.Int.{ints}
use Rattle.downsample_view.specs.Groups.{new_size, origin_of}
use Rattle.downsample_view.specs.Places.{offset_from, offset_of}
use Rattle.downsample_view.proofs.Lists.{counting-more}
use Rattle.downsample_view.proofs.places.offsets.Goals as goal

pub loop-k-preserved : goal.loop-k-preserved
loop-k-preserved c =
    let m = c.args.method in
    let f = c.args.factor in
    let dim = c.args.dim.now in
    let e : to_z w64 (of_z w64 c.origin_of-origin.result) ≡ c.origin_of-origin.result = omega (arith, ints) in
    let o = e ∙ c.origin_of-origin.ensures in
    let d : to_z w64 (of_z w64 c.nth.result) ≡ c.nth.result = omega (arith, ints) in
    let x = d ∙ c.nth.ensures in
    let here : c.offset_from.result ≡ offset_of m f dim (dim.lo +ℤ pos c.loop-k.k) =
    c.offset_from.ensures
    ∙ ap (λ z. offset_from m f z c.new_size-size.result (to_z w64 (of_z w64 c.nth.result))) o
    ∙ ap (λ n. offset_from m f (origin_of m f dim) n (to_z w64 (of_z w64 c.nth.result))) c.new_size-size.ensures
    ∙ ap (λ z. offset_from m f (origin_of m f dim) (new_size m f dim) z) x in
    c.in_ok-push.ensures.items ∙ ap (λ (v : Option ℕ). c.loop-k.all.items ++ v ∷ []) here
    ∙ ap (λ (zs : List (Option ℕ)). zs ++ offset_of m f dim (dim.lo +ℤ pos c.loop-k.k) ∷ []) c.loop-k.invariant
    ∙ sym (counting-more (offset_of m f dim) dim.lo c.loop-k.k)
