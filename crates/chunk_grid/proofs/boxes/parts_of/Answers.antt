use Rattle.std.proofs.Common.{rules, ◌≡◌, ◌∙◌, ◌/◌, ◌∷◌, [], ◌++◌, ℕ, ℤ, ◌+ℤ◌, ◌*ℤ◌, List, FitsSigned, to_z, of_z, w64, arith, sym, ap, subst, map, get_or, unsigned_abs, inl, inr, Vec, Global}
use Rattle.std.proofs.lemmas.Int.{ints, to_z-of_z}
use Rattle.std.proofs.lemmas.Bool.{false≢true}
use Rattle.std.proofs.lemmas.Result.{IfOk-weaker}
use Rattle.index_intervals.specs.Bounds.{Bounds}
use Rattle.index_transform.specs.declared.map.OutMap.{OutMap}
use Rattle.index_transform.specs.declared.map.OutMap.TheVariants.{Constant}
use Rattle.chunk_grid.specs.declared.boxes.Boxed.{Boxed}
use Rattle.chunk_grid.specs.Boxes.{chunk_along, is_regular}
use Rattle.chunk_grid.specs.BoxSteps.{IsCut, IsSplit, IsPlaceAlong, strided_number, narrowed_box}
use Rattle.chunk_grid.proofs.BoxSplits.{strided-split, strided-values, filled-at, split-strided, split-whole, constant-value}
use Rattle.chunk_grid.proofs.boxes.parts_of.Goals as goal

pub segments-requires-clause-filled : goal.segments-requires-clause-filled
segments-requires-clause-filled c =
    let box = c.args.cells in
    let m = c.in-Strided in
    let known = strided-split box c.args.map.now m.offset m.stride m.dim c.requires.split m.is in
    let is : c.index-items-along.result ≡ get_or box.dims m.dim c.index-items-along.result = c.index-items-along.is ∙ ap (λ (ds : List Bounds). get_or ds m.dim c.index-items-along.result) c.items.ensures in
    filled-at box.dims m.dim c.index-items-along.result c.requires.split.filled known.lt is

pub segments-requires-clause-values : goal.segments-requires-clause-values
segments-requires-clause-values c = λ x low high.
    let box = c.args.cells in
    let m = c.in-Strided in
    let known = strided-split box c.args.map.now m.offset m.stride m.dim c.requires.split m.is in
    let is : c.index-items-along.result ≡ get_or box.dims m.dim c.index-items-along.result = c.index-items-along.is ∙ ap (λ (ds : List Bounds). get_or ds m.dim c.index-items-along.result) c.items.ensures in
    let fits_offset : FitsSigned w64 m.offset = search rules in
    let fits_stride : FitsSigned w64 m.stride = search rules in
    let offset = to_z-of_z w64 m.offset fits_offset in
    let stride = to_z-of_z w64 m.stride fits_stride in
    subst IsPlaceAlong (λ i. (sym offset) i +ℤ (sym stride) i *ℤ x)
    (strided-values box.dims m.offset m.stride m.dim c.index-items-along.result c.requires.split.filled known.lt is known.values x low high)

pub whole-requires-clause-value : goal.whole-requires-clause-value
whole-requires-clause-value c =
    let fits_offset : FitsSigned w64 c.in-Constant.offset = search rules in
    let offset = to_z-of_z w64 c.in-Constant.offset fits_offset in
    let is : c.args.map.now ≡ Constant c.in-Constant.offset = elim c.in-Constant.is [ inl e ↦ e | inr x ↦ absurd (false≢true (sym (ap is_regular x.3) ∙ c.requires.regular)) ] in
    let place = constant-value c.args.cells c.args.map.now c.in-Constant.offset c.requires.split is in
    let from = place.from_zero in
    omega (arith, ints, offset, from)

pub returns-in_ok-cut-in-Strided : goal.returns-in_ok-cut-in-Strided
returns-in_ok-cut-in-Strided c =
    let box = c.args.cells in
    let m = c.in-Strided in
    let known = strided-split box c.args.map.now m.offset m.stride m.dim c.requires.split m.is in
    let is : c.index-items-along.result ≡ get_or box.dims m.dim c.index-items-along.result = c.index-items-along.is ∙ ap (λ (ds : List Bounds). get_or ds m.dim c.index-items-along.result) c.items.ensures in
    let fits_offset : FitsSigned w64 m.offset = search rules in
    let fits_stride : FitsSigned w64 m.stride = search rules in
    let offset = to_z-of_z w64 m.offset fits_offset in
    let stride = to_z-of_z w64 m.stride fits_stride in
    let cut = subst (λ (f : ℤ → ℕ). IsCut f c.index-items-along.result c.in_ok-cut-in-Strided.cut.items) (λ i. strided_number (offset i) (stride i) c.args.size) c.in_ok-cut-in-Strided.ensures in
    let split = split-strided box m.offset m.stride m.dim c.args.size c.index-items-along.result c.in_ok-cut-in-Strided.cut.items c.requires.split.filled known.lt is cut in
    let same = subst (λ (n : OutMap). IsSplit (chunk_along n c.args.size) box (map (narrowed_box box m.dim) c.in_ok-cut-in-Strided.cut.items)) (sym m.is) split in
    IfOk-weaker c.narrowed_each.result (λ (parts : Vec Boxed Global). parts.items ≡ map (narrowed_box box m.dim) c.in_ok-cut-in-Strided.cut.items) (λ parts. IsSplit (chunk_along c.args.map.now c.args.size) box parts.items)
    (λ parts e. subst (IsSplit (chunk_along c.args.map.now c.args.size) box) (sym e) same) c.narrowed_each.ensures

pub returns-in-Constant : goal.returns-in-Constant
returns-in-Constant c =
    let box = c.args.cells in
    let o = c.in-Constant.offset in
    let is : c.args.map.now ≡ Constant o = elim c.in-Constant.is [ inl e ↦ e | inr x ↦ absurd (false≢true (sym (ap is_regular x.3) ∙ c.requires.regular)) ] in
    let fits_offset : FitsSigned w64 o = search rules in
    let offset = to_z-of_z w64 o fits_offset in
    IfOk-weaker c.whole.result (λ (parts : Vec Boxed Global). parts.items ≡ (let b : Boxed = record { chunk = box.chunk ++ (unsigned_abs (to_z w64 (of_z w64 o)) / c.args.size) ∷ []; dims = box.dims } in b) ∷ []) (λ parts. IsSplit (chunk_along c.args.map.now c.args.size) box parts.items)
    (λ parts e.
    subst (λ (n : OutMap). IsSplit (chunk_along n c.args.size) box parts.items) (sym is)
    (split-whole box o c.args.size parts.items c.requires.split.filled (e ∙ (λ i. (let b : Boxed = record { chunk = box.chunk ++ (unsigned_abs (offset i) / c.args.size) ∷ []; dims = box.dims } in b) ∷ []))))
    c.whole.ensures
