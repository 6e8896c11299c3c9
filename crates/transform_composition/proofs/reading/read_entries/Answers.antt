use Rattle.std.proofs.Common.{◌∙◌, ◌++◌, ◌∷◌, [], List, ℕ, ℤ, pos, ap, sym, subst, rules, map, length, get_or, FitsSigned, w64, append_assoc}
use Rattle.std.proofs.lemmas.Int.{to_z-of_z}
use Rattle.std.proofs.lemmas.List.{length-map}
use Rattle.index_transform.specs.Bounds.{Bounds}
use Rattle.index_transform.specs.Walks.{CellsLeft}
use Rattle.transform_composition.specs.Reading.{entry_over}
use Rattle.index_transform.proofs.Laws.{AreCells, AreCells-cells_of}
use Rattle.transform_composition.proofs.reading.read_entries.Goals as goal

pub loop-cell-init : goal.loop-cell-init
loop-cell-init c =
    let w = c.in_ok-walk.ensures in
    let r = ap (λ (w : CellsLeft). w.rank) w in
    let cells = ap (λ (w : CellsLeft). w.cells) w in
    let n = ap (λ (xs : List ℤ). length xs) (c.as_mut_slice-cell.ensures.value ∙ c.in_ok-index.ensures) ∙ length-map c.args.read.now (λ (dim : Bounds). dim.lo) in
    record {
      rank = r ∙ sym n;
      same = ap (λ (xs : List ℤ). xs ++ map (entry_over c.args.outers.now c.args.sizes.now c.args.entries.now c.args.dims.now c.args.maps.now) c.in_ok-walk.walk.cells) c.new-gathered.ensures.items
          ∙ ap (λ (xs : List (List ℤ)). map (entry_over c.args.outers.now c.args.sizes.now c.args.entries.now c.args.dims.now c.args.maps.now) xs) cells;
      cells = subst (λ (xs : List (List ℤ)). AreCells c.args.read.now xs) (sym cells) (AreCells-cells_of c.args.read.now c.requires.ordered);
    }

pub place_over-place-requires-clause-readable : goal.place_over-place-requires-clause-readable
place_over-place-requires-clause-readable c =
    let out = c.loop-cell-test.ensures.cell in
    let cells = subst (λ (xs : List (List ℤ)). AreCells c.args.read.now xs) out c.loop-cell.invariant.cells in
    c.requires.readable c.advance.new.out cells.0

pub loop-cell-preserved : goal.loop-cell-preserved
loop-cell-preserved c =
    let out = c.loop-cell-test.ensures.cell in
    let cells = subst (λ (xs : List (List ℤ)). AreCells c.args.read.now xs) out c.loop-cell.invariant.cells in
    let e : List ℤ → ℤ = entry_over c.args.outers.now c.args.sizes.now c.args.entries.now c.args.dims.now c.args.maps.now in
    let x = get_or c.args.entries.now c.place_over-place.result (pos 0) in
    let fits : FitsSigned w64 (get_or c.args.entries.now c.place_over-place.result (pos 0)) = search rules in
    let stored = to_z-of_z w64 (get_or c.args.entries.now c.place_over-place.result (pos 0)) fits in
    let x_is = ap (λ (n : ℕ). get_or c.args.entries.now n (pos 0)) c.place_over-place.ensures.value in
    let pushed = (rw stored at c.in_ok-push.ensures.items) in
    record {
      rank = c.loop-cell-test.ensures.rank ∙ c.loop-cell.invariant.rank ∙ sym c.advance.auto.out;
      same = ap (λ (xs : List ℤ). xs ++ map e c.advance.new.self.cells) (pushed ∙ ap (λ (z : ℤ). c.loop-cell.gathered.items ++ z ∷ []) x_is)
          ∙ append_assoc c.loop-cell.gathered.items (e c.advance.new.out ∷ []) (map e c.advance.new.self.cells)
          ∙ ap (λ (xs : List (List ℤ)). c.loop-cell.gathered.items ++ map e xs) (sym out)
          ∙ c.loop-cell.invariant.same;
      cells = cells.1;
    }
