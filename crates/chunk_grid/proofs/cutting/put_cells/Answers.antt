use Rattle.std.proofs.Common.{◌≡◌, true, ◌∙◌, ap, sym, subst, ℕ, ℤ, List, ◌++◌, ◌∷◌, [], length, map, take, drop, arith, take_all}
use Rattle.std.specs.Prelude.{IfSome}
use Rattle.std.proofs.lemmas.List.{length-map, length-take-le, length-replicate}
use Rattle.index_intervals.specs.Bounds.{Bounds}
use Rattle.index_transform.specs.Cells.{cells_of}
use Rattle.std.specs.List.{list_all}
use Rattle.index_transform.specs.Values.{value_at, has_value, is_word}
use Rattle.index_transform.specs.Walks.{IsCell, CellsLeft}
use Rattle.index_transform.proofs.Laws.{has_value-cell, written_back}
use Rattle.chunk_grid.proofs.ViewLaws.{are_cells, are_words}
use Rattle.index_transform.specs.declared.domain.Domain.{Domain}
use Rattle.chunk_grid.specs.Grid.{IsInShape, numbers}
use Rattle.chunk_grid.specs.Cuts.{at, IsUpTo, AreCuts}
use Rattle.chunk_grid.proofs.CellLaws.{next_left, next-holds, next-mapped, none_left}
use Rattle.chunk_grid.proofs.cutting.put_cells.Goals as goal

pub cells-init : goal.cells-init
cells-init c =
    let dims : c.domain-2.result.now.dims ≡ c.args.t.now.domain.dims = ap (λ (d : Domain). d.dims) c.domain-2.ensures.value in
    let rank = ap (λ (w : CellsLeft). w.rank) c.in_ok-walk.ensures in
    let cells = ap (λ (w : CellsLeft). w.cells) c.in_ok-walk.ensures in
    let here = ap length (c.in_ok-cell.ensures.items_if_clones_equal (λ y e. e)) ∙ length-replicate (length c.items.result.now) _ ∙ ap (λ (xs : List Bounds). length xs) (c.items.ensures ∙ ap (λ (d : Domain). d.dims) c.domain.ensures.value) in
    record {
      left = ap cells_of (sym dims) ∙ sym cells;
      so_far = omega arith;
      cuts = c.requires.empty;
      room = ap length (c.in_ok-chunk.ensures.items_if_clones_equal (λ y e. e)) ∙ length-replicate (length c.shape.result.now) 0 ∙ ap (λ (xs : List ℕ). length xs) c.shape.ensures.value;
      rank = rank ∙ ap (λ (xs : List Bounds). length xs) dims ∙ sym here;
      here = here;
      outputs = ap length (c.in_ok-target.ensures.items_if_clones_equal (λ y e. e)) ∙ length-replicate (length c.maps.result.now) _ ∙ ap length c.maps.ensures.value;
    }

-- the cell of the walk
cell_is : (c : goal.After-deref_mut-in-cells) → c.deref.result.now ≡ c.advance.new.out
cell_is c =
    let out = c.advance.new.out in
    c.deref.ensures.value ∙ written_back c.cells.cell.len c.cells.cell.items out (omega arith) (omega arith)

pub value_into-requires-clause-room : goal.value_into-requires-clause-room
value_into-requires-clause-room c = ap length c.deref_mut-in-cells.ensures.value ∙ c.cells.invariant.outputs

pub value_into-requires-clause-known : goal.value_into-requires-clause-known
value_into-requires-clause-known c =
    let out = c.advance.new.out in
    let next = next_left (cells_of c.args.t.now.domain.dims) c.cells.view out c.advance.new.self.cells (c.cells.invariant.left ∙ c.cells-test.ensures.cell) in
    let cell = next-holds (IsCell c.args.t.now.domain.dims) (cells_of c.args.t.now.domain.dims) c.cells.view out c.advance.new.self.cells (are_cells c.args.t.now c.maps.ensures.well_formed) next in
    subst (λ (x : List ℤ). list_all (has_value c.args.t.now.domain.dims x) c.args.t.now.maps ≡ true) (sym (cell_is c)) (has_value-cell c.args.t.now out c.maps.ensures.well_formed c.requires.finite cell)

pub value_into-requires-clause-fits : goal.value_into-requires-clause-fits
value_into-requires-clause-fits c =
    let out = c.advance.new.out in
    let next = next_left (cells_of c.args.t.now.domain.dims) c.cells.view out c.advance.new.self.cells (c.cells.invariant.left ∙ c.cells-test.ensures.cell) in
    let inside = next-holds (λ (cell : List ℤ). IsInShape c.args.grid.now.shape (value_at c.args.t.now cell)) (cells_of c.args.t.now.domain.dims) c.cells.view out c.advance.new.self.cells c.requires.inside next in
    subst (λ (x : List ℤ). list_all is_word (value_at c.args.t.now x) ≡ true) (sym (cell_is c)) (are_words c.args.grid.now (value_at c.args.t.now out) c.shape.ensures.well_formed inside)

pub add-requires-clause-before : goal.add-requires-clause-before
add-requires-clause-before c =
    let cells = cells_of c.args.t.now.domain.dims in
    let done = length-map (take c.cells.view cells) (λ cell. numbers (value_at c.args.t.now cell)) ∙ length-take-le c.cells.view cells c.cells.invariant.so_far in
    λ key. subst (λ n. IfSome (at c.cells.cuts key) (IsUpTo n)) done (c.cells.invariant.cuts.before key)

pub add-requires-clause-small : goal.add-requires-clause-small
add-requires-clause-small c =
    let next = next_left (cells_of c.args.t.now.domain.dims) c.cells.view c.advance.new.out c.advance.new.self.cells (c.cells.invariant.left ∙ c.cells-test.ensures.cell) in
    omega (arith, next.below, c.requires.few)

pub add-requires-clause-inside : goal.add-requires-clause-inside
add-requires-clause-inside c =
    let out = c.advance.new.out in
    let put = c.value_into.new.out in
    let whole : take c.cells.cell.len (out ++ drop (length out) c.cells.cell.items) ≡ out = written_back c.cells.cell.len c.cells.cell.items out (omega arith) (omega arith) in
    let room : length put ≡ length c.cells.target.items = c.value_into.auto.out ∙ ap length c.deref_mut-in-cells.ensures.value in
    let filled : take c.cells.target.len (put ++ drop (length put) c.cells.target.items) ≡ put = written_back c.cells.target.len c.cells.target.items put (omega arith) (omega arith) in
    let next = next_left (cells_of c.args.t.now.domain.dims) c.cells.view out c.advance.new.self.cells (c.cells.invariant.left ∙ c.cells-test.ensures.cell) in
    let inside = next-holds (λ (cell : List ℤ). IsInShape c.args.grid.now.shape (value_at c.args.t.now cell)) (cells_of c.args.t.now.domain.dims) c.cells.view out c.advance.new.self.cells c.requires.inside next in
    let is = c.deref-in-cells.ensures.value ∙ filled ∙ c.value_into.ensures ∙ ap (value_at c.args.t.now) (c.deref.ensures.value ∙ whole) in
    subst (IsInShape c.args.grid.now.shape) (sym is) inside

pub cells-preserved : goal.cells-preserved
cells-preserved c =
    let out = c.advance.new.out in
    let put = c.value_into.new.out in
    let cells = cells_of c.args.t.now.domain.dims in
    let target : List ℤ → List ℕ = λ cell. numbers (value_at c.args.t.now cell) in
    let whole : take c.cells.cell.len (out ++ drop (length out) c.cells.cell.items) ≡ out = written_back c.cells.cell.len c.cells.cell.items out (omega arith) (omega arith) in
    let filled_room : length put ≡ length c.cells.target.items = c.value_into.auto.out ∙ ap length c.deref_mut-in-cells.ensures.value in
    let filled : take c.cells.target.len (put ++ drop (length put) c.cells.target.items) ≡ put = written_back c.cells.target.len c.cells.target.items put (omega arith) (omega arith) in
    let next = next_left cells c.cells.view out c.advance.new.self.cells (c.cells.invariant.left ∙ c.cells-test.ensures.cell) in
    let is = c.deref-in-cells.ensures.value ∙ filled ∙ c.value_into.ensures ∙ ap (value_at c.args.t.now) (c.deref.ensures.value ∙ whole) in
    let done = length-map (take c.cells.view cells) target ∙ length-take-le c.cells.view cells c.cells.invariant.so_far in
    let room : length out ≡ length c.cells.cell.items = omega arith in
    let more = c.in_ok-add.ensures.cuts (map target (take c.cells.view cells)) done c.cells.invariant.cuts in
    record {
      left = next.left;
      so_far = omega (arith, next.below);
      cuts = subst (λ (ts : List (List ℕ)). AreCuts c.args.grid.now.chunk ts c.add.new.cuts)
          (ap (λ (ns : List ℤ). map target (take c.cells.view cells) ++ numbers ns ∷ []) is ∙ next-mapped target cells c.cells.view out c.advance.new.self.cells next) more;
      room = c.in_ok-add.ensures.room;
      rank = c.advance.ensures.rank ∙ c.cells.invariant.rank ∙ sym room ∙ ap length (sym whole);
      here = ap length whole ∙ room ∙ c.cells.invariant.here;
      outputs = ap length filled ∙ filled_room ∙ c.cells.invariant.outputs;
    }

pub returns : goal.returns
returns c =
    let cells = cells_of c.args.t.now.domain.dims in
    let target : List ℤ → List ℕ = λ cell. numbers (value_at c.args.t.now cell) in
    let none = c.cells.invariant.left ∙ c.cells-test.ensures.cell.0 in
    subst (λ (ts : List (List ℕ)). AreCuts c.args.grid.now.chunk ts c.cells.cuts) (ap (map target) (take_all c.cells.view cells (none_left cells c.cells.view none))) c.cells.invariant.cuts
