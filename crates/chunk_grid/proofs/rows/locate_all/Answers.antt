use Rattle.std.proofs.Common.{◌≡◌, refl, true, ◌∙◌, ap, sym, subst, ℕ, ℤ, List, ◌++◌, ◌∷◌, [], ◌+◌, length, map, take, drop, arith, take_all}
use Rattle.std.proofs.lemmas.List.{length-map, length-append, length-replicate}
use Rattle.index_transform.specs.Cells.{cells_of}
use Rattle.std.specs.List.{list_all}
use Rattle.index_transform.specs.Values.{value_at, map_value, has_value, is_word}
use Rattle.index_transform.specs.Walks.{IsCell, CellsLeft}
use Rattle.index_transform.proofs.Laws.{has_value-cell, written_back}
use Rattle.cells.specs.Places.{IsInside}
use Rattle.chunk_grid.specs.Grid.{AreFromZero, IsInShape, numbers, chunk_index}
use Rattle.chunk_grid.specs.Rows.{all_kept}
use Rattle.chunk_grid.specs.Slots.{chunk_counts, located, located_kept}
use Rattle.chunk_grid.proofs.ViewLaws.{are_words}
use Rattle.chunk_grid.proofs.GridLaws.{length-in_shape, from_zero_in_shape}
use Rattle.chunk_grid.proofs.CellLaws.{next_left, next-holds, next-mapped, none_left}
use Rattle.chunk_grid.proofs.RowParts.{length-chunk_counts, all_kept-in_shape, chunk-in_grid}
use Rattle.chunk_grid.proofs.rows.locate_all.Goals as goal

pub cells-init : goal.cells-init
cells-init c =
    let rank = ap (λ (w : CellsLeft). w.rank) c.in_ok-walk.ensures in
    let cells = ap (λ (w : CellsLeft). w.cells) c.in_ok-walk.ensures in
    let none = ap length c.new-all.ensures.items in
    let here = ap length (c.in_ok-cell.ensures.items_if_clones_equal (λ y e. e)) ∙ length-replicate (length c.args.dims.now) _ in
    record {
      left = ap (λ n. drop n (cells_of c.args.dims.now)) none ∙ sym cells;
      so_far = omega (arith, none);
      all = c.new-all.ensures.items ∙ ap (λ n. map (located_kept c.args.want c.args.t.now c.args.counts.now c.args.grid.now.chunk c.args.flags.now) (take n (cells_of c.args.dims.now))) (sym none);
      rank = rank ∙ sym here;
      here = here ∙ c.requires.rank;
      outputs = ap length (c.in_ok-target.ensures.items_if_clones_equal (λ y e. e)) ∙ length-replicate (length c.maps.result.now) _ ∙ ap length c.maps.ensures.value;
      guesses = refl;
    }

pub value_into-requires-clause-known : goal.value_into-requires-clause-known
value_into-requires-clause-known c =
    let out = c.advance.new.out in
    let cell_is : c.deref.result.now ≡ out = c.deref.ensures.value ∙ written_back c.cells.cell.len c.cells.cell.items out (omega arith) (omega arith) in
    let next = next_left (cells_of c.args.dims.now) (length c.cells.all.items) out c.advance.new.self.cells (c.cells.invariant.left ∙ c.cells-test.ensures.cell) in
    let both = next-holds (λ cell. IsCell c.args.t.now.domain.dims cell × IsInShape c.args.grid.now.shape (value_at c.args.t.now cell)) (cells_of c.args.dims.now) (length c.cells.all.items) out c.advance.new.self.cells c.requires.cells next in
    subst (λ (x : List ℤ). list_all (has_value c.args.t.now.domain.dims x) c.args.t.now.maps ≡ true) (sym cell_is) (has_value-cell c.args.t.now out c.maps.ensures.well_formed c.requires.finite both.0)

pub value_into-requires-clause-fits : goal.value_into-requires-clause-fits
value_into-requires-clause-fits c =
    let out = c.advance.new.out in
    let cell_is : c.deref.result.now ≡ out = c.deref.ensures.value ∙ written_back c.cells.cell.len c.cells.cell.items out (omega arith) (omega arith) in
    let next = next_left (cells_of c.args.dims.now) (length c.cells.all.items) out c.advance.new.self.cells (c.cells.invariant.left ∙ c.cells-test.ensures.cell) in
    let both = next-holds (λ cell. IsCell c.args.t.now.domain.dims cell × IsInShape c.args.grid.now.shape (value_at c.args.t.now cell)) (cells_of c.args.dims.now) (length c.cells.all.items) out c.advance.new.self.cells c.requires.cells next in
    subst (λ (x : List ℤ). list_all is_word (value_at c.args.t.now x) ≡ true) (sym cell_is) (are_words c.args.grid.now (value_at c.args.t.now out) c.chunk-chunk.ensures.well_formed both.1)

pub located-requires-clause-chunk : goal.located-requires-clause-chunk
located-requires-clause-chunk c =
    let shape = c.args.grid.now.shape in
    let same = c.chunk-chunk.ensures.well_formed.same in
    let many = ap length c.requires.counts ∙ length-chunk_counts shape c.args.grid.now.chunk same in
    ap length c.chunk-chunk.ensures.value ∙ same ∙ sym many

pub located-requires-clause-room : goal.located-requires-clause-room
located-requires-clause-room c =
    let same = c.chunk-chunk.ensures.well_formed.same in
    let many = ap length c.requires.counts ∙ length-chunk_counts c.args.grid.now.shape c.args.grid.now.chunk same in
    omega (arith, many, c.chunk-chunk.ensures.well_formed.rank, c.cells.invariant.guesses)

pub located-requires-clause-flags : goal.located-requires-clause-flags
located-requires-clause-flags c =
    let out = c.advance.new.out in
    let cell_is : c.deref.result.now ≡ out = c.deref.ensures.value ∙ written_back c.cells.cell.len c.cells.cell.items out (omega arith) (omega arith) in
    let next = next_left (cells_of c.args.dims.now) (length c.cells.all.items) out c.advance.new.self.cells (c.cells.invariant.left ∙ c.cells-test.ensures.cell) in
    let both = next-holds (λ cell. IsCell c.args.t.now.domain.dims cell × IsInShape c.args.grid.now.shape (value_at c.args.t.now cell)) (cells_of c.args.dims.now) (length c.cells.all.items) out c.advance.new.self.cells c.requires.cells next in
    let shape = c.args.grid.now.shape in
    let same = c.chunk-chunk.ensures.well_formed.same in
    let many = ap length c.requires.counts ∙ length-chunk_counts shape c.args.grid.now.chunk same in
    let outputs = sym (length-map c.args.t.now.maps (map_value c.args.t.now.domain.dims out)) ∙ length-in_shape shape (value_at c.args.t.now out) both.1 in
    c.requires.flags ∙ outputs ∙ sym many

pub located-requires-clause-target : goal.located-requires-clause-target
located-requires-clause-target c =
    let out = c.advance.new.out in
    let cell_is : c.deref.result.now ≡ out = c.deref.ensures.value ∙ written_back c.cells.cell.len c.cells.cell.items out (omega arith) (omega arith) in
    let next = next_left (cells_of c.args.dims.now) (length c.cells.all.items) out c.advance.new.self.cells (c.cells.invariant.left ∙ c.cells-test.ensures.cell) in
    let both = next-holds (λ cell. IsCell c.args.t.now.domain.dims cell × IsInShape c.args.grid.now.shape (value_at c.args.t.now cell)) (cells_of c.args.dims.now) (length c.cells.all.items) out c.advance.new.self.cells c.requires.cells next in
    let put = c.value_into.new.out in
    let room : length put ≡ length c.cells.target.items = c.value_into.auto.out ∙ ap length c.deref_mut-in-cells.ensures.value in
    let filled : take c.cells.target.len (put ++ drop (length put) c.cells.target.items) ≡ put = written_back c.cells.target.len c.cells.target.items put (omega arith) (omega arith) in
    let is = c.deref-in-cells.ensures.value ∙ filled ∙ c.value_into.ensures ∙ ap (value_at c.args.t.now) cell_is in
    let shape = c.args.grid.now.shape in
    let same = c.chunk-chunk.ensures.well_formed.same in
    let many = ap length c.requires.counts ∙ length-chunk_counts shape c.args.grid.now.chunk same in
    ap length is ∙ length-in_shape shape (value_at c.args.t.now out) both.1 ∙ sym many

pub located-requires-clause-from_zero : goal.located-requires-clause-from_zero
located-requires-clause-from_zero c =
    let out = c.advance.new.out in
    let cell_is : c.deref.result.now ≡ out = c.deref.ensures.value ∙ written_back c.cells.cell.len c.cells.cell.items out (omega arith) (omega arith) in
    let next = next_left (cells_of c.args.dims.now) (length c.cells.all.items) out c.advance.new.self.cells (c.cells.invariant.left ∙ c.cells-test.ensures.cell) in
    let both = next-holds (λ cell. IsCell c.args.t.now.domain.dims cell × IsInShape c.args.grid.now.shape (value_at c.args.t.now cell)) (cells_of c.args.dims.now) (length c.cells.all.items) out c.advance.new.self.cells c.requires.cells next in
    let put = c.value_into.new.out in
    let room : length put ≡ length c.cells.target.items = c.value_into.auto.out ∙ ap length c.deref_mut-in-cells.ensures.value in
    let filled : take c.cells.target.len (put ++ drop (length put) c.cells.target.items) ≡ put = written_back c.cells.target.len c.cells.target.items put (omega arith) (omega arith) in
    let is = c.deref-in-cells.ensures.value ∙ filled ∙ c.value_into.ensures ∙ ap (value_at c.args.t.now) cell_is in
    subst AreFromZero (sym is) (from_zero_in_shape c.args.grid.now.shape (value_at c.args.t.now out) both.1)

pub located-requires-clause-inside : goal.located-requires-clause-inside
located-requires-clause-inside c =
    let out = c.advance.new.out in
    let cell_is : c.deref.result.now ≡ out = c.deref.ensures.value ∙ written_back c.cells.cell.len c.cells.cell.items out (omega arith) (omega arith) in
    let next = next_left (cells_of c.args.dims.now) (length c.cells.all.items) out c.advance.new.self.cells (c.cells.invariant.left ∙ c.cells-test.ensures.cell) in
    let both = next-holds (λ cell. IsCell c.args.t.now.domain.dims cell × IsInShape c.args.grid.now.shape (value_at c.args.t.now cell)) (cells_of c.args.dims.now) (length c.cells.all.items) out c.advance.new.self.cells c.requires.cells next in
    let put = c.value_into.new.out in
    let room : length put ≡ length c.cells.target.items = c.value_into.auto.out ∙ ap length c.deref_mut-in-cells.ensures.value in
    let filled : take c.cells.target.len (put ++ drop (length put) c.cells.target.items) ≡ put = written_back c.cells.target.len c.cells.target.items put (omega arith) (omega arith) in
    let is = c.deref-in-cells.ensures.value ∙ filled ∙ c.value_into.ensures ∙ ap (value_at c.args.t.now) cell_is in
    let shape = c.args.grid.now.shape in
    let same = c.chunk-chunk.ensures.well_formed.same in
    let many = ap length c.requires.counts ∙ length-chunk_counts shape c.args.grid.now.chunk same in
    let outputs = sym (length-map c.args.t.now.maps (map_value c.args.t.now.domain.dims out)) ∙ length-in_shape shape (value_at c.args.t.now out) both.1 in
    let kept = all_kept c.args.want c.args.flags.now (value_at c.args.t.now out) in
    let there = chunk-in_grid shape c.args.grid.now.chunk kept same c.chunk-chunk.ensures.well_formed.positive (all_kept-in_shape c.args.want c.args.flags.now shape (value_at c.args.t.now out) (c.requires.flags ∙ outputs) both.1) in
    subst (λ (ns : List ℕ). IsInside ns (chunk_index c.chunk-chunk.result.now (numbers (all_kept c.args.want c.args.flags.now c.deref-in-cells.result.now)))) (sym c.requires.counts)
    (subst (λ (xs : List ℤ). IsInside (chunk_counts shape c.args.grid.now.chunk) (chunk_index c.chunk-chunk.result.now (numbers (all_kept c.args.want c.args.flags.now xs)))) (sym is)
    (subst (λ (ns : List ℕ). IsInside (chunk_counts shape c.args.grid.now.chunk) (chunk_index ns (numbers kept))) (sym c.chunk-chunk.ensures.value) there))

pub cells-preserved : goal.cells-preserved
cells-preserved c =
    let out = c.advance.new.out in
    let cell_is : c.deref.result.now ≡ out = c.deref.ensures.value ∙ written_back c.cells.cell.len c.cells.cell.items out (omega arith) (omega arith) in
    let next = next_left (cells_of c.args.dims.now) (length c.cells.all.items) out c.advance.new.self.cells (c.cells.invariant.left ∙ c.cells-test.ensures.cell) in
    let both = next-holds (λ cell. IsCell c.args.t.now.domain.dims cell × IsInShape c.args.grid.now.shape (value_at c.args.t.now cell)) (cells_of c.args.dims.now) (length c.cells.all.items) out c.advance.new.self.cells c.requires.cells next in
    let put = c.value_into.new.out in
    let room : length put ≡ length c.cells.target.items = c.value_into.auto.out ∙ ap length c.deref_mut-in-cells.ensures.value in
    let filled : take c.cells.target.len (put ++ drop (length put) c.cells.target.items) ≡ put = written_back c.cells.target.len c.cells.target.items put (omega arith) (omega arith) in
    let is = c.deref-in-cells.ensures.value ∙ filled ∙ c.value_into.ensures ∙ ap (value_at c.args.t.now) cell_is in
    let cells = cells_of c.args.dims.now in
    let f = located_kept c.args.want c.args.t.now c.args.counts.now c.args.grid.now.chunk c.args.flags.now in
    let pushed = c.in_ok-push.ensures.items in
    let long : length c.push.new.self.items ≡ length c.cells.all.items + 1 = ap length pushed ∙ length-append c.cells.all.items (c.located.result ∷ []) in
    let here : c.located.result ≡ f out =
    c.located.ensures ∙ (λ i. located c.args.counts.now (c.chunk-chunk.ensures.value i) (numbers (all_kept c.args.want c.args.flags.now (is i)))) in
    let more : length out ≡ length c.cells.cell.items = omega arith in
    let whole : take c.cells.cell.len (out ++ drop (length out) c.cells.cell.items) ≡ out = written_back c.cells.cell.len c.cells.cell.items out (omega arith) (omega arith) in
    record {
      left = ap (λ n. drop n cells) long ∙ next.left;
      so_far = omega (arith, long, next.below);
      all = pushed ∙ (λ i. c.cells.invariant.all i ++ here i ∷ []) ∙ next-mapped f cells (length c.cells.all.items) out c.advance.new.self.cells next ∙ ap (λ n. map f (take n cells)) (sym long);
      rank = c.advance.ensures.rank ∙ c.cells.invariant.rank ∙ sym more ∙ ap length (sym whole);
      here = ap length whole ∙ more ∙ c.cells.invariant.here;
      outputs = ap length filled ∙ room ∙ c.cells.invariant.outputs;
      guesses = c.located.auto.last ∙ c.cells.invariant.guesses;
    }

pub returns : goal.returns
returns c =
    let cells = cells_of c.args.dims.now in
    let f = located_kept c.args.want c.args.t.now c.args.counts.now c.args.grid.now.chunk c.args.flags.now in
    let none = c.cells.invariant.left ∙ c.cells-test.ensures.cell.0 in
    c.cells.invariant.all ∙ ap (map f) (take_all (length c.cells.all.items) cells (none_left cells (length c.cells.all.items) none))
