use Rattle.std.proofs.Common.{ap, sym, subst, ◌∙◌, ◌<◌, ℕ, List, length, arith}
use Rattle.cells.specs.Places.{cell_count, c_index}
use Rattle.chunk_grid.specs.Grid.{numbers, chunk_index, in_array, place_within}
use Rattle.chunk_grid.proofs.GridLaws.{length-in_shape, from_zero_in_shape, length-numbers, in_array-place, place_within-lt}
use Rattle.chunk_grid.proofs.grid.Grid.place_in.Goals as goal

pub place_over-requires-clause-from_zero : goal.place_over-requires-clause-from_zero
place_over-requires-clause-from_zero c = from_zero_in_shape c.args.self.now.shape c.args.index.now c.requires

pub place_over-requires-clause-same : goal.place_over-requires-clause-same
place_over-requires-clause-same c =
    length-in_shape c.args.self.now.shape c.args.index.now c.requires ∙ sym c.chunk.ensures.well_formed.same ∙ ap length (sym c.chunk.ensures.value)

pub returns-clause-below : goal.returns-clause-below
returns-clause-below c =
    let same = length-numbers c.args.index.now ∙ length-in_shape c.args.self.now.shape c.args.index.now c.requires ∙ sym c.chunk.ensures.well_formed.same in
    let is = c.place_over.ensures ∙ ap (λ (ns : List ℕ). place_within ns (numbers c.args.index.now)) c.chunk.ensures.value in
    subst (λ (n : ℕ). n < cell_count c.args.self.now.chunk) (sym is)
    (place_within-lt c.args.self.now.chunk (numbers c.args.index.now) same c.chunk.ensures.well_formed.positive)

pub returns-clause-small : goal.returns-clause-small
returns-clause-small c =
    let same = length-numbers c.args.index.now ∙ length-in_shape c.args.self.now.shape c.args.index.now c.requires ∙ sym c.chunk.ensures.well_formed.same in
    let is = c.place_over.ensures ∙ ap (λ (ns : List ℕ). place_within ns (numbers c.args.index.now)) c.chunk.ensures.value in
    let below = place_within-lt c.args.self.now.chunk (numbers c.args.index.now) same c.chunk.ensures.well_formed.positive in
    omega (arith, is, below, c.chunk.ensures.well_formed.small)

pub returns-clause-back : goal.returns-clause-back
returns-clause-back c =
    let same = length-numbers c.args.index.now ∙ length-in_shape c.args.self.now.shape c.args.index.now c.requires ∙ sym c.chunk.ensures.well_formed.same in
    let is = c.place_over.ensures ∙ ap (λ (ns : List ℕ). place_within ns (numbers c.args.index.now)) c.chunk.ensures.value in
    let xs = numbers c.args.index.now in
    ap (λ (n : ℕ). in_array c.args.self.now.chunk (chunk_index c.args.self.now.chunk xs) (c_index c.args.self.now.chunk n)) is
    ∙ in_array-place c.args.self.now.chunk xs same c.chunk.ensures.well_formed.positive
