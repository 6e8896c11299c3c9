use Rattle.std.proofs.Common.{ap, sym, subst, ◌∙◌, ℕ, List, length}
use Rattle.chunk_grid.specs.Grid.{IsInBox, numbers, chunk_index}
use Rattle.chunk_grid.proofs.GridLaws.{length-in_shape, from_zero_in_shape, length-numbers, in_box_of_chunk}
use Rattle.chunk_grid.proofs.grid.Grid.chunk_of.Goals as goal

pub index_over-requires-clause-from_zero : goal.index_over-requires-clause-from_zero
index_over-requires-clause-from_zero c = from_zero_in_shape c.args.self.now.shape c.args.index.now c.requires.inside

pub index_over-requires-clause-same : goal.index_over-requires-clause-same
index_over-requires-clause-same c =
    length-in_shape c.args.self.now.shape c.args.index.now c.requires.inside ∙ sym c.chunk.ensures.well_formed.same ∙ ap length (sym c.chunk.ensures.value)

pub returns-clause-in_box : goal.returns-clause-in_box
returns-clause-in_box c =
    let same = length-numbers c.args.index.now ∙ length-in_shape c.args.self.now.shape c.args.index.now c.requires.inside ∙ sym c.chunk.ensures.well_formed.same in
    let is = c.index_over.ensures ∙ ap (λ (ns : List ℕ). chunk_index ns (numbers c.args.index.now)) c.chunk.ensures.value in
    subst (λ (ks : List ℕ). IsInBox c.args.self.now.chunk ks (numbers c.args.index.now)) (sym is)
    (in_box_of_chunk c.args.self.now.chunk (numbers c.args.index.now) same c.chunk.ensures.well_formed.positive)
