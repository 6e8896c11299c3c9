use Rattle.std.proofs.Common.{◌≡◌, ◌∙◌, sym, Result, Ok, Err, ◌++◌, take, drop, length, arith}
use Rattle.std.specs.Prelude.{OnOk}
use Rattle.index_transform.proofs.Laws.{written_back}
use Rattle.chunk_grid.specs.Grid.{numbers}
use Rattle.chunk_grid.specs.Pieces.{Pair}
use Rattle.chunk_grid.proofs.CutLaws.{AreCuts-more}
use Rattle.chunk_grid.proofs.cuts.add.Goals as goal

on_both : {T E P Q R : Type 0} (r : Result T E) → (P → Q → R) → OnOk r P → OnOk r Q → OnOk r R
on_both (Ok x) f p q = f p q
on_both (Err e) f p q = tt

pub returns-clause-cuts : goal.returns-clause-cuts
returns-clause-cuts c =
    on_both c.put.result (λ runs chunks targets same h.
    let out = c.chunk_of.new.out in
    let whole : take c.args.chunk.now.len (out ++ drop (length out) c.args.chunk.now.items) ≡ out = written_back c.args.chunk.now.len c.args.chunk.now.items out (omega arith) (omega arith) in
    let p : Pair = record { view = c.args.view; chunk = c.place_in-place.result } in
    AreCuts-more c.args.grid.now.chunk targets (numbers c.args.target.now) (take c.args.chunk.now.len (out ++ drop (length out) c.args.chunk.now.items)) p c.args.cuts.now c.put.new.cuts
    (whole ∙ c.chunk_of.ensures.value) (λ i. record { view = sym same i; chunk = c.place_in-place.ensures.value i }) runs chunks h) c.put.ensures.runs c.put.ensures.chunks
