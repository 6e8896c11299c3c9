use Rattle.std.proofs.Common.{arith, ◌≡◌, ◌∙◌, length, sym}
use Rattle.cells.proofs.Laws.{c_place-lt}
use Rattle.chunk_grid.specs.Grid.{numbers, chunk_index, within_chunk}
use Rattle.chunk_grid.specs.Rows.{all_kept}
use Rattle.chunk_grid.proofs.GridLaws.{length-numbers, inside_within}
use Rattle.chunk_grid.proofs.RowParts.{length-all_kept, number-bound, number-step, place-bound, place-step, place-whole}
use Rattle.chunk_grid.proofs.rows.located.Goals as goal

pub overflow_mul-number : goal.overflow_mul-number
overflow_mul-number c =
    let xs = all_kept c.args.want c.args.flags.now c.args.target.now in
    let long : length xs ≡ length c.args.chunk.now = length-all_kept c.args.want c.args.flags.now c.args.target.now (c.requires.target ∙ sym c.requires.flags) ∙ c.requires.flags ∙ sym c.requires.chunk in
    omega (arith, c.requires.few, number-bound c.args.counts.now c.args.chunk.now xs c.loop-j.j c.kept_at-x.result c.loop-j.number long (omega (arith, c.requires.chunk, c.loop-j-test.true)) c.kept_at-x.ensures c.requires.chunk c.requires.inside c.loop-j.invariant.number)

pub overflow_add-number : goal.overflow_add-number
overflow_add-number c =
    let xs = all_kept c.args.want c.args.flags.now c.args.target.now in
    let long : length xs ≡ length c.args.chunk.now = length-all_kept c.args.want c.args.flags.now c.args.target.now (c.requires.target ∙ sym c.requires.flags) ∙ c.requires.flags ∙ sym c.requires.chunk in
    omega (arith, c.requires.few, number-bound c.args.counts.now c.args.chunk.now xs c.loop-j.j c.kept_at-x.result c.loop-j.number long (omega (arith, c.requires.chunk, c.loop-j-test.true)) c.kept_at-x.ensures c.requires.chunk c.requires.inside c.loop-j.invariant.number)

pub overflow_mul-place : goal.overflow_mul-place
overflow_mul-place c =
    let xs = all_kept c.args.want c.args.flags.now c.args.target.now in
    let long : length xs ≡ length c.args.chunk.now = length-all_kept c.args.want c.args.flags.now c.args.target.now (c.requires.target ∙ sym c.requires.flags) ∙ c.requires.flags ∙ sym c.requires.chunk in
    omega (arith, c.requires.small, place-bound c.args.counts.now c.args.chunk.now xs c.loop-j.j c.kept_at-x.result c.loop-j.place long (omega (arith, c.requires.chunk, c.loop-j-test.true)) c.kept_at-x.ensures c.requires.positive c.loop-j.invariant.place)

pub overflow_add-place : goal.overflow_add-place
overflow_add-place c =
    let xs = all_kept c.args.want c.args.flags.now c.args.target.now in
    let long : length xs ≡ length c.args.chunk.now = length-all_kept c.args.want c.args.flags.now c.args.target.now (c.requires.target ∙ sym c.requires.flags) ∙ c.requires.flags ∙ sym c.requires.chunk in
    omega (arith, c.requires.small, place-bound c.args.counts.now c.args.chunk.now xs c.loop-j.j c.kept_at-x.result c.loop-j.place long (omega (arith, c.requires.chunk, c.loop-j-test.true)) c.kept_at-x.ensures c.requires.positive c.loop-j.invariant.place)

pub loop-j-preserved : goal.loop-j-preserved
loop-j-preserved c =
    let xs = all_kept c.args.want c.args.flags.now c.args.target.now in
    let long : length xs ≡ length c.args.chunk.now = length-all_kept c.args.want c.args.flags.now c.args.target.now (c.requires.target ∙ sym c.requires.flags) ∙ c.requires.flags ∙ sym c.requires.chunk in
    record {
      number = rw c.divided-at.ensures.quotient (number-step c.args.counts.now c.args.chunk.now xs c.loop-j.j c.kept_at-x.result c.loop-j.number long (omega (arith, c.requires.chunk, c.loop-j-test.true)) c.kept_at-x.ensures c.requires.chunk c.requires.inside c.loop-j.invariant.number);
      place = rw c.divided-at.ensures.remainder (place-step c.args.counts.now c.args.chunk.now xs c.loop-j.j c.kept_at-x.result c.loop-j.place long (omega (arith, c.requires.chunk, c.loop-j-test.true)) c.kept_at-x.ensures c.requires.positive c.loop-j.invariant.place);
    }

pub overflow_cast-result : goal.overflow_cast-result
overflow_cast-result c =
    let xs = all_kept c.args.want c.args.flags.now c.args.target.now in
    omega (
      arith,
      c.requires.few,
      c_place-lt c.args.counts.now (chunk_index c.args.chunk.now (numbers xs)) c.requires.inside,
      place-whole c.args.counts.now (chunk_index c.args.chunk.now (numbers xs)) c.loop-j.j c.loop-j.number c.loop-j-test.false c.loop-j.invariant.number,
    )

pub overflow_cast-result-2 : goal.overflow_cast-result-2
overflow_cast-result-2 c =
    let xs = all_kept c.args.want c.args.flags.now c.args.target.now in
    let long : length xs ≡ length c.args.chunk.now = length-all_kept c.args.want c.args.flags.now c.args.target.now (c.requires.target ∙ sym c.requires.flags) ∙ c.requires.flags ∙ sym c.requires.chunk in
    omega (
      arith,
      c.requires.small,
      c_place-lt c.args.chunk.now (within_chunk c.args.chunk.now (numbers xs)) (inside_within c.args.chunk.now (numbers xs) (length-numbers xs ∙ long) c.requires.positive),
      place-whole c.args.chunk.now (within_chunk c.args.chunk.now (numbers xs)) c.loop-j.j c.loop-j.place (omega (arith, c.requires.chunk, c.loop-j-test.false)) c.loop-j.invariant.place,
    )

pub returns : goal.returns
returns c =
    let xs = all_kept c.args.want c.args.flags.now c.args.target.now in
    λ i. record {
      number = place-whole c.args.counts.now (chunk_index c.args.chunk.now (numbers xs)) c.loop-j.j c.loop-j.number c.loop-j-test.false c.loop-j.invariant.number i;
      place = place-whole c.args.chunk.now (within_chunk c.args.chunk.now (numbers xs)) c.loop-j.j c.loop-j.place (omega (arith, c.requires.chunk, c.loop-j-test.false)) c.loop-j.invariant.place i;
    }
