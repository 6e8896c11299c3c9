use Rattle.std.proofs.Common.{◌≡◌, ◌*◌, length, get_or, ap, sym, ◌∙◌, arith}
use Rattle.std.proofs.lemmas.List.{length-replicate}
use Rattle.cells.specs.Bytes.{byte_count}
use Rattle.cells.specs.Places.{cell_count}
use Rattle.chunk_elements.proofs.PlaneLaws.{taken_fits, taken_of_plane}
use Rattle.chunk_elements.proofs.taking.take_plane.Goals as goal

pub overflow_mul-plane : goal.overflow_mul-plane
overflow_mul-plane c =
    let fits = taken_fits c.args.block.now c.args.sizes.now c.args.step.stride c.args.step.from c.byte_count.result (length c.args.elements.now) c.requires.rank c.requires.within c.requires.cells c.requires.volume c.byte_count.ensures.greatest (omega (arith, c.requires.room, c.byte_count.ensures.value)) c.requires.stride c.requires.small in
    omega (arith, fits.0.width)

pub overflow_mul-plane-2 : goal.overflow_mul-plane-2
overflow_mul-plane-2 c =
    let fits = taken_fits c.args.block.now c.args.sizes.now c.args.step.stride c.args.step.from c.byte_count.result (length c.args.elements.now) c.requires.rank c.requires.within c.requires.cells c.requires.volume c.byte_count.ensures.greatest (omega (arith, c.requires.room, c.byte_count.ensures.value)) c.requires.stride c.requires.small in
    omega (arith, fits.0.step)

pub move_plane-requires : goal.move_plane-requires
move_plane-requires c =
    let same = c.byte_count.ensures.value in
    let fits = taken_fits c.args.block.now c.args.sizes.now c.args.step.stride c.args.step.from c.byte_count.result (length c.args.elements.now) c.requires.rank c.requires.within c.requires.cells c.requires.volume c.byte_count.ensures.greatest (omega (arith, c.requires.room, same)) c.requires.stride c.requires.small in
    let bytes : length c.args.out.now ≡ get_or c.args.block.now 0 0 * get_or c.args.block.now 1 0 * c.byte_count.result =
    ap length c.requires.zeros ∙ length-replicate (cell_count c.args.block.now * byte_count c.args.kind.dtype) 0
    ∙ ap (λ k. cell_count c.args.block.now * k) (sym same) ∙ ap (λ n. n * c.byte_count.result) fits.1 in
    let equal : get_or c.args.sizes.now 1 0 * byte_count c.args.kind.dtype ≡ get_or c.args.sizes.now 1 0 * c.byte_count.result = ap (λ k. get_or c.args.sizes.now 1 0 * k) (sym same) in
    record {
      fit = omega (arith, equal, fits.0.fit);
      room = λ i less. omega (arith, fits.0.room i less, same);
      stride = fits.0.stride;
      step = fits.0.step;
      begin = fits.0.begin;
      small = c.requires.small;
      full = omega (arith, bytes, fits.0.full);
      few = omega (arith, bytes, fits.0.few);
    }

pub returns : goal.returns
returns c = taken_of_plane c.args.kind.dtype c.args.kind.big c.args.block.now c.args.sizes.now c.args.step.stride c.args.step.from c.byte_count.result c.args.elements.now c.args.out.now c.move_plane.new.out c.requires.rank c.requires.within c.byte_count.ensures.value c.requires.zeros c.move_plane.ensures
