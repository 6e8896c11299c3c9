use Rattle.std.proofs.Common.{◌≡◌, ◌*◌, length, ap, arith}
use Rattle.cells.specs.Bytes.{byte_count}
use Rattle.cells.specs.Items.{words_in}
use Rattle.cells.proofs.ItemLaws.{length-words_in, item_put, IsWhereUpTo-put, IsWhereUpTo-kept, IsWhereUpTo-all}
use Rattle.cells.proofs.items.lay_each.Goals as goal
use Rattle.cells.proofs.items.lay_each.Goals.{then-mask-place, else-mask-place}

pub loop-place-preserved : goal.loop-place-preserved
loop-place-preserved c =
    let d = c.args.dtype in
    let n = c.args.cells in
    let full : length c.loop-place.bytes ≡ n * byte_count d = omega (arith, c.loop-place.auto.bytes, c.requires.full) in
    let now = length-words_in d n c.loop-place.bytes in
    elim c.if-mask-place.branch [
      | then-mask-place w ↦ rw w.bytes-is (rw (item_put d n c.loop-place.place c.byte_count-size.result _ c.loop-place.bytes w.put.new.out c.byte_count-size.ensures.value full c.loop-place-test.true
          (c.requires.words c.loop-place.place c.loop-place-test.true w.if-mask-place.true) w.put.ensures)
          (IsWhereUpTo-put c.args.mask.now c.args.staged.now (words_in d n c.args.bytes.now) (words_in d n c.loop-place.bytes) c.loop-place.place
          (omega (arith, now)) w.if-mask-place.true c.loop-place.invariant))
      | else-mask-place w ↦ rw w.bytes-is (IsWhereUpTo-kept c.args.mask.now c.args.staged.now (words_in d n c.args.bytes.now) (words_in d n c.loop-place.bytes) c.loop-place.place
          w.if-mask-place.false c.loop-place.invariant)
    ]

pub returns : goal.returns
returns c =
    let d = c.args.dtype in
    let n = c.args.cells in
    IsWhereUpTo-all c.args.mask.now c.args.staged.now (words_in d n c.args.bytes.now) (words_in d n c.loop-place.bytes) c.loop-place.place n
    c.requires.mask c.requires.staged (length-words_in d n c.args.bytes.now) (length-words_in d n c.loop-place.bytes) (omega arith) c.loop-place.invariant
