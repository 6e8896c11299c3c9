use Rattle.std.proofs.Common.{◌≡◌, ◌∙◌, ◌<◌, length, get_or, set, ap, sym, arith}
use Rattle.std.proofs.Math.ListN.{length-set}
use Rattle.cells.specs.Items.{words_in}
use Rattle.cells.proofs.ItemLaws.{length-words_in, get_or-words_in, item_taken, each_more, each_all}
use Rattle.cells.proofs.items.take_each.Goals as goal

pub loop-place-preserved : goal.loop-place-preserved
loop-place-preserved c =
    let d = c.args.dtype in
    let n = length c.loop-place.words in
    let p = c.loop-place.place in
    let bytes = c.args.bytes.now in
    let less : p < n = omega (arith, c.loop-place-test.true, c.loop-place.auto.words) in
    let here : c.take.result ≡ get_or (words_in d n bytes) p 0 =
    item_taken d p c.byte_count-size.result c.take.result bytes c.byte_count-size.ensures.value c.take.ensures ∙ sym (get_or-words_in d n bytes p less) in
    let same : length (set c.loop-place.words p c.take.result) ≡ n = length-set c.loop-place.words p c.take.result in
    rw same (each_more c.loop-place.words (set c.loop-place.words p c.take.result) (words_in d n bytes) p n (ap (λ w. set c.loop-place.words p w) here) (omega arith) less c.loop-place.invariant)

pub returns : goal.returns
returns c =
    let n = length c.args.words.now in
    let same : length c.loop-place.words ≡ n = c.loop-place.auto.words in
    let bytes = c.args.bytes.now in
    each_all c.loop-place.words (words_in c.args.dtype n bytes) c.loop-place.place n same (length-words_in c.args.dtype n bytes) (omega arith)
    (rw same at c.loop-place.invariant)
