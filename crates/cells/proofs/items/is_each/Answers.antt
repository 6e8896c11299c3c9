use Rattle.std.proofs.Common.{◌≡◌, ◌∙◌, ◌<◌, ℕ, length, get_or, refl, sym, arith, below_more}
use Rattle.cells.specs.Items.{words_in}
use Rattle.cells.proofs.ItemLaws.{length-words_in, get_or-words_in, item_taken}
use Rattle.cells.proofs.items.is_each.Goals as goal

pub returns-then-take-word : goal.returns-then-take-word
returns-then-take-word c =
    let d = c.args.dtype in
    let n = c.args.cells in
    let p = c.loop-place.place in
    let bytes = c.args.bytes.now in
    let here : c.take.result ≡ get_or (words_in d n bytes) p 0 =
    item_taken d p c.byte_count-size.result c.take.result bytes c.byte_count-size.ensures.value c.take.ensures ∙ sym (get_or-words_in d n bytes p c.loop-place-test.true) in
    let inside : p < length (words_in d n bytes) = omega (arith, c.loop-place-test.true, length-words_in d n bytes) in
    (λ no. absurd (cc), λ each. absurd (c.if-take-word.true (here ∙ each p inside)))

pub loop-place-preserved : goal.loop-place-preserved
loop-place-preserved c =
    let d = c.args.dtype in
    let n = c.args.cells in
    let p = c.loop-place.place in
    let bytes = c.args.bytes.now in
    let here : c.take.result ≡ get_or (words_in d n bytes) p 0 =
    item_taken d p c.byte_count-size.result c.take.result bytes c.byte_count-size.ensures.value c.take.ensures ∙ sym (get_or-words_in d n bytes p c.loop-place-test.true) in
    below_more _ _ c.loop-place.invariant (sym here ∙ c.if-take-word.false)

pub returns : goal.returns
returns c =
    let size = length-words_in c.args.dtype c.args.cells c.args.bytes.now in
    (λ _ i inside. c.loop-place.invariant i (omega (arith, inside, size, c.loop-place-test.false)), λ _. refl)
