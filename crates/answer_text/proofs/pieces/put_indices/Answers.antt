use Rattle.std.proofs.Common.{◌≡◌, ◌∙◌, ◌++◌, ℤ, pos, ap, get_or, rules, w64, to_z, of_z, FitsSigned}
use Rattle.std.proofs.lemmas.Int.{to_z-of_z}
use Rattle.std.specs.Fmt.{signed_decimal}
use Rattle.answer_text.specs.Pieces.{indices_text}
use Rattle.answer_text.proofs.Items.{none_put, one_put, all_put, when_ok}
use Rattle.answer_text.proofs.pieces.put_indices.Goals as goal

pub loop-k-init : goal.loop-k-init
loop-k-init c = none_put signed_decimal c.args.indices.now c.args.out.now.items c.put.new.out.items c.in_ok-put.ensures

pub loop-k-preserved : goal.loop-k-preserved
loop-k-preserved c =
    let index = get_or c.args.indices.now c.loop-k.k (pos 0) in
    let fits : FitsSigned w64 index = search rules in
    let same : to_z w64 (of_z w64 index) ≡ index = to_z-of_z w64 index fits in
    one_put signed_decimal c.args.indices.now c.loop-k.k c.args.out.now.items c.loop-k.out.items c.put_comma.new.out.items c.put_integer.new.out.items (pos 0) c.loop-k-test.true
    c.in_ok-put_comma.ensures (c.in_ok-put_integer.ensures ∙ ap (λ (z : ℤ). c.put_comma.new.out.items ++ signed_decimal z) same) c.loop-k.invariant

pub returns : goal.returns
unfolding indices_text
returns c =
    when_ok _ _ c.put-2.result
    (λ h. all_put signed_decimal c.args.indices.now c.loop-k.k c.args.out.now.items c.loop-k.out.items c.put-2.new.out.items c.loop-k-test.false h c.loop-k.invariant)
    c.put-2.ensures
