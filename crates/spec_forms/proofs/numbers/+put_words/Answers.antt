use Rattle.std.proofs.Common.{refl}
use Rattle.serde_json.specs.View.{view}
use Rattle.spec_forms.proofs.Rows.{behind, put_whole, put_row, put_other}
use Rattle.spec_forms.proofs.numbers.+put_words.Goals as goal

pub loop-item-init : goal.loop-item-init
loop-item-init t c = refl

pub loop-item-preserved : goal.loop-item-preserved
loop-item-preserved t c =
    put_row c.args.dtype (behind c.args.sizes.now) c.in-Some.items.now c.loop-item.item-index c.args.out.now.items c.loop-item.out.items c.put_words.new.out.items c.item-item.result c.in_ok-put_words.field-0
    c.if-not-branch.false c.loop-item-test.true c.in_ok-put_words.ensures c.item-item.is c.loop-item.invariant

pub returns-then-items-size : goal.returns-then-items-size
returns-then-items-size t c = put_other c.args.dtype c.args.sizes.now (view c.args.value.now) c.in-Some.items.now c.args.out.now.items c.in-len1-up.len_at_least c.in-Some.ensures c.if-items-size.true

pub returns : goal.returns
returns t c = put_whole c.args.dtype c.args.sizes.now (view c.args.value.now) c.in-Some.items.now c.loop-item.item-index c.args.out.now.items c.loop-item.out.items c.in-len1-up.len_at_least c.in-Some.ensures c.if-items-size.false c.loop-item-test.false c.loop-item.invariant
