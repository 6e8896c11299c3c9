use Rattle.std.proofs.lemmas.List.Elements.{All-from_recursion}
use Rattle.transform_json.specs.Written.{HasFewLists}
use Rattle.transform_json.proofs.Listing.{all_more, all_of_all}
use Rattle.transform_json.proofs.write.have_few_lists.Goals as goal

pub loop-one-preserved : goal.loop-one-preserved
loop-one-preserved c =
    all_more HasFewLists c.args.maps.now c.loop-one.one-index c.one-item.result c.loop-one-test.true c.one-item.is (c.takes_few_lists.ensures.few c.if-not-takes_few_lists.false) c.loop-one.invariant

pub returns-clause-few : goal.returns-clause-few
returns-clause-few c = λ on. all_of_all HasFewLists c.args.maps.now c.loop-one.one-index c.loop-one-test.false c.loop-one.invariant
