use Rattle.std.proofs.Common.{ap, ◌∙◌}
use Rattle.kv_face.specs.Store.{keys_of}
use Rattle.state_resizes.specs.Cuts.{bytes_at}
use Rattle.state_resizes.proofs.Lists.{written_back}
use Rattle.state_resizes.proofs.filling.put.Goals as goal

pub returns-clause-keys : goal.returns-clause-keys
returns-clause-keys c =
    let back = written_back c.put_at.new.changes c.args.changes.now.items c.args.changes.now.len (c.put_at.auto.changes ∙ c.as_mut_slice.ensures.len) in
    ap keys_of back ∙ c.put_at.ensures.keys ∙ ap keys_of c.as_mut_slice.ensures.value

pub returns-clause-here : goal.returns-clause-here
returns-clause-here c =
    let back = written_back c.put_at.new.changes c.args.changes.now.items c.args.changes.now.len (c.put_at.auto.changes ∙ c.as_mut_slice.ensures.len) in
    ap (λ cs. bytes_at cs c.args.place) back ∙ c.put_at.ensures.here

pub returns-clause-others : goal.returns-clause-others
returns-clause-others c j other =
    let back = written_back c.put_at.new.changes c.args.changes.now.items c.args.changes.now.len (c.put_at.auto.changes ∙ c.as_mut_slice.ensures.len) in
    ap (λ cs. bytes_at cs j) back ∙ c.put_at.ensures.others j other ∙ ap (λ cs. bytes_at cs j) c.as_mut_slice.ensures.value
