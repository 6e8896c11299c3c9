use Rattle.std.proofs.Common.{◌∙◌, sym}
use Rattle.stack_driver.proofs.Members.{has_index-length, has_index-zip}
use Rattle.stack_driver.proofs.targeting.has_index.Goals as goal

pub returns-then-dims-index : goal.returns-then-dims-index
returns-then-dims-index c = sym (has_index-length c.args.dims.now c.args.index.now c.if-dims-index.true)

pub returns : goal.returns
returns c = c.are_members.ensures ∙ sym (has_index-zip c.args.dims.now c.args.index.now c.if-dims-index.false)
