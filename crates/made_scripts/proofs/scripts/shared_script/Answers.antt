use Rattle.std.proofs.Common.{rules, arith, ap, ◌∙◌, ◌++◌, []}
use Rattle.made_scripts.specs.Scripts.{open_shared, shared_script, write_block}
use Rattle.made_scripts.proofs.Loops.{none_put, part_put, parts_put}
use Rattle.made_scripts.proofs.scripts.shared_script.Goals as goal

pub loop-block-init : goal.loop-block-init
loop-block-init c = record { within = omega arith; so_far = c.in_ok-put.ensures ∙ ap (λ t. t ++ open_shared) {y = []} (search rules) ∙ none_put (write_block c.args.number c.args.session) open_shared }

pub loop-block-preserved : goal.loop-block-preserved
loop-block-preserved c = record {
  within = omega (arith, c.loop-block-test.true);
  so_far = part_put (write_block c.args.number c.args.session) c.loop-block.block open_shared c.loop-block.out.items c.put_block.new.out.items c.in_ok-put_block.ensures c.loop-block.invariant.so_far;
}

pub returns : goal.returns
unfolding shared_script
returns c = parts_put (write_block c.args.number c.args.session) 10 c.loop-block.block open_shared c.loop-block.out.items (omega (arith, c.loop-block-test.false, c.loop-block.invariant.within)) c.loop-block.invariant.so_far
