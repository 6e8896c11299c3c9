use Rattle.std.proofs.Common.{rules, arith, ap, ◌∙◌, ◌++◌, []}
use Rattle.made_scripts.specs.Scripts.{open_own, write_own, own_block, own_script}
use Rattle.made_scripts.proofs.Loops.{none_put, part_put, parts_put}
use Rattle.made_scripts.proofs.scripts.own_script.Goals as goal

pub loop-block-init : goal.loop-block-init
loop-block-init c = record {
  within = omega arith;
  so_far = c.in_ok-put_write_own.ensures ∙ ap (λ t. t ++ write_own c.args.number) (c.in_ok-put_open_own.ensures ∙ ap (λ t. t ++ open_own c.args.session) {y = []} (search rules)) ∙ none_put own_block (open_own c.args.session ++ write_own c.args.number);
}

pub loop-block-preserved : goal.loop-block-preserved
loop-block-preserved c = record {
  within = omega (arith, c.loop-block-test.true);
  so_far = part_put own_block c.loop-block.block (open_own c.args.session ++ write_own c.args.number) c.loop-block.out.items c.put_own_block.new.out.items c.in_ok-put_own_block.ensures c.loop-block.invariant.so_far;
}

pub returns : goal.returns
unfolding own_script
returns c =
    parts_put own_block 10 c.loop-block.block (open_own c.args.session ++ write_own c.args.number) c.loop-block.out.items (omega (arith, c.loop-block-test.false, c.loop-block.invariant.within)) c.loop-block.invariant.so_far
