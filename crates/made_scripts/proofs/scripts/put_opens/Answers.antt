use Rattle.std.proofs.Common.{◌+◌, arith}
use Rattle.made_scripts.specs.Scripts.{open_again}
use Rattle.made_scripts.proofs.Loops.{none_put, part_put, parts_put}
use Rattle.made_scripts.proofs.scripts.put_opens.Goals as goal

pub loop-k-init : goal.loop-k-init
loop-k-init c = record { within = omega arith; so_far = none_put (λ k. open_again (4 + k)) c.args.out.now.items }

pub loop-k-preserved : goal.loop-k-preserved
loop-k-preserved c = record {
  within = omega (arith, c.loop-k-test.true);
  so_far = part_put (λ k. open_again (4 + k)) c.loop-k.k c.args.out.now.items c.loop-k.out.items c.put_open_again.new.out.items c.in_ok-put_open_again.ensures c.loop-k.invariant.so_far;
}

pub returns : goal.returns
returns c = parts_put (λ k. open_again (4 + k)) 4 c.loop-k.k c.args.out.now.items c.loop-k.out.items (omega (arith, c.loop-k-test.false, c.loop-k.invariant.within)) c.loop-k.invariant.so_far
