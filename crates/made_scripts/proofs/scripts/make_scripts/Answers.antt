use Rattle.std.proofs.Common.{arith}
use Rattle.made_scripts.specs.Scripts.{script_of}
use Rattle.made_scripts.proofs.Pushed.{script_pushed, all_pushed}
use Rattle.made_scripts.proofs.scripts.make_scripts.Goals as goal

pub loop-session-preserved : goal.loop-session-preserved
loop-session-preserved c = record {
  within = omega (arith, c.loop-session-test.true);
  so_far = script_pushed (script_of c.args.number) c.loop-session.session c.loop-session.scripts.items c.push.new.self.items _ c.in_ok-push.ensures.items c.in_ok-script.ensures c.loop-session.invariant.so_far;
}

pub returns : goal.returns
returns c = all_pushed (script_of c.args.number) 9 c.loop-session.session c.loop-session.scripts.items (omega (arith, c.loop-session-test.false, c.loop-session.invariant.within)) c.loop-session.invariant.so_far
