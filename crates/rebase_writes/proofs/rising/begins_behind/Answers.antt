use Rattle.std.proofs.Common.{◌^◌, ◌-◌, arith}
use Rattle.rebase_writes.proofs.RisingLaws.{no_run, ends_rise}
use Rattle.rebase_writes.proofs.rising.begins_behind.Goals as goal

pub returns : goal.returns
returns c is_true = ends_rise c.requires.rising.0 (2 ^ 24) c.args.runs.now no_run c.args.run.now.chunk c.requires.rising.1 (omega (arith, c.if-count-eq0.false)) (omega (arith, c.place_of_last.ensures, c.if-run-place_of_last.false))
