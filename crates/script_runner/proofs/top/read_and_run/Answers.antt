use Rattle.std.proofs.Common.{◌<◌, ◌^◌, length, sym, subst}
use Rattle.std.specs.Prelude.{All}
use Rattle.script_runner.proofs.Asking.{short_each}
use Rattle.script_runner.proofs.top.read_and_run.Goals as goal

pub run_texts-requires-clause-short : goal.run_texts-requires-clause-short
run_texts-requires-clause-short g c κs within = subst (All (λ s. length s.items < 2 ^ 62)) (sym c.as_slice.ensures.value) (short_each c.in-Ok.texts.items c.in-Ok.ensures.short)
