use Rattle.std.proofs.Common.{sym, subst}
use Rattle.kv_mounts.specs.Parts.{AreMounts}
use Rattle.script_runner.proofs.PartLaws.{parts_are_mounts}
use Rattle.script_runner.proofs.mounts.new_mounts.Goals as goal

pub returns-clause-are : goal.returns-clause-are
returns-clause-are g c = subst AreMounts (sym c.in_ok-mounts.ensures) (parts_are_mounts _)
