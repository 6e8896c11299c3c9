use Rattle.std.proofs.Common.{◌∙◌, sym}
use Rattle.dim_changes.proofs.LabelledLaws.{relabelled_Ok, relabelled_Err}
use Rattle.dim_changes.proofs.label.relabelled.Goals as goal

pub returns-in-Ok-clause-ok : goal.returns-in-Ok-clause-ok
returns-in-Ok-clause-ok c = relabelled_Ok c.args.domain c.args.maps.items c.in-Ok.t c.requires.ranks c.requires.fit c.requires.plain (sym c.in-Ok.is ∙ c.new.ensures)

pub returns-in-Err-clause-err : goal.returns-in-Err-clause-err
returns-in-Err-clause-err c = relabelled_Err c.args.domain c.args.maps.items c.in-Err.field-0 c.requires.ranks c.requires.fit c.requires.plain (sym c.in-Err.is ∙ c.new.ensures)
