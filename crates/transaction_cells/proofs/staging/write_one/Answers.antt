use Rattle.std.proofs.Common.{◌∙◌}
use Rattle.transaction_cells.proofs.OneWord.{one_inside, written_by_one}
use Rattle.transaction_cells.proofs.staging.write_one.Goals as goal

pub write_run-requires : goal.write_run-requires
write_run-requires c = one_inside c.args.run c.requires.0 _ c.requires.1

pub returns : goal.returns
returns c count inside = c.write_run.ensures ∙ written_by_one c.args.run c.args.word count _ _ inside
