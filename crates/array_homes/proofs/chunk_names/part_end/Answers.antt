use Rattle.std.proofs.Common.{length, ap, ◌∙◌}
use Rattle.std.specs.Prelude.{unwrap_or}
use Rattle.array_homes.proofs.NameLaws.{end_or}
use Rattle.array_homes.proofs.chunk_names.part_end.Goals as goal

pub returns-clause-value : goal.returns-clause-value
returns-clause-value c = c.unwrap_or.ensures ∙ ap (λ o. unwrap_or o (length c.args.text.now)) c.separator_at.ensures ∙ end_or c.args.separator c.args.text.now
