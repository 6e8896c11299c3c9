use Rattle.std.proofs.Common.{Some}
use Rattle.std.specs.Prelude.{string_bytes}
use Rattle.std.proofs.lemmas.Map.Text.{hash_map_updates_text}
use Rattle.line_acts.proofs.names.put.Goals as goal

pub returns-in-Ok-clause-bound : goal.returns-in-Ok-clause-bound
returns-in-Ok-clause-bound c = λ able. λ i other. hash_map_updates_text (string_bytes c.args.name) c.args.names.now c.insert.new.self (Some c.args.view) c.in-Ok.ensures.updates other i
