use Rattle.std.proofs.Common.{rules}
use Rattle.json_forms.proofs.NoData.{data_of-none, data_of-utf8}
use Rattle.json_forms.proofs.bytes.parse.Goals as goal

pub returns-in-Ok-clause-ok : goal.returns-in-Ok-clause-ok
returns-in-Ok-clause-ok c = data_of-utf8 c.args.bytes.now _ c.in-Ok.ensures.ok.0 c.in-Ok.ensures.ok.1

pub returns-else-is_memory-clause-not_json : goal.returns-else-is_memory-clause-not_json
returns-else-is_memory-clause-not_json c = λ _. data_of-none c.args.bytes.now (c.in-Err.ensures.err (search rules))
