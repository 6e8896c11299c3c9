use Rattle.std.proofs.Common.{◌≤◌}
use Rattle.serde_json.specs.Data.{depth}
use Rattle.serde_json.specs.Read.{max_depth}
use Rattle.serde_json.specs.View.{view}
use Rattle.json_forms.proofs.NoData.{data_of-written}
use Rattle.json_forms.proofs.bytes.compact.Goals as goal

pub returns-clause-reads_back : goal.returns-clause-reads_back
returns-clause-reads_back c = data_of-written c.to_vec.result (λ b. b.items) (view c.args.value.now) (depth (view c.args.value.now) ≤ max_depth) c.to_vec.ensures.utf8 c.to_vec.ensures.reads_back
