use Rattle.std.proofs.lemmas.Result.{IfOk-weaker}
use Rattle.serde_json.specs.View.{view}
use Rattle.zarr_chunks.proofs.ReadLaws.{SpellsMetadata-from_data}
use Rattle.zarr_chunks.proofs.read.read_meta.Goals as goal

pub returns-in-Ok-clause-spells : goal.returns-in-Ok-clause-spells
returns-in-Ok-clause-spells c =
    IfOk-weaker c.metadata_of_value.result _ _ (λ m is. SpellsMetadata-from_data c.args.bytes.now (view c.in-Ok.value) m c.in-Ok.ensures.ok is) c.metadata_of_value.ensures.value
