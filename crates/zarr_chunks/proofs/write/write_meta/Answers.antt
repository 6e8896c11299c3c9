use Rattle.std.proofs.Common.{◌≤◌, ap, subst, sym, ◌∙◌, Some}
use Rattle.std.proofs.lemmas.Result.{IfOk-weaker}
use Rattle.serde_json.specs.Data.{depth}
use Rattle.serde_json.specs.Read.{max_depth}
use Rattle.serde_json.specs.View.{view}
use Rattle.serde_json.specs.Written.{has_float}
use Rattle.zarr_chunks.specs.Metadata.{IsMetadata}
use Rattle.zarr_chunks.specs.Written.{metadata_data}
use Rattle.zarr_chunks.proofs.MetadataLaws.{has_float-metadata, depth-metadata, Describes-metadata}
use Rattle.zarr_chunks.proofs.ReadLaws.{metadata_of-SpellsMetadata}
use Rattle.zarr_chunks.proofs.write.write_meta.Goals as goal

pub compact-requires : goal.compact-requires
compact-requires c = ap has_float c.in_ok-value.ensures ∙ has_float-metadata c.args.m.now

pub returns-clause-spells : goal.returns-clause-spells
returns-clause-spells c =
    let shallow : depth (view c.in_ok-value.value) ≤ max_depth = subst (λ d. depth d ≤ max_depth) (sym c.in_ok-value.ensures) (depth-metadata c.args.m.now) in
    IfOk-weaker c.compact.result _ _ (λ bytes reads. record { rules = subst IsMetadata c.m.view_is c.m.invariant; described = (metadata_data c.args.m.now, reads shallow ∙ ap Some c.in_ok-value.ensures, Describes-metadata c.args.m.now) }) c.compact.ensures.reads_back

pub returns-clause-reads_back : goal.returns-clause-reads_back
returns-clause-reads_back c =
    let shallow : depth (view c.in_ok-value.value) ≤ max_depth = subst (λ d. depth d ≤ max_depth) (sym c.in_ok-value.ensures) (depth-metadata c.args.m.now) in
    IfOk-weaker c.compact.result _ _
    (λ bytes reads. metadata_of-SpellsMetadata bytes.items c.args.m.now
    (record { rules = subst IsMetadata c.m.view_is c.m.invariant; described = (metadata_data c.args.m.now, reads shallow ∙ ap Some c.in_ok-value.ensures, Describes-metadata c.args.m.now) }))
    c.compact.ensures.reads_back
