use Rattle.std.proofs.Common.{ap, sym, ◌∙◌, bytes_eq, List}
use Rattle.std.specs.List.{list_any}
use Rattle.kv_mounts.specs.Parts.{Part}
use Rattle.kv_mounts.proofs.Kept.{any_names}
use Rattle.kv_mounts.proofs.mounts.Mounts.knows.Goals as goal

pub returns : goal.returns
returns g c =
    c.knows.ensures ∙ ap (λ (ps : List Part). list_any (λ (p : Part). bytes_eq c.args.name.now p.name) ps) (c.as_slice.ensures.value ∙ c.self.view_is) ∙ sym (any_names (bytes_eq c.args.name.now) c.args.self.now)
