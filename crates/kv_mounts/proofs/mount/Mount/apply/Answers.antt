use Rattle.std.proofs.Common.{◌≡◌, sym, ap, subst, ◌∙◌}
use Rattle.std.specs.List.{IsDistinct}
use Rattle.std.specs.Str.{bytes_eq}
use Rattle.kv_face.specs.Store.{keys_of}
use Rattle.kv_mounts.specs.Parts.{Part, shortened}
use Rattle.kv_mounts.proofs.Together.{distinct_behind}
use Rattle.kv_mounts.proofs.mount.Mount.apply.Goals as goal

pub apply_owned-requires-clause-distinct : goal.apply_owned-requires-clause-distinct
apply_owned-requires-clause-distinct g c =
    let same : c.in_ok-changes.changes.items ≡ shortened c.args.self.now.name c.args.changes.items =
    c.in_ok-changes.ensures ∙ ap (λ n. shortened n c.args.changes.items) (c.items.ensures ∙ ap (λ (p : Part). p.name) c.self.view_is) in
    subst (λ cs. IsDistinct bytes_eq (keys_of cs)) (sym same) (distinct_behind c.args.self.now.name c.args.changes.items c.requires.one.below c.requires.distinct)
