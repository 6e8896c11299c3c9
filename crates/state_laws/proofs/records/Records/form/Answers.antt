use Rattle.std.proofs.Common.{rules, IsSome, sym, ap, subst, ◌∙◌}
use Rattle.std.specs.Option.{option_map}
use Rattle.history.specs.Metadata.{with_shape}
use Rattle.history.specs.Arrays.{Known, known_after, form_of}
use Rattle.state_laws.specs.Recorded.{RecordsOf}
use Rattle.state_laws.proofs.Indexing.{form_at}
use Rattle.state_laws.proofs.records.Records.form.Goals as goal

pub returns : goal.returns
returns c =
    let same = ap (λ (r : RecordsOf). r.events) c.self.view_is in
    let array = c.args.array in
    let entries = c.entry_at-entry.ensures ∙ (search rules) in
    form_at c.self.inside.events.items c.self.inside.arrays.items array c.entry_at-entry.result.now c.self.invariant (subst (λ h. IsSome (known_after h array)) (sym same) c.requires) entries
    ∙ ap (λ h. option_map (λ (k : Known). with_shape (form_of k.info.home) k.shape) (known_after h array)) same
