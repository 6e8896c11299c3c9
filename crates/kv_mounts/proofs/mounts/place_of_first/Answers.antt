use Rattle.std.proofs.Common.{◌≡◌, get_or, sym, ap, ◌∙◌}
use Rattle.std.specs.List.{list_any}
use Rattle.std.proofs.lemmas.Option.{IfSome_then}
use Rattle.kv_face.specs.declared.change.Change.{Change}
use Rattle.kv_mounts.specs.Parts.{Part, begins}
use Rattle.kv_mounts.proofs.mounts.place_of_first.Goals as goal

pub returns-clause-found : goal.returns-clause-found
returns-clause-found g c =
    let first : Change = c.index-changes-0.result in
    let key : c.items.result.now ≡ first.key = c.items.ensures ∙ ap (λ (r : Change). r.key) (sym c.index-changes-0.is) in
    IfSome_then c.place_of.result c.place_of.ensures.found (λ i at. (at.0, (first, c.index-changes-0.is, λ d. ap (begins (get_or c.args.list.now i d).name) (sym key) ∙ at.1 d)))

pub returns-clause-none : goal.returns-clause-none
returns-clause-none g c = λ is.
    let first : Change = c.index-changes-0.result in
    let key : c.items.result.now ≡ first.key = c.items.ensures ∙ ap (λ (r : Change). r.key) (sym c.index-changes-0.is) in
    (first, c.index-changes-0.is, ap (λ k. list_any (λ (p : Part). begins p.name k) c.args.list.now) (sym key) ∙ c.place_of.ensures.none is)
