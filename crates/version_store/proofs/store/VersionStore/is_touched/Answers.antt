use Rattle.std.proofs.Common.{ap, [], refl, sym, subst, Option}
use Rattle.chunk_versions.specs.Versions.{Versions}
use Rattle.version_store.specs.Openings.{IsKeptAs}
use Rattle.version_store.specs.Stores.{opening_under, IsKeptUnder}
use Rattle.version_store.specs.declared.opening.Opening.{Opening}
use Rattle.std.specs.Prelude.{◌==◌}
use Rattle.version_store.proofs.Told.{tells_touched, new_touched}
use Rattle.version_store.proofs.store.VersionStore.is_touched.Goals as goal

pub returns-in-Some : goal.returns-in-Some
returns-in-Some c =
    let s = c.args.self.now in
    let id = c.args.id.now in
    let v = c.in-Some.chunk.now in
    let kept : IsKeptUnder s id v = subst (λ (o : Option Versions). IsKeptAs (opening_under s id) o v) c.in-Some.ensures.value refl in
    tells_touched s id [] [] v c.touches.ensures.valid kept c.touches.result c.args.number c.touches.ensures.value

pub returns-in-None : goal.returns-in-None
returns-in-None c =
    let s = c.args.self.now in
    let id = c.args.id.now in
    new_touched s id _ c.args.number (sym c.in-None.ensures.value) (ap (λ (o : Opening). o.opened == c.args.number) c.opening_under.ensures)
