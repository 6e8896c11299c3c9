use Rattle.std.proofs.Common.{sym, subst, Option}
use Rattle.chunk_versions.specs.Versions.{Versions}
use Rattle.version_store.specs.Openings.{IsNew, IsKeptAs}
use Rattle.version_store.specs.Stores.{opening_under, IsKeptUnder}
use Rattle.version_store.specs.declared.opening.Opening.{Opening}
use Rattle.version_store.proofs.Told.{tells_shown}
use Rattle.version_store.proofs.store.VersionStore.shows_new.Goals as goal

pub returns : goal.returns
returns c =
    let s = c.args.self.now in
    let id = c.args.id.now in
    let v = c.in_ok-chunk.chunk in
    let kept : IsKeptUnder s id v = subst (λ (o : Option Versions). IsKeptAs (opening_under s id) o v) (sym c.requires.none) (subst (λ (o : Opening). IsNew o v) c.opening_under.ensures c.in_ok-chunk.ensures) in
    tells_shown s id c.args.casts.now c.args.asked.now v c.shows_now.ensures.valid kept c.shows_now.result c.shows_now.ensures.value
