use Rattle.std.proofs.Common.{refl, sym, subst, Option}
use Rattle.chunk_versions.specs.Versions.{Versions}
use Rattle.version_store.specs.Openings.{IsKeptAs}
use Rattle.version_store.specs.Stores.{opening_under, IsKeptUnder}
use Rattle.version_store.proofs.Told.{tells_shown}
use Rattle.version_store.proofs.store.VersionStore.shows.Goals as goal

pub returns-in-Some : goal.returns-in-Some
returns-in-Some c =
    let s = c.args.self.now in
    let id = c.args.id.now in
    let v = c.in-Some.chunk.now in
    let kept : IsKeptUnder s id v = subst (λ (o : Option Versions). IsKeptAs (opening_under s id) o v) c.in-Some.ensures.value refl in
    tells_shown s id c.args.casts.now c.args.asked.now v c.shows_now.ensures.valid kept c.shows_now.result c.shows_now.ensures.value

pub shows_new-requires-clause-none : goal.shows_new-requires-clause-none
shows_new-requires-clause-none c = sym c.in-None.ensures.value
