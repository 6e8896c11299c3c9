use Rattle.std.proofs.Common.{refl, sym, subst, Option}
use Rattle.std.specs.Prelude.{IfSome, IfNone}
use Rattle.std.proofs.lemmas.Result.{IfOk-weaker}
use Rattle.chunk_versions.specs.Marks.{IsMark, HasNoMark}
use Rattle.chunk_versions.specs.Versions.{Versions}
use Rattle.version_store.specs.Asked.{AreShownAt, AreNeverShown}
use Rattle.version_store.specs.Openings.{IsKeptAs}
use Rattle.version_store.specs.Stores.{opening_under, IsKeptUnder}
use Rattle.version_store.proofs.Told.{some_map, none_map, shown_at, shown_never}
use Rattle.version_store.proofs.store.VersionStore.find_mark.Goals as goal

pub returns-in-Some-clause-some : goal.returns-in-Some-clause-some
returns-in-Some-clause-some c =
    let s = c.args.self.now in
    let id = c.args.id.now in
    let casts = c.args.casts.now in
    let asked = c.args.asked.now in
    let from = c.args.from in
    let v = c.in-Some.chunk.now in
    let kept : IsKeptUnder s id v = subst (λ (o : Option Versions). IsKeptAs (opening_under s id) o v) c.in-Some.ensures.value refl in
    IfOk-weaker c.mark_in.result (λ mark. IfSome mark (IsMark v casts asked from)) (λ mark. IfSome mark (AreShownAt s id casts asked from))
    (λ mark found. some_map mark (IsMark v casts asked from) (AreShownAt s id casts asked from) (λ m is. shown_at s id casts asked v c.mark_in.ensures.valid kept from m is) found) c.mark_in.ensures.some

pub returns-in-Some-clause-none : goal.returns-in-Some-clause-none
returns-in-Some-clause-none c =
    let s = c.args.self.now in
    let id = c.args.id.now in
    let casts = c.args.casts.now in
    let asked = c.args.asked.now in
    let from = c.args.from in
    let v = c.in-Some.chunk.now in
    let kept : IsKeptUnder s id v = subst (λ (o : Option Versions). IsKeptAs (opening_under s id) o v) c.in-Some.ensures.value refl in
    IfOk-weaker c.mark_in.result (λ mark. IfNone mark (HasNoMark v casts asked from)) (λ mark. IfNone mark (AreNeverShown s id casts asked from))
    (λ mark none. none_map mark (HasNoMark v casts asked from) (AreNeverShown s id casts asked from) (λ never. shown_never s id casts asked v c.mark_in.ensures.valid kept from never) none) c.mark_in.ensures.none

pub mark_in_new-requires-clause-none : goal.mark_in_new-requires-clause-none
mark_in_new-requires-clause-none c = sym c.in-None.ensures.value
