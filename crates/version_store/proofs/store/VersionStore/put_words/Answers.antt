use Rattle.std.proofs.Common.{refl, subst}
use Rattle.std.proofs.lemmas.Result.{on_ok_weaker}
use Rattle.version_store.specs.Ids.{found}
use Rattle.version_store.specs.Openings.{IsKeptAs}
use Rattle.version_store.specs.Putting.{HasPut}
use Rattle.version_store.specs.declared.opening.Opening.{Opening}
use Rattle.version_store.proofs.Written.{put_store}
use Rattle.version_store.proofs.store.VersionStore.put_words.Goals as goal

pub put_in-requires : goal.put_in-requires
put_in-requires c =
    let s = c.args.self.now in
    let id = c.args.id.now in
    λ v kept is. c.requires v (subst (λ (o : Opening). IsKeptAs o (found s.chunks.entries id) v) c.opening_under-opening.ensures kept) is

pub returns : goal.returns
returns c =
    let s = c.args.self.now in
    let id = c.args.id.now in
    let words = c.args.words.now in
    on_ok_weaker c.put_in.result (λ has. λ h puts k chunk ps part put.
    put_store h puts k chunk ps c.args.number id words s (record s { chunks = c.put_in.new.table }) part put refl
    (subst (λ (o : Opening). HasPut o c.args.number id words s.chunks.entries c.put_in.new.table.entries) c.opening_under-opening.ensures has)) c.put_in.ensures
