use Rattle.std.proofs.Common.{◌∷◌, length, replicate, subst}
use Rattle.version_store.specs.Opened.{HasEntered}
use Rattle.version_store.proofs.Opened.{local_opened}
use Rattle.version_store.proofs.store.VersionStore.open_local.Goals as goal

pub returns : goal.returns
returns c =
    let start = c.args.start.now in
    let old = c.args.self.now.chunks.entries in
    let new = c.enter_local.new.table.entries in
    let entered : HasEntered (length c.args.self.now.arrays.items ∷ replicate (length start.shape) 0) c.args.number start.words old new =
    subst (λ n. HasEntered (n ∷ replicate (length start.shape) 0) c.args.number start.words old new) c.count-array.ensures c.in_ok-enter_local.ensures in
    local_opened c.args.number c.args.info.now c.args.self.now (record { arrays = c.push.new.self; chunks = c.enter_local.new.table }) c.opening_of.result start c.requires c.in_ok-push.ensures.items entered
