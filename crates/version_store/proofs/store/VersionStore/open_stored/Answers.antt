use Rattle.std.proofs.Common.{refl}
use Rattle.version_store.proofs.Opened.{stored_opened}
use Rattle.version_store.proofs.store.VersionStore.open_stored.Goals as goal

pub returns : goal.returns
returns c =
    stored_opened c.args.number c.args.info.now c.args.self.now (record c.args.self.now { arrays = c.push.new.self }) c.opening_of.result c.requires c.in_ok-push.ensures.items refl c.opening_of.ensures.opened c.opening_of.ensures.fill
    c.opening_of.ensures.size
