use Rattle.std.proofs.Common.{◌≡◌, Some}
use Rattle.state_laws.specs.ReadRows.{mount_of}
use Rattle.state_laws.proofs.Laws.{agrees_got, takes_chunk}
use Rattle.shared_state.proofs.state.State.bytes_at.Goals as goal

pub get-requires : goal.get-requires
get-requires g c =
    let named = c.requires.named in
    let k = named.array in
    let on : mount_of k.info.home ≡ Some c.in_ok-mount.mount = c.in_ok-mount.ensures k named.known in
    takes_chunk ((g.K.KvStore.seen c.args.self.now.store).names) k c.args.chunk.now c.in_ok-mount.mount c.args.key.now on (c.requires.agrees.1.mounts c.args.array k c.in_ok-mount.mount named.known on) named.named

pub returns-clause-kept : goal.returns-clause-kept
returns-clause-kept g c = λ opening agrees.
    agrees_got opening _ _ c.args.self.now.log c.get.new.self.log c.args.owner c.in_ok-mount.mount c.get.result c.get.ensures.read c.get.ensures.ok c.get.ensures.failed c.get.ensures.told c.get.ensures.memory agrees
