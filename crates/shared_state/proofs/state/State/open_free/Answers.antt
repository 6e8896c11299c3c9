use Rattle.std.proofs.Common.{◌≡◌, ◌<◌, Ok, Err, sym, ap, subst, ◌∙◌, arith}
use Rattle.state_laws.specs.Opening.{leaf_at}
use Rattle.state_laws.specs.Log.{Log}
use Rattle.state_laws.specs.Openings.{IsOpening}
use Rattle.state_laws.specs.declared.error.GetError.TheVariants as get
use Rattle.state_laws.proofs.Laws.{agrees_got, not_risen}
use Rattle.shared_state.proofs.state.State.open_free.Goals as goal

pub open_stored-requires-clause-agrees : goal.open_stored-requires-clause-agrees
open_stored-requires-clause-agrees g c =
    let r = c.requires.agrees in
    (r.0, agrees_got r.0 _ _ c.args.self.now.log c.get.new.self.log c.args.owner c.in_ok-mount.mount c.get.result c.get.ensures.read c.get.ensures.ok c.get.ensures.failed c.get.ensures.told c.get.ensures.memory r.1)

pub returns-in-Ok-clause-answer : goal.returns-in-Ok-clause-answer
returns-in-Ok-clause-answer g c = λ opening agrees.
    let place = c.args.place.now in
    let leaf = leaf_at place.names.mount place.names.path c.args.want.now c.args.may_open c.args.may_create in
    let got = agrees_got opening _ _ c.args.self.now.log c.get.new.self.log c.args.owner c.in_ok-mount.mount c.get.result c.get.ensures.read c.get.ensures.ok c.get.ensures.failed c.get.ensures.told c.get.ensures.memory agrees in
    subst (λ (l : Log). IsOpening opening.store.contents l.events c.args.owner leaf c.open_stored.result c.open_stored.new.self.log.events) c.in-Ok.ensures.ok (c.open_stored.ensures.answer opening got)

pub returns-in-Ok-clause-kept : goal.returns-in-Ok-clause-kept
returns-in-Ok-clause-kept g c = λ opening agrees.
    c.open_stored.ensures.kept opening (agrees_got opening _ _ c.args.self.now.log c.get.new.self.log c.args.owner c.in_ok-mount.mount c.get.result c.get.ensures.read c.get.ensures.ok c.get.ensures.failed c.get.ensures.told c.get.ensures.memory agrees)

pub returns-in-Err-Failed-clause-kept : goal.returns-in-Err-Failed-clause-kept
returns-in-Err-Failed-clause-kept g c = λ opening agrees.
    agrees_got opening _ _ c.args.self.now.log c.get.new.self.log c.args.owner c.in_ok-mount.mount c.get.result c.get.ensures.read c.get.ensures.ok c.get.ensures.failed c.get.ensures.told c.get.ensures.memory agrees

pub returns-in-Err-Memory-clause-kept : goal.returns-in-Err-Memory-clause-kept
returns-in-Err-Memory-clause-kept g c = λ opening agrees.
    agrees_got opening _ _ c.args.self.now.log c.get.new.self.log c.args.owner c.in_ok-mount.mount c.get.result c.get.ensures.read c.get.ensures.ok c.get.ensures.failed c.get.ensures.told c.get.ensures.memory agrees

pub returns-in-Ok-clause-told : goal.returns-in-Ok-clause-told
returns-in-Ok-clause-told g c = λ more.
    let seen = g.K.KvStore.seen in
    let first = (seen c.args.self.now.store).faults in
    let middle = (seen c.get.new.self.store).faults in
    let same = not_risen first middle (λ rose. let why = c.get.ensures.told rose in let no : Ok c.in-Ok.bytes ≡ Err (get.Failed why.0) = sym c.in-Ok.is ∙ why.1 in cc) in
    c.open_stored.ensures.told (omega (arith, more, same))

pub returns-in-Err-Memory-clause-told : goal.returns-in-Err-Memory-clause-told
returns-in-Err-Memory-clause-told g c = λ more.
    let why = c.get.ensures.told more in
    let no : Err (get.Memory) ≡ Err (get.Failed why.0) = sym (c.in-Err-Memory.is ∙ ap Err c.in-Err-Memory.field-0-is) ∙ why.1 in
    absurd (cc)
