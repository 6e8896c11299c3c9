use Rattle.std.proofs.Common.{◌≡◌, ◌∙◌, ap, rules}
use Rattle.transaction_cases.proofs.SessionMounts.{has_memory}
use Rattle.transaction_cases.proofs.SessionLaws.{new_rested, pass_first, pass_last}
use Rattle.transaction_cases.proofs.session_lines.with_passes.Goals as goal

pub with_sessions-requires-clause-mounts : goal.with_sessions-requires-clause-mounts
with_sessions-requires-clause-mounts g c = has_memory c.args.book c.args.mounts.now c.requires.mounts c.requires.every

pub with_sessions-requires-clause-one : goal.with_sessions-requires-clause-one
with_sessions-requires-clause-one g c =
    let one : c.pop.new.self.len ≡ 1 = search rules in
    let new = pass_first c.args.book c.args.passes.items c.pop.new.self.items c.args.passes.len c.pop.new.self.len c.pop-2.result c.unwrap-2.result c.requires.passes c.requires.two c.requires.count one c.pop.ensures.rest c.pop-2.ensures.value c.unwrap-2.ensures in
    record {
      number = ap (λ p. p.number) (c.new-one.ensures.pass ∙ new);
      going = c.new-one.ensures.going;
      on = c.new-one.ensures.on c.args.book (new_rested c.args.book c.unwrap-2.result 0 new) (ap (λ p. p.seen) new);
    }

pub with_sessions-requires-clause-other : goal.with_sessions-requires-clause-other
with_sessions-requires-clause-other g c =
    let new = pass_last c.args.book c.args.passes.items _ c.pop.result c.unwrap.result c.requires.passes c.requires.two c.requires.count c.pop.ensures.value c.unwrap.ensures in
    record {
      number = ap (λ p. p.number) (c.new-other.ensures.pass ∙ new);
      going = c.new-other.ensures.going;
      on = c.new-other.ensures.on c.args.book (new_rested c.args.book c.unwrap.result 1 new) (ap (λ p. p.seen) new);
    }
