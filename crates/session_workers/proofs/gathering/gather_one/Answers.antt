use Rattle.std.proofs.Common.{◌<◌, ◌∙◌, length, map, inl, inr, refl, sym, subst, arith}
use Rattle.std.specs.Prelude.{Contains}
use Rattle.std.specs.List.{AllByRecursion}
use Rattle.indexmap.specs.IndexMap.{get_by_text}
use Rattle.session_runs.specs.Session.{session_with}
use Rattle.session_workers.specs.Workers.{HasRun}
use Rattle.session_workers.proofs.Kept.{split_all, one_less, split_number, number_in, number_stays, either_way, none_has}
use Rattle.session_workers.proofs.Dealt.{nil_of}
use Rattle.session_workers.proofs.gathering.gather_one.Goals as goal

pub loop-session-init : goal.loop-session-init
loop-session-init g c = record {
  small = c.requires.small;
  length_is = refl;
  room = refl;
  count = refl;
  all = λ k has. inl has;
  stay = λ k has. has;
  left = λ book mounts scripts whole ran. ran;
  kept = λ book mounts scripts whole ran kept. kept;
}

pub take_apart-requires-clause-room : goal.take_apart-requires-clause-room
take_apart-requires-clause-room g c =
    let less = one_less c.loop-session.sessions.items c.pop.new.self.items c.in-Some.session c.in-Some.ensures.items in
    let sum = c.loop-session.invariant.length_is in
    let room = c.loop-session.invariant.room in
    let at = c.requires.room in
    omega (arith, less, sum, room, at)

pub take_apart-requires-clause-small : goal.take_apart-requires-clause-small
take_apart-requires-clause-small g c = (split_all (λ s. session_with s.pass (get_by_text s.names) s.txn s.log.items s.ended) (λ s. s.pass.number < length c.loop-session.logs) c.loop-session.sessions.items c.pop.new.self.items c.in-Some.session c.in-Some.ensures.items c.loop-session.invariant.small).1

pub loop-session-preserved : goal.loop-session-preserved
loop-session-preserved g c =
    let items = c.in-Some.ensures.items in
    let less = one_less c.loop-session.sessions.items c.pop.new.self.items c.in-Some.session items in
    let more = one_less c.take_apart.new.back.items c.loop-session.back.items c.in-Some.session.pass c.take_apart.ensures.back in
    let sum = c.loop-session.invariant.length_is in record {
      small =
          subst (λ n. AllByRecursion (λ s. s.pass.number < n) (map (λ s. session_with s.pass (get_by_text s.names) s.txn s.log.items s.ended) c.pop.new.self.items)) (sym c.take_apart.ensures.count)
          (split_all (λ s. session_with s.pass (get_by_text s.names) s.txn s.log.items s.ended) (λ s. s.pass.number < length c.loop-session.logs) c.loop-session.sessions.items c.pop.new.self.items c.in-Some.session items c.loop-session.invariant.small).0;
      length_is = omega (arith, less, more, sum);
      room = c.take_apart.ensures.room ∙ c.loop-session.invariant.room;
      count = c.take_apart.ensures.count ∙ c.loop-session.invariant.count;
      all = λ k has.
          either_way (c.loop-session.invariant.all k has)
          (λ mine. either_way (split_number (λ s. s.pass.number) c.loop-session.sessions.items c.pop.new.self.items c.in-Some.session k items mine) (λ rest. inl rest)
          (λ same. inr (number_in (λ p. p.number) c.loop-session.back.items c.take_apart.new.back.items c.in-Some.session.pass k c.take_apart.ensures.back same)))
          (λ there. inr (number_stays (λ p. p.number) c.loop-session.back.items c.take_apart.new.back.items c.in-Some.session.pass k c.take_apart.ensures.back there));
      stay = λ k has. number_stays (λ p. p.number) c.loop-session.back.items c.take_apart.new.back.items c.in-Some.session.pass k c.take_apart.ensures.back (c.loop-session.invariant.stay k has);
      left = λ book mounts scripts whole ran. (split_all (λ s. session_with s.pass (get_by_text s.names) s.txn s.log.items s.ended) (HasRun book mounts scripts whole) c.loop-session.sessions.items c.pop.new.self.items c.in-Some.session items (c.loop-session.invariant.left book mounts scripts whole ran)).0;
      kept = λ book mounts scripts whole ran kept.
          c.take_apart.ensures.kept book mounts scripts whole
          (split_all (λ s. session_with s.pass (get_by_text s.names) s.txn s.log.items s.ended) (HasRun book mounts scripts whole) c.loop-session.sessions.items c.pop.new.self.items c.in-Some.session items (c.loop-session.invariant.left book mounts scripts whole ran)).1
          (c.loop-session.invariant.kept book mounts scripts whole ran kept);
    }

pub returns-clause-all : goal.returns-clause-all
returns-clause-all g c = λ k has.
    let ok = c.loop-session.sessions.ok in
    let zero = c.in_default.ensures.cases in
    let none = nil_of c.loop-session.sessions.items (omega (arith, ok, zero)) in
    either_way (c.loop-session.invariant.all k has) (λ mine. absurd (none_has k (subst (λ xs. Contains (map (λ s. s.pass.number) xs) k) none mine))) (λ there. there)
