use Rattle.std.proofs.Common.{◌<◌, ◌∙◌, length, map, inl, inr, sym, subst, arith}
use Rattle.std.specs.Prelude.{Contains}
use Rattle.std.specs.List.{AllByRecursion}
use Rattle.indexmap.specs.IndexMap.{get_by_text}
use Rattle.session_runs.specs.Session.{session_with}
use Rattle.session_workers.specs.Workers.{HasRun, numbers_in}
use Rattle.session_workers.proofs.Kept.{split_rows, rows_less, split_rows_number, either_way, none_has, same_numbers}
use Rattle.session_workers.proofs.Dealt.{nil_of, mapped_length}
use Rattle.session_workers.proofs.gathering.gather.Goals as goal

pub gather_one-requires-clause-room : goal.gather_one-requires-clause-room
gather_one-requires-clause-room g c =
    let less = rows_less (λ w. map (λ s. session_with s.pass (get_by_text s.names) s.txn s.log.items s.ended) w.sessions.items) c.loop-worker.row.items c.pop.new.self.items c.in-Some.worker c.in-Some.ensures.items in
    let one = mapped_length (λ s. s.pass.number) (map (λ s. session_with s.pass (get_by_text s.names) s.txn s.log.items s.ended) c.in-Some.worker.sessions.items) in
    let two = mapped_length (λ s. session_with s.pass (get_by_text s.names) s.txn s.log.items s.ended) c.in-Some.worker.sessions.items in
    let room = c.loop-worker.invariant.room in
    omega (arith, less, one, two, room)

pub gather_one-requires-clause-small : goal.gather_one-requires-clause-small
gather_one-requires-clause-small g c = (split_rows (λ w. map (λ s. session_with s.pass (get_by_text s.names) s.txn s.log.items s.ended) w.sessions.items) (λ s. s.pass.number < length c.loop-worker.logs) c.loop-worker.row.items c.pop.new.self.items c.in-Some.worker c.in-Some.ensures.items c.loop-worker.invariant.small).1

pub loop-worker-preserved : goal.loop-worker-preserved
loop-worker-preserved g c =
    let items = c.in-Some.ensures.items in
    let less = rows_less (λ w. map (λ s. session_with s.pass (get_by_text s.names) s.txn s.log.items s.ended) w.sessions.items) c.loop-worker.row.items c.pop.new.self.items c.in-Some.worker items in
    let one = mapped_length (λ s. s.pass.number) (map (λ s. session_with s.pass (get_by_text s.names) s.txn s.log.items s.ended) c.in-Some.worker.sessions.items) in
    let two = mapped_length (λ s. session_with s.pass (get_by_text s.names) s.txn s.log.items s.ended) c.in-Some.worker.sessions.items in
    let room = c.loop-worker.invariant.room in
    let long = c.gather_one.ensures.length_is in
    let same = c.gather_one.ensures.room in record {
      small =
          subst (λ n. AllByRecursion (AllByRecursion (λ s. s.pass.number < n)) (map (λ w. map (λ s. session_with s.pass (get_by_text s.names) s.txn s.log.items s.ended) w.sessions.items) c.pop.new.self.items)) (sym c.gather_one.ensures.count)
          (split_rows (λ w. map (λ s. session_with s.pass (get_by_text s.names) s.txn s.log.items s.ended) w.sessions.items) (λ s. s.pass.number < length c.loop-worker.logs) c.loop-worker.row.items c.pop.new.self.items c.in-Some.worker items c.loop-worker.invariant.small).0;
      room = omega (arith, less, one, two, room, long, same);
      count = c.gather_one.ensures.count ∙ c.loop-worker.invariant.count;
      all = λ k has.
          either_way (c.loop-worker.invariant.all k has)
          (λ mine. either_way (split_rows_number (λ w. map (λ s. session_with s.pass (get_by_text s.names) s.txn s.log.items s.ended) w.sessions.items) c.loop-worker.row.items c.pop.new.self.items c.in-Some.worker k items mine) (λ rest. inl rest)
          (λ last. inr (c.gather_one.ensures.all k (subst (λ ns. Contains ns k) (same_numbers (λ s. session_with s.pass (get_by_text s.names) s.txn s.log.items s.ended) c.in-Some.worker.sessions.items) last))))
          (λ there. inr (c.gather_one.ensures.stay k there));
      left = λ book mounts scripts whole ran. (split_rows (λ w. map (λ s. session_with s.pass (get_by_text s.names) s.txn s.log.items s.ended) w.sessions.items) (HasRun book mounts scripts whole) c.loop-worker.row.items c.pop.new.self.items c.in-Some.worker items (c.loop-worker.invariant.left book mounts scripts whole ran)).0;
      kept = λ book mounts scripts whole ran kept.
          c.gather_one.ensures.kept book mounts scripts whole
          (split_rows (λ w. map (λ s. session_with s.pass (get_by_text s.names) s.txn s.log.items s.ended) w.sessions.items) (HasRun book mounts scripts whole) c.loop-worker.row.items c.pop.new.self.items c.in-Some.worker items (c.loop-worker.invariant.left book mounts scripts whole ran)).1
          (c.loop-worker.invariant.kept book mounts scripts whole ran kept);
    }

pub returns-clause-all : goal.returns-clause-all
returns-clause-all g c = λ k has.
    let ok = c.loop-worker.row.ok in
    let zero = c.in_default.ensures.cases in
    let none = nil_of c.loop-worker.row.items (omega (arith, ok, zero)) in
    either_way (c.loop-worker.invariant.all k has) (λ mine. absurd (none_has k (subst (λ xs. Contains (numbers_in (map (λ w. map (λ s. session_with s.pass (get_by_text s.names) s.txn s.log.items s.ended) w.sessions.items) xs)) k) none mine))) (λ there. there)
