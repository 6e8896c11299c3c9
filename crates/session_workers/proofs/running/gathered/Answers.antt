use Rattle.std.proofs.Common.{◌≡◌, ◌∙◌, ◌<◌, length, map, sym, ap, subst}
use Rattle.std.specs.Prelude.{All}
use Rattle.std.proofs.lemmas.List.Elements.{All-from_recursion}
use Rattle.indexmap.specs.IndexMap.{get_by_text}
use Rattle.session_runs.specs.Session.{session_with}
use Rattle.session_workers.specs.Workers.{IsFull, AreKept, AreSessionLogs, AreWhole}
use Rattle.session_workers.proofs.Kept.{kept_none, rows_full, rows_all_at, has_number, logs_are, logs_whole}
use Rattle.session_workers.proofs.Worked.{lent}
use Rattle.turn_book.specs.Passes.{IsIdle}
use Rattle.session_workers.proofs.running.gathered.Goals as goal

pub close-requires-clause-passes : goal.close-requires-clause-passes
close-requires-clause-passes g c =
    let ran = c.requires.ran in
    let kept = c.gather.ensures.kept c.args.book ran.0 ran.1 c.are_full-whole.result
    (rows_full c.args.book ran.0 ran.1 c.are_full-whole.result (map (λ w. map (λ s. session_with s.pass (get_by_text s.names) s.txn s.log.items s.ended) w.sessions.items) c.args.row.items) ran.2.keep
    (λ so. rows_all_at (λ w. w.sessions.items) (λ s. session_with s.pass (get_by_text s.names) s.txn s.log.items s.ended) IsFull c.args.row.items c.as_slice.result.now c.as_slice.ensures.value (c.are_full-whole.ensures so)))
    (subst (λ ps. AreKept c.args.book ran.0 ran.1 c.are_full-whole.result ps c.as_mut_slice.result.now) (sym c.requires.empty) (kept_none c.args.book ran.0 ran.1 c.are_full-whole.result c.as_mut_slice.result.now)) in
    All-from_recursion (IsIdle c.args.book) c.gather.new.back.items kept.idle

pub close-requires-clause-each : goal.close-requires-clause-each
close-requires-clause-each g c = λ k low.
    let ran = c.requires.ran in
    has_number c.gather.new.back.items k (c.gather.ensures.all k (ran.2.each k (subst (λ n. k < n) (c.requires.passes ∙ sym ran.3) low)))

pub returns-clause-logs : goal.returns-clause-logs
returns-clause-logs g c = λ mounts scripts dealt count.
    let items = c.as_mut_slice.ensures.value in
    let long = ap length (sym items) ∙ c.as_mut_slice.ensures.len in
    let same : length c.gather.new.logs ≡ length c.args.logs.items = c.gather.ensures.count ∙ ap length items in
    let kept = c.gather.ensures.kept c.args.book mounts scripts c.are_full-whole.result
    (rows_full c.args.book mounts scripts c.are_full-whole.result (map (λ w. map (λ s. session_with s.pass (get_by_text s.names) s.txn s.log.items s.ended) w.sessions.items) c.args.row.items) dealt.keep
    (λ so. rows_all_at (λ w. w.sessions.items) (λ s. session_with s.pass (get_by_text s.names) s.txn s.log.items s.ended) IsFull c.args.row.items c.as_slice.result.now c.as_slice.ensures.value (c.are_full-whole.ensures so)))
    (subst (λ ps. AreKept c.args.book mounts scripts c.are_full-whole.result ps c.as_mut_slice.result.now) (sym c.requires.empty) (kept_none c.args.book mounts scripts c.are_full-whole.result c.as_mut_slice.result.now)) in
    subst (AreSessionLogs c.args.book.fixed mounts scripts c.close.result.log.events) (sym (lent c.args.logs.len c.args.logs.items c.gather.new.logs long same))
    (logs_are c.args.book mounts scripts c.are_full-whole.result c.gather.new.back.items c.gather.new.logs kept (λ k low. c.gather.ensures.all k (dealt.each k (subst (λ n. k < n) (same ∙ sym count) low)))
    c.close.result.log.events (same ∙ sym count) c.close.ensures.seen c.close.ensures.mine (subst (λ n. All (λ e. e.owner < n) c.close.result.log.events) (c.requires.passes ∙ sym count) c.close.ensures.owners))

pub returns-clause-whole : goal.returns-clause-whole
returns-clause-whole g c = λ mounts scripts dealt count so.
    let items = c.as_mut_slice.ensures.value in
    let long = ap length (sym items) ∙ c.as_mut_slice.ensures.len in
    let same : length c.gather.new.logs ≡ length c.args.logs.items = c.gather.ensures.count ∙ ap length items in
    let kept = c.gather.ensures.kept c.args.book mounts scripts c.are_full-whole.result
    (rows_full c.args.book mounts scripts c.are_full-whole.result (map (λ w. map (λ s. session_with s.pass (get_by_text s.names) s.txn s.log.items s.ended) w.sessions.items) c.args.row.items) dealt.keep
    (λ so. rows_all_at (λ w. w.sessions.items) (λ s. session_with s.pass (get_by_text s.names) s.txn s.log.items s.ended) IsFull c.args.row.items c.as_slice.result.now c.as_slice.ensures.value (c.are_full-whole.ensures so)))
    (subst (λ ps. AreKept c.args.book mounts scripts c.are_full-whole.result ps c.as_mut_slice.result.now) (sym c.requires.empty) (kept_none c.args.book mounts scripts c.are_full-whole.result c.as_mut_slice.result.now)) in
    subst (AreWhole mounts scripts) (sym (lent c.args.logs.len c.args.logs.items c.gather.new.logs long same))
    (logs_whole c.args.book mounts scripts c.are_full-whole.result c.gather.new.back.items c.gather.new.logs kept (λ k low. c.gather.ensures.all k (dealt.each k (subst (λ n. k < n) (same ∙ sym count) low))) so)
