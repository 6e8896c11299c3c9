use Rattle.std.proofs.Common.{◌≡◌, ◌∙◌, ◌<◌, length, map, sym, subst}
use Rattle.std.proofs.lemmas.List.{length-map}
use Rattle.indexmap.specs.IndexMap.{get_by_text}
use Rattle.session_runs.specs.Session.{session_with}
use Rattle.session_workers.specs.Workers.{IsFresh, AreDealt, AreSessionLogs}
use Rattle.session_workers.proofs.running.run_scripts.Goals as goal

pub worked-row-requires-clause-dealt : goal.worked-row-requires-clause-dealt
worked-row-requires-clause-dealt g c κs within =
    let many : c.in_ok-book.book.passes ≡ length c.args.scripts.now = c.in_ok-book.ensures.book.1 in
    let same : c.in_ok-book.book.passes ≡ length c.in_ok-book.passes.items = c.in_ok-book.ensures.book.1 ∙ sym c.in_ok-book.ensures.count ∙ c.in_ok-book.passes.ok.0 in
    subst (λ n. AreDealt (IsFresh c.in_ok-book.book) (map (λ w. map (λ s. session_with s.pass (get_by_text s.names) s.txn s.log.items s.ended) w.sessions.items) c.dealt-row.result.items) n)
    (sym same ∙ many) (c.dealt-row.ensures.dealt c.in_ok-book.book same c.in_ok-book.ensures.passes)

pub gathered-requires-clause-ran : goal.gathered-requires-clause-ran
gathered-requires-clause-ran g c =
    let count = length-map c.args.scripts.now (λ v. v.items) in (
      c.args.mounts.now,
      map (λ v. v.items) c.args.scripts.now,
      record { keep = c.worked-row.ensures.keep; total = c.worked-row.ensures.total ∙ sym count; each = λ k low. c.worked-row.ensures.each k (subst (λ n. k < n) count low) },
      count ∙ sym c.in-Ok-empty_logs.ensures,
    )

pub returns-clause-logs : goal.returns-clause-logs
returns-clause-logs g c =
    let count = length-map c.args.scripts.now (λ v. v.items) in
    subst (λ o. AreSessionLogs o c.args.mounts.now (map (λ v. v.items) c.args.scripts.now) c.gathered.result.state.log.events c.gathered.result.logs.items) c.in_ok-book.ensures.book.0
    (c.gathered.ensures.logs c.args.mounts.now (map (λ v. v.items) c.args.scripts.now)
    (record { keep = c.worked-row.ensures.keep; total = c.worked-row.ensures.total ∙ sym count; each = λ k low. c.worked-row.ensures.each k (subst (λ n. k < n) count low) })
    (count ∙ sym c.in-Ok-empty_logs.ensures))

pub returns-clause-whole : goal.returns-clause-whole
returns-clause-whole g c = λ so.
    let count = length-map c.args.scripts.now (λ v. v.items) in
    c.gathered.ensures.whole c.args.mounts.now (map (λ v. v.items) c.args.scripts.now)
    (record { keep = c.worked-row.ensures.keep; total = c.worked-row.ensures.total ∙ sym count; each = λ k low. c.worked-row.ensures.each k (subst (λ n. k < n) count low) })
    (count ∙ sym c.in-Ok-empty_logs.ensures) so
