use Rattle.std.proofs.Common.{◌≡◌, ◌∙◌, true, map, Some, sym, ap, subst}
use Rattle.std.specs.List.{AllByRecursion}
use Rattle.history.specs.Legal.{IsMount}
use Rattle.kv_mounts.specs.Finish.{failed_places}
use Rattle.kv_mounts.specs.Parts.{names_of}
use Rattle.session_workers.specs.Finished.{IsRun}
use Rattle.session_workers.proofs.NamesCopied.{valid_names, taken_names}
use Rattle.session_workers.proofs.RunLaws.{seen_over, opening_over, run_is}
use Rattle.session_workers.specs.Workers.{AreSessionLogs, AreWhole}
use Rattle.state_laws.specs.Agreement.{Agrees, TakesMount}
use Rattle.session_workers.proofs.runs.run_over.Goals as goal

pub run_scripts-requires-clause-valid : goal.run_scripts-requires-clause-valid
run_scripts-requires-clause-valid g c κs within = subst (λ ns. AllByRecursion IsMount ns) (sym (c.as_slice-2.ensures.value ∙ c.in-Ok-names_of.ensures ∙ ap names_of c.as_slice.ensures.value)) (valid_names c.args.mounts.items c.requires.mounts)

pub run_scripts-requires-clause-taken : goal.run_scripts-requires-clause-taken
run_scripts-requires-clause-taken g c κs within = subst (λ ns. AllByRecursion (TakesMount (Some (names_of c.new-store.result))) ns) (sym (c.as_slice-2.ensures.value ∙ c.in-Ok-names_of.ensures ∙ ap names_of (c.as_slice.ensures.value ∙ sym c.new-store.ensures))) (taken_names c.new-store.result)

pub returns-in-Ok-run_scripts-clause-run : goal.returns-in-Ok-run_scripts-clause-run
returns-in-Ok-run_scripts-clause-run g c =
    let old = c.args.mounts.items in
    let e = c.in-Ok-run_scripts.ended in
    let scripts = map (λ v. v.items) c.args.scripts.now in
    let made : c.new-store.result ≡ old = c.new-store.ensures in
    let names : c.as_slice-2.result.now ≡ names_of old = c.as_slice-2.ensures.value ∙ c.in-Ok-names_of.ensures ∙ ap names_of c.as_slice.ensures.value in
    let ended : AreSessionLogs (opening_over old c.args.cache) (names_of old) scripts e.state.log.events e.logs.items =
    subst (λ ps. AreSessionLogs (opening_over ps c.args.cache) (names_of old) scripts e.state.log.events e.logs.items) made
    (subst (λ ns. AreSessionLogs (opening_over c.new-store.result c.args.cache) ns scripts e.state.log.events e.logs.items) names c.in-Ok-run_scripts.ensures.logs) in
    let full : e.whole ≡ true → AreWhole (names_of old) scripts e.logs.items = subst (λ ns. e.whole ≡ true → AreWhole ns scripts e.logs.items) names c.in-Ok-run_scripts.ensures.whole in
    let agrees : Agrees (opening_over old c.args.cache) (seen_over e.state.store) e.state.log = subst (λ ps. Agrees (opening_over ps c.args.cache) (seen_over e.state.store) e.state.log) made c.in-Ok-run_scripts.ensures.agrees in
    let run = run_is scripts old e.state.store c.finish.result.mounts.items c.args.cache e.state.log e.logs.items e.whole ended full agrees c.finish.ensures.finished c.finish.ensures.mounts in
    subst (λ u. IsRun scripts old c.finish.result.mounts.items c.finish.result.history.items c.finish.result.logs.items c.finish.result.whole u) (sym c.finish.ensures.unfinished)
    (subst (λ w. IsRun scripts old c.finish.result.mounts.items c.finish.result.history.items c.finish.result.logs.items w (failed_places c.finish.result.mounts.items)) (sym c.finish.ensures.whole)
    (subst (λ ls. IsRun scripts old c.finish.result.mounts.items c.finish.result.history.items ls e.whole (failed_places c.finish.result.mounts.items)) (sym c.finish.ensures.logs)
    (subst (λ h. IsRun scripts old c.finish.result.mounts.items h e.logs.items e.whole (failed_places c.finish.result.mounts.items)) (sym c.finish.ensures.history) run)))
