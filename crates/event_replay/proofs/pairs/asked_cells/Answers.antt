use Rattle.std.proofs.Common.{◌<◌, ◌^◌, ◌∙◌, ◌++◌, List, length, map, sym, ap, subst, arith}
use Rattle.std.specs.List.{flat_map}
use Rattle.std.proofs.lemmas.List.{take_all}
use Rattle.std.proofs.lemmas.List.Elements.{All-get_or, All-from_recursion}
use Rattle.cells.specs.Runs.{IsRunInside, pairs_of}
use Rattle.cells.specs.declared.run.Run.{Run}
use Rattle.event_replay.specs.Placed.{asked_cell}
use Rattle.transaction_cells.proofs.MorePairs.{run_more}
use Rattle.event_replay.proofs.pairs.asked_cells.Goals as goal

pub ask_run-requires-clause-run : goal.ask_run-requires-clause-run
ask_run-requires-clause-run c =
    let runs = c.args.runs.now in
    let within : c.loop-i.i < length runs = omega arith in
    let P : Run → Type 0 = λ run. IsRunInside run (length c.args.words.now) (2 ^ 24) in
    subst P (sym (c.run_at.ensures c.run_at.result)) (All-get_or P runs c.loop-i.i c.run_at.result within (All-from_recursion P runs c.requires.runs))

pub loop-i-preserved : goal.loop-i-preserved
loop-i-preserved c =
    let f = asked_cell c.args.leaves.now c.args.words.now in
    run_more f c.args.runs.now c.loop-i.i c.run_at.result c.loop-i.asked.items c.ask_run.new.asked.items (omega arith) c.loop-i.invariant
    (c.in_ok-ask_run.ensures ∙ ap (λ (run : Run). c.loop-i.asked.items ++ map f (pairs_of run)) (c.run_at.ensures c.run_at.result))

pub returns : goal.returns
returns c = c.loop-i.invariant ∙ ap (λ (rs : List Run). map (asked_cell c.args.leaves.now c.args.words.now) (flat_map pairs_of rs)) (take_all c.loop-i.i c.args.runs.now (omega arith))
