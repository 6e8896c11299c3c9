use Rattle.std.proofs.Common.{◌<◌, ◌^◌, ◌∙◌, ◌++◌, List, length, map, sym, ap, subst, arith}
use Rattle.std.specs.List.{flat_map}
use Rattle.std.proofs.lemmas.List.{take_all}
use Rattle.std.proofs.lemmas.List.Elements.{All-get_or, All-from_recursion}
use Rattle.cells.specs.Runs.{IsRunInside, pairs_of}
use Rattle.cells.specs.declared.run.Run.{Run}
use Rattle.event_replay.specs.Placed.{placed_word}
use Rattle.transaction_cells.proofs.MorePairs.{run_more}
use Rattle.event_replay.proofs.pairs.placed_words.Goals as goal

pub place_run-requires : goal.place_run-requires
place_run-requires c =
    let runs = c.args.runs.now in
    let within : c.loop-i.i < length runs = omega arith in
    let P : Run → Type 0 = λ run. IsRunInside run (length c.args.words.now) (2 ^ 24) in
    subst P (sym (c.run_at.ensures c.run_at.result)) (All-get_or P runs c.loop-i.i c.run_at.result within (All-from_recursion P runs c.requires))

pub loop-i-preserved : goal.loop-i-preserved
loop-i-preserved c =
    let f = placed_word c.args.words.now in
    run_more f c.args.runs.now c.loop-i.i c.run_at.result c.loop-i.placed.items c.place_run.new.placed.items (omega arith) c.loop-i.invariant
    (c.in_ok-place_run.ensures ∙ ap (λ (run : Run). c.loop-i.placed.items ++ map f (pairs_of run)) (c.run_at.ensures c.run_at.result))

pub returns : goal.returns
returns c = c.loop-i.invariant ∙ ap (λ (rs : List Run). map (placed_word c.args.words.now) (flat_map pairs_of rs)) (take_all c.loop-i.i c.args.runs.now (omega arith))
