use Rattle.std.proofs.Common.{◌∙◌, ◌++◌, ◌<◌, [], List, length, map, sym, ap, subst, arith}
use Rattle.std.specs.List.{flat_map}
use Rattle.std.proofs.lemmas.List.{take_all}
use Rattle.std.proofs.lemmas.List.Elements.{All-get_or, All-from_recursion}
use Rattle.cells.specs.Runs.{pairs_of}
use Rattle.cells.specs.declared.run.Run.{Run}
use Rattle.transaction_cells.specs.Needs.{IsRunIn}
use Rattle.transaction_cells.specs.StagedWords.{word_of_pair}
use Rattle.transaction_cells.proofs.MorePairs.{run_more}
use Rattle.transaction_cells.proofs.staged_words.no_words.Goals as goal

pub loop-i-preserved : goal.loop-i-preserved
loop-i-preserved c =
    let f = word_of_pair [] in
    run_more f c.args.runs.now c.loop-i.i c.run_at.result c.loop-i.words.items c.add_none.new.words.items (omega arith) c.loop-i.invariant
    (c.in_ok-add_none.ensures ∙ ap (λ (run : Run). c.loop-i.words.items ++ map f (pairs_of run)) (c.run_at.ensures c.run_at.result))

pub returns : goal.returns
returns c = c.loop-i.invariant ∙ ap (λ (rs : List Run). map (word_of_pair []) (flat_map pairs_of rs)) (take_all c.loop-i.i c.args.runs.now (omega arith))
