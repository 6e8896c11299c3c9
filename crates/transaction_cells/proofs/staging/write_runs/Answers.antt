use Rattle.std.proofs.Common.{◌∙◌, ◌+◌, sym, ap, drop, length, List, Option, ℕ}
use Rattle.std.proofs.lemmas.List.{at_drop_more}
use Rattle.cells.specs.declared.run.Run.{Run}
use Rattle.cells.specs.Written.{words_seen}
use Rattle.transaction_cells.specs.Tables.{runs_written}
use Rattle.transaction_cells.proofs.StagingLaws.{length-runs_written}
use Rattle.transaction_cells.proofs.staging.write_runs.Goals as goal

pub loop-run-preserved : goal.loop-run-preserved
loop-run-preserved c =
    let runs = c.args.runs.now in
    let words = words_seen c.args.words in
    let k = c.loop-run.run-index in
    let rest = ap (runs_written (drop (k + 1) runs) words) c.write_run.ensures ∙ sym (at_drop_more (λ (rs : List Run). runs_written rs words c.loop-run.staged) runs k _ c.loop-run-test.true) ∙ c.loop-run.invariant.rest in
    record {
      rest = rest;
      size = sym (length-runs_written (drop (k + 1) runs) words c.write_run.new.staged) ∙ ap (λ (cells : List (Option ℕ)). length cells) rest ∙ length-runs_written runs words c.args.staged.now;
    }
