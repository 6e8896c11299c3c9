-- The run's places are those of the range, and its one word is the fill.
use Rattle.std.proofs.Common.{◌≡◌, ℕ, ◌-◌, ◌≤◌, ◌∷◌, [], pos, refl, sym, ap, subst, length, arith}
use Rattle.cells.specs.Dense.{DenseCells}
use Rattle.cells.specs.declared.run.Run.{Run}
use Rattle.cells.specs.Runs.{pairs_of, pairs_put}
use Rattle.chunk_laying.proofs.FillLaws.{AreFilled, filled_pairs}
use Rattle.chunk_laying.proofs.laying.fill_run.Goals as goal

-- what is written
filled_to : (from to word : ℕ) (old new : DenseCells) → from ≤ to → to ≤ length old.words
    → new ≡ record old { words = pairs_put (pairs_of (record { view = 0; view_step = 0; chunk = from; chunk_step = pos 1; len = to - from })) (word ∷ []) old.words }
    → AreFilled from (to - from) word old.words new.words
filled_to from to word old new low high is =
    let run : Run = record { view = 0; view_step = 0; chunk = from; chunk_step = pos 1; len = to - from } in
    subst (AreFilled from (to - from) word old.words) (sym (ap (λ (d : DenseCells). d.words) is))
    (filled_pairs run word old.words (to - from) (record { view = refl; view_step = refl; chunk_step = refl }) (omega (arith, low, high)))

pub returns-clause-size : goal.returns-clause-size
returns-clause-size c =
    (filled_to c.args.from c.args.to c.args.fill c.args.cells.now c.write_run.new.self c.requires.from c.requires.to c.write_run.ensures).size

pub returns-clause-filled : goal.returns-clause-filled
returns-clause-filled c p low high =
    (filled_to c.args.from c.args.to c.args.fill c.args.cells.now c.write_run.new.self c.requires.from c.requires.to c.write_run.ensures).filled p low (omega (arith, high))

pub returns-clause-before : goal.returns-clause-before
returns-clause-before c p low =
    (filled_to c.args.from c.args.to c.args.fill c.args.cells.now c.write_run.new.self c.requires.from c.requires.to c.write_run.ensures).before p low

pub returns-clause-behind : goal.returns-clause-behind
returns-clause-behind c p high =
    (filled_to c.args.from c.args.to c.args.fill c.args.cells.now c.write_run.new.self c.requires.from c.requires.to c.write_run.ensures).behind p (omega (arith, high, c.requires.from))
