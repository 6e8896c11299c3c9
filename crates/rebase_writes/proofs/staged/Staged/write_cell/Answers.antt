use Rattle.std.proofs.Common.{◌≡◌, ◌∙◌, None, List, Option, ℕ, length, replicate, ap, sym, subst, arith}
use Rattle.cells.specs.Runs.{IsRunInside}
use Rattle.rebase_writes.specs.declared.staged.Staged.TheInside.{Inside}
use Rattle.rebase_writes.proofs.KeptLaws.{by_runs_is, by_cells_is, length-by_runs, length-by_cells, IsSpread, spread_words, spread_before}
use Rattle.rebase_writes.proofs.staged.Staged.write_cell.Goals as goal
use Rattle.rebase_writes.proofs.staged.Staged.write_cell.Goals.{then-self, else-self}

pub stage_cell-requires-clause-inside : goal.stage_cell-requires-clause-inside
stage_cell-requires-clause-inside c =
    let s = c.self.inside in
    let now = c.if-self.self-inside in
    let spread : IsSpread s.cells now.words.items now.marks.items c.args.self.now = elim c.if-self.branch [
      | then-self w ↦
          let is = by_runs_is s.by_runs s.cells s.runs.items s.words.items s.marks.items c.args.self.now w.if-self.true c.self.view_is in
          spread_words s.cells s.runs.items w.deref.result.now s.words.items w.spread.new.words.items now.words.items w.spread.new.marks.items now.marks.items c.args.self.now (is) w.deref.ensures.value
          w.spread.ensures.full w.spread.ensures.marked w.spread.ensures.staged
          (ap (λ (x : Inside). x.words.items) w.self-inside-is) (ap (λ (x : Inside). x.marks.items) w.self-inside-is)
      | else-self w ↦
          let is = by_cells_is s.by_runs s.cells s.runs.items s.words.items s.marks.items c.args.self.now w.if-self.false c.self.view_is in
          spread_before s.cells s.words.items now.words.items s.marks.items now.marks.items c.args.self.now (c.self.invariant.full w.if-self.false) (c.self.invariant.marked w.if-self.false) is
          (ap (λ (x : Inside). x.words.items) w.self-inside-is) (ap (λ (x : Inside). x.marks.items) w.self-inside-is)
    ] in
    let count = length-by_cells s.cells now.words.items now.marks.items c.args.self.now spread.full spread.is in
    omega (arith, count, spread.full, c.requires, ap (λ (w : List ℕ). length w) c.deref_mut-2.ensures.value)

pub stage_cell-requires-clause-room : goal.stage_cell-requires-clause-room
stage_cell-requires-clause-room c =
    let s = c.self.inside in
    let now = c.if-self.self-inside in
    let spread : IsSpread s.cells now.words.items now.marks.items c.args.self.now = elim c.if-self.branch [
      | then-self w ↦
          let is = by_runs_is s.by_runs s.cells s.runs.items s.words.items s.marks.items c.args.self.now w.if-self.true c.self.view_is in
          spread_words s.cells s.runs.items w.deref.result.now s.words.items w.spread.new.words.items now.words.items w.spread.new.marks.items now.marks.items c.args.self.now (is) w.deref.ensures.value
          w.spread.ensures.full w.spread.ensures.marked w.spread.ensures.staged
          (ap (λ (x : Inside). x.words.items) w.self-inside-is) (ap (λ (x : Inside). x.marks.items) w.self-inside-is)
      | else-self w ↦
          let is = by_cells_is s.by_runs s.cells s.runs.items s.words.items s.marks.items c.args.self.now w.if-self.false c.self.view_is in
          spread_before s.cells s.words.items now.words.items s.marks.items now.marks.items c.args.self.now (c.self.invariant.full w.if-self.false) (c.self.invariant.marked w.if-self.false) is
          (ap (λ (x : Inside). x.words.items) w.self-inside-is) (ap (λ (x : Inside). x.marks.items) w.self-inside-is)
    ] in
    let count = length-by_cells s.cells now.words.items now.marks.items c.args.self.now spread.full spread.is in
    omega (arith, spread.full, spread.room, ap (λ (w : List ℕ). length w) c.deref_mut-2.ensures.value, ap (λ (m : List ℕ). length m) c.deref_mut.ensures.value)
