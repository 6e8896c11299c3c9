-- Cell by cell there is the staged word, or the chunk's.
use Rattle.std.proofs.Common.{◌≡◌, ◌<◌, List, Bool, Option, Some, None, true, false, ℕ, length, get_or, replicate, refl, sym, ◌∙◌, ap, subst, arith}
use Rattle.cells.specs.Dense.{DenseCells}
use Rattle.cells.specs.Numbers.{IsWord}
use Rattle.rebase_writes.specs.Marks.{is_marked, marks_of}
use Rattle.rebase_writes.specs.Staged.{staged_cells, laid_over, AreWords}
use Rattle.rebase_writes.specs.Rising.{AreRising, runs_staged}
use Rattle.rebase_writes.proofs.KeptLaws.{by_runs_is, by_cells_is, length-by_runs, length-by_cells, lent_runs, cell_is}
use Rattle.rebase_writes.proofs.MarkLaws.{marked_cell}
use Rattle.rebase_writes.proofs.StagedLaws.{get_or-laid_over}
use Rattle.rebase_writes.proofs.staged.Staged.lay_over.Goals as goal

pub lay_runs-requires-clause-rising : goal.lay_runs-requires-clause-rising
lay_runs-requires-clause-rising c =
    let s = c.self.inside in
    let is = by_runs_is s.by_runs s.cells s.runs.items s.words.items s.marks.items c.args.self.now c.if-self.true c.self.view_is in
    let count = length-by_runs s.cells s.runs.items s.words.items c.args.self.now is in
    let are = lent_runs 0 s.cells s.runs.items c.deref.result.now s.words.items c.deref-then-self.result.now c.deref.ensures.value c.deref-then-self.ensures.value (c.self.invariant.rising c.if-self.true) in
    subst (λ n. AreRising (length c.deref-then-self.result.now) n c.deref.result.now) (sym count ∙ c.requires.size) are

pub lay_runs-requires-clause-words : goal.lay_runs-requires-clause-words
lay_runs-requires-clause-words c =
    let s = c.self.inside in
    let is = by_runs_is s.by_runs s.cells s.runs.items s.words.items s.marks.items c.args.self.now c.if-self.true c.self.view_is in
    let count = length-by_runs s.cells s.runs.items s.words.items c.args.self.now is in
    let all = (λ i. runs_staged (c.deref.ensures.value i) (c.deref-then-self.ensures.value i) (replicate ((sym c.requires.size ∙ count) i) None)) ∙ is in
    subst (AreWords c.args.chunk.now.dtype) (sym all) c.requires.words

pub returns-then-self-clause-value : goal.returns-then-self-clause-value
returns-then-self-clause-value c =
    let s = c.self.inside in
    let is = by_runs_is s.by_runs s.cells s.runs.items s.words.items s.marks.items c.args.self.now c.if-self.true c.self.view_is in
    let count = length-by_runs s.cells s.runs.items s.words.items c.args.self.now is in
    let all = (λ i. runs_staged (c.deref.ensures.value i) (c.deref-then-self.ensures.value i) (replicate ((sym c.requires.size ∙ count) i) None)) ∙ is in
    c.lay_runs.ensures ∙ ap (λ (cells : List (Option ℕ)). record c.args.chunk.now { words = laid_over cells c.args.chunk.now.words }) all

pub returns-then-self-clause-cells : goal.returns-then-self-clause-cells
returns-then-self-clause-cells c place inside =
    ap (λ (d : DenseCells). get_or d.words place 0) (returns-then-self-clause-value (c))
    ∙ get_or-laid_over c.args.self.now c.args.chunk.now.words place c.requires.size inside

pub lay_marked-requires-clause-size : goal.lay_marked-requires-clause-size
lay_marked-requires-clause-size c =
    let s = c.self.inside in
    let full = c.self.invariant.full c.if-self.false in
    let is = by_cells_is s.by_runs s.cells s.runs.items s.words.items s.marks.items c.args.self.now c.if-self.false c.self.view_is in
    let count = length-by_cells s.cells s.words.items s.marks.items c.args.self.now full is in
    omega (arith, ap (λ (w : List ℕ). length w) c.deref-else-self-2.ensures.value, full, count, c.requires.size)

pub lay_marked-requires-clause-room : goal.lay_marked-requires-clause-room
lay_marked-requires-clause-room c =
    let full = c.self.invariant.full c.if-self.false in
    omega (arith, ap (λ (w : List ℕ). length w) c.deref-else-self-2.ensures.value, ap (λ (m : List ℕ). length m) c.deref-else-self.ensures.value, full, c.self.invariant.marked c.if-self.false)

pub lay_marked-requires-clause-words : goal.lay_marked-requires-clause-words
lay_marked-requires-clause-words c place less mark =
    let s = c.self.inside in
    let full = c.self.invariant.full c.if-self.false in
    let is = by_cells_is s.by_runs s.cells s.runs.items s.words.items s.marks.items c.args.self.now c.if-self.false c.self.view_is in
    let count = length-by_cells s.cells s.words.items s.marks.items c.args.self.now full is in
    let word = get_or s.words.items place 0 in
    let within : place < s.cells = omega (arith, less, ap (λ (w : List ℕ). length w) c.deref-else-self-2.ensures.value, full) in
    let set : is_marked s.marks.items place ≡ true = rw c.deref-else-self.ensures.value at mark in
    let there = cell_is s.cells s.words.items s.marks.items c.args.self.now place full is within ∙ marked_cell s.marks.items s.words.items place word set refl in
    let held : IsWord c.args.chunk.now.dtype word = c.requires.words place None (omega (arith, count, within)) word there in
    rw c.deref-else-self-2.ensures.value held

pub returns-else-self-clause-value : goal.returns-else-self-clause-value
returns-else-self-clause-value c =
    let s = c.self.inside in
    let full = c.self.invariant.full c.if-self.false in
    let is = by_cells_is s.by_runs s.cells s.runs.items s.words.items s.marks.items c.args.self.now c.if-self.false c.self.view_is in
    let count = length-by_cells s.cells s.words.items s.marks.items c.args.self.now full is in
    c.lay_marked.ensures s.cells (ap (λ (w : List ℕ). length w) c.deref-else-self-2.ensures.value ∙ full)
    ∙ ap (λ (cells : List (Option ℕ)). record c.args.chunk.now { words = laid_over cells c.args.chunk.now.words })
    ((λ i. staged_cells (marks_of s.cells (c.deref-else-self.ensures.value i)) (c.deref-else-self-2.ensures.value i)) ∙ is)

pub returns-else-self-clause-cells : goal.returns-else-self-clause-cells
returns-else-self-clause-cells c place inside =
    ap (λ (d : DenseCells). get_or d.words place 0) (returns-else-self-clause-value (c))
    ∙ get_or-laid_over c.args.self.now c.args.chunk.now.words place c.requires.size inside
