-- The mark at the place is that of the staged cells.
use Rattle.std.proofs.Common.{Bool, ℕ, List, IsSome, length, sym, ◌∙◌, ap, subst, arith, ◌↔◌}
use Rattle.std.specs.Prelude.{IsTrue}
use Rattle.rebase_writes.specs.Marks.{is_marked}
use Rattle.rebase_writes.specs.Staged.{staged_at}
use Rattle.rebase_writes.proofs.KeptLaws.{by_cells_is, length-by_cells, marked}
use Rattle.rebase_writes.proofs.staged.Staged.covers.Goals as goal

pub is_marked-requires : goal.is_marked-requires
is_marked-requires c =
    let s = c.self.inside in
    let full = c.self.invariant.full c.if-self.false in
    let is = by_cells_is s.by_runs s.cells s.runs.items s.words.items s.marks.items c.args.self.now c.if-self.false c.self.view_is in
    let count = length-by_cells s.cells s.words.items s.marks.items c.args.self.now full is in
    omega (arith, count, c.requires, c.self.invariant.marked c.if-self.false, ap (λ (m : List ℕ). length m) c.deref-else-self.ensures.value)

pub returns-else-self : goal.returns-else-self
returns-else-self c =
    let s = c.self.inside in
    let full = c.self.invariant.full c.if-self.false in
    let is = by_cells_is s.by_runs s.cells s.runs.items s.words.items s.marks.items c.args.self.now c.if-self.false c.self.view_is in
    let count = length-by_cells s.cells s.words.items s.marks.items c.args.self.now full is in
    let mark = c.is_marked.ensures ∙ ap (λ (m : List ℕ). is_marked m c.args.place) c.deref-else-self.ensures.value in
    subst (λ (b : Bool). IsTrue b ↔ IsSome (staged_at c.args.self.now c.args.place)) (sym mark)
    (marked s.cells s.words.items s.marks.items c.args.self.now c.args.place full is (omega (arith, count, c.requires)))
