use Rattle.std.proofs.Common.{◌≡◌, ◌∙◌, ◌≤◌, ◌<◌, ◌↔◌, Bool, true, false, None, Option, List, ℕ, IsSome, length, get_or, replicate, ap, subst, sym, arith}
use Rattle.std.specs.Prelude.{IsTrue}
use Rattle.rebase_writes.specs.Staged.{staged_at}
use Rattle.rebase_writes.specs.Rising.{runs_staged}
use Rattle.rebase_writes.proofs.KeptLaws.{by_runs_is, by_cells_is, length-by_runs, length-by_cells, lent_runs, marked}
use Rattle.rebase_writes.proofs.staged.Staged.covers_range.Goals as goal

pub cover_range-requires-clause-to : goal.cover_range-requires-clause-to
cover_range-requires-clause-to c =
    let s = c.self.inside in
    let is = by_runs_is s.by_runs s.cells s.runs.items s.words.items s.marks.items c.args.self.now c.if-self.true c.self.view_is in
    omega (arith, length-by_runs s.cells s.runs.items s.words.items c.args.self.now is, c.requires, c.self.invariant.small c.if-self.true)

pub are_marked-requires : goal.are_marked-requires
are_marked-requires c =
    let s = c.self.inside in
    let full = c.self.invariant.full c.if-self.false in
    let is = by_cells_is s.by_runs s.cells s.runs.items s.words.items s.marks.items c.args.self.now c.if-self.false c.self.view_is in
    let count = length-by_cells s.cells s.words.items s.marks.items c.args.self.now full is in
    omega (arith, count, c.requires, c.self.invariant.marked c.if-self.false, ap (λ (m : List ℕ). length m) c.deref-else-self.ensures.value)

pub returns-then-self : goal.returns-then-self
returns-then-self c =
    let s = c.self.inside in
    let is = by_runs_is s.by_runs s.cells s.runs.items s.words.items s.marks.items c.args.self.now c.if-self.true c.self.view_is in
    let count = length-by_runs s.cells s.runs.items s.words.items c.args.self.now is in
    let are = lent_runs 0 s.cells s.runs.items c.deref.result.now s.words.items c.deref-then-self.result.now c.deref.ensures.value c.deref-then-self.ensures.value (c.self.invariant.rising c.if-self.true) in
    subst (λ (all : List (Option ℕ)). IsTrue c.cover_range.result ↔ ((place : ℕ) → c.args.from ≤ place → place < c.args.to → IsSome (staged_at all place)))
    ((λ i. runs_staged (c.deref.ensures.value i) (c.deref-then-self.ensures.value i) (replicate s.cells None)) ∙ is)
    (c.cover_range.ensures s.cells are (omega (arith, count, c.requires)))

pub returns-else-self : goal.returns-else-self
returns-else-self c =
    let s = c.self.inside in
    let full = c.self.invariant.full c.if-self.false in
    let is = by_cells_is s.by_runs s.cells s.runs.items s.words.items s.marks.items c.args.self.now c.if-self.false c.self.view_is in
    let count = length-by_cells s.cells s.words.items s.marks.items c.args.self.now full is in
    let told = rw c.deref-else-self.ensures.value at c.are_marked.ensures in (
      λ is_true place from to. (marked s.cells s.words.items s.marks.items c.args.self.now place full is (omega (arith, count, to, c.requires))).0 (told.0 is_true place from to),
      λ all. told.1 (λ place from to. (marked s.cells s.words.items s.marks.items c.args.self.now place full is (omega (arith, count, to, c.requires))).1 (all place from to)),
    )
