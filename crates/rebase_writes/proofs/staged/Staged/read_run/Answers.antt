-- The words have the size of the staged cells.
use Rattle.std.proofs.Common.{◌≡◌, ◌∙◌, None, Option, List, ℕ, length, replicate, ap, subst, sym, arith}
use Rattle.cells.specs.Runs.{IsRunInside, pairs_of}
use Rattle.rebase_writes.specs.Marks.{marks_of}
use Rattle.rebase_writes.specs.Staged.{staged_cells}
use Rattle.rebase_writes.specs.Rising.{runs_staged}
use Rattle.rebase_writes.specs.Runs.{pairs_shown}
use Rattle.rebase_writes.proofs.KeptLaws.{by_runs_is, by_cells_is, length-by_runs, length-by_cells, lent_runs}
use Rattle.rebase_writes.proofs.staged.Staged.read_run.Goals as goal

pub show_staged-requires : goal.show_staged-requires
show_staged-requires c =
    let s = c.self.inside in
    let is = by_runs_is s.by_runs s.cells s.runs.items s.words.items s.marks.items c.args.self.now c.if-self.true c.self.view_is in
    let count = length-by_runs s.cells s.runs.items s.words.items c.args.self.now is in
    let are = lent_runs 0 s.cells s.runs.items c.deref.result.now s.words.items c.deref-then-self.result.now c.deref.ensures.value c.deref-then-self.ensures.value (c.self.invariant.rising c.if-self.true) in
    record { rising = (s.cells, (are, (subst (IsRunInside c.args.run.now (length c.args.out.now)) count c.requires, c.self.invariant.small c.if-self.true))) }

pub show_run-requires-clause-inside : goal.show_run-requires-clause-inside
show_run-requires-clause-inside c =
    let s = c.self.inside in
    let full = c.self.invariant.full c.if-self.false in
    let is = by_cells_is s.by_runs s.cells s.runs.items s.words.items s.marks.items c.args.self.now c.if-self.false c.self.view_is in
    let count = length-by_cells s.cells s.words.items s.marks.items c.args.self.now full is in
    subst (IsRunInside c.args.run.now (length c.args.out.now)) (count ∙ sym (ap (λ (w : List ℕ). length w) c.deref-else-self-2.ensures.value ∙ full)) c.requires

pub show_run-requires-clause-room : goal.show_run-requires-clause-room
show_run-requires-clause-room c =
    let full = c.self.invariant.full c.if-self.false in
    omega (arith, ap (λ (w : List ℕ). length w) c.deref-else-self-2.ensures.value, ap (λ (m : List ℕ). length m) c.deref-else-self.ensures.value, full, c.self.invariant.marked c.if-self.false)

pub returns-then-self : goal.returns-then-self
returns-then-self c =
    let s = c.self.inside in
    let is = by_runs_is s.by_runs s.cells s.runs.items s.words.items s.marks.items c.args.self.now c.if-self.true c.self.view_is in
    let count = length-by_runs s.cells s.runs.items s.words.items c.args.self.now is in
    let are = lent_runs 0 s.cells s.runs.items c.deref.result.now s.words.items c.deref-then-self.result.now c.deref.ensures.value c.deref-then-self.ensures.value (c.self.invariant.rising c.if-self.true) in
    c.show_staged.ensures s.cells are (subst (IsRunInside c.args.run.now (length c.args.out.now)) count c.requires)
    ∙ ap (λ (all : List (Option ℕ)). pairs_shown (pairs_of c.args.run.now) all c.args.out.now)
    ((λ i. runs_staged (c.deref.ensures.value i) (c.deref-then-self.ensures.value i) (replicate s.cells None)) ∙ is)

pub returns-else-self : goal.returns-else-self
returns-else-self c =
    let s = c.self.inside in
    let full = c.self.invariant.full c.if-self.false in
    let is = by_cells_is s.by_runs s.cells s.runs.items s.words.items s.marks.items c.args.self.now c.if-self.false c.self.view_is in
    let count = length-by_cells s.cells s.words.items s.marks.items c.args.self.now full is in
    c.show_run.ensures s.cells (ap (λ (w : List ℕ). length w) c.deref-else-self-2.ensures.value ∙ full)
    ∙ ap (λ (all : List (Option ℕ)). pairs_shown (pairs_of c.args.run.now) all c.args.out.now)
    ((λ i. staged_cells (marks_of s.cells (c.deref-else-self.ensures.value i)) (c.deref-else-self-2.ensures.value i)) ∙ is)
