use Rattle.std.proofs.Common.{◌≡◌, ◌∙◌, List, Some, sym, ap, subst, length}
use Rattle.cells.specs.declared.run.Run.{Run}
use Rattle.transaction_cells.specs.Found.{found}
use Rattle.transaction_cells.specs.Gathered.{FitsStaged}
use Rattle.transaction_cells.proofs.gathering.show_staged.Goals as goal

pub show_runs-requires : goal.show_runs-requires
show_runs-requires c =
    let p = c.args.piece.now in
    let there : found c.args.table.now.entries p.id ≡ Some c.in-Some.staged.now = ap (λ xs. found c.args.table.now.entries xs) (sym c.items.ensures) ∙ sym c.in-Some.ensures.value in
    subst (λ (rs : List Run). FitsStaged rs (length c.args.out.now) (Some c.in-Some.staged.now)) (sym c.items-in-Some.ensures) (subst (FitsStaged p.runs (length c.args.out.now)) there c.requires)
