use Rattle.std.proofs.Common.{ℕ, List, arith, subst, sym}
use Rattle.index_transform.specs.Cells.{cells_of}
use Rattle.stack_driver.specs.Views.{look_of}
use Rattle.stack_targets.specs.Buffers.{told_landings}
use Rattle.stack_targets.specs.Landings.{leaves_of}
use Rattle.transaction_cells.specs.Pieces.{AreCells}
use Rattle.transaction_cells.specs.Sites.{sites_of}
use Rattle.transaction_cells.proofs.ToldLaws.{all_landed, cells_told, length-landings, has_sites}
use Rattle.transaction_cells.proofs.locating.cell_by_cell.Goals as goal

pub cut-requires-clause-few : goal.cut-requires-clause-few
cut-requires-clause-few c =
    let v = c.args.v.now in
    let all = all_landed v (cells_of (look_of v).dims) 0 (told_landings (leaves_of v) c.in_ok-t.t.leaves c.in_ok-t.t.numbers) c.in_ok-t.ensures.landings in
    let count = length-landings (leaves_of v) c.in_ok-t.t.leaves c.in_ok-t.t.numbers in
    let few = c.requires.few in
    let same = all.1 in
    omega (arith, same, count, few)

pub cut-requires-clause-landed : goal.cut-requires-clause-landed
cut-requires-clause-landed c =
    let v = c.args.v.now in
    (all_landed v (cells_of (look_of v).dims) 0 (told_landings (leaves_of v) c.in_ok-t.t.leaves c.in_ok-t.t.numbers) c.in_ok-t.ensures.landings).0

pub returns-clause-cells : goal.returns-clause-cells
returns-clause-cells c =
    let v = c.args.v.now in
    let landed = (all_landed v (cells_of (look_of v).dims) 0 (told_landings (leaves_of v) c.in_ok-t.t.leaves c.in_ok-t.t.numbers) c.in_ok-t.ensures.landings).0 in
    subst (λ (ls : List ℕ). AreCells (sites_of v) (record { leaves = ls; lanes = c.in_ok-lanes.lanes; pieces = c.in_ok-lanes.pieces })) (sym c.each.ensures)
    (cells_told v c.in_ok-t.t.leaves c.in_ok-t.t.numbers c.in_ok-lanes.pieces c.in_ok-lanes.lanes c.in_ok-lanes.ensures.ranks landed c.in_ok-t.ensures.landings c.in_ok-lanes.ensures.lanes c.in_ok-lanes.ensures.pieces)

pub returns-clause-sites : goal.returns-clause-sites
returns-clause-sites c =
    let v = c.args.v.now in
    has_sites v (told_landings (leaves_of v) c.in_ok-t.t.leaves c.in_ok-t.t.numbers) c.in_ok-t.ensures.landings c.in_ok-lanes.ensures.ranks c.requires.view
