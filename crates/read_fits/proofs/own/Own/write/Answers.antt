use Rattle.std.proofs.Common.{◌∙◌, subst, sym}
use Rattle.transaction_cells.specs.Staging.{CanStage}
use Rattle.read_fits.proofs.OwnLaws.{write_own}
use Rattle.read_fits.proofs.SeenFits.{can_locate_there, can_stage_there, cells_of_view}
use Rattle.read_fits.proofs.own.Own.write.Goals as goal

pub located-requires : goal.located-requires
located-requires c = can_locate_there c.requires.own.0 c.requires.own.1 c.args.view.now c.requires.own.3

pub stage-requires : goal.stage-requires
stage-requires c =
    subst (CanStage c.args.self.now.staging c.in_ok-cells.cells) (cells_of_view c.args.view.now c.in_ok-cells.cells c.in_ok-cells.ensures.sites c.in_ok-cells.ensures.cells ∙ sym c.requires.count)
    (can_stage_there c.requires.own.0 c.requires.own.1 c.args.view.now c.requires.own.2 c.args.self.now.staging c.in_ok-cells.cells c.requires.own.3 c.in_ok-cells.ensures.sites c.in_ok-cells.ensures.cells c.requires.own.4.writes)

pub returns : goal.returns
returns c = λ h upto ops is own.
    write_own h upto ops c.args.self.now.staging _ c.args.self.now.reads.set.keys c.args.view.now c.args.words.now own
    (c.in_ok-stage.ensures.history _ c.args.view.now ops is.leaves c.in_ok-cells.ensures.sites c.in_ok-cells.ensures.cells c.requires.typed own.writes)
