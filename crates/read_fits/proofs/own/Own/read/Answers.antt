use Rattle.read_fits.proofs.OwnLaws.{read_own}
use Rattle.read_fits.proofs.SeenFits.{can_locate_there, can_stage_there}
use Rattle.read_fits.proofs.own.Own.read.Goals as goal

pub located-requires : goal.located-requires
located-requires c = can_locate_there c.requires.0 c.requires.1 c.args.view.now c.requires.3

pub add_needed-requires : goal.add_needed-requires
add_needed-requires c =
    can_stage_there c.requires.0 c.requires.1 c.args.view.now c.requires.2 c.args.self.now.staging c.in_ok-cells.cells c.requires.3 c.in_ok-cells.ensures.sites c.in_ok-cells.ensures.cells c.requires.4.writes

pub returns : goal.returns
returns c = λ h upto ops words is own.
    read_own h upto ops c.args.self.now.staging c.args.self.now.reads.set.keys _ c.args.view.now words c.in_ok-cells.cells is c.in_ok-cells.ensures.sites c.in_ok-cells.ensures.cells own c.in_ok-add_needed.ensures
