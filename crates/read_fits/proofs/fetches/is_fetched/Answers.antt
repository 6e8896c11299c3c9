use Rattle.read_fits.proofs.FetchLaws.{fetched_is, infos_kept, known_at}
use Rattle.read_fits.proofs.SeenFits.{can_locate_there, can_stage_there}
use Rattle.read_fits.proofs.fetches.is_fetched.Goals as goal

pub located-requires : goal.located-requires
located-requires c = can_locate_there c.requires.own.0 c.requires.own.1 c.args.view.now c.requires.own.4

pub has_fetched-requires-clause-cells : goal.has_fetched-requires-clause-cells
has_fetched-requires-clause-cells c =
    can_stage_there c.requires.own.0 c.requires.own.1 c.args.view.now c.requires.own.2.ops c.args.own.now.staging c.in_ok-cells.cells c.requires.own.4 c.in_ok-cells.ensures.sites c.in_ok-cells.ensures.cells c.requires.own.5.writes

pub has_fetched-requires-clause-known : goal.has_fetched-requires-clause-known
has_fetched-requires-clause-known c = λ i d low.
    known_at c.requires.own.0 c.args.openings.now.events c.requires.own.3 c.requires.own.1 c.args.view.now c.requires.own.2 c.args.own.now.staging c.args.own.now.reads.set.keys c.in_ok-cells.cells c.requires.own.4 c.requires.own.5 c.in_ok-cells.ensures.sites c.in_ok-cells.ensures.cells i d low

pub has_fetched-requires-clause-infos : goal.has_fetched-requires-clause-infos
has_fetched-requires-clause-infos c =
    infos_kept c.args.openings.now.events c.args.openings.now.opened c.args.openings.now.places c.requires.openings

pub returns : goal.returns
returns c = λ h upto t same is own.
    let law = fetched_is h c.args.openings.now.events same upto c.args.view.now t c.args.own.now.staging c.args.own.now.reads.set.keys c.in_ok-cells.cells is own c.in_ok-cells.ensures.sites c.in_ok-cells.ensures.cells in
    (λ so. law.0 (c.has_fetched.ensures.0 so), λ fetched. c.has_fetched.ensures.1 (law.1 fetched))
