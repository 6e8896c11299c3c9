use Rattle.std.proofs.Common.{Option, take, sym, subst}
use Rattle.line_fits.specs.Demands.{TellsSeen}
use Rattle.line_fits.specs.declared.Demand.{Demand}
use Rattle.history.specs.Sessions.{reader}
use Rattle.read_fits.specs.ReadFits.{IsSeenFit, window_at}
use Rattle.read_fits.specs.declared.reads.ReadFit.{ReadFit}
use Rattle.read_fits.proofs.SeenFits.{can_locate, late_unseen, never_seen, read_in, seen_if_met}
use Rattle.read_fits.proofs.reads.fit_words.Goals as goal

pub returns-then-spot : goal.returns-then-spot
returns-then-spot c = λ h t is. late_unseen h c.args.spot t c.args.view.now c.args.staging.now c.args.words.now is c.if-spot.true

pub located-requires : goal.located-requires
located-requires c = can_locate c.requires.read.0 c.args.spot c.requires.read.1 c.args.view.now c.args.staging.now c.requires.read.2

pub demand_of-requires : goal.demand_of-requires
demand_of-requires c =
    let h = c.requires.read.0 in
    let t = c.requires.read.1 in (
      take c.args.spot.upto h,
      (reader c.args.spot.line t).ops,
      c.args.view.now,
      read_in h c.args.spot t c.args.view.now c.args.staging.now c.args.words.now c.requires.read.2 c.in_ok-cells.cells c.in_ok-cells.ensures.sites c.in_ok-cells.ensures.cells c.requires.count,
    )

pub returns-in-Some : goal.returns-in-Some
returns-in-Some c = λ h t is.
    let told = subst (λ (found : Option Demand). TellsSeen c.in_ok-cells.cells c.args.staging.now c.args.words.now found) c.in-Some.is c.in_ok-found.ensures in
    subst (λ (f : ReadFit). IsSeenFit h (window_at c.args.spot) (reader c.args.spot.line t) c.args.view.now c.args.words.now f) (sym c.waiting_for.ensures)
    (seen_if_met h c.args.spot t c.args.view.now c.args.staging.now c.args.words.now is c.in_ok-cells.cells c.in_ok-cells.ensures.sites c.in_ok-cells.ensures.cells c.requires.count c.in-Some.demand c.if-spot.false told)

pub returns-in-None : goal.returns-in-None
returns-in-None c = λ h t is.
    let told = subst (λ (found : Option Demand). TellsSeen c.in_ok-cells.cells c.args.staging.now c.args.words.now found) c.in-None.is c.in_ok-found.ensures in
    never_seen h c.args.spot t c.args.view.now c.args.staging.now c.args.words.now is c.in_ok-cells.cells c.in_ok-cells.ensures.sites c.in_ok-cells.ensures.cells c.requires.count told
