use Rattle.std.proofs.Common.{◌≡◌, ◌<◌, length, take, refl, subst, arith}
use Rattle.std.proofs.lemmas.Option.{slice_get_read}
use Rattle.history.specs.Places.{IsTable}
use Rattle.open_fits.proofs.AskingLaws.{table_next}
use Rattle.open_fits.proofs.asking.place_until.Goals as goal

pub loop-n-init : goal.loop-n-init
loop-n-init c = c.requires.table

pub loop-n-preserved : goal.loop-n-preserved
loop-n-preserved c =
    let events = c.args.events.now in
    let n = c.loop-n.n in
    let event = c.index-events-n.result in
    let within = c.requires.within in
    let low : n < length events = omega (arith, within) in
    let at = slice_get_read events (length events) n event refl low c.index-events-n.is in
    table_next events c.place_next.new.places n event at (c.in_ok-place_next.ensures.next (take n events) c.loop-n.invariant)

pub returns : goal.returns
returns c =
    let order = c.requires.order in
    let done : c.loop-n.n ≡ c.args.upto = omega (arith, order) in
    subst (λ m. IsTable (take m c.args.events.now) c.loop-n.places) done c.loop-n.invariant
