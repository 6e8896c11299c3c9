use Rattle.std.proofs.Common.{◌≡◌, ◌<◌, length, get_or, None, arith}
use Rattle.std.proofs.lemmas.Option.{slice_get-get_or}
use Rattle.open_fits.proofs.Ends.{end_none, end_more, end_all}
use Rattle.open_fits.proofs.opens.taken_end.Goals as goal

pub loop-place-init : goal.loop-place-init
loop-place-init c = end_none c.args.takings.now

pub loop-place-preserved : goal.loop-place-preserved
loop-place-preserved c =
    let numbers = c.args.takings.now in
    let place = c.loop-place.place in
    let low : place < length numbers = omega arith in
    end_more numbers place c.loop-place.end c.end_behind-end.result (get_or numbers place None) (slice_get-get_or numbers place None low) c.loop-place.invariant c.end_behind-end.ensures.some c.end_behind-end.ensures.none

pub returns : goal.returns
returns c =
    let done : length c.args.takings.now ≡ c.loop-place.place = omega arith in
    end_all c.args.takings.now c.loop-place.place c.loop-place.end done c.loop-place.invariant
