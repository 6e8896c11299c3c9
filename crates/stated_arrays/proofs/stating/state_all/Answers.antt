use Rattle.std.proofs.Common.{◌≡◌, ◌<◌, true, false, Some, length, get_or, refl, sym, ap, subst, ◌∙◌, arith}
use Rattle.std.proofs.lemmas.Option.{slice_get_read}
use Rattle.stated_arrays.specs.Stating.{IsStatedNext}
use Rattle.stated_arrays.proofs.Next.{spot_at, sound_at, sound_set, stated_next, none_next}
use Rattle.stated_arrays.proofs.StepLaws.{IsStatedTo, stated_first, stated_all}
use Rattle.stated_arrays.proofs.stating.state_all.Goals as goal

pub loop-spot-init : goal.loop-spot-init
loop-spot-init c = record {
  stated = subst (IsStatedTo c.args.said.now c.args.lines.now c.args.lines.now 0) (sym c.requires.first) (stated_first c.args.said.now c.args.spots.now c.args.lines.now c.requires.table c.requires.fresh);
  arrays = c.requires.arrays;
  sound = c.requires.sound;
}

pub offset_bounds-lines-place : goal.offset_bounds-lines-place
offset_bounds-lines-place c =
    let low : c.loop-spot.spot-index < length c.args.spots.now = omega arith in
    let within = (spot_at c.args.said.now c.args.spots.now c.loop-spot.spot-index c.requires.table low).within in
    omega (arith, within, c.requires.count)

pub bounds-lines-place : goal.bounds-lines-place
bounds-lines-place c =
    let low : c.loop-spot.spot-index < length c.args.spots.now = omega arith in
    let within = (spot_at c.args.said.now c.args.spots.now c.loop-spot.spot-index c.requires.table low).within in
    omega (arith, within, c.requires.count)

pub offset_bounds-said-place : goal.offset_bounds-said-place
offset_bounds-said-place c =
    let low : c.loop-spot.spot-index < length c.args.spots.now = omega arith in
    let within = (spot_at c.args.said.now c.args.spots.now c.loop-spot.spot-index c.requires.table low).within in
    omega (arith, within)

pub bounds-said-place : goal.bounds-said-place
bounds-said-place c =
    let low : c.loop-spot.spot-index < length c.args.spots.now = omega arith in
    let within = (spot_at c.args.said.now c.args.spots.now c.loop-spot.spot-index c.requires.table low).within in
    omega (arith, within)

pub state_next-requires-clause-sound : goal.state_next-requires-clause-sound
state_next-requires-clause-sound c =
    let k = get_or c.args.spots.now c.loop-spot.spot-index 0 in
    let low : c.loop-spot.spot-index < length c.args.spots.now = omega arith in
    let within = (spot_at c.args.said.now c.args.spots.now c.loop-spot.spot-index c.requires.table low).within in
    let inside : k < length c.loop-spot.lines = omega (arith, within, c.requires.count) in
    let m = get_or c.loop-spot.lines k c.index-lines-place.result in
    sound_at c.loop-spot.lines k m c.loop-spot.invariant.sound (slice_get_read c.loop-spot.lines (length c.loop-spot.lines) k c.index-lines-place.result refl inside c.index-lines-place.is ∙ ap Some c.index-lines-place.is)

pub returns-then-not-is_stated-clause-stated : goal.returns-then-not-is_stated-clause-stated
returns-then-not-is_stated-clause-stated c =
    let said = c.args.said.now in
    let i = c.loop-spot.spot-index in
    let k = get_or c.args.spots.now i 0 in
    let low : i < length c.args.spots.now = omega arith in
    let spot = spot_at said c.args.spots.now i c.requires.table low in
    let within = spot.within in
    let inside : k < length c.loop-spot.lines = omega (arith, within, c.requires.count) in
    let m = get_or c.loop-spot.lines k c.index-lines-place.result in
    let down : c.in_ok-is_stated.is_stated ≡ false = cc in
    none_next said c.args.spots.now c.args.lines.now c.loop-spot.lines i c.loop-spot.arrays c.state_next.new.arrays c.requires.table c.loop-spot.invariant.stated k c.index-said-place.result m spot.there
    (slice_get_read said (length said) k c.index-said-place.result refl within c.index-said-place.is)
    (slice_get_read c.loop-spot.lines (length c.loop-spot.lines) k c.index-lines-place.result refl inside c.index-lines-place.is ∙ ap Some c.index-lines-place.is) c.state_next.new.line
    (subst (IsStatedNext c.index-said-place.result c.loop-spot.arrays c.state_next.new.arrays m c.state_next.new.line) down c.in_ok-is_stated.ensures.stated)

pub loop-spot-preserved : goal.loop-spot-preserved
loop-spot-preserved c =
    let said = c.args.said.now in
    let i = c.loop-spot.spot-index in
    let k = get_or c.args.spots.now i 0 in
    let low : i < length c.args.spots.now = omega arith in
    let spot = spot_at said c.args.spots.now i c.requires.table low in
    let within = spot.within in
    let inside : k < length c.loop-spot.lines = omega (arith, within, c.requires.count) in
    let m = get_or c.loop-spot.lines k c.index-lines-place.result in
    let up : c.in_ok-is_stated.is_stated ≡ true = cc in
    record {
      stated = stated_next said c.args.spots.now c.args.lines.now c.loop-spot.lines i c.loop-spot.arrays c.state_next.new.arrays c.requires.table c.loop-spot.invariant.stated k c.index-said-place.result m spot.there
          (slice_get_read said (length said) k c.index-said-place.result refl within c.index-said-place.is)
          (slice_get_read c.loop-spot.lines (length c.loop-spot.lines) k c.index-lines-place.result refl inside c.index-lines-place.is ∙ ap Some c.index-lines-place.is) c.state_next.new.line
          (subst (IsStatedNext c.index-said-place.result c.loop-spot.arrays c.state_next.new.arrays m c.state_next.new.line) up c.in_ok-is_stated.ensures.stated);
      arrays = c.in_ok-is_stated.ensures.arrays;
      sound = sound_set c.loop-spot.lines k c.state_next.new.line c.loop-spot.invariant.sound c.state_next.ensures.sound;
    }

pub returns-clause-stated : goal.returns-clause-stated
returns-clause-stated c =
    let all : length c.args.spots.now ≡ c.loop-spot.spot-index = omega arith in
    stated_all c.args.said.now c.args.spots.now c.args.lines.now c.loop-spot.lines c.loop-spot.spot-index c.loop-spot.arrays.events.items c.requires.table c.loop-spot.invariant.stated all
