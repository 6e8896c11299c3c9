use Rattle.std.proofs.Common.{◌≡◌, ◌+◌, ◌<◌, ◌∙◌, [], ◌∷◌, length, get_or, None, refl, sym, ap, subst, length-append, arith}
use Rattle.std.proofs.lemmas.Option.{slice_get_read, slice_get-get_or}
use Rattle.open_fits.specs.Opens.{IsSmall}
use Rattle.open_fits.specs.Settling.{IsArrayFor}
use Rattle.open_fits.proofs.AskingLaws.{all_at}
use Rattle.open_fits.proofs.Fronts.{given_here}
use Rattle.open_fits.proofs.Walked.{AreFirstFor, first_none, first_more, first_stop, first_all}
use Rattle.open_fits.proofs.settling.arrays_settled.Goals as goal

pub loop-place-init : goal.loop-place-init
loop-place-init c = record {
  first = first_none c.args.openings.now.events c.args.upto c.args.leaves.now c.args.takings.now c.in_ok-arrays.arrays.items c.in_ok-arrays.ensures.items;
  count = ap length c.in_ok-arrays.ensures.items;
}

pub array_settled-requires-clause-small : goal.array_settled-requires-clause-small
array_settled-requires-clause-small c =
    let leaves = c.args.leaves.now in
    let leaf = c.index-leaves-place.result in
    let low : c.loop-place.place < length leaves = omega arith in
    all_at IsSmall leaves c.loop-place.place leaf (slice_get_read leaves (length leaves) c.loop-place.place leaf refl low c.index-leaves-place.is) c.requires.small

pub array_settled-requires-clause-given : goal.array_settled-requires-clause-given
array_settled-requires-clause-given c =
    let leaves = c.args.leaves.now in
    let numbers = c.args.takings.now in
    let place = c.loop-place.place in
    let leaf = c.index-leaves-place.result in
    let low : place < length leaves = omega arith in
    let taken : place < length numbers = omega (arith, c.requires.count) in
    given_here c.args.openings.now.events leaves numbers place leaf (get_or numbers place None) (slice_get_read leaves (length leaves) place leaf refl low c.index-leaves-place.is)
    (slice_get-get_or numbers place None taken) c.requires.given

pub loop-place-preserved : goal.loop-place-preserved
loop-place-preserved c =
    let leaves = c.args.leaves.now in
    let numbers = c.args.takings.now in
    let place = c.loop-place.place in
    let leaf = c.index-leaves-place.result in
    let low : place < length leaves = omega arith in
    let taken : place < length numbers = omega (arith, c.requires.count) in
    let array = subst (IsArrayFor c.args.openings.now.events c.args.upto leaf (get_or numbers place None)) c.in-Some.is c.in_ok-array.ensures in
    let more = c.in_ok-push-in-Some.ensures.items in
    record {
      first =
          subst (AreFirstFor c.args.openings.now.events c.args.upto leaves numbers (place + 1)) (sym more)
          (first_more c.args.openings.now.events c.args.upto leaves numbers place c.loop-place.arrays.items leaf (get_or numbers place None) c.in-Some.array
          (slice_get_read leaves (length leaves) place leaf refl low c.index-leaves-place.is) (slice_get-get_or numbers place None taken) c.loop-place.invariant.count c.loop-place.invariant.first array);
      count = ap length more ∙ length-append c.loop-place.arrays.items (c.in-Some.array ∷ []) ∙ ap (λ n. n + 1) c.loop-place.invariant.count;
    }

pub returns-in-None : goal.returns-in-None
returns-in-None c =
    let leaves = c.args.leaves.now in
    let numbers = c.args.takings.now in
    let place = c.loop-place.place in
    let leaf = c.index-leaves-place.result in
    let low : place < length leaves = omega arith in
    let taken : place < length numbers = omega (arith, c.requires.count) in
    first_stop c.args.openings.now.events c.args.upto leaves numbers place c.loop-place.arrays.items leaf (get_or numbers place None)
    (slice_get_read leaves (length leaves) place leaf refl low c.index-leaves-place.is) (slice_get-get_or numbers place None taken) c.loop-place.invariant.count c.loop-place.invariant.first
    (subst (IsArrayFor c.args.openings.now.events c.args.upto leaf (get_or numbers place None)) c.in-None.is c.in_ok-array.ensures)

pub returns : goal.returns
returns c =
    let done : length c.args.leaves.now ≡ c.loop-place.place = omega arith in
    first_all c.args.openings.now.events c.args.upto c.args.leaves.now c.args.takings.now c.loop-place.place c.loop-place.arrays.items done c.loop-place.invariant.first
