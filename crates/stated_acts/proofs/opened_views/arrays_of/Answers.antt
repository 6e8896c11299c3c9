use Rattle.std.proofs.Common.{◌≡◌, ◌∙◌, ◌<◌, [], ◌∷◌, Some, None, length, take, get_or, refl, sym, ap, arith}
use Rattle.std.proofs.lemmas.Option.{slice_get_read, slice_get-get_or}
use Rattle.stated_arrays.specs.Leaves.{IsSoundLeaf}
use Rattle.stated_arrays.specs.Takings.{all_refs}
use Rattle.stated_arrays.specs.Transcript.{mount}
use Rattle.stated_acts.proofs.OpenedLaws.{each_at, refs, arrays_more, arrays_lack, refs_all, given_at}
use Rattle.stated_acts.proofs.opened_views.arrays_of.Goals as goal

pub array_of-requires-clause-leaf : goal.array_of-requires-clause-leaf
array_of-requires-clause-leaf c =
    let leaves = c.args.leaves.now in
    let leaf = c.index-leaves-place.result in
    let low : c.loop-place.place < length leaves = omega arith in
    each_at (IsSoundLeaf (mount ∷ [])) leaves c.loop-place.place leaf (slice_get_read leaves (length leaves) c.loop-place.place leaf refl low c.index-leaves-place.is) c.requires.leaves

pub array_of-requires-clause-given : goal.array_of-requires-clause-given
array_of-requires-clause-given c =
    let leaves = c.args.leaves.now in
    let numbers = c.args.takings.now in
    let place = c.loop-place.place in
    let leaf = c.index-leaves-place.result in
    let low : place < length leaves = omega arith in
    let taken : place < length numbers = omega (arith, c.requires.count) in
    given_at c.args.openings.now.events leaves numbers place leaf (get_or numbers place None) (slice_get_read leaves (length leaves) place leaf refl low c.index-leaves-place.is)
    (slice_get-get_or numbers place None taken) c.requires.given

pub loop-place-preserved : goal.loop-place-preserved
loop-place-preserved c =
    let leaves = c.args.leaves.now in
    let numbers = c.args.takings.now in
    let place = c.loop-place.place in
    let leaf = c.index-leaves-place.result in
    let low : place < length leaves = omega arith in
    let taken : place < length numbers = omega (arith, c.requires.count) in
    arrays_more c.args.openings.now.events leaves numbers place leaf (get_or numbers place None) c.loop-place.arrays.items c.in-Some.array
    (slice_get_read leaves (length leaves) place leaf refl low c.index-leaves-place.is) (slice_get-get_or numbers place None taken)
    (c.in_ok-array.ensures ∙ c.in-Some.is) c.loop-place.invariant
    ∙ ap Some (sym c.in_ok-push-in-Some.ensures.items)

pub returns-in-None : goal.returns-in-None
returns-in-None c =
    let leaves = c.args.leaves.now in
    let numbers = c.args.takings.now in
    let place = c.loop-place.place in
    let leaf = c.index-leaves-place.result in
    let low : place < length leaves = omega arith in
    let taken : place < length numbers = omega (arith, c.requires.count) in
    arrays_lack c.args.openings.now.events leaves numbers place leaf (get_or numbers place None)
    (slice_get_read leaves (length leaves) place leaf refl low c.index-leaves-place.is) (slice_get-get_or numbers place None taken)
    (c.in_ok-array.ensures ∙ c.in-None.is)

pub returns : goal.returns
returns c =
    let all = refs c.args.openings.now.events c.args.leaves.now c.args.takings.now in
    let done : length c.args.leaves.now ≡ c.loop-place.place = omega arith in
    ap all_refs (sym (refs_all c.args.openings.now.events c.args.leaves.now c.args.takings.now) ∙ ap (λ m. take m all) done) ∙ c.loop-place.invariant
