use Rattle.std.proofs.Common.{◌≡◌, ◌<◌, ◌≤◌, ℕ, None, length, get_or, take, take_all, sym, subst, arith}
use Rattle.transcript_cut.specs.Numbers.{all_numbers}
use Rattle.transcript_cut.specs.Numbered.{slot_after}
use Rattle.transcript_cut.specs.Slots.{AreSlots}
use Rattle.transcript_cut.specs.declared.said.Said.{Said}
use Rattle.transcript_cut.proofs.Slots.{slots_first, slots_more, got_at, taken_more}
use Rattle.transcript_cut.proofs.spots.put_all.Goals as goal

pub loop-spot-init : goal.loop-spot-init
loop-spot-init c = slots_first c.args.slots.now c.args.said.now c.requires

pub loop-spot-preserved : goal.loop-spot-preserved
loop-spot-preserved c =
    let said = c.args.said.now in
    let i = c.loop-spot.spot in
    let x = c.index-said-spot.result in
    let low : i < length said = omega arith in
    let same : length c.put_of.new.slots ≡ length c.loop-spot.slots = omega arith in
    let put = subst (λ (y : Said). (k : ℕ) → k < length c.loop-spot.slots → get_or c.put_of.new.slots k None ≡ slot_after (all_numbers y.numbers) i k (get_or c.loop-spot.slots k None)) (sym c.index-said-spot.is) c.put_of.ensures in
    subst (AreSlots c.put_of.new.slots said) (sym (taken_more said i x low c.index-said-spot.is))
    (slots_more c.loop-spot.slots c.put_of.new.slots said (take i said) x i same put (got_at said i x low c.index-said-spot.is) c.loop-spot.invariant)

pub returns : goal.returns
returns c =
    let said = c.args.said.now in
    let past : length said ≤ c.loop-spot.spot = omega arith in
    subst (AreSlots c.loop-spot.slots said) (take_all c.loop-spot.spot said past) c.loop-spot.invariant
