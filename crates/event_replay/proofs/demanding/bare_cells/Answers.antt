use Rattle.std.proofs.Common.{◌≡◌, ◌∙◌, ◌+◌, ◌<◌, ◌≤◌, ◌∷◌, ◌++◌, [], ℕ, List, Option, None, length, map, take, get_or, true, false, sym, ap, subst, arith}
use Rattle.std.proofs.lemmas.List.{take_all}
use Rattle.std.proofs.lemmas.List.Elements.{All-get_or}
use Rattle.cast_driver.specs.declared.cast.Cast.{Cast}
use Rattle.chunk_versions.specs.Marks.{no_cell}
use Rattle.chunk_versions.specs.declared.asked.AskedCell.{AskedCell}
use Rattle.transaction_cells.specs.Lanes.{LaneSeen}
use Rattle.event_replay.specs.Demands.{bare, AreCovered}
use Rattle.event_replay.proofs.Covered.{bare_more, covered_more, covered_at}
use Rattle.event_replay.proofs.demanding.bare_cells.Goals as goal

pub loop-i-init : goal.loop-i-init
loop-i-init c = record { rest = c.new-rest.ensures.items; covered = tt }

pub keep_bare-requires : goal.keep_bare-requires
keep_bare-requires c =
    let within : c.loop-i.i < length c.args.asked.now = omega arith in
    subst (λ (a : AskedCell). a.leaf < length c.args.lanes.now) (sym c.pair_of-word.ensures.cell) (All-get_or (λ (a : AskedCell). a.leaf < length c.args.lanes.now) c.args.asked.now c.loop-i.i no_cell within c.requires.lanes)

pub loop-i-preserved : goal.loop-i-preserved
loop-i-preserved c =
    let asked = c.args.asked.now in
    let own = c.args.own.now in
    let i = c.loop-i.i in
    let low : i < length asked = omega arith in
    let same = c.requires.same in
    let other : i < length own = omega (arith, low, same) in
    let casts = map (λ (lane : LaneSeen). lane.casts) c.args.lanes.now in
    record {
      rest = c.in_ok-keep_bare.ensures.kept
          ∙ (λ j. c.loop-i.invariant.rest j ++ bare (c.pair_of-word.ensures.cell j ∷ []) (c.pair_of-word.ensures.own j ∷ []))
          ∙ sym (bare_more asked own i low other);
      covered = covered_more casts asked own i low other c.loop-i.invariant.covered
          (subst (λ (a : AskedCell). AreCovered casts (a ∷ []) (get_or own i None ∷ [])) c.pair_of-word.ensures.cell
          (subst (λ (o : Option ℕ). AreCovered casts (c.pair_of-word.result.0 ∷ []) (o ∷ [])) c.pair_of-word.ensures.own (c.in_ok-keep_bare.ensures.covered.0 c.if-not-branch.false)));
    }

pub returns-then-not-branch : goal.returns-then-not-branch
returns-then-not-branch c = λ all.
    let asked = c.args.asked.now in
    let own = c.args.own.now in
    let i = c.loop-i.i in
    let low : i < length asked = omega arith in
    let same = c.requires.same in
    let other : i < length own = omega (arith, low, same) in
    let casts = map (λ (lane : LaneSeen). lane.casts) c.args.lanes.now in
    let here = c.in_ok-keep_bare.ensures.covered.1
    (subst (λ (a : AskedCell). AreCovered casts (a ∷ []) (c.pair_of-word.result.1 ∷ [])) (sym c.pair_of-word.ensures.cell)
    (subst (λ (o : Option ℕ). AreCovered casts (get_or asked i no_cell ∷ []) (o ∷ [])) (sym c.pair_of-word.ensures.own) (covered_at casts asked own i low other all))) in
    absurd (let isnt = c.if-not-branch.true in cc)

pub returns : goal.returns
returns c =
    let asked = c.args.asked.now in
    let own = c.args.own.now in
    let past : length asked ≤ c.loop-i.i = omega arith in
    let same = c.requires.same in
    let whole = take_all c.loop-i.i asked past in
    let other = take_all c.loop-i.i own (omega (arith, past, same)) in
    let casts = map (λ (lane : LaneSeen). lane.casts) c.args.lanes.now in (
      c.loop-i.invariant.rest ∙ (λ j. bare (whole j) (other j)),
      subst (λ (cells : List AskedCell). AreCovered casts cells own) whole (subst (λ (os : List (Option ℕ)). AreCovered casts (take c.loop-i.i asked) os) other c.loop-i.invariant.covered),
    )
