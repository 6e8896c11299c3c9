use Rattle.std.proofs.Common.{◌∙◌, ◌∷◌, ◌++◌, [], List, map, sym, ap, append_assoc, append-nil, arith}
use Rattle.std.proofs.lemmas.List.{map-append}
use Rattle.cast_driver.specs.declared.cast.Cast.{Cast}
use Rattle.transaction_cells.specs.Lanes.{LaneSeen}
use Rattle.event_replay.proofs.Places.{none_left}
use Rattle.event_replay.proofs.locating.chains_of.Goals as goal

pub loop-lane-init : goal.loop-lane-init
loop-lane-init c = record {
  casts = c.new-chains.ensures.items;
  rest = sym (c.into_iter-lane-iterator.ensures.into_iter_gives.0 ∙ c.into_inner-lane-items.ensures);
}

pub loop-lane-preserved : goal.loop-lane-preserved
loop-lane-preserved c = record {
  casts = c.in_ok-push.ensures.items ∙ ap (λ (lane : LaneSeen). c.loop-lane.chains.items ++ lane.casts ∷ []) c.lane.view_is ∙ ap (λ (l : List (List Cast)). l ++ c.in-Some.lane.casts ∷ []) c.loop-lane.invariant.casts ∙ sym (map-append (λ (lane : LaneSeen). lane.casts) c.loop-lane.yielded (c.in-Some.lane ∷ []));
  rest = c.loop-lane.invariant.rest ∙ ap (λ (xs : List LaneSeen). c.loop-lane.yielded ++ xs) c.in-Some.ensures.steps.0 ∙ sym (append_assoc c.loop-lane.yielded (c.in-Some.lane ∷ []) _);
}

pub returns : goal.returns
returns c =
    let all = c.loop-lane.invariant.rest ∙ ap (λ (xs : List LaneSeen). c.loop-lane.yielded ++ xs) (none_left c.loop-lane.lane-iterator.rest.items (omega (arith, c.in-None.ensures.steps.0))) ∙ append-nil c.loop-lane.yielded in
    c.loop-lane.invariant.casts ∙ ap (map (λ (lane : LaneSeen). lane.casts)) (sym all)
