use Rattle.std.proofs.Common.{◌≡◌, ◌∙◌, ◌+◌, ◌<◌, ◌≤◌, [], ◌∷◌, ◌++◌, List, length, take, drop, true, false, refl, sym, ap, subst, arith}
use Rattle.std.specs.FinMap as finmap
use Rattle.std.specs.List.{AllByRecursion}
use Rattle.std.proofs.lemmas.List.{take_all, take_more, drop_all}
use Rattle.std.proofs.lemmas.List.Elements.{All-more, All-from_recursion, recursion_from_All}
use Rattle.history.specs.declared.event.Op.{Op}
use Rattle.history.specs.Content.{world_after}
use Rattle.history.specs.Legal.{AreReads, IsLegalOp}
use Rattle.event_replay.specs.Replays.{IsBehind}
use Rattle.event_replay.specs.Sweeps.{IsNextOp, IsOpIn}
use Rattle.event_replay.proofs.FollowLaws.{one_of}
use Rattle.event_replay.proofs.OpLaws.{reads_step, first_right}
use Rattle.event_replay.proofs.Places.{drop_step}
use Rattle.event_replay.proofs.following.commit.Goals as goal

pub loop-i-init : goal.loop-i-init
loop-i-init c = λ events before next. (tt, next.behind, (λ x. x, λ x. x))

pub follow-requires : goal.follow-requires
follow-requires c =
    let events = c.requires.0 in
    let before = c.requires.1 in
    let next = c.requires.2 in
    let ops = c.args.ops.now in
    let low : c.loop-i.i < length ops = omega arith in (
      events,
      before,
      take c.loop-i.i ops,
      record { front = next.front; in_history = one_of (IsOpIn events) ops c.loop-i.i c.index-ops-i.result next.each low c.index-ops-i.is; behind = (c.loop-i.invariant events before next).1 },
    )

pub loop-i-preserved : goal.loop-i-preserved
loop-i-preserved c = λ events before next.
    let ops = c.args.ops.now in
    let i = c.loop-i.i in
    let op = c.index-ops-i.result in
    let low : i < length ops = omega arith in
    let inv = c.loop-i.invariant events before next in
    let at : IsNextOp events before c.args.opened c.args.number (take i ops) op c.loop-i.store = record { front = next.front; in_history = one_of (IsOpIn events) ops i op next.each low c.index-ops-i.is; behind = inv.1 } in
    let right = (c.in_ok-follow.ensures.legal events before (take i ops) at).0 c.if-not-branch.false in
    let P = IsLegalOp before in
    let more : take i ops ++ op ∷ [] ≡ take (i + 1) ops = ap (λ (o : Op). take i ops ++ o ∷ []) c.index-ops-i.is ∙ sym (take_more ops i op low) in
    let rest : drop i ops ≡ op ∷ drop (i + 1) ops = drop_step ops i op low ∙ ap (λ (o : Op). o ∷ drop (i + 1) ops) (sym c.index-ops-i.is) in
    let W = world_after finmap.empty before in
    let step = reads_step before (take i ops) op (drop (i + 1) ops) right.has in (
      recursion_from_All P (take (i + 1) ops) (All-more P ops i op low (All-from_recursion P (take i ops) inv.0) (subst P c.index-ops-i.is right.legal)),
      subst (λ (os : List Op). IsBehind before c.args.number os c.follow.new.store) more (c.in_ok-follow.ensures.kept c.if-not-branch.false events before (take i ops) at),
      (
        λ x. subst (λ (os : List Op). AreReads W os (drop (i + 1) ops)) more (step.0 (subst (λ (os : List Op). AreReads W (take i ops) os) rest (inv.2.0 x))),
        λ y. inv.2.1 (subst (λ (os : List Op). AreReads W (take i ops) os) (sym rest) (step.1 (subst (λ (os : List Op). AreReads W os (drop (i + 1) ops)) (sym more) y))),
      ),
    )

pub returns-then-not-branch-clause-legal : goal.returns-then-not-branch-clause-legal
returns-then-not-branch-clause-legal c = λ events before next.
    let ops = c.args.ops.now in
    let i = c.loop-i.i in
    let op = c.index-ops-i.result in
    let low : i < length ops = omega arith in
    let inv = c.loop-i.invariant events before next in
    let rest : drop i ops ≡ op ∷ drop (i + 1) ops = drop_step ops i op low ∙ ap (λ (o : Op). o ∷ drop (i + 1) ops) (sym c.index-ops-i.is) in
    let W = world_after finmap.empty before in (
      λ so. absurd (let clash : false ≡ true = so in cc),
      λ legal.
          let here = (c.in_ok-follow.ensures.legal events before (take i ops) (record { front = next.front; in_history = one_of (IsOpIn events) ops i op next.each low c.index-ops-i.is; behind = inv.1 })).1
          (record {
            legal = one_of (IsLegalOp before) ops i op legal.each low c.index-ops-i.is;
            has = first_right before (take i ops) op (drop (i + 1) ops) (subst (λ (os : List Op). AreReads W (take i ops) os) rest (inv.2.0 legal.reads));
          }) in
          absurd (let isnt = c.if-not-branch.true in cc),
    )

pub returns-clause-legal : goal.returns-clause-legal
returns-clause-legal c = λ events before next.
    let ops = c.args.ops.now in
    let past : length ops ≤ c.loop-i.i = omega arith in
    let inv = c.loop-i.invariant events before next in
    let W = world_after finmap.empty before in (
      λ so. record {
        each = subst (AllByRecursion (IsLegalOp before)) (take_all c.loop-i.i ops past) inv.0;
        reads = inv.2.1 (subst (λ (os : List Op). AreReads W (take c.loop-i.i ops) os) (sym (drop_all c.loop-i.i ops past)) tt);
      },
      λ legal. refl,
    )

pub returns-clause-kept : goal.returns-clause-kept
returns-clause-kept c = λ so events before next.
    let ops = c.args.ops.now in
    let past : length ops ≤ c.loop-i.i = omega arith in
    subst (λ (os : List Op). IsBehind before c.args.number os c.loop-i.store) (take_all c.loop-i.i ops past) (c.loop-i.invariant events before next).1
