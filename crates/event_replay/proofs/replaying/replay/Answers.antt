use Rattle.std.proofs.Common.{◌≡◌, ◌∙◌, ◌+◌, ◌<◌, ◌≤◌, [], ◌∷◌, ◌++◌, List, length, take, drop, true, false, refl, sym, ap, subst, arith}
use Rattle.std.specs.FinMap as finmap
use Rattle.std.proofs.lemmas.List.{take_all, take_more, drop_all}
use Rattle.history.specs.declared.event.Op.{Op}
use Rattle.history.specs.Content.{world_after}
use Rattle.history.specs.Legal.{AreReads}
use Rattle.event_replay.specs.Replays.{IsBehind}
use Rattle.event_replay.proofs.OpLaws.{reads_step, first_right, op_at}
use Rattle.event_replay.proofs.Places.{drop_step}
use Rattle.event_replay.proofs.replaying.replay.Goals as goal

pub loop-i-init : goal.loop-i-init
loop-i-init c = λ h behind may. (behind, (λ x. x, λ x. x))

pub replay_op-requires : goal.replay_op-requires
replay_op-requires c =
    let h = c.requires.0 in
    let low : c.loop-i.i < length c.args.ops.now = omega arith in
    (h, take c.loop-i.i c.args.ops.now, (c.loop-i.invariant h c.requires.1 c.requires.2).0, op_at h c.args.ops.now c.loop-i.i c.index-ops-i.result c.requires.2 low c.index-ops-i.is)

pub loop-i-preserved : goal.loop-i-preserved
loop-i-preserved c = λ h behind all.
    let ops = c.args.ops.now in
    let i = c.loop-i.i in
    let op = c.index-ops-i.result in
    let low : i < length ops = omega arith in
    let inv = c.loop-i.invariant h behind all in
    let may = op_at h ops i op all low c.index-ops-i.is in
    let has = (c.in_ok-replay_op.ensures.reads h (take i ops) inv.0 may).0 c.if-not-branch.false in
    let more : take i ops ++ op ∷ [] ≡ take (i + 1) ops = ap (λ (o : Op). take i ops ++ o ∷ []) c.index-ops-i.is ∙ sym (take_more ops i op low) in
    let rest : drop i ops ≡ op ∷ drop (i + 1) ops = drop_step ops i op low ∙ ap (λ (o : Op). o ∷ drop (i + 1) ops) (sym c.index-ops-i.is) in
    let W = world_after finmap.empty h in
    let step = reads_step h (take i ops) op (drop (i + 1) ops) has in (
      subst (λ (os : List Op). IsBehind h c.args.number os c.replay_op.new.store) more (c.in_ok-replay_op.ensures.kept c.if-not-branch.false h (take i ops) inv.0 may),
      (
        λ x. subst (λ (os : List Op). AreReads W os (drop (i + 1) ops)) more (step.0 (subst (λ (os : List Op). AreReads W (take i ops) os) rest (inv.1.0 x))),
        λ y. inv.1.1 (subst (λ (os : List Op). AreReads W (take i ops) os) (sym rest) (step.1 (subst (λ (os : List Op). AreReads W os (drop (i + 1) ops)) (sym more) y))),
      ),
    )

pub returns-then-not-branch-clause-reads : goal.returns-then-not-branch-clause-reads
returns-then-not-branch-clause-reads c = λ h behind all.
    let ops = c.args.ops.now in
    let i = c.loop-i.i in
    let op = c.index-ops-i.result in
    let low : i < length ops = omega arith in
    let inv = c.loop-i.invariant h behind all in
    let may = op_at h ops i op all low c.index-ops-i.is in
    let rest : drop i ops ≡ op ∷ drop (i + 1) ops = drop_step ops i op low ∙ ap (λ (o : Op). o ∷ drop (i + 1) ops) (sym c.index-ops-i.is) in
    let W = world_after finmap.empty h in (
      λ so. absurd (let clash : false ≡ true = so in cc),
      λ x. let here = (c.in_ok-replay_op.ensures.reads h (take i ops) inv.0 may).1 (first_right h (take i ops) op (drop (i + 1) ops) (subst (λ (os : List Op). AreReads W (take i ops) os) rest (inv.1.0 x))) in
          absurd (let isnt = c.if-not-branch.true in cc),
    )

pub returns-clause-reads : goal.returns-clause-reads
returns-clause-reads c = λ h behind all.
    let ops = c.args.ops.now in
    let past : length ops ≤ c.loop-i.i = omega arith in
    let inv = c.loop-i.invariant h behind all in
    let W = world_after finmap.empty h in
    (λ so. inv.1.1 (subst (λ (os : List Op). AreReads W (take c.loop-i.i ops) os) (sym (drop_all c.loop-i.i ops past)) tt), λ x. refl)

pub returns-clause-kept : goal.returns-clause-kept
returns-clause-kept c = λ so h behind all.
    let ops = c.args.ops.now in
    let past : length ops ≤ c.loop-i.i = omega arith in
    subst (λ (os : List Op). IsBehind h c.args.number os c.loop-i.store) (take_all c.loop-i.i ops past) (c.loop-i.invariant h behind all).0
