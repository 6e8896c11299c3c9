use Rattle.std.proofs.Common.{◌∙◌, ◌+◌, ◌∷◌, ◌++◌, [], List, Vec, Global, sym, ap, subst, arith, drop}
use Rattle.std.proofs.lemmas.List.{drop_all}
use Rattle.strided_runs.specs.declared.lines.Loop.{Loop}
use Rattle.strided_runs.specs.Loops.{joined}
use Rattle.strided_runs.proofs.LineJoins.{AreSmall}
use Rattle.strided_runs.proofs.LineSteps.{turn-few, turn-product, turn-one, turn-apart, kept-turn-one, kept-turn-apart}
use Rattle.strided_runs.proofs.lines.join_from.Goals as goal
use Rattle.strided_runs.proofs.lines.join_from.Goals.{then-run_as_one, else-run_as_one+in_ok-push}

pub run_as_one-requires : goal.run_as_one-requires
run_as_one-requires c = turn-few c.args.loops.now c.loop-inner.inner-index c.loop-inner-test.true c.loop-inner.outer c.loop-inner.invariant.small

pub as_one-outer-requires : goal.as_one-outer-requires
as_one-outer-requires c =
    let few = turn-product c.args.loops.now c.loop-inner.inner-index c.loop-inner-test.true c.loop-inner.outer c.loop-inner.invariant.small (sym c.run_as_one.ensures ∙ c.if-run_as_one.true) in
    omega (arith, few)

pub loop-inner-init : goal.loop-inner-init
loop-inner-init c = record {
  same = ap (λ (kept : List Loop). kept ++ joined c.args.first c.args.loops.now) c.new-kept.ensures.items;
  small = record { run = c.requires.some; rise = c.requires.rise; small = omega (arith, c.requires.small) };
}

pub loop-inner-preserved : goal.loop-inner-preserved
loop-inner-preserved c =
    let all = c.args.loops.now in
    let i = c.loop-inner.inner-index in
    let kept = c.loop-inner.kept.items in
    let outer = c.loop-inner.outer in
    let h = c.loop-inner.invariant in
    elim c.if-run_as_one.branch [
      | then-run_as_one w ↦
          let on = sym c.run_as_one.ensures ∙ w.if-run_as_one.true in
          let is = w.outer-is ∙ w.as_one-outer.ensures in
          record {
            same =
                ap (λ (k : Vec Loop Global). k.items ++ joined c.if-run_as_one.outer (drop (i + 1) all)) w.kept-is
                ∙ ap (λ (l : Loop). kept ++ joined l (drop (i + 1) all)) is
                ∙ kept-turn-one all i c.loop-inner-test.true kept (joined c.args.first all) outer on h.same;
            small = subst (λ (l : Loop). AreSmall (l ∷ drop (i + 1) all) 0) (sym is) (turn-one all i c.loop-inner-test.true outer h.small on);
          }
      | else-run_as_one+in_ok-push w ↦
          let off = sym c.run_as_one.ensures ∙ w.if-run_as_one.false in
          record {
            same =
                ap (λ (k : Vec Loop Global). k.items ++ joined c.if-run_as_one.outer (drop (i + 1) all)) w.kept-is
                ∙ ap (λ (ks : List Loop). ks ++ joined c.if-run_as_one.outer (drop (i + 1) all)) w.in_ok-push.ensures.items
                ∙ ap (λ (l : Loop). (kept ++ outer ∷ []) ++ joined l (drop (i + 1) all)) w.outer-is
                ∙ kept-turn-apart all i c.loop-inner-test.true kept (joined c.args.first all) outer off h.same;
            small = subst (λ (l : Loop). AreSmall (l ∷ drop (i + 1) all) 0) (sym w.outer-is) (turn-apart all i c.loop-inner-test.true outer h.small);
          }
    ]

pub returns : goal.returns
returns c =
    c.in_ok-push-2.ensures.items
    ∙ sym (ap (λ (ls : List Loop). c.loop-inner.kept.items ++ joined c.loop-inner.outer ls) (drop_all c.loop-inner.inner-index c.args.loops.now (omega arith)))
    ∙ c.loop-inner.invariant.same
