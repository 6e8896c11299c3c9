use Rattle.std.proofs.Common.{◌≡◌, ◌∙◌, ap, sym, subst, ◌+◌, ◌-◌, arith, pos, ◌+ℤ◌, ◌*ℤ◌, ◌≤ℤ◌, Some, to_z, of_z, w64, FitsSigned, rules}
use Rattle.std.proofs.lemmas.Int.{to_z-of_z}
use Rattle.cells.specs.Runs.{Pair}
use Rattle.strided_runs.specs.Growing.{Grown}
use Rattle.strided_runs.specs.Growing.{IsUpTo}
use Rattle.strided_runs.proofs.GrowingLaws.{up_to-more}
use Rattle.strided_runs.proofs.GrowingLines.{line-more, line-whole, lengthened}
use Rattle.strided_runs.proofs.growing.Growing.push_line.Goals as goal

pub view_along-next-requires : goal.view_along-next-requires
view_along-next-requires c = c.requires.small c.loop-k.k (omega arith)

pub place_along-requires : goal.place_along-requires
place_along-requires c =
    let fits : FitsSigned w64 c.args.step = search rules in
    let stored = to_z-of_z w64 c.args.step fits in
    rw stored (c.requires.places c.loop-k.k (omega arith))

pub loop-k-preserved : goal.loop-k-preserved
loop-k-preserved c =
    let q : Pair = record { view = c.view_along-next.result; chunk = c.place_along.result } in
    let up : IsUpTo (c.view_along-next.result + 1) c.push.new.self = subst (IsUpTo (c.view_along-next.result + 1)) (sym c.in_ok-push.ensures.ok) (up_to-more (Some c.loop-k.self) q (omega arith)) in
    record {
      pairs = c.in_ok-push.ensures.ok ∙ line-more c.args.view c.args.view_step c.args.chunk (to_z w64 (of_z w64 c.args.step)) c.loop-k.self c.args.self.now c.loop-k.k q c.loop-k.invariant.pairs (λ i. record { view = c.view_along-next.ensures i; chunk = c.place_along.ensures i });
      before = omega (arith, up);
    }

pub returns : goal.returns
returns c =
    let fits : FitsSigned w64 c.args.step = search rules in
    let stored = to_z-of_z w64 c.args.step fits in
    let so_far = (rw stored at c.loop-k.invariant.pairs) in
    let some = c.min-some.result in
    let k : c.loop-k.k ≡ some = omega (arith, c.loop-k.auto.k-end) in
    ap (λ (g : Grown). lengthened (c.args.len - some) g) c.self.view_is
    ∙ line-whole c.args.view c.args.view_step c.args.chunk c.args.step c.loop-k.self c.args.self.now c.args.len some c.loop-k.k (omega arith) (λ j lt. subst (λ i. pos 0 ≤ℤ (pos c.args.chunk +ℤ c.args.step *ℤ pos i)) (let e : j ≡ 0 + j = omega arith in e) (c.requires.places j lt).0) c.min-some.ensures k so_far
