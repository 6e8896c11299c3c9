-- One pair more is taken to its place.
use Rattle.std.proofs.Common.{◌≡◌, ◌+◌, ◌-◌, ◌<◌, ◌∙◌, ℕ, refl, length, sym, subst, arith}
use Rattle.std.proofs.lemmas.Int.{ints}
use Rattle.rebase_writes.specs.Rising.{IsCopied}
use Rattle.rebase_writes.proofs.SpreadLaws.{copied_at}
use Rattle.rebase_writes.proofs.rising.spread_run.Goals as goal

pub loop-left-init : goal.loop-left-init
loop-left-init c = record { few = omega arith; copied = record { pairs = λ k above below. absurd (omega (arith, above, below)); others = λ place miss. (refl, refl) } }

pub mark-requires : goal.mark-requires
mark-requires c =
    let k = c.loop-left.left - 1 in
    let less : k < c.args.run.now.len = omega (arith, c.loop-left.invariant.few) in
    omega (arith, ints, c.pair_at-view.ensures.chunk, c.requires.inside.from_first k less, c.requires.inside.to_last k less, c.requires.room)

pub loop-left-preserved : goal.loop-left-preserved
loop-left-preserved c =
    let k = c.loop-left.left - 1 in
    let run = c.args.run.now in
    let less : k < run.len = omega (arith, c.loop-left.invariant.few) in
    let on : c.loop-left.left ≡ k + 1 = omega arith in
    let inside : c.pair_at-view.result.1 < length c.loop-left.words = omega (arith, ints, c.pair_at-view.ensures.chunk, c.requires.inside.from_first k less, c.requires.inside.to_last k less) in
    record {
      few = omega (arith, c.loop-left.invariant.few);
      copied = copied_at run k c.pair_at-view.result.0 c.pair_at-view.result.1 c.args.marks.now c.args.words.now c.loop-left.marks c.loop-left.words c.mark.new.marks
          c.pair_at-view.ensures.view c.pair_at-view.ensures.chunk c.requires.forward c.requires.ahead less inside
          (subst (λ m. IsCopied run m c.args.marks.now c.args.words.now c.loop-left.marks c.loop-left.words) on c.loop-left.invariant.copied)
          c.mark.ensures.here c.mark.ensures.others;
    }

pub returns : goal.returns
returns c = subst (λ m. IsCopied c.args.run.now m c.args.marks.now c.args.words.now c.loop-left.marks c.loop-left.words) (omega arith) c.loop-left.invariant.copied
