use Rattle.std.proofs.Common.{◌-◌, ◌^◌, refl, arith}
use Rattle.std.specs.Prelude.{slice_index}
use Rattle.chunk_laying.proofs.StartLaws.{no_start, starts-at, starts-from}
use Rattle.chunk_laying.proofs.asking.are_starts.Goals as goal

pub returns-then-chunk_shape-k : goal.returns-then-chunk_shape-k
returns-then-chunk_shape-k c = (
  λ holds. absurd (let no_such : ⊥ = cc in no_such),
  λ starts.
      absurd
      (no_start (slice_index c.args.chunk.now c.loop-k.k) (slice_index c.args.chunk_shape.now c.loop-k.k) (2 ^ 62 - 2) (c.requires.chunks.least c.loop-k.k c.loop-k-test.true) c.if-chunk_shape-k.true
      (starts-at c.args.chunk_shape.now c.args.chunk.now c.loop-k.k starts c.requires.rank c.loop-k-test.true)),
)

pub returns : goal.returns
returns c = (λ holds. starts-from c.args.chunk_shape.now c.args.chunk.now c.requires.rank (λ j lt. c.loop-k.invariant j (omega (arith, lt, c.loop-k-test.false))), λ starts. refl)
