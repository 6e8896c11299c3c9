use Rattle.std.proofs.Common.{◌≡◌, ℕ, ◌+◌, ◌<◌, List, [], ◌++◌, ◌∷◌, length, take, set, sym, ap, ◌∙◌, arith, zero-add}
use Rattle.std.proofs.lemmas.List.{take_more_set}
use Rattle.std.proofs.lemmas.List.FromFn.{map-range_with_len_more}
use Rattle.std.proofs.Math.ListN.{length-set}
use Rattle.n5_blocks.specs.Faults.{size_in, sizes_in}
use Rattle.n5_blocks.proofs.faults.sizes_in.Goals as goal

sizes_more : (bytes buffer : List ℕ) (dim size : ℕ) → dim < length buffer → take dim buffer ≡ sizes_in dim bytes → size ≡ size_in bytes dim → take (dim + 1) (set buffer dim size) ≡ sizes_in (dim + 1) bytes
sizes_more bytes buffer dim size less so_far is =
    take_more_set buffer dim size less
    ∙ ap (λ l. l ++ size ∷ []) so_far
    ∙ ap (λ n. sizes_in dim bytes ++ n ∷ []) is
    ∙ sym (map-range_with_len_more (size_in bytes) 0 dim dim (zero-add dim))

pub loop-dim-preserved : goal.loop-dim-preserved
loop-dim-preserved c =
    let within : c.loop-dim.dim < length c.loop-dim.sizes = omega (arith, c.loop-dim.invariant.full, c.requires.rank, c.loop-dim-test.true) in
    record {
      so_far = sizes_more c.args.bytes.now c.loop-dim.sizes c.loop-dim.dim c.size_in.result within c.loop-dim.invariant.so_far c.size_in.ensures.value;
      full = length-set c.loop-dim.sizes c.loop-dim.dim c.size_in.result ∙ c.loop-dim.invariant.full;
    }
