use Rattle.std.proofs.Common.{rules, ◌≡◌, ◌<◌, [], ◌∷◌, ◌++◌, length, get_or, sym, ap, ◌∙◌, arith, below_more, length-append}
use Rattle.std.proofs.Math.Seq.{get_or-append_seam}
use Rattle.std.proofs.Math.ListN.{get_or-append}
use Rattle.std.proofs.lemmas.List.{ext_get_or}
use Rattle.n5_blocks.specs.Block.{cut_sizes}
use Rattle.n5_blocks.proofs.CutLaws.{length-cut_sizes, get_or-cut_sizes}
use Rattle.n5_blocks.proofs.chunk.cut_sizes.Goals as goal

pub loop-k-preserved : goal.loop-k-preserved
loop-k-preserved c =
    let more : c.push.new.self.items ≡ c.loop-k.sizes.items ++ c.min.result ∷ [] = search rules in
    let so_far = c.loop-k.invariant.so_far in
    let cut = get_or-cut_sizes c.args.block.now c.args.dimensions.now c.args.chunk.now c.loop-k.k c.requires.ranks c.requires.rank c.loop-k-test.true in
    let new : c.min.result ≡ get_or (cut_sizes c.args.block.now c.args.dimensions.now c.args.chunk.now) c.loop-k.k 0 = c.min.ensures ∙ sym cut in
    record {
      so_far = rw more (length-append c.loop-k.sizes.items _ ∙ omega arith);
      same = rw more (below_more _ c.loop-k.k
          (λ j less. (let within : j < length c.loop-k.sizes.items = omega arith in get_or-append c.loop-k.sizes.items _ 0 j within) ∙ c.loop-k.invariant.same j less)
          (ap (λ n. get_or (c.loop-k.sizes.items ++ c.min.result ∷ []) n 0) (sym so_far) ∙ get_or-append_seam c.loop-k.sizes.items c.min.result [] 0 ∙ new));
    }

pub returns : goal.returns
returns c =
    let len = length-cut_sizes c.args.block.now c.args.dimensions.now c.args.chunk.now c.requires.ranks c.requires.rank in
    ext_get_or 0 c.loop-k.sizes.items (cut_sizes c.args.block.now c.args.dimensions.now c.args.chunk.now) (omega arith)
    (λ j less. c.loop-k.invariant.same j (omega arith))
