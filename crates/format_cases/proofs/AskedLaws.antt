-- What is asked by members of metadata keeps the rules.
use Rattle.std.proofs.Common.{◌≡◌, ℕ, ◌≤◌, Bool, true, false, List, length, Option, Some, None, sym, ap, subst, ◌∙◌, arith}
use Rattle.std.specs.Bool.{then_some}
use Rattle.cells.specs.Bytes.{byte_count}
use Rattle.cells.specs.Numbers.{IsWord}
use Rattle.cells.specs.Shapes.{IsShape, IsChunkShape}
use Rattle.cells.specs.declared.dtype.Dtype.{Dtype}
use Rattle.zarr_chunks.specs.Metadata as zarr
use Rattle.zarr_chunks.specs.Want as zarr_want
use Rattle.n5_blocks.specs.Metadata as n5
use Rattle.n5_blocks.specs.Want as n5_want
use Rattle.zarr3_chunks.specs.Metadata as zarr3
use Rattle.zarr3_chunks.specs.Want as zarr3_want

-- what is there, if anything is, is this value
abbrev pub Asks : {A : Type 0} → Option A → A → Type 0
Asks {A} asked value = (x : A) → asked ≡ Some x → x ≡ value

pub asks_some : {A : Type 0} (b : Bool) (value : A) → Asks (then_some b value) value
asks_some true value = λ x is. cc
asks_some false value = λ x is. absurd (let none : ⊥ = cc in none)

no_big : (big : Bool) → big ≡ false → ¬ (true ≡ big)
no_big big isnt is = let clash : true ≡ false = is ∙ isnt in cc

pub zarr_asked : (m : zarr.Metadata) (w : zarr_want.Want) → zarr.IsMetadata m → Asks w.shape m.shape → Asks w.chunks m.chunks → Asks w.dtype m.dtype → Asks w.big m.big → Asks w.fill m.fill → zarr_want.IsWant w
zarr_asked m w rules shape chunks dtype big fill = record {
  shape = λ s is. subst IsShape (sym (shape s is)) rules.shape;
  chunks = λ c is. (subst IsChunkShape (sym (chunks c is)) rules.chunks, omega (arith, ap length (chunks c is), rules.ranks, rules.shape.rank));
  ranks = λ s c i j. ap length (chunks c j) ∙ rules.ranks ∙ sym (ap length (shape s i));
  fill = λ d word i j. subst (λ t. IsWord t word) (sym (dtype d i)) (rules.fill word (sym (fill (Some word) j)));
  one_byte = λ d i one is. no_big m.big (rules.one_byte (ap byte_count (sym (dtype d i)) ∙ one)) (big true is);
}

pub n5_asked : (m : n5.Metadata) (w : n5_want.Want) → n5.IsMetadata m → Asks w.dimensions m.dimensions → Asks w.block m.block → n5_want.IsWant w
n5_asked m w rules dimensions block = record {
  dimensions = λ s is. (subst IsShape (sym (dimensions s is)) rules.dimensions, omega (arith, ap length (dimensions s is), rules.some));
  block = λ b is. (subst IsChunkShape (sym (block b is)) rules.block, omega (arith, ap length (block b is), rules.ranks, rules.some), omega (arith, ap length (block b is), rules.ranks, rules.dimensions.rank));
  ranks = λ s b i j. ap length (block b j) ∙ rules.ranks ∙ sym (ap length (dimensions s i));
}

pub zarr3_asked : (m : zarr3.Metadata) (w : zarr3_want.Want) → zarr3.IsMetadata m → Asks w.shape m.shape → Asks w.chunks m.chunks → Asks w.dtype m.dtype → Asks w.big m.big → Asks w.fill m.fill → zarr3_want.IsWant w
zarr3_asked m w rules shape chunks dtype big fill = record {
  shape = λ s is. subst IsShape (sym (shape s is)) rules.shape;
  chunks = λ c is. (subst IsChunkShape (sym (chunks c is)) rules.chunks, omega (arith, ap length (chunks c is), rules.ranks, rules.shape.rank));
  ranks = λ s c i j. ap length (chunks c j) ∙ rules.ranks ∙ sym (ap length (shape s i));
  fill = λ d word i j. let same : IsWord m.dtype word = subst (IsWord m.dtype) (sym (fill word j)) rules.fill in subst (λ t. IsWord t word) (sym (dtype d i)) same;
  one_byte = λ d i one is. no_big m.big (rules.one_byte (ap byte_count (sym (dtype d i)) ∙ one)) (big true is);
}
