-- What holds of bytes without a fault.
use Rattle.std.proofs.Common.{◌≡◌, ℕ, ◌+◌, ◌*◌, ◌≤◌, List, length, Bool, true, false, Option, Some, None, refl, ap, ◌∙◌}
use Rattle.std.specs.Prelude.{nat_lt, ◌==◌, if◌then◌else◌}
use Rattle.std.specs.Option.{option_or}
use Rattle.std.proofs.lemmas.Bool.{ltb-false, eqb-true}
use Rattle.std.proofs.lemmas.List.FromFn.{length-map-range_with_len}
use Rattle.chunk_elements.specs.Bytes.{byte_count}
use Rattle.chunk_elements.specs.Places.{cell_count}
use Rattle.chunk_elements.specs.declared.Dtype.{Dtype}
use Rattle.n5_blocks.specs.Metadata.{Metadata}
use Rattle.n5_blocks.specs.Block.{AreWithin}
use Rattle.n5_blocks.specs.Faults.{mode_in, rank_in, header_len, size_in, sizes_in, size_fault, length_fault, cells_fault, block_fault}
use Rattle.n5_blocks.specs.declared.chunk.BlockError.TheVariants.{WrongLength}
use Rattle.n5_blocks.proofs.SizeLaws.{none_from_if, within_from_no_fault}

none_from_or : {A : Type 0} (o p : Option A) → option_or o p ≡ None → (o ≡ None) × (p ≡ None)
none_from_or None p is = (refl, is)
none_from_or (Some x) p is = absurd (let no_such : ⊥ = cc in no_such)

none_from_else : {A : Type 0} (b : Bool) (o : Option A) (x : A) → (if b then o else Some x) ≡ None → (b ≡ true) × (o ≡ None)
none_from_else true o x is = (refl, is)
none_from_else false o x is = absurd (let no_such : ⊥ = cc in no_such)

pub length-sizes_in : (rank : ℕ) (bytes : List ℕ) → length (sizes_in rank bytes) ≡ rank
length-sizes_in rank bytes = length-map-range_with_len (size_in bytes) 0 rank

-- a header, sizes that fit, and the elements that they want
pub record AreSound (dtype : Dtype) (block bytes : List ℕ) : Type 0 where
  pub header : header_len (length block) ≤ length bytes
  pub within : AreWithin block (sizes_in (length block) bytes)
  pub count : length bytes ≡ header_len (length block) + cell_count (sizes_in (length block) bytes) * byte_count dtype

pub sound_from_no_fault : (dtype : Dtype) (block bytes : List ℕ) → cells_fault dtype block bytes ≡ None → AreSound dtype block bytes
sound_from_no_fault dtype block bytes is =
    let sizes = sizes_in (length block) bytes in
    let long = none_from_if (nat_lt (length bytes) (header_len (length block))) _ _ is in
    let parts = none_from_or (size_fault 0 block sizes) (length_fault dtype sizes (length bytes)) long.1 in
    let full = none_from_else (length bytes == (header_len (length sizes) + cell_count sizes * byte_count dtype)) None (WrongLength (length bytes) (header_len (length sizes) + cell_count sizes * byte_count dtype)) parts.1 in
    record {
      header = ltb-false (length bytes) (header_len (length block)) long.0;
      within = within_from_no_fault 0 block sizes (length-sizes_in (length block) bytes) parts.0;
      count = eqb-true (length bytes) (header_len (length sizes) + cell_count sizes * byte_count dtype) full.0 ∙ ap (λ n. header_len n + cell_count sizes * byte_count dtype) (length-sizes_in (length block) bytes);
    }

-- the mode and the rank are right, and so is the rest
pub record IsWhole (m : Metadata) (bytes : List ℕ) : Type 0 where
  pub least : 4 ≤ length bytes
  pub mode : mode_in bytes ≡ 0
  pub rank : rank_in bytes ≡ length m.block
  pub cells : cells_fault m.dtype m.block bytes ≡ None

pub whole_from_no_fault : (m : Metadata) (bytes : List ℕ) → block_fault m bytes ≡ None → IsWhole m bytes
whole_from_no_fault m bytes is =
    let long = none_from_if (nat_lt (length bytes) 4) _ _ is in
    let mode = none_from_else (mode_in bytes == 0) _ _ long.1 in
    let rank = none_from_else (rank_in bytes == length m.block) _ _ mode.1 in
    record {
      least = ltb-false (length bytes) 4 long.0;
      mode = eqb-true (mode_in bytes) 0 mode.0;
      rank = eqb-true (rank_in bytes) (length m.block) rank.0;
      cells = rank.1;
    }
