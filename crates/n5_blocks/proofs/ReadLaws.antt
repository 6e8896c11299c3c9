-- Reading gives the metadata that the bytes spell, and they spell one alone.
use Rattle.std.proofs.Common.{◌≡◌, ℕ, ◌≤◌, List, length, codes, false, Option, Some, None, Ok, Err, refl, sym, ap, subst, ◌∙◌, arith}
use Rattle.std.specs.Prelude.{option_and_then, is_some, ◌==◌}
use Rattle.std.specs.Str.{bytes_eq}
use Rattle.std.proofs.lemmas.Bool.Decides.{nat_tests}
use Rattle.std.proofs.lemmas.Slice.Eq.{bytes_eq-Decides}
use Rattle.serde_json.specs.Data.{Data, string}
use Rattle.serde_json.specs.Find.{get, as_str, as_object}
use Rattle.serde_json.proofs.OnLiterals.{serde_json_on_literals}
use Rattle.chunk_elements.specs.DtypeNames.{dtype_name, dtype_named}
use Rattle.chunk_elements.specs.Shapes.{IsShape}
use Rattle.chunk_elements.specs.declared.Dtype.{Dtype}
use Rattle.chunk_elements.proofs.Laws.{dtype_named-dtype_name, dtype_name-dtype_named, ok_from_then, ok_from_else, then_from, else_from}
use Rattle.meta_forms.specs.Bytes.{data_of}
use Rattle.meta_forms.specs.Faults.{named}
use Rattle.meta_forms.specs.Judged.{text_in, sizes_at, judged_shape, judged_chunks}
use Rattle.meta_forms.specs.declared.error.MetaError.TheVariants.{NotJson}
use Rattle.meta_forms.specs.declared.error.Fault.TheVariants.{Unsupported}
use Rattle.meta_forms.proofs.Laws.{parts_of, judged_from_named, ok_only, sizes_found, sizes_read, text_found, object_from_member, shape_judged, shape_passes, chunks_judged, chunks_pass}
use Rattle.n5_blocks.specs.Metadata.{Metadata, IsMetadata}
use Rattle.n5_blocks.specs.Described.{Describes, SpellsMetadata}
use Rattle.n5_blocks.specs.Read.{judged_dimensions, supported, judged_dtype, judged_compression, compression_in, metadata_of_members, metadata_of_data, metadata_of}

nonzero_from : (n : ℕ) → (n == 0) ≡ false → 1 ≤ n
nonzero_from n is = grind (arith, nat_tests)

nonzero_to : (n : ℕ) → 1 ≤ n → (n == 0) ≡ false
nonzero_to n least = grind (arith, nat_tests)

dimensions_judged : (o : Option (List ℕ)) (ns : List ℕ) → judged_dimensions o ≡ Ok ns → (o ≡ Some ns) × IsShape ns × (1 ≤ length ns)
dimensions_judged None ns is = absurd (let no_such : ⊥ = cc in no_such)
dimensions_judged (Some sizes) ns is =
    let rest = ok_from_else (length sizes == 0) (judged_shape (Some sizes)) ns Unsupported is in
    let shape = shape_judged (Some sizes) ns rest.1 in
    let same : sizes ≡ ns = cc in
    (shape.0, shape.1, subst (λ l. 1 ≤ length l) same (nonzero_from (length sizes) rest.0))

dimensions_pass : (ns : List ℕ) → IsShape ns → 1 ≤ length ns → judged_dimensions (Some ns) ≡ Ok ns
dimensions_pass ns rules some = else_from (length ns == 0) (Err Unsupported) (judged_shape (Some ns)) (nonzero_to (length ns) some) ∙ shape_passes ns rules

dtype_supported : (o : Option Dtype) (dtype : Dtype) → supported o ≡ Ok dtype → o ≡ Some dtype
dtype_supported None dtype is = absurd (let no_such : ⊥ = cc in no_such)
dtype_supported (Some x) dtype is = ap Some (ok_only x dtype is)

dtype_judged : (o : Option (List ℕ)) (dtype : Dtype) → judged_dtype o ≡ Ok dtype → o ≡ Some (dtype_name dtype)
dtype_judged None dtype is = absurd (let no_such : ⊥ = cc in no_such)
dtype_judged (Some text) dtype is = ap Some (dtype_name-dtype_named text dtype (dtype_supported (dtype_named text) dtype is))

compression_judged : (o : Option (List ℕ)) (u : Unit {0}) → judged_compression o ≡ Ok u → o ≡ Some (codes "raw")
compression_judged None u is = absurd (let no_such : ⊥ = cc in no_such)
compression_judged (Some text) u is = ap Some ((bytes_eq-Decides text (codes "raw")).0 (ok_from_then (bytes_eq text (codes "raw")) (Ok tt) u _ is).0)

compression_passes : judged_compression (Some (codes "raw")) ≡ Ok tt
unfolding serde_json_on_literals
compression_passes = refl

compression_found : (o : Option Data) → option_and_then (text_in (codes "type")) o ≡ Some (codes "raw") → (c : Data) × (o ≡ Some c) × (get (codes "type") c ≡ Some (string (codes "raw")))
compression_found None is = absurd (let no_such : ⊥ = cc in no_such)
compression_found (Some c) is = (c, refl, text_found (get (codes "type") c) (codes "raw") is)

-- members that give metadata describe it, and its rules hold
described : (d : Data) (m : Metadata) → metadata_of_members d ≡ Ok m → IsMetadata m × Describes d m
described d m is =
    let one = parts_of (named (codes "dimensions") (judged_dimensions (sizes_at (codes "dimensions") d))) _ m is in
    let two = parts_of (named (codes "blockSize") (judged_chunks (length one.0) (sizes_at (codes "blockSize") d))) _ m one.2 in
    let three = parts_of (named (codes "dataType") (judged_dtype (text_in (codes "dataType") d))) _ m two.2 in
    let four = parts_of (named (codes "compression") (judged_compression (compression_in d))) _ m three.2 in
    let dimensions = dimensions_judged (sizes_at (codes "dimensions") d) one.0 (judged_from_named (codes "dimensions") _ one.0 one.1) in
    let block = chunks_judged (length one.0) (sizes_at (codes "blockSize") d) two.0 (judged_from_named (codes "blockSize") _ two.0 two.1) in
    let dtype = dtype_judged (text_in (codes "dataType") d) three.0 (judged_from_named (codes "dataType") _ three.0 three.1) in
    let compression = compression_judged (compression_in d) four.0 (judged_from_named (codes "compression") _ four.0 four.1) in
    subst (λ n. IsMetadata n × Describes d n) (ok_only _ m four.2) (
      record { dimensions = dimensions.1; some = dimensions.2; ranks = block.1; block = block.2 },
      record {
        dimensions = sizes_found (get (codes "dimensions") d) one.0 dimensions.0;
        block = sizes_found (get (codes "blockSize") d) two.0 block.0;
        dtype = text_found (get (codes "dataType") d) (dtype_name three.0) dtype;
        compression = compression_found (get (codes "compression") d) compression;
      },
    )

-- bytes that give metadata spell it
pub SpellsMetadata-from_data : (bytes : List ℕ) (d : Data) (m : Metadata) → data_of bytes ≡ Some d → metadata_of_data (Some d) ≡ Ok m → SpellsMetadata m bytes
SpellsMetadata-from_data bytes d m read is =
    let members = ok_from_then (is_some (as_object d)) (metadata_of_members d) m NotJson is in
    let both = described d m members.1 in
    record { rules = both.0; described = (d, read, both.1) }

-- bytes that spell metadata give it
pub metadata_of-SpellsMetadata : (bytes : List ℕ) (m : Metadata) → SpellsMetadata m bytes → metadata_of bytes ≡ Ok m
metadata_of-SpellsMetadata bytes m spells =
    let d = spells.described.0 in
    let it = spells.described.2 in
    ap metadata_of_data spells.described.1
    ∙ then_from (is_some (as_object d)) (metadata_of_members d) (Err NotJson) (object_from_member (codes "dataType") d _ it.dtype)
    ∙ rw (
      ap judged_dimensions (sizes_read (get (codes "dimensions") d) m.dimensions it.dimensions) ∙ dimensions_pass m.dimensions spells.rules.dimensions spells.rules.some,
      ap (judged_chunks (length m.dimensions)) (sizes_read (get (codes "blockSize") d) m.block it.block) ∙ chunks_pass (length m.dimensions) m.block spells.rules.ranks spells.rules.block,
      ap (λ o. judged_dtype (option_and_then as_str o)) it.dtype ∙ ap supported (dtype_named-dtype_name m.dtype),
      ap (λ o. judged_compression (option_and_then (text_in (codes "type")) o)) it.compression.1 ∙ ap (λ o. judged_compression (option_and_then as_str o)) it.compression.2 ∙ compression_passes,
    )
    refl

-- bytes spell at most one metadata
pub SpellsMetadata-unique : (bytes : List ℕ) (m n : Metadata) → SpellsMetadata m bytes → SpellsMetadata n bytes → m ≡ n
SpellsMetadata-unique bytes m n one other =
    ok_only m n (sym (metadata_of-SpellsMetadata bytes m one) ∙ metadata_of-SpellsMetadata bytes n other)
