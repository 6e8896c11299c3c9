-- Bytes that spell metadata give it.
use Rattle.std.proofs.Common.{◌≡◌, ◌⊎◌, inl, inr, ℕ, List, [], ◌∷◌, length, codes, Bool, true, false, Option, Some, None, Result, Ok, Err, refl, sym, ap, ◌∙◌, eq-eqb, eqb-true}
use Rattle.std.specs.Prelude.{option_and_then, is_some, not, ◌&&◌, if◌then◌else◌}
use Rattle.serde_json.specs.Data.{Data, string}
use Rattle.serde_json.specs.Find.{get, as_str, as_object}
use Rattle.serde_json.proofs.OnLiterals.{serde_json_on_literals}
use Rattle.chunk_elements.specs.Bytes.{byte_count}
use Rattle.chunk_elements.specs.Shapes.{IsChunkShape}
use Rattle.chunk_elements.specs.declared.Dtype.{Dtype}
use Rattle.chunk_elements.proofs.Laws.{dtype_named-dtype_name, then_from}
use Rattle.meta_forms.specs.Lists.{list_of, list_items}
use Rattle.meta_forms.specs.Judged.{text_in, list_len, judged_format, judged_shape, judged_word, judged_chunks, sizes_at}
use Rattle.meta_forms.specs.declared.error.MetaError.TheVariants.{NotJson}
use Rattle.meta_forms.specs.declared.error.Fault.{Fault}
use Rattle.meta_forms.specs.declared.error.Fault.TheVariants.{Bad}
use Rattle.meta_forms.proofs.Laws.{ok_only, sizes_read, object_from_member, shape_passes, chunks_pass, format_passes, word_passes}
use Rattle.zarr3_chunks.specs.Key.{separator}
use Rattle.zarr3_chunks.specs.Metadata.{Metadata}
use Rattle.zarr3_chunks.specs.Written.{endian}
use Rattle.zarr3_chunks.specs.Described.{IsWithout, IsGrid, EncodesKeys, EncodesBytes, SpellsMetadata}
use Rattle.zarr3_chunks.specs.Read.{judged_node, supported, judged_dtype, of_name, grid_sizes, judged_grid, dot_named, judged_dot, dot_in, judged_keys, is_byte, unsaid, endian_named, judged_endian, endian_in, sole_codec, judged_codecs, judged_transformers, metadata_of_members, metadata_of_data, metadata_of}
use Rattle.zarr3_chunks.proofs.OtherLaws.{none_from_others}
use Rattle.zarr3_chunks.proofs.ReadLaws.{name_passes}

node_passes : judged_node (Some (codes "array")) ≡ Ok tt
unfolding serde_json_on_literals
node_passes = refl

by_name : {A : Type 0} (wanted : List ℕ) (o : Option Data) (r : Result A Fault) → o ≡ Some (string wanted) → of_name wanted (option_and_then as_str o) r ≡ r
by_name wanted o r is = ap (λ p. of_name wanted (option_and_then as_str p) r) is ∙ name_passes wanted r

grid_passes : (rank : ℕ) (o : Option Data) (chunks : List ℕ) → (g : Data) × (o ≡ Some g) × IsGrid g chunks → length chunks ≡ rank → IsChunkShape chunks → judged_grid rank o ≡ Ok chunks
grid_passes rank o chunks it ranks rules =
    let g = it.0 in
    let sizes : grid_sizes g ≡ Some chunks = ap (option_and_then (sizes_at (codes "chunk_shape"))) (it.2.sizes.1) ∙ sizes_read (get (codes "chunk_shape") (it.2.sizes.0)) chunks (it.2.sizes.2) in
    ap (judged_grid rank) it.1 ∙ by_name (codes "regular") (get (codes "name") g) (judged_chunks rank (grid_sizes g)) it.2.name_is
    ∙ ap (judged_chunks rank) sizes ∙ chunks_pass rank chunks ranks rules

dot_passes : (dot : Bool) → dot_named (separator dot ∷ []) ≡ Ok dot
dot_passes true = refl
dot_passes false = refl

-- a configuration that says it is an object
in_object : {A : Type 0} (c e : Data) (k : List ℕ) (x : Result A Fault) → get k c ≡ Some e → (if is_some (as_object c) then x else Err Bad) ≡ x
in_object c e k x found = then_from (is_some (as_object c)) x (Err Bad) (object_from_member k c e found)

dot_in_passes : (o : Option Data) (dot : Bool)
    → ((c : Data) × (o ≡ Some c) × (get (codes "separator") c ≡ Some (string (separator dot ∷ []))))
    ⊎ ((c : Data) × (o ≡ Some c) × IsWithout c (codes "separator") × (dot ≡ false))
    ⊎ ((o ≡ None) × (dot ≡ false))
    → dot_in o ≡ Ok dot
dot_in_passes o dot (inl h) =
    ap dot_in h.1 ∙ in_object h.0 _ (codes "separator") _ h.2
    ∙ ap (λ p. judged_dot (is_some p) (option_and_then as_str p)) h.2 ∙ dot_passes dot
dot_in_passes o dot (inr (inl h)) =
    ap dot_in h.1 ∙ then_from (is_some (as_object h.0)) _ (Err Bad) h.2.is_object
    ∙ ap (λ p. judged_dot (is_some p) (option_and_then as_str p)) h.2.lacks ∙ ap Ok (sym h.3)
dot_in_passes o dot (inr (inr h)) = ap dot_in h.0 ∙ ap Ok (sym h.1)

keys_pass : (o : Option Data) (dot : Bool) → (e : Data) × (o ≡ Some e) × EncodesKeys e dot → judged_keys o ≡ Ok dot
keys_pass o dot it =
    ap judged_keys it.1 ∙ by_name (codes "default") (get (codes "name") it.0) (dot_in (get (codes "configuration") it.0)) it.2.name_is
    ∙ dot_in_passes (get (codes "configuration") it.0) dot it.2.between

not_one : {P : Type 0} → true ≡ false → P
not_one is = absurd (let no_such : ⊥ = cc in no_such)

big_is : (dtype : Dtype) (big b : Bool) → is_byte dtype ≡ b → (byte_count dtype ≡ 1 → big ≡ false) → big ≡ true → not b ≡ big
big_is dtype big false more rule is = sym is
big_is dtype big true one rule is = not_one (sym is ∙ rule (from_test one))
  where
    from_test : is_byte dtype ≡ true → byte_count dtype ≡ 1
    from_test test = eqb-true (byte_count dtype) 1 test

endian_passes : (dtype : Dtype) (big : Bool) → (byte_count dtype ≡ 1 → big ≡ false) → endian_named dtype (endian big) ≡ Ok big
unfolding serde_json_on_literals
endian_passes dtype false rule = refl
endian_passes dtype true rule = ap Ok (big_is dtype true (is_byte dtype) refl rule refl)

unsaid_passes : (dtype : Dtype) (big : Bool) → byte_count dtype ≡ 1 → big ≡ false → unsaid dtype ≡ Ok big
unsaid_passes dtype big one is = then_from (is_byte dtype) (Ok false) (Err Bad) (eq-eqb (byte_count dtype) 1 one) ∙ ap Ok (sym is)

big_of_byte : (dtype : Dtype) (big : Bool) → byte_count dtype ≡ 1 → big ≡ false → endian_named dtype (endian true) ≡ Ok big
unfolding serde_json_on_literals
big_of_byte dtype big one is = ap (λ b. Ok (not b)) (eq-eqb (byte_count dtype) 1 one) ∙ ap Ok (sym is)

endian_in_passes : (dtype : Dtype) (o : Option Data) (big : Bool) → (byte_count dtype ≡ 1 → big ≡ false)
    → ((c : Data) × (o ≡ Some c) × (get (codes "endian") c ≡ Some (string (endian big))))
    ⊎ ((c : Data) × (o ≡ Some c) × (get (codes "endian") c ≡ Some (string (endian true))) × (byte_count dtype ≡ 1))
    ⊎ ((c : Data) × (o ≡ Some c) × IsWithout c (codes "endian") × (byte_count dtype ≡ 1))
    ⊎ ((o ≡ None) × (byte_count dtype ≡ 1))
    → endian_in dtype o ≡ Ok big
endian_in_passes dtype o big rule (inl h) =
    ap (endian_in dtype) h.1 ∙ in_object h.0 _ (codes "endian") _ h.2
    ∙ ap (λ p. judged_endian dtype (is_some p) (option_and_then as_str p)) h.2 ∙ endian_passes dtype big rule
endian_in_passes dtype o big rule (inr (inl h)) =
    ap (endian_in dtype) h.1 ∙ in_object h.0 _ (codes "endian") _ h.2
    ∙ ap (λ p. judged_endian dtype (is_some p) (option_and_then as_str p)) h.2 ∙ big_of_byte dtype big h.3 (rule h.3)
endian_in_passes dtype o big rule (inr (inr (inl h))) =
    ap (endian_in dtype) h.1 ∙ then_from (is_some (as_object h.0)) _ (Err Bad) h.2.is_object
    ∙ ap (λ p. judged_endian dtype (is_some p) (option_and_then as_str p)) h.2.lacks ∙ unsaid_passes dtype big h.3 (rule h.3)
endian_in_passes dtype o big rule (inr (inr (inr h))) = ap (endian_in dtype) h.0 ∙ unsaid_passes dtype big h.1 (rule h.1)

codecs_pass : (dtype : Dtype) (o : Option Data) (big : Bool) → (byte_count dtype ≡ 1 → big ≡ false)
    → (e : Data) × (o ≡ Some (list_of (e ∷ []))) × EncodesBytes e dtype big → judged_codecs dtype (option_and_then list_items o) ≡ Ok big
codecs_pass dtype o big rule it =
    let e = it.0 in
    let name : text_in (codes "name") e ≡ Some (codes "bytes") = ap (option_and_then as_str) it.2.name_is in
    ap (λ p. judged_codecs dtype (option_and_then list_items p)) it.1
    ∙ then_from _ (sole_codec dtype (e ∷ [])) (Err Bad) (named_one (text_in (codes "name") e) name)
    ∙ by_name (codes "bytes") (get (codes "name") e) (endian_in dtype (get (codes "configuration") e)) it.2.name_is
    ∙ endian_in_passes dtype (get (codes "configuration") e) big rule it.2.order
  where
    named_one : (t : Option (List ℕ)) → t ≡ Some (codes "bytes") → (is_some t && true) ≡ true
    named_one t is = ap (λ u. is_some u && true) is

transformers_pass : (o : Option Data) → (o ≡ None) ⊎ (o ≡ Some (list_of [])) → judged_transformers (is_some o) (option_and_then list_len o) ≡ Ok tt
transformers_pass o (inl is) = ap (λ p. judged_transformers (is_some p) (option_and_then list_len p)) is
transformers_pass o (inr is) = ap (λ p. judged_transformers (is_some p) (option_and_then list_len p)) is

-- bytes that spell metadata give it
pub metadata_of-SpellsMetadata : (bytes : List ℕ) (m : Metadata) → SpellsMetadata m bytes → metadata_of bytes ≡ Ok m
metadata_of-SpellsMetadata bytes m spells =
    let d = spells.described.0 in
    let it = spells.described.2 in
    let rules = spells.rules in
    ap metadata_of_data spells.described.1
    ∙ then_from (is_some (as_object d)) (metadata_of_members d) (Err NotJson) (object_from_member (codes "shape") d _ it.shape)
    ∙ rw (
      ap (judged_format 3) it.format ∙ format_passes 3,
      ap (λ o. judged_node (option_and_then as_str o)) it.node ∙ node_passes,
      ap judged_shape (sizes_read (get (codes "shape") d) m.shape it.shape) ∙ shape_passes m.shape rules.shape,
      ap (λ o. judged_dtype (option_and_then as_str o) (is_some (option_and_then as_object o))) it.dtype ∙ ap supported (dtype_named-dtype_name m.dtype),
      grid_passes (length m.shape) (get (codes "chunk_grid") d) m.chunks it.grid rules.ranks rules.chunks,
      keys_pass (get (codes "chunk_key_encoding") d) m.dot it.keys,
      ap (judged_word m.dtype) it.fill ∙ word_passes m.dtype m.fill rules.fill,
      codecs_pass m.dtype (get (codes "codecs") d) m.big rules.one_byte it.codecs,
      transformers_pass (get (codes "storage_transformers") d) it.transformers,
      none_from_others d it.others,
    )
    refl

-- bytes spell at most one metadata
pub SpellsMetadata-unique : (bytes : List ℕ) (m n : Metadata) → SpellsMetadata m bytes → SpellsMetadata n bytes → m ≡ n
SpellsMetadata-unique bytes m n one other =
    ok_only m n (sym (metadata_of-SpellsMetadata bytes m one) ∙ metadata_of-SpellsMetadata bytes n other)
