-- Reading gives the metadata that the bytes spell, and they spell one alone.
use Rattle.std.proofs.Common.{◌≡◌, ◌⊎◌, inl, inr, ℕ, List, [], ◌∷◌, length, codes, Bool, true, false, Option, Some, None, Result, Ok, Err, refl, sym, ap, subst, ◌∙◌}
use Rattle.std.specs.Prelude.{option_and_then, is_some}
use Rattle.std.specs.Option.{ForSome}
use Rattle.serde_json.specs.Data.{Data, null, boolean, number, string, array, object}
use Rattle.serde_json.specs.Find.{get, as_str, as_null, as_object}
use Rattle.chunk_elements.specs.Bytes.{byte_count}
use Rattle.chunk_elements.specs.Numbers.{IsWord}
use Rattle.chunk_elements.specs.declared.Dtype.{Dtype}
use Rattle.chunk_elements.specs.declared.Order.{Order}
use Rattle.chunk_elements.specs.declared.Order.TheVariants.{C, F}
use Rattle.chunk_elements.proofs.Laws.{ok_from_then, then_from}
use Rattle.meta_forms.specs.Bytes.{data_of}
use Rattle.meta_forms.specs.Numbers.{whole_number}
use Rattle.meta_forms.specs.Lists.{list_of}
use Rattle.meta_forms.specs.Faults.{named}
use Rattle.meta_forms.specs.Judged.{text_in, whole_at, sizes_at, is_there, is_null_at, is_object_at, list_len, list_len_at, judged_format, judged_shape, judged_chunks, judged_word}
use Rattle.meta_forms.specs.declared.error.MetaError.TheVariants.{NotJson}
use Rattle.meta_forms.specs.declared.error.Fault.{Fault}
use Rattle.meta_forms.proofs.Laws.{parts_of, judged_from_named, ok_only, sizes_found, sizes_read, text_found, null_found, empty_found, len_judged, one_of_two, object_from_member, shape_judged, shape_passes, chunks_judged, chunks_pass, format_judged, format_passes, word_judged, word_passes}
use Rattle.zarr_chunks.specs.Key.{separator}
use Rattle.zarr_chunks.specs.Metadata.{Metadata, IsMetadata}
use Rattle.zarr_chunks.specs.Written.{order_text}
use Rattle.zarr_chunks.specs.Described.{NamesType, IsFillMember, Describes, SpellsMetadata}
use Rattle.zarr_chunks.specs.Read.{type_named, supported, judged_type, judged_compressor, filled, judged_fill, judged_order, judged_filters, separator_named, judged_separator, rest_of_members, metadata_of_members, metadata_of_data, metadata_of}
use Rattle.zarr_chunks.specs.declared.members.ElementType.{ElementType}
use Rattle.zarr_chunks.specs.declared.read.Rest.{Rest}
use Rattle.zarr_chunks.proofs.TypeLaws.{type_named-names, names-type_named}

type_supported : (o : Option ElementType) (t : ElementType) → supported o ≡ Ok t → o ≡ Some t
type_supported None t is = absurd (let no_such : ⊥ = cc in no_such)
type_supported (Some x) t is = ap Some (ok_only x t is)

type_judged : (o : Option (List ℕ)) (list : Bool) (t : ElementType) → judged_type o list ≡ Ok t
    → (text : List ℕ) × (o ≡ Some text) × (NamesType text t.dtype t.big × (byte_count t.dtype ≡ 1 → t.big ≡ false))
type_judged None true t is = absurd (let no_such : ⊥ = cc in no_such)
type_judged None false t is = absurd (let no_such : ⊥ = cc in no_such)
type_judged (Some text) list t is = (text, refl, type_named-names text t (type_supported (type_named text) t is))

compressor_judged : (o : Option Data) (u : Unit {0}) → judged_compressor (is_some (option_and_then as_null o)) (is_some (option_and_then as_object o)) ≡ Ok u → o ≡ Some null
compressor_judged None u is = absurd (let no_such : ⊥ = cc in no_such)
compressor_judged (Some null) u is = refl
compressor_judged (Some (boolean b)) u is = absurd (let no_such : ⊥ = cc in no_such)
compressor_judged (Some (number n)) u is = absurd (let no_such : ⊥ = cc in no_such)
compressor_judged (Some (string s)) u is = absurd (let no_such : ⊥ = cc in no_such)
compressor_judged (Some (array ds)) u is = absurd (let no_such : ⊥ = cc in no_such)
compressor_judged (Some (object ms)) u is = absurd (let no_such : ⊥ = cc in no_such)

-- the fill is told by the member, and is a word of the dtype
abbrev IsFill : Option Data → Dtype → Option ℕ → Type 0
IsFill o dtype fill = IsFillMember o dtype fill × ForSome fill (IsWord dtype)

none_fill : (o : Option Data) (dtype : Dtype) (fill : Option ℕ) → o ≡ Some null → (let r : Result (Option ℕ) Fault = Ok None in r) ≡ Ok fill → IsFill o dtype fill
none_fill o dtype None is same = (is, λ word some. absurd (let no_such : ⊥ = cc in no_such))
none_fill o dtype (Some word) is same = absurd (let no_such : ⊥ = cc in no_such)

some_fill : (o : Option Data) (dtype : Dtype) (r : Result ℕ Fault) (fill : Option ℕ) → judged_word dtype (option_and_then whole_number o) ≡ r → filled r ≡ Ok fill → IsFill o dtype fill
some_fill o dtype (Err fault) fill judged is = absurd (let no_such : ⊥ = cc in no_such)
some_fill o dtype (Ok w) None judged is = absurd (let no_such : ⊥ = cc in no_such)
some_fill o dtype (Ok w) (Some word) judged is =
    let same : w ≡ word = cc in
    let good = word_judged dtype (option_and_then whole_number o) w judged in
    subst (λ v. IsFill o dtype (Some v)) same (good.0, λ v some. subst (IsWord dtype) (let one : w ≡ v = cc in one) good.1)

fill_by : (o : Option Data) (dtype : Dtype) (fill : Option ℕ) (none : Bool) → is_some (option_and_then as_null o) ≡ none
    → judged_fill dtype none (option_and_then whole_number o) ≡ Ok fill → IsFill o dtype fill
fill_by o dtype fill true none is = none_fill o dtype fill (null_found o none) is
fill_by o dtype fill false none is = some_fill o dtype (judged_word dtype (option_and_then whole_number o)) fill refl is

order_judged : (o : Option (List ℕ)) (order : Order) → judged_order o ≡ Ok order → o ≡ Some (order_text order)
order_judged None order is = absurd (let no_such : ⊥ = cc in no_such)
order_judged (Some text) order is =
    elim (one_of_two text (codes "C") (codes "F") C F order is) [
      | inl h ↦ ap Some (h.0 ∙ ap order_text h.1)
      | inr h ↦ ap Some (h.0 ∙ ap order_text h.1)
    ]

filters_by : (o : Option Data) (u : Unit {0}) (none : Bool) → is_some (option_and_then as_null o) ≡ none
    → judged_filters none (option_and_then list_len o) ≡ Ok u → (o ≡ Some null) ⊎ (o ≡ Some (list_of []))
filters_by o u true none is = inl (null_found o none)
filters_by o u false none is = inr (empty_found o (len_judged (option_and_then list_len o) u is))

between_by : (o : Option Data) (slash : Bool) (t : Option (List ℕ)) → option_and_then as_str o ≡ t → judged_separator (is_some o) t ≡ Ok slash
    → (o ≡ Some (string (separator slash ∷ []))) ⊎ ((o ≡ None) × (slash ≡ false))
between_by None slash None there is = inr (refl, sym (ok_only false slash is))
between_by (Some d) slash None there is = absurd (let no_such : ⊥ = cc in no_such)
between_by o slash (Some text) there is =
    elim (one_of_two text (codes "/") (codes ".") true false slash is) [
      | inl h ↦ inl (text_found o text there ∙ ap (λ l. Some (string l)) (h.0 ∙ ap (λ b. separator b ∷ []) h.1))
      | inr h ↦ inl (text_found o text there ∙ ap (λ l. Some (string l)) (h.0 ∙ ap (λ b. separator b ∷ []) h.1))
    ]

-- what the members behind the shapes say
record SaysRest (d : Data) (rest : Rest) : Type 0 where
  dtype : (text : List ℕ) × (get (codes "dtype") d ≡ Some (string text)) × NamesType text rest.dtype rest.big
  one_byte : byte_count rest.dtype ≡ 1 → rest.big ≡ false
  compressor : get (codes "compressor") d ≡ Some null
  fill : IsFill (get (codes "fill_value") d) rest.dtype rest.fill
  order : get (codes "order") d ≡ Some (string (order_text rest.order))
  filters : (get (codes "filters") d ≡ Some null) ⊎ (get (codes "filters") d ≡ Some (list_of []))
  between : (get (codes "dimension_separator") d ≡ Some (string (separator rest.slash ∷ [])))
      ⊎ ((get (codes "dimension_separator") d ≡ None) × (rest.slash ≡ false))

rest_said : (d : Data) (rest : Rest) → rest_of_members d ≡ Ok rest → SaysRest d rest
rest_said d rest is =
    let one = parts_of (named (codes "dtype") (judged_type (text_in (codes "dtype") d) (is_some (list_len_at (codes "dtype") d)))) _ rest is in
    let two = parts_of (named (codes "compressor") (judged_compressor (is_null_at (codes "compressor") d) (is_object_at (codes "compressor") d))) _ rest one.2 in
    let three = parts_of (named (codes "fill_value") (judged_fill (one.0).dtype (is_null_at (codes "fill_value") d) (whole_at (codes "fill_value") d))) _ rest two.2 in
    let four = parts_of (named (codes "order") (judged_order (text_in (codes "order") d))) _ rest three.2 in
    let five = parts_of (named (codes "filters") (judged_filters (is_null_at (codes "filters") d) (list_len_at (codes "filters") d))) _ rest four.2 in
    let six = parts_of (named (codes "dimension_separator") (judged_separator (is_there (codes "dimension_separator") d) (text_in (codes "dimension_separator") d))) _ rest five.2 in
    let t = type_judged (text_in (codes "dtype") d) (is_some (list_len_at (codes "dtype") d)) one.0 (judged_from_named (codes "dtype") _ one.0 one.1) in
    subst (SaysRest d) (ok_only _ rest six.2) (record {
      dtype = (t.0, text_found (get (codes "dtype") d) t.0 t.1, (t.2).0);
      one_byte = (t.2).1;
      compressor = compressor_judged (get (codes "compressor") d) two.0 (judged_from_named (codes "compressor") _ two.0 two.1);
      fill = fill_by (get (codes "fill_value") d) (one.0).dtype three.0 _ refl (judged_from_named (codes "fill_value") _ three.0 three.1);
      order = text_found (get (codes "order") d) (order_text four.0) (order_judged (text_in (codes "order") d) four.0 (judged_from_named (codes "order") _ four.0 four.1));
      filters = filters_by (get (codes "filters") d) five.0 _ refl (judged_from_named (codes "filters") _ five.0 five.1);
      between = between_by (get (codes "dimension_separator") d) six.0 _ refl (judged_from_named (codes "dimension_separator") _ six.0 six.1);
    })

-- members that give metadata describe it, and its rules hold
described : (d : Data) (m : Metadata) → metadata_of_members d ≡ Ok m → IsMetadata m × Describes d m
described d m is =
    let one = parts_of (named (codes "zarr_format") (judged_format 2 (whole_at (codes "zarr_format") d))) _ m is in
    let two = parts_of (named (codes "shape") (judged_shape (sizes_at (codes "shape") d))) _ m one.2 in
    let three = parts_of (named (codes "chunks") (judged_chunks (length two.0) (sizes_at (codes "chunks") d))) _ m two.2 in
    let four = parts_of (rest_of_members d) _ m three.2 in
    let shape = shape_judged (sizes_at (codes "shape") d) two.0 (judged_from_named (codes "shape") _ two.0 two.1) in
    let chunks = chunks_judged (length two.0) (sizes_at (codes "chunks") d) three.0 (judged_from_named (codes "chunks") _ three.0 three.1) in
    let rest = rest_said d four.0 four.1 in
    subst (λ n. IsMetadata n × Describes d n) (ok_only _ m four.2) (
      record { shape = shape.1; ranks = chunks.1; chunks = chunks.2; fill = rest.fill.1; one_byte = rest.one_byte },
      record {
        format = format_judged 2 (whole_at (codes "zarr_format") d) one.0 (judged_from_named (codes "zarr_format") _ one.0 one.1);
        shape = sizes_found (get (codes "shape") d) two.0 shape.0;
        chunks = sizes_found (get (codes "chunks") d) three.0 chunks.0;
        dtype = rest.dtype;
        compressor = rest.compressor;
        fill = rest.fill.0;
        order = rest.order;
        filters = rest.filters;
        between = rest.between;
      },
    )

-- bytes that give metadata spell it
pub SpellsMetadata-from_data : (bytes : List ℕ) (d : Data) (m : Metadata) → data_of bytes ≡ Some d → metadata_of_data (Some d) ≡ Ok m → SpellsMetadata m bytes
SpellsMetadata-from_data bytes d m read is =
    let members = ok_from_then (is_some (as_object d)) (metadata_of_members d) m NotJson is in
    let both = described d m members.1 in
    record { rules = both.0; described = (d, read, both.1) }

fill_passes : (o : Option Data) (dtype : Dtype) (fill : Option ℕ) → IsFillMember o dtype fill → ForSome fill (IsWord dtype)
    → judged_fill dtype (is_some (option_and_then as_null o)) (option_and_then whole_number o) ≡ Ok fill
fill_passes o dtype None is words = ap (λ p. judged_fill dtype (is_some (option_and_then as_null p)) (option_and_then whole_number p)) is
fill_passes None dtype (Some word) is words = absurd (let no_such : ⊥ = cc in no_such)
fill_passes (Some null) dtype (Some word) is words = absurd (let no_such : ⊥ = cc in no_such)
fill_passes (Some (boolean b)) dtype (Some word) is words = absurd (let no_such : ⊥ = cc in no_such)
fill_passes (Some (number n)) dtype (Some word) is words = ap (λ z. filled (judged_word dtype z)) is ∙ ap filled (word_passes dtype word (words word refl))
fill_passes (Some (string s)) dtype (Some word) is words = absurd (let no_such : ⊥ = cc in no_such)
fill_passes (Some (array ds)) dtype (Some word) is words = absurd (let no_such : ⊥ = cc in no_such)
fill_passes (Some (object ms)) dtype (Some word) is words = absurd (let no_such : ⊥ = cc in no_such)

order_passes : (order : Order) → judged_order (Some (order_text order)) ≡ Ok order
order_passes C = refl
order_passes F = refl

filters_pass : (o : Option Data) → (o ≡ Some null) ⊎ (o ≡ Some (list_of [])) → judged_filters (is_some (option_and_then as_null o)) (option_and_then list_len o) ≡ Ok tt
filters_pass o (inl is) = ap (λ p. judged_filters (is_some (option_and_then as_null p)) (option_and_then list_len p)) is
filters_pass o (inr is) = ap (λ p. judged_filters (is_some (option_and_then as_null p)) (option_and_then list_len p)) is

separator_passes : (slash : Bool) → separator_named (separator slash ∷ []) ≡ Ok slash
separator_passes true = refl
separator_passes false = refl

between_passes : (o : Option Data) (slash : Bool) → (o ≡ Some (string (separator slash ∷ []))) ⊎ ((o ≡ None) × (slash ≡ false))
    → judged_separator (is_some o) (option_and_then as_str o) ≡ Ok slash
between_passes o slash (inl is) = ap (λ p. judged_separator (is_some p) (option_and_then as_str p)) is ∙ separator_passes slash
between_passes o slash (inr is) = ap (λ p. judged_separator (is_some p) (option_and_then as_str p)) is.0 ∙ ap Ok (sym is.1)

rest_passes : (d : Data) (m : Metadata) → IsMetadata m → Describes d m
    → rest_of_members d ≡ Ok (record { dtype = m.dtype; big = m.big; fill = m.fill; order = m.order; slash = m.slash })
rest_passes d m rules it =
    rw (
      ap (λ o. judged_type (option_and_then as_str o) (is_some (option_and_then list_len o))) (it.dtype.1) ∙ ap supported (names-type_named (it.dtype.0) m.dtype m.big (it.dtype.2) rules.one_byte),
      ap (λ o. judged_compressor (is_some (option_and_then as_null o)) (is_some (option_and_then as_object o))) it.compressor,
      fill_passes (get (codes "fill_value") d) m.dtype m.fill it.fill rules.fill,
      ap (λ o. judged_order (option_and_then as_str o)) it.order ∙ order_passes m.order,
      filters_pass (get (codes "filters") d) it.filters,
      between_passes (get (codes "dimension_separator") d) m.slash it.between,
    )
    refl

-- bytes that spell metadata give it
pub metadata_of-SpellsMetadata : (bytes : List ℕ) (m : Metadata) → SpellsMetadata m bytes → metadata_of bytes ≡ Ok m
metadata_of-SpellsMetadata bytes m spells =
    let d = spells.described.0 in
    let it = spells.described.2 in
    ap metadata_of_data spells.described.1
    ∙ then_from (is_some (as_object d)) (metadata_of_members d) (Err NotJson) (object_from_member (codes "shape") d _ it.shape)
    ∙ rw (
      ap (judged_format 2) it.format ∙ format_passes 2,
      ap judged_shape (sizes_read (get (codes "shape") d) m.shape it.shape) ∙ shape_passes m.shape spells.rules.shape,
      ap (judged_chunks (length m.shape)) (sizes_read (get (codes "chunks") d) m.chunks it.chunks) ∙ chunks_pass (length m.shape) m.chunks spells.rules.ranks spells.rules.chunks,
      rest_passes d m spells.rules it,
    )
    refl

-- bytes spell at most one metadata
pub SpellsMetadata-unique : (bytes : List ℕ) (m n : Metadata) → SpellsMetadata m bytes → SpellsMetadata n bytes → m ≡ n
SpellsMetadata-unique bytes m n one other =
    ok_only m n (sym (metadata_of-SpellsMetadata bytes m one) ∙ metadata_of-SpellsMetadata bytes n other)
