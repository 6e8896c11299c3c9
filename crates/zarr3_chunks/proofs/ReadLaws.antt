-- Reading gives the metadata that the bytes spell, and they spell one alone.
use Rattle.std.proofs.Common.{◌≡◌, ◌⊎◌, inl, inr, ℕ, List, [], ◌∷◌, map, length, codes, Bool, true, false, Option, Some, None, Result, Ok, Err, refl, sym, ap, subst, ◌∙◌, eq-eqb, eqb-true}
use Rattle.std.specs.Prelude.{option_and_then, is_some, not, if◌then◌else◌}
use Rattle.std.specs.Str.{bytes_eq}
use Rattle.std.proofs.lemmas.Slice.Eq.{bytes_eq-Decides}
use Rattle.serde_json.specs.Data.{Data, Items, null, boolean, number, string, array, object, no_items, item}
use Rattle.serde_json.specs.Find.{get, as_object}
use Rattle.chunk_elements.specs.Bytes.{byte_count}
use Rattle.chunk_elements.specs.DtypeNames.{dtype_name, dtype_named}
use Rattle.chunk_elements.specs.Shapes.{IsChunkShape}
use Rattle.chunk_elements.specs.declared.Dtype.{Dtype}
use Rattle.chunk_elements.proofs.Laws.{dtype_name-dtype_named, ok_from_then, then_from, else_from, true_or_false}
use Rattle.meta_forms.specs.Bytes.{data_of}
use Rattle.meta_forms.specs.Numbers.{natural}
use Rattle.meta_forms.specs.Lists.{list_of, list_items, data_list}
use Rattle.meta_forms.specs.Faults.{named}
use Rattle.meta_forms.specs.Judged.{text_in, whole_at, sizes_at, is_there, is_object_at, list_len, list_len_at, judged_format, judged_shape, judged_chunks, judged_word}
use Rattle.meta_forms.specs.declared.error.MetaError.TheVariants.{NotJson}
use Rattle.meta_forms.specs.declared.error.Fault.{Fault}
use Rattle.meta_forms.specs.declared.error.Fault.TheVariants.{Bad, Unsupported}
use Rattle.meta_forms.proofs.Laws.{parts_of, judged_from_named, ok_only, sizes_found, text_found, empty_found, len_judged, one_of_two, shape_judged, chunks_judged, format_judged, word_judged}
use Rattle.zarr3_chunks.specs.Key.{separator}
use Rattle.zarr3_chunks.specs.Metadata.{Metadata, IsMetadata}
use Rattle.zarr3_chunks.specs.Written.{endian}
use Rattle.zarr3_chunks.specs.Described.{IsWithout, IsGrid, EncodesKeys, EncodesBytes, Describes, SpellsMetadata}
use Rattle.zarr3_chunks.specs.Read.{judged_node, supported, judged_dtype, of_name, grid_sizes, judged_grid, dot_named, judged_dot, dot_in, judged_keys, is_byte, unsaid, endian_named, judged_endian, endian_in, sole_codec, are_named, judged_codecs, judged_transformers, unread_member, all_read, metadata_of_members, metadata_of_data}
use Rattle.zarr3_chunks.proofs.OtherLaws.{others_from_none}

node_judged : (o : Option (List ℕ)) (u : Unit {0}) → judged_node o ≡ Ok u → o ≡ Some (codes "array")
node_judged None u is = absurd (let no_such : ⊥ = cc in no_such)
node_judged (Some text) u is =
    elim (true_or_false (bytes_eq text (codes "array"))) [
      | inl h ↦ ap Some ((bytes_eq-Decides text (codes "array")).0 h)
      | inr h ↦ absurd (not_group (bytes_eq text (codes "group")) u (sym (else_from (bytes_eq text (codes "array")) (Ok tt) _ h) ∙ is))
    ]
  where
    not_group : (b : Bool) (v : Unit {0}) → ¬ ((let r : Result (Unit {0}) Fault = (if b then Err Unsupported else Err Bad) in r) ≡ Ok v)
    not_group true v same = let no_such : ⊥ = cc in no_such
    not_group false v same = let no_such : ⊥ = cc in no_such

dtype_supported : (o : Option Dtype) (dtype : Dtype) → supported o ≡ Ok dtype → o ≡ Some dtype
dtype_supported None dtype is = absurd (let no_such : ⊥ = cc in no_such)
dtype_supported (Some x) dtype is = ap Some (ok_only x dtype is)

dtype_judged : (o : Option (List ℕ)) (extended : Bool) (dtype : Dtype) → judged_dtype o extended ≡ Ok dtype → o ≡ Some (dtype_name dtype)
dtype_judged None true dtype is = absurd (let no_such : ⊥ = cc in no_such)
dtype_judged None false dtype is = absurd (let no_such : ⊥ = cc in no_such)
dtype_judged (Some text) extended dtype is = ap Some (dtype_name-dtype_named text dtype (dtype_supported (dtype_named text) dtype is))

-- what is judged by a name has that name
name_judged : {A : Type 0} (wanted : List ℕ) (o : Option (List ℕ)) (r : Result A Fault) (x : A) → of_name wanted o r ≡ Ok x → (o ≡ Some wanted) × (r ≡ Ok x)
name_judged wanted None r x is = absurd (let no_such : ⊥ = cc in no_such)
name_judged wanted (Some name) r x is =
    let good = ok_from_then (bytes_eq name wanted) r x Unsupported is in
    (ap Some ((bytes_eq-Decides name wanted).0 good.0), good.1)

pub name_passes : {A : Type 0} (wanted : List ℕ) (r : Result A Fault) → of_name wanted (Some wanted) r ≡ r
name_passes wanted r = then_from (bytes_eq wanted wanted) r (Err Unsupported) ((bytes_eq-Decides wanted wanted).1 refl)

-- a list that is found inside is in some value
inside_found : (o : Option Data) (name ns : List ℕ) → option_and_then (sizes_at name) o ≡ Some ns → (c : Data) × (o ≡ Some c) × (get name c ≡ Some (list_of (map natural ns)))
inside_found None name ns is = absurd (let no_such : ⊥ = cc in no_such)
inside_found (Some c) name ns is = (c, refl, sizes_found (get name c) ns is)

grid_judged : (rank : ℕ) (o : Option Data) (ns : List ℕ) → judged_grid rank o ≡ Ok ns
    → ((g : Data) × (o ≡ Some g) × IsGrid g ns) × (length ns ≡ rank) × IsChunkShape ns
grid_judged rank None ns is = absurd (let no_such : ⊥ = cc in no_such)
grid_judged rank (Some g) ns is =
    let good = name_judged (codes "regular") (text_in (codes "name") g) (judged_chunks rank (grid_sizes g)) ns is in
    let chunks = chunks_judged rank (grid_sizes g) ns good.1 in (
      (
        g,
        refl,
        record {
          name_is = text_found (get (codes "name") g) (codes "regular") good.0;
          sizes = inside_found (get (codes "configuration") g) (codes "chunk_shape") ns chunks.0;
        },
      ),
      chunks.1,
      chunks.2,
    )

dot_text : (text : List ℕ) (dot : Bool) → dot_named text ≡ Ok dot → text ≡ separator dot ∷ []
dot_text text dot is =
    elim (one_of_two text (codes "/") (codes ".") false true dot is) [
      | inl h ↦ h.0 ∙ ap (λ b. separator b ∷ []) h.1
      | inr h ↦ h.0 ∙ ap (λ b. separator b ∷ []) h.1
    ]

-- how keys are encoded, as a configuration has it
abbrev SaysDot : Option Data → Bool → Type 0
SaysDot o dot =
    ((c : Data) × (o ≡ Some c) × (get (codes "separator") c ≡ Some (string (separator dot ∷ []))))
    ⊎ ((c : Data) × (o ≡ Some c) × IsWithout c (codes "separator") × (dot ≡ false))
    ⊎ ((o ≡ None) × (dot ≡ false))

dot_said : (c : Data) (t : Option (List ℕ)) (dot : Bool) → is_some (as_object c) ≡ true → text_in (codes "separator") c ≡ t
    → judged_dot (is_there (codes "separator") c) t ≡ Ok dot → SaysDot (Some c) dot
dot_said c (Some text) dot inside there is =
    inl (c, refl, text_found (get (codes "separator") c) text there ∙ ap (λ l. Some (string l)) (dot_text text dot is))
dot_said c None dot inside there is = lacking (get (codes "separator") c) refl is
  where
    lacking : (o : Option Data) → get (codes "separator") c ≡ o → (if is_some o then Err Bad else Ok false) ≡ (let r : Result Bool Fault = Ok dot in r) → SaysDot (Some c) dot
    lacking None none same = inr (inl (c, refl, record { is_object = inside; lacks = none }, sym (ok_only false dot same)))
    lacking (Some d) some same = absurd (let no_such : ⊥ = cc in no_such)

dot_judged : (o : Option Data) (dot : Bool) → dot_in o ≡ Ok dot → SaysDot o dot
dot_judged None dot is = inr (inr (refl, sym (ok_only false dot is)))
dot_judged (Some c) dot is =
    let good = ok_from_then (is_some (as_object c)) _ dot Bad is in
    dot_said c (text_in (codes "separator") c) dot good.0 refl good.1

keys_judged : (o : Option Data) (dot : Bool) → judged_keys o ≡ Ok dot → (e : Data) × (o ≡ Some e) × EncodesKeys e dot
keys_judged None dot is = absurd (let no_such : ⊥ = cc in no_such)
keys_judged (Some e) dot is =
    let good = name_judged (codes "default") (text_in (codes "name") e) (dot_in (get (codes "configuration") e)) dot is in
    (e, refl, record { name_is = text_found (get (codes "name") e) (codes "default") good.0; between = dot_judged (get (codes "configuration") e) dot good.1 })

-- the byte order of an element, as a configuration has it
abbrev SaysEndian : Dtype → Option Data → Bool → Type 0
SaysEndian dtype o big =
    ((c : Data) × (o ≡ Some c) × (get (codes "endian") c ≡ Some (string (endian big))))
    ⊎ ((c : Data) × (o ≡ Some c) × (get (codes "endian") c ≡ Some (string (endian true))) × (byte_count dtype ≡ 1))
    ⊎ ((c : Data) × (o ≡ Some c) × IsWithout c (codes "endian") × (byte_count dtype ≡ 1))
    ⊎ ((o ≡ None) × (byte_count dtype ≡ 1))

-- a good byte order that isn't said is that of one byte
unsaid_judged : (dtype : Dtype) (big : Bool) → unsaid dtype ≡ Ok big → (byte_count dtype ≡ 1) × (big ≡ false)
unsaid_judged dtype big is =
    let good = ok_from_then (is_byte dtype) (Ok false) big Bad is in
    (eqb-true (byte_count dtype) 1 good.0, sym (ok_only false big good.1))

endian_text : (dtype : Dtype) (text : List ℕ) (big : Bool) → endian_named dtype text ≡ Ok big
    → (text ≡ endian big) ⊎ ((text ≡ endian true) × (byte_count dtype ≡ 1))
endian_text dtype text big is =
    elim (one_of_two text (codes "little") (codes "big") false (not (is_byte dtype)) big is) [
      | inl h ↦ inl (h.0 ∙ ap endian h.1)
      | inr h ↦ by_byte (is_byte dtype) refl h.0 h.1
    ]
  where
    by_byte : (b : Bool) → is_byte dtype ≡ b → text ≡ codes "big" → not (is_byte dtype) ≡ big → (text ≡ endian big) ⊎ ((text ≡ endian true) × (byte_count dtype ≡ 1))
    by_byte true one is_big same = inr (is_big, eqb-true (byte_count dtype) 1 one)
    by_byte false more is_big same = inl (is_big ∙ ap endian (ap not (sym more) ∙ same))

endian_said : (dtype : Dtype) (c : Data) (t : Option (List ℕ)) (big : Bool) → is_some (as_object c) ≡ true → text_in (codes "endian") c ≡ t
    → judged_endian dtype (is_there (codes "endian") c) t ≡ Ok big → SaysEndian dtype (Some c) big
endian_said dtype c (Some text) big inside there is =
    let found = text_found (get (codes "endian") c) text there in
    elim (endian_text dtype text big is) [
      | inl h ↦ inl (c, refl, found ∙ ap (λ l. Some (string l)) h)
      | inr h ↦ inr (inl (c, refl, found ∙ ap (λ l. Some (string l)) h.0, h.1))
    ]
endian_said dtype c None big inside there is = lacking (get (codes "endian") c) refl is
  where
    lacking : (o : Option Data) → get (codes "endian") c ≡ o → (if is_some o then Err Bad else unsaid dtype) ≡ (let r : Result Bool Fault = Ok big in r) → SaysEndian dtype (Some c) big
    lacking None none same = inr (inr (inl (c, refl, record { is_object = inside; lacks = none }, (unsaid_judged dtype big same).0)))
    lacking (Some d) some same = absurd (let no_such : ⊥ = cc in no_such)

endian_judged : (dtype : Dtype) (o : Option Data) (big : Bool) → endian_in dtype o ≡ Ok big → SaysEndian dtype o big
endian_judged dtype None big is = inr (inr (inr (refl, (unsaid_judged dtype big is).0)))
endian_judged dtype (Some c) big is =
    let good = ok_from_then (is_some (as_object c)) _ big Bad is in
    endian_said dtype c (text_in (codes "endian") c) big good.0 refl good.1

-- a list of one item
sole_item : (ds : Items) (x : Data) → data_list ds ≡ x ∷ [] → array ds ≡ list_of (x ∷ [])
sole_item no_items x is = absurd (let no_such : ⊥ = cc in no_such)
sole_item (item d no_items) x is = ap (λ e. array (item e no_items)) (let same : d ≡ x = cc in same)
sole_item (item d (item e ds)) x is = absurd (let no_such : ⊥ = cc in no_such)

items_found : (o : Option Data) (x : Data) → option_and_then list_items o ≡ Some (x ∷ []) → o ≡ Some (list_of (x ∷ []))
items_found None x is = absurd (let no_such : ⊥ = cc in no_such)
items_found (Some null) x is = absurd (let no_such : ⊥ = cc in no_such)
items_found (Some (boolean b)) x is = absurd (let no_such : ⊥ = cc in no_such)
items_found (Some (number n)) x is = absurd (let no_such : ⊥ = cc in no_such)
items_found (Some (string s)) x is = absurd (let no_such : ⊥ = cc in no_such)
items_found (Some (array ds)) x is = ap Some (sole_item ds x (let same : data_list ds ≡ x ∷ [] = cc in same))
items_found (Some (object ms)) x is = absurd (let no_such : ⊥ = cc in no_such)

codecs_by : (dtype : Dtype) (o : Option Data) (ds : List Data) (big : Bool) → option_and_then list_items o ≡ Some ds → sole_codec dtype ds ≡ Ok big
    → (e : Data) × (o ≡ Some (list_of (e ∷ []))) × EncodesBytes e dtype big
codecs_by dtype o [] big found is = absurd (let no_such : ⊥ = cc in no_such)
codecs_by dtype o (x ∷ y ∷ ds) big found is = absurd (let no_such : ⊥ = cc in no_such)
codecs_by dtype o (x ∷ []) big found is =
    let good = name_judged (codes "bytes") (text_in (codes "name") x) (endian_in dtype (get (codes "configuration") x)) big is in (
      x,
      items_found o x found,
      record {
        name_is = text_found (get (codes "name") x) (codes "bytes") good.0;
        order = endian_judged dtype (get (codes "configuration") x) big good.1;
      },
    )

codecs_judged : (dtype : Dtype) (o : Option Data) (items : Option (List Data)) (big : Bool) → option_and_then list_items o ≡ items → judged_codecs dtype items ≡ Ok big
    → (e : Data) × (o ≡ Some (list_of (e ∷ []))) × EncodesBytes e dtype big
codecs_judged dtype o None big found is = absurd (let no_such : ⊥ = cc in no_such)
codecs_judged dtype o (Some ds) big found is = codecs_by dtype o ds big found (ok_from_then (are_named ds) (sole_codec dtype ds) big Bad is).1

endian_one_byte : (dtype : Dtype) (text : List ℕ) (big : Bool) → byte_count dtype ≡ 1 → endian_named dtype text ≡ Ok big → big ≡ false
endian_one_byte dtype text big one is =
    elim (one_of_two text (codes "little") (codes "big") false (not (is_byte dtype)) big is) [
      | inl h ↦ sym h.1
      | inr h ↦ sym h.1 ∙ ap not (eq-eqb (byte_count dtype) 1 one)
    ]

said_one_byte : (dtype : Dtype) (there : Bool) (t : Option (List ℕ)) (big : Bool) → byte_count dtype ≡ 1 → judged_endian dtype there t ≡ Ok big → big ≡ false
said_one_byte dtype true None big one is = absurd (let no_such : ⊥ = cc in no_such)
said_one_byte dtype false None big one is = (unsaid_judged dtype big is).1
said_one_byte dtype there (Some text) big one is = endian_one_byte dtype text big one is

in_one_byte : (dtype : Dtype) (o : Option Data) (big : Bool) → byte_count dtype ≡ 1 → endian_in dtype o ≡ Ok big → big ≡ false
in_one_byte dtype None big one is = (unsaid_judged dtype big is).1
in_one_byte dtype (Some c) big one is =
    said_one_byte dtype (is_there (codes "endian") c) (text_in (codes "endian") c) big one (ok_from_then (is_some (as_object c)) _ big Bad is).1

sole_one_byte : (dtype : Dtype) (ds : List Data) (big : Bool) → byte_count dtype ≡ 1 → sole_codec dtype ds ≡ Ok big → big ≡ false
sole_one_byte dtype [] big one is = absurd (let no_such : ⊥ = cc in no_such)
sole_one_byte dtype (x ∷ y ∷ ds) big one is = absurd (let no_such : ⊥ = cc in no_such)
sole_one_byte dtype (x ∷ []) big one is =
    in_one_byte dtype (get (codes "configuration") x) big one (name_judged (codes "bytes") (text_in (codes "name") x) (endian_in dtype (get (codes "configuration") x)) big is).1

codecs_one_byte : (dtype : Dtype) (items : Option (List Data)) (big : Bool) → judged_codecs dtype items ≡ Ok big → byte_count dtype ≡ 1 → big ≡ false
codecs_one_byte dtype None big is one = absurd (let no_such : ⊥ = cc in no_such)
codecs_one_byte dtype (Some ds) big is one = sole_one_byte dtype ds big one (ok_from_then (are_named ds) (sole_codec dtype ds) big Bad is).1

transformers_judged : (o : Option Data) (u : Unit {0}) → judged_transformers (is_some o) (option_and_then list_len o) ≡ Ok u → (o ≡ None) ⊎ (o ≡ Some (list_of []))
transformers_judged None u is = inl refl
transformers_judged (Some d) u is = inr (empty_found (Some d) (len_judged (list_len d) u is))

all_read_none : (o : Option (List ℕ)) (u : Unit {0}) → all_read o ≡ Ok u → o ≡ None
all_read_none None u is = refl
all_read_none (Some name) u is = absurd (let no_such : ⊥ = cc in no_such)

-- members that give metadata describe it, and its rules hold
described : (d : Data) (m : Metadata) → metadata_of_members d ≡ Ok m → IsMetadata m × Describes d m
described d m is =
    let p1 = parts_of (named (codes "zarr_format") (judged_format 3 (whole_at (codes "zarr_format") d))) _ m is in
    let p2 = parts_of (named (codes "node_type") (judged_node (text_in (codes "node_type") d))) _ m p1.2 in
    let p3 = parts_of (named (codes "shape") (judged_shape (sizes_at (codes "shape") d))) _ m p2.2 in
    let p4 = parts_of (named (codes "data_type") (judged_dtype (text_in (codes "data_type") d) (is_object_at (codes "data_type") d))) _ m p3.2 in
    let p5 = parts_of (named (codes "chunk_grid") (judged_grid (length p3.0) (get (codes "chunk_grid") d))) _ m p4.2 in
    let p6 = parts_of (named (codes "chunk_key_encoding") (judged_keys (get (codes "chunk_key_encoding") d))) _ m p5.2 in
    let p7 = parts_of (named (codes "fill_value") (judged_word p4.0 (whole_at (codes "fill_value") d))) _ m p6.2 in
    let p8 = parts_of (named (codes "codecs") (judged_codecs p4.0 (option_and_then list_items (get (codes "codecs") d)))) _ m p7.2 in
    let p9 = parts_of (named (codes "storage_transformers") (judged_transformers (is_there (codes "storage_transformers") d) (list_len_at (codes "storage_transformers") d))) _ m p8.2 in
    let p10 = parts_of (all_read (unread_member d)) _ m p9.2 in
    let shape = shape_judged (sizes_at (codes "shape") d) p3.0 (judged_from_named (codes "shape") _ p3.0 p3.1) in
    let dtype = dtype_judged (text_in (codes "data_type") d) (is_object_at (codes "data_type") d) p4.0 (judged_from_named (codes "data_type") _ p4.0 p4.1) in
    let grid = grid_judged (length p3.0) (get (codes "chunk_grid") d) p5.0 (judged_from_named (codes "chunk_grid") _ p5.0 p5.1) in
    let word = word_judged p4.0 (whole_at (codes "fill_value") d) p7.0 (judged_from_named (codes "fill_value") _ p7.0 p7.1) in
    let codec = judged_from_named (codes "codecs") _ p8.0 p8.1 in
    subst (λ n. IsMetadata n × Describes d n) (ok_only _ m p10.2) (
      record {
        shape = shape.1;
        ranks = grid.1;
        chunks = grid.2;
        fill = word.1;
        one_byte = codecs_one_byte p4.0 (option_and_then list_items (get (codes "codecs") d)) p8.0 codec;
      },
      record {
        format = format_judged 3 (whole_at (codes "zarr_format") d) p1.0 (judged_from_named (codes "zarr_format") _ p1.0 p1.1);
        node = text_found (get (codes "node_type") d) (codes "array") (node_judged (text_in (codes "node_type") d) p2.0 (judged_from_named (codes "node_type") _ p2.0 p2.1));
        shape = sizes_found (get (codes "shape") d) p3.0 shape.0;
        dtype = text_found (get (codes "data_type") d) (dtype_name p4.0) dtype;
        grid = grid.0;
        keys = keys_judged (get (codes "chunk_key_encoding") d) p6.0 (judged_from_named (codes "chunk_key_encoding") _ p6.0 p6.1);
        fill = word.0;
        codecs = codecs_judged p4.0 (get (codes "codecs") d) _ p8.0 refl codec;
        transformers = transformers_judged (get (codes "storage_transformers") d) p9.0 (judged_from_named (codes "storage_transformers") _ p9.0 p9.1);
        others = others_from_none d (all_read_none (unread_member d) p10.0 p10.1);
      },
    )

-- bytes that give metadata spell it
pub SpellsMetadata-from_data : (bytes : List ℕ) (d : Data) (m : Metadata) → data_of bytes ≡ Some d → metadata_of_data (Some d) ≡ Ok m → SpellsMetadata m bytes
SpellsMetadata-from_data bytes d m read is =
    let members = ok_from_then (is_some (as_object d)) (metadata_of_members d) m NotJson is in
    let both = described d m members.1 in
    record { rules = both.0; described = (d, read, both.1) }
