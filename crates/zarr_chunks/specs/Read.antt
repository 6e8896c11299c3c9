-- What reading metadata gives: the metadata, or the first fault in the order of the members.
use Rattle.std.specs.Prelude.{ℕ, ℤ, List, [], ◌∷◌, length, codes, Bool, true, false, Option, Some, None, Result, Ok, Err, is_some, if◌then◌else◌}
use Rattle.std.specs.Str.{bytes_eq}
use Rattle.serde_json.specs.Data.{Data}
use Rattle.serde_json.specs.Find.{as_object}
use Rattle.chunk_elements.specs.declared.Dtype.{Dtype}
use Rattle.chunk_elements.specs.declared.Dtype.TheVariants.{I8, U8, I16, U16, I32, U32, I64, U64}
use Rattle.chunk_elements.specs.declared.Order.{Order}
use Rattle.chunk_elements.specs.declared.Order.TheVariants.{C, F}
use Rattle.meta_forms.specs.Bytes.{data_of}
use Rattle.meta_forms.specs.Faults.{named, ◌>>=◌}
use Rattle.meta_forms.specs.Judged.{text_in, whole_at, sizes_at, is_there, is_null_at, is_object_at, list_len_at, judged_len, judged_format, judged_shape, judged_chunks, judged_word}
use Rattle.meta_forms.specs.declared.error.MetaError.{MetaError}
use Rattle.meta_forms.specs.declared.error.MetaError.TheVariants.{NotJson}
use Rattle.meta_forms.specs.declared.error.Fault.{Fault}
use Rattle.meta_forms.specs.declared.error.Fault.TheVariants.{Bad, Unsupported}
use Rattle.zarr_chunks.specs.Metadata.{Metadata}
use Rattle.zarr_chunks.specs.declared.members.ElementType.{ElementType}
use Rattle.zarr_chunks.specs.declared.read.Rest.{Rest}

abbrev pub of_type : Dtype → Bool → ElementType
of_type dtype big = record { dtype = dtype; big = big }

-- the texts that name a type, with what they name
abbrev pub written_types : List (List ℕ × ElementType)
written_types =
    (codes "|i1", of_type I8 false) ∷ (codes "<i1", of_type I8 false) ∷ (codes ">i1", of_type I8 false)
    ∷ (codes "|u1", of_type U8 false) ∷ (codes "<u1", of_type U8 false) ∷ (codes ">u1", of_type U8 false)
    ∷ (codes "<i2", of_type I16 false) ∷ (codes ">i2", of_type I16 true) ∷ (codes "<u2", of_type U16 false)
    ∷ (codes ">u2", of_type U16 true) ∷ (codes "<i4", of_type I32 false) ∷ (codes ">i4", of_type I32 true)
    ∷ (codes "<u4", of_type U32 false) ∷ (codes ">u4", of_type U32 true) ∷ (codes "<i8", of_type I64 false)
    ∷ (codes ">i8", of_type I64 true) ∷ (codes "<u8", of_type U64 false) ∷ (codes ">u8", of_type U64 true) ∷ []

-- what stands beside a text
abbrev pub beside : List (List ℕ × ElementType) → List ℕ → Option ElementType
beside [] text = None
beside (e ∷ es) text = if bytes_eq text e.0 then Some e.1 else beside es text

-- the type that a text names
abbrev pub type_named : List ℕ → Option ElementType
type_named text = beside written_types text

abbrev pub supported : Option ElementType → Result ElementType Fault
supported None = Err Unsupported
supported (Some t) = Ok t

-- a type that a text names; another text and a list aren't supported
abbrev pub judged_type : Option (List ℕ) → Bool → Result ElementType Fault
judged_type None list = if list then Err Unsupported else Err Bad
judged_type (Some text) list = supported (type_named text)

-- no compressor; an object isn't supported
abbrev pub judged_compressor : Bool → Bool → Result (Unit {0}) Fault
judged_compressor none given = if none then Ok tt else if given then Err Unsupported else Err Bad

abbrev pub filled : Result ℕ Fault → Result (Option ℕ) Fault
filled (Ok word) = Ok (Some word)
filled (Err fault) = Err fault

-- null, or a whole number in the dtype's range
abbrev pub judged_fill : Dtype → Bool → Option ℤ → Result (Option ℕ) Fault
judged_fill dtype none number = if none then Ok None else filled (judged_word dtype number)

-- "C" or "F"
abbrev pub order_named : List ℕ → Result Order Fault
order_named text = if bytes_eq text (codes "C") then Ok C else if bytes_eq text (codes "F") then Ok F else Err Bad

abbrev pub judged_order : Option (List ℕ) → Result Order Fault
judged_order None = Err Bad
judged_order (Some text) = order_named text

-- null or an empty list; another list isn't supported
abbrev pub judged_filters : Bool → Option ℕ → Result (Unit {0}) Fault
judged_filters none len = if none then Ok tt else judged_len len

-- "/" or "."
abbrev pub separator_named : List ℕ → Result Bool Fault
separator_named text = if bytes_eq text (codes "/") then Ok true else if bytes_eq text (codes ".") then Ok false else Err Bad

-- the same; where there is no such member, it is "."
abbrev pub judged_separator : Bool → Option (List ℕ) → Result Bool Fault
judged_separator there None = if there then Err Bad else Ok false
judged_separator there (Some text) = separator_named text

-- what the members behind the two shapes say, the first fault in this order
abbrev pub rest_of_members : Data → Result Rest MetaError
rest_of_members d = do
  t ← named (codes "dtype") (judged_type (text_in (codes "dtype") d) (is_some (list_len_at (codes "dtype") d)))
  _ ← named (codes "compressor") (judged_compressor (is_null_at (codes "compressor") d) (is_object_at (codes "compressor") d))
  fill ← named (codes "fill_value") (judged_fill t.dtype (is_null_at (codes "fill_value") d) (whole_at (codes "fill_value") d))
  order ← named (codes "order") (judged_order (text_in (codes "order") d))
  _ ← named (codes "filters") (judged_filters (is_null_at (codes "filters") d) (list_len_at (codes "filters") d))
  slash ← named (codes "dimension_separator") (judged_separator (is_there (codes "dimension_separator") d) (text_in (codes "dimension_separator") d))
  Ok (record { dtype = t.dtype; big = t.big; fill = fill; order = order; slash = slash })

abbrev pub with_rest : List ℕ → List ℕ → Rest → Metadata
with_rest shape chunks rest = record {
  shape = shape;
  chunks = chunks;
  dtype = rest.dtype;
  big = rest.big;
  fill = rest.fill;
  order = rest.order;
  slash = rest.slash;
}

-- the metadata of an object, the first fault in the order of the members
abbrev pub metadata_of_members : Data → Result Metadata MetaError
metadata_of_members d = do
  _ ← named (codes "zarr_format") (judged_format 2 (whole_at (codes "zarr_format") d))
  shape ← named (codes "shape") (judged_shape (sizes_at (codes "shape") d))
  chunks ← named (codes "chunks") (judged_chunks (length shape) (sizes_at (codes "chunks") d))
  rest ← rest_of_members d
  Ok (with_rest shape chunks rest)

-- the metadata that bytes are, if they are an object
abbrev pub metadata_of_data : Option Data → Result Metadata MetaError
metadata_of_data None = Err NotJson
metadata_of_data (Some d) = if is_some (as_object d) then metadata_of_members d else Err NotJson

-- the metadata that bytes are, or what is wrong with them
abbrev pub metadata_of : List ℕ → Result Metadata MetaError
metadata_of bytes = metadata_of_data (data_of bytes)
