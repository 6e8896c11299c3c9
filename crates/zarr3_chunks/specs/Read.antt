-- What reading metadata gives: the metadata, or the first fault in the order of the members.
use Rattle.std.specs.Prelude.{ℕ, List, [], ◌∷◌, length, codes, Bool, true, false, not, ◌&&◌, ◌==◌, filter, Option, Some, None, Result, Ok, Err, option_and_then, is_some, if◌then◌else◌}
use Rattle.std.specs.List.{list_all}
use Rattle.std.specs.Str.{bytes_eq}
use Rattle.serde_json.specs.Data.{Data}
use Rattle.serde_json.specs.Find.{get, as_bool, as_object}
use Rattle.chunk_elements.specs.Bytes.{byte_count}
use Rattle.chunk_elements.specs.DtypeNames.{dtype_named}
use Rattle.chunk_elements.specs.declared.Dtype.{Dtype}
use Rattle.meta_forms.specs.Bytes.{data_of}
use Rattle.meta_forms.specs.Lists.{list_items}
use Rattle.meta_forms.specs.Members.{is_among, least_name, member_names}
use Rattle.meta_forms.specs.Faults.{named, ◌>>=◌}
use Rattle.meta_forms.specs.Judged.{text_in, whole_at, sizes_at, is_there, is_object_at, list_len_at, judged_len, judged_format, judged_shape, judged_chunks, judged_word}
use Rattle.meta_forms.specs.declared.error.MetaError.{MetaError}
use Rattle.meta_forms.specs.declared.error.MetaError.TheVariants as meta
use Rattle.meta_forms.specs.declared.error.Fault.{Fault}
use Rattle.meta_forms.specs.declared.error.Fault.TheVariants.{Bad, Unsupported}
use Rattle.zarr3_chunks.specs.Described.{known_members}
use Rattle.zarr3_chunks.specs.Metadata.{Metadata}

-- "array"; a group isn't supported
abbrev pub judged_node : Option (List ℕ) → Result (Unit {0}) Fault
judged_node None = Err Bad
judged_node (Some text) = if bytes_eq text (codes "array") then Ok tt else if bytes_eq text (codes "group") then Err Unsupported else Err Bad

abbrev pub supported : Option Dtype → Result Dtype Fault
supported None = Err Unsupported
supported (Some dtype) = Ok dtype

-- one of the eight names; another text and an object aren't supported
abbrev pub judged_dtype : Option (List ℕ) → Bool → Result Dtype Fault
judged_dtype None extended = if extended then Err Unsupported else Err Bad
judged_dtype (Some text) extended = supported (dtype_named text)

-- what is judged where the name is this one; another name isn't supported
abbrev pub of_name : {A : Type 0} → List ℕ → Option (List ℕ) → Result A Fault → Result A Fault
of_name wanted None judged = Err Bad
of_name wanted (Some name) judged = if bytes_eq name wanted then judged else Err Unsupported

-- the sizes of the chunks of a regular grid, as its configuration has them
abbrev pub grid_sizes : Data → Option (List ℕ)
grid_sizes g = option_and_then (sizes_at (codes "chunk_shape")) (get (codes "configuration") g)

abbrev pub judged_grid : ℕ → Option Data → Result (List ℕ) Fault
judged_grid rank None = Err Bad
judged_grid rank (Some g) = of_name (codes "regular") (text_in (codes "name") g) (judged_chunks rank (grid_sizes g))

-- "." or "/", whether "." stands
abbrev pub dot_named : List ℕ → Result Bool Fault
dot_named text = if bytes_eq text (codes "/") then Ok false else if bytes_eq text (codes ".") then Ok true else Err Bad

-- the same; where there is no such member, it is "/"
abbrev pub judged_dot : Bool → Option (List ℕ) → Result Bool Fault
judged_dot there None = if there then Err Bad else Ok false
judged_dot there (Some text) = dot_named text

abbrev pub dot_in : Option Data → Result Bool Fault
dot_in None = Ok false
dot_in (Some c) = if is_some (as_object c) then judged_dot (is_there (codes "separator") c) (text_in (codes "separator") c) else Err Bad

abbrev pub judged_keys : Option Data → Result Bool Fault
judged_keys None = Err Bad
judged_keys (Some e) = of_name (codes "default") (text_in (codes "name") e) (dot_in (get (codes "configuration") e))

-- an element has one byte
abbrev pub is_byte : Dtype → Bool
is_byte dtype = byte_count dtype == 1

-- a byte order need not be said where an element has one byte
abbrev pub unsaid : Dtype → Result Bool Fault
unsaid dtype = if is_byte dtype then Ok false else Err Bad

-- "little" or "big", which are equal where an element has one byte
abbrev pub endian_named : Dtype → List ℕ → Result Bool Fault
endian_named dtype text =
    if bytes_eq text (codes "little") then Ok false else if bytes_eq text (codes "big") then Ok (not (is_byte dtype)) else Err Bad

abbrev pub judged_endian : Dtype → Bool → Option (List ℕ) → Result Bool Fault
judged_endian dtype there None = if there then Err Bad else unsaid dtype
judged_endian dtype there (Some text) = endian_named dtype text

abbrev pub endian_in : Dtype → Option Data → Result Bool Fault
endian_in dtype None = unsaid dtype
endian_in dtype (Some c) = if is_some (as_object c) then judged_endian dtype (is_there (codes "endian") c) (text_in (codes "endian") c) else Err Bad

-- the codec "bytes" alone; another list of codecs isn't supported
abbrev pub sole_codec : Dtype → List Data → Result Bool Fault
sole_codec dtype [] = Err Unsupported
sole_codec dtype (x ∷ []) = of_name (codes "bytes") (text_in (codes "name") x) (endian_in dtype (get (codes "configuration") x))
sole_codec dtype (x ∷ y ∷ ds) = Err Unsupported

-- each codec has a name
abbrev pub are_named : List Data → Bool
are_named ds = list_all (λ x. is_some (text_in (codes "name") x)) ds

abbrev pub judged_codecs : Dtype → Option (List Data) → Result Bool Fault
judged_codecs dtype None = Err Bad
judged_codecs dtype (Some ds) = if are_named ds then sole_codec dtype ds else Err Bad

-- no list, or an empty one; another list isn't supported
abbrev pub judged_transformers : Bool → Option ℕ → Result (Unit {0}) Fault
judged_transformers there len = if there then judged_len len else Ok tt

-- the flag is there and false
abbrev pub says_no : Option Bool → Bool
says_no None = false
says_no (Some b) = not b

-- a member is an object that need not be understood
abbrev pub is_passed : List ℕ → Data → Bool
is_passed name d = says_no (option_and_then as_bool (option_and_then (get (codes "must_understand")) (get name d)))

-- the least name of a member that isn't known and would have to be understood
abbrev pub unread_member : Data → Option (List ℕ)
unread_member d = least_name (filter (λ name. not (is_among name known_members) && not (is_passed name d)) (member_names d))

abbrev pub all_read : Option (List ℕ) → Result (Unit {0}) MetaError
all_read None = Ok tt
all_read (Some name) = Err (meta.Unsupported name)

-- the metadata of an object, the first fault in the order of the members
abbrev pub metadata_of_members : Data → Result Metadata MetaError
metadata_of_members d = do
  _ ← named (codes "zarr_format") (judged_format 3 (whole_at (codes "zarr_format") d))
  _ ← named (codes "node_type") (judged_node (text_in (codes "node_type") d))
  shape ← named (codes "shape") (judged_shape (sizes_at (codes "shape") d))
  dtype ← named (codes "data_type") (judged_dtype (text_in (codes "data_type") d) (is_object_at (codes "data_type") d))
  chunks ← named (codes "chunk_grid") (judged_grid (length shape) (get (codes "chunk_grid") d))
  dot ← named (codes "chunk_key_encoding") (judged_keys (get (codes "chunk_key_encoding") d))
  fill ← named (codes "fill_value") (judged_word dtype (whole_at (codes "fill_value") d))
  big ← named (codes "codecs") (judged_codecs dtype (option_and_then list_items (get (codes "codecs") d)))
  _ ← named (codes "storage_transformers") (judged_transformers (is_there (codes "storage_transformers") d) (list_len_at (codes "storage_transformers") d))
  _ ← all_read (unread_member d)
  Ok (record { shape = shape; chunks = chunks; dtype = dtype; big = big; fill = fill; dot = dot })

-- the metadata that bytes are, if they are an object
abbrev pub metadata_of_data : Option Data → Result Metadata MetaError
metadata_of_data None = Err meta.NotJson
metadata_of_data (Some d) = if is_some (as_object d) then metadata_of_members d else Err meta.NotJson

-- the metadata that bytes are, or what is wrong with them
abbrev pub metadata_of : List ℕ → Result Metadata MetaError
metadata_of bytes = metadata_of_data (data_of bytes)
