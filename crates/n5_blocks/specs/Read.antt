-- What reading metadata gives: the metadata, or the first fault in the order of the members.
use Rattle.std.specs.Prelude.{ℕ, List, length, codes, Option, Some, None, Result, Ok, Err, ◌==◌, option_and_then, is_some, if◌then◌else◌}
use Rattle.std.specs.Str.{bytes_eq}
use Rattle.serde_json.specs.Data.{Data}
use Rattle.serde_json.specs.Find.{get, as_object}
use Rattle.chunk_elements.specs.DtypeNames.{dtype_named}
use Rattle.chunk_elements.specs.declared.Dtype.{Dtype}
use Rattle.meta_forms.specs.Bytes.{data_of}
use Rattle.meta_forms.specs.Faults.{named, ◌>>=◌}
use Rattle.meta_forms.specs.Judged.{text_in, sizes_at, judged_shape, judged_chunks}
use Rattle.meta_forms.specs.declared.error.MetaError.{MetaError}
use Rattle.meta_forms.specs.declared.error.MetaError.TheVariants.{NotJson}
use Rattle.meta_forms.specs.declared.error.Fault.{Fault}
use Rattle.meta_forms.specs.declared.error.Fault.TheVariants.{Bad, Unsupported}
use Rattle.n5_blocks.specs.Metadata.{Metadata}

-- the sizes of an array; an array without a dimension isn't supported
abbrev pub judged_dimensions : Option (List ℕ) → Result (List ℕ) Fault
judged_dimensions None = Err Bad
judged_dimensions (Some sizes) = if length sizes == 0 then Err Unsupported else judged_shape (Some sizes)

abbrev pub supported : Option Dtype → Result Dtype Fault
supported None = Err Unsupported
supported (Some dtype) = Ok dtype

-- the dtype that a text names; another text isn't supported
abbrev pub judged_dtype : Option (List ℕ) → Result Dtype Fault
judged_dtype None = Err Bad
judged_dtype (Some text) = supported (dtype_named text)

-- the type of a compression has to be "raw"; another text isn't supported
abbrev pub judged_compression : Option (List ℕ) → Result (Unit {0}) Fault
judged_compression None = Err Bad
judged_compression (Some text) = if bytes_eq text (codes "raw") then Ok tt else Err Unsupported

-- the text of the type of an object's compression
abbrev pub compression_in : Data → Option (List ℕ)
compression_in d = option_and_then (text_in (codes "type")) (get (codes "compression") d)

-- the metadata of an object: its dimensions, its block sizes, its dtype and its compression, the first fault in this order
abbrev pub metadata_of_members : Data → Result Metadata MetaError
metadata_of_members d = do
  dimensions ← named (codes "dimensions") (judged_dimensions (sizes_at (codes "dimensions") d))
  block ← named (codes "blockSize") (judged_chunks (length dimensions) (sizes_at (codes "blockSize") d))
  dtype ← named (codes "dataType") (judged_dtype (text_in (codes "dataType") d))
  _ ← named (codes "compression") (judged_compression (compression_in d))
  Ok (record { dimensions = dimensions; block = block; dtype = dtype })

-- the metadata that bytes are, if they are an object
abbrev pub metadata_of_data : Option Data → Result Metadata MetaError
metadata_of_data None = Err NotJson
metadata_of_data (Some d) = if is_some (as_object d) then metadata_of_members d else Err NotJson

-- the metadata that bytes are, or what is wrong with them
abbrev pub metadata_of : List ℕ → Result Metadata MetaError
metadata_of bytes = metadata_of_data (data_of bytes)
