-- What a Spec's metadata asks of an array in N5.
use Rattle.std.specs.Prelude.{ℕ, List, [], ◌∷◌, codes, Option, Some, None, Result, Ok, Err, is_some, if◌then◌else◌}
use Rattle.std.specs.Option.{option_or}
use Rattle.serde_json.specs.Data.{Data}
use Rattle.serde_json.specs.Find.{as_object}
use Rattle.cells.specs.declared.dtype.Dtype.{Dtype}
use Rattle.json_forms.specs.Members.{least_unknown}
use Rattle.meta_forms.specs.Faults.{◌>>=◌}
use Rattle.meta_forms.specs.Judged.{text_in, sizes_at, list_len_at}
use Rattle.meta_forms.specs.declared.error.MetaError.{MetaError}
use Rattle.meta_forms.specs.declared.error.MetaError.TheVariants.{NotJson}
use Rattle.chunk_forms.specs.N5Read.{judged_dimensions, judged_dtype, judged_compression, compression_in}
use Rattle.chunk_forms.specs.N5Want.{Want}
use Rattle.want_forms.specs.Asking.{in_turn, none_left, if_right}
use Rattle.want_forms.specs.Sizes.{judged_beside}

-- the members that may be there
abbrev pub n5_members : List (List ℕ)
n5_members = codes "blockSize" ∷ codes "compression" ∷ codes "dataType" ∷ codes "dimensions" ∷ []

-- the dtype of a right member `dataType`
unfoldable pub n5_dtype : Data → Option Dtype
n5_dtype d = if_right (judged_dtype (text_in (codes "dataType") d))

-- the dimensions, and the members before them but the block's sizes
unfoldable pub dimensions_asked : Option (List ℕ) → Data → Result (Option (List ℕ)) MetaError
dimensions_asked unknown d = do
  _ ← in_turn unknown (codes "compression") d (judged_compression (compression_in d))
  _ ← in_turn unknown (codes "dataType") d (judged_dtype (text_in (codes "dataType") d))
  dimensions ← in_turn unknown (codes "dimensions") d (judged_dimensions (sizes_at (codes "dimensions") d))
  _ ← none_left unknown
  Ok dimensions

-- what the members of an object ask, where this dtype is named; the first fault in byte order
unfoldable pub members_asked : Option (List ℕ) → Option Dtype → Data → Result Want MetaError
members_asked unknown dtype d = do
  block ← in_turn unknown (codes "blockSize") d (judged_beside 1 (list_len_at (codes "dimensions") d) (sizes_at (codes "blockSize") d))
  dimensions ← dimensions_asked unknown d
  Ok (record { dimensions = dimensions; block = block; dtype = dtype })

-- what an object asks beside a dtype of the Spec's own; the dtype is the member's, or else the Spec's
unfoldable pub n5_object : Option Dtype → Data → Result Want MetaError
n5_object own d = members_asked (least_unknown n5_members d) (option_or (n5_dtype d) own) d

-- what is asked of an array, maybe without metadata
unfoldable pub n5_want : Option Dtype → Option Data → Result Want MetaError
n5_want own None = Ok (record { dimensions = None; block = None; dtype = own })
n5_want own (Some d) = if is_some (as_object d) then n5_object own d else Err NotJson
