-- What a Spec's metadata asks of an array in Zarr version 3.
use Rattle.std.specs.Prelude.{ℕ, List, [], ◌∷◌, codes, Bool, Option, Some, None, Result, Ok, Err, option_and_then, unwrap_or, is_some, if◌then◌else◌}
use Rattle.std.specs.Option.{option_or}
use Rattle.serde_json.specs.Data.{Data}
use Rattle.serde_json.specs.Find.{get, as_object}
use Rattle.cells.specs.declared.dtype.Dtype.{Dtype}
use Rattle.cells.specs.declared.dtype.Dtype.TheVariants.{I16}
use Rattle.json_forms.specs.Lists.{list_items}
use Rattle.json_forms.specs.Members.{least_unknown}
use Rattle.meta_forms.specs.Faults.{◌>>=◌}
use Rattle.meta_forms.specs.Judged.{text_in, whole_at, sizes_at, is_object_at, list_len_at, judged_format, judged_shape}
use Rattle.meta_forms.specs.declared.error.MetaError.{MetaError}
use Rattle.meta_forms.specs.declared.error.MetaError.TheVariants.{NotJson}
use Rattle.meta_forms.specs.declared.error.Fault.{Fault}
use Rattle.meta_forms.specs.declared.error.Fault.TheVariants.{Bad}
use Rattle.zarr3_chunks.specs.Read.{judged_node, judged_dtype, of_name, grid_sizes, judged_keys, judged_codecs}
use Rattle.zarr3_chunks.specs.Want.{Want}
use Rattle.want_forms.specs.Asking.{in_turn, none_left, if_right, word_asked}
use Rattle.want_forms.specs.Sizes.{judged_beside}
use Rattle.want_forms.specs.declared.zarr3.Rest.{Rest}

-- the members that may be there
abbrev pub zarr3_members : List (List ℕ)
zarr3_members =
    codes "chunk_grid" ∷ codes "chunk_key_encoding" ∷ codes "codecs" ∷ codes "data_type" ∷ codes "fill_value" ∷ codes "node_type"
    ∷ codes "shape" ∷ codes "zarr_format" ∷ []

unfoldable pub dtype_at : Data → Result Dtype Fault
dtype_at d = judged_dtype (text_in (codes "data_type") d) (is_object_at (codes "data_type") d)

-- the dtype of a right member `data_type`
unfoldable pub zarr3_dtype : Data → Option Dtype
zarr3_dtype d = if_right (dtype_at d)

-- a regular grid, whose chunks have as many sizes as the shape has items, if it is a list
unfoldable pub grid_asked : Option ℕ → Option Data → Result (List ℕ) Fault
grid_asked rank None = Err Bad
grid_asked rank (Some g) = of_name (codes "regular") (text_in (codes "name") g) (judged_beside 0 rank (grid_sizes g))

-- the codecs; where no dtype is named, those of elements of several bytes
unfoldable pub codecs_asked : Option Dtype → Data → Result Bool Fault
codecs_asked dtype d = judged_codecs (unwrap_or dtype I16) (option_and_then list_items (get (codes "codecs") d))

-- what the members between the grid and the shape ask, the first fault in byte order
unfoldable pub rest_asked : Option (List ℕ) → Option Dtype → Data → Result Rest MetaError
rest_asked unknown dtype d = do
  dot ← in_turn unknown (codes "chunk_key_encoding") d (judged_keys (get (codes "chunk_key_encoding") d))
  big ← in_turn unknown (codes "codecs") d (codecs_asked dtype d)
  _ ← in_turn unknown (codes "data_type") d (dtype_at d)
  fill ← in_turn unknown (codes "fill_value") d (word_asked dtype (whole_at (codes "fill_value") d))
  _ ← in_turn unknown (codes "node_type") d (judged_node (text_in (codes "node_type") d))
  Ok (record { big = big; fill = fill; dot = dot })

-- the shape, and the members behind it
unfoldable pub shape_asked : Option (List ℕ) → Data → Result (Option (List ℕ)) MetaError
shape_asked unknown d = do
  shape ← in_turn unknown (codes "shape") d (judged_shape (sizes_at (codes "shape") d))
  _ ← in_turn unknown (codes "zarr_format") d (judged_format 3 (whole_at (codes "zarr_format") d))
  _ ← none_left unknown
  Ok shape

abbrev pub with_rest : Option (List ℕ) → Option (List ℕ) → Option Dtype → Rest → Want
with_rest shape chunks dtype rest =
    record { shape = shape; chunks = chunks; dtype = dtype; big = rest.big; fill = rest.fill; dot = rest.dot }

-- what the members of an object ask, where this dtype is named; the first fault in byte order
unfoldable pub members_asked : Option (List ℕ) → Option Dtype → Data → Result Want MetaError
members_asked unknown dtype d = do
  chunks ← in_turn unknown (codes "chunk_grid") d (grid_asked (list_len_at (codes "shape") d) (get (codes "chunk_grid") d))
  rest ← rest_asked unknown dtype d
  shape ← shape_asked unknown d
  Ok (with_rest shape chunks dtype rest)

-- what an object asks beside a dtype of the Spec's own; the dtype is the member's, or else the Spec's
unfoldable pub zarr3_object : Option Dtype → Data → Result Want MetaError
zarr3_object own d = members_asked (least_unknown zarr3_members d) (option_or (zarr3_dtype d) own) d

-- what is asked of an array, maybe without metadata
unfoldable pub zarr3_want : Option Dtype → Option Data → Result Want MetaError
zarr3_want own None = Ok (record { shape = None; chunks = None; dtype = own; big = None; fill = None; dot = None })
zarr3_want own (Some d) = if is_some (as_object d) then zarr3_object own d else Err NotJson
