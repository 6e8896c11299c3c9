-- What a Spec's metadata asks of an array in Zarr version 2.
use Rattle.std.specs.Prelude.{ℕ, ℤ, List, [], ◌∷◌, codes, Bool, Option, Some, None, Result, Ok, Err, option_map, is_some, if◌then◌else◌}
use Rattle.serde_json.specs.Data.{Data}
use Rattle.serde_json.specs.Find.{as_object}
use Rattle.cells.specs.declared.dtype.Dtype.{Dtype}
use Rattle.json_forms.specs.Members.{least_unknown}
use Rattle.meta_forms.specs.Faults.{◌>>=◌}
use Rattle.meta_forms.specs.Judged.{text_in, whole_at, sizes_at, is_there, is_null_at, is_object_at, list_len_at, judged_format, judged_shape}
use Rattle.meta_forms.specs.declared.error.MetaError.{MetaError}
use Rattle.meta_forms.specs.declared.error.MetaError.TheVariants.{NotJson}
use Rattle.meta_forms.specs.declared.error.Fault.{Fault}
use Rattle.chunk_forms.specs.ZarrRead.{judged_type, judged_compressor, filled, judged_order, judged_filters, judged_separator}
use Rattle.chunk_forms.specs.Want.{Want}
use Rattle.chunk_forms.specs.declared.ElementType.{ElementType}
use Rattle.want_forms.specs.Asking.{in_turn, none_left, if_right, word_asked}
use Rattle.want_forms.specs.Sizes.{judged_beside}
use Rattle.want_forms.specs.declared.zarr.Rest.{Rest}
use Rattle.want_forms.specs.declared.zarr.TypeAsked.{TypeAsked}

-- the members that may be there
abbrev pub zarr_members : List (List ℕ)
zarr_members =
    codes "chunks" ∷ codes "compressor" ∷ codes "dimension_separator" ∷ codes "dtype" ∷ codes "fill_value" ∷ codes "filters"
    ∷ codes "order" ∷ codes "shape" ∷ codes "zarr_format" ∷ []

-- the type that the member `dtype` names
unfoldable pub type_at : Data → Result ElementType Fault
type_at d = judged_type (text_in (codes "dtype") d) (is_some (list_len_at (codes "dtype") d))

-- the dtype of a right member `dtype`
unfoldable pub zarr_dtype : Data → Option Dtype
zarr_dtype d = option_map (λ (t : ElementType). t.dtype) (if_right (type_at d))

-- the dtype and byte order that are asked: those of the member, or else the Spec's own dtype in any order
unfoldable pub type_asked : Option Dtype → Option ElementType → TypeAsked
type_asked own None = record { dtype = own; big = None }
type_asked own (Some t) = record { dtype = Some t.dtype; big = Some t.big }

-- null, or the word of a whole number
unfoldable pub fill_asked : Option Dtype → Bool → Option ℤ → Result (Option ℕ) Fault
fill_asked dtype none number = if none then Ok None else filled (word_asked dtype number)

-- what the members between the two shapes ask, the first fault in byte order
unfoldable pub rest_asked : Option (List ℕ) → Option Dtype → Data → Result Rest MetaError
rest_asked unknown dtype d = do
  _ ← in_turn unknown (codes "compressor") d (judged_compressor (is_null_at (codes "compressor") d) (is_object_at (codes "compressor") d))
  slash ← in_turn unknown (codes "dimension_separator") d
      (judged_separator (is_there (codes "dimension_separator") d) (text_in (codes "dimension_separator") d))
  _ ← in_turn unknown (codes "dtype") d (type_at d)
  fill ← in_turn unknown (codes "fill_value") d
      (fill_asked dtype (is_null_at (codes "fill_value") d) (whole_at (codes "fill_value") d))
  _ ← in_turn unknown (codes "filters") d (judged_filters (is_null_at (codes "filters") d) (list_len_at (codes "filters") d))
  order ← in_turn unknown (codes "order") d (judged_order (text_in (codes "order") d))
  Ok (record { fill = fill; order = order; slash = slash })

-- the shape, and the members behind it
unfoldable pub shape_asked : Option (List ℕ) → Data → Result (Option (List ℕ)) MetaError
shape_asked unknown d = do
  shape ← in_turn unknown (codes "shape") d (judged_shape (sizes_at (codes "shape") d))
  _ ← in_turn unknown (codes "zarr_format") d (judged_format 2 (whole_at (codes "zarr_format") d))
  _ ← none_left unknown
  Ok shape

abbrev pub with_rest : Option (List ℕ) → Option (List ℕ) → TypeAsked → Rest → Want
with_rest shape chunks t rest = record {
  shape = shape;
  chunks = chunks;
  dtype = t.dtype;
  big = t.big;
  fill = rest.fill;
  order = rest.order;
  slash = rest.slash;
}

-- what the members of an object ask, where this type is asked; the first fault in byte order
unfoldable pub members_asked : Option (List ℕ) → TypeAsked → Data → Result Want MetaError
members_asked unknown t d = do
  chunks ← in_turn unknown (codes "chunks") d (judged_beside 0 (list_len_at (codes "shape") d) (sizes_at (codes "chunks") d))
  rest ← rest_asked unknown t.dtype d
  shape ← shape_asked unknown d
  Ok (with_rest shape chunks t rest)

-- what an object asks beside a dtype of the Spec's own
unfoldable pub zarr_object : Option Dtype → Data → Result Want MetaError
zarr_object own d = members_asked (least_unknown zarr_members d) (type_asked own (if_right (type_at d))) d

-- what is asked of an array, maybe without metadata
unfoldable pub zarr_want : Option Dtype → Option Data → Result Want MetaError
zarr_want own None = Ok (record { shape = None; chunks = None; dtype = own; big = None; fill = None; order = None; slash = None })
zarr_want own (Some d) = if is_some (as_object d) then zarr_object own d else Err NotJson
