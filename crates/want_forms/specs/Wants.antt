-- What a Spec's metadata asks, in each form.
use Rattle.std.specs.Prelude.{Option, Result, Ok, Err}
use Rattle.serde_json.specs.Data.{Data}
use Rattle.cells.specs.declared.dtype.Dtype.{Dtype}
use Rattle.chunk_forms.specs.declared.form.Want.{Want}
use Rattle.chunk_forms.specs.declared.form.Want.TheVariants as want
use Rattle.meta_forms.specs.declared.error.MetaError.{MetaError}
use Rattle.want_forms.specs.N5.{n5_dtype, n5_want}
use Rattle.want_forms.specs.Zarr.{zarr_dtype, zarr_want}
use Rattle.want_forms.specs.Zarr3.{zarr3_dtype, zarr3_want}
use Rattle.want_forms.specs.declared.format.Format.{Format}
use Rattle.want_forms.specs.declared.format.Format.TheVariants as format

abbrev pub in_form : {A : Type 0} → (A → Want) → Result A MetaError → Result Want MetaError
in_form f (Ok w) = Ok (f w)
in_form f (Err e) = Err e

-- what is asked of an array of a format, beside a dtype of the Spec's own
unfoldable pub want_of : Format → Option Dtype → Option Data → Result Want MetaError
want_of format.Zarr own d = in_form want.Zarr (zarr_want own d)
want_of format.N5 own d = in_form want.N5 (n5_want own d)
want_of format.Zarr3 own d = in_form want.Zarr3 (zarr3_want own d)

-- the dtype that metadata names, where the member that names it is right
unfoldable pub named_dtype : Format → Data → Option Dtype
named_dtype format.Zarr d = zarr_dtype d
named_dtype format.N5 d = n5_dtype d
named_dtype format.Zarr3 d = zarr3_dtype d
