use Rattle.std.proofs.Common.{sym, ◌∙◌}
use Rattle.chunk_forms.specs.Metadata.{dtype_of}
use Rattle.chunk_plans.proofs.LeavingLaws.{same_dtypes}
use Rattle.chunk_plans.proofs.planning.is_of_form.Goals as goal

pub returns : goal.returns
returns c = λ yes. record {
  dtype = same_dtypes c.args.cells.now.dtype (dtype_of c.args.form.now) (sym c.has_dtype.ensures ∙ c.if-not-has_dtype.false);
  shape = c.has_shape.ensures yes;
}
