use Rattle.std.proofs.Common.{sym, subst}
use Rattle.array_homes.specs.Answers.{of_zarr, of_n5, of_zarr3}
use Rattle.array_homes.proofs.ReadingLaws.{IsCaused, IsUnspelled, zarr_caused, n5_caused, zarr3_caused, zarr_unspelled, n5_unspelled, zarr3_unspelled}
use Rattle.array_homes.proofs.read.read_form.Goals as goal

pub returns-in-Zarr-clause-causes : goal.returns-in-Zarr-clause-causes
returns-in-Zarr-clause-causes c =
    subst (IsCaused c.args.want.now c.args.bytes.now) (sym c.of_zarr.ensures)
    (subst (λ w. IsCaused w c.args.bytes.now (of_zarr c.read_meta.result)) (sym c.in-Zarr.is) (zarr_caused c.in-Zarr.want c.args.bytes.now c.read_meta.result c.read_meta.ensures.causes))

pub returns-in-Zarr-clause-none : goal.returns-in-Zarr-clause-none
returns-in-Zarr-clause-none c =
    subst (IsUnspelled c.args.want.now c.args.bytes.now) (sym c.of_zarr.ensures)
    (subst (λ w. IsUnspelled w c.args.bytes.now (of_zarr c.read_meta.result)) (sym c.in-Zarr.is) (zarr_unspelled c.in-Zarr.want c.args.bytes.now c.read_meta.result c.read_meta.ensures.causes))

pub returns-in-N5-clause-causes : goal.returns-in-N5-clause-causes
returns-in-N5-clause-causes c =
    subst (IsCaused c.args.want.now c.args.bytes.now) (sym c.of_n5.ensures)
    (subst (λ w. IsCaused w c.args.bytes.now (of_n5 c.read_meta-in-N5.result)) (sym c.in-N5.is) (n5_caused c.in-N5.want c.args.bytes.now c.read_meta-in-N5.result c.read_meta-in-N5.ensures.causes))

pub returns-in-N5-clause-none : goal.returns-in-N5-clause-none
returns-in-N5-clause-none c =
    subst (IsUnspelled c.args.want.now c.args.bytes.now) (sym c.of_n5.ensures)
    (subst (λ w. IsUnspelled w c.args.bytes.now (of_n5 c.read_meta-in-N5.result)) (sym c.in-N5.is) (n5_unspelled c.in-N5.want c.args.bytes.now c.read_meta-in-N5.result c.read_meta-in-N5.ensures.causes))

pub returns-in-Zarr3-clause-causes : goal.returns-in-Zarr3-clause-causes
returns-in-Zarr3-clause-causes c =
    subst (IsCaused c.args.want.now c.args.bytes.now) (sym c.of_zarr3.ensures)
    (subst (λ w. IsCaused w c.args.bytes.now (of_zarr3 c.read_meta-in-Zarr3.result)) (sym c.in-Zarr3.is) (zarr3_caused c.in-Zarr3.want c.args.bytes.now c.read_meta-in-Zarr3.result c.read_meta-in-Zarr3.ensures.causes))

pub returns-in-Zarr3-clause-none : goal.returns-in-Zarr3-clause-none
returns-in-Zarr3-clause-none c =
    subst (IsUnspelled c.args.want.now c.args.bytes.now) (sym c.of_zarr3.ensures)
    (subst (λ w. IsUnspelled w c.args.bytes.now (of_zarr3 c.read_meta-in-Zarr3.result)) (sym c.in-Zarr3.is) (zarr3_unspelled c.in-Zarr3.want c.args.bytes.now c.read_meta-in-Zarr3.result c.read_meta-in-Zarr3.ensures.causes))
