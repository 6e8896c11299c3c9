use Rattle.std.proofs.Common.{◌≡◌, ◌∙◌, [], None}
use Rattle.std.proofs.lemmas.Result.{IfOk-weaker}
use Rattle.line_acts.specs.Openings.{leaf_of}
use Rattle.stated_arrays.specs.Takings.{taking, ref_of_leaf}
use Rattle.stated_acts.proofs.ReferenceLaws.{lying_of}
use Rattle.stated_acts.proofs.opened_views.lying.Goals as goal

pub returns-in-Zarr : goal.returns-in-Zarr
returns-in-Zarr c =
    let h = c.args.openings.now.events in
    IfOk-weaker c.lying_at.result _ (λ array. ref_of_leaf h (taking (leaf_of [] c.args.leaf.now) None) ≡ array) (λ array is. lying_of h c.args.leaf.now _ c.in-Zarr.is ∙ is) c.lying_at.ensures

pub returns-in-N5 : goal.returns-in-N5
returns-in-N5 c =
    let h = c.args.openings.now.events in
    IfOk-weaker c.lying_at-in-N5.result _ (λ array. ref_of_leaf h (taking (leaf_of [] c.args.leaf.now) None) ≡ array) (λ array is. lying_of h c.args.leaf.now _ c.in-N5.is ∙ is) c.lying_at-in-N5.ensures

pub returns-in-Zarr3 : goal.returns-in-Zarr3
returns-in-Zarr3 c =
    let h = c.args.openings.now.events in
    IfOk-weaker c.lying_at-in-Zarr3.result _ (λ array. ref_of_leaf h (taking (leaf_of [] c.args.leaf.now) None) ≡ array) (λ array is. lying_of h c.args.leaf.now _ c.in-Zarr3.is ∙ is) c.lying_at-in-Zarr3.ensures

pub returns-in-Given : goal.returns-in-Given
returns-in-Given c = lying_of c.args.openings.now.events c.args.leaf.now _ c.in-Given.is
