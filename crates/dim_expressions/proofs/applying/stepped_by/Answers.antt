use Rattle.std.proofs.Common.{◌≡◌, ◌∙◌, ap, sym}
use Rattle.step_forms.specs.declared.act.Act.TheVariants as act
use Rattle.dim_expressions.proofs.Outcomes.{outcome-at, outcome-diagonal, outcome-transpose, outcome-oindex, outcome-vindex, outcome-newaxis, outcome-label, outcome-mark}
use Rattle.dim_expressions.proofs.applying.stepped_by.Goals as goal

pub returns-in-Label : goal.returns-in-Label
returns-in-Label c =
    let is : act.Label c.items.result.now ≡ c.args.act.now = ap act.Label c.items.ensures ∙ sym c.in-Label.is in
    outcome-label c.args.t.now c.args.dims.now c.items.result.now c.args.act.now c.labelled.result is c.labelled.ensures.ok c.labelled.ensures.err

pub returns-in-Transpose : goal.returns-in-Transpose
returns-in-Transpose c =
    let is : act.Transpose c.items-in-Transpose.result.now ≡ c.args.act.now = ap act.Transpose c.items-in-Transpose.ensures ∙ sym c.in-Transpose.is in
    outcome-transpose c.args.t.now c.args.dims.now c.items-in-Transpose.result.now c.args.act.now c.transpose.result is c.transpose.ensures

pub returns-in-Diagonal : goal.returns-in-Diagonal
returns-in-Diagonal c = outcome-diagonal c.args.t.now c.args.dims.now c.args.act.now c.diagonal.result (sym c.in-Diagonal.is) c.diagonal.ensures

pub returns-in-At : goal.returns-in-At
returns-in-At c = outcome-at c.args.t.now c.args.dims.now c.in-At.by c.args.act.now c.at.result (sym c.in-At.is) c.at.ensures

pub returns-in-Oindex : goal.returns-in-Oindex
returns-in-Oindex c =
    let is : act.Oindex c.items-in-Oindex.result.now ≡ c.args.act.now = ap act.Oindex c.items-in-Oindex.ensures ∙ sym c.in-Oindex.is in
    outcome-oindex c.args.t.now c.args.dims.now c.items-in-Oindex.result.now c.args.act.now c.oindex.result is c.oindex.ensures

pub returns-in-Vindex : goal.returns-in-Vindex
returns-in-Vindex c =
    let is : act.Vindex c.items-in-Vindex.result.now ≡ c.args.act.now = ap act.Vindex c.items-in-Vindex.ensures ∙ sym c.in-Vindex.is in
    outcome-vindex c.args.t.now c.args.dims.now c.items-in-Vindex.result.now c.args.act.now c.vindex.result is c.vindex.ensures

pub returns-in-Newaxis : goal.returns-in-Newaxis
returns-in-Newaxis c = outcome-newaxis c.args.t.now c.args.dims.now c.args.act.now c.newaxis.result (sym c.in-Newaxis.is) c.newaxis.ensures

pub returns-in-MarkBoundsImplicit : goal.returns-in-MarkBoundsImplicit
returns-in-MarkBoundsImplicit c =
    outcome-mark c.args.t.now c.args.dims.now _ _ c.args.act.now c.with_marks.result (sym c.in-MarkBoundsImplicit.is) c.with_marks.ensures.ok c.with_marks.ensures.err c.with_marks.ensures.values
