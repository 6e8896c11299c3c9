use Rattle.std.proofs.Common.{◌∙◌, List, sym, ap}
use Rattle.index_intervals.specs.Bounds.{Bounds}
use Rattle.transform_composition.specs.declared.Domain.{Domain}
use Rattle.dim_changes.specs.Causes.{first_cause, over}
use Rattle.dim_changes.specs.CutViews.{cut_causes, cut_view, cut_answer}
use Rattle.dim_changes.proofs.CutViews.{cut_answer-over}
use Rattle.dim_changes.proofs.OverLaws.{gives-same}
use Rattle.dim_changes.proofs.cutting.with_cuts.Goals as goal

pub returns : goal.returns
returns c =
    let u = c.args.u.now in
    let dims = c.items-dims.ensures ∙ ap (λ (d : Domain). d.dims) c.domain.ensures.value in
    let none = ap (λ (ds : List Bounds). first_cause (cut_causes c.args.act.now ds c.args.selected.now)) (sym dims) ∙ sym c.cut_causes.ensures ∙ c.in_default.is in
    gives-same u (cut_view u c.args.selected.now c.args.act.now) (over u (cut_view u c.args.selected.now c.args.act.now)) (cut_answer u c.args.selected.now c.args.act.now) c.cut_over.result
    (cut_answer-over u c.args.selected.now c.args.act.now (sym c.cut_counts.ensures ∙ c.if-not-cut_counts.false) none) c.cut_over.ensures
