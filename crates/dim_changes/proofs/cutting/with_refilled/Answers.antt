use Rattle.std.proofs.Common.{◌≡◌, ◌∙◌, ℕ, List, Ok, length, sym, ap, subst, true}
use Rattle.std.specs.List.{list_all}
use Rattle.index_intervals.specs.Bounds.{Bounds}
use Rattle.transform_composition.specs.declared.Domain.{Domain}
use Rattle.transform_composition.specs.Maps.{is_map}
use Rattle.transform_composition.specs.Transforms.{DomainAndMaps, on_dims}
use Rattle.step_forms.specs.declared.act.Act.{Act}
use Rattle.dim_changes.specs.Causes.{Gives, over}
use Rattle.dim_changes.specs.CutViews.{cut_view}
use Rattle.dim_changes.specs.Emptied.{refilled_dims}
use Rattle.dim_changes.proofs.EmptiedLaws.{length-refilled, length-composed, fit-refilled, Gives-refilled}
use Rattle.dim_changes.proofs.cutting.with_refilled.Goals as goal

-- the dimensions that are made, by what they are made of
made : (a : Act) (olds us news ts : List Bounds) (selected : List ℕ) (dims : List Bounds) → olds ≡ us → news ≡ ts → dims ≡ refilled_dims a olds selected news → dims ≡ refilled_dims a us selected ts
made a olds us news ts selected dims o n e =
    e ∙ ap (λ (ds : List Bounds). refilled_dims a ds selected news) o ∙ ap (λ (ds : List Bounds). refilled_dims a us selected ds) n

pub refilled_dims-requires-clause-same : goal.refilled_dims-requires-clause-same
refilled_dims-requires-clause-same c =
    let olds = c.items-olds.ensures ∙ ap (λ (d : Domain). d.dims) c.domain.ensures.value in
    let news = c.items.ensures ∙ ap (λ (d : Domain). d.dims) c.domain-2.ensures.value in
    ap length news ∙ length-composed c.args.act.now c.args.u.now c.args.selected.now c.args.t c.domain.ensures.well_formed c.requires.composed ∙ sym (ap length olds)

pub set_dims-requires-clause-rank : goal.set_dims-requires-clause-rank
set_dims-requires-clause-rank c =
    let olds = c.items-olds.ensures ∙ ap (λ (d : Domain). d.dims) c.domain.ensures.value in
    let news = c.items.ensures ∙ ap (λ (d : Domain). d.dims) c.domain-2.ensures.value in
    let dims = made c.args.act.now c.items-olds.result.now c.args.u.now.domain.dims c.items.result.now c.args.t.domain.dims c.args.selected.now c.in_ok-dims.dims.items olds news c.in_ok-dims.ensures.value in
    ap length dims ∙ length-refilled c.args.act.now c.args.u.now.domain.dims c.args.selected.now c.args.t.domain.dims
    ∙ sym (length-composed c.args.act.now c.args.u.now c.args.selected.now c.args.t c.domain.ensures.well_formed c.requires.composed)

pub set_dims-requires-clause-fit : goal.set_dims-requires-clause-fit
set_dims-requires-clause-fit c =
    let olds = c.items-olds.ensures ∙ ap (λ (d : Domain). d.dims) c.domain.ensures.value in
    let news = c.items.ensures ∙ ap (λ (d : Domain). d.dims) c.domain-2.ensures.value in
    let dims = made c.args.act.now c.items-olds.result.now c.args.u.now.domain.dims c.items.result.now c.args.t.domain.dims c.args.selected.now c.in_ok-dims.dims.items olds news c.in_ok-dims.ensures.value in
    subst (λ (ds : List Bounds). list_all (is_map ds) c.args.t.maps ≡ true) (sym dims)
    (fit-refilled c.args.act.now c.args.u.now c.args.selected.now c.args.t c.domain.ensures.well_formed c.domain-2.ensures.well_formed c.requires.composed)

pub returns : goal.returns
returns c =
    let u = c.args.u.now in
    let view : DomainAndMaps = cut_view u c.args.selected.now c.args.act.now in
    let olds = c.items-olds.ensures ∙ ap (λ (d : Domain). d.dims) c.domain.ensures.value in
    let news = c.items.ensures ∙ ap (λ (d : Domain). d.dims) c.domain-2.ensures.value in
    let dims = made c.args.act.now c.items-olds.result.now c.args.u.now.domain.dims c.items.result.now c.args.t.domain.dims c.args.selected.now c.in_ok-dims.dims.items olds news c.in_ok-dims.ensures.value in
    let same : c.set_dims.new.self ≡ on_dims c.args.t (refilled_dims c.args.act.now u.domain.dims c.args.selected.now c.args.t.domain.dims) = c.set_dims.ensures ∙ ap (on_dims c.args.t) dims in
    subst (λ (t : DomainAndMaps). Gives u view (over u view) (Ok t)) (sym same)
    (Gives-refilled c.args.act.now u c.args.selected.now c.args.t c.domain.ensures.well_formed c.requires.indices c.requires.composed)
