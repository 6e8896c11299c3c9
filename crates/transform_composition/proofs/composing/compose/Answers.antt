use Rattle.std.proofs.Common.{◌∙◌, List, ap, sym}
use Rattle.std.specs.List.{position_from, list_all}
use Rattle.index_transform.specs.Bounds.{Bounds}
use Rattle.index_transform.specs.declared.domain.Domain.{Domain}
use Rattle.index_transform.specs.declared.map.OutMap.{OutMap}
use Rattle.transform_composition.specs.Tightening.{is_ordered}
use Rattle.transform_composition.specs.Composing.{passes_word, is_too_large}
use Rattle.transform_composition.proofs.JoinLemmas.{composed-passed, composed-large, tightened-at}
use Rattle.transform_composition.proofs.AgreeLemmas.{Agrees-composed, GoesInto-composed}
use Rattle.transform_composition.proofs.ReachLemmas.{KeepsComposed-joined}
use Rattle.transform_composition.proofs.composing.compose.Goals as goal

pub returns-in-Some-clause-err : goal.returns-in-Some-clause-err
returns-in-Some-clause-err c = λ e.
    composed-passed c.args.outer.now c.args.inner.now c.in_ok-dims.dims.items c.in-Some.output
    (tightened-at _ _ _ _ _ _ _
    (c.items.ensures ∙ ap (λ (d : Domain). d.dims) c.domain.ensures.value)
    (c.items-2.ensures ∙ ap (λ (d : Domain). d.dims) c.domain-2.ensures.value)
    c.maps.ensures.value c.in_ok-dims.ensures.ok)
    (sym c.in-Some.is ∙ c.first_passing.ensures.value
    ∙ ap (λ (gs : List OutMap). position_from (passes_word gs) 0 c.maps-2.result.now) c.maps-3.ensures.value
    ∙ ap (λ (ms : List OutMap). position_from (passes_word c.args.inner.now.maps) 0 ms) c.maps-2.ensures.value)

pub returns-in-Some-2-clause-err : goal.returns-in-Some-2-clause-err
returns-in-Some-2-clause-err c = λ e.
    composed-large c.args.outer.now c.args.inner.now c.in_ok-dims.dims.items c.in-Some-2.output
    (tightened-at _ _ _ _ _ _ _
    (c.items.ensures ∙ ap (λ (d : Domain). d.dims) c.domain.ensures.value)
    (c.items-2.ensures ∙ ap (λ (d : Domain). d.dims) c.domain-2.ensures.value)
    c.maps.ensures.value c.in_ok-dims.ensures.ok)
    (sym (c.first_passing.ensures.value
    ∙ ap (λ (gs : List OutMap). position_from (passes_word gs) 0 c.maps-2.result.now) c.maps-3.ensures.value
    ∙ ap (λ (ms : List OutMap). position_from (passes_word c.args.inner.now.maps) 0 ms) c.maps-2.ensures.value) ∙ c.in_default.is)
    (sym c.in-Some-2.is ∙ c.in_ok-output.ensures.value
    ∙ ap (λ (ds : List Bounds). position_from (is_too_large ds c.maps-4.result.now) 0 c.maps-5.result.now) c.deref.ensures.value
    ∙ ap (λ (gs : List OutMap). position_from (is_too_large c.in_ok-dims.dims.items gs) 0 c.maps-5.result.now) c.maps-4.ensures.value
    ∙ ap (λ (ms : List OutMap). position_from (is_too_large c.in_ok-dims.dims.items c.args.inner.now.maps) 0 ms) c.maps-5.ensures.value)

pub returns-clause-agrees : goal.returns-clause-agrees
returns-clause-agrees c =
    Agrees-composed c.args.outer.now c.args.inner.now c.in_ok-joined.field-0 c.in_ok-dims.dims.items c.domain-2.ensures.well_formed c.domain.ensures.well_formed
    (ap (λ (ds : List Bounds). list_all is_ordered ds) (sym (c.items.ensures ∙ ap (λ (d : Domain). d.dims) c.domain.ensures.value)) ∙ c.in_ok-dims.ensures.ordered)
    (tightened-at _ _ _ _ _ _ _
    (c.items.ensures ∙ ap (λ (d : Domain). d.dims) c.domain.ensures.value)
    (c.items-2.ensures ∙ ap (λ (d : Domain). d.dims) c.domain-2.ensures.value)
    c.maps.ensures.value c.in_ok-dims.ensures.ok)
    c.in_ok-joined.ensures

pub returns-clause-inside : goal.returns-clause-inside
returns-clause-inside c =
    GoesInto-composed c.args.outer.now c.args.inner.now c.in_ok-joined.field-0 c.in_ok-dims.dims.items c.domain.ensures.well_formed
    (ap (λ (ds : List Bounds). list_all is_ordered ds) (sym (c.items.ensures ∙ ap (λ (d : Domain). d.dims) c.domain.ensures.value)) ∙ c.in_ok-dims.ensures.ordered)
    (tightened-at _ _ _ _ _ _ _
    (c.items.ensures ∙ ap (λ (d : Domain). d.dims) c.domain.ensures.value)
    (c.items-2.ensures ∙ ap (λ (d : Domain). d.dims) c.domain-2.ensures.value)
    c.maps.ensures.value c.in_ok-dims.ensures.ok)
    c.in_ok-joined.ensures

pub returns-clause-reached : goal.returns-clause-reached
returns-clause-reached c =
    KeepsComposed-joined c.args.outer.now c.args.inner.now c.in_ok-joined.field-0 c.in_ok-dims.dims.items c.domain.ensures.well_formed
    (tightened-at _ _ _ _ _ _ _
    (c.items.ensures ∙ ap (λ (d : Domain). d.dims) c.domain.ensures.value)
    (c.items-2.ensures ∙ ap (λ (d : Domain). d.dims) c.domain-2.ensures.value)
    c.maps.ensures.value c.in_ok-dims.ensures.ok)
    c.in_ok-joined.ensures
