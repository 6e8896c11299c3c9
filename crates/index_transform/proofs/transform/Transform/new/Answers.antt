use Rattle.std.proofs.Common.{◌≡◌, true, ◌∙◌, ap, sym, subst, ℕ, List}
use Rattle.std.specs.List.{list_all}
use Rattle.index_intervals.specs.Bounds.{Bounds, are_bounds}
use Rattle.index_transform.specs.declared.map.OutMap.{OutMap}
use Rattle.index_transform.specs.Maps.{has_ranks, are_labels}
use Rattle.index_transform.specs.Transforms.{IsTransform, first_bad_map}
use Rattle.index_transform.proofs.MapLemmas.{IsTransform-plain}
use Rattle.index_transform.proofs.transform.Transform.new.Goals as goal

-- every test passed
pub invariant_of-result : goal.invariant_of-result
invariant_of-result c =
    let ranks = sym (ap (λ (ms : List OutMap). has_ranks c.args.domain ms) c.deref.ensures.value) ∙ sym c.ranks_fit.ensures ∙ c.if-not-ranks_fit.false in
    let labels = sym (ap (λ (ls : List (List ℕ)). are_labels ls) c.items.ensures) ∙ sym c.are_labels.ensures ∙ c.if-not-are_labels.false in
    let bounds = subst (λ (ds : List Bounds). list_all are_bounds ds ≡ true) c.items-2.ensures c.look_at_all.ensures in
    let good = sym (ap (λ (ms : List OutMap). first_bad_map c.args.domain ms) c.deref-2.ensures.value) ∙ sym c.first_bad_map.ensures.value ∙ c.in-None.is in
    subst (λ (ms : List OutMap). IsTransform (record { domain = c.args.domain; maps = ms })) (sym (c.wrap.ensures ∙ c.plain_maps.ensures))
    (IsTransform-plain c.args.domain c.args.maps.items ranks labels good bounds)
