use Rattle.std.proofs.Common.{◌≡◌, true, subst, sym, ap, List, ◌∙◌}
use Rattle.std.specs.List.{list_all}
use Rattle.index_intervals.specs.Bounds.{Bounds}
use Rattle.index_transform.specs.declared.map.OutMap.{OutMap}
use Rattle.index_transform.specs.Values.{has_value}
use Rattle.index_transform.proofs.InsideLemmas.{has_value-inside}
use Rattle.index_transform.proofs.transform.Transform.number.Goals as goal

pub number_of-requires-clause-inside : goal.number_of-requires-clause-inside
number_of-requires-clause-inside c =
    let x = c.args.index.now in
    let here = has_value-inside c.args.self.now.domain.dims x c.args.self.now.maps c.requires.rank c.requires.inside c.maps.ensures.well_formed.maps in
    let maps = subst (λ (ms : List OutMap). list_all (has_value c.args.self.now.domain.dims x) ms ≡ true) (sym c.maps.ensures.value) here in
    subst (λ (ds : List Bounds). list_all (has_value ds x) c.maps.result.now ≡ true) (sym (c.items.ensures ∙ ap (λ d. d.dims) c.domain.ensures.value)) maps
