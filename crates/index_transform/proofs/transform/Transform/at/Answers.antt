use Rattle.std.proofs.Common.{◌≡◌, ◌≢◌, ◌∙◌, sym, ap, refl, ℤ, List, subst, true, None, Result, Err, IfErr, map}
use Rattle.std.specs.List.{list_all}
use Rattle.index_intervals.specs.Bounds.{Bounds}
use Rattle.index_transform.specs.declared.domain.Domain.{Domain}
use Rattle.index_transform.specs.declared.map.OutMap.{OutMap}
use Rattle.index_transform.specs.declared.error.AtError.{AtError}
use Rattle.index_transform.specs.declared.error.AtError.TheVariants.{Memory}
use Rattle.index_transform.specs.Transforms.{DomainAndMaps}
use Rattle.index_transform.specs.Values.{has_value, map_value, first_outside, numbers_of, value_at, at_answer}
use Rattle.index_transform.proofs.InsideLemmas.{has_value-inside}
use Rattle.index_transform.proofs.transform.Transform.at.Goals as goal

-- the dimensions and maps that the loop got
dims_are : (c : goal.After-maps) → c.items-dims.result.now ≡ c.args.self.now.domain.dims
dims_are c = c.items-dims.ensures ∙ ap (λ (d : Domain). d.dims) c.domain.ensures.value

none_outside : (c : goal.After-maps) → first_outside c.args.self.now.domain.dims c.args.index.now ≡ None
none_outside c = ap (λ (ds : List Bounds). first_outside ds c.args.index.now) (sym (dims_are c)) ∙ sym c.first_outside.ensures.value ∙ c.in_default.is

pub numbers_at-requires-clause-inside : goal.numbers_at-requires-clause-inside
numbers_at-requires-clause-inside c =
    subst (λ (ds : List Bounds). list_all (has_value ds c.args.index.now) c.maps.result.now ≡ true) (sym (dims_are c))
    (subst (λ (ms : List OutMap). list_all (has_value c.args.self.now.domain.dims c.args.index.now) ms ≡ true) (sym c.maps.ensures.value)
    (has_value-inside c.args.self.now.domain.dims c.args.index.now c.args.self.now.maps c.requires (none_outside c) c.maps.ensures.well_formed.maps))

-- the answer is that of the loop
at_is : (t : DomainAndMaps) (index : List ℤ) → first_outside t.domain.dims index ≡ None → at_answer t index ≡ numbers_of (value_at t index)
at_is t index e = rw e refl

pub returns-clause-err : goal.returns-clause-err
returns-clause-err c =
    let dims : c.items-dims.result.now ≡ c.args.self.now.domain.dims = c.items-dims.ensures ∙ ap (λ (d : Domain). d.dims) c.domain.ensures.value in
    let none = ap (λ (ds : List Bounds). first_outside ds c.args.index.now) (sym dims) ∙ sym c.first_outside.ensures.value ∙ c.in_default.is in
    let same : numbers_of (map (map_value c.items-dims.result.now c.args.index.now) c.maps.result.now) ≡ at_answer c.args.self.now c.args.index.now =
    ap (λ (ds : List Bounds). numbers_of (map (map_value ds c.args.index.now) c.maps.result.now)) dims
    ∙ ap (λ (ms : List OutMap). numbers_of (map (map_value c.args.self.now.domain.dims c.args.index.now) ms)) c.maps.ensures.value
    ∙ sym (at_is c.args.self.now c.args.index.now none) in
    subst (λ (z : Result (List ℤ) AtError). IfErr c.numbers_at.result (λ e. e ≢ Memory → z ≡ Err e)) same c.numbers_at.ensures.err
