use Rattle.std.proofs.Common.{◌≡◌, subst, rules, false, ◌&&◌, Ok}
use Rattle.transform_composition.specs.Transforms.{DomainAndMaps, KeepsRules}
use Rattle.dim_changes.specs.Marks.{with_marks, makes_implicit, has_array_on, mark_answer}
use Rattle.dim_changes.proofs.MarkLemmas.{marks_kept, marks_values}
use Rattle.dim_changes.proofs.mark.with_marks.Goals as goal

pub made-requires : goal.made-requires
made-requires c =
    let built : DomainAndMaps = record { domain = c.in_ok-domain.domain; maps = c.in_ok-maps.maps.items } in
    let same : with_marks c.args.t.now c.args.selected.now c.args.lower c.args.upper ≡ built = search rules in
    let free : (makes_implicit c.args.lower c.args.upper && has_array_on c.args.t.now.maps c.args.selected.now) ≡ false = search rules in
    subst KeepsRules same (marks_kept c.args.t.now c.args.selected.now c.args.lower c.args.upper c.maps.ensures.well_formed free)

pub returns-clause-values : goal.returns-clause-values
returns-clause-values c =
    let is : mark_answer c.args.t.now c.args.selected.now c.args.lower c.args.upper ≡ Ok c.made.result = search rules in
    marks_values c.args.t.now c.args.selected.now c.args.lower c.args.upper c.made.result is
