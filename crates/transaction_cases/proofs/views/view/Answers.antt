use Rattle.std.proofs.Common.{◌≡◌, arith, rules, subst}
use Rattle.std.specs.Prelude.{slice_index_or}
use Rattle.std.specs.List.{AllByRecursion}
use Rattle.history.specs.History.{History}
use Rattle.history.specs.Refs.{HasKnownRefs, IsKnownRef}
use Rattle.stack_driver.specs.declared.view.View.{View}
use Rattle.transaction_cases.proofs.ViewLaws.{all_at, if_ok_map}
use Rattle.transaction_cases.proofs.views.view.Goals as goal

pub returns-clause-refs : goal.returns-clause-refs
returns-clause-refs c =
    let r = c.index-arrays-place.result in
    let at : slice_index_or c.args.arrays.now c.in_ok-place.place r ≡ r = search rules in
    let more : (v : View) → ((events : History) → HasKnownRefs events c.in_ok-leaf.field-0 → HasKnownRefs events v) → (events : History) → AllByRecursion (IsKnownRef events) c.args.arrays.now → HasKnownRefs events v =
    λ v then events all. then events (c.in_ok-leaf.ensures.refs events (subst (IsKnownRef events) at (all_at (IsKnownRef events) c.args.arrays.now c.in_ok-place.place r all (omega arith)))) in
    if_ok_map c.cast.result c.cast.ensures.refs more
