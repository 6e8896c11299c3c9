use Rattle.std.proofs.Common.{◌≡◌, ◌≢◌, ◌∙◌, List, false, length, map, sym, ap, subst}
use Rattle.std.specs.List.{AllByRecursion}
use Rattle.serde_json.specs.View.{view}
use Rattle.stack_driver.specs.References.{Reference}
use Rattle.read_fits.specs.OpenedViews.{AreGiven, paired}
use Rattle.read_fits.specs.Asked.{wanted_leaf}
use Rattle.read_fits.specs.declared.Wanted.{Wanted}
use Rattle.open_fits.specs.Built.{IsBuiltAs}
use Rattle.open_fits.specs.Opens.{IsSmall, IsFitAt}
use Rattle.open_fits.specs.Settling.{AreArraysFor}
use Rattle.open_fits.proofs.FitLaws.{leaves_small, leaves_given, leaves_count, tree_over, judged_fits, judged_at, asked_at, asks_same}
use Rattle.open_fits.proofs.opens.fit_open.Goals as goal

pub arrays_settled-requires-clause-small : goal.arrays_settled-requires-clause-small
arrays_settled-requires-clause-small c = subst (AllByRecursion IsSmall) (sym c.items-leaves.ensures) (leaves_small c.args.plan c.args.takings.now c.args.openings.now c.args.told (view c.args.answer.now) c.requires c.in_ok-wanted.wanted c.in_ok-wanted.ensures.leaves c.in_ok-wanted.ensures.tree)

pub arrays_settled-requires-clause-openings : goal.arrays_settled-requires-clause-openings
arrays_settled-requires-clause-openings c = c.requires.arrays

pub arrays_settled-requires-clause-count : goal.arrays_settled-requires-clause-count
arrays_settled-requires-clause-count c = leaves_count c.args.plan c.args.takings.now c.args.openings.now c.args.told (view c.args.answer.now) c.requires c.in_ok-wanted.wanted c.in_ok-wanted.ensures.leaves c.in_ok-wanted.ensures.tree ∙ ap length (sym c.items-leaves.ensures)

pub arrays_settled-requires-clause-given : goal.arrays_settled-requires-clause-given
arrays_settled-requires-clause-given c =
    subst (λ (ws : List Wanted). AreGiven c.args.openings.now.events (paired (map wanted_leaf ws) c.args.takings.now)) (sym c.items-leaves.ensures) (leaves_given c.args.plan c.args.takings.now c.args.openings.now c.args.told (view c.args.answer.now) c.requires c.in_ok-wanted.wanted c.in_ok-wanted.ensures.leaves c.in_ok-wanted.ensures.tree)

pub is_built-requires : goal.is_built-requires
is_built-requires c = tree_over c.args.plan c.args.takings.now c.args.openings.now c.args.told (view c.args.answer.now) c.requires c.in_ok-wanted.wanted c.in_ok-wanted.ensures.leaves c.in_ok-wanted.ensures.tree

pub returns-then-is_whole-clause-fits : goal.returns-then-is_whole-clause-fits
returns-then-is_whole-clause-fits c =
    let o = c.args.openings.now in
    let told = c.args.told in
    let wanted = c.in_ok-wanted.wanted in
    let front = subst (λ (ws : List Wanted). AreArraysFor o.events told.upto ws c.args.takings.now c.in_ok-arrays.arrays.items) c.items-leaves.ensures c.in_ok-arrays.ensures in
    let all = subst (λ (rs : List Reference). length rs ≡ length wanted.leaves → IsBuiltAs wanted.tree rs told c.in_ok-is_whole.is_whole) c.as_slice-settled.ensures.value c.in_ok-is_whole.ensures.all in
    let lack = subst (λ (rs : List Reference). length rs ≢ length wanted.leaves → c.in_ok-is_whole.is_whole ≡ false) c.as_slice-settled.ensures.value c.in_ok-is_whole.ensures.lack in
    judged_fits c.args.plan c.args.takings.now c.args.openings.now c.args.told (view c.args.answer.now) c.requires c.in_ok-wanted.wanted c.in_ok-wanted.ensures.leaves c.in_ok-wanted.ensures.tree c.in_ok-arrays.arrays.items front c.in_ok-is_whole.is_whole all lack c.if-is_whole.true

pub returns-then-is_whole-clause-asked : goal.returns-then-is_whole-clause-asked
returns-then-is_whole-clause-asked c = tt

pub returns-clause-fits : goal.returns-clause-fits
returns-clause-fits c =
    let o = c.args.openings.now in
    let told = c.args.told in
    let wanted = c.in_ok-wanted.wanted in
    let m = c.moment_of-moment.result in
    let front = subst (λ (ws : List Wanted). AreArraysFor o.events told.upto ws c.args.takings.now c.in_ok-arrays.arrays.items) c.items-leaves.ensures c.in_ok-arrays.ensures in
    let all = subst (λ (rs : List Reference). length rs ≡ length wanted.leaves → IsBuiltAs wanted.tree rs told c.in_ok-is_whole.is_whole) c.as_slice-settled.ensures.value c.in_ok-is_whole.ensures.all in
    let lack = subst (λ (rs : List Reference). length rs ≢ length wanted.leaves → c.in_ok-is_whole.is_whole ≡ false) c.as_slice-settled.ensures.value c.in_ok-is_whole.ensures.lack in
    let fit = subst (λ n. IsFitAt wanted c.taken_end-first.result (length c.in_ok-arrays.arrays.items) m told n c.fit_at.result) (ap length c.items-events.ensures)
    (subst (λ (rs : List Reference). IsFitAt wanted c.taken_end-first.result (length rs) m told (length c.items-events.result.now) c.fit_at.result) c.as_slice-settled.ensures.value c.fit_at.ensures) in
    judged_at c.args.plan c.args.takings.now c.args.openings.now c.args.told (view c.args.answer.now) c.requires c.in_ok-wanted.wanted c.in_ok-wanted.ensures.leaves c.in_ok-wanted.ensures.tree c.in_ok-arrays.arrays.items front c.in_ok-is_whole.is_whole all lack c.if-is_whole.false m c.moment_of-moment.ensures.value c.taken_end-first.result c.taken_end-first.ensures c.fit_at.result fit

pub returns-clause-asked : goal.returns-clause-asked
returns-clause-asked c =
    let o = c.args.openings.now in
    let told = c.args.told in
    let wanted = c.in_ok-wanted.wanted in
    let m = c.moment_of-moment.result in
    let front = subst (λ (ws : List Wanted). AreArraysFor o.events told.upto ws c.args.takings.now c.in_ok-arrays.arrays.items) c.items-leaves.ensures c.in_ok-arrays.ensures in
    let all = subst (λ (rs : List Reference). length rs ≡ length wanted.leaves → IsBuiltAs wanted.tree rs told c.in_ok-is_whole.is_whole) c.as_slice-settled.ensures.value c.in_ok-is_whole.ensures.all in
    let lack = subst (λ (rs : List Reference). length rs ≢ length wanted.leaves → c.in_ok-is_whole.is_whole ≡ false) c.as_slice-settled.ensures.value c.in_ok-is_whole.ensures.lack in
    let fit = subst (λ n. IsFitAt wanted c.taken_end-first.result (length c.in_ok-arrays.arrays.items) m told n c.fit_at.result) (ap length c.items-events.ensures)
    (subst (λ (rs : List Reference). IsFitAt wanted c.taken_end-first.result (length rs) m told (length c.items-events.result.now) c.fit_at.result) c.as_slice-settled.ensures.value c.fit_at.ensures) in
    asked_at c.args.plan c.args.takings.now c.args.openings.now c.args.told (view c.args.answer.now) c.requires c.in_ok-wanted.wanted c.in_ok-wanted.ensures.leaves c.in_ok-wanted.ensures.tree c.in_ok-arrays.arrays.items front c.in_ok-is_whole.is_whole all lack c.if-is_whole.false m c.moment_of-moment.ensures.value c.taken_end-first.result c.taken_end-first.ensures c.moment_of-moment.ensures.few c.fit_at.result fit

pub returns-then-is_whole-clause-same : goal.returns-then-is_whole-clause-same
returns-then-is_whole-clause-same c = tt

pub returns-clause-same : goal.returns-clause-same
returns-clause-same c =
    asks_same c.in_ok-wanted.wanted c.taken_end-first.result (length c.as_slice-settled.result.now) c.moment_of-moment.result c.args.told (length c.items-events.result.now) c.fit_at.result
    c.fit_at.ensures
