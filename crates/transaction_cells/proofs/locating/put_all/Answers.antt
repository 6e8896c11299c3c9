use Rattle.std.proofs.Common.{◌≡◌, ◌∙◌, ◌+◌, ◌-◌, ◌∷◌, ◌++◌, [], ℕ, List, sym, ap, subst, arith, length, take, drop, get_or, take_all, add-one}
use Rattle.std.proofs.Math.Seq.{drop-cons}
use Rattle.std.proofs.lemmas.List.{drop-drop, length-drop, length-take-le, get_or_default}
use Rattle.transaction_cells.specs.Cuts.{AreCuts}
use Rattle.transaction_cells.specs.Lanes.{LaneSeen}
use Rattle.transaction_cells.specs.Sites.{Site, site_by, told_sites, AreTold, no_lane}
use Rattle.transaction_cells.proofs.ToldLaws.{told_next, length-told}
use Rattle.transaction_cells.proofs.locating.put_all.Goals as goal

pub loop-view-preserved : goal.loop-view-preserved
loop-view-preserved c =
    let lanes = c.args.lanes.now in
    let leaves = c.args.t.now.leaves in
    let numbers = c.args.t.now.numbers in
    let sites = told_sites lanes leaves numbers in
    let view = c.loop-view.view in
    let from = c.loop-view.from in
    let leaf = get_or leaves view 0 in
    let listed = ap (λ (xs : List ℕ). length xs) c.items-leaf-items.ensures in
    let turn = c.loop-view-test.true in
    let here : drop view leaves ≡ get_or leaves view 0 ∷ drop (view + 1) leaves = drop-cons leaves view 0 (omega (arith, listed, turn)) ∙ ap (λ n. get_or leaves view 0 ∷ drop n leaves) (sym (add-one view)) in
    let n = told_next lanes leaves numbers sites view from leaf here c.loop-view.invariant.rest c.loop-view.invariant.told in
    let lane : c.index-lanes-leaf.result ≡ get_or lanes leaf no_lane = c.index-lanes-leaf.is ∙ ap (λ (xs : List ℕ). get_or lanes (get_or xs view 0) c.index-lanes-leaf.result) c.items-leaf-items.ensures ∙ get_or_default lanes leaf c.index-lanes-leaf.result no_lane n.lane in
    let rank : length c.items.result.now ≡ length (get_or lanes leaf no_lane).chunk = ap (λ (xs : List ℕ). length xs) c.items.ensures ∙ ap (λ (l : LaneSeen). length l.chunk) (c.lane.view_is ∙ lane) in
    let left : length (drop from numbers) ≡ length numbers - from = length-drop from numbers in
    let room = n.room in
    let within = c.loop-view.invariant.from in
    let all = c.items-numbers.ensures in
    let count : from + length c.items.result.now - from ≡ length c.items.result.now = omega arith in
    let last : site_by c.index-lanes-leaf.result (take (from + length c.items.result.now - from) (drop from c.items-numbers.result.now)) ≡ site_by (get_or lanes leaf no_lane) (take (length (get_or lanes leaf no_lane).chunk) (drop from numbers)) =
    (λ i. site_by (lane i) (take ((count ∙ rank) i) (drop from (all i)))) in
    let more = c.in_ok-add.ensures (take view sites) (length-take-le view sites (let below = n.next_is.below in omega (arith, below))) c.loop-view.invariant.cuts in
    record {
      from = omega (arith, rank, left, room, within);
      cuts = subst (λ (ss : List Site). AreCuts ss c.add.new.cuts) (ap (λ (s : Site). take view sites ++ s ∷ []) last ∙ sym n.next_is.done) more;
      rest = n.next_is.left ∙ ap (told_sites lanes (drop (view + 1) leaves)) (drop-drop _ from numbers ∙ ap (λ r. drop (from + r) numbers) (sym rank));
      told = subst (AreTold lanes (drop (view + 1) leaves)) (drop-drop _ from numbers ∙ ap (λ r. drop (from + r) numbers) (sym rank)) n.told;
    }

pub returns : goal.returns
returns c =
    let sites = told_sites c.args.lanes.now c.args.t.now.leaves c.args.t.now.numbers in
    let long = length-told c.args.lanes.now c.args.t.now.leaves c.args.t.now.numbers in
    let done = c.loop-view-test.false in
    let listed = ap (λ (xs : List ℕ). length xs) c.items-leaf-items.ensures in
    subst (λ (ss : List Site). AreCuts ss c.loop-view.cuts) (take_all c.loop-view.view sites (omega (arith, long, done, listed))) c.loop-view.invariant.cuts
