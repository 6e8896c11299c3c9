use Rattle.std.proofs.Common.{◌≡◌, ◌∙◌, true, List, Option, ℕ, length, map, sym, ap, subst}
use Rattle.std.proofs.lemmas.List.{length-map}
use Rattle.std.proofs.lemmas.List.FromFn.{length-range_with_len}
use Rattle.std.specs.List.{list_all, range_with_len}
use Rattle.downsample_view.specs.Places.{is_below, kept_slot, no_slot, words_to}
use Rattle.downsample_view.proofs.Lists.{whole_written}
use Rattle.downsample_view.proofs.slots.filled_slots.Goals as goal

pub fill-requires-clause-empty : goal.fill-requires-clause-empty
fill-requires-clause-empty c =
    let same = c.as_mut_slice.ensures.value ∙ c.in_ok-slots.ensures in
    let count = ap (λ (xs : List (Option ℕ)). length xs) same ∙ length-map (range_with_len 0 c.args.count) no_slot ∙ length-range_with_len 0 c.args.count in
    same ∙ ap (λ n. map no_slot (range_with_len 0 n)) (sym count)

pub fill-requires-clause-below : goal.fill-requires-clause-below
fill-requires-clause-below c =
    let same = c.as_mut_slice.ensures.value ∙ c.in_ok-slots.ensures in
    let count = ap (λ (xs : List (Option ℕ)). length xs) same ∙ length-map (range_with_len 0 c.args.count) no_slot ∙ length-range_with_len 0 c.args.count in
    subst (λ n. list_all (is_below n) c.args.places.now ≡ true) (sym count) c.requires.below

pub returns : goal.returns
returns c =
    let same = c.as_mut_slice.ensures.value ∙ c.in_ok-slots.ensures in
    let count = ap (λ (xs : List (Option ℕ)). length xs) same ∙ length-map (range_with_len 0 c.args.count) no_slot ∙ length-range_with_len 0 c.args.count in
    let items = ap (λ (xs : List (Option ℕ)). length xs) (sym c.as_mut_slice.ensures.value) in
    let kept = λ (q : ℕ). kept_slot c.args.method c.args.dtype (words_to q c.args.places.now c.args.words.now) in
    let news : length c.fill.new.slots ≡ length c.as_mut_slice.result.now =
    ap (λ (xs : List (Option ℕ)). length xs) c.fill.ensures ∙ length-map (range_with_len 0 (length c.as_mut_slice.result.now)) kept ∙ length-range_with_len 0 (length c.as_mut_slice.result.now) in
    whole_written c.in_ok-slots.slots.items c.fill.new.slots c.in_ok-slots.slots.len (news ∙ sym items) (items ∙ c.as_mut_slice.ensures.len)
    ∙ c.fill.ensures ∙ ap (λ n. map kept (range_with_len 0 n)) count
