use Rattle.std.proofs.Common.{◌≡◌, ◌≤◌, length, take, drop, true, false, sym, ap, ◌∙◌}
use Rattle.array_homes.proofs.NameLaws.{IsEnd, rest_of, joined_from, joined_into, behind_from, behind_into}
use Rattle.array_homes.proofs.chunk_names.+are_behind.Goals as goal

pub returns-then-is_start : goal.returns-then-is_start
returns-then-is_start t c =
    let s = c.args.separator in
    let sizes = c.args.sizes.now in
    let text = c.args.text.now in
    let some : 1 ≤ length sizes = c.in-len1-up.len_at_least in
    let more : 1 ≤ length text = c.in-len1-up-text.len_at_least in
    let ends : IsEnd s (rest_of text) c.split_at.result.0.now c.split_at.result.1.now = (c.split_at.ensures.front ∙ ap (λ n. take n (rest_of text)) c.part_end.ensures.value, c.split_at.ensures.back ∙ ap (λ n. drop n (rest_of text)) c.part_end.ensures.value) in (
      λ yes. behind_from s sizes text some more c.if-first-separator.false (joined_from s sizes (rest_of text) c.split_at.result.0.now c.split_at.result.1.now c.requires.separator c.requires.sizes some ends (c.is_start.ensures.0 c.if-is_start.true) (c.are_behind.ensures.0 yes)),
      λ h. c.are_behind.ensures.1 (joined_into s sizes (rest_of text) c.split_at.result.0.now c.split_at.result.1.now c.requires.separator c.requires.sizes some ends (behind_into s sizes text some more h)).1,
    )

pub returns-else-is_start : goal.returns-else-is_start
returns-else-is_start t c =
    let s = c.args.separator in
    let sizes = c.args.sizes.now in
    let text = c.args.text.now in
    let some : 1 ≤ length sizes = c.in-len1-up.len_at_least in
    let more : 1 ≤ length text = c.in-len1-up-text.len_at_least in
    let ends : IsEnd s (rest_of text) c.split_at.result.0.now c.split_at.result.1.now = (c.split_at.ensures.front ∙ ap (λ n. take n (rest_of text)) c.part_end.ensures.value, c.split_at.ensures.back ∙ ap (λ n. drop n (rest_of text)) c.part_end.ensures.value) in (
      λ yes. let clash : true ≡ false = sym yes ∙ c.if-is_start.false in absurd (cc),
      λ h. c.is_start.ensures.1 (joined_into s sizes (rest_of text) c.split_at.result.0.now c.split_at.result.1.now c.requires.separator c.requires.sizes some ends (behind_into s sizes text some more h)).0,
    )
