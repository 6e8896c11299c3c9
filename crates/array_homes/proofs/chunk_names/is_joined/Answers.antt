use Rattle.std.proofs.Common.{◌≡◌, ◌≤◌, length, take, drop, true, false, sym, ap, ◌∙◌}
use Rattle.array_homes.proofs.NameLaws.{IsEnd, joined_from, joined_into, joined_zero, zero_joined}
use Rattle.array_homes.proofs.chunk_names.is_joined.Goals as goal

pub returns-in_default : goal.returns-in_default
returns-in_default c = (
  λ yes. joined_zero c.args.separator c.args.sizes.now c.args.name.now c.in_default.len_below (c.is_zero.ensures.0 yes),
  λ h. c.is_zero.ensures.1 (zero_joined c.args.separator c.args.sizes.now c.args.name.now c.in_default.len_below h),
)

pub returns-then-is_start : goal.returns-then-is_start
returns-then-is_start c =
    let s = c.args.separator in
    let sizes = c.args.sizes.now in
    let text = c.args.name.now in
    let some : 1 ≤ length sizes = c.in-len1-up.len_at_least in
    let ends : IsEnd s text c.split_at.result.0.now c.split_at.result.1.now = (c.split_at.ensures.front ∙ ap (λ n. take n text) c.part_end.ensures.value, c.split_at.ensures.back ∙ ap (λ n. drop n text) c.part_end.ensures.value) in (
      λ yes. joined_from s sizes text c.split_at.result.0.now c.split_at.result.1.now c.requires.separator c.requires.sizes some ends (c.is_start.ensures.0 c.if-is_start.true) (c.are_behind.ensures.0 yes),
      λ h. c.are_behind.ensures.1 (joined_into s sizes text c.split_at.result.0.now c.split_at.result.1.now c.requires.separator c.requires.sizes some ends h).1,
    )

pub returns-else-is_start : goal.returns-else-is_start
returns-else-is_start c =
    let s = c.args.separator in
    let sizes = c.args.sizes.now in
    let text = c.args.name.now in
    let some : 1 ≤ length sizes = c.in-len1-up.len_at_least in
    let ends : IsEnd s text c.split_at.result.0.now c.split_at.result.1.now = (c.split_at.ensures.front ∙ ap (λ n. take n text) c.part_end.ensures.value, c.split_at.ensures.back ∙ ap (λ n. drop n text) c.part_end.ensures.value) in (
      λ yes. let clash : true ≡ false = sym yes ∙ c.if-is_start.false in absurd (cc),
      λ h. c.is_start.ensures.1 (joined_into s sizes text c.split_at.result.0.now c.split_at.result.1.now c.requires.separator c.requires.sizes some ends h).0,
    )
