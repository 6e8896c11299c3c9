use Rattle.std.proofs.Common.{◌≡◌, ◌∙◌, ◌<◌, ◌≤◌, ◌⊎◌, inl, inr, None, ℕ, replicate, IsSome, length, sym, subst, refl, arith, ap, eq-or-lt_of_le}
use Rattle.rebase_writes.specs.Rising.{AreRising, runs_staged}
use Rattle.rebase_writes.specs.Staged.{staged_at}
use Rattle.rebase_writes.proofs.RisingLaws.{rising_over, last_or_less, some_not_none}
use Rattle.rebase_writes.proofs.rising.cover_range.Goals as goal

pub returns-then-has_range : goal.returns-then-has_range
returns-then-has_range c cells are end =
    (λ _ place from to. c.has_range.ensures c.if-has_range.true c.args.kept.now (replicate cells None) (rising_over _ cells c.args.runs.now are) place from to, λ _. refl)

pub returns-then-not-is_staged : goal.returns-then-not-is_staged
returns-then-not-is_staged c cells are end = (
  λ is_true. absurd (cc),
  λ all.
      let some = all c.loop-place.place c.loop-place.auto.place c.loop-place-test.true in
      let none = c.is_staged.ensures.none c.if-not-is_staged.true cells in
      absurd (some_not_none _ some none),
)

pub loop-place-preserved : goal.loop-place-preserved
loop-place-preserved c k from less cells are = elim (last_or_less k c.loop-place.place less) [
  | inl same ↦ subst (λ p. IsSome (staged_at (runs_staged c.args.runs.now c.args.kept.now (replicate cells None)) p)) (sym same) (c.is_staged.ensures.some c.if-not-is_staged.false cells are)
  | inr before ↦ c.loop-place.invariant k from before cells are
]

pub returns : goal.returns
returns c cells are end =
    (λ _ place from to. c.loop-place.invariant place from (omega (arith, to, c.loop-place-test.false)) cells are, λ _. refl)
