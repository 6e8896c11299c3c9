use Rattle.std.proofs.Common.{◌≡◌, ◌∙◌, ◌<◌, ◌≤◌, ◌⊎◌, inl, inr, None, ℕ, replicate, length, sym, subst, refl, arith, ap}
use Rattle.rebase_writes.specs.Rising.{AreRising, runs_staged}
use Rattle.rebase_writes.specs.Staged.{staged_at}
use Rattle.rebase_writes.proofs.RisingLaws.{none_at, last_or_less, some_not_none}
use Rattle.rebase_writes.proofs.rising.spare_range.Goals as goal

pub returns-then-ends_before : goal.returns-then-ends_before
returns-then-ends_before c cells are end =
    (λ _ place from to. c.ends_before.ensures c.if-ends_before.true c.args.kept.now (replicate cells None) place from to ∙ none_at cells place, λ _. refl)

pub returns-then-is_staged : goal.returns-then-is_staged
returns-then-is_staged c cells are end = (
  λ is_true. absurd (cc),
  λ all.
      let none = all c.loop-place.place c.loop-place.auto.place c.loop-place-test.true in
      let some = c.is_staged.ensures.some c.if-is_staged.true cells are in
      absurd (some_not_none _ some none),
)

pub loop-place-preserved : goal.loop-place-preserved
loop-place-preserved c k from less cells are = elim (last_or_less k c.loop-place.place less) [
  | inl same ↦ subst (λ p. staged_at (runs_staged c.args.runs.now c.args.kept.now (replicate cells None)) p ≡ None) (sym same) (c.is_staged.ensures.none c.if-is_staged.false cells)
  | inr before ↦ c.loop-place.invariant k from before cells are
]

pub returns : goal.returns
returns c cells are end =
    (λ _ place from to. c.loop-place.invariant place from (omega (arith, to, c.loop-place-test.false)) cells are, λ _. refl)
