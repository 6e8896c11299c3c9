-- A word more has its places marked by one look, or one place more is looked at.
use Rattle.std.proofs.Common.{◌≡◌, ◌∙◌, ◌+◌, ◌-◌, ◌<◌, inl, inr, true, refl, sym, ap, subst, arith}
use Rattle.cells.proofs.Laws.{less_or_not}
use Rattle.rebase_writes.specs.Marks.{is_marked}
use Rattle.rebase_writes.proofs.RisingLaws.{last_or_less}
use Rattle.rebase_writes.proofs.marks.are_marked.Goals as goal

pub is_full-requires-clause-at : goal.is_full-requires-clause-at
is_full-requires-clause-at c = c.is_at_word.ensures.at c.if-is_at_word.true

pub returns-then-not-is_full : goal.returns-then-not-is_full
returns-then-not-is_full c =
    let end = c.is_at_word.ensures.to c.if-is_at_word.true in (
      λ is_true. absurd (cc),
      λ all. sym c.if-not-is_full.true ∙ c.is_full.ensures.1 (λ k less. all (c.loop-place.place + k) (omega (arith, c.loop-place.invariant.begin)) (omega (arith, end, less))),
    )

pub returns-then-not-is_marked : goal.returns-then-not-is_marked
returns-then-not-is_marked c = (
  λ is_true. absurd (cc),
  λ all. sym c.if-not-is_marked.true ∙ c.is_marked.ensures ∙ all c.loop-place.place c.loop-place.invariant.begin c.loop-place-test.true,
)

pub loop-place-preserved-then-is_at_word : goal.loop-place-preserved-then-is_at_word
loop-place-preserved-then-is_at_word c = record {
  begin = omega (arith, c.loop-place.invariant.begin);
  each = λ k from less. elim (less_or_not k c.loop-place.place) [
    | inl before ↦ c.loop-place.invariant.each k from before
    | inr above ↦ subst (λ p. is_marked c.args.marks.now p ≡ true) (omega (arith, above)) (c.is_full.ensures.0 c.if-not-is_full.false (k - c.loop-place.place) (omega (arith, above, less)))
  ];
}

pub loop-place-preserved : goal.loop-place-preserved
loop-place-preserved c = record {
  begin = omega (arith, c.loop-place.invariant.begin);
  each = λ k from less. elim (last_or_less k c.loop-place.place less) [
    | inl same ↦ ap (is_marked c.args.marks.now) same ∙ sym c.is_marked.ensures ∙ c.if-not-is_marked.false
    | inr before ↦ c.loop-place.invariant.each k from before
  ];
}

pub returns : goal.returns
returns c = (λ _ place from to. c.loop-place.invariant.each place from (omega (arith, to, c.loop-place-test.false)), λ _. refl)
