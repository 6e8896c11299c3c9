use Rattle.std.proofs.Common.{◌∙◌, ◌∷◌, ◌++◌, [], sym, ap, subst, append_assoc}
use Rattle.transactions.specs.Preparing.{AreWritesFor}
use Rattle.transactions.proofs.CommitLaws.{writes_more}
use Rattle.transactions.proofs.preparing.write_all.Goals as goal

pub loop-a-preserved : goal.loop-a-preserved
loop-a-preserved g c = record {
  writes =
      subst (AreWritesFor (c.loop-a.yielded ++ c.in-Some.a ∷ [])) (sym c.in_ok-push.ensures.items)
      (writes_more c.loop-a.yielded c.loop-a.writes.items c.in-Some.a c.in_ok-write_of.field-0 c.loop-a.invariant.writes c.in_ok-write_of.ensures);
  rest = c.loop-a.invariant.rest ∙ ap (λ xs. c.loop-a.yielded ++ xs) c.in-Some.ensures.steps.0 ∙ sym (append_assoc c.loop-a.yielded (c.in-Some.a ∷ []) _);
}
