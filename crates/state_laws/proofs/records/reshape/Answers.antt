use Rattle.std.proofs.Common.{◌≡◌, ◌++◌, ◌∷◌, [], List, length, take, drop, sym, subst, ◌∙◌}
use Rattle.history.specs.Own.{resized_event}
use Rattle.state_laws.specs.Indexed.{AreArrays}
use Rattle.state_laws.specs.declared.arrays.Entry.{Entry}
use Rattle.state_laws.proofs.Reshaping.{written_back}
use Rattle.state_laws.proofs.records.reshape.Goals as goal

pub returns-clause-arrays : goal.returns-clause-arrays
returns-clause-arrays c = λ h owner shape k number known stored form_is old.
    subst (λ (es : List Entry). AreArrays (h ++ resized_event owner c.args.place shape ∷ []) es) (sym same) (c.reshape_at.ensures.arrays h owner shape k number known stored form_is (subst (AreArrays h) (sym c.as_mut_slice.ensures.value) old))
  where
    same : take c.args.entries.now.len (c.reshape_at.new.entries ++ drop (length c.reshape_at.new.entries) c.args.entries.now.items) ≡ c.reshape_at.new.entries
    same = written_back c.reshape_at.new.entries c.args.entries.now.items c.args.entries.now.len (c.reshape_at.auto.entries ∙ c.as_mut_slice.ensures.len)
