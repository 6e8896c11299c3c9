use Rattle.std.proofs.Common.{sym, ◌∙◌}
use Rattle.version_store.proofs.Tables.{none_of}
use Rattle.version_store.proofs.putting.put_in.Goals as goal

pub put_kept-requires-clause-there : goal.put_kept-requires-clause-there
put_kept-requires-clause-there c = sym c.contains_key.ensures ∙ c.if-contains_key.true

pub put_new-requires-clause-none : goal.put_new-requires-clause-none
put_new-requires-clause-none c = none_of _ (sym c.contains_key.ensures ∙ c.if-contains_key.false)
