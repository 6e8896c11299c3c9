use Rattle.std.proofs.Common.{◌∙◌, [], ◌∷◌, ◌++◌, refl, append-nil}
use Rattle.transcript_check.proofs.running.write.Goals as goal

pub returns-in-Ok-clause-told : goal.returns-in-Ok-clause-told
returns-in-Ok-clause-told g c = λ verdict. (
  refl,
  record { pieces = c.args.text.now ∷ []; taken = (c.put.new.self, c.in-Ok.ensures.takes, refl); parts = append-nil (c.args.text.now ++ []) ∙ append-nil c.args.text.now },
)

pub returns-in-Err-clause-untold : goal.returns-in-Err-clause-untold
returns-in-Err-clause-untold g c = λ is.
    record { pieces = []; before = c.args.sink.now; taken = refl; piece = c.args.text.now; refused = c.in-Err.ensures.takes; rest = []; parts = append-nil c.args.text.now }
