use Rattle.std.proofs.Common.{◌≡◌, ap, ◌∙◌}
use Rattle.std.proofs.lemmas.Result.{on_ok_weaker, on_err_weaker}
use Rattle.chunk_versions.specs.Versions.{Versions, word_as_of, with_table, with_put, HasSameWords}
use Rattle.chunk_versions.proofs.Words.{words_by, same_touched}
use Rattle.chunk_versions.proofs.versions.ChunkVersions.put.Goals as goal

pub returns-in-Ok-clause-words : goal.returns-in-Ok-clause-words
returns-in-Ok-clause-words c =
    on_ok_weaker c.put_newest.result
    (λ (same : c.put_newest.new.self ≡ with_put c.args.place c.args.word (with_table c.touch.new.self)) m q.
    ap (λ (v : Versions). word_as_of v m q) same
    ∙ words_by c.args.self.now c.touch.new.self c.args.number c.args.place c.args.word c.touch.ensures.valid c.put_newest.ensures.valid c.requires.number c.in-Ok.ensures.ok c.requires.place m q)
    c.put_newest.ensures.ok

pub returns-in-Ok-clause-err : goal.returns-in-Ok-clause-err
returns-in-Ok-clause-err c =
    on_err_weaker c.put_newest.result
    (λ (same : HasSameWords c.touch.new.self c.put_newest.new.self) m q.
    same m q ∙ ap (λ (v : Versions). word_as_of v m q) c.in-Ok.ensures.ok ∙ same_touched c.args.self.now c.touch.ensures.valid c.args.number c.requires.number m q)
    c.put_newest.ensures.err
