use Rattle.history.specs.Acts.{with_join}
use Rattle.line_meanings.specs.Joins.{join_of}
use Rattle.line_acts.proofs.ChangeLaws.{if_err_map}
use Rattle.line_acts.proofs.JoinLaws.{told_through}
use Rattle.line_acts.proofs.joining.joined_layers.Goals as goal

pub returns-in-Ok-clause-err : goal.returns-in-Ok-clause-err
returns-in-Ok-clause-err c = if_err_map _ _ c.over.result (λ b told next.
    told_through _ _ b (c.in-Ok.ensures.value (λ views. with_join (join_of c.args.form views) next)) (told next)) c.over.ensures.err

pub returns-in-Err-clause-err : goal.returns-in-Err-clause-err
returns-in-Err-clause-err c = λ next. c.in-Err.ensures.err (λ views. with_join (join_of c.args.form views) next)
