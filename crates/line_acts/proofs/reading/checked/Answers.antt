use Rattle.std.proofs.Common.{◌∙◌, inr, Ok, refl, sym, ap, subst}
use Rattle.history.specs.Acts.{Asked, reads, without}
use Rattle.history.specs.Answers as old
use Rattle.history.specs.Viewing.{cell_fault, view_fault}
use Rattle.line_meanings.specs.Numbers.{downsampling_of}
use Rattle.line_acts.specs.Refused.{IsAnswerTo}
use Rattle.line_acts.proofs.AnswerLaws.{if_err_map}
use Rattle.line_acts.proofs.ReadLaws.{on_ok_both, on_ok_with, readable_view, with_rank}
use Rattle.line_acts.proofs.reading.checked.Goals as goal
use Rattle.transform_composition.specs.declared.error.ComposeError.TheVariants as compose

pub returns-then-has_rank-clause-value : goal.returns-then-has_rank-clause-value
returns-then-has_rank-clause-value c = on_ok_with c.counted.result c.counted.ensures.count (λ n is. readable_view c.args.down.now c.args.v.now n (c.has_rank.ensures.from c.if-has_rank.true) is)

pub returns-then-has_rank-clause-err : goal.returns-then-has_rank-clause-err
returns-then-has_rank-clause-err c =
    let v = c.args.v.now in
    let down = downsampling_of c.args.down.now in
    if_err_map c.counted.result c.counted.ensures.err
    (λ body told. subst (λ (a : Asked). IsAnswerTo a body) (sym (with_rank c.args.down.now v (c.has_rank.ensures.from c.if-has_rank.true) (without (view_fault v) (without (cell_fault v) (Ok (reads v down)))))) (told (without (cell_fault v) (Ok (reads v down)))))

pub returns-clause-err : goal.returns-clause-err
returns-clause-err c =
    let v = c.args.v.now in
    let down = downsampling_of c.args.down.now in
    inr (old.refused_view compose.Rank, c.has_rank.ensures.not c.if-has_rank.false (without (view_fault v) (without (cell_fault v) (Ok (reads v down)))), refl)

pub returns-then-has_rank-clause-count : goal.returns-then-has_rank-clause-count
returns-then-has_rank-clause-count c = on_ok_both c.counted.result c.counted.ensures.count c.counted.ensures.cells (λ n is same. is ∙ ap Ok same)
