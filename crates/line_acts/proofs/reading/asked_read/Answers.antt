use Rattle.std.proofs.Common.{◌≡◌, ◌∙◌, Ok, Option, length, sym, subst}
use Rattle.history.specs.Acts.{Asked, act_of, read_of, reads, without}
use Rattle.history.specs.Bound.{AreKnownNames}
use Rattle.history.specs.Commit.{Transaction}
use Rattle.history.specs.History.{History}
use Rattle.history.specs.Lines.{reading}
use Rattle.history.specs.Refs.{HasKnownRefs}
use Rattle.history.specs.Viewing.{cell_fault}
use Rattle.index_transform.specs.Cells.{cells_of, count_answer}
use Rattle.indexmap.specs.IndexMap.{get_by_text}
use Rattle.line_meanings.specs.Changes.{changes_of}
use Rattle.line_meanings.specs.Numbers.{downsampling_of}
use Rattle.std.specs.Prelude.{None}
use Rattle.line_acts.specs.Ranks.{HasRank}
use Rattle.line_acts.specs.Refused.{IsAnswerTo}
use Rattle.line_acts.proofs.AnswerLaws.{if_err_map}
use Rattle.line_acts.proofs.ReadLaws.{if_ok_at, on_ok_any, on_ok_map}
use Rattle.line_acts.proofs.reading.asked_read.Goals as goal
use Rattle.stack_driver.specs.Conditions.{IsView}
use Rattle.stack_driver.specs.Views.{look_of}
use Rattle.stack_driver.specs.declared.view.View.{View}

pub returns-in-Ok-clause-act : goal.returns-in-Ok-clause-act
returns-in-Ok-clause-act c =
    let names = get_by_text c.args.names.now in
    let down = downsampling_of c.args.down.now in
    if_ok_at (λ (v : View). (t : Option Transaction) → act_of names t (reading c.args.name.now (changes_of None c.args.steps.now) down) ≡ without (cell_fault v) (Ok (reads v down))) c.in-Ok.v c.readable.result c.readable.ensures.view
    (on_ok_map c.readable.result c.readable.ensures.value (λ is t. c.in-Ok.ensures.value (read_of down) ∙ is))

pub returns-in-Ok-clause-view : goal.returns-in-Ok-clause-view
returns-in-Ok-clause-view c = if_ok_at IsView c.in-Ok.v c.readable.result c.readable.ensures.view (on_ok_any c.readable.result c.in-Ok.ensures.view)

pub returns-in-Ok-clause-refs : goal.returns-in-Ok-clause-refs
returns-in-Ok-clause-refs c =
    if_ok_at (λ (v : View). (events : History) → AreKnownNames events (get_by_text c.args.names.now) → HasKnownRefs events v) c.in-Ok.v c.readable.result c.readable.ensures.view (on_ok_any c.readable.result c.in-Ok.ensures.refs)

pub returns-in-Ok-clause-count : goal.returns-in-Ok-clause-count
returns-in-Ok-clause-count c = if_ok_at (λ (v : View). count_answer (look_of v).dims ≡ Ok (length (cells_of (look_of v).dims))) c.in-Ok.v c.readable.result c.readable.ensures.view c.readable.ensures.count

pub returns-in-Ok-clause-rank : goal.returns-in-Ok-clause-rank
returns-in-Ok-clause-rank c = if_ok_at (HasRank c.args.down.now) c.in-Ok.v c.readable.result c.readable.ensures.view c.readable.ensures.rank

pub returns-in-Ok-clause-err : goal.returns-in-Ok-clause-err
returns-in-Ok-clause-err c =
    if_err_map c.readable.result c.readable.ensures.err
    (λ body told t. subst (λ (a : Asked). IsAnswerTo a body) (sym (c.in-Ok.ensures.value (read_of (downsampling_of c.args.down.now)))) told)

pub returns-in-Err-clause-err : goal.returns-in-Err-clause-err
returns-in-Err-clause-err c t = c.in-Err.ensures.err (read_of (downsampling_of c.args.down.now))
