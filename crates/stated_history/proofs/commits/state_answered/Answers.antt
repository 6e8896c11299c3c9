use Rattle.std.proofs.Common.{◌≡◌, ◌∙◌, Some, get_or, sym, subst}
use Rattle.std.proofs.lemmas.Option.{slice_get-get_or}
use Rattle.history.proofs.Laws.{some_inj}
use Rattle.json_forms.specs.Bytes.{data_of}
use Rattle.stated_acts.specs.SaidAnswers.{data_said}
use Rattle.stated_acts.specs.declared.Said.{Said}
use Rattle.stated_history.specs.Walks.{line_said}
use Rattle.stated_history.proofs.SourceLaws.{line_of_source}
use Rattle.stated_history.proofs.commits.state_answered.Goals as goal

pub answer_said-answer-requires-clause-within : goal.answer_said-answer-requires-clause-within
answer_said-answer-requires-clause-within c =
    let s = c.args.source.now in
    let d = get_or s.said.now c.args.place c.index-source-place.result in
    (line_of_source s c.args.place d c.requires.source (slice_get-get_or s.said.now c.args.place c.index-source-place.result c.requires.place)).within

pub answer_said-answer-requires-clause-some : goal.answer_said-answer-requires-clause-some
answer_said-answer-requires-clause-some c =
    let s = c.args.source.now in
    let d = get_or s.said.now c.args.place c.index-source-place.result in
    (line_of_source s c.args.place d c.requires.source (slice_get-get_or s.said.now c.args.place c.index-source-place.result c.requires.place)).some

pub answer_said-answer-requires-clause-kept : goal.answer_said-answer-requires-clause-kept
answer_said-answer-requires-clause-kept c =
    let s = c.args.source.now in
    let d = get_or s.said.now c.args.place c.index-source-place.result in
    (line_of_source s c.args.place d c.requires.source (slice_get-get_or s.said.now c.args.place c.index-source-place.result c.requires.place)).holds

pub answer_said-answer-requires-clause-reads : goal.answer_said-answer-requires-clause-reads
answer_said-answer-requires-clause-reads c =
    let s = c.args.source.now in
    let d = get_or s.said.now c.args.place c.index-source-place.result in
    (line_of_source s c.args.place d c.requires.source (slice_get-get_or s.said.now c.args.place c.index-source-place.result c.requires.place)).reads

pub state_act-requires-clause-answer : goal.state_act-requires-clause-answer
state_act-requires-clause-answer c = λ e there.
    let s = c.args.source.now in
    let place = c.args.place in
    let d = get_or s.said.now place c.index-source-place.result in
    let at = slice_get-get_or s.said.now place c.index-source-place.result c.requires.place in
    subst (λ (x : Said). data_of (line_said x s.transcript.now) ≡ Some (data_said c.answer_said-answer.result)) (some_inj d e (sym at ∙ there)) c.answer_said-answer.ensures
