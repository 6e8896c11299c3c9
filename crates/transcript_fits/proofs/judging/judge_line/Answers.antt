use Rattle.std.proofs.Common.{◌≡◌, ◌+◌, Some, get_or, sym, subst, ◌∙◌}
use Rattle.std.proofs.lemmas.Option.{slice_get-get_or}
use Rattle.std.proofs.lemmas.Result.{IfOk-weaker}
use Rattle.json_forms.specs.Bytes.{data_of}
use Rattle.history.proofs.Laws.{some_inj}
use Rattle.stated_history.specs.SaidAnswers.{data_said}
use Rattle.stated_history.specs.Walks.{line_said}
use Rattle.stated_history.specs.declared.Said.{Said}
use Rattle.stated_history.proofs.Laws.{line_of_source}
use Rattle.transcript_fits.proofs.JudgedLine.{fits_here, if_ok_three, line_here, stands_here}
use Rattle.transcript_fits.proofs.NextLine.{begun_there, place_in}
use Rattle.transcript_fits.proofs.judging.judge_line.Goals as goal

pub answer_said-answer-requires-clause-within : goal.answer_said-answer-requires-clause-within
answer_said-answer-requires-clause-within c =
    let s = c.args.judge.now.source.now in
    let f = c.requires.frame in
    let place = c.args.frame.now.begin + c.args.at in
    (line_of_source s place (get_or s.said.now place c.index-judge-place.result) c.requires.judge.source (slice_get-get_or s.said.now place c.index-judge-place.result (place_in c.args.judge.now c.requires.judge f.0 f.1 f.2 c.args.at c.args.frame.now f.3 f.4))).within

pub answer_said-answer-requires-clause-some : goal.answer_said-answer-requires-clause-some
answer_said-answer-requires-clause-some c =
    let s = c.args.judge.now.source.now in
    let f = c.requires.frame in
    let place = c.args.frame.now.begin + c.args.at in
    (line_of_source s place (get_or s.said.now place c.index-judge-place.result) c.requires.judge.source (slice_get-get_or s.said.now place c.index-judge-place.result (place_in c.args.judge.now c.requires.judge f.0 f.1 f.2 c.args.at c.args.frame.now f.3 f.4))).some

pub window-window-requires-clause-begun : goal.window-window-requires-clause-begun
window-window-requires-clause-begun c =
    let f = c.requires.frame in
    begun_there c.args.judge.now c.requires.judge f.0 f.1 f.2 c.args.at c.args.frame.now f.3 f.4 c.args.stand.now f.5

pub told_line-line-requires : goal.told_line-line-requires
told_line-line-requires c =
    let s = c.args.judge.now.source.now in
    let f = c.requires.frame in
    let place = c.args.frame.now.begin + c.args.at in
    (line_of_source s place (get_or s.said.now place c.index-judge-place-2.result) c.requires.judge.source (slice_get-get_or s.said.now place c.index-judge-place-2.result (place_in c.args.judge.now c.requires.judge f.0 f.1 f.2 c.args.at c.args.frame.now f.3 f.4))).within

pub judge_told-requires-clause-line : goal.judge_told-requires-clause-line
judge_told-requires-clause-line c =
    let s = c.args.judge.now.source.now in
    let f = c.requires.frame in
    let place = c.args.frame.now.begin + c.args.at in
    let low = place_in c.args.judge.now c.requires.judge f.0 f.1 f.2 c.args.at c.args.frame.now f.3 f.4 in
    let first = get_or s.said.now place c.index-judge-place.result in
    let d = get_or s.said.now place c.index-judge-place-2.result in
    let got = slice_get-get_or s.said.now place c.index-judge-place-2.result low in
    let reads : data_of (line_said d s.transcript.now) ≡ Some (data_said c.answer_said-answer.result) =
    subst (λ (x : Said). data_of (line_said x s.transcript.now) ≡ Some (data_said c.answer_said-answer.result)) (some_inj first d (sym (slice_get-get_or s.said.now place c.index-judge-place.result low) ∙ got)) c.answer_said-answer.ensures in
    line_here c.args.judge.now c.requires.judge c.args.frame.now c.args.stand.now c.args.at c.window-window.result c.window-window.ensures c.told_line-line.result (data_said c.answer_said-answer.result) d got c.told_line-line.ensures reads f.0 f.1 f.2 f.3 f.4 f.5

pub returns-clause-fits : goal.returns-clause-fits
returns-clause-fits c =
    let s = c.args.judge.now.source.now in
    let f = c.requires.frame in
    let place = c.args.frame.now.begin + c.args.at in
    let low = place_in c.args.judge.now c.requires.judge f.0 f.1 f.2 c.args.at c.args.frame.now f.3 f.4 in
    let first = get_or s.said.now place c.index-judge-place.result in
    let d = get_or s.said.now place c.index-judge-place-2.result in
    let got = slice_get-get_or s.said.now place c.index-judge-place-2.result low in
    let reads : data_of (line_said d s.transcript.now) ≡ Some (data_said c.answer_said-answer.result) =
    subst (λ (x : Said). data_of (line_said x s.transcript.now) ≡ Some (data_said c.answer_said-answer.result)) (some_inj first d (sym (slice_get-get_or s.said.now place c.index-judge-place.result low) ∙ got)) c.answer_said-answer.ensures in
    IfOk-weaker c.judge_told.result _ _
    (λ fit fits session begin many told of under stands of_it.
    fits_here c.args.judge.now c.requires.judge c.args.frame.now c.args.stand.now c.args.at c.window-window.result c.window-window.ensures c.told_line-line.result (data_said c.answer_said-answer.result) d got c.told_line-line.ensures reads session begin many of under stands fit fits told of_it) c.judge_told.ensures.fits

pub returns-clause-stand : goal.returns-clause-stand
returns-clause-stand c =
    let s = c.args.judge.now.source.now in
    let f = c.requires.frame in
    let place = c.args.frame.now.begin + c.args.at in
    let low = place_in c.args.judge.now c.requires.judge f.0 f.1 f.2 c.args.at c.args.frame.now f.3 f.4 in
    let first = get_or s.said.now place c.index-judge-place.result in
    let d = get_or s.said.now place c.index-judge-place-2.result in
    let got = slice_get-get_or s.said.now place c.index-judge-place-2.result low in
    let reads : data_of (line_said d s.transcript.now) ≡ Some (data_said c.answer_said-answer.result) =
    subst (λ (x : Said). data_of (line_said x s.transcript.now) ≡ Some (data_said c.answer_said-answer.result)) (some_inj first d (sym (slice_get-get_or s.said.now place c.index-judge-place.result low) ∙ got)) c.answer_said-answer.ensures in
    if_ok_three c.judge_told.result _ _ _ _
    (λ fit fits on passed session begin many of under stands goes.
    stands_here c.args.judge.now c.requires.judge c.args.frame.now c.args.stand.now c.args.at c.window-window.result c.window-window.ensures c.told_line-line.result (data_said c.answer_said-answer.result) d got c.told_line-line.ensures reads session begin many of under stands fit fits c.judge_told.new.stand on (passed goes) goes)
    c.judge_told.ensures.fits c.judge_told.ensures.on c.judge_told.ensures.passed

pub answer_said-answer-requires-clause-kept : goal.answer_said-answer-requires-clause-kept
answer_said-answer-requires-clause-kept c =
    let s = c.args.judge.now.source.now in
    let f = c.requires.frame in
    let place = c.args.frame.now.begin + c.args.at in
    (line_of_source s place (get_or s.said.now place c.index-judge-place.result) c.requires.judge.source (slice_get-get_or s.said.now place c.index-judge-place.result (place_in c.args.judge.now c.requires.judge f.0 f.1 f.2 c.args.at c.args.frame.now f.3 f.4))).holds

pub answer_said-answer-requires-clause-reads : goal.answer_said-answer-requires-clause-reads
answer_said-answer-requires-clause-reads c =
    let s = c.args.judge.now.source.now in
    let f = c.requires.frame in
    let place = c.args.frame.now.begin + c.args.at in
    (line_of_source s place (get_or s.said.now place c.index-judge-place.result) c.requires.judge.source (slice_get-get_or s.said.now place c.index-judge-place.result (place_in c.args.judge.now c.requires.judge f.0 f.1 f.2 c.args.at c.args.frame.now f.3 f.4))).reads
