use Rattle.std.proofs.Common.{List, Option, Ok, ◌-◌, drop, length, take, ap, subst, ◌∙◌}
use Rattle.std.specs.Prelude.{IfSome}
use Rattle.run_words.specs.Options.{Text, texts_of}
use Rattle.run_words.specs.Words.{IsSettings}
use Rattle.run_words.specs.Reading.{BeginsWithNone, IsChoice, IsFaulty}
use Rattle.run_words.specs.declared.settings.Settings.{Settings}
use Rattle.run_words.specs.declared.options.Choice.{Choice}
use Rattle.run_words.proofs.Going.{faulty_has_none, twice_has_none, way_more}
use Rattle.run_words.proofs.Texts.{on_err, texts_from}
use Rattle.run_words.proofs.options.read_options.Goals as goal

pub returns-in_err-choice-clause-refused : goal.returns-in_err-choice-clause-refused
returns-in_err-choice-clause-refused c =
    let ws = c.args.words.now in
    let o = c.loop-choice.options in
    let faulty : IsFaulty (drop o.first (texts_of ws)) = subst IsFaulty (texts_from ws o.first) c.in_err-choice.ensures.refused in
    on_err c.from_residual.result ((settings : Settings) → ¬ IsSettings (texts_of ws) settings) (faulty_has_none (texts_of ws) o c.loop-choice.invariant faulty)

pub returns-in_err-options-clause-refused : goal.returns-in_err-options-clause-refused
returns-in_err-options-clause-refused c =
    let ws = c.args.words.now in
    let o = c.loop-choice.options in
    let found : IsChoice (texts_of (take (length ws - o.first) (drop o.first ws))) c.in-Some.choice = subst (λ (x : Option Choice). IfSome x (IsChoice (texts_of (take (length ws - o.first) (drop o.first ws))))) c.in-Some.is c.in_ok-choice.ensures.choice in
    let choice : IsChoice (drop o.first (texts_of ws)) c.in-Some.choice = subst (λ (t : List Text). IsChoice t c.in-Some.choice) (texts_from ws o.first) found in
    on_err c.from_residual-in_err-options.result ((settings : Settings) → ¬ IsSettings (texts_of ws) settings)
    (twice_has_none (texts_of ws) o c.in-Some.choice c.loop-choice.invariant choice c.in_err-options.ensures.refused)

pub loop-choice-preserved : goal.loop-choice-preserved
loop-choice-preserved c =
    let ws = c.args.words.now in
    let o = c.loop-choice.options in
    let found : IsChoice (texts_of (take (length ws - o.first) (drop o.first ws))) c.in-Some.choice = subst (λ (x : Option Choice). IfSome x (IsChoice (texts_of (take (length ws - o.first) (drop o.first ws))))) c.in-Some.is c.in_ok-choice.ensures.choice in
    let choice : IsChoice (drop o.first (texts_of ws)) c.in-Some.choice = subst (λ (t : List Text). IsChoice t c.in-Some.choice) (texts_from ws o.first) found in
    way_more (texts_of ws) o c.in_ok-options.options c.in-Some.choice c.loop-choice.invariant choice c.in_ok-options.ensures.added

pub returns-clause-read : goal.returns-clause-read
returns-clause-read c =
    let ws = c.args.words.now in
    let o = c.loop-choice.options in
    record {
      way = c.loop-choice.invariant;
      ended = subst BeginsWithNone (texts_from ws o.first) (c.next_option.ensures.ended (c.in_ok-choice.was ∙ ap (λ (x : Option Choice). Ok x) c.in_default.is));
    }
