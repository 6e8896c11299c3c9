use Rattle.std.proofs.Common.{List, Ok, sym, ap, subst, ◌∙◌}
use Rattle.std.specs.Option.{option_to_list}
use Rattle.run_words.specs.Options.{Text, texts_of}
use Rattle.run_words.specs.Words.{IsInput, IsSettings}
use Rattle.run_words.specs.declared.settings.Settings.{Settings}
use Rattle.run_words.proofs.Laws.{limits, one_meaning}
use Rattle.run_words.proofs.Meaning.{settings_from, settings_to}
use Rattle.run_words.proofs.Texts.{texts_from}
use Rattle.run_words.proofs.words.read_words.Goals as goal
use Rattle.run_words.proofs.words.read_words.Goals.{In_err-input}

pub returns-in_err-options-clause-only : goal.returns-in_err-options-clause-only
returns-in_err-options-clause-only c = λ s h. absurd (c.in_err-options.ensures.refused s h)

no_settings : (c : In_err-input) (s : Settings) → IsSettings (texts_of c.args.words.now) s → ⊥
no_settings c s h =
    let ws = c.args.words.now in
    let o = c.in_ok-options.options in
    let to = settings_to (texts_of ws) o s c.in_ok-options.ensures.read h in
    let told = c.read_input.ensures.only s.input
    (subst (λ (t : List Text). IsInput o.first (option_to_list o.make) t s.input) (sym (texts_from ws o.first)) to.2) in
    let failed = c.in_err-input.was in
    let clash = sym told ∙ failed in
    absurd (cc)

pub returns-in_err-input-clause-only : goal.returns-in_err-input-clause-only
returns-in_err-input-clause-only c = λ s h. absurd (no_settings (goal.at.returns-in_err-input-clause-only c).In_err-input s h)

pub returns-in_err-input-clause-refused : goal.returns-in_err-input-clause-refused
returns-in_err-input-clause-refused c = λ e s h. no_settings (goal.at.returns-in_err-input-clause-refused c).In_err-input s h

pub returns-clause-settings : goal.returns-clause-settings
returns-clause-settings c =
    let ws = c.args.words.now in
    let o = c.in_ok-options.options in
    settings_from (texts_of ws) o _ c.in_ok-options.ensures.read c.unwrap_or.ensures (c.from.ensures ∙ c.unwrap_or-2.ensures)
    (subst (λ (t : List Text). IsInput o.first (option_to_list o.make) t c.in_ok-input.input) (texts_from ws o.first) c.in_ok-input.ensures.input)

pub returns-clause-only : goal.returns-clause-only
returns-clause-only c = λ s h. ap (λ (x : Settings). Ok x) (one_meaning (texts_of c.args.words.now) _ s (returns-clause-settings c) h)

pub returns-clause-limits : goal.returns-clause-limits
returns-clause-limits c = limits (texts_of c.args.words.now) _ (returns-clause-settings c)
