use Rattle.std.proofs.Common.{List, drop, sym, subst, ◌∙◌}
use Rattle.std.specs.Prelude.{string_bytes}
use Rattle.run_words.specs.Options.{Text, texts_of}
use Rattle.run_words.specs.Reading.{IsChoice, IsValueFirst}
use Rattle.run_words.proofs.Choices.{joined_choice, apart_choice}
use Rattle.run_words.proofs.Texts.{first_text, rest_is}
use Rattle.run_words.proofs.options.next_option.Goals as goal

pub returns-in_ok-chosen-in-Some-clause-choice : goal.returns-in_ok-chosen-in-Some-clause-choice
returns-in_ok-chosen-in-Some-clause-choice c =
    let ws = c.args.words.now in
    let choice = c.in_ok-chosen-in-Some.field-0 in
    let first = first_text ws c.word-item.result c.in-len1-up.len_at_least c.word-item.is in
    subst (λ (t : List Text). IsChoice t choice) (sym first)
    (joined_choice c.in-Some.kind c.in-Some.value.now (string_bytes c.word-item.result) (texts_of (drop 1 ws)) choice
    (sym c.as_str.ensures.value ∙ c.in-Some.ensures.some) c.in_ok-chosen-in-Some.ensures.choice)

pub returns-in_ok-apart-in-Some-kind_named-clause-choice : goal.returns-in_ok-apart-in-Some-kind_named-clause-choice
returns-in_ok-apart-in-Some-kind_named-clause-choice c =
    let ws = c.args.words.now in
    let kind = c.in-Some-kind_named.kind in
    let choice = c.in_ok-apart-in-Some-kind_named.field-0 in
    let first = first_text ws c.word-item.result c.in-len1-up.len_at_least c.word-item.is in
    let told : IsValueFirst kind (texts_of (drop 1 ws)) choice = rw rest_is at c.in_ok-apart-in-Some-kind_named.ensures.choice in
    subst (λ (t : List Text). IsChoice t choice) (sym first)
    (apart_choice kind (string_bytes c.word-item.result) (texts_of (drop 1 ws)) choice
    (sym c.as_str-in-None.ensures.value ∙ c.in-Some-kind_named.ensures.some) told)
