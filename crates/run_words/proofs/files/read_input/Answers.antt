use Rattle.std.proofs.Common.{◌≡◌, ℕ, List, Option, Some, None, [], ◌∷◌, sym, ◌∙◌}
use Rattle.std.specs.Option.{option_to_list}
use Rattle.run_words.specs.Options.{Text, texts_of}
use Rattle.run_words.specs.Words.{HasFiles, IsInput}
use Rattle.run_words.specs.declared.settings.Input.{Input}
use Rattle.run_words.specs.declared.settings.Input.TheVariants.{Files, Made}
use Rattle.run_words.proofs.files.read_input.Goals as goal

no_input : (start : ℕ) (make : Option ℕ) (rest : List Text) → make ≡ None → ((first : ℕ) → HasFiles start rest first → ⊥) → (input : Input)
    → IsInput start (option_to_list make) rest input → ⊥
no_input start None rest e none (Files first) h = none first h.1
no_input start None rest e none (Made n) h = let f : [] ≡ n ∷ [] = h.0 in absurd (cc)
no_input start (Some m) rest e none input h = absurd (cc)

pub returns-in-None-files-clause-only : goal.returns-in-None-files-clause-only
returns-in-None-files-clause-only c = λ input h. absurd (no_input c.args.start c.args.make (texts_of c.args.rest.now) c.in-None.is
    (λ first f. let e = sym c.in-None-files.is ∙ c.files.ensures.only first f in absurd (cc)) input h)
