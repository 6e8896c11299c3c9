-- From the options and the rest that were read to what the words ask for, and back.
use Rattle.std.proofs.Common.{◌≡◌, ◌≤◌, ◌++◌, ℕ, List, [], ◌∷◌, Option, Some, None, length, drop, refl, ap, sym, subst, ◌∙◌, append-nil, append_assoc}
use Rattle.std.specs.Prelude.{unwrap_or, slice_index_or}
use Rattle.std.specs.List.{flat_map}
use Rattle.std.specs.Option.{option_to_list}
use Rattle.run_words.specs.Options.{Text, Given, numbers_of, words_of}
use Rattle.run_words.specs.Words.{IsInput, IsSettings}
use Rattle.run_words.specs.Reading.{AreRead, number_in}
use Rattle.run_words.specs.declared.settings.Kind.{Kind}
use Rattle.run_words.specs.declared.settings.Kind.TheVariants.{Workers, Cache, Make}
use Rattle.run_words.specs.declared.settings.Settings.{Settings}
use Rattle.run_words.specs.declared.options.Options.{Options}
use Rattle.run_words.proofs.Going.{on_way, length_option}

-- the options that are read are those of every meaning
all_read : (words : List Text) (options : Options) (s : Settings) (read : AreRead words options) (h : IsSettings words s) (more : List Given)
    → h.options ≡ read.way.given ++ more → drop options.first words ≡ flat_map words_of more ++ h.rest
    → (h.options ≡ read.way.given) × (drop options.first words ≡ h.rest)
all_read words options s read h [] e split = (e ∙ append-nil read.way.given, split)
all_read words options s read h (g ∷ more) e split =
    absurd (read.ended g (flat_map words_of more ++ h.rest) (split ∙ append_assoc (words_of g) (flat_map words_of more) h.rest))

first_or : (d : ℕ) (o : Option ℕ) → slice_index_or (option_to_list o) 0 d ≡ unwrap_or o d
first_or d None = refl
first_or d (Some n) = refl

-- what words ask for, by their options and by the rest
pub settings_to : (words : List Text) (options : Options) (s : Settings) → AreRead words options → IsSettings words s
    → (s.workers ≡ unwrap_or options.workers 1) × (s.cache ≡ unwrap_or options.cache 1048576)
    × IsInput options.first (option_to_list options.make) (drop options.first words) s.input
settings_to words options s read h =
    let on = on_way words options s read.way h in
    let same = all_read words options s read h on.0 on.1 on.2 in
    let numbers : (kind : Kind) → numbers_of kind h.options ≡ option_to_list (number_in options kind) = λ kind. ap (numbers_of kind) same.0 ∙ sym (read.way.numbers kind) in
    let start : length (flat_map words_of h.options) ≡ options.first = ap (λ (t : List Given). length (flat_map words_of t)) same.0 ∙ sym read.way.first in (
      h.workers ∙ ap (λ (t : List ℕ). slice_index_or t 0 1) (numbers Workers) ∙ first_or 1 options.workers,
      h.cache ∙ ap (λ (t : List ℕ). slice_index_or t 0 1048576) (numbers Cache) ∙ first_or 1048576 options.cache,
      subst (λ (t : List Text). IsInput options.first (option_to_list options.make) t s.input) (sym same.1)
          (subst (λ (m : List ℕ). IsInput options.first m h.rest s.input) (numbers Make)
          (subst (λ (n : ℕ). IsInput n (numbers_of Make h.options) h.rest s.input) start h.input)),
    )

-- words ask for what their options and their rest ask for
pub settings_from : (words : List Text) (options : Options) (s : Settings) → AreRead words options
    → s.workers ≡ unwrap_or options.workers 1 → s.cache ≡ unwrap_or options.cache 1048576
    → IsInput options.first (option_to_list options.make) (drop options.first words) s.input → IsSettings words s
settings_from words options s read workers cache input =
    let way = read.way in
    record {
      options = way.given;
      rest = drop options.first words;
      split = way.split;
      right = way.right;
      once = λ kind. subst (λ (t : List ℕ). length t ≤ 1) (way.numbers kind) (length_option (number_in options kind));
      workers = workers ∙ sym (first_or 1 options.workers) ∙ ap (λ (t : List ℕ). slice_index_or t 0 1) (way.numbers Workers);
      cache = cache ∙ sym (first_or 1048576 options.cache) ∙ ap (λ (t : List ℕ). slice_index_or t 0 1048576) (way.numbers Cache);
      input = subst (λ (n : ℕ). IsInput n (numbers_of Make way.given) (drop options.first words) s.input) way.first
          (subst (λ (m : List ℕ). IsInput options.first m (drop options.first words) s.input) (way.numbers Make) input);
    }
