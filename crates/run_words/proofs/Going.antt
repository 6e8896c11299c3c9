-- How reading goes on, option by option.
use Rattle.std.proofs.Common.{◌≡◌, ◌≢◌, ◌≤◌, ◌+◌, ◌++◌, ℕ, true, false, List, [], ◌∷◌, Option, Some, None, length, drop, slice_index, codes, refl, ap, ap₂, sym, subst, ◌∙◌, arith, append_assoc, inl, inr}
use Rattle.std.specs.Prelude.{IsSome}
use Rattle.std.specs.List.{All, flat_map}
use Rattle.std.specs.Option.{option_to_list}
use Rattle.std.proofs.lemmas.List.{drop_at, length-append, flat_map_more}
use Rattle.std.proofs.lemmas.List.Elements.{All-head, All-tail, All-push, All-nil}
use Rattle.run_words.specs.Options.{Text, Given, IsRight, number_if, number_of, numbers_of, words_of}
use Rattle.run_words.specs.Words.{IsInput, IsSettings, HasFiles, IsMarked, IsPlain}
use Rattle.run_words.specs.Reading.{AreUnderWay, BeginsWithDash, IsAdded, IsChoice, IsFaulty, number_in}
use Rattle.run_words.specs.declared.settings.Kind.{Kind}
use Rattle.run_words.specs.declared.settings.Kind.TheVariants.{Workers, Cache, Make}
use Rattle.run_words.specs.declared.settings.Settings.{Settings}
use Rattle.run_words.specs.declared.settings.Input.{Input}
use Rattle.run_words.specs.declared.settings.Input.TheVariants.{Files, Made}
use Rattle.run_words.specs.declared.options.Options.{Options}
use Rattle.run_words.specs.declared.options.Choice.{Choice}
use Rattle.run_words.proofs.Spelling.{one_option, dash_of_option}

marked_no_dash : (start first : ℕ) (rest files : List Text) → IsMarked start rest first files → BeginsWithDash rest → ⊥
marked_no_dash start first rest files m d =
    let same : codes "--" ∷ files ≡ d.word ∷ d.rest = sym m.0 ∙ d.split in
    let word : codes "--" ≡ d.word = cc in
    d.more (sym word)

plain_no_dash : (start first : ℕ) (rest files : List Text) → IsPlain start rest first files → BeginsWithDash rest → ⊥
plain_no_dash start first rest files m d =
    let all : All (λ file. slice_index file 0 ≢ 45) (d.word ∷ d.rest) =
    subst (λ (t : List Text). All (λ file. slice_index file 0 ≢ 45) t) (sym m.0 ∙ d.split) m.2 in
    All-head (λ file. slice_index file 0 ≢ 45) d.word d.rest all d.dash

files_no_dash : (start first : ℕ) (rest : List Text) → HasFiles start rest first → BeginsWithDash rest → ⊥
files_no_dash start first rest f d = elim f.place [ inl m ↦ marked_no_dash start first rest f.files m d | inr m ↦ plain_no_dash start first rest f.files m d ]

-- behind all options no word begins like one
pub input_no_dash : (start : ℕ) (made : List ℕ) (rest : List Text) (input : Input) → IsInput start made rest input → BeginsWithDash rest → ⊥
input_no_dash start made rest (Files first) h d = files_no_dash start first rest h.1 d
input_no_dash start made rest (Made number) h d = let e : [] ≡ d.word ∷ d.rest = sym h.1 ∙ d.split in absurd (cc)

-- what is left where one reading of the words begins another
pub goes_on : (gs hs : List Given) (r rest : List Text) → flat_map words_of gs ++ r ≡ flat_map words_of hs ++ rest → (BeginsWithDash rest → ⊥)
    → (more : List Given) × (hs ≡ gs ++ more) × (r ≡ flat_map words_of more ++ rest)
goes_on [] hs r rest e n = (hs, refl, e)
goes_on (g ∷ gs) [] r rest e n =
    let begins : words_of g ++ (flat_map words_of gs ++ r) ≡ rest = sym (append_assoc (words_of g) (flat_map words_of gs) r) ∙ e in
    absurd (n (subst BeginsWithDash begins (dash_of_option g (flat_map words_of gs ++ r))))
goes_on (g ∷ gs) (h ∷ hs) r rest e n =
    let same = one_option g h (flat_map words_of gs ++ r) (flat_map words_of hs ++ rest)
    (sym (append_assoc (words_of g) (flat_map words_of gs) r) ∙ e ∙ append_assoc (words_of h) (flat_map words_of hs) rest) in
    let on = goes_on gs hs r rest same.1 n in
    (on.0, ap₂ (λ (x : Given) (xs : List Given). x ∷ xs) (sym same.0) on.1, on.2)

numbers-append : (kind : Kind) (gs hs : List Given) → numbers_of kind (gs ++ hs) ≡ numbers_of kind gs ++ numbers_of kind hs
numbers-append kind [] hs = refl
numbers-append kind (g ∷ gs) hs = ap (λ t. number_if kind g.kind (number_of g) ++ t) (numbers-append kind gs hs)
    ∙ sym (append_assoc (number_if kind g.kind (number_of g)) (numbers_of kind gs) (numbers_of kind hs))

if_same : (kind : Kind) (n : ℕ) → number_if kind kind n ≡ n ∷ []
if_same Workers n = refl
if_same Cache n = refl
if_same Make n = refl

length_some : (o : Option ℕ) → IsSome o → length (option_to_list o) ≡ 1
length_some None h = let e : false ≡ true = h in absurd (cc)
length_some (Some n) h = refl

pub length_option : (o : Option ℕ) → length (option_to_list o) ≤ 1
length_option None = omega arith
length_option (Some n) = omega arith

-- a reading that goes on from the words under way
pub on_way : (words : List Text) (options : Options) (s : Settings) (way : AreUnderWay words options) (h : IsSettings words s)
    → (more : List Given) × (h.options ≡ way.given ++ more) × (drop options.first words ≡ flat_map words_of more ++ h.rest)
on_way words options s way h = goes_on way.given h.options (drop options.first words) h.rest (sym way.split ∙ h.split)
    (input_no_dash _ _ h.rest s.input h.input)

right_at : (gs hs : List Given) (g : Given) → All IsRight (gs ++ g ∷ hs) → IsRight g
right_at [] hs g all = All-head IsRight g hs all
right_at (x ∷ gs) hs g all = right_at gs hs g (All-tail IsRight x (gs ++ g ∷ hs) all)

faulty_from : (words : List Text) (options : Options) (s : Settings) (way : AreUnderWay words options) (h : IsSettings words s) (more : List Given)
    → h.options ≡ way.given ++ more → drop options.first words ≡ flat_map words_of more ++ h.rest → IsFaulty (drop options.first words) → ⊥
faulty_from words options s way h [] e split bad = input_no_dash _ _ h.rest s.input h.input (subst BeginsWithDash split bad.dash)
faulty_from words options s way h (g ∷ more) e split bad =
    bad.wrong g (flat_map words_of more ++ h.rest) (right_at way.given more g (subst (λ (t : List Given). All IsRight t) e h.right))
    (split ∙ append_assoc (words_of g) (flat_map words_of more) h.rest)

-- words that go on with no right option have no meaning
pub faulty_has_none : (words : List Text) (options : Options) → AreUnderWay words options → IsFaulty (drop options.first words)
    → (s : Settings) → IsSettings words s → ⊥
faulty_has_none words options way bad s h = let on = on_way words options s way h in faulty_from words options s way h on.0 on.1 on.2 bad

twice_from : (words : List Text) (options : Options) (choice : Choice) (s : Settings) (way : AreUnderWay words options) (h : IsSettings words s) (more : List Given)
    → h.options ≡ way.given ++ more → drop options.first words ≡ flat_map words_of more ++ h.rest
    → IsChoice (drop options.first words) choice → IsSome (number_in options choice.kind) → ⊥
twice_from words options choice s way h [] e split c some =
    input_no_dash _ _ h.rest s.input h.input (subst BeginsWithDash (sym c.split ∙ split) (dash_of_option c.given c.rest))
twice_from words options choice s way h (g ∷ more) e split c some =
    let same = one_option c.given g c.rest (flat_map words_of more ++ h.rest)
    (sym c.split ∙ split ∙ append_assoc (words_of g) (flat_map words_of more) h.rest) in
    let kind : choice.kind ≡ g.kind = c.chosen.same_kind ∙ ap (λ (x : Given). x.kind) same.0 in
    let numbers : numbers_of g.kind h.options ≡ numbers_of g.kind way.given ++ (number_if g.kind g.kind (number_of g) ++ numbers_of g.kind more) =
    ap (numbers_of g.kind) e ∙ numbers-append g.kind way.given (g ∷ more) in
    let once : length (numbers_of g.kind h.options) ≤ 1 = h.once g.kind in
    let one : length (numbers_of g.kind way.given) ≡ 1 = ap length (sym (way.numbers g.kind)) ∙ length_some (number_in options g.kind) (subst (λ (k : Kind). IsSome (number_in options k)) kind some) in
    let here : length (number_if g.kind g.kind (number_of g)) ≡ 1 = ap length (if_same g.kind (number_of g)) in
    let count : length (numbers_of g.kind h.options) ≡ length (numbers_of g.kind way.given) + (length (number_if g.kind g.kind (number_of g)) + length (numbers_of g.kind more)) =
    ap length numbers ∙ length-append (numbers_of g.kind way.given) (number_if g.kind g.kind (number_of g) ++ numbers_of g.kind more)
    ∙ ap (λ n. length (numbers_of g.kind way.given) + n) (length-append (number_if g.kind g.kind (number_of g)) (numbers_of g.kind more)) in
    absurd (omega (arith, once, one, here, count))

-- words that go on with an option of a kind that was given have no meaning
pub twice_has_none : (words : List Text) (options : Options) (choice : Choice) → AreUnderWay words options → IsChoice (drop options.first words) choice
    → IsSome (number_in options choice.kind) → (s : Settings) → IsSettings words s → ⊥
twice_has_none words options choice way c some s h =
    let on = on_way words options s way h in twice_from words options choice s way h on.0 on.1 on.2 c some

number_if_as : (kind other same : Kind) (n m : ℕ) → other ≡ same → n ≡ m → number_if kind other n ≡ number_if kind same m
number_if_as kind other same n m e f = ap₂ (λ (k : Kind) (x : ℕ). number_if kind k x) e f

-- one option more
pub way_more : (words : List Text) (before after : Options) (choice : Choice) → AreUnderWay words before → IsChoice (drop before.first words) choice
    → IsAdded before choice after → AreUnderWay words after
way_more words before after choice way c added =
    let gs = way.given in
    let g = c.given in
    let put : flat_map words_of gs ++ words_of g ≡ flat_map words_of (gs ++ g ∷ []) = flat_map_more words_of [] gs g in
    let whole : words ≡ flat_map words_of (gs ++ g ∷ []) ++ c.rest =
    way.split ∙ ap (λ (t : List Text). flat_map words_of gs ++ t) c.split ∙ sym (append_assoc (flat_map words_of gs) (words_of g) c.rest)
    ∙ ap (λ (t : List Text). t ++ c.rest) put in
    let first : after.first ≡ length (flat_map words_of (gs ++ g ∷ [])) =
    added.first ∙ ap₂ (λ m n. m + n) way.first c.chosen.taken ∙ sym (length-append (flat_map words_of gs) (words_of g)) ∙ ap length put in
    let left : drop after.first words ≡ c.rest = ap (λ (t : List Text). drop after.first t) whole ∙ drop_at (flat_map words_of (gs ++ g ∷ [])) c.rest after.first (sym first) in
    record {
      given = gs ++ g ∷ [];
      right = All-push IsRight gs g way.right c.chosen.right;
      split = whole ∙ ap (λ (t : List Text). flat_map words_of (gs ++ g ∷ []) ++ t) (sym left);
      first = first;
      numbers = λ kind. added.numbers kind ∙ ap₂ (λ (a b : List ℕ). a ++ b) (way.numbers kind) (number_if_as kind choice.kind g.kind choice.number (number_of g) c.chosen.same_kind c.chosen.number)
          ∙ flat_map_more (λ x. number_if kind x.kind (number_of x)) [] gs g;
    }

-- before the first word
pub way_none : (words : List Text) → AreUnderWay words (record { workers = None; cache = None; make = None; first = 0 })
way_none words = record {
  given = [];
  right = All-nil IsRight;
  split = refl;
  first = refl;
  numbers = λ kind. none_of kind;
} where
  none_of : (kind : Kind) → option_to_list (number_in (record { workers = None; cache = None; make = None; first = 0 }) kind) ≡ []
  none_of Workers = refl
  none_of Cache = refl
  none_of Make = refl
