-- What stands of words and what they ask for. Crates above import this module alone.
use Rattle.std.proofs.Common.{◌≡◌, ◌≢◌, ◌≤◌, ◌+◌, ◌++◌, ℕ, List, [], ◌∷◌, length, drop, refl, ap, sym, subst, ◌∙◌, arith, inl, inr, ◌⊎◌, append-nil, append_assoc, slice_index, codes}
use Rattle.std.specs.Prelude.{slice_index_or}
use Rattle.std.specs.List.{All, flat_map}
use Rattle.std.proofs.lemmas.List.{drop_at, length-append}
use Rattle.std.proofs.lemmas.List.Elements.{All-append, All-cons, All-head, All-nil, All-tail}
use Rattle.run_words.specs.Options.{Text, Given, IsRight, least_of, most_of, number_if, number_of, numbers_of, words_of}
use Rattle.run_words.specs.Words.{AreFiles, HasFilesFrom, IsInput, IsMarked, IsPlain, IsSettings, KeepsLimits}
use Rattle.run_words.specs.Reading.{BeginsWithDash}
use Rattle.run_words.specs.declared.settings.Kind.{Kind}
use Rattle.run_words.specs.declared.settings.Kind.TheVariants.{Workers, Cache, Make}
use Rattle.run_words.specs.declared.settings.Settings.{Settings}
use Rattle.run_words.specs.declared.settings.Input.{Input}
use Rattle.run_words.specs.declared.settings.Input.TheVariants.{Files, Made}
use Rattle.run_words.proofs.Spelling.{dash_of_option}
use Rattle.run_words.proofs.Going.{goes_on, input_no_dash}

marked_or_plain : (start f g : ℕ) (rest files others : List Text) → IsMarked start rest f files → IsPlain start rest g others → ⊥
marked_or_plain start f g rest files others m n =
    let all : All (λ file. slice_index file 0 ≢ 45) (codes "--" ∷ files) =
    subst (λ (t : List Text). All (λ file. slice_index file 0 ≢ 45) t) (sym n.0 ∙ m.0) n.2 in
    All-head (λ file. slice_index file 0 ≢ 45) (codes "--") files all refl

place_once : (start f g : ℕ) (rest files others : List Text) → IsMarked start rest f files ⊎ IsPlain start rest f files
    → IsMarked start rest g others ⊎ IsPlain start rest g others → f ≡ g
place_once start f g rest files others (inl m) (inl n) = m.1 ∙ sym n.1
place_once start f g rest files others (inr m) (inr n) = m.1 ∙ sym n.1
place_once start f g rest files others (inl m) (inr n) = absurd (marked_or_plain start f g rest files others m n)
place_once start f g rest files others (inr m) (inl n) = absurd (marked_or_plain start g f rest others files n m)

-- the rest of the words asks for at most one input
input_once : (start : ℕ) (made : List ℕ) (rest : List Text) (i j : Input) → IsInput start made rest i → IsInput start made rest j → i ≡ j
input_once start made rest (Files f) (Files g) a b = ap Files (place_once start f g rest a.1.files b.1.files a.1.place b.1.place)
input_once start made rest (Files f) (Made n) a b = let e : [] ≡ n ∷ [] = sym a.0 ∙ b.0 in absurd (cc)
input_once start made rest (Made n) (Files f) a b = let e : [] ≡ n ∷ [] = sym b.0 ∙ a.0 in absurd (cc)
input_once start made rest (Made n) (Made m) a b = let e : n ∷ [] ≡ m ∷ [] = sym a.0 ∙ b.0 in ap Made (cc)

same_options : (words : List Text) (s t : Settings) (a : IsSettings words s) (b : IsSettings words t) (more : List Given)
    → b.options ≡ a.options ++ more → a.rest ≡ flat_map words_of more ++ b.rest → (b.options ≡ a.options) × (a.rest ≡ b.rest)
same_options words s t a b [] e split = (e ∙ append-nil a.options, split)
same_options words s t a b (g ∷ more) e split =
    let begins : a.rest ≡ words_of g ++ (flat_map words_of more ++ b.rest) = split ∙ append_assoc (words_of g) (flat_map words_of more) b.rest in
    absurd (input_no_dash _ _ a.rest s.input a.input (subst BeginsWithDash (sym begins) (dash_of_option g (flat_map words_of more ++ b.rest))))

-- words have at most one meaning
pub one_meaning : (words : List Text) (s t : Settings) → IsSettings words s → IsSettings words t → s ≡ t
one_meaning words s t a b =
    let on = goes_on a.options b.options a.rest b.rest (sym a.split ∙ b.split) (input_no_dash _ _ b.rest t.input b.input) in
    let same = same_options words s t a b on.0 on.1 on.2 in
    let workers : s.workers ≡ t.workers = a.workers ∙ ap (λ (gs : List Given). slice_index_or (numbers_of Workers gs) 0 1) (sym same.0) ∙ sym b.workers in
    let cache : s.cache ≡ t.cache = a.cache ∙ ap (λ (gs : List Given). slice_index_or (numbers_of Cache gs) 0 1048576) (sym same.0) ∙ sym b.cache in
    let there : IsInput (length (flat_map words_of a.options)) (numbers_of Make a.options) a.rest t.input =
    subst (λ (r : List Text). IsInput (length (flat_map words_of a.options)) (numbers_of Make a.options) r t.input) (sym same.1)
    (subst (λ (gs : List Given). IsInput (length (flat_map words_of gs)) (numbers_of Make gs) b.rest t.input) same.0 b.input) in
    let input : s.input ≡ t.input = input_once _ _ a.rest s.input t.input a.input there in
    λ i. record { workers = workers i; cache = cache i; input = input i }

abbrev IsWithin : Kind → ℕ → Type 0
IsWithin kind n = (least_of kind ≤ n) × (n ≤ most_of kind)

within_if : (kind other : Kind) (n : ℕ) → IsWithin other n → All (IsWithin kind) (number_if kind other n)
within_if Workers Workers n h = All-cons (IsWithin Workers) n [] h (All-nil (IsWithin Workers))
within_if Cache Cache n h = All-cons (IsWithin Cache) n [] h (All-nil (IsWithin Cache))
within_if Make Make n h = All-cons (IsWithin Make) n [] h (All-nil (IsWithin Make))
within_if Workers Cache n h = All-nil (IsWithin Workers)
within_if Workers Make n h = All-nil (IsWithin Workers)
within_if Cache Workers n h = All-nil (IsWithin Cache)
within_if Cache Make n h = All-nil (IsWithin Cache)
within_if Make Workers n h = All-nil (IsWithin Make)
within_if Make Cache n h = All-nil (IsWithin Make)

all_within : (kind : Kind) (gs : List Given) → All IsRight gs → All (IsWithin kind) (numbers_of kind gs)
all_within kind [] h = All-nil (IsWithin kind)
all_within kind (g ∷ gs) h =
    let right = All-head IsRight g gs h in
    All-append (IsWithin kind) (number_if kind g.kind (number_of g)) (numbers_of kind gs)
    (within_if kind g.kind (number_of g) (right.above, right.below)) (all_within kind gs (All-tail IsRight g gs h))

first_within : (kind : Kind) (d : ℕ) (ns : List ℕ) → All (IsWithin kind) ns → IsWithin kind d → IsWithin kind (slice_index_or ns 0 d)
first_within kind d [] h w = w
first_within kind d (n ∷ ns) h w = All-head (IsWithin kind) n ns h

behind_front : (words front files : List Text) (first : ℕ) → words ≡ front ++ files → length front ≡ first → AreFiles files → HasFilesFrom words (Files first)
behind_front words front files first e l good =
    let count : length words ≡ length front + length files = ap length e ∙ length-append front files in
    let left : drop first words ≡ files = ap (λ (t : List Text). drop first t) e ∙ drop_at front files first l in
    let some : 1 ≤ length files = good.some in
    let few : length files ≤ 1024 = good.few in
    (omega (arith, count, l, some), omega (arith, count, l, few), subst (λ (t : List Text). All (λ file. file ≢ []) t) (sym left) good.named)

files_behind : (words front rest files : List Text) (first : ℕ) → words ≡ front ++ rest → AreFiles files
    → IsMarked (length front) rest first files ⊎ IsPlain (length front) rest first files → HasFilesFrom words (Files first)
files_behind words front rest files first e good (inl m) =
    behind_front words (front ++ codes "--" ∷ []) files first (e ∙ ap (λ (t : List Text). front ++ t) m.0 ∙ sym (append_assoc front (codes "--" ∷ []) files))
    (length-append front (codes "--" ∷ []) ∙ sym m.1) good
files_behind words front rest files first e good (inr m) =
    behind_front words front files first (e ∙ ap (λ (t : List Text). front ++ t) m.0) (sym m.1) good

input_behind : (words front rest : List Text) (made : List ℕ) (input : Input) → words ≡ front ++ rest → IsInput (length front) made rest input → HasFilesFrom words input
input_behind words front rest made (Files first) e h = files_behind words front rest h.1.files first e h.1.good h.1.place
input_behind words front rest made (Made n) e h = tt

-- what words ask for keeps to the limits
pub limits : (words : List Text) (s : Settings) → IsSettings words s → KeepsLimits words s
limits words s h =
    let workers = first_within Workers 1 (numbers_of Workers h.options) (all_within Workers h.options h.right) (omega arith, omega arith) in
    let cache = first_within Cache 1048576 (numbers_of Cache h.options) (all_within Cache h.options h.right) (omega arith, omega arith) in
    record {
      some_workers = omega (arith, workers.0, h.workers);
      few_workers = omega (arith, workers.1, h.workers);
      cache = omega (arith, cache.1, h.cache);
      files = input_behind words (flat_map words_of h.options) h.rest (numbers_of Make h.options) s.input h.split h.input;
    }
