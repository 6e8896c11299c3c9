-- What the first words tell.
use Rattle.std.proofs.Common.{◌≡◌, ◌≢◌, ◌≤◌, ◌+◌, ◌++◌, Bool, true, false, List, [], ◌∷◌, length, drop, ap, ap₂, sym, subst, ◌∙◌, arith}
use Rattle.std.specs.List.{flat_map}
use Rattle.std.proofs.lemmas.List.{length-append}
use Rattle.run_words.specs.Options.{Text, Given, IsRight, Takes, joined, name_of, spelled, words_of}
use Rattle.run_words.specs.Reading.{AreUnderWay, BeginsWithDash, BeginsWithNone, IsChoice, IsChosen, IsFaulty, IsNoValueFirst, IsValueFirst}
use Rattle.run_words.specs.declared.settings.Kind.{Kind}
use Rattle.run_words.specs.declared.options.Options.{Options}
use Rattle.run_words.specs.declared.options.Choice.{Choice}
use Rattle.run_words.proofs.Spelling.{dash_of_name, dash_of_option, name_once, name_or_joined, one_option}

none_spelled : (w : Text) (rest : List Text) (a : Bool) (k : Kind) (v : Text) (r : List Text) → ((l : Kind) (u : Text) → w ≢ joined l u) → ((l : Kind) → w ≢ name_of l)
    → w ∷ rest ≡ spelled a k v ++ r → ⊥
none_spelled w rest true k v r j n e = j k v (cc)
none_spelled w rest false k v r j n e = n k (cc)

-- a word that spells no option and names none begins no option
pub no_option : (w : Text) (rest : List Text) → ((l : Kind) (u : Text) → w ≢ joined l u) → ((l : Kind) → w ≢ name_of l) → BeginsWithNone (w ∷ rest)
no_option w rest j n = λ g r e. none_spelled w rest g.is_joined g.kind g.value r j n e

nil_spelled : (a : Bool) (k : Kind) (v : Text) (r : List Text) → [] ≡ spelled a k v ++ r → ⊥
nil_spelled true k v r e = absurd (cc)
nil_spelled false k v r e = absurd (cc)

pub no_words : BeginsWithNone []
no_words = λ g r e. nil_spelled g.is_joined g.kind g.value r e

-- an option in one word, with a value that it doesn't take
pub wrong_joined : (k : Kind) (v w : Text) (rest : List Text) → w ≡ joined k v → (Takes k v → ⊥) → IsFaulty (w ∷ rest)
wrong_joined k v w rest is wrong =
    let this : Given = record { is_joined = true; kind = k; value = v } in
    record {
      dash = subst (λ (t : Text). BeginsWithDash (t ∷ rest)) (sym is) (dash_of_option this rest);
      wrong = λ g r right e.
          let same = one_option this g rest r (ap (λ (t : Text). t ∷ rest) (sym is) ∙ e) in
          wrong (subst IsRight (sym same.0) right);
    }

wrong_spelled : (k : Kind) (rest : List Text) (a : Bool) (l : Kind) (v : Text) (r : List Text) → IsNoValueFirst k rest → Takes l v → name_of k ∷ rest ≡ spelled a l v ++ r → ⊥
wrong_spelled k rest true l v r none takes e = name_or_joined k l v (cc)
wrong_spelled k rest false l v r none takes e =
    let same : k ≡ l = name_once k l (cc) in
    none v r (cc) (subst (λ (m : Kind). Takes m v) (sym same) takes)

-- an option's name without a value behind it that it takes
pub wrong_apart : (k : Kind) (w : Text) (rest : List Text) → w ≡ name_of k → IsNoValueFirst k rest → IsFaulty (w ∷ rest)
wrong_apart k w rest is none = record {
  dash = subst (λ (t : Text). BeginsWithDash (t ∷ rest)) (sym is) (dash_of_name k rest);
  wrong = λ g r right e. wrong_spelled k rest g.is_joined g.kind g.value r none right (ap (λ (t : Text). t ∷ rest) (sym is) ∙ e);
}

pub joined_choice : (k : Kind) (v w : Text) (rest : List Text) (choice : Choice) → w ≡ joined k v → IsChosen k v 1 choice → IsChoice (w ∷ rest) choice
joined_choice k v w rest choice is chosen = record {
  given = record { is_joined = true; kind = k; value = v };
  rest = rest;
  split = ap (λ (t : Text). t ∷ rest) is;
  chosen = chosen;
}

pub apart_choice : (k : Kind) (w : Text) (rest : List Text) (choice : Choice) → w ≡ name_of k → IsValueFirst k rest choice → IsChoice (w ∷ rest) choice
apart_choice k w rest choice is first = record {
  given = record { is_joined = false; kind = k; value = first.0 };
  rest = first.1;
  split = ap₂ (λ (t : Text) (ts : List Text). t ∷ ts) is first.2;
  chosen = first.3;
}

-- how far an option reaches
some_words : (a : Bool) (k : Kind) (v : Text) → 1 ≤ length (spelled a k v)
some_words true k v = omega arith
some_words false k v = omega arith

pub choice_within : (words : List Text) (choice : Choice) → IsChoice words choice → (1 ≤ choice.words) × (choice.words ≤ length words)
choice_within words choice c =
    let count : length words ≡ length (words_of c.given) + length c.rest = ap length c.split ∙ length-append (words_of c.given) c.rest in
    let taken : choice.words ≡ length (words_of c.given) = c.chosen.taken in
    let some : 1 ≤ length (words_of c.given) = some_words c.given.is_joined c.given.kind c.given.value in
    (omega (arith, count, taken, some), omega (arith, count, taken))

pub way_within : (words : List Text) (options : Options) → AreUnderWay words options → options.first ≤ length words
way_within words options way =
    let count : length words ≡ length (flat_map words_of way.given) + length (drop options.first words) = ap length way.split ∙ length-append (flat_map words_of way.given) (drop options.first words) in
    let first : options.first ≡ length (flat_map words_of way.given) = way.first in
    omega (arith, count, first)
