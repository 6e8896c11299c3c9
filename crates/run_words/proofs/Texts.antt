-- Words as texts.
use Rattle.std.proofs.Common.{◌≡◌, ◌≢◌, ◌≤◌, ◌-◌, ◌==◌, ◌&&◌, ℕ, Bool, true, false, not, List, [], ◌∷◌, length, drop, take, get_or, slice_index, refl, ap, ap₂, sym, subst, inl, inr, codes, ◌⊎◌, ◌∙◌, arith, rules, tests}
use Rattle.std.specs.Prelude.{Err, Ok, OnErr, Result, String, string_bytes}
use Rattle.std.specs.List.{All, list_all}
use Rattle.std.proofs.lemmas.List.{take_rest, length-map, drop-map}
use Rattle.std.proofs.lemmas.List.Elements.{All-cons, All-head, All-nil, All-tail}
use Rattle.run_words.specs.Options.{Text, texts_of}
use Rattle.run_words.specs.Words.{AreFiles, HasFiles, IsMarked, IsPlain}

pub first_text : {Z : Type 0} (ws : List (String Z)) (w : String Z) → 1 ≤ length ws → w ≡ get_or ws 0 w
    → texts_of ws ≡ string_bytes w ∷ texts_of (drop 1 ws)
first_text [] w some is = absurd (omega arith)
first_text (x ∷ xs) w some is = ap (λ s. string_bytes s ∷ texts_of xs) (sym is)

-- the words behind the first, as a slice has them
pub rest_is : {Z : Type 0} (ws : List (String Z)) → take (length ws - 1) (drop 1 ws) ≡ drop 1 ws
rest_is ws = take_rest ws 1

named_test : (n : Text) → (not (length n == 0) ≡ true → n ≢ []) × (n ≢ [] → not (length n == 0) ≡ true)
named_test [] = (λ e. let f : false ≡ true = e in absurd (cc), λ h. absurd (h refl))
named_test (x ∷ xs) = (λ e h. cc, λ h. search (rules, tests))

plain_test : (n : ℕ) → (not (n == 45) ≡ true → n ≢ 45) × (n ≢ 45 → not (n == 45) ≡ true)
plain_test n = (λ e h. search (rules, tests), λ h. search (rules, tests))

both : (a b : Bool) → a && b ≡ true → (a ≡ true) × (b ≡ true)
both true b e = (refl, e)
both false b e = absurd (cc)

-- a test of each word's text holds of all where the fact does
module _ {Z : Type 0} (test : Text → Bool) (P : Text → Type 0) (says : (t : Text) → (test t ≡ true → P t) × (P t → test t ≡ true)) where
  pub all_from_test : (ws : List (String Z)) → list_all (λ w. test (string_bytes w)) ws ≡ true → All P (texts_of ws)
  all_from_test [] e = All-nil P
  all_from_test (w ∷ ws) e =
      let parts = both (test (string_bytes w)) (list_all (λ x. test (string_bytes x)) ws) e in
      All-cons P (string_bytes w) (texts_of ws) ((says (string_bytes w)).0 parts.0) (all_from_test ws parts.1)

  pub test_from_all : (ws : List (String Z)) → All P (texts_of ws) → list_all (λ w. test (string_bytes w)) ws ≡ true
  test_from_all [] h = refl
  test_from_all (w ∷ ws) h = ap₂ (λ a b. a && b)
      ((says (string_bytes w)).1 (All-head P (string_bytes w) (texts_of ws) h)) (test_from_all ws (All-tail P (string_bytes w) (texts_of ws) h))

module _ {Z : Type 0} (ws : List (String Z)) where
  pub named_from : list_all (λ w. not (length (string_bytes w) == 0)) ws ≡ true → All (λ file. file ≢ []) (texts_of ws)
  named_from = all_from_test (λ t. not (length t == 0)) (λ file. file ≢ []) named_test ws

  pub named_into : All (λ file. file ≢ []) (texts_of ws) → list_all (λ w. not (length (string_bytes w) == 0)) ws ≡ true
  named_into = test_from_all (λ t. not (length t == 0)) (λ file. file ≢ []) named_test ws

  pub plain_from : list_all (λ w. not (slice_index (string_bytes w) 0 == 45)) ws ≡ true → All (λ file. slice_index file 0 ≢ 45) (texts_of ws)
  plain_from = all_from_test (λ t. not (slice_index t 0 == 45)) (λ file. slice_index file 0 ≢ 45) (λ t. plain_test (slice_index t 0)) ws

  pub plain_into : All (λ file. slice_index file 0 ≢ 45) (texts_of ws) → list_all (λ w. not (slice_index (string_bytes w) 0 == 45)) ws ≡ true
  plain_into = test_from_all (λ t. not (slice_index t 0 == 45)) (λ file. slice_index file 0 ≢ 45) (λ t. plain_test (slice_index t 0)) ws

  drop_texts : (n : ℕ) → texts_of (drop n ws) ≡ drop n (texts_of ws)
  drop_texts n = sym (drop-map string_bytes n ws)

  -- the words from a place on, as a slice has them
  pub texts_from : (n : ℕ) → texts_of (take (length ws - n) (drop n ws)) ≡ drop n (texts_of ws)
  texts_from n = ap texts_of (take_rest ws n) ∙ drop_texts n

  pub length_texts : length (texts_of ws) ≡ length ws
  length_texts = length-map ws string_bytes

plain_by : (start first : ℕ) (rest files : List Text) → ((behind : List Text) → rest ≢ codes "--" ∷ behind)
    → IsMarked start rest first files ⊎ IsPlain start rest first files → IsPlain start rest first files
plain_by start first rest files none (inl m) = absurd (none files m.0)
plain_by start first rest files none (inr m) = m

-- where `--` doesn't stand first, all of the rest are files
pub only_plain : (start first : ℕ) (rest : List Text) → ((behind : List Text) → rest ≢ codes "--" ∷ behind) → HasFiles start rest first
    → (first ≡ start) × All (λ file. slice_index file 0 ≢ 45) rest × AreFiles rest
only_plain start first rest none h =
    let p = plain_by start first rest h.files none h.place in
    (p.1, subst (λ (t : List Text). All (λ file. slice_index file 0 ≢ 45) t) (sym p.0) p.2, subst AreFiles (sym p.0) h.good)

pub on_err : {T E : Type 0} (r : Result T E) (P : Type 0) → P → OnErr r P
on_err (Ok x) P h = tt
on_err (Err e) P h = h
