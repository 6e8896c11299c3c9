-- An option is read back from its words.
use Rattle.std.proofs.Common.{◌≡◌, ◌++◌, Bool, true, false, List, [], ◌∷◌, slice_index, refl, ap, sym, ◌∙◌, arith}
use Rattle.std.proofs.lemmas.List.{append_cancel_left}
use Rattle.run_words.specs.Options.{Text, Given, joined, name_of, spelled, words_of}
use Rattle.run_words.specs.Reading.{BeginsWithDash}
use Rattle.run_words.specs.declared.settings.Kind.{Kind}
use Rattle.run_words.specs.declared.settings.Kind.TheVariants.{Workers, Cache, Make}

-- the third byte of a kind's name tells the kind
kind_by_byte : (k l : Kind) → slice_index (name_of k) 2 ≡ slice_index (name_of l) 2 → k ≡ l
kind_by_byte Workers Workers e = refl
kind_by_byte Workers Cache e = absurd (omega arith)
kind_by_byte Workers Make e = absurd (omega arith)
kind_by_byte Cache Workers e = absurd (omega arith)
kind_by_byte Cache Cache e = refl
kind_by_byte Cache Make e = absurd (omega arith)
kind_by_byte Make Workers e = absurd (omega arith)
kind_by_byte Make Cache e = absurd (omega arith)
kind_by_byte Make Make e = refl

third : (k : Kind) (rest : Text) → slice_index (name_of k ++ rest) 2 ≡ slice_index (name_of k) 2
third Workers rest = refl
third Cache rest = refl
third Make rest = refl

-- two words that begin with names begin with one name, and go on alike
names_alike : (k l : Kind) (v w : Text) → name_of k ++ v ≡ name_of l ++ w → (k ≡ l) × (v ≡ w)
names_alike k l v w e =
    let same : k ≡ l = kind_by_byte k l (sym (third k v) ∙ ap (λ t. slice_index t 2) e ∙ third l w) in
    (same, append_cancel_left (name_of k) v w (e ∙ ap (λ m. name_of m ++ w) (sym same)))

alone : (k : Kind) → name_of k ≡ name_of k ++ []
alone Workers = refl
alone Cache = refl
alone Make = refl

pub name_or_joined : (k l : Kind) (w : Text) → name_of k ≡ joined l w → ⊥
name_or_joined k l w e = let alike = names_alike k l [] (61 ∷ w) (sym (alone k) ∙ e) in absurd (cc (alike.1))

pub name_once : (k l : Kind) → name_of k ≡ name_of l → k ≡ l
name_once k l e = (names_alike k l [] [] (sym (alone k) ∙ e ∙ alone l)).0

pub spelled_once : (a b : Bool) (k l : Kind) (v w : Text) (r s : List Text) → spelled a k v ++ r ≡ spelled b l w ++ s
    → (a ≡ b) × (k ≡ l) × (v ≡ w) × (r ≡ s)
spelled_once true true k l v w r s e =
    let first : joined k v ≡ joined l w = cc in
    let alike = names_alike k l (61 ∷ v) (61 ∷ w) first in
    (refl, alike.0, cc (alike.1), cc)
spelled_once true false k l v w r s e =
    let first : joined k v ≡ name_of l = cc in
    let alike = names_alike k l (61 ∷ v) [] (first ∙ alone l) in
    absurd (cc (alike.1))
spelled_once false true k l v w r s e =
    let first : name_of k ≡ joined l w = cc in
    let alike = names_alike k l [] (61 ∷ w) (sym (alone k) ∙ first) in
    absurd (cc (alike.1))
spelled_once false false k l v w r s e =
    let first : name_of k ≡ name_of l = cc in
    let alike = names_alike k l [] [] (sym (alone k) ∙ first ∙ alone l) in
    (refl, alike.0, cc, cc)

-- words begin with at most one option
pub one_option : (g h : Given) (r s : List Text) → words_of g ++ r ≡ words_of h ++ s → (g ≡ h) × (r ≡ s)
one_option g h r s e =
    let same = spelled_once g.is_joined h.is_joined g.kind h.kind g.value h.value r s e in
    (λ i. record { is_joined = same.0 i; kind = same.1 i; value = same.2 i }, same.3)

spelled_dash : (a : Bool) (k : Kind) (v : Text) (r : List Text) → BeginsWithDash (spelled a k v ++ r)
spelled_dash true Workers v r = record { word = joined Workers v; rest = r; split = refl; dash = refl; more = λ e. cc }
spelled_dash true Cache v r = record { word = joined Cache v; rest = r; split = refl; dash = refl; more = λ e. cc }
spelled_dash true Make v r = record { word = joined Make v; rest = r; split = refl; dash = refl; more = λ e. cc }
spelled_dash false Workers v r = record { word = name_of Workers; rest = v ∷ r; split = refl; dash = refl; more = λ e. cc }
spelled_dash false Cache v r = record { word = name_of Cache; rest = v ∷ r; split = refl; dash = refl; more = λ e. cc }
spelled_dash false Make v r = record { word = name_of Make; rest = v ∷ r; split = refl; dash = refl; more = λ e. cc }

-- an option's words begin with `-`, and not with `--` alone
pub dash_of_option : (g : Given) (r : List Text) → BeginsWithDash (words_of g ++ r)
dash_of_option g r = spelled_dash g.is_joined g.kind g.value r

pub dash_of_name : (k : Kind) (r : List Text) → BeginsWithDash (name_of k ∷ r)
dash_of_name Workers r = record { word = name_of Workers; rest = r; split = refl; dash = refl; more = λ e. cc }
dash_of_name Cache r = record { word = name_of Cache; rest = r; split = refl; dash = refl; more = λ e. cc }
dash_of_name Make r = record { word = name_of Make; rest = r; split = refl; dash = refl; more = λ e. cc }
