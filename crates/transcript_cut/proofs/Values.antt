-- Numbers of events in JSON values.
use Rattle.std.proofs.Common.{◌≡◌, ◌<◌, ℕ, ◌+◌, ℤ, List, [], ◌∷◌, ◌++◌, Option, Some, None, length, get_or, map, take, refl, sym, ap, ◌∙◌}
use Rattle.std.specs.Prelude.{filter_map, option_and_then, option_map}
use Rattle.std.specs.List.{cons_option}
use Rattle.std.proofs.lemmas.List.{take_more, map-append}
use Rattle.std.proofs.lemmas.List.Elements.{filter_map-append}
use Rattle.serde_json.specs.Data.{Data, unsigned, negative, float, null, boolean, number, string, array, object}
use Rattle.serde_json.specs.Find.{as_number, as_u64, as_i64}
use Rattle.transcript_laws.specs.Numbers.{event_of, as_event, single}

-- a number that is held without a sign
pub by_u64 : (d : Data) (n : ℕ) → Some n ≡ option_and_then as_u64 (as_number d) → Some n ≡ event_of d
by_u64 null n is = is
by_u64 (boolean b) n is = is
by_u64 (number (unsigned m)) n is = is
by_u64 (number (negative z)) n is = absurd (let no : ⊥ = cc in no)
by_u64 (number (float x)) n is = is
by_u64 (string s) n is = is
by_u64 (array ds) n is = is
by_u64 (object ms) n is = is

abbrev signed : Option ℤ → Option ℕ
signed z = option_map as_event z

-- any other
pub by_i64 : (d : Data) (z : Option ℤ) → None ≡ option_and_then as_u64 (as_number d) → z ≡ option_and_then as_i64 (as_number d) → option_map as_event z ≡ event_of d
by_i64 null z none is = ap signed is
by_i64 (boolean b) z none is = ap signed is
by_i64 (number (unsigned m)) z none is = absurd (let no : ⊥ = cc in no)
by_i64 (number (negative y)) z none is = ap signed is
by_i64 (number (float x)) z none is = ap signed is
by_i64 (string s) z none is = ap signed is
by_i64 (array ds) z none is = ap signed is
by_i64 (object ms) z none is = ap signed is

consed : (o : Option ℕ) → cons_option o [] ≡ single o
consed None = refl
consed (Some n) = refl

-- the numbers of a list of values, with one value more
pub listed_more : {X : Type 0} (f : X → Data) (xs : List X) (i : ℕ) (x : X) → i < length xs → x ≡ get_or xs i x → filter_map event_of (map f (take (i + 1) xs)) ≡ filter_map event_of (map f (take i xs)) ++ single (event_of (f x))
listed_more f xs i x low is =
    ap (λ ys. filter_map event_of (map f ys)) (take_more xs i x low ∙ ap (λ y. take i xs ++ y ∷ []) (sym is))
    ∙ ap (filter_map event_of) (map-append f (take i xs) (x ∷ []))
    ∙ filter_map-append event_of (map f (take i xs)) (f x ∷ [])
    ∙ ap (λ ns. filter_map event_of (map f (take i xs)) ++ ns) (consed (event_of (f x)))
