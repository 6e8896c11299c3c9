-- Texts that are written piece by piece.
use Rattle.std.proofs.Common.{◌≡◌, ◌<◌, ◌≤◌, ◌+◌, ◌++◌, [], ℕ, List, Option, Some, length, take, drop, get_or, sym, ap, subst, ◌∙◌, append_assoc, append-nil, arith}
use Rattle.std.specs.List.{flat_map}
use Rattle.std.proofs.lemmas.List.{take-append-drop, take_all, take_more, take-take, drop-take, flat_map_more}
use Rattle.std.proofs.lemmas.Grind.{flat_map-append}
use Rattle.kv_face.specs.Streams.{IsPartOf}
use Rattle.script_streams.specs.Writing.{IsUnderWay}

-- the whole text was written, and nothing waits
pub all_written : (now : Option (List ℕ)) (before text waiting : List ℕ) → now ≡ Some (before ++ text) → waiting ≡ [] → IsUnderWay now before text waiting
all_written now before text waiting is none = record { front = text; written = is; parts = ap (λ w. text ++ w) none ∙ append-nil text }

-- what was written is a front part
pub part_of : (now : Option (List ℕ)) (before text waiting : List ℕ) → IsUnderWay now before text waiting → IsPartOf now before text
part_of now before text waiting under = record { front = under.front; rest = waiting; written = under.written; parts = under.parts }

-- more was put behind what waits
pub under_more : (then now : Option (List ℕ)) (before text waiting more left : List ℕ) (under : IsUnderWay then before text waiting) → IsUnderWay now (before ++ under.front) (waiting ++ more) left → IsUnderWay now before (text ++ more) left
under_more then now before text waiting more left under next = record {
  front = under.front ++ next.front;
  written = next.written ∙ ap Some (append_assoc before under.front next.front);
  parts = append_assoc under.front next.front left ∙ ap (λ t. under.front ++ t) next.parts ∙ sym (append_assoc under.front waiting more) ∙ ap (λ t. t ++ more) under.parts;
}

-- of more that was put behind what waits, a front part was written
pub part_more : (then now : Option (List ℕ)) (before text waiting more behind whole : List ℕ) (under : IsUnderWay then before text waiting) → IsPartOf now (before ++ under.front) (waiting ++ more) → (text ++ more) ++ behind ≡ whole → IsPartOf now before whole
part_more then now before text waiting more behind whole under part is = record {
  front = under.front ++ part.front;
  rest = part.rest ++ behind;
  written = part.written ∙ ap Some (append_assoc before under.front part.front);
  parts =
      sym (append_assoc (under.front ++ part.front) part.rest behind)
      ∙ ap (λ t. t ++ behind) (append_assoc under.front part.front part.rest ∙ ap (λ t. under.front ++ t) part.parts ∙ sym (append_assoc under.front waiting more) ∙ ap (λ t. t ++ more) under.parts)
      ∙ is;
}

-- the text of one item more
pub text_more : {X : Type 0} (f : X → List ℕ) (start : List ℕ) (xs : List X) (place : ℕ) (x d : X) → place < length xs → x ≡ get_or xs place d → (start ++ flat_map f (take place xs)) ++ f x ≡ start ++ flat_map f (take (place + 1) xs)
text_more f start xs place x d within is =
    ap (λ y. (start ++ flat_map f (take place xs)) ++ f y) is
    ∙ flat_map_more f start (take place xs) (get_or xs place d)
    ∙ ap (λ ys. start ++ flat_map f ys) (sym (take_more xs place d within))

-- the text before an item, that of the item, and that of all behind it
pub text_parts : {X : Type 0} (f : X → List ℕ) (start : List ℕ) (xs : List X) (place : ℕ) (x d : X) → place < length xs → x ≡ get_or xs place d → ((start ++ flat_map f (take place xs)) ++ f x) ++ flat_map f (drop (place + 1) xs) ≡ start ++ flat_map f xs
text_parts f start xs place x d within is =
    ap (λ t. t ++ flat_map f (drop (place + 1) xs)) (text_more f start xs place x d within is)
    ∙ append_assoc start (flat_map f (take (place + 1) xs)) (flat_map f (drop (place + 1) xs))
    ∙ ap (λ t. start ++ t) (sym (flat_map-append f (take (place + 1) xs) (drop (place + 1) xs)) ∙ ap (flat_map f) (take-append-drop (place + 1) xs))

-- the text of one item more was put
pub item_put : {X : Type 0} (f : X → List ℕ) (start : List ℕ) (xs : List X) (place : ℕ) (x d : X) (then now : Option (List ℕ)) (before waiting left : List ℕ) → place < length xs → x ≡ get_or xs place d → (under : IsUnderWay then before (start ++ flat_map f (take place xs)) waiting) → IsUnderWay now (before ++ under.front) (waiting ++ f x) left → IsUnderWay now before (start ++ flat_map f (take (place + 1) xs)) left
item_put f start xs place x d then now before waiting left within is under next =
    subst (λ t. IsUnderWay now before t left) (text_more f start xs place x d within is) (under_more then now before (start ++ flat_map f (take place xs)) waiting (f x) left under next)

-- a front part of the text of one item more was written
pub item_part : {X : Type 0} (f : X → List ℕ) (start : List ℕ) (xs : List X) (place : ℕ) (x d : X) (then now : Option (List ℕ)) (before waiting : List ℕ) → place < length xs → x ≡ get_or xs place d → (under : IsUnderWay then before (start ++ flat_map f (take place xs)) waiting) → IsPartOf now (before ++ under.front) (waiting ++ f x) → IsPartOf now before (start ++ flat_map f xs)
item_part f start xs place x d then now before waiting within is under part =
    part_more then now before (start ++ flat_map f (take place xs)) waiting (f x) (flat_map f (drop (place + 1) xs)) (start ++ flat_map f xs) under part (text_parts f start xs place x d within is)

-- the texts of all items were put
pub items_put : {X : Type 0} (f : X → List ℕ) (start : List ℕ) (xs : List X) (place : ℕ) (now : Option (List ℕ)) (before waiting : List ℕ) → length xs ≤ place → IsUnderWay now before (start ++ flat_map f (take place xs)) waiting → IsUnderWay now before (start ++ flat_map f xs) waiting
items_put f start xs place now before waiting past under = subst (λ ys. IsUnderWay now before (start ++ flat_map f ys) waiting) (take_all place xs past) under

-- a text was written, and more behind it was put
pub under_behind : (now : Option (List ℕ)) (before first text waiting : List ℕ) → IsUnderWay now (before ++ first) text waiting → IsUnderWay now before (first ++ text) waiting
under_behind now before first text waiting under = record {
  front = first ++ under.front;
  written = under.written ∙ ap Some (append_assoc before first under.front);
  parts = append_assoc first under.front waiting ∙ ap (λ t. first ++ t) under.parts;
}

-- a text was written, and behind it a front part of more
pub part_behind : (now : Option (List ℕ)) (before first text : List ℕ) → IsPartOf now (before ++ first) text → IsPartOf now before (first ++ text)
part_behind now before first text part = record {
  front = first ++ part.front;
  rest = part.rest;
  written = part.written ∙ ap Some (append_assoc before first part.front);
  parts = append_assoc first part.front part.rest ∙ ap (λ t. first ++ t) part.parts;
}

-- a front part of a text is one of a longer text
pub part_longer : (now : Option (List ℕ)) (before text behind : List ℕ) → IsPartOf now before text → IsPartOf now before (text ++ behind)
part_longer now before text behind part = record {
  front = part.front;
  rest = part.rest ++ behind;
  written = part.written;
  parts = sym (append_assoc part.front part.rest behind) ∙ ap (λ t. t ++ behind) part.parts;
}

-- what waited was written
pub all_behind : (then now : Option (List ℕ)) (before text waiting : List ℕ) (under : IsUnderWay then before text waiting) → now ≡ Some ((before ++ under.front) ++ waiting) → now ≡ Some (before ++ text)
all_behind then now before text waiting under is = is ∙ ap Some (append_assoc before under.front waiting ∙ ap (λ t. before ++ t) under.parts)

-- a front part of what waited was written
pub part_of_waiting : (then now : Option (List ℕ)) (before text waiting : List ℕ) (under : IsUnderWay then before text waiting) → IsPartOf now (before ++ under.front) waiting → IsPartOf now before text
part_of_waiting then now before text waiting under part =
    subst (λ t. IsPartOf now before t) under.parts (part_behind now before under.front waiting part)

-- the first items and some behind them are the first of more
first_more : {X : Type 0} (xs : List X) (from count : ℕ) → take from xs ++ take count (drop from xs) ≡ take (from + count) xs
first_more xs from count =
    ap (λ ys. ys ++ take count (drop from xs)) (sym (take-take from (from + count) xs (omega arith)))
    ∙ ap (λ ys. take from (take (from + count) xs) ++ ys) (sym (drop-take from count xs))
    ∙ take-append-drop from (take (from + count) xs)

-- the texts of some items more
pub texts_more : {X : Type 0} (f : X → List ℕ) (xs : List X) (from count : ℕ) → flat_map f (take from xs) ++ flat_map f (take count (drop from xs)) ≡ flat_map f (take (from + count) xs)
texts_more f xs from count = sym (flat_map-append f (take from xs) (take count (drop from xs))) ∙ ap (flat_map f) (first_more xs from count)

-- the texts before some items, theirs, and those of all behind them
pub texts_parts : {X : Type 0} (f : X → List ℕ) (xs : List X) (from count : ℕ) → (flat_map f (take from xs) ++ flat_map f (take count (drop from xs))) ++ flat_map f (drop (from + count) xs) ≡ flat_map f xs
texts_parts f xs from count =
    ap (λ t. t ++ flat_map f (drop (from + count) xs)) (texts_more f xs from count)
    ∙ sym (flat_map-append f (take (from + count) xs) (drop (from + count) xs))
    ∙ ap (flat_map f) (take-append-drop (from + count) xs)

-- the texts of some items more were put
pub some_put : {X : Type 0} (f : X → List ℕ) (xs some : List X) (from count : ℕ) (then now : Option (List ℕ)) (before waiting left : List ℕ) → some ≡ take count (drop from xs)
    → (under : IsUnderWay then before (flat_map f (take from xs)) waiting) → IsUnderWay now (before ++ under.front) (waiting ++ flat_map f some) left → IsUnderWay now before (flat_map f (take (from + count) xs)) left
some_put f xs some from count then now before waiting left is under next =
    subst (λ t. IsUnderWay now before t left) (ap (λ ys. flat_map f (take from xs) ++ flat_map f ys) is ∙ texts_more f xs from count)
    (under_more then now before (flat_map f (take from xs)) waiting (flat_map f some) left under next)

-- a front part of the texts of some items more was written
pub some_part : {X : Type 0} (f : X → List ℕ) (xs some : List X) (from count : ℕ) (then now : Option (List ℕ)) (before waiting : List ℕ) → some ≡ take count (drop from xs)
    → (under : IsUnderWay then before (flat_map f (take from xs)) waiting) → IsPartOf now (before ++ under.front) (waiting ++ flat_map f some) → IsPartOf now before (flat_map f xs)
some_part f xs some from count then now before waiting is under part =
    part_more then now before (flat_map f (take from xs)) waiting (flat_map f some) (flat_map f (drop (from + count) xs)) (flat_map f xs) under part
    (ap (λ ys. (flat_map f (take from xs) ++ flat_map f ys) ++ flat_map f (drop (from + count) xs)) is ∙ texts_parts f xs from count)
