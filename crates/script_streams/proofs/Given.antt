-- Texts that are given piece by piece.
use Rattle.std.proofs.Common.{◌≡◌, ◌<◌, ◌≤◌, ◌+◌, ◌++◌, ◌∷◌, [], ℕ, List, true, false, Result, Ok, Err, length, take, drop, get_or, sym, ap, subst, refl, ◌∙◌, append_assoc, append-nil}
use Rattle.std.specs.List.{flat_map}
use Rattle.std.proofs.lemmas.List.{take_all}
use Rattle.std.proofs.lemmas.Grind.{flat_map-append}
use Rattle.script_streams.specs.Putting.{Takes, AreTaken, IsGoing, IsBroken, IsPutting, text_of_pieces}
use Rattle.script_streams.proofs.Pieces.{text_more, text_parts, texts_more, texts_parts}
use Rattle.script_streams.specs.declared.writing.Unwritten.{Unwritten}
use Rattle.script_streams.specs.declared.writing.Unwritten.TheVariants.{Failed, Memory}

module _ {X : Type 0} (takes : Takes X) where
  taken_on : (from between to : X) (pieces more : List (List ℕ)) → AreTaken takes from pieces between → AreTaken takes between more to → AreTaken takes from (pieces ++ more) to
  taken_on from between to [] more taken next = subst (λ x. AreTaken takes x more to) (sym taken) next
  taken_on from between to (piece ∷ pieces) more taken next = (taken.0, taken.1, taken_on taken.0 between to pieces more taken.2 next)

  -- nothing was given yet
  pub waiting_all : (from : X) (text waiting : List ℕ) → waiting ≡ text → IsGoing takes from text waiting from
  waiting_all from text waiting all = record { pieces = []; taken = refl; parts = all }

  -- all was given as one piece
  pub given_whole : (from to : X) (text waiting : List ℕ) → waiting ≡ [] → takes from text true to → IsGoing takes from text waiting to
  given_whole from to text waiting none took = record {
    pieces = text ∷ [];
    taken = (to, took, refl);
    parts = ap (λ w. (text ++ []) ++ w) none ∙ append-nil (text ++ []) ∙ append-nil text;
  }

  -- the one piece wasn't taken
  pub refused_whole : (from to : X) (text : List ℕ) → takes from text false to → IsBroken takes from text to
  refused_whole from to text failed = record { pieces = []; before = from; taken = refl; piece = text; refused = failed; rest = []; parts = append-nil text }

  joined : (pieces more : List (List ℕ)) (text waiting behind left : List ℕ) → text_of_pieces pieces ++ waiting ≡ text → text_of_pieces more ++ left ≡ waiting ++ behind
      → text_of_pieces (pieces ++ more) ++ left ≡ text ++ behind
  joined pieces more text waiting behind left front next =
      ap (λ t. t ++ left) (flat_map-append (λ piece. piece) pieces more)
      ∙ append_assoc (text_of_pieces pieces) (text_of_pieces more) left
      ∙ ap (λ t. text_of_pieces pieces ++ t) next
      ∙ sym (append_assoc (text_of_pieces pieces) waiting behind)
      ∙ ap (λ t. t ++ behind) front

  -- more was given behind what waits
  pub goes_on : (from between to : X) (text waiting behind left : List ℕ) (result : Result (Unit {0}) Unwritten) → IsGoing takes from text waiting between
      → IsPutting takes between (waiting ++ behind) result left to → IsPutting takes from (text ++ behind) result left to
  goes_on from between to text waiting behind left (Ok done) going next = record {
    pieces = going.pieces ++ next.pieces;
    taken = taken_on from between to going.pieces next.pieces going.taken next.taken;
    parts = joined going.pieces next.pieces text waiting behind left going.parts next.parts;
  }
  goes_on from between to text waiting behind left (Err Failed) going next = record {
    pieces = going.pieces ++ next.pieces;
    before = next.before;
    taken = taken_on from between next.before going.pieces next.pieces going.taken next.taken;
    piece = next.piece;
    refused = next.refused;
    rest = next.rest;
    parts = joined going.pieces next.pieces text waiting behind (next.piece ++ next.rest) going.parts next.parts;
  }
  goes_on from between to text waiting behind left (Err Memory) going (rest, next) = (
    rest,
    record {
      pieces = going.pieces ++ next.pieces;
      taken = taken_on from between to going.pieces next.pieces going.taken next.taken;
      parts = joined going.pieces next.pieces text waiting behind rest going.parts next.parts;
    },
  )

  -- what ended within a text ended within a longer one
  pub ended_longer : (from to : X) (text behind left : List ℕ) (e : Unwritten) → IsPutting takes from text (Err e) left to → IsPutting takes from (text ++ behind) (Err e) left to
  ended_longer from to text behind left Failed broken = record {
    pieces = broken.pieces;
    before = broken.before;
    taken = broken.taken;
    piece = broken.piece;
    refused = broken.refused;
    rest = broken.rest ++ behind;
    parts =
        ap (λ t. text_of_pieces broken.pieces ++ t) (sym (append_assoc broken.piece broken.rest behind))
        ∙ sym (append_assoc (text_of_pieces broken.pieces) (broken.piece ++ broken.rest) behind)
        ∙ ap (λ t. t ++ behind) broken.parts;
  }
  ended_longer from to text behind left Memory (rest, going) = (
    rest ++ behind,
    record {
      pieces = going.pieces;
      taken = going.taken;
      parts = sym (append_assoc (text_of_pieces going.pieces) rest behind) ∙ ap (λ t. t ++ behind) going.parts;
    },
  )

  -- how it ended says nothing of what waits
  pub ended_so : (from to : X) (text left other : List ℕ) (e : Unwritten) → IsPutting takes from text (Err e) left to → IsPutting takes from text (Err e) other to
  ended_so from to text left other Failed broken = broken
  ended_so from to text left other Memory stopped = stopped

  -- what waits was given
  pub goes_last : (from between to : X) (text waiting left : List ℕ) (result : Result (Unit {0}) Unwritten) → IsGoing takes from text waiting between
      → IsPutting takes between waiting result left to → IsPutting takes from text result left to
  goes_last from between to text waiting left result going next =
      subst (λ t. IsPutting takes from t result left to) (append-nil text)
      (goes_on from between to text waiting [] left result going (subst (λ t. IsPutting takes between t result left to) (sym (append-nil waiting)) next))

  -- the text of one item more was given
  pub item_given : {Y : Type 0} (f : Y → List ℕ) (start : List ℕ) (ys : List Y) (place : ℕ) (y d : Y) (from between to : X) (waiting left : List ℕ) → place < length ys → y ≡ get_or ys place d
      → IsGoing takes from (start ++ flat_map f (take place ys)) waiting between → IsGoing takes between (waiting ++ f y) left to
      → IsGoing takes from (start ++ flat_map f (take (place + 1) ys)) left to
  item_given f start ys place y d from between to waiting left within is going next =
      subst (λ t. IsGoing takes from t left to) (text_more f start ys place y d within is)
      (goes_on from between to (start ++ flat_map f (take place ys)) waiting (f y) left (Ok tt) going next)

  -- it ended within the text of an item
  pub item_ended : {Y : Type 0} (f : Y → List ℕ) (start : List ℕ) (ys : List Y) (place : ℕ) (y d : Y) (from between to : X) (waiting left : List ℕ) (e : Unwritten) → place < length ys
      → y ≡ get_or ys place d → IsGoing takes from (start ++ flat_map f (take place ys)) waiting between → IsPutting takes between (waiting ++ f y) (Err e) left to
      → IsPutting takes from (start ++ flat_map f ys) (Err e) left to
  item_ended f start ys place y d from between to waiting left e within is going next =
      subst (λ t. IsPutting takes from t (Err e) left to) (text_parts f start ys place y d within is)
      (ended_longer from to ((start ++ flat_map f (take place ys)) ++ f y) (flat_map f (drop (place + 1) ys)) left e
      (goes_on from between to (start ++ flat_map f (take place ys)) waiting (f y) left (Err e) going next))

  -- the texts of all items were given
  pub items_given : {Y : Type 0} (f : Y → List ℕ) (start : List ℕ) (ys : List Y) (place : ℕ) (from to : X) (waiting : List ℕ) → length ys ≤ place
      → IsGoing takes from (start ++ flat_map f (take place ys)) waiting to → IsGoing takes from (start ++ flat_map f ys) waiting to
  items_given f start ys place from to waiting past going = subst (λ zs. IsGoing takes from (start ++ flat_map f zs) waiting to) (take_all place ys past) going

  -- the texts of some items more were given
  pub some_given : {Y : Type 0} (f : Y → List ℕ) (ys some : List Y) (first count : ℕ) (from between to : X) (waiting left : List ℕ) → some ≡ take count (drop first ys)
      → IsGoing takes from (flat_map f (take first ys)) waiting between → IsGoing takes between (waiting ++ flat_map f some) left to
      → IsGoing takes from (flat_map f (take (first + count) ys)) left to
  some_given f ys some first count from between to waiting left is going next =
      subst (λ t. IsGoing takes from t left to) (ap (λ zs. flat_map f (take first ys) ++ flat_map f zs) is ∙ texts_more f ys first count)
      (goes_on from between to (flat_map f (take first ys)) waiting (flat_map f some) left (Ok tt) going next)

  -- it ended within the texts of some items
  pub some_ended : {Y : Type 0} (f : Y → List ℕ) (ys some : List Y) (first count : ℕ) (from between to : X) (waiting left : List ℕ) (e : Unwritten) → some ≡ take count (drop first ys)
      → IsGoing takes from (flat_map f (take first ys)) waiting between → IsPutting takes between (waiting ++ flat_map f some) (Err e) left to
      → IsPutting takes from (flat_map f ys) (Err e) left to
  some_ended f ys some first count from between to waiting left e is going next =
      subst (λ t. IsPutting takes from t (Err e) left to) (ap (λ zs. (flat_map f (take first ys) ++ flat_map f zs) ++ flat_map f (drop (first + count) ys)) is ∙ texts_parts f ys first count)
      (ended_longer from to (flat_map f (take first ys) ++ flat_map f some) (flat_map f (drop (first + count) ys)) left e
      (goes_on from between to (flat_map f (take first ys)) waiting (flat_map f some) left (Err e) going next))
