-- The pieces of slots are those of their cells.
use Rattle.std.proofs.Common.{◌≡◌, ◌≢◌, ◌∙◌, ℕ, zero, suc, ◌+◌, ◌*◌, ◌/◌, ◌%◌, ◌<◌, ◌≤◌, ◌==◌, Bool, true, false, cond, List, [], ◌∷◌, length, map, Option, Some, None, inl, inr, refl, sym, ap, subst, arith}
use Rattle.std.specs.Prelude.{filter, replicate}
use Rattle.std.specs.List.{fold, enumerate_from, AllByRecursion}
use Rattle.std.specs.Str.{bytes_eq}
use Rattle.std.specs.Ordering.{nat_cmp, ordering_then}
use Rattle.std.specs.Cmp.{nat_cmp_is}
use Rattle.std.specs.declared.cmp.Ordering.TheVariants.{Less, Equal}
use Rattle.std.proofs.lemmas.Bool.Decides.{nat_tests}
use Rattle.std.proofs.lemmas.Nat.{div-add-mod', mod_below}
use Rattle.std.proofs.lemmas.Slice.Eq.{bytes_eq-Decides}
use Rattle.std.proofs.lemmas.List.{length-replicate}
use Rattle.std.proofs.Math.Nat.{mul-le-mul_right, mul_comm}
use Rattle.cells.specs.Places.{cell_count, c_place, c_index, IsInside}
use Rattle.cells.proofs.Laws.{true_or_false, less_or_not, c_index-c_place, c_place-c_index, c_place-lt, IsInside-c_index}
use Rattle.chunk_grid.specs.Grid.{chunk_index}
use Rattle.chunk_grid.specs.Pieces.{Pair, pair_of, is_of, pairs_in, touched}
use Rattle.chunk_grid.specs.Runs.{run_pieces}
use Rattle.strided_runs.specs.Growing.{Grown, first_run, grown}
use Rattle.chunk_grid.specs.Cuts.{grown_of}
use Rattle.chunk_grid.specs.Slots.{located, slot_at, put_all, pieces_from}
use Rattle.strided_runs.proofs.Laws.{some-fold, runs-grown_of}
use Rattle.chunk_grid.proofs.PieceLaws.{run_piece, run_pieces-are}
use Rattle.chunk_grid.proofs.RisingLaws.{cmp, IsAmong, Rises, among_first, among_rest, among_cases, none_among, fold_rises, fold_has, fold_only, rising-same}
use Rattle.chunk_grid.proofs.SlotLaws.{numbered, IsNumbered, slot_at-empty, length-put_all}

-- C order is the lexical order
same_first : (x : ℕ) → nat_cmp x x ≡ Equal
same_first x = sym (nat_cmp_is x x Equal refl)

rows_apart : (a b w p q : ℕ) → b < a → q < w → a * w + p ≤ b * w + q → ⊥
rows_apart a b w p q less below h =
    let more : (b + 1) * w ≤ a * w = mul-le-mul_right w (omega (arith, less)) in
    omega (arith, more, below, h)

above_zero : (p w : ℕ) → p < 1 * w → 0 < w
above_zero p zero h = absurd (omega (arith, h))
above_zero p (suc w) h = omega arith

rest_above : (size w q : ℕ) → q < size * w → 0 < w
rest_above size zero q h = absurd (omega (arith, mul_comm size 0, h))
rest_above size (suc w) q h = omega arith

pub rising-places : (shape : List ℕ) (p q : ℕ) → p < q → q < cell_count shape → cmp (c_index shape p) (c_index shape q) ≡ Less
rising-places [] p q l m = absurd (omega (arith, l, m))
rising-places (size ∷ shape) p q l m =
    elim (less_or_not (p / w) (q / w)) [
      | inl less ↦ ap (λ o. ordering_then o (cmp (c_index shape (p % w)) (c_index shape (q % w)))) (sym (nat_cmp_is (p / w) (q / w) Less less))
      | inr over ↦ elim (less_or_not (q / w) (p / w)) [
        | inl more ↦ absurd (rows_apart (p / w) (q / w) w (p % w) (q % w) more (mod_below q w some) (omega (arith, div-add-mod' p w, div-add-mod' q w, l)))
        | inr under ↦
            let same : p / w ≡ q / w = omega (arith, over, under) in
            let rows : p / w * w ≡ q / w * w = ap (λ n. n * w) same in
            ap (λ n. ordering_then (nat_cmp (p / w) n) (cmp (c_index shape (p % w)) (c_index shape (q % w)))) (sym same)
            ∙ ap (λ o. ordering_then o (cmp (c_index shape (p % w)) (c_index shape (q % w)))) (same_first (p / w))
            ∙ rising-places shape (p % w) (q % w) (omega (arith, rows, div-add-mod' p w, div-add-mod' q w, l)) (mod_below q w some)
      ]
    ]
  where
    w : ℕ
    w = cell_count shape

    some : 0 < cell_count shape
    some = rest_above size (cell_count shape) q m

-- index vectors of a shape by their places
place_test : (counts a b : List ℕ) → IsInside counts a → IsInside counts b → (c_place counts a == c_place counts b) ≡ bytes_eq a b
place_test counts a b p q = told (bytes_eq a b) refl
  where
    told : (t : Bool) → bytes_eq a b ≡ t → (c_place counts a == c_place counts b) ≡ t
    told true e =
        let same : a ≡ b = (bytes_eq-Decides a b).0 e in
        let places : c_place counts a ≡ c_place counts b = ap (c_place counts) same in
        grind (arith, nat_tests, places)
    told false e =
        elim (true_or_false (c_place counts a == c_place counts b)) [
          | inl t ↦
              let places : c_place counts a ≡ c_place counts b = grind (arith, nat_tests, t) in
              let same : a ≡ b = sym (c_index-c_place counts a p) ∙ ap (c_index counts) places ∙ c_index-c_place counts b q in
              let yes : bytes_eq a b ≡ true = (bytes_eq-Decides a b).1 same in
              absurd (cc)
          | inr f ↦ f
        ]

module _ (counts chunk : List ℕ) where
  -- the chunk of each index vector is one of the grid
  abbrev pub AreInGrid : List (List ℕ) → Type 0
  AreInGrid targets = AllByRecursion (λ t. IsInside counts (chunk_index chunk t)) targets

  numbers_below : (targets : List (List ℕ)) → AreInGrid targets → AllByRecursion (IsNumbered counts chunk (cell_count counts)) targets
  numbers_below [] h = tt
  numbers_below (t ∷ targets) h = (c_place-lt counts (chunk_index chunk t) h.0, numbers_below targets h.1)

  -- the pairs of a slot are those of its chunk
  slot_filter : (c : List ℕ) (targets : List (List ℕ)) (n : ℕ) → IsInside counts c → AreInGrid targets
      → filter (numbered counts chunk (c_place counts c)) (enumerate_from n targets) ≡ filter (is_of chunk c) (enumerate_from n targets)
  slot_filter c [] n inside h = refl
  slot_filter c (t ∷ targets) n inside h = λ i.
      cond (place_test counts (chunk_index chunk t) c h.0 inside i) ((n, t) ∷ slot_filter c targets (n + 1) inside h.1 i) (slot_filter c targets (n + 1) inside h.1 i)

  -- the slots of some targets
  abbrev pub slots_of : List (List ℕ) → List (Option Grown)
  slots_of targets = put_all (replicate (cell_count counts) None) 0 (map (located counts chunk) targets)

  length-slots_of : (targets : List (List ℕ)) → length (slots_of targets) ≡ cell_count counts
  length-slots_of targets = length-put_all (map (located counts chunk) targets) (replicate (cell_count counts) None) 0 ∙ length-replicate (cell_count counts) None

  slot-is : (targets : List (List ℕ)) (n : ℕ) → n < cell_count counts → AreInGrid targets → slot_at (slots_of targets) n ≡ grown_of (pairs_in chunk (c_index counts n) targets)
  slot-is targets n below h =
      let inside = IsInside-c_index counts n below in
      ap (slot_at (slots_of targets)) (sym (c_place-c_index counts n below))
      ∙ slot_at-empty counts chunk targets (cell_count counts) (c_place counts (c_index counts n)) (numbers_below targets h)
      ∙ ap (λ ps. grown_of (map (pair_of chunk) ps)) (slot_filter (c_index counts n) targets 0 inside h)

  -- a chunk has runs where an index vector lies in it
  has_pairs : (z : List ℕ) (targets : List (List ℕ)) (n : ℕ) → IsAmong z (map (chunk_index chunk) targets) → map (pair_of chunk) (filter (is_of chunk z) (enumerate_from n targets)) ≢ []
  has_pairs z [] n e = absurd (none_among z e)
  has_pairs z (t ∷ targets) n e = told (bytes_eq (chunk_index chunk t) z) refl (has_pairs z targets (n + 1))
    where
      told : (b : Bool) → bytes_eq (chunk_index chunk t) z ≡ b → (IsAmong z (map (chunk_index chunk) targets) → map (pair_of chunk) (filter (is_of chunk z) (enumerate_from (n + 1) targets)) ≢ [])
          → map (pair_of chunk) (cond b ((n, t) ∷ filter (is_of chunk z) (enumerate_from (n + 1) targets)) (filter (is_of chunk z) (enumerate_from (n + 1) targets))) ≢ []
      told true t rest = λ none. (let no_such : ⊥ = cc in no_such)
      told false f rest =
          elim (among_cases z (chunk_index chunk t) (map (chunk_index chunk) targets) e) [
            | inl is ↦ let yes : bytes_eq (chunk_index chunk t) z ≡ true = (bytes_eq-Decides (chunk_index chunk t) z).1 (sym is) in absurd (cc)
            | inr later ↦ rest later
          ]

  has_target : (z : List ℕ) (targets : List (List ℕ)) (n : ℕ) → map (pair_of chunk) (filter (is_of chunk z) (enumerate_from n targets)) ≢ [] → IsAmong z (map (chunk_index chunk) targets)
  has_target z [] n some = absurd (some refl)
  has_target z (t ∷ targets) n some = told (bytes_eq (chunk_index chunk t) z) refl some (has_target z targets (n + 1))
    where
      told : (b : Bool) → bytes_eq (chunk_index chunk t) z ≡ b
          → map (pair_of chunk) (cond b ((n, t) ∷ filter (is_of chunk z) (enumerate_from (n + 1) targets)) (filter (is_of chunk z) (enumerate_from (n + 1) targets))) ≢ []
          → (map (pair_of chunk) (filter (is_of chunk z) (enumerate_from (n + 1) targets)) ≢ [] → IsAmong z (map (chunk_index chunk) targets))
          → IsAmong z (chunk_index chunk t ∷ map (chunk_index chunk) targets)
      told true e some rest =
          let same : chunk_index chunk t ≡ z = (bytes_eq-Decides (chunk_index chunk t) z).0 e in
          subst (λ (c : List ℕ). IsAmong c (chunk_index chunk t ∷ map (chunk_index chunk) targets)) same (among_first (chunk_index chunk t) (map (chunk_index chunk) targets))
      told false e some rest = among_rest z (chunk_index chunk t) (map (chunk_index chunk) targets) (rest some)

  some_grown : (pairs : List Pair) → pairs ≢ [] → grown_of pairs ≢ None
  some_grown [] some = absurd (some refl)
  some_grown (p ∷ pairs) some = λ e. (let is : Some (fold grown (first_run p) pairs) ≡ None = sym (some-fold pairs (first_run p)) ∙ e in let no_such : ⊥ = cc in no_such)

  no_pairs : (pairs : List Pair) → grown_of pairs ≢ None → pairs ≢ []
  no_pairs pairs some = λ e. some (ap grown_of e)

  -- the chunks of the slots that have runs
  abbrev pub keys_from : ℕ → List (Option Grown) → List (List ℕ)
  keys_from n [] = []
  keys_from n (None ∷ slots) = keys_from (n + 1) slots
  keys_from n (Some g ∷ slots) = c_index counts n ∷ keys_from (n + 1) slots

  -- a chunk among them has a slot
  pub record HasSlot (n : ℕ) (slots : List (Option Grown)) (z : List ℕ) : Type 0 where
    pub at : ℕ
    pub within : at < length slots
    pub is : c_index counts (n + at) ≡ z
    pub some : slot_at slots at ≢ None

  later_slot : (n : ℕ) (o : Option Grown) (slots : List (Option Grown)) (z : List ℕ) → HasSlot (n + 1) slots z → HasSlot n (o ∷ slots) z
  later_slot n o slots z h =
      let same : n + suc h.at ≡ (n + 1) + h.at = omega arith in
      let less = h.within in
      record { at = suc h.at; within = omega (arith, less); is = ap (c_index counts) same ∙ h.is; some = h.some }

  key_slot : (n : ℕ) (slots : List (Option Grown)) (z : List ℕ) → IsAmong z (keys_from n slots) → HasSlot n slots z
  key_slot n [] z e = absurd (none_among z e)
  key_slot n (None ∷ slots) z e = later_slot n None slots z (key_slot (n + 1) slots z e)
  key_slot n (Some g ∷ slots) z e =
      elim (among_cases z (c_index counts n) (keys_from (n + 1) slots) e) [
        | inl is ↦ let same : n + 0 ≡ n = omega arith in record { at = 0; within = omega arith; is = ap (c_index counts) same ∙ sym is; some = λ none. (let no_such : ⊥ = cc in no_such) }
        | inr later ↦ later_slot n (Some g) slots z (key_slot (n + 1) slots z later)
      ]

  slot_key : (n k : ℕ) (slots : List (Option Grown)) → k < length slots → slot_at slots k ≢ None → IsAmong (c_index counts (n + k)) (keys_from n slots)
  slot_key n k [] l some = absurd (omega (arith, l))
  slot_key n zero (None ∷ slots) l some = absurd (some refl)
  slot_key n zero (Some g ∷ slots) l some =
      let same : n ≡ n + 0 = omega arith in
      subst (λ (m : ℕ). IsAmong (c_index counts m) (c_index counts n ∷ keys_from (n + 1) slots)) same (among_first (c_index counts n) (keys_from (n + 1) slots))
  slot_key n (suc k) (None ∷ slots) l some =
      let same : (n + 1) + k ≡ n + suc k = omega arith in
      subst (λ (m : ℕ). IsAmong (c_index counts m) (keys_from (n + 1) slots)) same (slot_key (n + 1) k slots (omega (arith, l)) some)
  slot_key n (suc k) (Some g ∷ slots) l some =
      let same : (n + 1) + k ≡ n + suc k = omega arith in
      among_rest (c_index counts (n + suc k)) (c_index counts n) (keys_from (n + 1) slots)
      (subst (λ (m : ℕ). IsAmong (c_index counts m) (keys_from (n + 1) slots)) same (slot_key (n + 1) k slots (omega (arith, l)) some))

  keys_rise : (n : ℕ) (slots : List (Option Grown)) → n + length slots ≤ cell_count counts → Rises (keys_from n slots)
  keys_rise n [] l = tt
  keys_rise n (None ∷ slots) l = keys_rise (n + 1) slots (omega (arith, l))
  keys_rise n (Some g ∷ slots) l = (
    λ z there.
        let h = key_slot (n + 1) slots z there in
        let less = h.within in
        subst (λ (x : List ℕ). cmp (c_index counts n) x ≡ Less) h.is (rising-places counts n ((n + 1) + h.at) (omega arith) (omega (arith, l, less))),
    keys_rise (n + 1) slots (omega (arith, l)),
  )

  -- the chunks that are touched
  keys-touched : (targets : List (List ℕ)) → AreInGrid targets → touched chunk targets ≡ keys_from 0 (slots_of targets)
  keys-touched targets h =
      rising-same (touched chunk targets) (keys_from 0 (slots_of targets)) (fold_rises (map (chunk_index chunk) targets) [] tt)
      (keys_rise 0 (slots_of targets) (omega (arith, length-slots_of targets))) there back
    where
      key_inside : (z : List ℕ) (ts : List (List ℕ)) → AreInGrid ts → IsAmong z (map (chunk_index chunk) ts) → IsInside counts z
      key_inside z [] g e = absurd (none_among z e)
      key_inside z (t ∷ ts) g e =
          elim (among_cases z (chunk_index chunk t) (map (chunk_index chunk) ts) e) [
            | inl is ↦ subst (IsInside counts) (sym is) g.0
            | inr later ↦ key_inside z ts g.1 later
          ]

      there : (z : List ℕ) → IsAmong z (touched chunk targets) → IsAmong z (keys_from 0 (slots_of targets))
      there z e =
          let among_targets = fold_only z (map (chunk_index chunk) targets) e in
          let inside = key_inside z targets h among_targets in
          let below = c_place-lt counts z inside in
          let back = c_index-c_place counts z inside in
          let first : 0 + c_place counts z ≡ c_place counts z = omega arith in
          subst (λ (x : List ℕ). IsAmong x (keys_from 0 (slots_of targets))) (ap (c_index counts) first ∙ back)
          (slot_key 0 (c_place counts z) (slots_of targets) (omega (arith, below, length-slots_of targets))
          (λ none. some_grown (pairs_in chunk z targets) (has_pairs z targets 0 among_targets)
          (ap (λ (x : List ℕ). grown_of (pairs_in chunk x targets)) (sym back) ∙ sym (slot-is targets (c_place counts z) below h) ∙ none)))

      back : (z : List ℕ) → IsAmong z (keys_from 0 (slots_of targets)) → IsAmong z (touched chunk targets)
      back z e =
          let s = key_slot 0 (slots_of targets) z e in
          let less = s.within in
          let first : 0 + s.at ≡ s.at = omega arith in
          let is : c_index counts s.at ≡ z = ap (c_index counts) (sym first) ∙ s.is in
          let here = slot-is targets s.at (omega (arith, less, length-slots_of targets)) h in
          fold_has z (map (chunk_index chunk) targets) []
          (has_target z targets 0 (no_pairs (pairs_in chunk z targets)
          (λ none. s.some (here ∙ ap (λ (x : List ℕ). grown_of (pairs_in chunk x targets)) is ∙ none))))

  -- the pieces
  abbrev AreSlots : List (List ℕ) → ℕ → List (Option Grown) → Type 0
  AreSlots targets n slots = (k : ℕ) → k < length slots → slot_at slots k ≡ grown_of (pairs_in chunk (c_index counts (n + k)) targets)

  later_slots : (targets : List (List ℕ)) (n : ℕ) (o : Option Grown) (slots : List (Option Grown)) → AreSlots targets n (o ∷ slots) → AreSlots targets (n + 1) slots
  later_slots targets n o slots h k l =
      let same : n + suc k ≡ (n + 1) + k = omega arith in
      h (suc k) (omega (arith, l)) ∙ ap (λ m. grown_of (pairs_in chunk (c_index counts m) targets)) same

  pieces_are : (targets : List (List ℕ)) (n : ℕ) (slots : List (Option Grown)) → AreSlots targets n slots → pieces_from counts n slots ≡ map (run_piece chunk targets) (keys_from n slots)
  pieces_are targets n [] h = refl
  pieces_are targets n (None ∷ slots) h = pieces_are targets (n + 1) slots (later_slots targets n None slots h)
  pieces_are targets n (Some g ∷ slots) h =
      let same : n + 0 ≡ n = omega arith in
      let here : grown_of (pairs_in chunk (c_index counts n) targets) ≡ Some g = ap (λ m. grown_of (pairs_in chunk (c_index counts m) targets)) (sym same) ∙ sym (h 0 (omega arith)) in
      let runs = runs-grown_of (pairs_in chunk (c_index counts n) targets) g here in
      let rest = pieces_are targets (n + 1) slots (later_slots targets n (Some g) slots h) in
      λ i. record { chunk = c_index counts n; runs = runs i } ∷ rest i

  pub slots-pieces : (targets : List (List ℕ)) → AreInGrid targets → pieces_from counts 0 (slots_of targets) ≡ run_pieces chunk targets
  slots-pieces targets h =
      pieces_are targets 0 (slots_of targets) (λ k l.
      let first : k ≡ 0 + k = omega arith in
      slot-is targets k (omega (arith, l, length-slots_of targets)) h ∙ ap (λ m. grown_of (pairs_in chunk (c_index counts m) targets)) first)
      ∙ ap (map (run_piece chunk targets)) (sym (keys-touched targets h))
      ∙ sym (run_pieces-are chunk targets)
