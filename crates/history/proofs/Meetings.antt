-- Where no key has a conflict, no chunk that was read has a later generation.
use Rattle.std.proofs.Common.{◌≡◌, ℕ, zero, suc, ◌≤◌, List, [], ◌∷◌, map, Bool, true, false, Some, ◌⊎◌, inl, inr, refl, sym, ap, subst, ◌∙◌, arith, nat_lt}
use Rattle.std.specs.Prelude.{Contains}
use Rattle.std.specs.List.{AllByRecursion}
use Rattle.std.proofs.lemmas.Bool.Decides.{nat_tests}
use Rattle.cells.proofs.Laws.{true_or_false}
use Rattle.kv_face.specs.Store.{Contents}
use Rattle.stack_driver.specs.Targets.{Cell}
use Rattle.history.specs.History.{History}
use Rattle.history.specs.Chunks.{Chunk, chunk_of, key_of, key_in}
use Rattle.history.specs.Touch.{generation_of}
use Rattle.history.specs.Commit.{Key, Transaction, is_before, HasNoConflict, IsConflict, read_generation}
use Rattle.history.specs.Legal.{IsLegal}
use Rattle.history.specs.Reads.{footprint_of, first_reads, mark_of}
use Rattle.history.specs.Staged.{IsTransaction}
use Rattle.history.proofs.Conflicts.{known_at_mark}
use Rattle.history.proofs.Shrinks.{known_still, never_itself, other_way, not_under, same_key}

module _ (events : History) (t : Transaction) where
  abbrev is_late : Chunk → Bool
  is_late c = nat_lt (read_generation events t.marks c) (generation_of events c)

  -- of the chunks with a later generation, one with the least key
  record LeastLate (cs : List Chunk) : Type 0 where
    chunk : Chunk
    among : Contains cs chunk
    late : is_late chunk ≡ true
    key : Key
    named : key_of events chunk ≡ Some key
    least : (c : Chunk) (k : Key) → Contains cs c → is_late c ≡ true → key_of events c ≡ Some k → is_before k key ≡ false

  abbrev NoneLate : List Chunk → Type 0
  NoneLate cs = AllByRecursion (λ c. is_late c ≡ false) cs

  on_time : (cs : List Chunk) → NoneLate cs → (c : Chunk) → Contains cs c → is_late c ≡ false
  on_time [] none c (k, low, is) = absurd (omega arith)
  on_time (d ∷ cs) none c (zero, low, is) = subst (λ e. is_late e ≡ false) is none.0
  on_time (d ∷ cs) none c (suc k, low, is) = on_time cs none.1 c (k, omega arith, is)

  parted : (d : Chunk) (cs : List Chunk) (c : Chunk) → Contains (d ∷ cs) c → (d ≡ c) ⊎ Contains cs c
  parted d cs c (zero, low, is) = inl is
  parted d cs c (suc k, low, is) = inr (k, omega arith, is)

  further : (d : Chunk) (cs : List Chunk) (c : Chunk) → Contains cs c → Contains (d ∷ cs) c
  further d cs c (k, low, is) = (suc k, omega arith, is)

  least_late : (cs : List Chunk) → ((c : Chunk) → Contains cs c → (key : Key) × (key_of events c ≡ Some key)) → NoneLate cs ⊎ LeastLate cs
  least_late [] keys = inl tt
  least_late (d ∷ cs) keys = told (least_late cs (λ c among. keys c (further d cs c among))) (true_or_false (is_late d))
    where
      first : Contains (d ∷ cs) d
      first = (0, omega arith, refl)

      as_first : (c : Chunk) (k : Key) → d ≡ c → key_of events c ≡ Some k → k ≡ (keys d first).0
      as_first c k same is = same_key (key_of events c) k (keys d first).0 is (ap (key_of events) (sym same) ∙ (keys d first).1)

      told : NoneLate cs ⊎ LeastLate cs → (is_late d ≡ true) ⊎ (is_late d ≡ false) → NoneLate (d ∷ cs) ⊎ LeastLate (d ∷ cs)
      told (inl none) (inr fine) = inl (fine, none)
      told (inr low) (inr fine) =
          inr (record {
            chunk = low.chunk;
            among = further d cs low.chunk low.among;
            late = low.late;
            key = low.key;
            named = low.named;
            least = λ c k among late is.
                elim (parted d cs c among) [
                  | inl same ↦ let clash : true ≡ false = sym late ∙ ap is_late (sym same) ∙ fine in absurd (cc)
                  | inr rest ↦ low.least c k rest late is
                ];
          })
      told (inl none) (inl late) =
          inr (record {
            chunk = d;
            among = first;
            late = late;
            key = (keys d first).0;
            named = (keys d first).1;
            least = λ c k among gone is.
                elim (parted d cs c among) [
                  | inl same ↦ ap (λ l. is_before l (keys d first).0) (as_first c k same is) ∙ never_itself (keys d first).0
                  | inr rest ↦ let clash : true ≡ false = sym gone ∙ on_time cs none c rest in absurd (cc)
                ];
          })
      told (inr low) (inl late) =
          elim (true_or_false (is_before low.key (keys d first).0)) [
            | inl under ↦
                inr (record {
                  chunk = low.chunk;
                  among = further d cs low.chunk low.among;
                  late = low.late;
                  key = low.key;
                  named = low.named;
                  least = λ c k among gone is.
                      elim (parted d cs c among) [
                        | inl same ↦ ap (λ l. is_before l low.key) (as_first c k same is) ∙ other_way low.key (keys d first).0 under
                        | inr rest ↦ low.least c k rest gone is
                      ];
                })
            | inr apart ↦
                inr (record {
                  chunk = d;
                  among = first;
                  late = late;
                  key = (keys d first).0;
                  named = (keys d first).1;
                  least = λ c k among gone is.
                      elim (parted d cs c among) [
                        | inl same ↦ ap (λ l. is_before l (keys d first).0) (as_first c k same is) ∙ never_itself (keys d first).0
                        | inr rest ↦ not_under k (keys d first).0 low.key (low.least c k rest gone is) apart
                      ];
                })
          ]

  kept_low : (xs : List Cell) → NoneLate (map (chunk_of events) xs) → AllByRecursion (λ x. generation_of events (chunk_of events x) ≤ read_generation events t.marks (chunk_of events x)) xs
  kept_low [] none = tt
  kept_low (x ∷ xs) none = (let fine = none.0 in grind (arith, nat_tests, fine), kept_low xs none.1)

  -- each chunk that was read has a key
  read_keys : (start : Contents) → IsLegal start events → IsTransaction start events t → (c : Chunk) → Contains (footprint_of events t.ops) c → (key : Key) × (key_of events c ≡ Some key)
  read_keys start legal tx c read =
      let known = known_at_mark start events t c tx read in
      let now = known_still start events c.array (mark_of t.marks c) known.0 legal known.1 in
      (_, ap (λ o. key_in o c) now.1)

-- where a transaction has no conflict by any key, none of the chunks that it read was touched since
pub no_conflict_of_none : (start : Contents) (events : History) (t : Transaction) → IsLegal start events → IsTransaction start events t → ((key : Key) (read now : ℕ) → ¬ IsConflict events t key read now) → HasNoConflict events t
no_conflict_of_none start events t legal tx never asked = told (least_late events t (footprint_of events t.ops) (read_keys events t start legal tx))
  where
    told : NoneLate events t (footprint_of events t.ops) ⊎ LeastLate events t (footprint_of events t.ops)
        → AllByRecursion (λ x. generation_of events (chunk_of events x) ≤ read_generation events t.marks (chunk_of events x)) (first_reads [] t.ops)
    told (inl none) = kept_low events t (first_reads [] t.ops) none
    told (inr low) =
        let late = low.late in
        absurd (never low.key (read_generation events t.marks low.chunk) (generation_of events low.chunk)
        (record {
          chunk = low.chunk;
          conflict = record { asked = asked; was_read = low.among; touched = grind (arith, nat_tests, late) };
          named = low.named;
          read_at = refl;
          now_at = refl;
          least = λ c has k is. low.least c k has.was_read (let touched = has.touched in grind (arith, nat_tests, touched)) is;
        }))
