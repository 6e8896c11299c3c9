-- The keys that operations change are those of the writes.
use Rattle.std.proofs.Common.{◌≡◌, ℕ, List, [], ◌∷◌, inl, inr, Bool, true, false, cond, Option, Some, None, refl, sym, ap, subst, ◌∙◌}
use Rattle.std.specs.Prelude.{filter_map, if◌then◌else◌, ◌||◌}
use Rattle.std.specs.List.{AllByRecursion, list_any, cons_option}
use Rattle.history.specs.declared.event.Op.{Op}
use Rattle.history.specs.History.{History}
use Rattle.history.specs.Arrays.{known_after}
use Rattle.history.specs.Chunks.{Chunk, chunk_key, chunk_of, is_chunk, key_in, key_of}
use Rattle.history.specs.Commit.{Key, changed_keys, in_order, is_before, stored_keys}
use Rattle.history.specs.Counting.{is_stored}
use Rattle.history.specs.Writes.{Put, puts_of}
use Rattle.history.proofs.Laws.{chunk_array, same_chunks, some_inj}
use Rattle.chunk_plans.specs.Changing.{IsOneOf}
use Rattle.chunk_plans.specs.declared.write.ChunkWrite.{ChunkWrite}
use Rattle.chunk_plans.specs.Writes.{chunk_of_write}
use Rattle.commits.specs.Prepared.{AreWrites, HasWrite, IsPutAmong, IsStagedWrite, write_keys}
use Rattle.chunk_plans.specs.Rising.{AreRising}
use Rattle.commits.specs.Writes.{stored_write_keys}
use Rattle.commits.proofs.KeyOrder.{in_order_is}

-- one of the writes, and that it is
pub record IsAmong (P : ChunkWrite → Type 0) (c : Chunk) : Type 0 where
  pub write : ChunkWrite
  pub holds : P write
  pub of_chunk : chunk_of_write write ≡ c

pub write_among : (P : ChunkWrite → Type 0) (c : Chunk) (writes : List ChunkWrite) → AllByRecursion P writes → HasWrite c writes → IsAmong P c
write_among P c [] all has = absurd has
write_among P c (w ∷ writes) all (inl here) = record { write = w; holds = all.0; of_chunk = here }
write_among P c (w ∷ writes) all (inr more) = write_among P c writes all.1 more

module _ (events : History) (ops : List Op) (test : ℕ → Bool) where
  -- the key of a put's chunk, where its array passes the test
  abbrev key_by : Put → Option Key
  key_by p = if test p.0.array then key_of events (chunk_of events p.0) else None

  -- the keys of the writes whose arrays pass it
  abbrev pub keys_by : List ChunkWrite → List Key
  keys_by [] = []
  keys_by (w ∷ writes) = if test w.array then w.key ∷ keys_by writes else keys_by writes

  all_by : (P : Key → Type 0) (writes : List ChunkWrite) → AllByRecursion P (write_keys writes) → AllByRecursion P (keys_by writes)
  all_by P [] all = tt
  all_by P (w ∷ writes) all = by (test w.array) (all_by P writes all.1)
    where
      by : (b : Bool) → AllByRecursion P (keys_by writes) → AllByRecursion P (cond b (w.key ∷ keys_by writes) (keys_by writes))
      by true rest = (all.0, rest)
      by false rest = rest

  rising_by : (writes : List ChunkWrite) → AreRising (write_keys writes) → AreRising (keys_by writes)
  rising_by [] rising = tt
  rising_by (w ∷ writes) rising = by (test w.array) (rising_by writes rising.1)
    where
      by : (b : Bool) → AreRising (keys_by writes) → AreRising (cond b (w.key ∷ keys_by writes) (keys_by writes))
      by true rest = (all_by (λ other. is_before w.key other ≡ true) writes rising.0, rest)
      by false rest = rest

  one_by : (w : ChunkWrite) (writes : List ChunkWrite) (key : Key) → test w.array ≡ true → w.key ≡ key → IsOneOf (keys_by (w ∷ writes)) key
  one_by w writes key passes named = subst (λ b. IsOneOf (cond b (w.key ∷ keys_by writes) (keys_by writes)) key) (sym passes) (inl named)

  more_by : (w : ChunkWrite) (writes : List ChunkWrite) (key : Key) → IsOneOf (keys_by writes) key → IsOneOf (keys_by (w ∷ writes)) key
  more_by w writes key one = by (test w.array)
    where
      by : (b : Bool) → IsOneOf (cond b (w.key ∷ keys_by writes) (keys_by writes)) key
      by true = inr one
      by false = one

  -- the key of a chunk of which there is a write
  key_written : (c : Chunk) (key : Key) (writes : List ChunkWrite) → AllByRecursion (IsStagedWrite events ops) writes → HasWrite c writes → test c.array ≡ true → key_of events c ≡ Some key → IsOneOf (keys_by writes) key
  key_written c key [] each has passes named = absurd has
  key_written c key (w ∷ writes) each (inl here) passes named =
      one_by w writes key (ap (λ (d : Chunk). test d.array) here ∙ passes)
      (sym each.0.1.named ∙ some_inj (chunk_key each.0.0 w.chunk.now) key (sym (ap (λ o. key_in o (chunk_of_write w)) each.0.1.known) ∙ ap (key_of events) here ∙ named))
  key_written c key (w ∷ writes) each (inr more) passes named = more_by w writes key (key_written c key writes each.1 more passes named)

  to_key : (writes : List ChunkWrite) → AllByRecursion (IsStagedWrite events ops) writes → (p : Put) → IsPutAmong events writes p.0 → (key : Key) → key_by p ≡ Some key → IsOneOf (keys_by writes) key
  to_key writes each p among key is = by (test p.0.array) refl is
    where
      array : (chunk_of events p.0).array ≡ p.0.array
      array = chunk_array (known_after events p.0.array) p.0

      by : (b : Bool) → test p.0.array ≡ b → (if b then key_of events (chunk_of events p.0) else None) ≡ Some key → IsOneOf (keys_by writes) key
      by true passes named = key_written (chunk_of events p.0) key writes each among.write (ap test array ∙ passes) named
      by false passes named = absurd (cc)

  to_keys : (writes : List ChunkWrite) → AllByRecursion (IsStagedWrite events ops) writes → (ps : List Put) → AllByRecursion (λ (p : Put). IsPutAmong events writes p.0) ps → (key : Key) → IsOneOf (filter_map key_by ps) key → IsOneOf (keys_by writes) key
  to_keys writes each [] among key one = absurd one
  to_keys writes each (p ∷ ps) among key one = by (key_by p) refl one (λ rest. to_keys writes each ps among.1 key rest)
    where
      by : (o : Option Key) → key_by p ≡ o → IsOneOf (cons_option o (filter_map key_by ps)) key → (IsOneOf (filter_map key_by ps) key → IsOneOf (keys_by writes) key) → IsOneOf (keys_by writes) key
      by None is one rest = rest one
      by (Some k) is (inl same) rest = to_key writes each p among.0 key (is ∙ ap Some same)
      by (Some k) is (inr more) rest = rest more

  -- a put of a chunk that is written has its key
  from_put : (c : Chunk) (key : Key) (ps : List Put) → list_any (λ p. is_chunk (chunk_of events p.0) c) ps ≡ true → test c.array ≡ true → key_of events c ≡ Some key → IsOneOf (filter_map key_by ps) key
  from_put c key [] is passes named = absurd (cc)
  from_put c key (p ∷ ps) is passes named = by (is_chunk (chunk_of events p.0) c) refl (λ rest. from_put c key ps rest passes named)
    where
      array : p.0.array ≡ (chunk_of events p.0).array
      array = sym (chunk_array (known_after events p.0.array) p.0)

      here : is_chunk (chunk_of events p.0) c ≡ true → key_by p ≡ Some key
      here same =
          let chunk : chunk_of events p.0 ≡ c = same_chunks (chunk_of events p.0) c same in
          ap (λ b. cond b (key_of events (chunk_of events p.0)) None) (ap test (array ∙ ap (λ (d : Chunk). d.array) chunk) ∙ passes) ∙ ap (key_of events) chunk ∙ named

      more : (o : Option Key) → IsOneOf (filter_map key_by ps) key → IsOneOf (cons_option o (filter_map key_by ps)) key
      more None one = one
      more (Some k) one = inr one

      by : (b : Bool) → is_chunk (chunk_of events p.0) c ≡ b → (list_any (λ q. is_chunk (chunk_of events q.0) c) ps ≡ true → IsOneOf (filter_map key_by ps) key) → IsOneOf (filter_map key_by (p ∷ ps)) key
      by true same rest = subst (λ o. IsOneOf (cons_option o (filter_map key_by ps)) key) (sym (here same)) (inl refl)
      by false other rest = more (key_by p) (rest (sym (ap (λ b. b || list_any (λ q. is_chunk (chunk_of events q.0) c) ps) other) ∙ is))

  from_keys : (writes : List ChunkWrite) → AllByRecursion (IsStagedWrite events ops) writes → (key : Key) → IsOneOf (keys_by writes) key → IsOneOf (filter_map key_by (puts_of ops)) key
  from_keys [] each key one = absurd one
  from_keys (w ∷ writes) each key one = by (test w.array) refl one (λ rest. from_keys writes each.1 key rest)
    where
      by : (b : Bool) → test w.array ≡ b → IsOneOf (cond b (w.key ∷ keys_by writes) (keys_by writes)) key → (IsOneOf (keys_by writes) key → IsOneOf (filter_map key_by (puts_of ops)) key) → IsOneOf (filter_map key_by (puts_of ops)) key
      by true passes (inl same) rest =
          from_put (chunk_of_write w) key (puts_of ops) each.0.1.written passes (ap (λ o. key_in o (chunk_of_write w)) each.0.1.known ∙ ap Some (each.0.1.named ∙ same))
      by true passes (inr more) rest = rest more
      by false passes more rest = rest more

  keys_are : (writes : List ChunkWrite) → AreWrites events ops writes → in_order (filter_map key_by (puts_of ops)) ≡ keys_by writes
  keys_are writes are =
      in_order_is (filter_map key_by (puts_of ops)) (keys_by writes) (rising_by writes are.sorted) (λ key one. to_keys writes are.each (puts_of ops) are.all key one) (λ key one. from_keys writes are.each key one)

-- the stored keys of writes are in order
pub stored_rising : (events : History) (ops : List Op) (writes : List ChunkWrite) → AreRising (write_keys writes) → AreRising (stored_write_keys events writes)
stored_rising events ops writes rising = subst AreRising (same writes) (rising_by events ops (λ a. is_stored (known_after events a)) writes rising)
  where
    same : (ws : List ChunkWrite) → keys_by events ops (λ a. is_stored (known_after events a)) ws ≡ stored_write_keys events ws
    same [] = refl
    same (w ∷ ws) = ap (λ ks. cond (is_stored (known_after events w.array)) (w.key ∷ ks) ks) (same ws)

-- the keys that operations change in a store are those of the writes of stored arrays
pub stored_keys_are : (events : History) (ops : List Op) (writes : List ChunkWrite) → AreWrites events ops writes → stored_keys events ops ≡ stored_write_keys events writes
stored_keys_are events ops writes are = keys_are events ops (λ a. is_stored (known_after events a)) writes are ∙ same writes
  where
    same : (ws : List ChunkWrite) → keys_by events ops (λ a. is_stored (known_after events a)) ws ≡ stored_write_keys events ws
    same [] = refl
    same (w ∷ ws) = ap (λ ks. cond (is_stored (known_after events w.array)) (w.key ∷ ks) ks) (same ws)

-- and all that they change are those of all writes
pub changed_keys_are : (events : History) (ops : List Op) (writes : List ChunkWrite) → AreWrites events ops writes → changed_keys events ops ≡ write_keys writes
changed_keys_are events ops writes are = keys_are events ops (λ a. true) writes are ∙ same writes
  where
    same : (ws : List ChunkWrite) → keys_by events ops (λ a. true) ws ≡ write_keys ws
    same [] = refl
    same (w ∷ ws) = ap (λ ks. w.key ∷ ks) (same ws)
