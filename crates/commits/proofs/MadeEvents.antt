-- Which events a commit makes, whatever the store tells.
use Rattle.std.proofs.Common.{◌≡◌, ℕ, zero, suc, ◌+◌, ◌≤◌, List, [], ◌∷◌, ◌++◌, length, take, Bool, true, false, cond, Some, None, inl, inr, refl, sym, ap, subst, ◌∙◌, arith}
use Rattle.std.specs.Prelude.{Contains, filter, ◌||◌}
use Rattle.std.specs.List.{AllByRecursion, list_any}
use Rattle.std.proofs.lemmas.List.{append_assoc, append-nil}
use Rattle.kv_face.specs.Store.{Contents}
use Rattle.history.specs.declared.event.Event.{Event}
use Rattle.history.specs.declared.event.Mode.{Mode}
use Rattle.history.specs.declared.event.Op.{Op}
use Rattle.history.specs.History.{History}
use Rattle.history.specs.Arrays.{known_after}
use Rattle.history.specs.Chunks.{Chunk, chunk_of, is_chunk}
use Rattle.history.specs.Commit.{Key, Transaction, are_together, changed_keys, commit_events, done, done_each, is_write, kept_ops, stored_keys}
use Rattle.history.specs.CommitRows.{IsChangedOn}
use Rattle.history.specs.Own.{numbered}
use Rattle.history.specs.ReadRows.{IsOnMount}
use Rattle.history.specs.Writes.{Put, puts_of}
use Rattle.history.proofs.Laws.{chunk_array, known_after-more, same_chunks}
use Rattle.chunk_plans.specs.Agreement.{Opening, Agrees}
use Rattle.chunk_plans.specs.Log.{Log}
use Rattle.chunk_plans.specs.Seen.{StoreSeen}
use Rattle.chunk_plans.specs.declared.write.ChunkWrite.{ChunkWrite}
use Rattle.commits.specs.declared.prepared.Prepared.{Prepared}
use Rattle.commits.specs.Keyed.{each_event, key_event}
use Rattle.commits.specs.Made.{whole_event}
use Rattle.commits.specs.Planning.{IsAmongOn, write_arrays}
use Rattle.commits.specs.Prepared.{AreWrites, IsStagedWrite, write_keys}
use Rattle.commits.specs.Writes.{stored_write_keys}
use Rattle.commits.proofs.ChangedKeys.{changed_keys_are, stored_keys_are}
use Rattle.commits.proofs.EachLaws.{key_known}

pub take_front : (xs ys : List Event) → take (length xs) (xs ++ ys) ≡ xs
take_front [] [] = refl
take_front [] (y ∷ ys) = refl
take_front (x ∷ xs) ys = ap (λ zs. x ∷ zs) (take_front xs ys)

pub take_numbered : (n count : ℕ) (es : List Event) → take count (numbered n es) ≡ numbered n (take count es)
take_numbered n zero [] = refl
take_numbered n zero (e ∷ es) = refl
take_numbered n (suc count) [] = refl
take_numbered n (suc count) (e ∷ es) = ap (λ os. record { number = n; event = e } ∷ os) (take_numbered (n + 1) count es)

pub numbered_one : (n : ℕ) (es : List Event) (e : Event) → numbered n (es ++ e ∷ []) ≡ numbered n es ++ record { number = n + length es; event = e } ∷ []
numbered_one n [] e = ap (λ m. record { number = m; event = e } ∷ []) (plus_none n)
  where
    plus_none : (n : ℕ) → n ≡ n + 0
    plus_none n = omega arith
numbered_one n (f ∷ es) e = ap (λ os. record { number = n; event = f } ∷ os) (numbered_one (n + 1) es e ∙ ap (λ m. numbered (n + 1) es ++ record { number = m; event = e } ∷ []) (one_more n (length es)))
  where
    one_more : (n m : ℕ) → n + 1 + m ≡ n + suc m
    one_more n m = omega arith

pub length_take : (count : ℕ) (es : List Event) → count ≤ length es → length (take count es) ≡ count
length_take zero [] low = refl
length_take zero (e ∷ es) low = refl
length_take (suc count) [] low = absurd (omega (arith, low))
length_take (suc count) (e ∷ es) low = ap suc (length_take count es (omega (arith, low)))

-- the events of keys change no array
pub known_each : (owner line : ℕ) (mode : Mode) (ops : List Op) (keys : List Key) (count : ℕ) (h : History) (a : ℕ) → known_after (h ++ take count (each_event owner line mode ops keys)) a ≡ known_after h a
known_each owner line mode ops [] zero h a = ap (λ es. known_after es a) (append-nil h)
known_each owner line mode ops [] (suc count) h a = ap (λ es. known_after es a) (append-nil h)
known_each owner line mode ops (k ∷ keys) zero h a = ap (λ es. known_after es a) (append-nil h)
known_each owner line mode ops (k ∷ keys) (suc count) h a =
    ap (λ es. known_after es a) (sym (append_assoc h (key_event owner line mode ops k ∷ []) (take count (each_event owner line mode (filter is_write ops) keys))))
    ∙ known_each owner line mode (filter is_write ops) keys count (h ++ key_event owner line mode ops k ∷ []) a ∙ key_known owner line mode ops k h a

-- a put of a chunk that is written
put_contained : (events : History) (c : Chunk) (ps : List Put) → list_any (λ p. is_chunk (chunk_of events p.0) c) ps ≡ true → (p : Put) × Contains ps p × (chunk_of events p.0 ≡ c)
put_contained events c [] is = absurd (cc)
put_contained events c (p ∷ ps) is = by (is_chunk (chunk_of events p.0) c) refl (λ rest. put_contained events c ps rest)
  where
    by : (b : Bool) → is_chunk (chunk_of events p.0) c ≡ b → (list_any (λ q. is_chunk (chunk_of events q.0) c) ps ≡ true → (q : Put) × Contains ps q × (chunk_of events q.0 ≡ c)) → (q : Put) × Contains (p ∷ ps) q × (chunk_of events q.0 ≡ c)
    by true same rest = (p, (zero, omega arith, refl), same_chunks (chunk_of events p.0) c same)
    by false other rest =
        let there = rest (sym (ap (λ b. b || list_any (λ q. is_chunk (chunk_of events q.0) c) ps) other) ∙ is) in
        let low = there.1.1 in
        (there.0, (suc there.1.0, omega (arith, low), there.1.2), there.2)

-- a store call for an array of the writes is one for an array that is changed
pub changed_on : (events : History) (t : Transaction) (ws : List ChunkWrite) (mount : List ℕ) → AllByRecursion (IsStagedWrite events t.ops) ws → IsAmongOn events (write_arrays ws) mount → IsChangedOn events t mount
changed_on events t [] mount each among = absurd among
changed_on events t (w ∷ ws) mount each (inl (k, known, on)) =
    let there = put_contained events (record { array = w.array; index = w.chunk.now }) (puts_of t.ops) each.0.1.written in
    let array : there.0.0.array ≡ w.array = sym (chunk_array (known_after events there.0.0.array) there.0.0) ∙ ap (λ (c : Chunk). c.array) there.2 in
    record { put = there.0; among = there.1; on_mount = subst (IsOnMount mount) (sym (ap (known_after events) array ∙ known)) on }
changed_on events t (w ∷ ws) mount each (inr more) = changed_on events t ws mount each.1 more

pub among_same : (early late : History) (arrays : List ℕ) (mount : List ℕ) → ((a : ℕ) → known_after late a ≡ known_after early a) → IsAmongOn late arrays mount → IsAmongOn early arrays mount
among_same early late [] mount same among = among
among_same early late (a ∷ arrays) mount same (inl (k, known, on)) = inl (k, sym (same a) ∙ known, on)
among_same early late (a ∷ arrays) mount same (inr more) = inr (among_same early late arrays mount same more)

pub each_same : (owner : ℕ) (t : Transaction) (line : ℕ) (mode : Mode) (ops : List Op) (keys : List Key) → line ≡ t.line → mode ≡ t.mode → each_event owner line mode ops keys ≡ done_each owner t ops keys
each_same owner t line mode ops [] one two = refl
each_same owner t line mode ops (k ∷ keys) one two = λ i. done owner (record t { line = one i; mode = two i }) ops (Some k) ∷ each_same owner t line mode (filter is_write ops) keys one two i

module _ (opening : Opening) (start : Contents) (store : StoreSeen) (log : Log) (owner : ℕ) (t : Transaction) (p : Prepared) (agrees : Agrees opening store log) (line : p.line ≡ t.line) (mode : p.mode ≡ t.mode) (ops : p.ops ≡ t.ops) (reads : kept_ops t ≡ t.ops)
    (are : AreWrites log.events t.ops p.writes.items) where
  -- what goes together by the store does by the opening, and the other way round
  pub together_as : (b : Bool) → are_together store.prefixes (stored_write_keys log.events p.writes.items) ≡ b → are_together opening.store.prefixes (stored_keys log.events t.ops) ≡ b
  together_as b e =
      ap (λ ps. are_together ps (stored_keys log.events t.ops)) (sym agrees.frame.prefixes) ∙ ap (are_together store.prefixes) (stored_keys_are log.events t.ops p.writes.items are) ∙ e

  -- the one event of a commit is the transaction's
  pub whole_events : are_together store.prefixes (stored_write_keys log.events p.writes.items) ≡ true → whole_event owner p ∷ [] ≡ commit_events (record { start = start; prefixes = opening.store.prefixes }) log.events owner t
  whole_events together =
      ap (λ e. e ∷ []) same ∙ sym (ap (λ b. cond b (done owner t (kept_ops t) None ∷ []) (done_each owner t (kept_ops t) (changed_keys log.events t.ops))) (together_as true together))
    where
      same : whole_event owner p ≡ done owner t (kept_ops t) None
      same i = done owner (record t { line = line i; mode = mode i }) ((ops ∙ sym reads) i) None

  -- and so are those for each key
  pub each_events : are_together store.prefixes (stored_write_keys log.events p.writes.items) ≡ false
      → each_event owner p.line p.mode p.ops (write_keys p.writes.items) ≡ commit_events (record { start = start; prefixes = opening.store.prefixes }) log.events owner t
  each_events apart =
      each_same owner t p.line p.mode p.ops (write_keys p.writes.items) line mode ∙ ap (λ os. done_each owner t os (write_keys p.writes.items)) (ops ∙ sym reads)
      ∙ ap (done_each owner t (kept_ops t)) (sym (changed_keys_are log.events t.ops p.writes.items are))
      ∙ sym (ap (λ b. cond b (done owner t (kept_ops t) None ∷ []) (done_each owner t (kept_ops t) (changed_keys log.events t.ops))) (together_as false apart))

-- the one event changes no array
pub known_whole : (owner : ℕ) (p : Prepared) (h : History) (count : ℕ) (a : ℕ) → known_after (h ++ take count (whole_event owner p ∷ [])) a ≡ known_after h a
known_whole owner p h zero a = ap (λ es. known_after es a) (append-nil h)
known_whole owner p h (suc zero) a = known_after-more h (whole_event owner p) a
known_whole owner p h (suc (suc n)) a = known_after-more h (whole_event owner p) a
