-- The list of a cache by its keys' bytes: what calls of `lru` leave.
use Rattle.std.proofs.Common.{◌≡◌, ℕ, ◌+◌, ◌-◌, ◌<◌, ◌⊎◌, inl, inr, Bool, true, false, cond, List, [], ◌∷◌, ◌++◌, length, take, get_or, slice_get, Option, Some, None, String, string_bytes, string_eq, refl, sym, ◌∙◌, ap, subst, arith}
use Rattle.std.specs.List.{IsDistinct}
use Rattle.std.specs.Map.{lookup, lookup_entry, remove_entry, keys_of}
use Rattle.std.specs.Option.{option_map_or}
use Rattle.std.specs.Str.{bytes_eq}
use Rattle.std.specs.Cmp.Lexicographic.{same_text}
use Rattle.std.proofs.lemmas.List.{take_all, take_more, map-append, length-append}
use Rattle.std.proofs.lemmas.Option.{slice_get-get_or}
use Rattle.lru.specs.LruCache.{LruCache, lru_cache, last_entry, promoted, put_entries}
use Rattle.chunk_cache.specs.Snapshot.{SnapshotCells, size_of}
use Rattle.chunk_cache.specs.Cache.{most_chunks, cells_of, kept, without, fitting, after_hit}
use Rattle.chunk_cache.specs.Kept.{entries_of}
use Rattle.chunk_cache.proofs.CacheLaws.{cells_of-cons, cells_of-without, remove_entry-without, without-missed}
use Rattle.chunk_cache.proofs.FittingLaws.{fitting-push}

module _ {Z : Type 0} where
  -- whether a text has these bytes
  abbrev is_key : List ℕ → String Z → Bool
  is_key key text = bytes_eq key (string_bytes text)

  pub length-entries_of : (entries : List (String Z × SnapshotCells)) → length (entries_of entries) ≡ length entries
  length-entries_of [] = refl
  length-entries_of (e ∷ es) = omega (arith, length-entries_of es)

  pub lookup-entries : (key : List ℕ) (entries : List (String Z × SnapshotCells)) → lookup (λ text. bytes_eq key (string_bytes text)) entries ≡ kept key (entries_of entries)
  lookup-entries key [] = refl
  lookup-entries key (e ∷ es) = ap (cond (is_key key e.0) (Some e.1)) (lookup-entries key es)

  remove-entries : (key : List ℕ) (entries : List (String Z × SnapshotCells)) → entries_of (remove_entry (is_key key) entries) ≡ remove_entry (bytes_eq key) (entries_of entries)
  remove-entries key [] = refl
  remove-entries key (e ∷ es) = (elim (is_key key e.0) as (λ b. is_key key e.0 ≡ b → entries_of (remove_entry (is_key key) (e ∷ es)) ≡ remove_entry (bytes_eq key) (entries_of (e ∷ es))) [
    | true ↦ λ t. rw t refl
    | false ↦ λ t. rw t (ap (λ rest. (string_bytes e.0, e.1) ∷ rest) (remove-entries key es))
  ]) refl

  pub entries_of-remove_entry : (key : List ℕ) (entries : List (String Z × SnapshotCells)) → IsDistinct bytes_eq (keys_of (entries_of entries))
      → entries_of (remove_entry (λ text. bytes_eq key (string_bytes text)) entries) ≡ without key (entries_of entries)
  entries_of-remove_entry key entries apart = remove-entries key entries ∙ remove_entry-without key (entries_of entries) apart

  -- an entry that is found has the key, and its value is what is kept
  found : (key : List ℕ) (entries : List (String Z × SnapshotCells)) (e : String Z × SnapshotCells) → lookup_entry (is_key key) entries ≡ Some e
      → (string_bytes e.0 ≡ key) × (kept key (entries_of entries) ≡ Some e.1)
  found key [] e is = cc
  found key (f ∷ es) e is = (elim (is_key key f.0) as (λ b. is_key key f.0 ≡ b → (string_bytes e.0 ≡ key) × (kept key (entries_of (f ∷ es)) ≡ Some e.1)) [
    | true ↦ λ t. let at = rw t at is in let same : f ≡ e = cc in
        (sym (ap (λ g. string_bytes g.0) same) ∙ sym (same_text key (string_bytes f.0) (sym t)) ∙ refl, rw t (ap (λ g. Some g.1) same))
    | false ↦ λ t. let rest = found key es e (rw t at is) in (rest.0, rw t rest.1)
  ]) refl

  missed : (key : List ℕ) (entries : List (String Z × SnapshotCells)) → lookup_entry (is_key key) entries ≡ None → kept key (entries_of entries) ≡ None
  missed key [] is = refl
  missed key (f ∷ es) is = (elim (is_key key f.0) as (λ b. is_key key f.0 ≡ b → kept key (entries_of (f ∷ es)) ≡ None) [
    | true ↦ λ t. let at = rw t at is in cc
    | false ↦ λ t. rw t (missed key es (rw t at is))
  ]) refl

  -- what is promoted comes first
  promoted_by : (key : List ℕ) (entries : List (String Z × SnapshotCells)) (o : Option (String Z × SnapshotCells)) → IsDistinct bytes_eq (keys_of (entries_of entries))
      → lookup_entry (is_key key) entries ≡ o
      → entries_of (option_map_or (λ e. e ∷ remove_entry (is_key key) entries) o entries) ≡ after_hit key (entries_of entries)
  promoted_by key entries None apart is = let none = missed key entries is in rw none refl
  promoted_by key entries (Some e) apart is =
      let at = found key entries e is in
      let some = at.1 in
      rw some (ap (λ k. (k, e.1) ∷ entries_of (remove_entry (is_key key) entries)) at.0
      ∙ ap (λ rest. (key, e.1) ∷ rest) (entries_of-remove_entry key entries apart))

  pub entries_of-promoted : (key : List ℕ) (entries : List (String Z × SnapshotCells)) → IsDistinct bytes_eq (keys_of (entries_of entries))
      → entries_of (promoted (λ text. bytes_eq key (string_bytes text)) entries) ≡ after_hit key (entries_of entries)
  entries_of-promoted key entries apart = promoted_by key entries (lookup_entry (is_key key) entries) apart refl

  -- what is put comes first
  put_by : (key : String Z) (snapshot : SnapshotCells) (cap : ℕ) (entries : List (String Z × SnapshotCells)) (o : Option (String Z × SnapshotCells))
      → length entries < cap → IsDistinct bytes_eq (keys_of (entries_of entries)) → lookup_entry (is_key (string_bytes key)) entries ≡ o
      → entries_of (option_map_or (λ e. (e.0, snapshot) ∷ remove_entry (is_key (string_bytes key)) entries) o ((key, snapshot) ∷ take (cap - 1) entries))
      ≡ (string_bytes key, snapshot) ∷ without (string_bytes key) (entries_of entries)
  put_by key snapshot cap entries None room apart is =
      ap (λ rest. (string_bytes key, snapshot) ∷ entries_of rest) (take_all (cap - 1) entries (omega arith))
      ∙ ap (λ rest. (string_bytes key, snapshot) ∷ rest) (sym (without-missed (string_bytes key) (entries_of entries) (missed (string_bytes key) entries is)))
  put_by key snapshot cap entries (Some e) room apart is =
      ap (λ k. (k, snapshot) ∷ entries_of (remove_entry (is_key (string_bytes key)) entries)) (found (string_bytes key) entries e is).0
      ∙ ap (λ rest. (string_bytes key, snapshot) ∷ rest) (entries_of-remove_entry (string_bytes key) entries apart)

  pub entries_of-put_entries : (key : String Z) (snapshot : SnapshotCells) (cap : ℕ) (entries : List (String Z × SnapshotCells))
      → length entries < cap → IsDistinct bytes_eq (keys_of (entries_of entries))
      → entries_of (put_entries string_eq (lru_cache entries cap) key snapshot) ≡ (string_bytes key, snapshot) ∷ without (string_bytes key) (entries_of entries)
  entries_of-put_entries key snapshot cap entries room apart = put_by key snapshot cap entries (lookup_entry (is_key (string_bytes key)) entries) room apart refl

  -- the cells of what was taken out, and of what stays
  pub cells_of-taken_out : (key : List ℕ) (entries : List (String Z × SnapshotCells)) (found : Option SnapshotCells) → IsDistinct bytes_eq (keys_of (entries_of entries))
      → found ≡ lookup (λ text. bytes_eq key (string_bytes text)) entries
      → cells_of (without key (entries_of entries)) + option_map_or size_of found 0 ≡ cells_of (entries_of entries)
  cells_of-taken_out key entries found apart is =
      subst (λ o. cells_of (without key (entries_of entries)) + option_map_or size_of o 0 ≡ cells_of (entries_of entries)) (sym (is ∙ lookup-entries key entries))
      (cells_of-without key (entries_of entries) apart)

  -- where there are cells, there is an entry
  pub length-from_cells_of : (entries : List (String Z × SnapshotCells)) → 0 < cells_of (entries_of entries) → 0 < length entries
  length-from_cells_of [] some = some
  length-from_cells_of (e ∷ es) some = omega arith

  -- the last entry was taken out; it had so many cells
  abbrev pub IsLastTaken : List (String Z × SnapshotCells) → List (String Z × SnapshotCells) → ℕ → Type 0
  IsLastTaken old new cells = (last : String Z × SnapshotCells) × (old ≡ new ++ last ∷ []) × (size_of last.1 ≡ cells)

  pub IsLastTaken-take : (old new : List (String Z × SnapshotCells)) (cells : ℕ) → 0 < length old → new ≡ take (length old - 1) old
      → cells ≡ option_map_or (λ entry. size_of entry.1) (last_entry old) 0 → IsLastTaken old new cells
  IsLastTaken-take [] new cells some front size = absurd (omega (arith, some))
  IsLastTaken-take (e ∷ es) new cells some front size =
      let i = length (e ∷ es) - 1 in
      let last = get_or (e ∷ es) i e in
      let at : slice_get (e ∷ es) i ≡ Some last = slice_get-get_or (e ∷ es) i e (omega arith) in (
        last,
        sym (take_all (i + 1) (e ∷ es) (omega arith)) ∙ take_more (e ∷ es) i e (omega arith) ∙ ap (λ rest. rest ++ last ∷ []) (sym front),
        sym (size ∙ ap (λ o. option_map_or (λ entry. size_of entry.1) o 0) at),
      )

  entries_of-push : (entries : List (String Z × SnapshotCells)) (last : String Z × SnapshotCells)
      → entries_of (entries ++ last ∷ []) ≡ entries_of entries ++ (string_bytes last.0, last.1) ∷ []
  entries_of-push entries last = map-append (λ entry. (string_bytes entry.0, entry.1)) entries (last ∷ [])

  cells_of-push : (entries : List (String Z × SnapshotCells)) (last : String Z × SnapshotCells) → cells_of (entries_of (entries ++ last ∷ [])) ≡ cells_of (entries_of entries) + size_of last.1
  cells_of-push [] last = omega (arith, cells_of-cons (string_bytes last.0, last.1) [])
  cells_of-push (e ∷ es) last =
      let all = cells_of-cons (string_bytes e.0, e.1) (entries_of (es ++ last ∷ [])) in
      let front = cells_of-cons (string_bytes e.0, e.1) (entries_of es) in
      let rest = cells_of-push es last in
      omega (arith, all, front, rest)

  -- without the last entry there are its cells fewer
  pub cells_of-last : (old new : List (String Z × SnapshotCells)) (cells : ℕ) → IsLastTaken old new cells → cells_of (entries_of new) + cells ≡ cells_of (entries_of old)
  cells_of-last old new cells taken =
      let all = ap (λ es. cells_of (entries_of es)) taken.1 in
      let push = cells_of-push new taken.0 in
      omega (arith, all, push, taken.2)

  -- and one entry fewer
  pub length-last : (old new : List (String Z × SnapshotCells)) (cells : ℕ) → IsLastTaken old new cells → length new < length old
  length-last old new cells taken = let all = ap length taken.1 in omega (arith, all, length-append new (taken.0 ∷ []))

  -- where a bound is passed, the last entry doesn't fit
  pub fitting-last : (limit : ℕ) (old new : List (String Z × SnapshotCells)) (cells : ℕ) → IsLastTaken old new cells
      → (limit < cells_of (entries_of old)) ⊎ (most_chunks < length old) → fitting limit most_chunks (entries_of new) ≡ fitting limit most_chunks (entries_of old)
  fitting-last limit old new cells taken past =
      let whole = ap entries_of taken.1 ∙ entries_of-push new taken.0 in
      let some : (limit < cells_of (entries_of new ++ (string_bytes taken.0.0, taken.0.1) ∷ [])) ⊎ (most_chunks < length (entries_of new ++ (string_bytes taken.0.0, taken.0.1) ∷ [])) =
      elim past [
        | inl more ↦ inl (subst (λ es. limit < cells_of es) whole more)
        | inr more ↦ inr (subst (λ es. most_chunks < length es) whole (omega (arith, length-entries_of old, more)))
      ] in
      sym (ap (fitting limit most_chunks) whole ∙ fitting-push limit most_chunks (entries_of new) (string_bytes taken.0.0, taken.0.1) some)

  -- the cells of what was put, and of what it took the place of
  pub cells_of-put_first : (key : List ℕ) (snapshot : SnapshotCells) (entries : List (String Z × SnapshotCells)) (found : Option SnapshotCells) (new : List (List ℕ × SnapshotCells))
      → IsDistinct bytes_eq (keys_of (entries_of entries)) → found ≡ lookup (λ text. bytes_eq key (string_bytes text)) entries
      → new ≡ (key, snapshot) ∷ without key (entries_of entries)
      → cells_of new + option_map_or size_of found 0 ≡ cells_of (entries_of entries) + size_of snapshot
  cells_of-put_first key snapshot entries found new apart is put =
      let rest = cells_of-taken_out key entries found apart is in
      let first = cells_of-cons (key, snapshot) (without key (entries_of entries)) in
      omega (arith, rest, first, ap cells_of put)

  -- what a cache holds once a key was taken out
  pub entries_of-taken_out : (key : List ℕ) (old new : LruCache (String Z) SnapshotCells) → IsDistinct bytes_eq (keys_of (entries_of old.entries))
      → new ≡ lru_cache (remove_entry (λ text. bytes_eq key (string_bytes text)) old.entries) old.cap → entries_of new.entries ≡ without key (entries_of old.entries)
  entries_of-taken_out key old new apart is = ap (λ cache. entries_of cache.entries) is ∙ entries_of-remove_entry key old.entries apart

  -- and how many cells went
  pub cells_of-gone : (key : List ℕ) (old new : LruCache (String Z) SnapshotCells) (cells : ℕ) → IsDistinct bytes_eq (keys_of (entries_of old.entries))
      → new ≡ lru_cache (remove_entry (λ text. bytes_eq key (string_bytes text)) old.entries) old.cap
      → cells ≡ option_map_or size_of (lookup (λ text. bytes_eq key (string_bytes text)) old.entries) 0
      → cells_of (entries_of new.entries) + cells ≡ cells_of (entries_of old.entries)
  cells_of-gone key old new cells apart is went =
      let rest = ap cells_of (entries_of-taken_out key old new apart is) in
      let all = cells_of-taken_out key old.entries (lookup (λ text. bytes_eq key (string_bytes text)) old.entries) apart refl in
      omega (arith, rest, all, went)
