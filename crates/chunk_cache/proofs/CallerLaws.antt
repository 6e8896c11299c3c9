-- Laws of a cache's list for crates above: what is first, and what holds of each entry.
use Rattle.std.proofs.Common.{◌≡◌, ℕ, ◌-◌, ◌≤◌, ◌≢◌, true, false, ◌&&◌, if◌then◌else◌, nat_le, nat_lt, List, [], ◌∷◌, Option, Some, None, All, refl, sym, ◌∙◌, ap, subst}
use Rattle.std.specs.Option.{option_map_or}
use Rattle.std.specs.Str.{bytes_eq}
use Rattle.std.specs.Cmp.Lexicographic.{same_text, nat_list_eq_equiv}
use Rattle.std.proofs.lemmas.Bool.{le-leb}
use Rattle.std.proofs.lemmas.List.Elements.{All-nil, All-cons, All-head, All-tail}
use Rattle.chunk_cache.specs.Snapshot.{SnapshotCells, size_of}
use Rattle.chunk_cache.specs.Cache.{kept, without, fitting, most_chunks, after_hit, after_keep, after_drop}

-- what stands first under a key is kept under it
pub kept-first : (key : List ℕ) (snapshot : SnapshotCells) (entries : List (List ℕ × SnapshotCells)) → kept key ((key, snapshot) ∷ entries) ≡ Some snapshot
kept-first key snapshot entries = rw (nat_list_eq_equiv.refl key) refl

-- what was found comes first
pub after_hit-first : (key : List ℕ) (snapshot : SnapshotCells) (entries : List (List ℕ × SnapshotCells)) → kept key entries ≡ Some snapshot
    → after_hit key entries ≡ (key, snapshot) ∷ without key entries
after_hit-first key snapshot entries is = ap (λ found. option_map_or (λ s. (key, s) ∷ without key entries) found entries) is

-- a chunk within the limit comes first
pub after_keep-first : (limit : ℕ) (key : List ℕ) (snapshot : SnapshotCells) (entries : List (List ℕ × SnapshotCells)) → size_of snapshot ≤ limit
    → after_keep limit key snapshot entries ≡ (key, snapshot) ∷ fitting (limit - size_of snapshot) (most_chunks - 1) (without key entries)
after_keep-first limit key snapshot entries small = let size : nat_le (size_of snapshot) limit ≡ true = le-leb _ _ small in rw size refl

module _ (P : List ℕ × SnapshotCells → Type 0) where
  -- what holds of each entry holds of what is kept
  pub All-kept : (key : List ℕ) (snapshot : SnapshotCells) (entries : List (List ℕ × SnapshotCells)) → kept key entries ≡ Some snapshot → All P entries → P (key, snapshot)
  All-kept key snapshot [] is all = cc
  All-kept key snapshot (e ∷ es) is all = (elim (bytes_eq key e.0) as (λ b. bytes_eq key e.0 ≡ b → P (key, snapshot)) [
    | true ↦ λ t.
        let at = rw t at is in
        let value : e.1 ≡ snapshot = cc in
        subst (λ k. P (k, snapshot)) (sym (same_text key e.0 (sym t))) (subst (λ s. P (e.0, s)) value (All-head P e es all))
    | false ↦ λ t. All-kept key snapshot es (rw t at is) (All-tail P e es all)
  ]) refl

  -- and of the entries that other keys have
  pub All-without : (key : List ℕ) (entries : List (List ℕ × SnapshotCells)) → All P entries → All P (without key entries)
  All-without key [] all = all
  All-without key (e ∷ es) all = (elim (bytes_eq key e.0) as (λ b. bytes_eq key e.0 ≡ b → All P (without key (e ∷ es))) [
    | true ↦ λ t. rw t (All-without key es (All-tail P e es all))
    | false ↦ λ t. rw t (All-cons P e (without key es) (All-head P e es all) (All-without key es (All-tail P e es all)))
  ]) refl

  All-fitting : (cells chunks : ℕ) (entries : List (List ℕ × SnapshotCells)) → All P entries → All P (fitting cells chunks entries)
  All-fitting cells chunks [] all = all
  All-fitting cells chunks (e ∷ es) all =
      elim (nat_le (size_of e.1) cells && nat_lt 0 chunks) as (λ b. All P (if b then e ∷ fitting (cells - size_of e.1) (chunks - 1) es else [])) [
        | true ↦ All-cons P e (fitting (cells - size_of e.1) (chunks - 1) es) (All-head P e es all) (All-fitting (cells - size_of e.1) (chunks - 1) es (All-tail P e es all))
        | false ↦ All-nil P
      ]

  hit_by : (key : List ℕ) (entries : List (List ℕ × SnapshotCells)) (found : Option SnapshotCells) → kept key entries ≡ found → All P entries
      → All P (option_map_or (λ snapshot. (key, snapshot) ∷ without key entries) found entries)
  hit_by key entries None is all = all
  hit_by key entries (Some snapshot) is all = All-cons P (key, snapshot) (without key entries) (All-kept key snapshot entries is all) (All-without key entries all)

  pub All-after_hit : (key : List ℕ) (entries : List (List ℕ × SnapshotCells)) → All P entries → All P (after_hit key entries)
  All-after_hit key entries all = hit_by key entries (kept key entries) refl all

  pub All-after_keep : (limit : ℕ) (key : List ℕ) (snapshot : SnapshotCells) (entries : List (List ℕ × SnapshotCells)) → P (key, snapshot) → All P entries
      → All P (after_keep limit key snapshot entries)
  All-after_keep limit key snapshot entries new all =
      let rest = All-without key entries all in
      elim (nat_le (size_of snapshot) limit) as (λ b. All P (if b then fitting limit most_chunks ((key, snapshot) ∷ without key entries) else without key entries)) [
        | true ↦ All-fitting limit most_chunks ((key, snapshot) ∷ without key entries) (All-cons P (key, snapshot) (without key entries) new rest)
        | false ↦ rest
      ]

-- once a key is dropped, each entry is one of another key that was there
pub All-after_drop : (P Q : List ℕ × SnapshotCells → Type 0) (key : List ℕ) (entries : List (List ℕ × SnapshotCells))
    → ((entry : List ℕ × SnapshotCells) → entry.0 ≢ key → P entry → Q entry) → All P entries → All Q (after_drop key entries)
All-after_drop P Q key [] step all = All-nil Q
All-after_drop P Q key (e ∷ es) step all = (elim (bytes_eq key e.0) as (λ b. bytes_eq key e.0 ≡ b → All Q (after_drop key (e ∷ es))) [
  | true ↦ λ t. rw t (All-after_drop P Q key es step (All-tail P e es all))
  | false ↦ λ t.
      let other : e.0 ≢ key = λ same. let is : bytes_eq key key ≡ false = subst (λ k. bytes_eq key k ≡ false) same t in cc (sym (nat_list_eq_equiv.refl key) ∙ is) in
      rw t (All-cons Q e (without key es) (step e other (All-head P e es all)) (All-after_drop P Q key es step (All-tail P e es all)))
]) refl
