-- Words in another order.
use Rattle.std.proofs.Common.{◌≡◌, ◌⊎◌, inl, inr, ℕ, List, [], ◌∷◌, filter, Bool, true, false, ◌||◌, cond, Some, refl, sym, ap, ◌∙◌, eq-eqb}
use Rattle.std.specs.Prelude.{◌==◌, fold}
use Rattle.std.specs.FinMap as finmap
use Rattle.std.specs.List.{list_any}
use Rattle.std.specs.Str.{bytes_eq}
use Rattle.std.proofs.lemmas.Slice.Eq.{bytes_eq-Decides}
use Rattle.cells.proofs.Laws.{both_true, true_or_false, not_both}
use Rattle.history.specs.Arrays.{Known}
use Rattle.history.specs.Chunks.{Chunk, is_chunk, chunk_of}
use Rattle.history.specs.Content.{world_after}
use Rattle.history.specs.Generations.{IsTouched}
use Rattle.history.specs.History.{History}
use Rattle.history.specs.Targets.{Cell, is_cell}
use Rattle.history.specs.Writes.{Content, Put, put}
use Rattle.history.proofs.Laws.{same_cells}
use Rattle.chunk_versions.specs.Versions.{Versions}
use Rattle.version_laws.specs.Kept.{IsNext, is_written, ArePartVersionsOf}
use Rattle.version_store.specs.Ordered.{is_in, AreSameByChunks}
use Rattle.version_store.specs.Stores.{IsPartStoreOf}
use Rattle.version_store.specs.declared.store.VersionStore.{VersionStore}

module _ (h : History) (c : Chunk) where
  -- those in the chunk tell whether there is one
  any_in : (ps : List Put) → list_any (is_in h c) ps ≡ list_any (is_in h c) (filter (is_in h c) ps)
  any_in [] = refl
  any_in (p ∷ ps) = by (is_in h c p) refl (any_in ps) where
    by : (b : Bool) → is_in h c p ≡ b → list_any (is_in h c) ps ≡ list_any (is_in h c) (filter (is_in h c) ps)
        → (b || list_any (is_in h c) ps) ≡ list_any (is_in h c) (cond b (p ∷ filter (is_in h c) ps) (filter (is_in h c) ps))
    by true is rest = sym (ap (λ b. b || list_any (is_in h c) (filter (is_in h c) ps)) is)
    by false is rest = rest

  itself : is_chunk c c ≡ true
  itself = both_true (c.array == c.array) (bytes_eq c.index c.index) (eq-eqb c.array c.array refl) ((bytes_eq-Decides c.index c.index).1 refl)

  -- a word elsewhere is at no cell of the chunk
  no_cell : (p : Put) (x : Cell) → chunk_of h x ≡ c → is_in h c p ≡ false → is_cell p.0 x ≡ false
  no_cell p x at other = elim (true_or_false (is_cell p.0 x)) [
    | inl same ↦ not_both (is_in h c p) (ap (λ d. is_chunk d c) (ap (chunk_of h) (same_cells p.0 x same) ∙ at) ∙ itself) other
    | inr apart ↦ apart
  ]

  -- at a cell of the chunk those in it count alone
  put_in : (x : Cell) → chunk_of h x ≡ c → (ps : List Put) (f g : Content) → f x ≡ g x → fold put f ps x ≡ fold put g (filter (is_in h c) ps) x
  put_in x at [] f g same = same
  put_in x at (p ∷ ps) f g same = by (is_in h c p) refl (put_in x at ps) where
    by : (b : Bool) → is_in h c p ≡ b → ((f g : Content) → f x ≡ g x → fold put f ps x ≡ fold put g (filter (is_in h c) ps) x)
        → fold put (put f p) ps x ≡ fold put g (cond b (p ∷ filter (is_in h c) ps) (filter (is_in h c) ps)) x
    by true is rest = rest (put f p) (put g p) (ap (λ o. cond (is_cell p.0 x) (Some p.1) o) same)
    by false is rest = rest (put f p) g (ap (λ b. cond b (Some p.1) (f x)) (no_cell p x at is) ∙ same)

  part_ordered : (k : Known) (ps qs : List Put) (v : Versions) → filter (is_in h c) ps ≡ filter (is_in h c) qs → ArePartVersionsOf h k c ps v → ArePartVersionsOf h k c qs v
  part_ordered k ps qs v same of = record {
    known = of.known;
    size = of.size;
    touched = λ n. (λ has. onward n ((of.touched n).0 has), λ either. (of.touched n).1 (back n either));
    words = of.words;
    last = λ x cell.
        of.last x cell
        ∙ put_in x cell.chunk ps (world_after finmap.empty h) (world_after finmap.empty h) refl
        ∙ ap (λ rs. fold put (world_after finmap.empty h) rs x) same
        ∙ sym (put_in x cell.chunk qs (world_after finmap.empty h) (world_after finmap.empty h) refl);
  } where
    alike : is_written h c ps ≡ is_written h c qs
    alike = any_in ps ∙ ap (list_any (is_in h c)) same ∙ sym (any_in qs)

    onward : (n : ℕ) → IsTouched h c n ⊎ IsNext h c ps n → IsTouched h c n ⊎ IsNext h c qs n
    onward n (inl t) = inl t
    onward n (inr next) = inr (next.0, sym alike ∙ next.1)

    back : (n : ℕ) → IsTouched h c n ⊎ IsNext h c qs n → IsTouched h c n ⊎ IsNext h c ps n
    back n (inl t) = inl t
    back n (inr next) = inr (next.0, alike ∙ next.1)

-- the order of words in different chunks doesn't count
pub store_ordered : (h : History) (ps qs : List Put) (s : VersionStore) → AreSameByChunks h ps qs → IsPartStoreOf h ps s → IsPartStoreOf h qs s
store_ordered h ps qs s same part = record {
  arrays = part.arrays;
  unknown = part.unknown;
  chunks = λ k c id v at is kept. part_ordered h c k ps qs v (same c) (part.chunks k c id v at is kept);
}
