-- Events that open no array.
use Rattle.std.proofs.Common.{◌≡◌, ℕ, ◌+◌, List, [], ◌∷◌, ◌++◌, false, cond, Some, None, sym, ap, ◌∙◌, arith}
use Rattle.std.specs.Prelude.{count_by}
use Rattle.std.proofs.lemmas.List.Sums.{fold-append}
use Rattle.history.specs.declared.event.Event.{Event}
use Rattle.history.specs.declared.event.Mode.{Mode}
use Rattle.history.specs.declared.event.Op.{Op}
use Rattle.history.specs.declared.event.Kind.TheVariants.{Done, Fault}
use Rattle.history.specs.Arrays.{Known, known_after, known_step}
use Rattle.history.specs.Chunks.{Chunk}
use Rattle.history.specs.History.{History}
use Rattle.history.specs.Legal.{opens, is_opening}
use Rattle.history.specs.Touch.{touches_by}
use Rattle.history.specs.Writes.{puts_of}
use Rattle.history.proofs.Laws.{known_after-more}
use Rattle.version_laws.proofs.Cells.{cell_before}
use Rattle.version_laws.proofs.Laws.{untouched_versions, part_begun, part_done}
use Rattle.version_store.specs.Ids.{IsChunkIn}
use Rattle.version_store.specs.Stores.{IsStoreOf, IsPartStoreOf}
use Rattle.version_store.specs.declared.store.VersionStore.{VersionStore}

-- one event more counts where it opens an array
pub count_more : (h : History) (e : Event) → count_by is_opening (h ++ e ∷ []) ≡ count_by is_opening h + cond (is_opening e) 1 0
count_more h e = fold-append (λ a x. a + cond {A = ℕ} (is_opening x) 1 0) 0 h (e ∷ [])

same_count : (h : History) (e : Event) → is_opening e ≡ false → count_by is_opening (h ++ e ∷ []) ≡ count_by is_opening h
same_count h e other =
    let more = count_more h e in
    let none : cond {A = ℕ} (is_opening e) 1 0 ≡ 0 = ap (λ b. cond {A = ℕ} b 1 0) other in
    omega (arith, more, none)

-- a chunk was one of the history before an event that leaves its array
pub chunk_before : (h : History) (e : Event) (k : Known) (c : Chunk) (id : List ℕ) → known_after h c.array ≡ Some k → IsChunkIn (h ++ e ∷ []) k c id → IsChunkIn h k c id
chunk_before h e k c id known at = record {
  named = at.named;
  known = known;
  cell = at.cell;
  has = cell_before h e k c known at.known at.cell at.has;
}

-- no word of the next commit is put yet
pub store_begun : (h : History) (s : VersionStore) → IsStoreOf h s → IsPartStoreOf h [] s
store_begun h s store = record {
  arrays = store.arrays;
  unknown = store.unknown;
  chunks = λ k c id v at is kept. part_begun h k c v is (store.chunks k c id v at is kept);
}

-- all words of a commit are put
pub store_done : (h : History) (e : Event) (line : ℕ) (mode : Mode) (ops : List Op) (s : VersionStore) → e.kind ≡ Done line mode ops None → IsPartStoreOf h (puts_of ops) s → IsStoreOf (h ++ e ∷ []) s
store_done h e line mode ops s kind part = record {
  arrays = part.arrays ∙ sym (same_count h e (ap opens kind));
  unknown = λ c none. part.unknown c (sym (quiet c.array) ∙ none);
  chunks = λ k c id v at is kept. part_done h e k c line mode ops v kind (part.chunks k c id v (chunk_before h e k c id (sym (quiet c.array) ∙ at.known) at) is kept);
} where
  quiet : (a : ℕ) → known_after (h ++ e ∷ []) a ≡ known_after h a
  quiet a = known_after-more h e a ∙ ap (λ act. known_step a h act (known_after h a)) kind

-- a failed call changes nothing
pub store_fault : (h : History) (e : Event) (mount : List ℕ) (s : VersionStore) → e.kind ≡ Fault mount → IsStoreOf h s → IsStoreOf (h ++ e ∷ []) s
store_fault h e mount s kind store = record {
  arrays = store.arrays ∙ sym (same_count h e (ap opens kind));
  unknown = λ c none. store.unknown c (sym (quiet c.array) ∙ none);
  chunks = λ k c id v at is kept. untouched_versions h e k c v is (ap (λ act. touches_by h act c) kind) at.known (store.chunks k c id v (chunk_before h e k c id (sym (quiet c.array) ∙ at.known) at) is kept);
} where
  quiet : (a : ℕ) → known_after (h ++ e ∷ []) a ≡ known_after h a
  quiet a = known_after-more h e a ∙ ap (λ act. known_step a h act (known_after h a)) kind
