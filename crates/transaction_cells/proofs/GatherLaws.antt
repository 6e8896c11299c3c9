-- The words that are put into a view by pieces, cell by cell.
use Rattle.std.proofs.Common.{◌≡◌, ◌∙◌, ℕ, zero, suc, ◌+◌, ◌<◌, Bool, true, false, cond, List, [], ◌∷◌, ◌++◌, length, map, drop, set, get_or, replicate, Option, Some, None, refl, sym, ap, subst, arith, unwrap_or, append_assoc}
use Rattle.std.specs.Prelude.{Contains}
use Rattle.std.specs.List.{AllByRecursion, fold, flat_map}
use Rattle.std.specs.List.Sorted.{IsStrictlySortedBy}
use Rattle.std.specs.Ordering.{nat_cmp}
use Rattle.std.specs.Cmp.Lexicographic.{slice_cmp}
use Rattle.std.specs.Str.{bytes_eq}
use Rattle.std.proofs.Math.Seq.{set-append_seam}
use Rattle.std.proofs.lemmas.List.{length-append}
use Rattle.std.proofs.lemmas.List.Sums.{fold-append}
use Rattle.std.proofs.lemmas.Slice.Eq.{bytes_eq-Decides}
use Rattle.cells.specs.declared.run.Run.{Run}
use Rattle.cells.specs.Runs.{Pair, pairs_of}
use Rattle.chunk_cache.specs.Snapshot.{SnapshotCells}
use Rattle.rebase_writes.specs.Runs.{shown_at}
use Rattle.rebase_writes.specs.Staged.{staged_at}
use Rattle.stack_driver.specs.Targets.{outwards}
use Rattle.transaction_cells.specs.Casting.{casts_at}
use Rattle.transaction_cells.specs.Gathered.{AreChunksOf, word_of, chunk_word, kept_word, shown_word, taken_out, runs_read, runs_shown, FitsChunk, FitsStaged, pieces_gathered, FitPieces}
use Rattle.transaction_cells.specs.Lanes.{LaneSeen}
use Rattle.transaction_cells.specs.Pieces.{IsPiece, ids_of}
use Rattle.transaction_cells.specs.Sites.{Site, pairs_at}
use Rattle.transaction_cells.specs.Staging.{StagedChunk, staged_of}
use Rattle.transaction_cells.specs.declared.view_cells.Piece.{Piece}
use Rattle.transaction_cells.proofs.NeedLaws.{piece_pairs}
use Rattle.transaction_cells.proofs.WrittenLaws.{AreOthers, others_behind}

-- a word for each site, by the one that was there
abbrev pub each_site : (Site → ℕ → ℕ) → List Site → List ℕ → List ℕ
each_site f [] out = []
each_site f (s ∷ sites) [] = []
each_site f (s ∷ sites) (o ∷ out) = f s o ∷ each_site f sites out

length-each_site : (f : Site → ℕ → ℕ) (sites : List Site) (out : List ℕ) → length out ≡ length sites → length (each_site f sites out) ≡ length sites
length-each_site f [] out count = refl
length-each_site f (s ∷ sites) [] count = absurd (omega (arith, count))
length-each_site f (s ∷ sites) (o ∷ out) count = ap suc (length-each_site f sites out (omega (arith, count)))

each_site-same : (f : Site → ℕ → ℕ) (sites : List Site) (out : List ℕ) → ((s : Site) (o : ℕ) → f s o ≡ o) → length out ≡ length sites → each_site f sites out ≡ out
each_site-same f [] [] same count = refl
each_site-same f [] (o ∷ out) same count = absurd (omega (arith, count))
each_site-same f (s ∷ sites) [] same count = absurd (omega (arith, count))
each_site-same f (s ∷ sites) (o ∷ out) same count = (λ i. same s o i ∷ each_site-same f sites out same (omega (arith, count)) i)

each_site-twice : (f g : Site → ℕ → ℕ) (sites : List Site) (out : List ℕ) → each_site f sites (each_site g sites out) ≡ each_site (λ s o. f s (g s o)) sites out
each_site-twice f g [] out = refl
each_site-twice f g (s ∷ sites) [] = refl
each_site-twice f g (s ∷ sites) (o ∷ out) = ap (λ xs. f s (g s o) ∷ xs) (each_site-twice f g sites out)

each_site-alike : (f g : Site → ℕ → ℕ) (sites : List Site) (out : List ℕ) → ((s : Site) (o : ℕ) → f s o ≡ g s o) → each_site f sites out ≡ each_site g sites out
each_site-alike f g [] out same = refl
each_site-alike f g (s ∷ sites) [] same = refl
each_site-alike f g (s ∷ sites) (o ∷ out) same = (λ i. same s o i ∷ each_site-alike f g sites out same i)

-- a step for each pair of a chunk changes the cells of its sites
module _ (id : List ℕ) (step : List ℕ → Pair → List ℕ) (to : ℕ → ℕ → ℕ)
    (one : (front : List ℕ) (o : ℕ) (out : List ℕ) (place : ℕ) → step (front ++ o ∷ out) (record { view = length front; chunk = place }) ≡ front ++ to place o ∷ out) where
  abbrev changed : Site → ℕ → ℕ
  changed s o = cond (bytes_eq s.id id) (to s.place o) o

  by_sites : (k : ℕ) (front : List ℕ) (sites : List Site) (out : List ℕ) → length front ≡ k → length out ≡ length sites → fold step (front ++ out) (pairs_at id k sites) ≡ front ++ each_site changed sites out
  by_sites k front [] [] here count = refl
  by_sites k front [] (o ∷ out) here count = absurd (omega (arith, count))
  by_sites k front (s ∷ sites) [] here count = absurd (omega (arith, count))
  by_sites k front (s ∷ sites) (o ∷ out) here count =
      told (bytes_eq s.id id) (λ w. by_sites (k + 1) (front ++ w ∷ []) sites out (longer w) (omega (arith, count)))
    where
      longer : (w : ℕ) → length (front ++ w ∷ []) ≡ k + 1
      longer w = let more = length-append front (w ∷ []) in omega (arith, more, here)

      told : (b : Bool) → ((w : ℕ) → fold step ((front ++ w ∷ []) ++ out) (pairs_at id (k + 1) sites) ≡ (front ++ w ∷ []) ++ each_site changed sites out)
          → fold step (front ++ o ∷ out) (cond b (record { view = k; chunk = s.place } ∷ pairs_at id (k + 1) sites) (pairs_at id (k + 1) sites))
          ≡ front ++ cond b (to s.place o) o ∷ each_site changed sites out
      told true rest =
          ap (λ xs. fold step xs (pairs_at id (k + 1) sites)) ((λ i. step (front ++ o ∷ out) (record { view = sym here i; chunk = s.place })) ∙ one front o out s.place ∙ sym (append_assoc front (to s.place o ∷ []) out))
          ∙ rest (to s.place o) ∙ append_assoc front (to s.place o ∷ []) (each_site changed sites out)
      told false rest =
          ap (λ xs. fold step xs (pairs_at id (k + 1) sites)) (sym (append_assoc front (o ∷ []) out))
          ∙ rest o ∙ append_assoc front (o ∷ []) (each_site changed sites out)

-- along runs as along their pairs
fold_runs : (step : List ℕ → Pair → List ℕ) (runs : List Run) (out : List ℕ) → fold (λ shown run. fold step shown (pairs_of run)) out runs ≡ fold step out (flat_map pairs_of runs)
fold_runs step [] out = refl
fold_runs step (run ∷ runs) out = fold_runs step runs (fold step out (pairs_of run)) ∙ sym (fold-append step out (pairs_of run) (flat_map pairs_of runs))

no_change : (b : Bool) (o : ℕ) → cond b o o ≡ o
no_change true o = refl
no_change false o = refl

-- a piece, with its chunk
module _ (sites : List Site) (p : Piece) (h : IsPiece sites p) (out : List ℕ) (count : length out ≡ length sites) where
  abbrev read_at : Option SnapshotCells → Site → ℕ → ℕ
  read_at chunk s o = cond (bytes_eq s.id p.id) (unwrap_or (word_of chunk s.place) o) o

  piece_read : (chunk : Option SnapshotCells) → runs_read p.runs chunk out ≡ each_site (read_at chunk) sites out
  piece_read None = sym (each_site-same (read_at None) sites out (λ s o. no_change (bytes_eq s.id p.id) o) count)
  piece_read (Some chunk) =
      let words = chunk.cells.words in
      let step = λ (shown : List ℕ) (pair : Pair). set shown pair.view (get_or words pair.chunk 0) in
      fold_runs step p.runs out ∙ ap (fold step out) (piece_pairs sites p h)
      ∙ by_sites p.id step (λ place o. get_or words place 0) (λ front o rest place. set-append_seam front o rest (get_or words place 0)) 0 [] sites out refl count

  abbrev shown_over : Option (List (Option ℕ)) → Site → ℕ → ℕ
  shown_over cells s o = cond (bytes_eq s.id p.id) (unwrap_or (staged_at (unwrap_or cells []) s.place) o) o

  piece_shown : (cells : Option (List (Option ℕ))) → runs_shown p.runs cells out ≡ each_site (shown_over cells) sites out
  piece_shown None = sym (each_site-same (shown_over None) sites out (λ s o. no_change (bytes_eq s.id p.id) o) count)
  piece_shown (Some cells) =
      let step = λ (shown : List ℕ) (pair : Pair). shown_at shown pair.view (staged_at cells pair.chunk) in
      fold_runs step p.runs out ∙ ap (fold step out) (piece_pairs sites p h)
      ∙ by_sites p.id step (λ place o. unwrap_or (staged_at cells place) o) (λ front o rest place. one front o rest (staged_at cells place)) 0 [] sites out refl count
    where
      one : (front : List ℕ) (o : ℕ) (rest : List ℕ) (word : Option ℕ) → shown_at (front ++ o ∷ rest) (length front) word ≡ front ++ unwrap_or word o ∷ rest
      one front o rest None = refl
      one front o rest (Some w) = set-append_seam front o rest w

-- all pieces, one after another
module _ (staged : List ℕ → Option (List (Option ℕ))) where
  abbrev cell_of : Piece → Option SnapshotCells → Site → ℕ → ℕ
  cell_of p chunk s o = cond (bytes_eq s.id p.id) (unwrap_or (staged_at (unwrap_or (staged p.id) []) s.place) (unwrap_or (word_of chunk s.place) o)) o

  abbrev pub cell_gathered : List Piece → List (Option SnapshotCells) → Site → ℕ → ℕ
  cell_gathered [] chunks s o = o
  cell_gathered (p ∷ pieces) [] s o = o
  cell_gathered (p ∷ pieces) (chunk ∷ chunks) s o = cell_gathered pieces chunks s (cell_of p chunk s o)

  piece_gathered : (sites : List Site) (p : Piece) (chunk : Option SnapshotCells) (out : List ℕ) → IsPiece sites p → length out ≡ length sites
      → runs_shown p.runs (staged p.id) (runs_read p.runs chunk out) ≡ each_site (cell_of p chunk) sites out
  piece_gathered sites p chunk out h count =
      let reads = λ (s : Site) (o : ℕ). cond (bytes_eq s.id p.id) (unwrap_or (word_of chunk s.place) o) o in
      let shows = λ (s : Site) (o : ℕ). cond (bytes_eq s.id p.id) (unwrap_or (staged_at (unwrap_or (staged p.id) []) s.place) o) o in
      ap (runs_shown p.runs (staged p.id)) (piece_read sites p h out count chunk)
      ∙ piece_shown sites p h (each_site reads sites out) (length-each_site reads sites out count) (staged p.id)
      ∙ each_site-twice shows reads sites out
      ∙ each_site-alike (λ s o. shows s (reads s o)) (cell_of p chunk) sites out (λ s o. both (bytes_eq s.id p.id) (staged_at (unwrap_or (staged p.id) []) s.place) (word_of chunk s.place) o)
    where
      both : (b : Bool) (over under : Option ℕ) (o : ℕ) → cond b (unwrap_or over (cond b (unwrap_or under o) o)) (cond b (unwrap_or under o) o) ≡ cond b (unwrap_or over (unwrap_or under o)) o
      both true over under o = refl
      both false over under o = refl

  pub all_gathered : (sites : List Site) (pieces : List Piece) (chunks : List (Option SnapshotCells)) (out : List ℕ) → AllByRecursion (IsPiece sites) pieces → length out ≡ length sites
      → pieces_gathered staged pieces chunks out ≡ each_site (cell_gathered pieces chunks) sites out
  all_gathered sites [] chunks out all count = sym (each_site-same (cell_gathered [] chunks) sites out (λ s o. refl) count)
  all_gathered sites (p ∷ pieces) [] out all count = sym (each_site-same (cell_gathered (p ∷ pieces) []) sites out (λ s o. refl) count)
  all_gathered sites (p ∷ pieces) (chunk ∷ chunks) out all count =
      ap (pieces_gathered staged pieces chunks) (piece_gathered sites p chunk out all.0 count)
      ∙ all_gathered sites pieces chunks (each_site (cell_of p chunk) sites out) all.1 (length-each_site (cell_of p chunk) sites out count)
      ∙ each_site-twice (cell_gathered pieces chunks) (cell_of p chunk) sites out

  -- pieces of other chunks leave a cell
  others_gathered : (pieces : List Piece) (chunks : List (Option SnapshotCells)) (s : Site) (o : ℕ) → AllByRecursion (λ (q : Piece). bytes_eq s.id q.id ≡ false) pieces → cell_gathered pieces chunks s o ≡ o
  others_gathered [] chunks s o all = refl
  others_gathered (p ∷ pieces) [] s o all = refl
  others_gathered (p ∷ pieces) (chunk ∷ chunks) s o all =
      ap (cell_gathered pieces chunks s) (ap (λ b. cond b (unwrap_or (staged_at (unwrap_or (staged p.id) []) s.place) (unwrap_or (word_of chunk s.place) o)) o) all.0)
      ∙ others_gathered pieces chunks s o all.1

  turned : (id : List ℕ) (s : Site) (pieces : List Piece) → s.id ≡ id → AreOthers id pieces → AllByRecursion (λ (q : Piece). bytes_eq s.id q.id ≡ false) pieces
  turned id s [] same h = tt
  turned id s (q ∷ pieces) same h = (by (bytes_eq s.id q.id) refl, turned id s pieces same h.1)
    where
      by : (b : Bool) → bytes_eq s.id q.id ≡ b → b ≡ false
      by false e = refl
      by true e =
          let is : s.id ≡ q.id = (bytes_eq-Decides s.id q.id).0 e in
          let clash : true ≡ false = sym ((bytes_eq-Decides q.id id).1 (sym is ∙ same)) ∙ h.0 in absurd (let no_such : ⊥ = cc in no_such)

  -- a cell has what its own piece puts
  pub own_gathered : (pieces : List Piece) (chunks : List (Option SnapshotCells)) (s : Site) (o : ℕ) → IsStrictlySortedBy (slice_cmp nat_cmp) (ids_of pieces) → AreChunksOf pieces chunks → Contains (ids_of pieces) s.id
      → cell_gathered pieces chunks s o ≡ unwrap_or (staged_at (unwrap_or (staged s.id) []) s.place) (unwrap_or (chunk_word pieces chunks s.id s.place) o)
  unfolding IsStrictlySortedBy
  own_gathered [] chunks s o sorted are there = absurd (omega (arith, there.1))
  own_gathered (p ∷ pieces) [] s o sorted are there = absurd are
  own_gathered (p ∷ pieces) (chunk ∷ chunks) s o sorted are there = told (bytes_eq s.id p.id) refl (λ e. own_gathered pieces chunks s o sorted.1 are.1 (behind e there))
    where
      behind : bytes_eq s.id p.id ≡ false → Contains (ids_of (p ∷ pieces)) s.id → Contains (ids_of pieces) s.id
      behind e (zero, lt, is) = let clash : true ≡ false = sym ((bytes_eq-Decides s.id p.id).1 (sym is)) ∙ e in absurd (let no_such : ⊥ = cc in no_such)
      behind e (suc k, lt, is) = (k, omega (arith, lt), is)

      told : (b : Bool) → bytes_eq s.id p.id ≡ b
          → (bytes_eq s.id p.id ≡ false → cell_gathered pieces chunks s o ≡ unwrap_or (staged_at (unwrap_or (staged s.id) []) s.place) (unwrap_or (chunk_word pieces chunks s.id s.place) o))
          → cell_gathered pieces chunks s (cond b (unwrap_or (staged_at (unwrap_or (staged p.id) []) s.place) (unwrap_or (word_of chunk s.place) o)) o)
          ≡ unwrap_or (staged_at (unwrap_or (staged s.id) []) s.place) (unwrap_or (cond b (word_of chunk s.place) (chunk_word pieces chunks s.id s.place)) o)
      told true e rest =
          let same : s.id ≡ p.id = (bytes_eq-Decides s.id p.id).0 e in
          others_gathered pieces chunks s (unwrap_or (staged_at (unwrap_or (staged p.id) []) s.place) (unwrap_or (word_of chunk s.place) o)) (turned p.id s pieces same (others_behind p.id pieces sorted.0))
          ∙ ap (λ xs. unwrap_or (staged_at (unwrap_or (staged xs) []) s.place) (unwrap_or (word_of chunk s.place) o)) (sym same)
      told false e rest = rest e

  -- all cells, where nothing was before
  pub kept_words_of : (all sites : List Site) (table : List StagedChunk) (pieces : List Piece) (chunks : List (Option SnapshotCells)) → ((id : List ℕ) → staged id ≡ staged_of table id) → IsStrictlySortedBy (slice_cmp nat_cmp) (ids_of pieces) → AreChunksOf pieces chunks
      → AllByRecursion (λ (s : Site). Contains (ids_of pieces) s.id) sites → each_site (cell_gathered pieces chunks) sites (replicate (length sites) 0) ≡ map (kept_word table pieces chunks) sites
  kept_words_of all [] table pieces chunks is sorted are there = refl
  kept_words_of all (s ∷ sites) table pieces chunks is sorted are there =
      (λ i. (own_gathered pieces chunks s 0 sorted are there.0 ∙ ap (λ o. unwrap_or (staged_at (unwrap_or o []) s.place) (unwrap_or (chunk_word pieces chunks s.id s.place) 0)) (is s.id)) i
      ∷ kept_words_of all sites table pieces chunks is sorted are there.1 i)

-- taken outwards
pub out_words : (table : List StagedChunk) (pieces : List Piece) (chunks : List (Option SnapshotCells)) (sites : List Site) (lanes : List LaneSeen) (leaves : List ℕ) → map (λ (s : Site). s.target.casts) sites ≡ map (casts_at lanes) leaves
    → taken_out lanes leaves (map (kept_word table pieces chunks) sites) ≡ map (shown_word table pieces chunks) sites
out_words table pieces chunks [] lanes [] same = refl
out_words table pieces chunks [] lanes (leaf ∷ leaves) same = absurd (let no_such : ⊥ = cc in no_such)
out_words table pieces chunks (s ∷ sites) lanes [] same = absurd (let no_such : ⊥ = cc in no_such)
out_words table pieces chunks (s ∷ sites) lanes (leaf ∷ leaves) same =
    let first : s.target.casts ≡ casts_at lanes leaf = cc in
    let rest : map (λ (t : Site). t.target.casts) sites ≡ map (casts_at lanes) leaves = cc in
    (λ i. outwards (sym first i) (kept_word table pieces chunks s) ∷ out_words table pieces chunks sites lanes leaves rest i)

-- the next of some pieces
module _ (staged : List ℕ → Option (List (Option ℕ))) (d : Piece) (e : Option SnapshotCells) where
  later : (k : ℕ) → suc k + 1 ≡ suc (k + 1)
  later k = omega arith

  none_left : (k : ℕ) → drop {A = Option SnapshotCells} k [] ≡ []
  none_left zero = refl
  none_left (suc k) = refl

  pub next_fits : (count : ℕ) (pieces : List Piece) (chunks : List (Option SnapshotCells)) (k : ℕ) → k < length pieces → FitPieces staged count (drop k pieces) (drop k chunks)
      → (k < length chunks) × FitsChunk (get_or pieces k d).runs count (get_or chunks k e) × FitsStaged (get_or pieces k d).runs count (staged (get_or pieces k d).id) × FitPieces staged count (drop (k + 1) pieces) (drop (k + 1) chunks)
  next_fits count [] chunks k lt h = absurd (omega (arith, lt))
  next_fits count (p ∷ pieces) [] zero lt h = absurd h
  next_fits count (p ∷ pieces) (chunk ∷ chunks) zero lt h = (omega arith, h.0, h.1, h.2)
  next_fits count (p ∷ pieces) [] (suc k) lt h = let rest = next_fits count pieces [] k (omega (arith, lt)) (subst (FitPieces staged count (drop k pieces)) (none_left (suc k) ∙ sym (none_left k)) h) in absurd (let none = rest.0 in omega (arith, none))
  next_fits count (p ∷ pieces) (chunk ∷ chunks) (suc k) lt h =
      let rest = next_fits count pieces chunks k (omega (arith, lt)) h in (
        let below = rest.0 in omega (arith, below),
        rest.1,
        rest.2,
        subst (λ n. FitPieces staged count (drop n (p ∷ pieces)) (drop n (chunk ∷ chunks))) (sym (later k)) rest.3,
      )

  pub next_gathered : (pieces : List Piece) (chunks : List (Option SnapshotCells)) (k : ℕ) (out : List ℕ) → k < length pieces → k < length chunks
      → pieces_gathered staged (drop k pieces) (drop k chunks) out
      ≡ pieces_gathered staged (drop (k + 1) pieces) (drop (k + 1) chunks) (runs_shown (get_or pieces k d).runs (staged (get_or pieces k d).id) (runs_read (get_or pieces k d).runs (get_or chunks k e) out))
  next_gathered [] chunks k out lt below = absurd (omega (arith, lt))
  next_gathered (p ∷ pieces) [] k out lt below = absurd (omega (arith, below))
  next_gathered (p ∷ pieces) (chunk ∷ chunks) zero out lt below = refl
  next_gathered (p ∷ pieces) (chunk ∷ chunks) (suc k) out lt below =
      next_gathered pieces chunks k out (omega (arith, lt)) (omega (arith, below))
      ∙ ap (λ n. pieces_gathered staged (drop n (p ∷ pieces)) (drop n (chunk ∷ chunks)) (runs_shown (get_or pieces k d).runs (staged (get_or pieces k d).id) (runs_read (get_or pieces k d).runs (get_or chunks k e) out))) (sym (later k))
