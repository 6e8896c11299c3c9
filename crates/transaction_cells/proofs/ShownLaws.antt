-- What a view shows is what its operations wrote, over a content.
use Rattle.std.proofs.Common.{◌≡◌, ◌∙◌, ℕ, ◌≤◌, ◌<◌, not, Bool, true, false, cond, List, [], ◌∷◌, length, map, replicate, Option, Some, None, Ok, refl, sym, ap, subst, unwrap_or}
use Rattle.std.specs.Prelude.{is_some, filter, filter_map}
use Rattle.std.specs.List.{AllByRecursion, fold}
use Rattle.std.specs.Option.{option_map}
use Rattle.std.proofs.lemmas.List.{length-replicate}
use Rattle.chunk_cache.specs.Snapshot.{SnapshotCells}
use Rattle.history.specs.Chunks.{chunk_of, chunk_in}
use Rattle.history.specs.History.{History}
use Rattle.history.specs.Reads.{is_put, target_cell, unwritten}
use Rattle.history.specs.Writes.{Put, Content, put, puts_of, written, shown_in, read_values}
use Rattle.history.specs.declared.event.Op.{Op}
use Rattle.stack_driver.specs.Targets.{Cell, is_cell, outwards}
use Rattle.stack_driver.specs.declared.view.View.{View}
use Rattle.stack_targets.specs.Landings.{leaves_of}
use Rattle.transaction_cells.specs.Gathered.{AreChunksOf, chunk_word, kept_word, shown_word, place_in, IsTold, FitsChunk, FitsStaged, FitPieces}
use Rattle.transaction_cells.specs.Operations.{AreStaged, HasSites, IsLeafIn, no_content}
use Rattle.transaction_cells.specs.Pieces.{IsPiece}
use Rattle.transaction_cells.specs.Sites.{Site, sites_of, id_of}
use Rattle.transaction_cells.specs.Staging.{StagedChunk, staged_of, word_in, IsSized}
use Rattle.transaction_cells.specs.Tables.{HasRoom}
use Rattle.transaction_cells.specs.declared.view_cells.Piece.{Piece}
use Rattle.transaction_cells.proofs.OperationLaws.{IsSiteIn, known_sites, some_put, named_cells}
use Rattle.transaction_cells.proofs.StagingLaws.{room_same}
use Rattle.transaction_cells.proofs.WrittenLaws.{room_of, site_with, both_of}

-- a word, or another where there is none
abbrev over_none : Option ℕ → Option ℕ → Option ℕ
over_none None under = under
over_none (Some w) under = Some w

-- words that are put over a content
put_over : (ps : List Put) (f g : Content) (x : Cell) (under : Option ℕ) → f x ≡ over_none (g x) under → fold put f ps x ≡ over_none (fold put g ps x) under
put_over [] f g x under is = is
put_over (p ∷ ps) f g x under is = put_over ps (put f p) (put g p) x under (told (is_cell p.0 x))
  where
    told : (b : Bool) → cond b (Some p.1) (f x) ≡ over_none (cond b (Some p.1) (g x)) under
    told true = refl
    told false = is

-- the word of a cell, by what is staged and its chunk
module _ (events : History) (content : Content) (pieces : List Piece) (chunks : List (Option SnapshotCells)) (ops : List Op) (staged : List StagedChunk) (h : AreStaged events ops staged) where
  kept_is : (s : Site) → IsSiteIn events s → (is_put (puts_of ops) s.target.cell ≡ false → IsTold events content pieces chunks s.target.cell) → written ops content s.target.cell ≡ Some (kept_word staged pieces chunks s)
  kept_is s is told = by (written ops no_content x) refl
    where
      x : Cell
      x = s.target.cell

      word : word_in staged s.id s.place ≡ written ops no_content s.target.cell
      word = (λ i. word_in staged (is.id i) (is.place i)) ∙ h.words s.target.cell is.array is.known is.rank

      over : written ops content s.target.cell ≡ over_none (written ops no_content s.target.cell) (content s.target.cell)
      over = put_over (puts_of ops) content no_content s.target.cell (content s.target.cell) refl

      named : id_of (chunk_of events s.target.cell) ≡ s.id
      named = sym (is.id ∙ sym (ap (λ o. id_of (chunk_in o s.target.cell)) is.known))

      placed : place_in (Some is.array) s.target.cell ≡ s.place
      placed = sym is.place

      by : (o : Option ℕ) → written ops no_content s.target.cell ≡ o → written ops content s.target.cell ≡ Some (kept_word staged pieces chunks s)
      by (Some w) e =
          over ∙ ap (λ o. over_none o (content s.target.cell)) e
          ∙ sym (ap (λ o. Some (unwrap_or o (unwrap_or (chunk_word pieces chunks s.id s.place) 0))) (word ∙ e))
      by None e =
          let none : is_put (puts_of ops) s.target.cell ≡ false = sym (some_put (puts_of ops) no_content s.target.cell) ∙ ap is_some e in
          let t = told none in
          let there : chunk_word pieces chunks s.id s.place ≡ Some t.word =
          sym ((λ i. chunk_word pieces chunks (named i) (place_in (is.known i) s.target.cell)) ∙ ap (chunk_word pieces chunks s.id) placed) ∙ t.in_chunk in
          over ∙ ap (λ o. over_none o (content s.target.cell)) e ∙ t.in_content
          ∙ sym ((λ i. Some (unwrap_or ((word ∙ e) i) (unwrap_or (chunk_word pieces chunks s.id s.place) 0))) ∙ ap (λ o. Some (unwrap_or o 0)) there)

  shown_sites : (sites : List Site) → AllByRecursion (IsSiteIn events) sites → AllByRecursion (IsTold events content pieces chunks) (filter (λ x. not (is_put (puts_of ops) x)) (map (λ (s : Site). s.target.cell) sites))
      → map Some (map (shown_word staged pieces chunks) sites) ≡ map (shown_in (written ops content)) (map (λ (s : Site). Ok s.target) sites)
  shown_sites [] all told = refl
  shown_sites (s ∷ sites) all told =
      let next = split (is_put (puts_of ops) s.target.cell) refl told in
      (λ i. ap (option_map (outwards s.target.casts)) (sym (kept_is s all.0 next.0)) i ∷ shown_sites sites all.1 next.1 i)
    where
      split : (b : Bool) → is_put (puts_of ops) s.target.cell ≡ b
          → AllByRecursion (IsTold events content pieces chunks) (cond (not b) (s.target.cell ∷ filter (λ x. not (is_put (puts_of ops) x)) (map (λ (t : Site). t.target.cell) sites)) (filter (λ x. not (is_put (puts_of ops) x)) (map (λ (t : Site). t.target.cell) sites)))
          → (is_put (puts_of ops) s.target.cell ≡ false → IsTold events content pieces chunks s.target.cell) × AllByRecursion (IsTold events content pieces chunks) (filter (λ x. not (is_put (puts_of ops) x)) (map (λ (t : Site). t.target.cell) sites))
      split true e all = (λ none. let clash : true ≡ false = sym e ∙ none in absurd (let no_such : ⊥ = cc in no_such), all)
      split false e all = (λ none. all.0, all.1)

  -- a view shows what its operations wrote, over a content that the chunks tell
  pub shown_view : (v : View) → AllByRecursion (IsLeafIn events) (leaves_of v) → HasSites v → AllByRecursion (IsTold events content pieces chunks) (unwritten ops v)
      → map Some (map (shown_word staged pieces chunks) (sites_of v)) ≡ read_values (written ops content) v
  shown_view v leaves has told =
      shown_sites (sites_of v) (known_sites events v leaves has.grids)
      (subst (λ xs. AllByRecursion (IsTold events content pieces chunks) (filter (λ x. not (is_put (puts_of ops) x)) xs)) (ap (filter_map target_cell) has.targets ∙ named_cells (sites_of v)) told)
      ∙ sym (ap (map (shown_in (written ops content))) has.targets)

-- the runs of pieces lie in their chunks, and in what is staged of these
module _ (sites : List Site) (staged : List StagedChunk) (n : ℕ) (few : length sites ≤ n) (sized : AllByRecursion (IsSized staged) sites) (inside : AllByRecursion (λ (s : Site). s.place < s.size) sites) where
  staged_size : (p : Piece) → IsPiece sites p → (c : List (Option ℕ)) → staged_of staged p.id ≡ Some c → length c ≡ p.size
  staged_size p h c is =
      let site = site_with p.id 0 sites (λ (s : Site). IsSized staged s × (s.id ≡ p.id → s.size ≡ p.size)) h.some (both_of (IsSized staged) (λ (s : Site). s.id ≡ p.id → s.size ≡ p.size) sites sized h.size) in
      site.1.0 c (ap (staged_of staged) site.2 ∙ is) ∙ site.1.1 site.2

  staged_fits : (p : Piece) → IsPiece sites p → FitsStaged p.runs n (staged_of staged p.id)
  staged_fits p h = by (staged_of staged p.id) (room_of sites p n (staged_of staged p.id) h few inside (staged_size p h))
    where
      by : (o : Option (List (Option ℕ))) → HasRoom p.runs n (Some (unwrap_or o (replicate p.size None))) → FitsStaged p.runs n o
      by None room = tt
      by (Some c) room = room

  chunk_fits : (p : Piece) (chunk : SnapshotCells) → IsPiece sites p → length chunk.cells.words ≡ p.size → FitsChunk p.runs n (Some chunk)
  chunk_fits p chunk h size =
      room_same p.runs n (length (replicate p.size None)) (length chunk.cells.words) (length-replicate p.size None ∙ sym size)
      (room_of sites p n None h few inside (λ c is. absurd (let no_such : ⊥ = cc in no_such)))

  pub pieces_fit : (f : List ℕ → Option (List (Option ℕ))) (pieces : List Piece) (chunks : List (Option SnapshotCells)) → ((id : List ℕ) → staged_of staged id ≡ f id) → AllByRecursion (IsPiece sites) pieces → AreChunksOf pieces chunks → FitPieces f n pieces chunks
  pieces_fit f [] chunks is all are = tt
  pieces_fit f (p ∷ pieces) [] is all are = absurd are
  pieces_fit f (p ∷ pieces) (None ∷ chunks) is all are = (tt, subst (FitsStaged p.runs n) (is p.id) (staged_fits p all.0), pieces_fit f pieces chunks is all.1 are.1)
  pieces_fit f (p ∷ pieces) (Some chunk ∷ chunks) is all are =
      (chunk_fits p chunk all.0 are.0, subst (FitsStaged p.runs n) (is p.id) (staged_fits p all.0), pieces_fit f pieces chunks is all.1 are.1)
