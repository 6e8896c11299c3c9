-- Staged cells of chunks after a write.
use Rattle.std.proofs.Common.{◌≡◌, ◌∙◌, ℕ, zero, suc, ◌+◌, ◌<◌, Bool, true, false, cond, List, [], ◌∷◌, length, map, drop, set, get_or, replicate, Option, Some, None, refl, sym, ap, subst, unwrap_or}
use Rattle.std.specs.Prelude.{IsSome, is_some}
use Rattle.std.specs.List.{AllByRecursion, IsDistinct}
use Rattle.std.specs.Ordering.{eq_by_cmp}
use Rattle.std.specs.Option.{option_map}
use Rattle.std.specs.Str.{bytes_eq}
use Rattle.std.proofs.lemmas.Slice.Eq.{bytes_eq-Decides}
use Rattle.cells.specs.declared.run.Run.{Run}
use Rattle.cells.specs.Runs.{Pair, pairs_of, IsRunInside}
use Rattle.rebase_writes.specs.Runs.{pairs_written}
use Rattle.rebase_writes.specs.Staged.{staged_at}
use Rattle.transaction_cells.specs.Found.{Id, by_id, found}
use Rattle.transaction_cells.specs.Staging.{StagedChunk, chunks_of, staged_of}
use Rattle.transaction_cells.specs.Tables.{prepared, HasSameWords, runs_written, pieces_written, HasRoom, MayWrite}
use Rattle.transaction_cells.specs.declared.view_cells.Piece.{Piece}
use Rattle.std.proofs.lemmas.Map.Text.{is_eq-slice_cmp}
use Rattle.std.proofs.lemmas.List.{length-set, at_drop_more}

-- a table's chunks by their ids
pub staged_found : (es : List (Id × List (Option ℕ))) (id : List ℕ) → staged_of (chunks_of es) id ≡ found es id
staged_found [] id = refl
staged_found (e ∷ es) id = (λ i. cond (sym (is_eq-slice_cmp id e.0.items) i) (Some e.1) (staged_found es id i))

-- a write keeps the size
pub length-pairs_written : (ps : List Pair) (words : List ℕ) (cells : List (Option ℕ)) → length (pairs_written ps words cells) ≡ length cells
length-pairs_written [] words cells = refl
length-pairs_written (p ∷ ps) words cells = length-pairs_written ps words (set cells p.chunk (Some (get_or words p.view 0))) ∙ length-set cells p.chunk (Some (get_or words p.view 0))

pub length-runs_written : (runs : List Run) (words : List ℕ) (cells : List (Option ℕ)) → length (runs_written runs words cells) ≡ length cells
length-runs_written [] words cells = refl
length-runs_written (run ∷ runs) words cells = length-runs_written runs words (pairs_written (pairs_of run) words cells) ∙ length-pairs_written (pairs_of run) words cells

-- room for runs goes with the size
pub room_same : (runs : List Run) (count n m : ℕ) → n ≡ m → AllByRecursion (λ run. IsRunInside run count n) runs → AllByRecursion (λ run. IsRunInside run count m) runs
room_same runs count n m e h = subst (λ k. AllByRecursion (λ run. IsRunInside run count k) runs) e h

room_after : (runs more : List Run) (words : List ℕ) (count : ℕ) (cells : Option (List (Option ℕ))) → HasRoom runs count cells → HasRoom runs count (option_map (runs_written more words) cells)
room_after runs more words count None h = h
room_after runs more words count (Some cells) h = room_same runs count (length cells) (length (runs_written more words cells)) (sym (length-runs_written more words cells)) h

-- one piece more is written
abbrev pub after_piece : Piece → List ℕ → List ℕ → Option (List (Option ℕ)) → Option (List (Option ℕ))
after_piece p id words cells = cond (bytes_eq p.id id) (option_map (runs_written p.runs words) cells) cells

room_piece : (q : Piece) (p : Piece) (words : List ℕ) (count : ℕ) (b : Bool) (cells : Option (List (Option ℕ))) → HasRoom q.runs count cells → HasRoom q.runs count (cond b (option_map (runs_written p.runs words) cells) cells)
room_piece q p words count true cells h = room_after q.runs p.runs words count cells h
room_piece q p words count false cells h = h

pub may_after : (p : Piece) (pieces : List Piece) (id words : List ℕ) (count : ℕ) (cells : Option (List (Option ℕ))) → MayWrite pieces id count cells → MayWrite pieces id count (after_piece p id words cells)
may_after p [] id words count cells h = tt
may_after p (q ∷ pieces) id words count cells h = (λ is. room_piece q p words count (bytes_eq p.id id) cells (h.0 is), may_after p pieces id words count cells h.1)

-- what is written through a loan
pub written_piece : (p : Piece) (id words : List ℕ) (cells : List (Option ℕ)) (old : Option (List (Option ℕ))) → (p.id ≡ id → old ≡ Some cells)
    → cond (bytes_eq p.id id) (Some (runs_written p.runs words cells)) old ≡ after_piece p id words old
written_piece p id words cells old there = by (bytes_eq p.id id) refl
  where
    by : (b : Bool) → bytes_eq p.id id ≡ b → cond b (Some (runs_written p.runs words cells)) old ≡ cond b (option_map (runs_written p.runs words) old) old
    by true e = ap (option_map (runs_written p.runs words)) (sym (there ((bytes_eq-Decides p.id id).0 e)))
    by false e = refl

-- nothing there is no room
pub no_room : (p : Piece) (count : ℕ) (cells : Option (List (Option ℕ))) → HasRoom p.runs count cells → cells ≡ None → ⊥
no_room p count None h is = h
no_room p count (Some cells) h is = cc

no_some : (o : Option (List (Option ℕ))) → o ≡ None → IsSome o → ⊥
no_some None none some = absurd (cc)
no_some (Some cells) none some = absurd (cc)

-- an entry is there already
pub kept_prepared : (p : Piece) (id : List ℕ) (old : Option (List (Option ℕ))) → (p.id ≡ id → IsSome old) → old ≡ prepared (p ∷ []) id old
kept_prepared p id old there = by (bytes_eq p.id id) refl old there
  where
    by : (b : Bool) → bytes_eq p.id id ≡ b → (o : Option (List (Option ℕ))) → (p.id ≡ id → IsSome o) → o ≡ cond b (Some (unwrap_or o (replicate p.size None))) o
    by true e None some = absurd (no_some None refl (some ((bytes_eq-Decides p.id id).0 e)))
    by true e (Some cells) some = refl
    by false e o some = refl

-- a new one
pub new_prepared : (p : Piece) (id : List ℕ) (old : Option (List (Option ℕ))) → (p.id ≡ id → old ≡ None) → cond (bytes_eq p.id id) (Some (replicate p.size None)) old ≡ prepared (p ∷ []) id old
new_prepared p id old none = by (bytes_eq p.id id) refl
  where
    by : (b : Bool) → bytes_eq p.id id ≡ b → cond b (Some (replicate p.size None)) old ≡ cond b (Some (unwrap_or old (replicate p.size None))) old
    by true e = ap (λ o. Some (unwrap_or o (replicate p.size None))) (sym (none ((bytes_eq-Decides p.id id).0 e)))
    by false e = refl

-- no word is new
none_staged : (n place : ℕ) → staged_at (replicate n None) place ≡ None
none_staged zero place = refl
none_staged (suc n) zero = refl
none_staged (suc n) (suc place) = none_staged n place

same_new : (n : ℕ) (old : Option (List (Option ℕ))) → HasSameWords old (Some (unwrap_or old (replicate n None)))
same_new n None place = none_staged n place
same_new n (Some cells) place = refl

pub same_prepared : (p : Piece) (id : List ℕ) (old : Option (List (Option ℕ))) → HasSameWords old (prepared (p ∷ []) id old)
same_prepared p id old = by (bytes_eq p.id id)
  where
    by : (b : Bool) → HasSameWords old (cond b (Some (unwrap_or old (replicate p.size None))) old)
    by true = same_new p.size old
    by false = λ place. refl

-- the next of some pieces
module _ (pieces : List Piece) (k : ℕ) (p : Piece) (id : List ℕ) where
  pub next_may : (count : ℕ) (cells : Option (List (Option ℕ))) → k < length pieces → p ≡ get_or pieces k p → MayWrite (drop k pieces) id count cells → MayWrite (p ∷ drop (k + 1) pieces) id count cells
  next_may count cells lt is h =
      subst (λ (q : Piece). MayWrite (q ∷ drop (k + 1) pieces) id count cells) (sym is)
      (subst (λ (ps : List Piece). MayWrite ps id count cells) (at_drop_more (λ (ps : List Piece). ps) pieces k p lt) h)

  pub next_written : (words : List ℕ) (cells : Option (List (Option ℕ))) → k < length pieces → p ≡ get_or pieces k p
      → pieces_written (drop k pieces) id words cells ≡ pieces_written (drop (k + 1) pieces) id words (after_piece p id words cells)
  next_written words cells lt is =
      at_drop_more (λ (ps : List Piece). pieces_written ps id words cells) pieces k p lt
      ∙ ap (λ (q : Piece). pieces_written (q ∷ drop (k + 1) pieces) id words cells) (sym is)

  pub next_prepared : (cells : Option (List (Option ℕ))) → k < length pieces → p ≡ get_or pieces k p
      → prepared (drop k pieces) id cells ≡ prepared (drop (k + 1) pieces) id (prepared (p ∷ []) id cells)
  next_prepared cells lt is =
      at_drop_more (λ (ps : List Piece). prepared ps id cells) pieces k p lt
      ∙ ap (λ (q : Piece). prepared (q ∷ drop (k + 1) pieces) id cells) (sym is)

pub words_through : (one two three : Option (List (Option ℕ))) → HasSameWords one two → HasSameWords two three → HasSameWords one three
words_through one two three h g place = g place ∙ h place

pub none_of : (o : Option (List (Option ℕ))) → is_some o ≡ false → o ≡ None
none_of None is = refl
none_of (Some cells) is = absurd (cc)

-- ids that rise are distinct
apart_behind : (id : Id) (es : List (Id × List (Option ℕ))) → AllByRecursion (λ y. eq_by_cmp by_id id y ≡ false) (map (λ (e : Id × List (Option ℕ)). e.0) es)
    → AllByRecursion (λ other. bytes_eq id.items other ≡ false) (map (λ (c : StagedChunk). c.id) (chunks_of es))
apart_behind id [] apart = tt
apart_behind id (e ∷ es) apart = (sym (is_eq-slice_cmp id.items e.0.items) ∙ apart.0, apart_behind id es apart.1)

pub apart_ids : (es : List (Id × List (Option ℕ))) → IsDistinct (eq_by_cmp by_id) (map (λ (e : Id × List (Option ℕ)). e.0) es) → IsDistinct bytes_eq (map (λ (c : StagedChunk). c.id) (chunks_of es))
unfolding IsDistinct
apart_ids [] distinct = tt
apart_ids (e ∷ es) distinct = (apart_behind e.0 es distinct.0, apart_ids es distinct.1)
