-- The words that a view shows are of its dtype.
use Rattle.std.proofs.Common.{◌≡◌, ◌∙◌, ℕ, zero, suc, ◌<◌, Bool, true, false, cond, List, [], ◌∷◌, length, map, get_or, Option, Some, None, Result, Ok, Err, refl, sym, ap, subst, arith, unwrap_or}
use Rattle.std.specs.List.{AllByRecursion}
use Rattle.std.specs.Option.{ForSome}
use Rattle.std.specs.Str.{bytes_eq}
use Rattle.std.proofs.lemmas.List.Elements.{recursion_from_All}
use Rattle.std.proofs.lemmas.Slice.Eq.{bytes_eq-Decides}
use Rattle.cast_driver.specs.Chain.{dtype_after, word_out}
use Rattle.cast_driver.specs.declared.cast.Cast.{Cast}
use Rattle.cells.specs.Numbers.{IsWord, conv_word}
use Rattle.cells.specs.declared.dtype.Dtype.{Dtype}
use Rattle.cells.proofs.Laws.{IsWord-conv_word}
use Rattle.chunk_cache.specs.Snapshot.{SnapshotCells}
use Rattle.chunk_elements.proofs.Laws.{IsWord-zero}
use Rattle.history.specs.Arrays.{Known, known_after, chunk_shape}
use Rattle.history.specs.Chunks.{chunk_index}
use Rattle.history.specs.History.{History}
use Rattle.history.specs.declared.event.Op.{Op}
use Rattle.history.proofs.Laws.{none_is_none, some_inj}
use Rattle.index_transform.specs.Cells.{cells_of}
use Rattle.rebase_writes.specs.Staged.{staged_at}
use Rattle.stack_driver.specs.Targets.{outwards}
use Rattle.stack_driver.specs.Views.{look_of}
use Rattle.stack_driver.specs.declared.view.View.{View}
use Rattle.stack_targets.specs.Buffers.{all_landings}
use Rattle.stack_targets.specs.Landings.{Seen, Landing, leaves_of, no_leaf}
use Rattle.stack_targets.specs.declared.error.TargetsError.{TargetsError}
use Rattle.transaction_cells.specs.Gathered.{AreTypedChunks, chunk_word, kept_word, shown_word, word_of}
use Rattle.transaction_cells.specs.Lanes.{IsShownAs}
use Rattle.transaction_cells.specs.Operations.{AreStaged, HasSites, IsLeafIn}
use Rattle.transaction_cells.specs.Sites.{IsLanded, Site, site_of, sites_in, sites_of}
use Rattle.transaction_cells.specs.Staging.{StagedChunk, staged_of, word_in}
use Rattle.transaction_cells.specs.declared.view_cells.Piece.{Piece}
use Rattle.transaction_cells.proofs.OperationLaws.{IsSiteIn, known_sites}
use Rattle.transaction_cells.proofs.ToldLaws.{all_landed}

-- casts outwards lead to the last dtype
out_typed : (casts : List Cast) (base : Dtype) (word : ℕ) → IsWord base word → IsWord (dtype_after base casts) (word_out casts word)
out_typed [] base word is = is
out_typed (cast ∷ casts) base word is = out_typed casts cast.to (conv_word cast.from word cast.to) (IsWord-conv_word cast.from word cast.to)

-- a word of an array's dtype is shown as one of the view's
abbrev pub GoesOut : History → Dtype → Site → Type 0
GoesOut events dtype s = (k : Known) (w : ℕ) → known_after events s.target.cell.array ≡ Some k → IsWord k.info.dtype w → IsWord dtype (outwards s.target.casts w)

site_out : (events : History) (dtype : Dtype) (leaves : List Seen) (l : Landing) → AllByRecursion (IsLeafIn events) leaves → AllByRecursion (IsShownAs dtype) leaves → IsLanded leaves l → GoesOut events dtype (site_of leaves l)
site_out events dtype leaves l all typed landed k w known word =
    let seen = get_or leaves l.leaf no_leaf in
    let leaf : IsLeafIn events seen = leaf_at (IsLeafIn events) leaves l.leaf all landed.0 in
    let shown : IsShownAs dtype seen = leaf_at (IsShownAs dtype) leaves l.leaf typed landed.0 in
    let same : leaf.array ≡ k = some_inj leaf.array k (sym leaf.known ∙ known) in
    let kept : IsWord seen.array.dtype w = subst (λ d. IsWord d w) (sym (leaf.dtype ∙ ap (λ (a : Known). a.info.dtype) same)) word in
    subst (λ d. IsWord d (outwards seen.casts w)) shown.ends (out_typed seen.casts seen.array.dtype w kept)
  where
    leaf_at : (P : Seen → Type 0) (ls : List Seen) (n : ℕ) → AllByRecursion P ls → n < length ls → P (get_or ls n no_leaf)
    leaf_at P [] n all lt = absurd (omega (arith, lt))
    leaf_at P (s ∷ ls) zero all lt = all.0
    leaf_at P (s ∷ ls) (suc n) all lt = leaf_at P ls n all.1 (omega (arith, lt))

landings_out : (events : History) (dtype : Dtype) (leaves : List Seen) (ls : List Landing) → AllByRecursion (IsLeafIn events) leaves → AllByRecursion (IsShownAs dtype) leaves → AllByRecursion (IsLanded leaves) ls → AllByRecursion (GoesOut events dtype) (map (site_of leaves) ls)
landings_out events dtype leaves [] all typed landed = tt
landings_out events dtype leaves (l ∷ ls) all typed landed = (site_out events dtype leaves l all typed landed.0, landings_out events dtype leaves ls all typed landed.1)

sites_out : (events : History) (v : View) → AllByRecursion (IsLeafIn events) (leaves_of v) → HasSites v → AllByRecursion (GoesOut events (look_of v).dtype) (sites_of v)
sites_out events v all has = by (all_landings v) refl
  where
    by : (r : Result (List Landing) TargetsError) → all_landings v ≡ r → AllByRecursion (GoesOut events (look_of v).dtype) (sites_in (leaves_of v) r)
    by (Ok ls) is = landings_out events (look_of v).dtype (leaves_of v) ls all has.typed (all_landed v (cells_of (look_of v).dims) 0 ls is).0
    by (Err e) is = tt

-- a staged word is of the dtype
staged_typed : (dtype : Dtype) (cells : List (Option ℕ)) (place : ℕ) → AllByRecursion (λ cell. ForSome cell (IsWord dtype)) cells → ForSome (staged_at cells place) (IsWord dtype)
staged_typed dtype [] place all w is = absurd (none_is_none w is)
staged_typed dtype (c ∷ cells) zero all w is = all.0 w is
staged_typed dtype (c ∷ cells) (suc place) all w is = staged_typed dtype cells place all.1 w is

-- so is a word of a chunk
chunk_typed : (dtype : Dtype) (words : List ℕ) (place : ℕ) → AllByRecursion (IsWord dtype) words → IsWord dtype (get_or words place 0)
chunk_typed dtype [] place all = IsWord-zero dtype
chunk_typed dtype (w ∷ words) zero all = all.0
chunk_typed dtype (w ∷ words) (suc place) all = chunk_typed dtype words place all.1

module _ (events : History) (array : ℕ) (index : List ℕ) (k : Known) (known : known_after events array ≡ Some k) where
  piece_typed : (pieces : List Piece) (chunks : List (Option SnapshotCells)) (place : ℕ) → AreTypedChunks events pieces chunks → IsWord k.info.dtype (unwrap_or (chunk_word pieces chunks (array ∷ index) place) 0)
  piece_typed [] chunks place all = IsWord-zero k.info.dtype
  piece_typed (p ∷ pieces) [] place all = IsWord-zero k.info.dtype
  piece_typed (p ∷ pieces) (None ∷ chunks) place all = by (bytes_eq (array ∷ index) p.id) (piece_typed pieces chunks place all.1)
    where
      by : (b : Bool) → IsWord k.info.dtype (unwrap_or (chunk_word pieces chunks (array ∷ index) place) 0) → IsWord k.info.dtype (unwrap_or (cond b None (chunk_word pieces chunks (array ∷ index) place)) 0)
      by true rest = IsWord-zero k.info.dtype
      by false rest = rest
  piece_typed (p ∷ pieces) (Some c ∷ chunks) place all = by (bytes_eq (array ∷ index) p.id) refl (piece_typed pieces chunks place all.1)
    where
      by : (b : Bool) → bytes_eq (array ∷ index) p.id ≡ b → IsWord k.info.dtype (unwrap_or (chunk_word pieces chunks (array ∷ index) place) 0) → IsWord k.info.dtype (unwrap_or (cond b (word_of (Some c) place) (chunk_word pieces chunks (array ∷ index) place)) 0)
      by true e rest = chunk_typed k.info.dtype c.cells.words place (recursion_from_All (IsWord k.info.dtype) c.cells.words (all.0 array index k (sym ((bytes_eq-Decides (array ∷ index) p.id).0 e)) known))
      by false e rest = rest

  -- the word that is kept of a cell is of its array's dtype
  kept_typed : (staged : List StagedChunk) (ops : List Op) (pieces : List Piece) (chunks : List (Option SnapshotCells)) (place : ℕ) → AreStaged events ops staged → AreTypedChunks events pieces chunks
      → IsWord k.info.dtype (unwrap_or (word_in staged (array ∷ index) place) (unwrap_or (chunk_word pieces chunks (array ∷ index) place) 0))
  kept_typed staged ops pieces chunks place h all = by (staged_of staged (array ∷ index)) refl
    where
      under : IsWord k.info.dtype (unwrap_or (chunk_word pieces chunks (array ∷ index) place) 0)
      under = piece_typed pieces chunks place all

      over : (o : Option ℕ) → ForSome o (IsWord k.info.dtype) → IsWord k.info.dtype (unwrap_or o (unwrap_or (chunk_word pieces chunks (array ∷ index) place) 0))
      over None typed = under
      over (Some w) typed = typed w refl

      by : (o : Option (List (Option ℕ))) → staged_of staged (array ∷ index) ≡ o → IsWord k.info.dtype (unwrap_or (staged_at (unwrap_or o []) place) (unwrap_or (chunk_word pieces chunks (array ∷ index) place) 0))
      by None e = over (staged_at [] place) (staged_typed k.info.dtype [] place tt)
      by (Some cells) e = over (staged_at cells place) (staged_typed k.info.dtype cells place (recursion_from_All (λ cell. ForSome cell (IsWord k.info.dtype)) cells (h.typed array index k cells known e)))

-- so the words that are shown are of the view's
module _ (events : History) (dtype : Dtype) (staged : List StagedChunk) (ops : List Op) (pieces : List Piece) (chunks : List (Option SnapshotCells)) (h : AreStaged events ops staged) (all : AreTypedChunks events pieces chunks) where
  site_shown : (s : Site) → IsSiteIn events s → GoesOut events dtype s → IsWord dtype (shown_word staged pieces chunks s)
  site_shown s is out =
      out is.array (kept_word staged pieces chunks s) is.known
      (subst (λ id. IsWord is.array.info.dtype (unwrap_or (word_in staged id s.place) (unwrap_or (chunk_word pieces chunks id s.place) 0))) (sym is.id)
      (kept_typed events s.target.cell.array (chunk_index (chunk_shape is.array.info) s.target.cell.index) is.array is.known staged ops pieces chunks s.place h all))

  all_shown : (sites : List Site) → AllByRecursion (IsSiteIn events) sites → AllByRecursion (GoesOut events dtype) sites → AllByRecursion (IsWord dtype) (map (shown_word staged pieces chunks) sites)
  all_shown [] is out = tt
  all_shown (s ∷ sites) is out = (site_shown s is.0 out.0, all_shown sites is.1 out.1)

pub shown_typed : (events : History) (v : View) (ops : List Op) (staged : List StagedChunk) (pieces : List Piece) (chunks : List (Option SnapshotCells)) → AllByRecursion (IsLeafIn events) (leaves_of v) → HasSites v → AreStaged events ops staged → AreTypedChunks events pieces chunks
    → AllByRecursion (IsWord (look_of v).dtype) (map (shown_word staged pieces chunks) (sites_of v))
shown_typed events v ops staged pieces chunks leaves has h all = all_shown events (look_of v).dtype staged ops pieces chunks h all (sites_of v) (known_sites events v leaves has.grids) (sites_out events v leaves has)
