-- What is kept behind a piece, behind all pieces, and behind an operation.
use Rattle.std.proofs.Common.{◌≡◌, ◌∙◌, ◌<◌, ◌≤◌, ◌^◌, ℕ, ◌+◌, List, [], ◌∷◌, ◌++◌, length, map, take, get_or, filter, Option, None, refl, sym, ap, subst, append_assoc, append-nil, arith}
use Rattle.std.specs.List.{AllByRecursion, flat_map}
use Rattle.std.proofs.lemmas.Int.{ints}
use Rattle.std.proofs.lemmas.List.{length-replicate, take_more}
use Rattle.std.proofs.lemmas.List.Concat.{flat_map-append}
use Rattle.std.proofs.lemmas.List.Elements.{All-get_or, All-from_recursion}
use Rattle.cells.specs.Runs.{IsRunInside, pairs_of}
use Rattle.cells.specs.declared.run.Run.{Run}
use Rattle.history.specs.declared.event.Op.TheVariants.{Write}
use Rattle.history.specs.Arrays.{Known, known_after}
use Rattle.history.specs.Chunks.{Chunk, chunk_of}
use Rattle.history.specs.History.{History}
use Rattle.history.specs.Writes.{Put, puts_of_op}
use Rattle.stack_driver.specs.declared.view.View.{View}
use Rattle.transaction_cells.specs.Pieces.{IsPiece}
use Rattle.transaction_cells.specs.Sites.{Site, sites_of}
use Rattle.transaction_cells.specs.declared.view_cells.Piece.{Piece}
use Rattle.transaction_cells.proofs.NeedLaws.{piece_pairs}
use Rattle.transaction_cells.proofs.OperationLaws.{puts-more, puts_at}
use Rattle.transaction_cells.proofs.WrittenLaws.{room_of, site_with}
use Rattle.version_store.specs.Ids.{id_of, IsChunkIn}
use Rattle.version_store.specs.Ordered.{AreSameByChunks}
use Rattle.version_store.specs.Putting.{AreWordsOf, ArePutIn, HasRoomUnder}
use Rattle.version_store.specs.Stores.{IsPartStoreOf}
use Rattle.version_store.specs.declared.placed.PlacedWord.{PlacedWord}
use Rattle.version_store.specs.declared.store.VersionStore.{VersionStore}
use Rattle.version_store.proofs.Laws.{has_room, store_ordered}
use Rattle.event_replay.specs.Placed.{placed_word}
use Rattle.event_replay.specs.Pieces.{IsPut, IsPutAt, ArePut, puts_under}
use Rattle.event_replay.proofs.PutWords.{is_by, by_pieces, words_of_piece, all_pieces}
use Rattle.event_replay.proofs.Sites.{IsSiteOf, sites_of_op, id_is, lies_inside}

-- a piece's chunk, of which one of the cells tells
pub record IsOfChunk (h : History) (p : Piece) : Type 0 where
  pub array : Known
  pub chunk : Chunk
  pub in_history : IsChunkIn h array chunk p.id

pub chunk_of_piece : (h : History) (sites : List Site) (p : Piece) → AllByRecursion (IsSiteOf h) sites → IsPiece sites p → IsOfChunk h p
chunk_of_piece h sites p all piece =
    let found = site_with p.id 0 sites (IsSiteOf h) piece.some all in
    let s = found.0 in
    let site : IsSiteOf h s = found.1 in
    let c = chunk_of h s.target.cell in
    let named : p.id ≡ id_of c = sym found.2 ∙ id_is h s site in
    let heads = sym (id_is h s site) ∙ site.within.id in
    let array : c.array ≡ s.target.cell.array = cc in
    record {
      array = site.within.array;
      chunk = c;
      in_history = record { named = named; known = ap (known_after h) array ∙ site.within.known; cell = s.target.cell; has = record { chunk = refl; present = site.present } };
    }

-- each chunk is small
sizes_small : (h : History) (s : Site) → IsSiteOf h s → s.size ≤ 2 ^ 24
sizes_small h s site = let small = site.within.shape.volume in let size = site.within.size in omega (arith, small, size)

-- the runs of a piece lie in the view and in the chunk
pub runs_of_piece : (h : History) (sites : List Site) (p : Piece) (n : ℕ) → AllByRecursion (IsSiteOf h) sites → IsPiece sites p → length sites ≡ n → AllByRecursion (λ run. IsRunInside run n (2 ^ 24)) p.runs
runs_of_piece h sites p n all piece count =
    let found = site_with p.id 0 sites (λ (s : Site). IsSiteOf h s × (s.id ≡ p.id → s.size ≡ p.size)) piece.some (both sites all piece.size) in
    let size : p.size ≤ 2 ^ 24 = (let low = sizes_small h found.0 found.1.0 in let same = found.1.1 found.2 in omega (arith, low, same)) in
    let long = length-replicate {A = Option ℕ} p.size None in
    wider p.runs (room_of sites p n None piece (omega (arith, count)) (inside sites all) (λ c is. absurd (let no_such : ⊥ = cc in no_such))) (omega (arith, long, size))
  where
    both : (ss : List Site) → AllByRecursion (IsSiteOf h) ss → AllByRecursion (λ (s : Site). s.id ≡ p.id → s.size ≡ p.size) ss → AllByRecursion (λ (s : Site). IsSiteOf h s × (s.id ≡ p.id → s.size ≡ p.size)) ss
    both [] x y = tt
    both (s ∷ ss) x y = ((x.0, y.0), both ss x.1 y.1)

    inside : (ss : List Site) → AllByRecursion (IsSiteOf h) ss → AllByRecursion (λ (s : Site). s.place < s.size) ss
    inside [] x = tt
    inside (s ∷ ss) x = (lies_inside h s x.0, inside ss x.1)

    wider : {m : ℕ} (runs : List Run) → AllByRecursion (λ run. IsRunInside run n m) runs → m ≤ 2 ^ 24 → AllByRecursion (λ run. IsRunInside run n (2 ^ 24)) runs
    wider [] x le = tt
    wider {m} (run ∷ runs) x le = (record { in_view = x.0.in_view; from_first = x.0.from_first; to_last = λ k low. (let last = x.0.to_last k low in omega (arith, ints, last, le)) }, wider runs x.1 le)

module _ (h : History) (number : ℕ) (puts : List Put) (v : View) (words kept : List ℕ) (s : VersionStore) (put : IsPut h number puts v words kept s) where
  pub op_sites : AllByRecursion (IsSiteOf h) (sites_of v)
  op_sites = sites_of_op h (Write v words) put.may put.sites

  pub op_puts : puts_of_op (Write v words) ≡ puts_at (sites_of v) words
  op_puts = sym (append-nil (puts_of_op (Write v words))) ∙ puts-more [] v words put.sites

  -- the words of a piece are put into its chunk
  pub piece_put : (p : Piece) (placed : List PlacedWord) → IsPiece (sites_of v) p → placed ≡ map (placed_word kept) (flat_map pairs_of p.runs)
      → (k : Known) (c : Chunk) → IsChunkIn h k c p.id → ArePutIn h k c (puts_under h v words p.id) number p.id placed
  piece_put p placed piece is k c chunk = record {
    legal = put.legal;
    next = put.next;
    chunk = chunk;
    cells = subst (λ (ps : List Put). AreWordsOf h k c placed (filter (is_by h p.id) ps)) (sym op_puts)
        (subst (λ ws. AreWordsOf h k c ws (filter (is_by h p.id) (puts_at (sites_of v) words))) (sym (is ∙ ap (map (placed_word kept)) (piece_pairs (sites_of v) p piece)))
        (words_of_piece h k c p.id kept 0 (sites_of v) words chunk.named chunk.known op_sites put.taken put.count));
  }

  pub room_of_piece : (p : Piece) (placed : List PlacedWord) → IsPiece (sites_of v) p → placed ≡ map (placed_word kept) (flat_map pairs_of p.runs) → HasRoomUnder s number p.id placed
  room_of_piece p placed piece is =
      let of = chunk_of_piece h (sites_of v) p op_sites piece in
      has_room s h puts of.array of.chunk (puts_under h v words p.id) number p.id placed put.part (piece_put p placed piece is of.array of.chunk of.in_history)

  pub piece_behind : (p : Piece) (placed : List PlacedWord) (t : VersionStore) → IsPiece (sites_of v) p → placed ≡ map (placed_word kept) (flat_map pairs_of p.runs)
      → ((history : History) (qs : List Put) (k : Known) (c : Chunk) (ps : List Put) → IsPartStoreOf history qs s → ArePutIn history k c ps number p.id placed → IsPartStoreOf history (qs ++ ps) t)
      → IsPartStoreOf h (puts ++ puts_under h v words p.id) t
  piece_behind p placed t piece is behind =
      let of = chunk_of_piece h (sites_of v) p op_sites piece in
      behind h puts of.array of.chunk (puts_under h v words p.id) put.part (piece_put p placed piece is of.array of.chunk of.in_history)

-- piece by piece
abbrev pub pieces_so_far : History → View → List ℕ → List Piece → List Put
pieces_so_far h v words pieces = flat_map (λ (p : Piece). puts_under h v words p.id) pieces

pub pieces_behind : (h : History) (number : ℕ) (puts : List Put) (v : View) (words kept : List ℕ) (pieces : List Piece) (s t : VersionStore) → ArePut h number puts v words kept pieces s
    → IsPartStoreOf h (puts ++ pieces_so_far h v words pieces) t → IsPartStoreOf h (puts ++ puts_of_op (Write v words)) t
pieces_behind h number puts v words kept pieces s t are part =
    let sites = op_sites h number puts v words kept s are.put in
    let same = op_puts h number puts v words kept s are.put in
    store_ordered h (puts ++ pieces_so_far h v words pieces) (puts ++ puts_of_op (Write v words)) t
    (subst (λ (ps : List Put). AreSameByChunks h (puts ++ by_pieces h ps pieces) (puts ++ ps)) (sym same) (all_pieces h pieces (sites_of v) words puts are.cut sites))
    part

-- a piece of these, while those before it are put
put_later : (h : History) (number : ℕ) (puts qs : List Put) (v : View) (words kept : List ℕ) (s t : VersionStore) → IsPut h number puts v words kept s → IsPartStoreOf h qs t → IsPut h number qs v words kept t
put_later h number puts qs v words kept s t put part = record {
  legal = put.legal;
  next = put.next;
  part = part;
  may = put.may;
  sites = put.sites;
  count = put.count;
  taken = put.taken;
  whole = put.whole;
}

pub piece_of_all : (sites : List Site) (pieces : List Piece) (i : ℕ) (p : Piece) → AllByRecursion (IsPiece sites) pieces → i < length pieces → p ≡ get_or pieces i p → IsPiece sites p
piece_of_all sites pieces i p all low is = subst (IsPiece sites) (sym is) (All-get_or (IsPiece sites) pieces i p low (All-from_recursion (IsPiece sites) pieces all))

pub put_at_piece : (h : History) (number : ℕ) (puts qs : List Put) (v : View) (words kept : List ℕ) (pieces : List Piece) (i : ℕ) (p : Piece) (s t : VersionStore) → ArePut h number puts v words kept pieces s → IsPartStoreOf h qs t
    → i < length pieces → p ≡ get_or pieces i p → IsPutAt h number qs v words kept p t
put_at_piece h number puts qs v words kept pieces i p s t are part low is = record {
  put = put_later h number puts qs v words kept s t are.put part;
  piece = piece_of_all (sites_of v) pieces i p are.cut.each low is;
}

pub piece_more : (h : History) (v : View) (words : List ℕ) (puts : List Put) (pieces : List Piece) (i : ℕ) (p : Piece) → i < length pieces → p ≡ get_or pieces i p
    → (puts ++ pieces_so_far h v words (take i pieces)) ++ puts_under h v words p.id ≡ puts ++ pieces_so_far h v words (take (i + 1) pieces)
piece_more h v words puts pieces i p low is =
    let f : Piece → List Put = λ q. puts_under h v words q.id in
    append_assoc puts (pieces_so_far h v words (take i pieces)) (f p)
    ∙ ap (λ l. puts ++ l)
    (ap (λ l. flat_map f (take i pieces) ++ l) (sym (append-nil (f p)))
    ∙ sym (flat_map-append f (take i pieces) (p ∷ []))
    ∙ ap (flat_map f) (ap (λ (q : Piece). take i pieces ++ q ∷ []) is ∙ sym (take_more pieces i p low)))
