-- What a transaction has by its operations, with one more of them.
use Rattle.std.proofs.Common.{inl, inr, ◌⊎◌, ◌≡◌, ◌∙◌, ◌||◌, ◌+◌, ◌<◌, ℕ, List, [], ◌∷◌, ◌++◌, length, map, take, get_or, Bool, true, false, refl, sym, ap, subst, arith, append-nil}
use Rattle.std.specs.Prelude.{◌↔◌, ◌&&◌, Contains, fold}
use Rattle.std.specs.List.{AllByRecursion, list_any}
use Rattle.std.specs.Str.{bytes_eq}
use Rattle.std.proofs.lemmas.List.{map-append, take_all}
use Rattle.std.proofs.lemmas.List.Concat.{flat_map-append}
use Rattle.std.proofs.lemmas.List.Elements.{Contains-append_left, Contains-append_right, Contains-append_cases}
use Rattle.std.proofs.lemmas.List.Folds.{list_any-append, list_any_more}
use Rattle.std.proofs.lemmas.Slice.Eq.{bytes_eq-Decides}
use Rattle.history.specs.declared.event.Op.{Op}
use Rattle.history.specs.declared.event.Op.TheVariants.{Write, Read}
use Rattle.history.specs.Chunks.{Chunk, chunk_of}
use Rattle.history.specs.History.{History}
use Rattle.history.specs.Reads.{first_reads, footprint_of, unwritten}
use Rattle.history.specs.Writes.{Put, put, puts_of, puts_of_op}
use Rattle.stack_driver.specs.declared.view.View.{View}
use Rattle.transaction_cells.specs.Needs.{needs}
use Rattle.transaction_cells.specs.Operations.{AreStaged, HasSites, IsInArray, no_content}
use Rattle.transaction_cells.specs.Pieces.{AreCells}
use Rattle.transaction_cells.specs.Sites.{sites_of}
use Rattle.transaction_cells.specs.Staging.{StagedChunk}
use Rattle.transaction_cells.specs.declared.view_cells.Piece.{Piece}
use Rattle.transaction_cells.specs.declared.view_cells.ViewCells.{ViewCells}
use Rattle.transaction_cells.proofs.Laws.{none_staged}
use Rattle.line_fits.proofs.Laws.{first_reads-more}
use Rattle.version_store.specs.Ids.{id_of}
use Rattle.read_fits.specs.Owned.{AreOwn, Id, IsThere, has_id, is_needed}
use Rattle.read_fits.proofs.NeededChunks.{needed_chunk}

-- an id that is put in
same_or : (b c : Bool) → (b ≡ true → c ≡ true) → (b || c) ≡ c
same_or true c is = sym (is refl)
same_or false c is = refl

pub has_already : (ids : List Id) (id other : List ℕ) → has_id ids id ≡ true → (bytes_eq id other || has_id ids other) ≡ has_id ids other
has_already ids id other has = same_or (bytes_eq id other) (has_id ids other) (λ same. ap (has_id ids) (sym ((bytes_eq-Decides id other).0 same)) ∙ has)

or_turned : (a b : Bool) → (a || (b || false)) ≡ (b || a)
or_turned true true = refl
or_turned true false = refl
or_turned false true = refl
or_turned false false = refl

turned : (b c : Bool) → (b ≡ true → c ≡ true) → (c ≡ true → b ≡ true) → b ≡ c
turned true true there back = refl
turned true false there back = absurd (let clash : false ≡ true = there refl in cc)
turned false true there back = absurd (let clash : false ≡ true = back refl in cc)
turned false false there back = refl

pub has_more : (ids : List Id) (key : Id) (other : List ℕ) → has_id (ids ++ key ∷ []) other ≡ (bytes_eq key.items other || has_id ids other)
has_more ids key other =
    list_any-append (λ (k : Id). bytes_eq other k.items) ids (key ∷ [])
    ∙ or_turned (has_id ids other) (bytes_eq other key.items)
    ∙ ap (λ b. b || has_id ids other)
    (turned (bytes_eq other key.items) (bytes_eq key.items other) (λ e. (bytes_eq-Decides key.items other).1 (sym ((bytes_eq-Decides other key.items).0 e))) (λ e. (bytes_eq-Decides other key.items).1 (sym ((bytes_eq-Decides key.items other).0 e))))

or_apart : (a b : Bool) → (a || b) ≡ true → (a ≡ true) ⊎ (b ≡ true)
or_apart true b is = inl refl
or_apart false b is = inr is

or_left : (a b : Bool) → a ≡ true → (a || b) ≡ true
or_left true b is = refl
or_left false b is = absurd (cc)

or_last : (a b : Bool) → b ≡ true → (a || b) ≡ true
or_last true b is = refl
or_last false b is = is

-- a Read puts nothing, and names chunks that it needs; a Write names none
puts_with : (ops : List Op) (op : Op) → puts_of (ops ++ op ∷ []) ≡ puts_of ops ++ puts_of_op op
puts_with ops op = flat_map-append puts_of_op ops (op ∷ []) ∙ ap (λ ps. puts_of ops ++ ps) (append-nil (puts_of_op op))

puts_read : (ops : List Op) (view : View) (words : List ℕ) → puts_of (ops ++ Read view words ∷ []) ≡ puts_of ops
puts_read ops view words = puts_with ops (Read view words) ∙ append-nil (puts_of ops)

first_read : (h : History) (ops : List Op) (view : View) (words : List ℕ) → footprint_of h (ops ++ Read view words ∷ []) ≡ footprint_of h ops ++ map (chunk_of h) (unwritten ops view)
first_read h ops view words =
    ap (map (chunk_of h)) (first_reads-more (Read view words) [] ops ∙ ap (λ xs. first_reads [] ops ++ xs) (append-nil (unwritten ops view)))
    ∙ map-append (chunk_of h) (first_reads [] ops) (unwritten ops view)

first_write : (h : History) (ops : List Op) (view : View) (words : List ℕ) → footprint_of h (ops ++ Write view words ∷ []) ≡ footprint_of h ops
first_write h ops view words = ap (map (chunk_of h)) (first_reads-more (Write view words) [] ops ∙ append-nil (first_reads [] ops))

staged_same : (h : History) (ops more : List Op) (staged : List StagedChunk) → puts_of more ≡ puts_of ops → AreStaged h ops staged → AreStaged h more staged
staged_same h ops more staged same is = record {
  words = λ x k known rank. is.words x k known rank ∙ ap (λ (ps : List Put). fold put no_content ps x) (sym same);
  there = λ id. is.there id ∙ ap (λ (ps : List Put). list_any (λ p. bytes_eq (id_of (chunk_of h p.0)) id) ps) (sym same);
  sizes = is.sizes;
  typed = is.typed;
  known = subst (AllByRecursion (IsInArray h)) (sym same) is.known;
}

-- no operation
pub none_own : (h : History) (upto : ℕ) → AreOwn h upto [] [] []
none_own h upto = record {
  writes = none_staged (take upto h);
  reads = λ c. ((λ at. absurd (omega (arith, at.1))), (λ so. absurd (cc)));
}

-- a Read more
pub read_own : (h : History) (upto : ℕ) (ops : List Op) (staged : List StagedChunk) (old new : List Id) (view : View) (words : List ℕ) (cells : ViewCells) → IsThere h upto view → HasSites view → AreCells (sites_of view) cells → AreOwn h upto ops staged old
    → ((id : List ℕ) → has_id new id ≡ (is_needed staged cells.pieces id || has_id old id)) → AreOwn h upto (ops ++ Read view words ∷ []) staged new
read_own h upto ops staged old new view words cells is sites cut own has = record {
  writes = staged_same (take upto h) ops (ops ++ Read view words ∷ []) staged (puts_read ops view words) own.writes;
  reads = λ c. (
    (λ at.
        has (id_of c)
        ∙ elim (Contains-append_cases (footprint_of h ops) (map (chunk_of h) (unwritten ops view)) c (subst (λ cs. Contains cs c) (first_read h ops view words) at)) [
          | inl was ↦ or_last (is_needed staged cells.pieces (id_of c)) (has_id old (id_of c)) ((own.reads c).0 was)
          | inr now ↦ or_left (is_needed staged cells.pieces (id_of c)) (has_id old (id_of c)) ((needed c).0 now)
        ]),
    (λ so.
        subst (λ cs. Contains cs c) (sym (first_read h ops view words))
        (elim (or_apart (is_needed staged cells.pieces (id_of c)) (has_id old (id_of c)) (sym (has (id_of c)) ∙ so)) [
          | inl now ↦ Contains-append_right (footprint_of h ops) (map (chunk_of h) (unwritten ops view)) c ((needed c).1 now)
          | inr was ↦ Contains-append_left (footprint_of h ops) (map (chunk_of h) (unwritten ops view)) c ((own.reads c).1 was)
        ])),
  );
}
  where
    needed : (c : Chunk) → Contains (map (chunk_of h) (unwritten ops view)) c ↔ (is_needed staged cells.pieces (id_of c) ≡ true)
    needed c = needed_chunk h upto view ops staged cells is own.writes sites cut c

-- a Write more
pub write_own : (h : History) (upto : ℕ) (ops : List Op) (old new : List StagedChunk) (ids : List Id) (view : View) (words : List ℕ) → AreOwn h upto ops old ids → AreStaged (take upto h) (ops ++ Write view words ∷ []) new
    → AreOwn h upto (ops ++ Write view words ∷ []) new ids
write_own h upto ops old new ids view words own staged = record {
  writes = staged;
  reads = λ c. subst (λ cs. Contains cs c ↔ (has_id ids (id_of c) ≡ true)) (sym (first_write h ops view words)) (own.reads c);
}

-- the pieces that are needed, with one more
more_needed : (a b c : Bool) → (b || (a || c)) ≡ ((a || b) || c)
more_needed true true c = refl
more_needed true false c = refl
more_needed false true c = refl
more_needed false false c = refl

module _ (staged : List StagedChunk) (ps : List Piece) (i : ℕ) (d : Piece) (had : Bool) (id : List ℕ) (low : i < length ps) where
  steps_needed : ((is_needed staged (take i ps) id || (needs staged (get_or ps i d) && bytes_eq (get_or ps i d).id id)) || had) ≡ (is_needed staged (take (i + 1) ps) id || had)
  steps_needed = ap (λ b. b || had) (sym (list_any_more (λ (q : Piece). needs staged q && bytes_eq q.id id) ps i d low))

  pub needed_step : ((needs staged (get_or ps i d) && bytes_eq (get_or ps i d).id id) || (is_needed staged (take i ps) id || had)) ≡ (is_needed staged (take (i + 1) ps) id || had)
  needed_step = more_needed (is_needed staged (take i ps) id) (needs staged (get_or ps i d) && bytes_eq (get_or ps i d).id id) had ∙ steps_needed

pub all_needed : (staged : List StagedChunk) (ps : List Piece) (had : Bool) (id : List ℕ) → (is_needed staged (take (length ps) ps) id || had) ≡ (is_needed staged ps id || had)
all_needed staged ps had id = ap (λ (qs : List Piece). is_needed staged qs id || had) (take_all (length ps) ps (omega arith))
