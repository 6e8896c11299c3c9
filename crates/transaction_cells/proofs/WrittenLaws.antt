-- What is staged of a chunk once the words of a view are written along its runs.
use Rattle.std.proofs.Common.{◌≡◌, ◌≢◌, ◌∙◌, ℕ, zero, suc, ◌+◌, ◌<◌, ◌≤◌, Bool, true, false, cond, List, [], ◌∷◌, length, map, drop, set, get_or, replicate, Option, Some, None, refl, sym, ap, subst, arith, unwrap_or, Result, Ok, Err}
use Rattle.std.specs.Prelude.{Contains, OnErr}
use Rattle.cast_driver.specs.declared.cast.Cast.{Cast}
use Rattle.rebase_writes.specs.Staged.{staged_at}
use Rattle.transaction_cells.specs.Found.{Id, found}
use Rattle.transaction_cells.proofs.StagingLaws.{staged_found}
use Rattle.std.specs.List.{AllByRecursion}
use Rattle.std.specs.List.Sorted.{IsStrictlySortedBy}
use Rattle.std.specs.Option.{option_map}
use Rattle.std.specs.Ordering.{nat_cmp}
use Rattle.std.specs.Cmp.Lexicographic.{slice_cmp}
use Rattle.std.specs.declared.cmp.Ordering.TheVariants.{Less}
use Rattle.std.specs.Ordering.{is_eq}
use Rattle.std.specs.Str.{bytes_eq}
use Rattle.std.proofs.lemmas.List.{length-replicate, length-map}
use Rattle.std.proofs.lemmas.Map.Text.{is_eq-slice_cmp}
use Rattle.std.proofs.lemmas.Slice.Eq.{bytes_eq-Decides}
use Rattle.cells.specs.Runs.{Pair, IsRunInside}
use Rattle.rebase_writes.specs.Runs.{pairs_written}
use Rattle.stack_driver.specs.Targets.{inwards}
use Rattle.strided_runs.specs.Runs.{runs_of_pairs}
use Rattle.transaction_cells.specs.Casting.{casts_at, taken_back}
use Rattle.transaction_cells.specs.Lanes.{LaneSeen}
use Rattle.transaction_cells.specs.Pieces.{ArePieces, IsPiece, ids_of}
use Rattle.transaction_cells.specs.Sites.{Site, pairs_at}
use Rattle.transaction_cells.specs.Staging.{with_word, written_at, StagedChunk, chunks_of, staged_of, IsSized, word_in}
use Rattle.transaction_cells.specs.Tables.{prepared, runs_written, pieces_written, HasRoom, MayWrite, HasSameWords}
use Rattle.transaction_cells.specs.declared.view_cells.Piece.{Piece}
use Rattle.transaction_cells.proofs.RunLaws.{Rise, AreRising, pairs-runs, runs_written-pairs, IsPairInside, runs_inside}
use Rattle.transaction_cells.proofs.PieceLaws.{none_is_other, Contains-here, Contains-there}

-- the kept words of sites
abbrev pub kept_of : List Site → List ℕ → List ℕ
kept_of [] words = []
kept_of (s ∷ sites) [] = []
kept_of (s ∷ sites) (word ∷ words) = inwards s.target.casts word ∷ kept_of sites words

pub kept_words : (sites : List Site) (lanes : List LaneSeen) (leaves words : List ℕ) → map (λ (s : Site). s.target.casts) sites ≡ map (casts_at lanes) leaves → taken_back lanes leaves words ≡ kept_of sites words
kept_words [] lanes [] words same = refl
kept_words [] lanes (leaf ∷ leaves) words same = absurd (let no_such : ⊥ = cc in no_such)
kept_words (s ∷ sites) lanes [] words same = absurd (let no_such : ⊥ = cc in no_such)
kept_words (s ∷ sites) lanes (leaf ∷ leaves) [] same = refl
kept_words (s ∷ sites) lanes (leaf ∷ leaves) (word ∷ words) same =
    let first : s.target.casts ≡ casts_at lanes leaf = cc in
    let rest : map (λ (t : Site). t.target.casts) sites ≡ map (casts_at lanes) leaves = cc in
    (λ i. inwards (sym first i) word ∷ kept_words sites lanes leaves words rest i)

-- what is left of a list
first_left : (xs : List ℕ) (k x : ℕ) (rest : List ℕ) → drop k xs ≡ x ∷ rest → (get_or xs k 0 ≡ x) × (drop (k + 1) xs ≡ rest)
first_left [] zero x rest is = absurd (let no_such : ⊥ = cc in no_such)
first_left [] (suc k) x rest is = absurd (let no_such : ⊥ = cc in no_such)
first_left (y ∷ xs) zero x rest is = (let h : y ≡ x = cc in h, let h : xs ≡ rest = cc in h)
first_left (y ∷ xs) (suc k) x rest is =
    let more = first_left xs k x rest is in
    let z : suc k + 1 ≡ suc (k + 1) = omega arith in
    (more.0, ap (λ n. drop n (y ∷ xs)) z ∙ more.1)

-- written one after another, from cells that there are
module _ (id all : List ℕ) where
  pub by_pairs : (k : ℕ) (sites : List Site) (words : List ℕ) (cells : List (Option ℕ)) → drop k all ≡ kept_of sites words → length words ≡ length sites
      → written_at id sites words (Some cells) ≡ Some (pairs_written (pairs_at id k sites) all cells)
  by_pairs k [] words cells left count = refl
  by_pairs k (s ∷ sites) [] cells left count = absurd (omega (arith, count))
  by_pairs k (s ∷ sites) (word ∷ words) cells left count =
      let first = first_left all k (inwards s.target.casts word) (kept_of sites words) left in
      told (bytes_eq s.id id) first.0
      (by_pairs (k + 1) sites words (set cells s.place (Some (inwards s.target.casts word))) first.1 (omega (arith, count)))
      (by_pairs (k + 1) sites words cells first.1 (omega (arith, count)))
    where
      told : (b : Bool) → get_or all k 0 ≡ inwards s.target.casts word
          → written_at id sites words (Some (set cells s.place (Some (inwards s.target.casts word)))) ≡ Some (pairs_written (pairs_at id (k + 1) sites) all (set cells s.place (Some (inwards s.target.casts word))))
          → written_at id sites words (Some cells) ≡ Some (pairs_written (pairs_at id (k + 1) sites) all cells)
          → written_at id sites words (cond b (with_word s word (Some cells)) (Some cells))
          ≡ Some (pairs_written (cond b (record { view = k; chunk = s.place } ∷ pairs_at id (k + 1) sites) (pairs_at id (k + 1) sites)) all cells)
      told true here on off = on ∙ ap (λ x. Some (pairs_written (pairs_at id (k + 1) sites) all (set cells s.place (Some x)))) (sym here)
      told false here on off = off

-- the first word of a chunk makes its cells
pub from_none : (id : List ℕ) (k n : ℕ) (sites : List Site) (words : List ℕ) (cells : Option (List (Option ℕ))) → pairs_at id k sites ≢ [] → AllByRecursion (λ (s : Site). s.id ≡ id → s.size ≡ n) sites → length words ≡ length sites
    → written_at id sites words cells ≡ written_at id sites words (Some (unwrap_or cells (replicate n None)))
from_none id k n [] words cells some sizes count = absurd (some refl)
from_none id k n (s ∷ sites) [] cells some sizes count = absurd (omega (arith, count))
from_none id k n (s ∷ sites) (word ∷ words) cells some sizes count =
    told (bytes_eq s.id id) refl some (λ others. from_none id (k + 1) n sites words cells others sizes.1 (omega (arith, count)))
  where
    told : (b : Bool) → bytes_eq s.id id ≡ b → cond b (record { view = k; chunk = s.place } ∷ pairs_at id (k + 1) sites) (pairs_at id (k + 1) sites) ≢ []
        → (pairs_at id (k + 1) sites ≢ [] → written_at id sites words cells ≡ written_at id sites words (Some (unwrap_or cells (replicate n None))))
        → written_at id sites words (cond b (with_word s word cells) cells)
        ≡ written_at id sites words (cond b (with_word s word (Some (unwrap_or cells (replicate n None)))) (Some (unwrap_or cells (replicate n None))))
    told true e some rest =
        let size : s.size ≡ n = sizes.0 ((bytes_eq-Decides s.id id).0 e) in
        ap (λ (m : ℕ). written_at id sites words (Some (set (unwrap_or cells (replicate m None)) s.place (Some (inwards s.target.casts word))))) size
    told false e some rest = rest some

-- no cell of the chunk
pub no_site : (id : List ℕ) (sites : List Site) (words : List ℕ) (cells : Option (List (Option ℕ))) → AllByRecursion (λ (s : Site). bytes_eq s.id id ≡ false) sites → written_at id sites words cells ≡ cells
no_site id [] words cells none = refl
no_site id (s ∷ sites) [] cells none = refl
no_site id (s ∷ sites) (word ∷ words) cells none =
    ap (λ b. written_at id sites words (cond b (with_word s word cells) cells)) none.0 ∙ no_site id sites words cells none.1

-- the pairs of a chunk rise
rise_from : (id : List ℕ) (sites : List Site) (n least : ℕ) → least ≤ n → Rise least (pairs_at id n sites)
rise_from id [] n least le = tt
rise_from id (s ∷ sites) n least le = told (bytes_eq s.id id) (rise_from id sites (n + 1) least (omega (arith, le)))
  where
    told : (b : Bool) → Rise least (pairs_at id (n + 1) sites) → Rise least (cond b (record { view = n; chunk = s.place } ∷ pairs_at id (n + 1) sites) (pairs_at id (n + 1) sites))
    told true h = (le, h)
    told false h = h

pub rising_from : (id : List ℕ) (sites : List Site) (n : ℕ) → AreRising (pairs_at id n sites)
rising_from id [] n = tt
rising_from id (s ∷ sites) n = told (bytes_eq s.id id) (rising_from id sites (n + 1))
  where
    told : (b : Bool) → AreRising (pairs_at id (n + 1) sites) → AreRising (cond b (record { view = n; chunk = s.place } ∷ pairs_at id (n + 1) sites) (pairs_at id (n + 1) sites))
    told true h = (rise_from id sites (n + 1) n (omega arith), h)
    told false h = h

-- and lie inside
pairs_inside : (id : List ℕ) (size : ℕ) (sites : List Site) (k n : ℕ) → k + length sites ≤ n → AllByRecursion (λ (s : Site). s.id ≡ id → s.size ≡ size) sites → AllByRecursion (λ (s : Site). s.place < s.size) sites
    → AllByRecursion (IsPairInside n size) (pairs_at id k sites)
pairs_inside id size [] k n le sizes places = tt
pairs_inside id size (s ∷ sites) k n le sizes places = told (bytes_eq s.id id) refl (pairs_inside id size sites (k + 1) n (omega (arith, le)) sizes.1 places.1)
  where
    told : (b : Bool) → bytes_eq s.id id ≡ b → AllByRecursion (IsPairInside n size) (pairs_at id (k + 1) sites)
        → AllByRecursion (IsPairInside n size) (cond b (record { view = k; chunk = s.place } ∷ pairs_at id (k + 1) sites) (pairs_at id (k + 1) sites))
    told true e h =
        let same = sizes.0 ((bytes_eq-Decides s.id id).0 e) in
        let below = places.0 in
        ((omega (arith, le), omega (arith, same, below)), h)
    told false e h = h

-- pieces of other chunks
module _ (id : List ℕ) where
  abbrev pub AreOthers : List Piece → Type 0
  AreOthers pieces = AllByRecursion (λ (p : Piece). bytes_eq p.id id ≡ false) pieces

  others_prepared : (pieces : List Piece) (cells : Option (List (Option ℕ))) → AreOthers pieces → prepared pieces id cells ≡ cells
  others_prepared [] cells h = refl
  others_prepared (p ∷ pieces) cells h =
      ap (λ b. prepared pieces id (cond b (Some (unwrap_or cells (replicate p.size None))) cells)) h.0 ∙ others_prepared pieces cells h.1

  others_written : (pieces : List Piece) (words : List ℕ) (cells : Option (List (Option ℕ))) → AreOthers pieces → pieces_written pieces id words cells ≡ cells
  others_written [] words cells h = refl
  others_written (p ∷ pieces) words cells h =
      ap (λ b. pieces_written pieces id words (cond b (option_map (runs_written p.runs words) cells) cells)) h.0 ∙ others_written pieces words cells h.1

-- ids behind one in order are others
pub others_behind : (id : List ℕ) (pieces : List Piece) → AllByRecursion (λ y. slice_cmp nat_cmp id y ≡ Less) (ids_of pieces) → AreOthers id pieces
others_behind id [] h = tt
others_behind id (p ∷ pieces) h = (apart id p.id h.0, others_behind id pieces h.1)
  where
    apart : (xs ys : List ℕ) → slice_cmp nat_cmp xs ys ≡ Less → bytes_eq ys xs ≡ false
    apart xs ys less = by (bytes_eq ys xs) refl
      where
        by : (b : Bool) → bytes_eq ys xs ≡ b → b ≡ false
        by false e = refl
        by true e =
            let same : ys ≡ xs = (bytes_eq-Decides ys xs).0 e in
            let equal : is_eq (slice_cmp nat_cmp xs ys) ≡ true = is_eq-slice_cmp xs ys ∙ (bytes_eq-Decides xs ys).1 (sym same) in
            let clash : false ≡ true = sym (ap is_eq less) ∙ equal in absurd (let no_such : ⊥ = cc in no_such)

-- a piece behind another is of another chunk
behind_is_other : (q p : Piece) (pieces : List Piece) → AllByRecursion (λ y. slice_cmp nat_cmp q.id y ≡ Less) (ids_of pieces) → Contains pieces p → bytes_eq q.id p.id ≡ false
behind_is_other q p [] h there = absurd (omega (arith, there.1))
behind_is_other q p (r ∷ pieces) h (zero, lt, is) = subst (λ (t : Piece). bytes_eq q.id t.id ≡ false) is (told (bytes_eq q.id r.id) refl)
  where
    told : (b : Bool) → bytes_eq q.id r.id ≡ b → bytes_eq q.id r.id ≡ false
    told false e = e
    told true e =
        let equal : is_eq (slice_cmp nat_cmp q.id r.id) ≡ true = is_eq-slice_cmp q.id r.id ∙ e in
        let clash : false ≡ true = sym (ap is_eq h.0) ∙ equal in absurd (let no_such : ⊥ = cc in no_such)
behind_is_other q p (r ∷ pieces) h (suc k, lt, is) = behind_is_other q p pieces h.1 (k, omega (arith, lt), is)

-- one piece among others
pub prepared_is : (pieces : List Piece) (p : Piece) (cells : Option (List (Option ℕ))) → IsStrictlySortedBy (slice_cmp nat_cmp) (ids_of pieces) → Contains pieces p
    → prepared pieces p.id cells ≡ Some (unwrap_or cells (replicate p.size None))
unfolding IsStrictlySortedBy
prepared_is [] p cells sorted there = absurd (omega (arith, there.1))
prepared_is (q ∷ pieces) p cells sorted (zero, lt, is) =
    let same : q ≡ p = is in
    let others : AreOthers p.id pieces = subst (λ (r : Piece). AreOthers r.id pieces) same (others_behind q.id pieces sorted.0) in
    let itself : bytes_eq q.id p.id ≡ true = (bytes_eq-Decides q.id p.id).1 (ap (λ (r : Piece). r.id) same) in
    ap (λ b. prepared pieces p.id (cond b (Some (unwrap_or cells (replicate q.size None))) cells)) itself
    ∙ others_prepared p.id pieces (Some (unwrap_or cells (replicate q.size None))) others
    ∙ ap (λ (r : Piece). Some (unwrap_or cells (replicate r.size None))) same
prepared_is (q ∷ pieces) p cells sorted (suc k, lt, is) =
    let there : Contains pieces p = (k, omega (arith, lt), is) in
    let other : bytes_eq q.id p.id ≡ false = behind_is_other q p pieces sorted.0 there in
    ap (λ b. prepared pieces p.id (cond b (Some (unwrap_or cells (replicate q.size None))) cells)) other
    ∙ prepared_is pieces p cells sorted.1 there

pub written_is : (pieces : List Piece) (p : Piece) (words : List ℕ) (cells : List (Option ℕ)) → IsStrictlySortedBy (slice_cmp nat_cmp) (ids_of pieces) → Contains pieces p
    → pieces_written pieces p.id words (Some cells) ≡ Some (runs_written p.runs words cells)
unfolding IsStrictlySortedBy
written_is [] p words cells sorted there = absurd (omega (arith, there.1))
written_is (q ∷ pieces) p words cells sorted (zero, lt, is) =
    let same : q ≡ p = is in
    let others : AreOthers p.id pieces = subst (λ (r : Piece). AreOthers r.id pieces) same (others_behind q.id pieces sorted.0) in
    let itself : bytes_eq q.id p.id ≡ true = (bytes_eq-Decides q.id p.id).1 (ap (λ (r : Piece). r.id) same) in
    ap (λ b. pieces_written pieces p.id words (cond b (Some (runs_written q.runs words cells)) (Some cells))) itself
    ∙ others_written p.id pieces words (Some (runs_written q.runs words cells)) others
    ∙ ap (λ (r : Piece). Some (runs_written r.runs words cells)) same
written_is (q ∷ pieces) p words cells sorted (suc k, lt, is) =
    let there : Contains pieces p = (k, omega (arith, lt), is) in
    let other : bytes_eq q.id p.id ≡ false = behind_is_other q p pieces sorted.0 there in
    ap (λ b. pieces_written pieces p.id words (cond b (Some (runs_written q.runs words cells)) (Some cells))) other
    ∙ written_is pieces p words cells sorted.1 there

-- an id of pieces is that of one
piece_with : (pieces : List Piece) (id : List ℕ) → Contains (ids_of pieces) id → (p : Piece) × Contains pieces p × (p.id ≡ id)
piece_with [] id there = absurd (omega (arith, there.1))
piece_with (p ∷ pieces) id (zero, lt, is) = (p, Contains-here p pieces, is)
piece_with (p ∷ pieces) id (suc k, lt, is) = let rest = piece_with pieces id (k, omega (arith, lt), is) in (rest.0, Contains-there p pieces rest.0 rest.1, rest.2)

-- pairs of a chunk are of a site in it
pub site_with : (id : List ℕ) (k : ℕ) (sites : List Site) (P : Site → Type 0) → pairs_at id k sites ≢ [] → AllByRecursion P sites → (s : Site) × P s × (s.id ≡ id)
site_with id k [] P some all = absurd (some refl)
site_with id k (s ∷ sites) P some all = told (bytes_eq s.id id) refl some (λ h. site_with id (k + 1) sites P h all.1)
  where
    told : (b : Bool) → bytes_eq s.id id ≡ b → cond b (record { view = k; chunk = s.place } ∷ pairs_at id (k + 1) sites) (pairs_at id (k + 1) sites) ≢ []
        → (pairs_at id (k + 1) sites ≢ [] → (t : Site) × P t × (t.id ≡ id)) → (t : Site) × P t × (t.id ≡ id)
    told true e some rest = (s, all.0, (bytes_eq-Decides s.id id).0 e)
    told false e some rest = rest some

-- without pairs, all pieces are of others
all_others : (id : List ℕ) (sites : List Site) (pieces : List Piece) → pairs_at id 0 sites ≡ [] → AllByRecursion (IsPiece sites) pieces → AreOthers id pieces
all_others id sites [] none each = tt
all_others id sites (p ∷ pieces) none each = (told (bytes_eq p.id id) refl, all_others id sites pieces none each.1)
  where
    told : (b : Bool) → bytes_eq p.id id ≡ b → b ≡ false
    told false e = refl
    told true e = absurd (each.0.some (ap (λ xs. pairs_at xs 0 sites) ((bytes_eq-Decides p.id id).0 e) ∙ none))

piece_at : (P : Piece → Type 0) (pieces : List Piece) (p : Piece) → AllByRecursion P pieces → Contains pieces p → P p
piece_at P [] p all there = absurd (omega (arith, there.1))
piece_at P (q ∷ pieces) p all (zero, lt, is) = subst P is all.0
piece_at P (q ∷ pieces) p all (suc k, lt, is) = piece_at P pieces p all.1 (k, omega (arith, lt), is)

-- a write along the runs of pieces is a write cell by cell
pub staged_is : (sites : List Site) (pieces : List Piece) (words kept id : List ℕ) (cells : Option (List (Option ℕ))) → ArePieces sites pieces → length words ≡ length sites → kept ≡ kept_of sites words
    → pieces_written pieces id kept (prepared pieces id cells) ≡ written_at id sites words cells
staged_is sites pieces words kept id cells are count is = told (pairs_at id 0 sites) refl
  where
    told : (ps : List Pair) → pairs_at id 0 sites ≡ ps → pieces_written pieces id kept (prepared pieces id cells) ≡ written_at id sites words cells
    told [] none =
        let others = all_others id sites pieces none are.each in
        ap (pieces_written pieces id kept) (others_prepared id pieces cells others) ∙ others_written id pieces kept cells others
        ∙ sym (no_site id sites words cells (none_is_other id 0 sites none))
    told (q ∷ qs) some =
        let has : pairs_at id 0 sites ≢ [] = λ none. let clash : [] ≡ q ∷ qs = sym none ∙ some in let no_such : ⊥ = cc in no_such in
        let site = site_with id 0 sites (λ (s : Site). Contains (ids_of pieces) s.id) has are.all in
        let piece = piece_with pieces id (subst (λ xs. Contains (ids_of pieces) xs) site.2 site.1) in
        let p = piece.0 in
        let h = piece_at (IsPiece sites) pieces p are.each piece.1 in
        let u = unwrap_or cells (replicate p.size None) in
        let same : p.id ≡ id = piece.2 in
        subst (λ xs. pieces_written pieces xs kept (prepared pieces xs cells) ≡ written_at xs sites words cells) same
        (ap (pieces_written pieces p.id kept) (prepared_is pieces p cells are.sorted piece.1)
        ∙ written_is pieces p kept u are.sorted piece.1
        ∙ ap (λ rs. Some (runs_written rs kept u)) h.runs
        ∙ ap Some (runs_written-pairs (runs_of_pairs (pairs_at p.id 0 sites)) kept u)
        ∙ ap (λ ps. Some (pairs_written ps kept u)) (pairs-runs (pairs_at p.id 0 sites) (rising_from p.id sites 0))
        ∙ sym (by_pairs p.id kept 0 sites words u is count)
        ∙ sym (from_none p.id 0 p.size sites words cells h.some h.size count))

-- there is room for the runs of each piece
pub room_of : (sites : List Site) (p : Piece) (n : ℕ) (cells : Option (List (Option ℕ))) → IsPiece sites p → length sites ≤ n → AllByRecursion (λ (s : Site). s.place < s.size) sites
    → ((c : List (Option ℕ)) → cells ≡ Some c → length c ≡ p.size) → HasRoom p.runs n (Some (unwrap_or cells (replicate p.size None)))
room_of sites p n cells h few places sized =
    let size : length (unwrap_or cells (replicate p.size None)) ≡ p.size = by cells sized in
    let inside = runs_inside n p.size (pairs_at p.id 0 sites) (pairs_inside p.id p.size sites 0 n (omega (arith, few)) h.size places) in
    subst (λ rs. AllByRecursion (λ run. IsRunInside run n (length (unwrap_or cells (replicate p.size None)))) rs) (sym h.runs)
    (subst (λ m. AllByRecursion (λ run. IsRunInside run n m) (runs_of_pairs (pairs_at p.id 0 sites))) (sym size) inside)
  where
    by : (o : Option (List (Option ℕ))) → ((c : List (Option ℕ)) → o ≡ Some c → length c ≡ p.size) → length (unwrap_or o (replicate p.size None)) ≡ p.size
    by None h = length-replicate p.size None
    by (Some c) h = h c refl

pub both_of : (P Q : Site → Type 0) (ss : List Site) → AllByRecursion P ss → AllByRecursion Q ss → AllByRecursion (λ (s : Site). P s × Q s) ss
both_of P Q [] a b = tt
both_of P Q (s ∷ ss) a b = ((a.0, b.0), both_of P Q ss a.1 b.1)

pub may_stage : (sites : List Site) (all pieces : List Piece) (n : ℕ) (id : List ℕ) (cells : Option (List (Option ℕ))) → IsStrictlySortedBy (slice_cmp nat_cmp) (ids_of all) → ((p : Piece) → Contains pieces p → Contains all p)
    → AllByRecursion (IsPiece sites) pieces → length sites ≤ n → AllByRecursion (λ (s : Site). s.place < s.size) sites
    → AllByRecursion (λ (s : Site). (c : List (Option ℕ)) → s.id ≡ id → cells ≡ Some c → length c ≡ s.size) sites → MayWrite pieces id n (prepared all id cells)
may_stage sites all [] n id cells sorted sub each few places sized = tt
may_stage sites all (p ∷ pieces) n id cells sorted sub each few places sized = (
  λ same. subst (HasRoom p.runs n) (sym (ap (λ xs. prepared all xs cells) (sym same) ∙ prepared_is all p cells sorted (sub p (Contains-here p pieces))))
      (room_of sites p n cells each.0 few places (size_of same)),
  may_stage sites all pieces n id cells sorted (λ q h. sub q (Contains-there p pieces q h)) each.1 few places sized,
)
  where
    size_of : p.id ≡ id → (c : List (Option ℕ)) → cells ≡ Some c → length c ≡ p.size
    size_of same c is =
        let site = site_with p.id 0 sites (λ (s : Site). ((c : List (Option ℕ)) → s.id ≡ id → cells ≡ Some c → length c ≡ s.size) × (s.id ≡ p.id → s.size ≡ p.size)) each.0.some (both_of (λ (s : Site). (c : List (Option ℕ)) → s.id ≡ id → cells ≡ Some c → length c ≡ s.size) (λ (s : Site). s.id ≡ p.id → s.size ≡ p.size) sites sized each.0.size) in
        site.1.0 c (site.2 ∙ same) is ∙ site.1.1 site.2

-- as many kept words as sites
pub length-kept : (sites : List Site) (words : List ℕ) → length words ≡ length sites → length (kept_of sites words) ≡ length sites
length-kept [] words count = refl
length-kept (s ∷ sites) [] count = absurd (omega (arith, count))
length-kept (s ∷ sites) (word ∷ words) count = ap suc (length-kept sites words (omega (arith, count)))

-- as many sites as leaves of cells
pub count_of : (sites : List Site) (lanes : List LaneSeen) (leaves : List ℕ) → map (λ (s : Site). s.target.casts) sites ≡ map (casts_at lanes) leaves → length sites ≡ length leaves
count_of sites lanes leaves same = sym (length-map sites (λ (s : Site). s.target.casts)) ∙ ap (λ (xs : List (List Cast)). length xs) same ∙ length-map leaves (casts_at lanes)

-- sizes of what a table has
pub sized_cells : (es : List (Id × List (Option ℕ))) (chunks : List StagedChunk) (id : List ℕ) (sites : List Site) → chunks_of es ≡ chunks → AllByRecursion (IsSized chunks) sites
    → AllByRecursion (λ (s : Site). (c : List (Option ℕ)) → s.id ≡ id → found es id ≡ Some c → length c ≡ s.size) sites
sized_cells es chunks id [] is sized = tt
sized_cells es chunks id (s ∷ sites) is sized = (
  λ c same there. sized.0 c (ap (λ (ks : List StagedChunk). staged_of ks s.id) (sym is) ∙ staged_found es s.id ∙ ap (found es) same ∙ there),
  sized_cells es chunks id sites is sized.1,
)

-- words at places, by what tables have
pub same_words : (old new : List (Id × List (Option ℕ))) (chunks : List StagedChunk) (id : List ℕ) (place : ℕ) → chunks_of old ≡ chunks → HasSameWords (found old id) (found new id) → word_in (chunks_of new) id place ≡ word_in chunks id place
same_words old new chunks id place is same =
    ap (λ o. staged_at (unwrap_or o []) place) (staged_found new id) ∙ same place
    ∙ sym (ap (λ o. staged_at (unwrap_or o []) place) (staged_found old id)) ∙ ap (λ (ks : List StagedChunk). word_in ks id place) is

pub on_err_of : {T E P : Type 0} (r : Result T E) → P → OnErr r P
on_err_of (Ok x) p = tt
on_err_of (Err e) p = p

-- the piece at a place
pub piece_in : (sites : List Site) (pieces : List Piece) (k : ℕ) (d : Piece) → AllByRecursion (IsPiece sites) pieces → k < length pieces → IsPiece sites (get_or pieces k d)
piece_in sites [] k d all lt = absurd (omega (arith, lt))
piece_in sites (p ∷ pieces) zero d all lt = all.0
piece_in sites (p ∷ pieces) (suc k) d all lt = piece_in sites pieces k d all.1 (omega (arith, lt))
