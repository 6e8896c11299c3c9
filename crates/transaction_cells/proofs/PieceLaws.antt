-- The pieces of a view's cells.
use Rattle.std.proofs.Common.{◌≡◌, ◌≢◌, ◌∙◌, ℕ, ◌+◌, ◌==◌, Bool, true, false, cond, List, [], ◌∷◌, length, map, drop, get_or, Option, Some, None, refl, sym, ap, subst, arith, eqb-true, suc, zero, Result, Ok, Err, IfOk}
use Rattle.std.specs.Prelude.{Contains}
use Rattle.std.specs.List.{AllByRecursion}
use Rattle.std.specs.List.Sorted.{IsStrictlySortedBy}
use Rattle.std.specs.BTreeMap.{IsOrdered}
use Rattle.std.specs.Map.{keys_of}
use Rattle.std.specs.Str.{bytes_eq}
use Rattle.std.specs.Ordering.{is_eq, nat_cmp}
use Rattle.std.specs.Cmp.Lexicographic.{slice_cmp, on_texts}
use Rattle.std.proofs.lemmas.Bool.Decides.{nat_tests}
use Rattle.std.proofs.lemmas.Slice.Eq.{bytes_eq-Decides}
use Rattle.std.proofs.lemmas.Map.Text.{is_eq-slice_cmp}
use Rattle.std.proofs.lemmas.Map.Views.{All-found}
use Rattle.std.proofs.lemmas.List.Elements.{recursion_from_All, Contains-get_or}
use Rattle.std.specs.declared.cmp.Ordering.TheVariants.{Less}
use Rattle.cells.specs.Places.{cell_count}
use Rattle.cells.specs.Runs.{Pair}
use Rattle.strided_runs.specs.Growing.{Grown, first_run}
use Rattle.strided_runs.proofs.Laws.{runs-grown_of, some-fold}
use Rattle.transaction_cells.specs.Found.{Id, by_id, found}
use Rattle.transaction_cells.specs.Cuts.{Cuts, AreCuts, grown_of, piece_of, size_at}
use Rattle.transaction_cells.specs.Lanes.{HaveOneShape, size_among}
use Rattle.transaction_cells.specs.Pieces.{ArePieces, IsPiece, ids_of}
use Rattle.transaction_cells.specs.Sites.{Site, pairs_at, told_sites, AreTold, no_lane}
use Rattle.transaction_cells.specs.Lanes.{LaneSeen}
use Rattle.transaction_cells.specs.declared.view_cells.Piece.{Piece}

-- an element of a list is one of a longer list, and the first is one
pub Contains-there : {X : Type 0} (y : X) (xs : List X) (x : X) → Contains xs x → Contains (y ∷ xs) x
Contains-there y xs x h = (suc h.0, omega (arith, h.1), h.2)

pub Contains-here : {X : Type 0} (x : X) (xs : List X) → Contains (x ∷ xs) x
Contains-here x xs = (0, omega arith, refl)

-- what is found has an id among the others
found_among : (lanes : List LaneSeen) (es : List (Id × Grown)) (xs : List ℕ) (g : Grown) → found es xs ≡ Some g → Contains (ids_of (map (piece_of lanes) es)) xs
found_among lanes [] xs g is = absurd (let no_such : ⊥ = cc in no_such)
found_among lanes (e ∷ es) xs g is = by (is_eq (slice_cmp nat_cmp xs e.0.items)) refl is (found_among lanes es xs g)
  where
    by : (b : Bool) → is_eq (slice_cmp nat_cmp xs e.0.items) ≡ b → cond b (Some e.1) (found es xs) ≡ Some g → (found es xs ≡ Some g → Contains (ids_of (map (piece_of lanes) es)) xs)
        → Contains (ids_of (map (piece_of lanes) (e ∷ es))) xs
    by true t h rest =
        let same : xs ≡ e.0.items = (bytes_eq-Decides xs e.0.items).0 (sym (is_eq-slice_cmp xs e.0.items) ∙ t) in
        subst (λ ys. Contains (e.0.items ∷ ids_of (map (piece_of lanes) es)) ys) (sym same) (Contains-here e.0.items (ids_of (map (piece_of lanes) es)))
    by false t h rest = Contains-there e.0.items (ids_of (map (piece_of lanes) es)) xs (rest h)

-- ids stay in order
sorted_below : (lanes : List LaneSeen) (id : Id) (es : List (Id × Grown)) → AllByRecursion (λ y. by_id id y ≡ Less) (keys_of es)
    → AllByRecursion (λ y. slice_cmp nat_cmp id.items y ≡ Less) (ids_of (map (piece_of lanes) es))
sorted_below lanes id [] h = tt
sorted_below lanes id (e ∷ es) h = (h.0, sorted_below lanes id es h.1)

sorted_ids : (lanes : List LaneSeen) (es : List (Id × Grown)) → IsStrictlySortedBy by_id (keys_of es) → IsStrictlySortedBy (slice_cmp nat_cmp) (ids_of (map (piece_of lanes) es))
unfolding IsStrictlySortedBy
sorted_ids lanes [] h = tt
sorted_ids lanes (e ∷ es) h = (sorted_below lanes e.0 es h.0, sorted_ids lanes es h.1)

-- a chunk with a site has a pair
pub none_is_other : (id : List ℕ) (k : ℕ) (sites : List Site) → pairs_at id k sites ≡ [] → AllByRecursion (λ (s : Site). bytes_eq s.id id ≡ false) sites
none_is_other id k [] is = tt
none_is_other id k (s ∷ sites) is = by (bytes_eq s.id id) refl is (none_is_other id (k + 1) sites)
  where
    by : (b : Bool) → bytes_eq s.id id ≡ b → cond b (record { view = k; chunk = s.place } ∷ pairs_at id (k + 1) sites) (pairs_at id (k + 1) sites) ≡ []
        → (pairs_at id (k + 1) sites ≡ [] → AllByRecursion (λ (t : Site). bytes_eq t.id id ≡ false) sites) → AllByRecursion (λ (t : Site). bytes_eq t.id id ≡ false) (s ∷ sites)
    by true t h rest = absurd (let no_such : ⊥ = cc in no_such)
    by false t h rest = (t, rest h)

-- what is said of all sites, by what is said of each place
all_sites : (P : Site → Type 0) (all rest : List Site) → ((s : Site) → Contains all s → P s) → ((s : Site) → Contains rest s → Contains all s) → AllByRecursion P rest
all_sites P all [] each sub = tt
all_sites P all (s ∷ rest) each sub = (each s (sub s (Contains-here s rest)), all_sites P all rest each (λ t h. sub t (Contains-there s rest t h)))

at_site : (P : Site → Type 0) (sites : List Site) (s : Site) → AllByRecursion P sites → Contains sites s → P s
at_site P [] s all h = absurd (omega (arith, h.1))
at_site P (t ∷ sites) s all (zero, lt, is) = subst P is all.0
at_site P (t ∷ sites) s all (suc k, lt, is) = at_site P sites s all.1 (k, omega (arith, lt), is)

-- pairs have runs
never_none : (p : Pair) (ps : List Pair) → grown_of (p ∷ ps) ≡ None → ⊥
never_none p ps none = let clash = sym (some-fold ps (first_run p)) ∙ none in cc

some_runs : (cuts : Cuts) (sites : List Site) (s : Site) → AreCuts sites cuts → Contains sites s → (g : Grown) × (found cuts.entries s.id ≡ Some g)
some_runs cuts sites s h there = by (pairs_at s.id 0 sites) refl (found cuts.entries s.id) refl
  where
    by : (ps : List Pair) → pairs_at s.id 0 sites ≡ ps → (o : Option Grown) → found cuts.entries s.id ≡ o → (g : Grown) × (found cuts.entries s.id ≡ Some g)
    by [] is o e =
        let other : bytes_eq s.id s.id ≡ false = at_site (λ (t : Site). bytes_eq t.id s.id ≡ false) sites s (none_is_other s.id 0 sites is) there in
        let same : bytes_eq s.id s.id ≡ true = (bytes_eq-Decides s.id s.id).1 refl in
        absurd (let no_such : ⊥ = cc in no_such)
    by (p ∷ ps) is None e = absurd (never_none p ps (sym (ap grown_of is) ∙ sym (h.runs s.id) ∙ e))
    by (p ∷ ps) is (Some g) e = (g, e)

-- the piece of an entry is that of its chunk
module _ (lanes : List LaneSeen) (sites : List Site) (sized : AllByRecursion (λ (s : Site). size_at lanes s.id ≡ s.size) sites) where
  sizes : (id : List ℕ) (rest : List Site) → AllByRecursion (λ (s : Site). size_at lanes s.id ≡ s.size) rest → AllByRecursion (λ (s : Site). s.id ≡ id → s.size ≡ size_at lanes id) rest
  sizes id [] h = tt
  sizes id (s ∷ rest) h = (λ is. sym h.0 ∙ ap (size_at lanes) is, sizes id rest h.1)

  has_pairs : (id : List ℕ) (g : Grown) → grown_of (pairs_at id 0 sites) ≡ Some g → pairs_at id 0 sites ≢ []
  has_pairs id g is none = let no_runs : None ≡ Some g = sym (ap grown_of none) ∙ is in let no_such : ⊥ = cc in no_such

  is_piece : (cuts : Cuts) (e : Id × Grown) → AreCuts sites cuts → found cuts.entries e.0.items ≡ Some e.1 → IsPiece sites (piece_of lanes e)
  is_piece cuts e h there =
      let runs : grown_of (pairs_at e.0.items 0 sites) ≡ Some e.1 = sym (h.runs e.0.items) ∙ there in
      record {
        some = has_pairs e.0.items e.1 runs;
        runs = runs-grown_of (pairs_at e.0.items 0 sites) e.1 runs;
        size = sizes e.0.items sites sized;
      }

  are_pieces : (cuts : Cuts) (es : List (Id × Grown)) → AreCuts sites cuts → AllByRecursion (λ (e : Id × Grown). found cuts.entries e.0.items ≡ Some e.1) es → AllByRecursion (IsPiece sites) (map (piece_of lanes) es)
  are_pieces cuts [] h there = tt
  are_pieces cuts (e ∷ es) h there = (is_piece cuts e h there.0, are_pieces cuts es h there.1)

  pub pieces_cut : (cuts : Cuts) → AreCuts sites cuts → IsOrdered by_id cuts → ArePieces sites (map (piece_of lanes) cuts.entries)
  pieces_cut cuts h ordered = record {
    sorted = sorted_ids lanes cuts.entries ordered;
    each = are_pieces cuts cuts.entries h (recursion_from_All (λ (e : Id × Grown). found cuts.entries e.0.items ≡ Some e.1) cuts.entries (All-found (on_texts (λ (id : Id). id.items)) cuts ordered));
    all = all_sites (λ (s : Site). Contains (ids_of (map (piece_of lanes) cuts.entries)) s.id) sites sites
        (λ s there. let runs = some_runs cuts sites s h there in found_among lanes cuts.entries s.id runs.0 runs.1) (λ s there. there);
  }

itself : (n : ℕ) → (n == n) ≡ true
itself n = grind (arith, nat_tests)

-- the size of a chunk, by the first lane of its array
size_of_lane : (lanes all : List LaneSeen) (lane : LaneSeen) → HaveOneShape all → Contains all lane → ((l : LaneSeen) → Contains lanes l → Contains all l) → Contains lanes lane
    → size_among lanes lane.array ≡ cell_count lane.chunk
size_of_lane [] all lane same in_all sub there = absurd (omega (arith, there.1))
size_of_lane (l ∷ lanes) all lane same in_all sub there =
    by (l.array == lane.array) refl there (λ in_rest. size_of_lane lanes all lane same in_all (λ m h. sub m (Contains-there l lanes m h)) in_rest)
  where
    by : (b : Bool) → (l.array == lane.array) ≡ b → Contains (l ∷ lanes) lane → (Contains lanes lane → size_among lanes lane.array ≡ cell_count lane.chunk)
        → cond b (cell_count l.chunk) (size_among lanes lane.array) ≡ cell_count lane.chunk
    by true t h rest = ap cell_count (same l lane (sub l (Contains-here l lanes)) in_all (eqb-true l.array lane.array t))
    by false t (zero, lt, is) rest =
        let here : l ≡ lane = is in
        let equal : (l.array == lane.array) ≡ true = ap (λ (m : LaneSeen). m.array == lane.array) here ∙ itself lane.array in
        absurd (let no_such : ⊥ = cc in no_such)
    by false t (suc k, lt, is) rest = rest (k, omega (arith, lt), is)

pub sized_sites : (lanes : List LaneSeen) (leaves numbers : List ℕ) → HaveOneShape lanes → AreTold lanes leaves numbers
    → AllByRecursion (λ (s : Site). size_at lanes s.id ≡ s.size) (told_sites lanes leaves numbers)
sized_sites lanes [] numbers same told = tt
sized_sites lanes (leaf ∷ more) numbers same told =
    let lane = get_or lanes leaf no_lane in
    let there : Contains lanes lane = Contains-get_or lanes leaf no_lane told.0 in
    (size_of_lane lanes lanes lane same there (λ l h. h) there, sized_sites lanes more (drop (length lane.chunk) numbers) same told.2)

-- the answer that is made of all
pub told_pieces : {E : Type 0} (r : Result (List Piece) E) (lanes : List LaneSeen) (sites : List Site) (cuts : Cuts) → AllByRecursion (λ (s : Site). size_at lanes s.id ≡ s.size) sites → AreCuts sites cuts
    → IfOk r (λ pieces. pieces ≡ map (piece_of lanes) cuts.entries) → IsOrdered by_id cuts → IfOk r (λ pieces. ArePieces sites pieces)
told_pieces (Ok pieces) lanes sites cuts sized h is ordered = subst (ArePieces sites) (sym is) (pieces_cut lanes sites sized cuts h ordered)
told_pieces (Err e) lanes sites cuts sized h is ordered = tt
