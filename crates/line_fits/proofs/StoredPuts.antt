-- Words are put in stored arrays where the chunks of their cells are of such arrays.
use Rattle.std.proofs.Common.{◌≡◌, ◌⊎◌, inl, inr, ◌∙◌, ◌<◌, ◌+◌, ◌++◌, ℕ, zero, suc, List, [], ◌∷◌, Bool, length, map, take, get_or, Option, Some, None, Ok, refl, sym, ap, subst, arith, append_assoc, append-nil, add-one}
use Rattle.std.specs.Prelude.{◌↔◌, Contains, filter_map}
use Rattle.std.specs.List.{AllByRecursion, zip}
use Rattle.std.proofs.lemmas.List.{length-map}
use Rattle.std.proofs.lemmas.List.Elements.{Contains-append_left, Contains-append_right}
use Rattle.history.specs.declared.event.Op.{Op}
use Rattle.history.specs.declared.event.Op.TheVariants.{Write}
use Rattle.history.specs.Arrays.{Known, known_after}
use Rattle.history.specs.Commit.{Transaction}
use Rattle.history.specs.CommitRows.{IsChangedOn}
use Rattle.history.specs.History.{History}
use Rattle.history.specs.Legal.{HasTarget}
use Rattle.history.specs.ReadRows.{IsOnMount}
use Rattle.history.specs.Steps.{write_alone}
use Rattle.history.specs.Writes.{Put, put_at, puts_of_op, puts_of}
use Rattle.stack_driver.specs.Targets.{Cell, inwards}
use Rattle.stack_driver.specs.Views.{targets_of}
use Rattle.stack_driver.specs.declared.view.View.{View}
use Rattle.event_replay.specs.Operations.{HasSites}
use Rattle.event_replay.specs.CellPieces.{AreCells, IsPiece, ids_of}
use Rattle.event_replay.specs.Sites.{Site, sites_of}
use Rattle.event_replay.specs.declared.Piece.{Piece}
use Rattle.event_replay.specs.declared.ViewCells.{ViewCells}
use Rattle.event_replay.proofs.Laws.{site_with}
use Rattle.transcript_cut.specs.Transcript.{mount}
use Rattle.event_replay.specs.Sweeps.{IsFront, IsViewIn}
use Rattle.event_replay.proofs.FollowLaws.{leaves_whole}
use Rattle.event_replay.proofs.Fronts.{known_later, known_low, low_known}
use Rattle.event_replay.proofs.Sites.{IsSiteOf, all_present}
use Rattle.event_replay.proofs.Laws.{known_sites}
use Rattle.line_fits.specs.StoredPuts.{AreStored, IsStoredAt, HasStoredPiece, PutsStored}

-- an array that is there and stored
pub stored_is : (events before : History) (opened : ℕ) (stored : List Bool) → IsFront events before opened → AreStored events stored → (a : ℕ)
    → IsStoredAt opened stored a ↔ IsOnMount mount (known_after before a)
stored_is events before opened stored front are a = (there, back (known_after before a) refl)
  where
    there : IsStoredAt opened stored a → IsOnMount mount (known_after before a)
    there at =
        let k = low_known events before opened front a at.there in
        subst (IsOnMount mount) (sym k.1) ((are.each a k.0 (known_later events before opened front a k.0 k.1)).0 at.is)

    back : (o : Option Known) → known_after before a ≡ o → IsOnMount mount o → IsStoredAt opened stored a
    back None none on = absurd on
    back (Some k) known on = record {
      there = known_low events before opened front a k known;
      is = (are.each a k (known_later events before opened front a k known)).1 on;
    }

first : {X : Type 0} (x : X) (xs : List X) → Contains (x ∷ xs) x
first x xs = (0, omega arith, refl)

behind : {X : Type 0} (x y : X) (xs : List X) → Contains xs y → Contains (x ∷ xs) y
behind x y xs (k, low, is) = (suc k, omega (arith, low), is)

-- a site's cell has a word put
put_among : (sites : List Site) (words : List ℕ) (s : Site) → length words ≡ length sites → Contains sites s
    → (w : ℕ) × Contains (filter_map put_at (zip (map (λ (x : Site). Ok x.target) sites) words)) (s.target.cell, w)
put_among [] words s count (k, low, is) = absurd (omega (arith, low))
put_among (x ∷ sites) [] s count there = absurd (omega arith)
put_among (x ∷ sites) (w ∷ words) s count (zero, low, is) = (
  inwards x.target.casts w,
  subst (λ (y : Site). Contains (filter_map put_at (zip (map (λ (z : Site). Ok z.target) (x ∷ sites)) (w ∷ words))) (y.target.cell, inwards x.target.casts w)) is
      (first (x.target.cell, inwards x.target.casts w) (filter_map put_at (zip (map (λ (z : Site). Ok z.target) sites) words))),
)
put_among (x ∷ sites) (w ∷ words) s count (suc k, low, is) =
    let rest = put_among sites words s (omega arith) (k, omega (arith, low), is) in
    (rest.0, behind (x.target.cell, inwards x.target.casts w) (s.target.cell, rest.0) (filter_map put_at (zip (map (λ (z : Site). Ok z.target) sites) words)) rest.1)

-- a word is put at the cell of a site
site_of_put : (sites : List Site) (words : List ℕ) (p : Put) → Contains (filter_map put_at (zip (map (λ (x : Site). Ok x.target) sites) words)) p
    → (s : Site) × Contains sites s × (s.target.cell ≡ p.0)
site_of_put [] words p (k, low, is) = absurd (omega (arith, low))
site_of_put (x ∷ sites) [] p (k, low, is) = absurd (omega (arith, low))
site_of_put (x ∷ sites) (w ∷ words) p (zero, low, is) = (x, first x sites, ap (λ (q : Put). q.0) is)
site_of_put (x ∷ sites) (w ∷ words) p (suc k, low, is) =
    let rest = site_of_put sites words p (k, omega (arith, low), is) in
    (rest.0, behind x rest.0 sites rest.1, rest.2)

-- what holds of all is known of each among them
of_among : {X : Type 0} (P : X → Type 0) (xs : List X) (x : X) → AllByRecursion P xs → Contains xs x → P x
of_among P [] x all (k, low, is) = absurd (omega (arith, low))
of_among P (y ∷ xs) x all (zero, low, is) = subst P is all.0
of_among P (y ∷ xs) x all (suc k, low, is) = of_among P xs x all.1 (k, omega (arith, low), is)

-- each is among all
all_among : {X : Type 0} (xs : List X) → AllByRecursion (λ x. Contains xs x) xs
all_among {X} [] = tt
all_among {X} (x ∷ xs) = (first x xs, further xs (all_among xs))
  where
    further : (ys : List X) → AllByRecursion (λ y. Contains xs y) ys → AllByRecursion (λ y. Contains (x ∷ xs) y) ys
    further [] all = tt
    further (y ∷ ys) all = (behind x y xs all.0, further ys all.1)

-- the piece of an id
piece_of : (pieces : List Piece) (id : List ℕ) → Contains (ids_of pieces) id → (p : Piece) × Contains pieces p × (p.id ≡ id)
piece_of [] id (k, low, is) = absurd (omega (arith, low))
piece_of (p ∷ pieces) id (zero, low, is) = (p, first p pieces, is)
piece_of (p ∷ pieces) id (suc k, low, is) =
    let rest = piece_of pieces id (k, omega (arith, low), is) in
    (rest.0, behind p rest.0 pieces rest.1, rest.2)

both_all : {X : Type 0} (P Q : X → Type 0) (xs : List X) → AllByRecursion P xs → AllByRecursion Q xs → AllByRecursion (λ x. P x × Q x) xs
both_all P Q [] one other = tt
both_all P Q (x ∷ xs) one other = ((one.0, other.0), both_all P Q xs one.1 other.1)

-- a Write puts a word in a stored array where a chunk of its cells is of one
pub write_told : (events before : History) (opened : ℕ) (stored : List Bool) (v : View) (words : List ℕ) (cells : ViewCells) → IsFront events before opened → AreStored events stored
    → IsViewIn events v → HasSites v → AreCells (sites_of v) cells → length words ≡ length (targets_of v)
    → HasStoredPiece opened stored cells.pieces ↔ PutsStored before (puts_of_op (Write v words))
write_told events before opened stored v words cells front are_stored is has are count = (there, back)
  where
    whole : AllByRecursion (IsSiteOf events) (sites_of v)
    whole = all_present events (sites_of v) (known_sites events v (leaves_whole events before opened front v is) has.grids) (subst (AllByRecursion (HasTarget events)) has.targets is.targets)

    many : length words ≡ length (sites_of v)
    many = count ∙ ap length has.targets ∙ length-map (sites_of v) (λ (s : Site). Ok s.target)

    there : HasStoredPiece opened stored cells.pieces → PutsStored before (puts_of_op (Write v words))
    there h =
        let p = of_among (IsPiece (sites_of v)) cells.pieces h.piece are.pieces.each h.among in
        let found = site_with h.piece.id 0 (sites_of v) (λ (s : Site). Contains (sites_of v) s × IsSiteOf events s) p.some (both_all (λ (s : Site). Contains (sites_of v) s) (IsSiteOf events) (sites_of v) (all_among (sites_of v)) whole) in
        let s = found.0 in
        let array : get_or h.piece.id 0 0 ≡ s.target.cell.array = ap (λ (id : List ℕ). get_or id 0 0) (sym found.2 ∙ found.1.1.within.id) in
        let put = put_among (sites_of v) words s many found.1.0 in
        record {
          put = (s.target.cell, put.0);
          among = subst (λ ts. Contains (filter_map put_at (zip ts words)) (s.target.cell, put.0)) (sym has.targets) put.1;
          on_mount = (stored_is events before opened stored front are_stored s.target.cell.array).0 (subst (IsStoredAt opened stored) array h.of_stored);
        }

    back : PutsStored before (puts_of_op (Write v words)) → HasStoredPiece opened stored cells.pieces
    back h =
        let found = site_of_put (sites_of v) words h.put (subst (λ ts. Contains (filter_map put_at (zip ts words)) h.put) has.targets h.among) in
        let s = found.0 in
        let p = piece_of cells.pieces s.id (of_among (λ (x : Site). Contains (ids_of cells.pieces) x.id) (sites_of v) s are.pieces.all found.1) in
        let at = of_among (IsSiteOf events) (sites_of v) s whole found.1 in
        let array : s.target.cell.array ≡ get_or p.0.id 0 0 = ap (λ (id : List ℕ). get_or id 0 0) (sym at.within.id ∙ sym p.2) in
        let on = subst (λ (cell : Cell). IsOnMount mount (known_after before cell.array)) (sym found.2) h.on_mount in
        record {
          piece = p.0;
          among = p.1;
          of_stored = subst (IsStoredAt opened stored) array ((stored_is events before opened stored front are_stored s.target.cell.array).1 on);
        }

-- ---- several operations

pub no_puts : (before : History) → ¬ PutsStored before []
no_puts before h = let low = h.among.1 in omega (arith, low)

-- of two lists of words one has it
puts_either : (before : History) (xs ys : List Put) → PutsStored before (xs ++ ys) → PutsStored before xs ⊎ PutsStored before ys
puts_either before [] ys h = inr h
puts_either before (x ∷ xs) ys h = by h.among (puts_either before xs ys)
  where
    longer : PutsStored before xs ⊎ PutsStored before ys → PutsStored before (x ∷ xs) ⊎ PutsStored before ys
    longer (inl i) = inl (record { put = i.put; among = behind x i.put xs i.among; on_mount = i.on_mount })
    longer (inr j) = inr j

    by : Contains (x ∷ (xs ++ ys)) h.put → (PutsStored before (xs ++ ys) → PutsStored before xs ⊎ PutsStored before ys) → PutsStored before (x ∷ xs) ⊎ PutsStored before ys
    by (zero, low, is) call = inl (record { put = h.put; among = (0, omega arith, is); on_mount = h.on_mount })
    by (suc k, low, is) call = longer (call (record { put = h.put; among = (k, omega (arith, low), is); on_mount = h.on_mount }))

more_puts : (ops : List Op) (i : ℕ) (op : Op) → i < length ops → op ≡ get_or ops i op → puts_of (take (suc i) ops) ≡ puts_of (take i ops) ++ puts_of_op op
more_puts [] i op low is = absurd (omega arith)
more_puts (o ∷ ops) zero op low is = append-nil (puts_of_op o) ∙ ap puts_of_op (sym is)
more_puts (o ∷ ops) (suc i) op low is =
    ap (λ ps. puts_of_op o ++ ps) (more_puts ops i op (omega arith) is) ∙ sym (append_assoc (puts_of_op o) (puts_of (take i ops)) (puts_of_op op))

-- where neither the first operations nor the next one do, no more do
pub none_more : (before : History) (ops : List Op) (i : ℕ) (op : Op) → i < length ops → op ≡ get_or ops i op → ¬ PutsStored before (puts_of (take i ops)) → ¬ PutsStored before (puts_of_op op)
    → ¬ PutsStored before (puts_of (take (i + 1) ops))
none_more before ops i op low is few next h =
    either (puts_either before (puts_of (take i ops)) (puts_of_op op) (subst (λ ps. PutsStored before ps) (ap (λ j. puts_of (take j ops)) (add-one i) ∙ more_puts ops i op low is) h))
  where
    either : PutsStored before (puts_of (take i ops)) ⊎ PutsStored before (puts_of_op op) → ⊥
    either (inl a) = few a
    either (inr b) = next b

among_all : (ops : List Op) (i : ℕ) (op : Op) (p : Put) → i < length ops → op ≡ get_or ops i op → Contains (puts_of_op op) p → Contains (puts_of ops) p
among_all [] i op p low is there = absurd (omega arith)
among_all (o ∷ ops) zero op p low is there = Contains-append_left (puts_of_op o) (puts_of ops) p (subst (λ (x : Op). Contains (puts_of_op x) p) is there)
among_all (o ∷ ops) (suc i) op p low is there = Contains-append_right (puts_of_op o) (puts_of ops) p (among_all ops i op p (omega arith) is there)

-- what one does all do
pub one_puts : (before : History) (ops : List Op) (i : ℕ) (op : Op) → i < length ops → op ≡ get_or ops i op → PutsStored before (puts_of_op op) → PutsStored before (puts_of ops)
one_puts before ops i op low is h = record { put = h.put; among = among_all ops i op h.put low is h.among; on_mount = h.on_mount }

-- operations change a stored array where they put a word in one
pub changed_is : (before : History) (t : Transaction) (ops : List Op) → t.ops ≡ ops → PutsStored before (puts_of ops) ↔ IsChangedOn before t mount
changed_is before t ops same = (
  λ h. record { put = h.put; among = subst (λ (os : List Op). Contains (puts_of os) h.put) (sym same) h.among; on_mount = h.on_mount },
  λ h. record { put = h.put; among = subst (λ (os : List Op). Contains (puts_of os) h.put) same h.among; on_mount = h.on_mount },
)

-- so does a write outside of a transaction
pub write_changed : (before : History) (line : ℕ) (v : View) (words : List ℕ) → PutsStored before (puts_of_op (Write v words)) ↔ IsChangedOn before (write_alone line v words) mount
write_changed before line v words =
    let same : puts_of (Write v words ∷ []) ≡ puts_of_op (Write v words) = append-nil (puts_of_op (Write v words)) in (
      λ h. record { put = h.put; among = subst (λ ps. Contains ps h.put) (sym same) h.among; on_mount = h.on_mount },
      λ h. record { put = h.put; among = subst (λ ps. Contains ps h.put) same h.among; on_mount = h.on_mount },
    )
