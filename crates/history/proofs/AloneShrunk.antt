-- The array that a session alone finds shrunk is the one with the least metadata key.
use Rattle.std.proofs.Common.{◌≡◌, ℕ, zero, suc, ◌≤◌, List, [], ◌∷◌, length, map, take, Bool, true, false, cond, Option, Some, None, refl, sym, ap, subst, ◌∙◌, eq-eqb, arith}
use Rattle.std.specs.Prelude.{Contains, IsTrue, ◌==◌, ◌||◌, not, filter, fold, max}
use Rattle.std.specs.List.{AllByRecursion}
use Rattle.std.proofs.Math.Seq.{take-length}
use Rattle.kv_face.specs.Store.{Contents}
use Rattle.stack_driver.specs.declared.view.View.{View}
use Rattle.stack_driver.specs.Targets.{Cell, is_cell}
use Rattle.history.specs.History.{History}
use Rattle.history.specs.Arrays.{Known, known_after}
use Rattle.history.specs.Chunks.{is_chunk, chunk_of}
use Rattle.history.specs.Commit.{Key, Transaction, is_before}
use Rattle.history.specs.Legal.{IsLegal, is_present}
use Rattle.history.specs.Reads.{Marks, has_mark, is_put, unwritten}
use Rattle.history.specs.ReadRows.{IsShrunkBy}
use Rattle.history.specs.Refusals.{metadata_key_at, key_of_array, mark_at, was_outside, cells_outside, last_mark, IsShrunkCommit}
use Rattle.history.specs.Single.{Outside, lesser, outside_by, first_outside}
use Rattle.history.specs.Store.{resized_after, HasMetadataKey}
use Rattle.history.specs.Writes.{Put, puts_of}
use Rattle.history.proofs.AloneReads.{AreMarkedAt}
use Rattle.history.proofs.Apart.{one_metadata}
use Rattle.history.proofs.Shrinks.{never_itself, other_way, not_under, same_key}
use Rattle.history.proofs.Ordering.{same_text}
use Rattle.history.proofs.Staged.{same_cell, or_right}
use Rattle.history.proofs.Written.{same_cells}

-- a cell outside its array's shape, and the metadata key of the array
pub record IsOutsideCell (events : History) (x : Cell) (key : Key) : Type 0 where
  pub outside : is_present events x ≡ false
  pub named : metadata_key_at events x ≡ Some key

-- such a cell of the list, with its array's number
record IsAmong (events : History) (xs : List Cell) (o : Outside) : Type 0 where
  cell : Cell
  among : Contains xs cell
  is_outside : IsOutsideCell events cell o.key
  number : o.array ≡ cell.array

abbrev IsLeastOf : History → List Cell → Outside → Type 0
IsLeastOf events xs o = (x : Cell) (key : Key) → Contains xs x → IsOutsideCell events x key → is_before key o.key ≡ false

-- what the list gives: nothing, where no cell is outside; else one that is outside, with the least key
IsFirst : History → List Cell → Option Outside → Type 0
IsFirst events xs None = (x : Cell) (key : Key) → Contains xs x → IsOutsideCell events x key → ⊥
IsFirst events xs (Some o) = IsAmong events xs o × IsLeastOf events xs o

in_rest : {A : Type 0} (x : A) (xs : List A) (y : A) → Contains xs y → Contains (x ∷ xs) y
in_rest x xs y (k, low, is) = (suc k, omega arith, is)

in_cons : {A : Type 0} (P : A → Type 0) (x : A) (xs : List A) → P x → ((y : A) → Contains xs y → P y) → (y : A) → Contains (x ∷ xs) y → P y
in_cons P x xs here rest y (zero, low, is) = subst P is here
in_cons P x xs here rest y (suc k, low, is) = rest y (k, omega arith, is)

more_among : (events : History) (x : Cell) (xs : List Cell) (o : Outside) → IsAmong events xs o → IsAmong events (x ∷ xs) o
more_among events x xs o a = record { cell = a.cell; among = in_rest x xs a.cell a.among; is_outside = a.is_outside; number = a.number }

-- a first cell that doesn't count
skipped : (events : History) (x : Cell) (xs : List Cell) (o : Option Outside) → ((key : Key) → IsOutsideCell events x key → ⊥) → IsFirst events xs o → IsFirst events (x ∷ xs) o
unfolding IsFirst
skipped events x xs None never first = λ y k there outside. in_cons (λ z. IsOutsideCell events z k → ⊥) x xs (never k) (λ z among. first z k among) y there outside
skipped events x xs (Some o) never first = (more_among events x xs o first.0, λ y k there outside. in_cons (λ z. IsOutsideCell events z k → is_before k o.key ≡ false) x xs (λ out. absurd (never k out)) (λ z among. first.1 z k among) y there outside)

at_first_cell : (events : History) (x : Cell) (k l : Key) → IsOutsideCell events x k → IsOutsideCell events x l → k ≡ l
at_first_cell events x k l here out = same_key (metadata_key_at events x) k l here.named out.named

choose : (events : History) (x : Cell) (xs : List Cell) (k : Key) (p : Outside) (b : Bool) → IsOutsideCell events x k → is_before p.key k ≡ b → IsAmong events xs p → IsLeastOf events xs p
    → IsAmong events (x ∷ xs) (cond b p (record { key = k; array = x.array })) × IsLeastOf events (x ∷ xs) (cond b p (record { key = k; array = x.array }))
choose events x xs k p true here is among least = (
  more_among events x xs p among,
  λ y l there outside. in_cons (λ z. IsOutsideCell events z l → is_before l p.key ≡ false) x xs (λ out. subst (λ j. is_before j p.key ≡ false) (at_first_cell events x k l here out) (other_way p.key k is)) (λ z in_xs. least z l in_xs) y there outside,
)
choose events x xs k p false here is among least = (
  record { cell = x; among = (0, omega arith, refl); is_outside = here; number = refl },
  λ y l there outside. in_cons (λ z. IsOutsideCell events z l → is_before l k ≡ false) x xs (λ out. subst (λ j. is_before j k ≡ false) (at_first_cell events x k l here out) (never_itself k)) (λ z in_xs out. not_under l k p.key (least z l in_xs out) is) y there outside,
)

chosen : (events : History) (x : Cell) (xs : List Cell) (k : Key) (o : Option Outside) → IsOutsideCell events x k → IsFirst events xs o → IsFirst events (x ∷ xs) (Some (lesser (record { key = k; array = x.array }) o))
unfolding IsFirst
chosen events x xs k None here first = (
  record { cell = x; among = (0, omega arith, refl); is_outside = here; number = refl },
  λ y l there outside. in_cons (λ z. IsOutsideCell events z l → is_before l k ≡ false) x xs (λ out. subst (λ j. is_before j k ≡ false) (at_first_cell events x k l here out) (never_itself k)) (λ z in_xs out. absurd (first z l in_xs out)) y there outside,
)
chosen events x xs k (Some p) here first = choose events x xs k p (is_before p.key k) here refl first.0 first.1

step_by : (events : History) (x : Cell) (xs : List Cell) (o : Option Outside) (named : Option Key) → metadata_key_at events x ≡ named → is_present events x ≡ false → IsFirst events xs o → IsFirst events (x ∷ xs) (outside_by named x o)
step_by events x xs o None is outside first = skipped events x xs o (λ k out. let named = out.named in cc) first
step_by events x xs o (Some k) is outside first = chosen events x xs k o (record { outside = outside; named = is }) first

step_first : (events : History) (x : Cell) (xs : List Cell) (b : Bool) → is_present events x ≡ b → IsFirst events xs (first_outside events xs) → IsFirst events (x ∷ xs) (cond b (first_outside events xs) (outside_by (metadata_key_at events x) x (first_outside events xs)))
step_first events x xs true is first = skipped events x xs (first_outside events xs) (λ k out. let outside = out.outside in cc) first
step_first events x xs false is first = step_by events x xs (first_outside events xs) (metadata_key_at events x) refl is first

none_first : (events : History) (xs : List Cell) → IsFirst events xs None → (x : Cell) (k : Key) → Contains xs x → IsOutsideCell events x k → ⊥
unfolding IsFirst
none_first events xs first = first

some_first : (events : History) (xs : List Cell) (o : Outside) → IsFirst events xs (Some o) → IsAmong events xs o × IsLeastOf events xs o
unfolding IsFirst
some_first events xs o first = first

first_is : (events : History) (xs : List Cell) → IsFirst events xs (first_outside events xs)
unfolding IsFirst
first_is events [] = λ x k there outside. let low = there.1 in omega arith
first_is events (x ∷ xs) = step_first events x xs (is_present events x) refl (first_is events xs)

-- where nothing is found, no cell is outside
pub nothing_outside : (events : History) (xs : List Cell) → first_outside events xs ≡ None → (x : Cell) (k : Key) → Contains xs x → IsOutsideCell events x k → ⊥
nothing_outside events xs none = none_first events xs (subst (IsFirst events xs) none (first_is events xs))

-- what is found is outside, and has the least key
pub record IsLeast (events : History) (xs : List Cell) (o : Outside) : Type 0 where
  pub cell : Cell
  pub among : Contains xs cell
  pub outside : IsOutsideCell events cell o.key
  pub number : o.array ≡ cell.array
  pub least : (x : Cell) (k : Key) → Contains xs x → IsOutsideCell events x k → is_before k o.key ≡ false

pub something_outside : (events : History) (xs : List Cell) (o : Outside) → first_outside events xs ≡ Some o → IsLeast events xs o
something_outside events xs o some =
    let parts = some_first events xs o (subst (IsFirst events xs) some (first_is events xs)) in
    record { cell = parts.0.cell; among = parts.0.among; outside = parts.0.is_outside; number = parts.0.number; least = parts.1 }

has_key : (events : History) (a : ℕ) (key : Key) (o : Option Known) → known_after events a ≡ o → key_of_array o ≡ Some key → (k : Known) × HasMetadataKey events a k key
has_key events a key None is named = absurd (cc)
has_key events a key (Some k) is named = (k, record { known = is; named = named })

-- arrays with one metadata key are one array
pub same_array : (start : Contents) (events : History) (x y : Cell) (key : Key) → IsLegal start events → metadata_key_at events x ≡ Some key → metadata_key_at events y ≡ Some key → x.array ≡ y.array
same_array start events x y key legal one other =
    let k = has_key events x.array key (known_after events x.array) refl one in
    let l = has_key events y.array key (known_after events y.array) refl other in
    one_metadata start events legal x.array y.array k.0 l.0 key k.1 l.1

-- what is found is what the least key says
pub record IsFound (events : History) (xs : List Cell) (key : Key) (array : ℕ) : Type 0 where
  pub found : Outside
  pub is_found : first_outside events xs ≡ Some found
  pub key_is : found.key ≡ key
  pub number : found.array ≡ array

pub found_outside : (start : Contents) (events : History) (xs : List Cell) (x : Cell) (key : Key) → IsLegal start events → Contains xs x → IsOutsideCell events x key → ((y : Cell) (l : Key) → Contains xs y → IsOutsideCell events y l → is_before l key ≡ false) → IsFound events xs key x.array
found_outside start events xs x key legal there outside least = by_found (first_outside events xs) refl
  where
    by_found : (o : Option Outside) → first_outside events xs ≡ o → IsFound events xs key x.array
    by_found None is = absurd (nothing_outside events xs is x key there outside)
    by_found (Some o) is =
        let a = something_outside events xs o is in
        let low : is_before key o.key ≡ false = a.least x key there outside in
        let high : is_before o.key key ≡ false = least a.cell o.key a.among a.outside in
        let same : o.key ≡ key = same_text o.key key high low in
        record { found = o; is_found = is; key_is = same; number = a.number ∙ same_array start events a.cell x key legal (a.outside.named ∙ ap Some same) outside.named }

-- one of a list of puts is at the cell, and back
pub put_among : (puts : List Put) (x : Cell) → is_put puts x ≡ true → Contains (map (λ (p : Put). p.0) puts) x
put_among [] x is = absurd (cc)
put_among (p ∷ ps) x is = by_test (is_cell p.0 x) refl is (put_among ps x)
  where
    by_test : (b : Bool) → is_cell p.0 x ≡ b → (b || is_put ps x) ≡ true → (is_put ps x ≡ true → Contains (map (λ (q : Put). q.0) ps) x) → Contains (map (λ (q : Put). q.0) (p ∷ ps)) x
    by_test true here any next = (0, omega arith, same_cells p.0 x here)
    by_test false here any next = in_rest p.0 (map (λ (q : Put). q.0) ps) x (next any)

pub among_put : (puts : List Put) (x : Cell) → Contains (map (λ (p : Put). p.0) puts) x → is_put puts x ≡ true
among_put [] x (k, low, is) = absurd (omega arith)
among_put (p ∷ ps) x (zero, low, is) = ap (λ b. b || is_put ps x) (subst (λ y. is_cell p.0 y ≡ true) is (same_cell p.0))
among_put (p ∷ ps) x (suc k, low, is) = or_right (is_cell p.0 x) (is_put ps x) (among_put ps x (k, omega arith, is))

-- where a commit is shrunk, the written cells have that array first
pub shrunk_commit : (start : Contents) (events : History) (t : Transaction) (key : Key) (now : ℕ) → IsLegal start events → (shrunk : IsShrunkCommit events t key now) → IsFound events (map (λ (p : Put). p.0) (puts_of t.ops)) key shrunk.cell.array
shrunk_commit start events t key now legal shrunk =
    let out = shrunk.is_outside in
    found_outside start events (map (λ (p : Put). p.0) (puts_of t.ops)) shrunk.cell key legal (put_among (puts_of t.ops) shrunk.cell out.written) (record { outside = out.outside; named = out.named })
    (λ y l there o. shrunk.least y l (record { written = among_put (puts_of t.ops) y there; outside = o.outside; named = o.named }))

-- the mark of a chunk that has one, where all are the same
pub mark_found : (n : ℕ) (marks : Marks) (x : Cell) (events : History) → AreMarkedAt n marks → has_mark marks (chunk_of events x) ≡ true → mark_at events marks x ≡ n
mark_found n [] x events at has = absurd (cc)
mark_found n (m ∷ ms) x events at has = found (is_chunk m.0 (chunk_of events x)) m.1 (mark_at events ms x) at.0 has (mark_found n ms x events at.1)
  where
    found : (b : Bool) (m rest : ℕ) {r : Bool} → m ≡ n → (b || r) ≡ true → (r ≡ true → rest ≡ n) → cond b m rest ≡ n
    found true m rest here has next = here
    found false m rest here has next = next has

pub contained : {A : Type 0} (P : A → Type 0) (xs : List A) → AllByRecursion P xs → (x : A) → Contains xs x → P x
contained P [] all x (k, low, is) = absurd (omega arith)
contained P (y ∷ ys) all x (zero, low, is) = subst P is all.0
contained P (y ∷ ys) all x (suc k, low, is) = contained P ys all.1 x (k, omega arith, is)

pub among_kept : {A : Type 0} (p : A → Bool) (xs : List A) (x : A) → Contains xs x → p x ≡ true → Contains (filter p xs) x
among_kept p [] x (k, low, is) yes_is = absurd (omega arith)
among_kept p (y ∷ ys) x there yes_is = by_test (p y) refl there (λ rest. among_kept p ys x rest yes_is)
  where
    by_test : (b : Bool) → p y ≡ b → Contains (y ∷ ys) x → (Contains ys x → Contains (filter p ys) x) → Contains (cond b (y ∷ filter p ys) (filter p ys)) x
    by_test true here (zero, low, is) next = (0, omega arith, is)
    by_test true here (suc k, low, is) next = in_rest y (filter p ys) x (next (k, omega arith, is))
    by_test false here (zero, low, is) next = let clash : true ≡ false = sym yes_is ∙ ap p (sym is) ∙ here in absurd (cc)
    by_test false here (suc k, low, is) next = next (k, omega arith, is)

pub kept_among : {A : Type 0} (p : A → Bool) (xs : List A) (x : A) → Contains (filter p xs) x → Contains xs x × (p x ≡ true)
kept_among p [] x (k, low, is) = absurd (omega arith)
kept_among p (y ∷ ys) x there = by_test (p y) refl there (kept_among p ys x)
  where
    more : Contains ys x × (p x ≡ true) → Contains (y ∷ ys) x × (p x ≡ true)
    more rest = (in_rest y ys x rest.0, rest.1)

    by_test : (b : Bool) → p y ≡ b → Contains (cond b (y ∷ filter p ys) (filter p ys)) x → (Contains (filter p ys) x → Contains ys x × (p x ≡ true)) → Contains (y ∷ ys) x × (p x ≡ true)
    by_test true here (zero, low, is) next = ((0, omega arith, is), ap p (sym is) ∙ here)
    by_test true here (suc k, low, is) next = more (next (k, omega arith, is))
    by_test false here in_rest_of next = more (next in_rest_of)

-- the greatest mark is the present, where all marks are
module _ (events : History) (marks : Marks) (array n : ℕ) where
  abbrev greater : ℕ → Cell → ℕ
  greater m x = cond (x.array == array) (max m (mark_at events marks x)) m

  stays_at : (xs : List Cell) → AllByRecursion (λ x. mark_at events marks x ≡ n) xs → (m : ℕ) → m ≡ n → fold greater m xs ≡ n
  stays_at [] all m is = is
  stays_at (x ∷ xs) all m is = stays_at xs all.1 (greater m x) (kept (x.array == array) m (mark_at events marks x) is all.0)
    where
      kept : (b : Bool) (m k : ℕ) → m ≡ n → k ≡ n → cond b (max m k) m ≡ n
      kept true m k is at = omega arith
      kept false m k is at = is

  reaches : (xs : List Cell) → AllByRecursion (λ x. mark_at events marks x ≡ n) xs → (y : Cell) → Contains xs y → y.array ≡ array → (m : ℕ) → m ≤ n → fold greater m xs ≡ n
  reaches [] all y (k, low, is) same m le = absurd (omega arith)
  reaches (x ∷ xs) all y (zero, low, is) same m le =
      let here : (x.array == array) ≡ true = eq-eqb x.array array (ap (λ (c : Cell). c.array) is ∙ same) in
      stays_at xs all.1 (greater m x) (ap (λ b. cond b (max m (mark_at events marks x)) m) here ∙ grown m (mark_at events marks x) all.0 le)
    where
      grown : (m k : ℕ) → k ≡ n → m ≤ n → max m k ≡ n
      grown m k at le = omega arith
  reaches (x ∷ xs) all y (suc k, low, is) same m le = reaches xs all.1 y (k, omega arith, is) same (greater m x) (under (x.array == array) m (mark_at events marks x) all.0 le)
    where
      under : (b : Bool) (m k : ℕ) → k ≡ n → m ≤ n → cond b (max m k) m ≤ n
      under true m k at le = omega arith
      under false m k at le = le

pub each_of : {A : Type 0} (P : A → Type 0) (xs : List A) → ((x : A) → Contains xs x → P x) → AllByRecursion P xs
each_of P [] each = tt
each_of P (x ∷ xs) each = (each x (0, omega arith, refl), each_of P xs (λ y there. each y (in_rest x xs y there)))

not_false : (b : Bool) → not b ≡ true → b ≡ false
not_false true is = absurd (cc)
not_false false is = refl

-- where a read is shrunk with all marks at the present, so have the cells that it needs
pub shrunk_read : (start : Contents) (events : History) (seen : ℕ) (t : Transaction) (view : View) (key : Key) (now : ℕ) → IsLegal start events → (shrunk : IsShrunkBy events seen t view key now) → AreMarkedAt (length events) shrunk.marks
    → IsFound events (unwritten t.ops view) key shrunk.shrunk.cell.array × (now ≡ resized_after events shrunk.shrunk.cell.array)
shrunk_read start events seen t view key now legal shrunk at =
    let cells : List Cell = unwritten t.ops view in
    let marks : Marks = shrunk.marks in
    let out = shrunk.shrunk in
    let at_present : (x : Cell) → Contains cells x → mark_at events marks x ≡ length events = λ x there. mark_found (length events) marks x events at (contained (λ y. IsTrue (has_mark marks (chunk_of events y))) cells shrunk.marked.each x there) in
    let was_is : (x : Cell) → Contains cells x → was_outside events marks x ≡ not (is_present events x) = λ x there. ap (λ h. not (is_present h x)) (ap (λ m. take m events) (at_present x there) ∙ take-length events) in
    let parts = kept_among (was_outside events marks) cells out.cell out.counts in
    let outside : is_present events out.cell ≡ false = not_false (is_present events out.cell) (sym (was_is out.cell parts.0) ∙ parts.1) in
    let all : AllByRecursion (λ x. mark_at events marks x ≡ length events) (cells_outside events marks t view) =
    each_of (λ x. mark_at events marks x ≡ length events) (cells_outside events marks t view) (λ x there. at_present x (kept_among (was_outside events marks) cells x there).0) in
    let last : last_mark events marks out.cell.array (cells_outside events marks t view) ≡ length events = reaches events marks out.cell.array (length events) (cells_outside events marks t view) all out.cell out.counts refl 0 (omega arith) in (
      found_outside start events cells out.cell key legal parts.0 (record { outside = outside; named = out.named })
          (λ y l there o. out.least y (among_kept (was_outside events marks) cells y there (was_is y there ∙ ap not o.outside)) l o.named),
      out.number ∙ ap (λ h. resized_after h out.cell.array) (ap (λ m. take m events) last ∙ take-length events),
    )
