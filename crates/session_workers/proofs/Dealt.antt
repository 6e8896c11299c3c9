-- The sessions of workers, as lists.
use Rattle.std.proofs.Common.{◌≡◌, ◌≢◌, ◌∙◌, ℕ, zero, suc, ◌+◌, ◌<◌, ◌≤◌, false, List, [], ◌∷◌, ◌++◌, length, map, get_or, inl, inr, refl, sym, ap, subst, arith, length-append}
use Rattle.std.specs.Prelude.{◌⊎◌, Contains}
use Rattle.std.specs.List.{AllByRecursion, AllZip, slice_set}
use Rattle.std.proofs.lemmas.List.{map-append}
use Rattle.std.proofs.lemmas.List.Elements.{Contains-append_left, Contains-append_right, Contains-push, Contains-append_cases}
use Rattle.cells.proofs.Laws.{equal_or_not, less_or_not}
use Rattle.session_runs.specs.Session.{SessionSeen}
use Rattle.session_workers.specs.Workers.{AreDealt, AreWorked, HasRun, numbers_in, with_session}
use Rattle.state_laws.specs.Agreement.{Opening}
use Rattle.turn_book.specs.Passes.{BookView}

abbrev number_of : SessionSeen → ℕ
number_of s = s.pass.number

-- a worker gets one session more
pub added : {A B : Type 0} (row_of : A → List B) (v : B → SessionSeen) (xs : List A) (k : ℕ) (y d : A) (b : B) → k < length xs → row_of y ≡ row_of (get_or xs k d) ++ b ∷ []
    → map (λ w. map v (row_of w)) (slice_set xs k y) ≡ with_session k (v b) (map (λ w. map v (row_of w)) xs)
added row_of v [] k y d b low is = absurd (omega (arith, low))
added row_of v (x ∷ xs) zero y d b low is = ap (λ row. row ∷ map (λ w. map v (row_of w)) xs) (ap (map v) is ∙ map-append v (row_of x) (b ∷ []))
added row_of v (x ∷ xs) (suc k) y d b low is = ap (λ rows. map v (row_of x) ∷ rows) (added row_of v xs k y d b (omega (arith, low)) is)

push_all : {A : Type 0} (P : A → Type 0) (xs : List A) (x : A) → AllByRecursion P xs → P x → AllByRecursion P (xs ++ x ∷ [])
push_all P [] x all is = (is, tt)
push_all P (y ∷ ys) x all is = (all.0, push_all P ys x all.1 is)

module _ (P : SessionSeen → Type 0) (s : SessionSeen) (keeps : P s) where
  keep_more : (k : ℕ) (rows : List (List SessionSeen)) → AllByRecursion (AllByRecursion P) rows → AllByRecursion (AllByRecursion P) (with_session k s rows)
  keep_more k [] all = tt
  keep_more zero (row ∷ rows) all = (push_all P row s all.0 keeps, all.1)
  keep_more (suc k) (row ∷ rows) all = (all.0, keep_more k rows all.1)

row_numbers : (row : List SessionSeen) (s : SessionSeen) → map number_of (row ++ s ∷ []) ≡ map number_of row ++ number_of s ∷ []
row_numbers row s = map-append number_of row (s ∷ [])

total_more : (k : ℕ) (s : SessionSeen) (rows : List (List SessionSeen)) → k < length rows → length (numbers_in (with_session k s rows)) ≡ length (numbers_in rows) + 1
total_more k s [] low = absurd (omega (arith, low))
total_more zero s (row ∷ rows) low =
    let one = length-append (map number_of (row ++ s ∷ [])) (numbers_in rows) in
    let two = ap length (row_numbers row s) in
    let three = length-append (map number_of row) (number_of s ∷ []) in
    let four = length-append (map number_of row) (numbers_in rows) in
    omega (arith, one, two, three, four)
total_more (suc k) s (row ∷ rows) low =
    let rest = total_more k s rows (omega (arith, low)) in
    let one = length-append (map number_of row) (numbers_in (with_session k s rows)) in
    let two = length-append (map number_of row) (numbers_in rows) in
    omega (arith, rest, one, two)

has_new : (k : ℕ) (s : SessionSeen) (rows : List (List SessionSeen)) → k < length rows → Contains (numbers_in (with_session k s rows)) (number_of s)
has_new k s [] low = absurd (omega (arith, low))
has_new zero s (row ∷ rows) low = Contains-append_left (map number_of (row ++ s ∷ [])) (numbers_in rows) (number_of s) (subst (λ ns. Contains ns (number_of s)) (sym (row_numbers row s)) (Contains-push (map number_of row) (number_of s)))
has_new (suc k) s (row ∷ rows) low = Contains-append_right (map number_of row) (numbers_in (with_session k s rows)) (number_of s) (has_new k s rows (omega (arith, low)))

has_old : (k : ℕ) (s : SessionSeen) (rows : List (List SessionSeen)) (n : ℕ) → Contains (numbers_in rows) n → Contains (numbers_in (with_session k s rows)) n
has_old k s [] n has = has
has_old zero s (row ∷ rows) n has = by (Contains-append_cases (map number_of row) (numbers_in rows) n has)
  where
    by : (Contains (map number_of row) n ⊎ Contains (numbers_in rows) n) → Contains (map number_of (row ++ s ∷ []) ++ numbers_in rows) n
    by (inl mine) = Contains-append_left (map number_of (row ++ s ∷ [])) (numbers_in rows) n (subst (λ ns. Contains ns n) (sym (row_numbers row s)) (Contains-append_left (map number_of row) (number_of s ∷ []) n mine))
    by (inr rest) = Contains-append_right (map number_of (row ++ s ∷ [])) (numbers_in rows) n rest
has_old (suc k) s (row ∷ rows) n has = by (λ rest. has_old k s rows n rest) (Contains-append_cases (map number_of row) (numbers_in rows) n has)
  where
    by : (Contains (numbers_in rows) n → Contains (numbers_in (with_session k s rows)) n) → (Contains (map number_of row) n ⊎ Contains (numbers_in rows) n) → Contains (map number_of row ++ numbers_in (with_session k s rows)) n
    by later (inl mine) = Contains-append_left (map number_of row) (numbers_in (with_session k s rows)) n mine
    by later (inr rest) = Contains-append_right (map number_of row) (numbers_in (with_session k s rows)) n (later rest)

-- below a bound, and not the last
less : (m n : ℕ) → m < n + 1 → m ≢ n → m < n
less m n small apart = by (less_or_not m n)
  where
    by : ((m < n) ⊎ (n ≤ m)) → m < n
    by (inl is) = is
    by (inr high) = absurd (apart (omega (arith, small, high)))

-- one session more is dealt
pub dealt_more : (P : SessionSeen → Type 0) (rows : List (List SessionSeen)) (n k : ℕ) (s : SessionSeen) → k < length rows → AreDealt P rows n → P s → s.pass.number ≡ n → AreDealt P (with_session k s rows) (n + 1)
dealt_more P rows n k s low are keeps is =
    let more = total_more k s rows low in
    let total = are.total in
    record {
      keep = keep_more P s keeps k rows are.keep;
      total = omega (arith, more, total);
      each = λ m small. by m small;
    }
  where
    by : (m : ℕ) → m < n + 1 → Contains (numbers_in (with_session k s rows)) m
    by m small = split (equal_or_not m n)
      where
        split : ((m ≡ n) ⊎ (m ≢ n)) → Contains (numbers_in (with_session k s rows)) m
        split (inl same) = subst (λ x. Contains (numbers_in (with_session k s rows)) x) (is ∙ sym same) (has_new k s rows low)
        split (inr other) = has_old k s rows m (are.each m (less m n small other))

-- before the first no session is dealt
pub dealt_none : (P : SessionSeen → Type 0) (rows : List (List SessionSeen)) → AllByRecursion (λ row. row ≡ []) rows → AreDealt P rows 0
dealt_none P rows empty = record { keep = keep rows empty; total = ap length (none rows empty); each = λ k small. absurd (omega (arith, small)) }
  where
    keep : (rows : List (List SessionSeen)) → AllByRecursion (λ row. row ≡ []) rows → AllByRecursion (AllByRecursion P) rows
    keep [] all = tt
    keep (row ∷ rest) all = (subst (AllByRecursion P) (sym all.0) tt, keep rest all.1)

    none : (rows : List (List SessionSeen)) → AllByRecursion (λ row. row ≡ []) rows → numbers_in rows ≡ []
    none [] all = refl
    none (row ∷ rest) all = ap (λ r. map number_of r ++ numbers_in rest) all.0 ∙ none rest all.1

-- sessions that were worked have the numbers that they had
module _ (book : BookView Opening) (mounts scripts : List (List ℕ)) where
  worked_numbers : (old new : List SessionSeen) → AreWorked book mounts scripts old new → map number_of new ≡ map number_of old
  worked_numbers [] [] are = refl
  worked_numbers [] (n ∷ ns) are = absurd are
  worked_numbers (o ∷ os) [] are = absurd are
  worked_numbers (o ∷ os) (n ∷ ns) are = ap (λ k. k ∷ map number_of ns) are.0.number ∙ ap (λ ks. number_of o ∷ ks) (worked_numbers os ns are.1)

  worked_run : (old new : List SessionSeen) → AreWorked book mounts scripts old new → AllByRecursion (HasRun book mounts scripts false) new
  worked_run [] [] are = tt
  worked_run [] (n ∷ ns) are = absurd are
  worked_run (o ∷ os) [] are = absurd are
  worked_run (o ∷ os) (n ∷ ns) are = (are.0.run, worked_run os ns are.1)

  rows_numbers : (old new : List (List SessionSeen)) → AllZip (AreWorked book mounts scripts) old new → numbers_in new ≡ numbers_in old
  rows_numbers [] [] are = refl
  rows_numbers [] (n ∷ ns) are = absurd are
  rows_numbers (o ∷ os) [] are = absurd are
  rows_numbers (o ∷ os) (n ∷ ns) are = ap (λ ks. ks ++ numbers_in ns) (worked_numbers o n are.0) ∙ ap (λ ks. map number_of o ++ ks) (rows_numbers os ns are.1)

  rows_run : (old new : List (List SessionSeen)) → AllZip (AreWorked book mounts scripts) old new → AllByRecursion (AllByRecursion (HasRun book mounts scripts false)) new
  rows_run [] [] are = tt
  rows_run [] (n ∷ ns) are = absurd are
  rows_run (o ∷ os) [] are = absurd are
  rows_run (o ∷ os) (n ∷ ns) are = (worked_run o n are.0, rows_run os ns are.1)

  -- so they are dealt as they were
  pub worked_dealt : (P : SessionSeen → Type 0) (old new : List (List SessionSeen)) (count : ℕ) → AllZip (AreWorked book mounts scripts) old new → AreDealt P old count → AreDealt (HasRun book mounts scripts false) new count
  worked_dealt P old new count worked dealt =
      let same = rows_numbers old new worked in
      record {
        keep = rows_run old new worked;
        total = ap length same ∙ dealt.total;
        each = λ k small. subst (λ ns. Contains ns k) (sym same) (dealt.each k small);
      }

-- what holds at each place of two lists
pub zip_of : {A : Type 0} {B : Type 0} (f : A → B) (R : B → B → Type 0) (old new : List A) → length new ≡ length old → ((i : ℕ) (d : A) → i < length old → R (f (get_or old i d)) (f (get_or new i d))) → AllZip R (map f old) (map f new)
zip_of f R [] [] e each = tt
zip_of f R [] (n ∷ ns) e each = absurd (omega (arith, e))
zip_of f R (o ∷ os) [] e each = absurd (omega (arith, e))
zip_of f R (o ∷ os) (n ∷ ns) e each = (each 0 o (omega arith), zip_of f R os ns (omega (arith, e)) (λ i d low. each (suc i) d (omega (arith, low))))

-- workers without sessions
pub empty_rows : {A B : Type 0} (row_of : A → List B) (v : B → SessionSeen) (xs : List A) → ((k : ℕ) (d : A) → k < length xs → row_of (get_or xs k d) ≡ []) → AllByRecursion (λ row. row ≡ []) (map (λ w. map v (row_of w)) xs)
empty_rows row_of v [] each = tt
empty_rows row_of v (x ∷ xs) each = (ap (map v) (each 0 x (omega arith)), empty_rows row_of v xs (λ k d low. each (suc k) d (omega (arith, low))))

pub mapped_length : {A B : Type 0} (f : A → B) (xs : List A) → length (map f xs) ≡ length xs
mapped_length f [] = refl
mapped_length f (x ∷ xs) = ap suc (mapped_length f xs)

-- one session more is dealt to a worker
pub dealt_step : {A B : Type 0} (row_of : A → List B) (v : B → SessionSeen) (P : SessionSeen → Type 0) (old new : List A) (n k m : ℕ) (b : B) → k < length old
    → map (λ w. map v (row_of w)) new ≡ with_session k (v b) (map (λ w. map v (row_of w)) old) → AreDealt P (map (λ w. map v (row_of w)) old) n → P (v b) → (v b).pass.number ≡ n → m ≡ n + 1 → AreDealt P (map (λ w. map v (row_of w)) new) m
dealt_step row_of v P old new n k m b low is are keeps number more =
    subst (λ rows. AreDealt P rows m) (sym is)
    (subst (AreDealt P (with_session k (v b) (map (λ w. map v (row_of w)) old))) (sym more)
    (dealt_more P (map (λ w. map v (row_of w)) old) n k (v b) (subst (λ l. k < l) (sym (mapped_length (λ w. map v (row_of w)) old)) low) are keeps number))

pub nil_of : {A : Type 0} (xs : List A) → length xs ≡ 0 → xs ≡ []
nil_of [] none = refl
nil_of (x ∷ xs) none = absurd (omega (arith, none))
