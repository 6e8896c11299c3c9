-- Logs and passes of sessions that are taken apart, and what the history says of them in the end.
use Rattle.std.proofs.Common.{◌≡◌, ◌≢◌, ◌∙◌, ℕ, zero, suc, ◌+◌, ◌<◌, Bool, true, false, List, [], ◌∷◌, ◌++◌, length, map, get_or, inl, inr, Some, refl, sym, ap, subst, arith, append-nil, append_assoc, length-append}
use Rattle.std.specs.Prelude.{◌⊎◌, All, Contains}
use Rattle.std.specs.List.{AllByRecursion, slice_get, slice_set}
use Rattle.std.proofs.lemmas.List.{map-append}
use Rattle.std.proofs.lemmas.List.Elements.{Contains-append_left, Contains-append_cases, Contains-push, Contains-push_cases, recursion_from_All}
use mathlib.Core.List.{IsPrefix}
use Rattle.cells.proofs.Laws.{equal_or_not}
use Rattle.answer_text.specs.declared.answer.Answer.{Answer}
use Rattle.answer_text.specs.declared.answer.Body.TheVariants.{Memory}
use Rattle.history.specs.declared.event.Event.{Event}
use Rattle.history.specs.History.{History}
use Rattle.session_runs.specs.Scripts.{HasRunScript}
use Rattle.session_runs.specs.Session.{SessionSeen, numbers_from}
use Rattle.session_workers.specs.Workers.{HasRun, IsFull, AreKept, IsKept, AreSessionLogs, IsWhole, AreWhole, ends_in_want, numbers_in}
use Rattle.session_workers.proofs.Chosen.{below}
use Rattle.state_laws.specs.Agreement.{Opening}
use Rattle.session_runs.specs.TxnTurns.{owner_of}
use Rattle.turn_book.specs.History.{entries_of}
use Rattle.turn_book.specs.Passes.{BookView, PassView, IsIdle, HasNumber}

abbrev pass_number : PassView Event Opening → ℕ
pass_number p = p.number

get_set_same : {A : Type 0} (xs : List A) (n : ℕ) (v : A) → n < length xs → slice_get (slice_set xs n v) n ≡ Some v
get_set_same [] n v low = absurd (omega (arith, low))
get_set_same (x ∷ xs) zero v low = refl
get_set_same (x ∷ xs) (suc n) v low = get_set_same xs n v (omega (arith, low))

get_set_other : {A : Type 0} (xs : List A) (n k : ℕ) (v : A) → k ≢ n → slice_get (slice_set xs n v) k ≡ slice_get xs k
get_set_other [] n k v apart = refl
get_set_other (x ∷ xs) zero zero v apart = absurd (apart refl)
get_set_other (x ∷ xs) zero (suc k) v apart = refl
get_set_other (x ∷ xs) (suc n) zero v apart = refl
get_set_other (x ∷ xs) (suc n) (suc k) v apart = get_set_other xs n k v (λ e. apart (ap suc e))

push_all : {A : Type 0} (P : A → Type 0) (xs : List A) (x : A) → AllByRecursion P xs → P x → AllByRecursion P (xs ++ x ∷ [])
push_all P [] x all is = (is, tt)
push_all P (y ∷ ys) x all is = (all.0, push_all P ys x all.1 is)

numbers_more : (passes : List (PassView Event Opening)) (p : PassView Event Opening) → map pass_number (passes ++ p ∷ []) ≡ map pass_number passes ++ pass_number p ∷ []
numbers_more passes p = map-append pass_number passes (p ∷ [])

some_log : (a b : List Answer) → Some a ≡ Some b → a ≡ b
some_log a b e = cc

module _ (book : BookView Opening) (mounts scripts : List (List ℕ)) (whole : Bool) where
  -- one session more is taken apart
  pub kept_more : (passes : List (PassView Event Opening)) (logs : List (List Answer)) (s : SessionSeen) → s.pass.number < length logs → HasRun book mounts scripts whole s
      → AreKept book mounts scripts whole passes logs → AreKept book mounts scripts whole (passes ++ s.pass ∷ []) (slice_set logs s.pass.number s.log)
  kept_more passes logs s low ran kept = record { idle = push_all (IsIdle book) passes s.pass kept.idle ran.idle; each = each }
    where
      each : (k : ℕ) (log : List Answer) → Contains (map pass_number (passes ++ s.pass ∷ [])) k → slice_get (slice_set logs s.pass.number s.log) k ≡ Some log → IsKept book mounts scripts whole (passes ++ s.pass ∷ []) k log
      each k log has is = by (equal_or_not k s.pass.number)
        where
          by : ((k ≡ s.pass.number) ⊎ (k ≢ s.pass.number)) → IsKept book mounts scripts whole (passes ++ s.pass ∷ []) k log
          by (inl same) = record {
            session = s;
            number_is = sym same;
            log_is = some_log s.log log (sym (get_set_same logs s.pass.number s.log low) ∙ ap (slice_get (slice_set logs s.pass.number s.log)) (sym same) ∙ is);
            run = ran;
            pass = Contains-push passes s.pass;
          }
          by (inr other) =
              let old : IsKept book mounts scripts whole passes k log = kept.each k log (earlier (Contains-push_cases (map pass_number passes) s.pass.number k (subst (λ ns. Contains ns k) (numbers_more passes s.pass) has))) (sym (get_set_other logs s.pass.number k s.log other) ∙ is) in record {
                session = old.session;
                number_is = old.number_is;
                log_is = old.log_is;
                run = old.run;
                pass = Contains-append_left passes (s.pass ∷ []) old.session.pass old.pass;
              }
            where
              earlier : (Contains (map pass_number passes) k ⊎ (s.pass.number ≡ k)) → Contains (map pass_number passes) k
              earlier (inl has) = has
              earlier (inr same) = absurd (other (sym same))

  -- the same of what a pass and a log turned out to be
  pub kept_apart : (passes back : List (PassView Event Opening)) (logs : List (List Answer)) (n : ℕ) (log : List Answer) (s : SessionSeen) → back ≡ passes ++ s.pass ∷ [] → n ≡ s.pass.number → log ≡ s.log → s.pass.number < length logs → HasRun book mounts scripts whole s
      → AreKept book mounts scripts whole passes logs → AreKept book mounts scripts whole back (slice_set logs n log)
  kept_apart passes back logs n log s back_is n_is log_is low ran kept =
      subst (λ ps. AreKept book mounts scripts whole ps (slice_set logs n log)) (sym back_is)
      (subst (λ m. AreKept book mounts scripts whole (passes ++ s.pass ∷ []) (slice_set logs m log)) (sym n_is)
      (subst (λ l. AreKept book mounts scripts whole (passes ++ s.pass ∷ []) (slice_set logs s.pass.number l)) (sym log_is) (kept_more passes logs s low ran kept)))

  pub kept_none : (logs : List (List Answer)) → AreKept book mounts scripts whole [] logs
  kept_none logs = record { idle = tt; each = λ k log has is. absurd (let low = has.1 in omega (arith, low)) }

-- what all passes keep, a pass among them keeps
among : {A : Type 0} (P : A → Type 0) (xs : List A) (x : A) → All P xs → Contains xs x → P x
among P xs x all has = subst P has.2 (all has.0 x has.1)

at_place : (passes : List (PassView Event Opening)) (i k : ℕ) → i < length passes → get_or (map pass_number passes) i k ≡ k → (d : PassView Event Opening) → pass_number (get_or passes i d) ≡ k
at_place [] i k low is d = absurd (omega (arith, low))
at_place (p ∷ passes) zero k low is d = is
at_place (p ∷ passes) (suc i) k low is d = at_place passes i k (omega (arith, low)) is d

length_numbers : (passes : List (PassView Event Opening)) → length (map pass_number passes) ≡ length passes
length_numbers [] = refl
length_numbers (p ∷ passes) = ap suc (length_numbers passes)

-- some pass has the number
pub has_number : (passes : List (PassView Event Opening)) (k : ℕ) → Contains (map pass_number passes) k → HasNumber passes k
has_number passes k has =
    let low : has.0 < length passes = subst (λ n. has.0 < n) (length_numbers passes) has.1 in (has.0, low, at_place passes has.0 k low has.2)

module _ (book : BookView Opening) (mounts scripts : List (List ℕ)) (whole : Bool) (passes : List (PassView Event Opening)) (logs : List (List Answer)) (kept : AreKept book mounts scripts whole passes logs)
    (all : (k : ℕ) → k < length logs → Contains (map pass_number passes) k) where
  at : (k : ℕ) (log : List Answer) → slice_get logs k ≡ Some log → IsKept book mounts scripts whole passes k log
  at k log is = kept.each k log (all k (below logs k log is)) is

  given : (k : ℕ) (script : List ℕ) (log : List Answer) → slice_get scripts k ≡ Some script → (is : slice_get logs k ≡ Some log) → HasRunScript book mounts script (at k log is).session
  given k script log has is = (at k log is).run.given script (ap (slice_get scripts) (at k log is).number_is ∙ has)

  -- the logs over the history in which the sessions have seen beginnings
  pub logs_are : (history : History) → length logs ≡ length scripts → All (λ (p : PassView Event Opening). IsPrefix p.seen history) passes
      → All (λ (p : PassView Event Opening). entries_of owner_of p.number history ≡ p.mine) passes → All (λ (e : Event). e.owner < length scripts) history
      → AreSessionLogs book.fixed mounts scripts history logs
  logs_are history count seen mine owned = record {
    book = book;
    fixed = refl;
    count = count;
    each = λ k script log has is.
        let one = at k log is in record {
          session = one.session;
          number_is = one.number_is;
          log_is = one.log_is;
          run = given k script log has is;
          seen = among (λ (p : PassView Event Opening). IsPrefix p.seen history) passes one.session.pass seen one.pass;
          own = subst (λ n. entries_of owner_of n history ≡ one.session.pass.mine) one.number_is (among (λ (p : PassView Event Opening). entries_of owner_of p.number history ≡ p.mine) passes one.session.pass mine one.pass);
        };
    owners = recursion_from_All (λ (e : Event). e.owner < length scripts) history owned;
  }

  -- each line has its answer, up to want of memory
  pub logs_whole : whole ≡ true → AreWhole mounts scripts logs
  logs_whole so k script log has is = by ((at k log is).run.full so)
    where
      one : IsKept book mounts scripts whole passes k log
      one = at k log is

      run : HasRunScript book mounts script one.session
      run = given k script log has is

      by : IsFull one.session → IsWhole mounts script log
      by (inl going) =
          inl (ap (map (λ (a : Answer). a.line)) (sym one.log_is) ∙ run.on.answered ∙ ap (numbers_from 1) (sym (append-nil run.given) ∙ ap (λ left. run.given ++ left) (sym (run.whole going)) ∙ sym run.parts))
      by (inr want) = inr (subst ends_in_want one.log_is want)

-- rows of sessions, each of which was given its script
module _ (book : BookView Opening) (mounts scripts : List (List ℕ)) where
  with_full : (whole : Bool) (s : SessionSeen) → HasRun book mounts scripts false s → (whole ≡ true → IsFull s) → HasRun book mounts scripts whole s
  with_full whole s ran full = record { small = ran.small; idle = ran.idle; given = ran.given; full = full }

  row_full : (whole : Bool) (row : List SessionSeen) → AllByRecursion (HasRun book mounts scripts false) row → (whole ≡ true → AllByRecursion IsFull row) → AllByRecursion (HasRun book mounts scripts whole) row
  row_full whole [] ran full = tt
  row_full whole (s ∷ row) ran full = (with_full whole s ran.0 (λ so. (full so).0), row_full whole row ran.1 (λ so. (full so).1))

  -- and none ended without an answer, where that is so
  pub rows_full : (whole : Bool) (rows : List (List SessionSeen)) → AllByRecursion (AllByRecursion (HasRun book mounts scripts false)) rows → (whole ≡ true → AllByRecursion (AllByRecursion IsFull) rows)
      → AllByRecursion (AllByRecursion (HasRun book mounts scripts whole)) rows
  rows_full whole [] ran full = tt
  rows_full whole (row ∷ rows) ran full = (row_full whole row ran.0 (λ so. (full so).0), rows_full whole rows ran.1 (λ so. (full so).1))

  row_small : (n : ℕ) (whole : Bool) (row : List SessionSeen) → length scripts ≡ n → AllByRecursion (HasRun book mounts scripts whole) row → AllByRecursion (λ (s : SessionSeen). s.pass.number < n) row
  row_small n whole [] e ran = tt
  row_small n whole (s ∷ row) e ran = (subst (λ m. s.pass.number < m) e ran.0.small, row_small n whole row e ran.1)

  pub rows_small : (n : ℕ) (whole : Bool) (rows : List (List SessionSeen)) → length scripts ≡ n → AllByRecursion (AllByRecursion (HasRun book mounts scripts whole)) rows → AllByRecursion (AllByRecursion (λ (s : SessionSeen). s.pass.number < n)) rows
  rows_small n whole [] e ran = tt
  rows_small n whole (row ∷ rows) e ran = (row_small n whole row e ran.0, rows_small n whole rows e ran.1)

-- what a popped item leaves: all but the last
pub split_all : {A : Type 0} (v : A → SessionSeen) (P : SessionSeen → Type 0) (items rest : List A) (x : A) → items ≡ rest ++ x ∷ [] → AllByRecursion P (map v items) → AllByRecursion P (map v rest) × P (v x)
split_all v P items rest x is all = by rest (subst (λ xs. AllByRecursion P (map v xs)) is all)
  where
    by : (rest : List _) → AllByRecursion P (map v (rest ++ x ∷ [])) → AllByRecursion P (map v rest) × P (v x)
    by [] all = (tt, all.0)
    by (y ∷ ys) all = let more = by ys all.1 in ((all.0, more.0), more.1)

pub split_rows : {A : Type 0} (f : A → List SessionSeen) (P : SessionSeen → Type 0) (items rest : List A) (x : A) → items ≡ rest ++ x ∷ [] → AllByRecursion (AllByRecursion P) (map f items) → AllByRecursion (AllByRecursion P) (map f rest) × AllByRecursion P (f x)
split_rows f P items rest x is all = by rest (subst (λ xs. AllByRecursion (AllByRecursion P) (map f xs)) is all)
  where
    by : (rest : List _) → AllByRecursion (AllByRecursion P) (map f (rest ++ x ∷ [])) → AllByRecursion (AllByRecursion P) (map f rest) × AllByRecursion P (f x)
    by [] all = (tt, all.0)
    by (y ∷ ys) all = let more = by ys all.1 in ((all.0, more.0), more.1)

pub one_less : {A : Type 0} (items rest : List A) (x : A) → items ≡ rest ++ x ∷ [] → length items ≡ length rest + 1
one_less items rest x is = ap length is ∙ length-append rest (x ∷ [])

-- a number of one of the items is that of one of the rest, or of the last
pub split_number : {A : Type 0} (number : A → ℕ) (items rest : List A) (x : A) (k : ℕ) → items ≡ rest ++ x ∷ [] → Contains (map number items) k → Contains (map number rest) k ⊎ (number x ≡ k)
split_number number items rest x k is has = Contains-push_cases (map number rest) (number x) k (subst (λ ns. Contains ns k) (ap (map number) is ∙ map-append number rest (x ∷ [])) has)

pub number_in : {P : Type 0} (number : P → ℕ) (front back : List P) (p : P) (k : ℕ) → back ≡ front ++ p ∷ [] → number p ≡ k → Contains (map number back) k
number_in number front back p k is same = subst (λ n. Contains (map number back) n) same (subst (λ ns. Contains ns (number p)) (sym (ap (map number) is ∙ map-append number front (p ∷ []))) (Contains-push (map number front) (number p)))

pub number_stays : {P : Type 0} (number : P → ℕ) (front back : List P) (p : P) (k : ℕ) → back ≡ front ++ p ∷ [] → Contains (map number front) k → Contains (map number back) k
number_stays number front back p k is has = subst (λ ns. Contains ns k) (sym (ap (map number) is ∙ map-append number front (p ∷ []))) (Contains-append_left (map number front) (number p ∷ []) k has)

pub either_way : {A B C : Type 0} → (A ⊎ B) → (A → C) → (B → C) → C
either_way (inl a) f g = f a
either_way (inr b) f g = g b

flat-push : {A : Type 0} (f : A → List SessionSeen) (rest : List A) (x : A) → numbers_in (map f (rest ++ x ∷ [])) ≡ numbers_in (map f rest) ++ map (λ (s : SessionSeen). s.pass.number) (f x)
flat-push f [] x = append-nil (map (λ (s : SessionSeen). s.pass.number) (f x))
flat-push f (y ∷ ys) x = ap (λ ns. map (λ (s : SessionSeen). s.pass.number) (f y) ++ ns) (flat-push f ys x) ∙ sym (append_assoc (map (λ (s : SessionSeen). s.pass.number) (f y)) (numbers_in (map f ys)) (map (λ (s : SessionSeen). s.pass.number) (f x)))

pub rows_less : {A : Type 0} (f : A → List SessionSeen) (items rest : List A) (x : A) → items ≡ rest ++ x ∷ [] → length (numbers_in (map f items)) ≡ length (numbers_in (map f rest)) + length (map (λ (s : SessionSeen). s.pass.number) (f x))
rows_less f items rest x is = ap (λ xs. length (numbers_in (map f xs))) is ∙ ap length (flat-push f rest x) ∙ length-append (numbers_in (map f rest)) (map (λ (s : SessionSeen). s.pass.number) (f x))

pub split_rows_number : {A : Type 0} (f : A → List SessionSeen) (items rest : List A) (x : A) (k : ℕ) → items ≡ rest ++ x ∷ [] → Contains (numbers_in (map f items)) k → Contains (numbers_in (map f rest)) k ⊎ Contains (map (λ (s : SessionSeen). s.pass.number) (f x)) k
split_rows_number f items rest x k is has =
    Contains-append_cases (numbers_in (map f rest)) (map (λ (s : SessionSeen). s.pass.number) (f x)) k (subst (λ ns. Contains ns k) (ap (λ xs. numbers_in (map f xs)) is ∙ flat-push f rest x) has)

-- no number is among those of no session
pub none_has : (k : ℕ) → Contains {X = ℕ} [] k → ⊥
none_has k has = let low = has.1 in let no_such : ⊥ = omega (arith, low) in no_such

-- numbers of sessions, by their views or by themselves
pub same_numbers : {A : Type 0} (v : A → SessionSeen) (xs : List A) → map (λ (s : SessionSeen). s.pass.number) (map v xs) ≡ map (λ x. (v x).pass.number) xs
same_numbers v [] = refl
same_numbers v (x ∷ xs) = ap (λ ns. (v x).pass.number ∷ ns) (same_numbers v xs)

-- the last answer is at the last place
pub last_want : (log : List Answer) (p : ℕ) (a : Answer) → p + 1 ≡ length log → a ≡ get_or log p a → a.body ≡ Memory → ends_in_want log
last_want [] p a count is want = absurd (omega (arith, count))
last_want (x ∷ []) zero a count is want = subst (λ (b : Answer). b.body ≡ Memory) is want
last_want (x ∷ []) (suc p) a count is want = absurd (omega (arith, count))
last_want (x ∷ y ∷ log) zero a count is want = absurd (omega (arith, count))
last_want (x ∷ y ∷ log) (suc p) a count is want = last_want (y ∷ log) p a (omega (arith, count)) is want

-- rows of sessions, place by place
row_all : {B : Type 0} (v : B → SessionSeen) (P : SessionSeen → Type 0) (xs : List B) → ((k : ℕ) (d : B) → k < length xs → P (v (get_or xs k d))) → AllByRecursion P (map v xs)
row_all v P [] each = tt
row_all v P (x ∷ xs) each = (each 0 x (omega arith), row_all v P xs (λ k d low. each (suc k) d (omega (arith, low))))

pub rows_all : {A B : Type 0} (row_of : A → List B) (v : B → SessionSeen) (P : SessionSeen → Type 0) (xs : List A) → ((i : ℕ) (e : A) → i < length xs → (k : ℕ) (d : B) → k < length (row_of (get_or xs i e)) → P (v (get_or (row_of (get_or xs i e)) k d)))
    → AllByRecursion (AllByRecursion P) (map (λ w. map v (row_of w)) xs)
rows_all row_of v P [] each = tt
rows_all row_of v P (x ∷ xs) each = (row_all v P (row_of x) (each 0 x (omega arith)), rows_all row_of v P xs (λ i e low. each (suc i) e (omega (arith, low))))

pub rows_all_at : {A B : Type 0} (row_of : A → List B) (v : B → SessionSeen) (P : SessionSeen → Type 0) (xs ys : List A) → ys ≡ xs → ((i : ℕ) (e : A) → i < length ys → (k : ℕ) (d : B) → k < length (row_of (get_or ys i e)) → P (v (get_or (row_of (get_or ys i e)) k d)))
    → AllByRecursion (AllByRecursion P) (map (λ w. map v (row_of w)) xs)
rows_all_at row_of v P xs ys same each = subst (λ zs. AllByRecursion (AllByRecursion P) (map (λ w. map v (row_of w)) zs)) same (rows_all row_of v P ys each)
