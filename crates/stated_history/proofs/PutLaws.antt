-- Commits at their numbers, one number after another.
use Rattle.std.proofs.Common.{◌≡◌, ◌≢◌, ◌∙◌, ◌<◌, ◌≤◌, ◌+◌, ℕ, zero, suc, List, [], ◌∷◌, ◌⊎◌, inl, inr, Bool, true, false, cond, Option, Some, None, set, length, get_or, refl, sym, ap, arith, eqb-true, eq-eqb}
use Rattle.std.specs.Prelude.{◌==◌, option_map, slice_index_or, unwrap_or}
use Rattle.std.specs.List.{AllByRecursion, slice_get}
use Rattle.cells.proofs.Laws.{true_or_false}
use Rattle.history.specs.declared.event.Event.{Event}
use Rattle.history.specs.History.{History}
use Rattle.stated_history.specs.Commits.{kind_in, is_undone, event_with}
use Rattle.stated_history.specs.declared.putting.Commit.{Commit}

-- what holds of each spot
pub spot_at : (P : ℕ → Type 0) (spots : List ℕ) (k : ℕ) → AllByRecursion P spots → k < length spots → P (get_or spots k 0)
spot_at P [] k all low = absurd (omega (arith, low))
spot_at P (n ∷ ns) zero all low = all.0
spot_at P (n ∷ ns) (suc k) all low = spot_at P ns k all.1 (omega (arith, low))

set_here : (xs : History) (k : ℕ) (x e : Event) → slice_get xs k ≡ Some e → slice_get (set xs k x) k ≡ Some x
set_here [] k x e is = absurd (cc)
set_here (y ∷ xs) zero x e is = refl
set_here (y ∷ xs) (suc k) x e is = set_here xs k x e is

set_other : (xs : History) (k j : ℕ) (x : Event) → j ≢ k → slice_get (set xs k x) j ≡ slice_get xs j
set_other [] k j x other = refl
set_other (y ∷ xs) zero zero x other = absurd (other refl)
set_other (y ∷ xs) zero (suc j) x other = refl
set_other (y ∷ xs) (suc k) zero x other = refl
set_other (y ∷ xs) (suc k) (suc j) x other = set_other xs k j x (λ same. other (ap suc same))

set_itself : (xs : History) (k : ℕ) (x : Event) → slice_get xs k ≡ Some x → xs ≡ set xs k x
set_itself [] k x is = refl
set_itself (y ∷ xs) zero x is = let same : y ≡ x = cc in ap (λ z. z ∷ xs) same
set_itself (y ∷ xs) (suc k) x is = ap (λ ys. y ∷ ys) (set_itself xs k x is)

pub set_count : (xs : History) (k : ℕ) (x : Event) → length (set xs k x) ≡ length xs
set_count [] k x = refl
set_count (y ∷ xs) zero x = refl
set_count (y ∷ xs) (suc k) x = ap suc (set_count xs k x)

-- the first k events are as they will be, and the others as they were
pub record ArePutUpTo (f : ℕ → Event → Event) (old new : History) (k : ℕ) : Type 0 where
  pub done : (j : ℕ) → j < k → slice_get new j ≡ option_map (f j) (slice_get old j)
  pub rest : (j : ℕ) → k ≤ j → slice_get new j ≡ slice_get old j
  pub count : length new ≡ length old

pub put_more : (f : ℕ → Event → Event) (old new later : History) (k : ℕ) (e : Event) → ArePutUpTo f old new k → slice_get new k ≡ Some e → later ≡ set new k (f k e) → ArePutUpTo f old later (k + 1)
put_more f old new later k e are at is = record {
  done = λ j low. by j low (true_or_false (j == k));
  rest = λ j high. ap (λ (h : History). slice_get h j) is ∙ set_other new k j (f k e) (λ same. let no : ⊥ = omega (arith, high, same) in no) ∙ are.rest j (omega (arith, high));
  count = ap length is ∙ set_count new k (f k e) ∙ are.count;
}
  where
    by : (j : ℕ) → j < k + 1 → ((j == k) ≡ true) ⊎ ((j == k) ≡ false) → slice_get later j ≡ option_map (f j) (slice_get old j)
    by j low (inl here) =
        let same = eqb-true j k here in
        ap (λ (h : History). slice_get h j) is ∙ ap (slice_get (set new k (f k e))) same ∙ set_here new k (f k e) e at
        ∙ sym (ap (λ i. option_map (f i) (slice_get old i)) same ∙ ap (option_map (f k)) (sym (are.rest k (omega arith)) ∙ at))
    by j low (inr apart) =
        let other : j ≢ k = λ same. (let yes : true ≡ false = sym (eq-eqb j k same) ∙ apart in cc) in
        ap (λ (h : History). slice_get h j) is ∙ set_other new k j (f k e) other ∙ are.done j (omega (arith, low, other))

none_past : (xs : History) (j : ℕ) → length xs ≤ j → slice_get xs j ≡ None
none_past [] j past = refl
none_past (x ∷ xs) zero past = absurd (omega (arith, past))
none_past (x ∷ xs) (suc j) past = none_past xs j (omega (arith, past))

-- below a number, or not
below_or : (j k : ℕ) → (j < k) ⊎ (k ≤ j)
below_or j zero = inr (omega arith)
below_or zero (suc k) = inl (omega arith)
below_or (suc j) (suc k) = elim (below_or j k) [ inl low ↦ inl (omega (arith, low)) | inr high ↦ inr (omega (arith, high)) ]

-- where all are, each is as it will be
pub put_all : (f : ℕ → Event → Event) (old new : History) (k : ℕ) → ArePutUpTo f old new k → length old ≤ k → (j : ℕ) → slice_get new j ≡ option_map (f j) (slice_get old j)
put_all f old new k are all j = by (below_or j k)
  where
    by : (j < k) ⊎ (k ≤ j) → slice_get new j ≡ option_map (f j) (slice_get old j)
    by (inl below) = are.done j below
    by (inr high) =
        let past : length old ≤ j = omega (arith, all, high) in
        are.rest j high ∙ none_past old j past ∙ sym (ap (option_map (f j)) (none_past old j past))

-- one that stands for no commit, or at whose number none is known, stays
pub stays_put : (xs : History) (k : ℕ) (c : Option Commit) (e : Event) → slice_get xs k ≡ Some e → is_undone e.kind ≡ false → xs ≡ set xs k (event_with c e)
stays_put xs k c e is other = set_itself xs k e is ∙ ap (set xs k) (sym (ap (λ b. cond b (record { owner = e.owner; kind = unwrap_or (option_map kind_in c) e.kind }) e) other))

pub stays_none : (xs : History) (k : ℕ) (e : Event) → slice_get xs k ≡ Some e → xs ≡ set xs k (event_with None e)
stays_none xs k e is = set_itself xs k e is ∙ ap (set xs k) (by (is_undone e.kind))
  where
    by : (b : Bool) → e ≡ cond b (record { owner = e.owner; kind = e.kind }) e
    by true = refl
    by false = refl

pub comes_put : (k : ℕ) (xs later : History) (c : Commit) (e : Event) → is_undone e.kind ≡ true → later ≡ set xs k (record { owner = e.owner; kind = kind_in c }) → later ≡ set xs k (event_with (Some c) e)
comes_put k xs later c e is told = told ∙ ap (set xs k) (sym (ap (λ b. cond b (record { owner = e.owner; kind = kind_in c }) e) is))

-- what is read at a place is what stands there
pub read_as : (xs : List (Option Commit)) (i : ℕ) (x : Option Commit) → i < length xs → x ≡ get_or xs i x → x ≡ slice_index_or xs i None
read_as [] i x low is = absurd (omega (arith, low))
read_as (y ∷ xs) zero x low is = is
read_as (y ∷ xs) (suc i) x low is = read_as xs i x (omega (arith, low)) is

pub event_there : (xs : History) (k : ℕ) → k < length xs → (e : Event) × (slice_get xs k ≡ Some e)
event_there [] k low = absurd (omega (arith, low))
event_there (x ∷ xs) zero low = (x, refl)
event_there (x ∷ xs) (suc k) low = event_there xs k (omega (arith, low))

pub event_read : (xs : History) (k : ℕ) (x e : Event) → k < length xs → x ≡ get_or xs k x → slice_get xs k ≡ Some e → x ≡ e
event_read [] k x e low is at = absurd (omega (arith, low))
event_read (y ∷ xs) zero x e low is at = let same : y ≡ e = cc in is ∙ same
event_read (y ∷ xs) (suc k) x e low is at = event_read xs k x e (omega (arith, low)) is at
