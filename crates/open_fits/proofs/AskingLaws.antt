-- Questions of open lines, one after another.
use Rattle.std.proofs.Common.{◌≡◌, ◌↔◌, ℕ, zero, suc, ◌+◌, ◌<◌, ◌≤◌, inl, inr, List, [], ◌∷◌, ◌++◌, length, take, drop, Bool, true, false, Some, refl, sym, ap, subst, ◌∙◌, arith}
use Rattle.std.specs.Prelude.{IsTrue, slice_index_or}
use Rattle.std.specs.List.{AllByRecursion, slice_get}
use Rattle.std.specs.List.Sorted.{IsPermutation, IsSortedByKey}
use Rattle.std.specs.FinMap as finmap
use Rattle.std.specs.Ordering.{is_lt, nat_cmp}
use Rattle.std.proofs.lemmas.Bool.Decides.{nat_tests}
use Rattle.std.proofs.lemmas.List.{take-append-drop}
use Rattle.std.proofs.lemmas.List.Elements.{All-from_recursion, recursion_from_All}
use Rattle.std.proofs.lemmas.List.Sorted.{All-permutation, IsPermutation-sym}
use Rattle.locations.specs.Paths.{Located}
use Rattle.history.specs.declared.event.Event.{Event}
use Rattle.history.specs.Arrays.{known_after}
use Rattle.history.specs.History.{History}
use Rattle.history.specs.Legal.{IsLegal}
use Rattle.history.specs.Places.{IsTable}
use Rattle.history.proofs.Laws.{legal_take, known-longer, opened_itself, as_opened, table_none}
use Rattle.read_fits.specs.Still.{AreStill}
use Rattle.history.proofs.Tests.{equal_or_not}
use Rattle.read_fits.specs.Outcomes.{AreKeptOf}
use Rattle.open_fits.specs.Asking.{moment_of_question}
use Rattle.open_fits.specs.Opens.{IsRefusedFrom, IsRefusedAt}
use Rattle.open_fits.proofs.Outcomes.{take_front}
use Rattle.open_fits.specs.declared.questions.OpenQuestion.{OpenQuestion}

still_take : (m : ℕ) (h : History) → AreStill h → AreStill (take m h)
still_take zero [] still = tt
still_take zero (e ∷ h) still = tt
still_take (suc m) [] still = tt
still_take (suc m) (e ∷ h) still = (still.0, still_take m h still.1)

-- the tables of the first events
pub kept_early : (events : History) (opened : List ℕ) (all places : Located) (m : ℕ) → AreKeptOf events opened all → IsTable (take m events) places → AreKeptOf (take m events) opened places
kept_early events opened all places m kept table = record {
  legal = legal_take finmap.empty events m kept.legal;
  still = still_take m events kept.still;
  numbered = λ a k is.
      let parts : take m events ++ drop m events ≡ events = take-append-drop m events in
      let longer = known-longer finmap.empty (take m events) a k.info k.opened (opened_itself (known_after (take m events) a) k is) (drop m events) (subst (IsLegal finmap.empty) (sym parts) kept.legal) in
      let known = as_opened k.info k.opened (known_after (take m events ++ drop m events) a) longer in
      kept.numbered a known.0 (ap (λ (h : History). known_after h a) (sym parts) ∙ known.1) ∙ ap Some known.3;
  table = table;
}

-- what holds of all holds of them in another order
pub moved_all : {X : Type 0} (P : X → Type 0) (xs ys : List X) → IsPermutation xs ys → AllByRecursion P xs → AllByRecursion P ys
moved_all P xs ys moves all = recursion_from_All P ys (All-permutation P xs ys moves (All-from_recursion P xs all))

pub moved_told : {X : Type 0} (P : X → Type 0) (xs ys : List X) (is : Bool) → IsPermutation xs ys → IsTrue is ↔ AllByRecursion P ys → IsTrue is ↔ AllByRecursion P xs
moved_told P xs ys is moves told = ((λ right. moved_all P ys xs (IsPermutation-sym xs ys moves) (told.0 right)), (λ all. told.1 (moved_all P xs ys moves all)))

-- one more, and one that isn't
pub all_more : {X : Type 0} (P : X → Type 0) (xs : List X) (k : ℕ) (x : X) → slice_get xs k ≡ Some x → AllByRecursion P (take k xs) → P x → AllByRecursion P (take (suc k) xs)
all_more P [] k x at all is = let no : ⊥ = cc in absurd no
all_more P (y ∷ xs) zero x at all is = let same : x ≡ y = cc in (subst P same is, tt)
all_more P (y ∷ xs) (suc k) x at all is = (all.0, all_more P xs k x at all.1 is)

pub all_at : {X : Type 0} (P : X → Type 0) (xs : List X) (k : ℕ) (x : X) → slice_get xs k ≡ Some x → AllByRecursion P xs → P x
all_at P [] k x at all = let no : ⊥ = cc in absurd no
all_at P (y ∷ xs) zero x at all = let same : y ≡ x = cc in subst P same all.0
all_at P (y ∷ xs) (suc k) x at all = all_at P xs k x at all.1

-- leaf after leaf of a question
module _ (h : History) (q : OpenQuestion) where
  pub refused_here : (place : ℕ) (b : Bool) → q.first ≤ place → place < q.end → IsTrue b ↔ IsRefusedFrom h q place → b ≡ true → IsTrue true ↔ IsRefusedAt h q
  refused_here place b behind below told right = ((λ yet. record { place = place; behind = behind; below = below; refused = told.0 right }), (λ at. refl))

  pub not_here : (place : ℕ) (b : Bool) → ((k : ℕ) → q.first ≤ k → k < place → ¬ IsRefusedFrom h q k) → IsTrue b ↔ IsRefusedFrom h q place → b ≡ false → (k : ℕ) → q.first ≤ k → k < place + 1 → ¬ IsRefusedFrom h q k
  not_here place b before told isnt k low less = elim (equal_or_not k place) [
    | inl same ↦ (λ from. let clash : true ≡ false = sym (told.1 (subst (IsRefusedFrom h q) same from)) ∙ isnt in cc)
    | inr other ↦ before k low (omega (arith, less, other))
  ]

  pub not_at_all : (place : ℕ) → q.end ≤ place → ((k : ℕ) → q.first ≤ k → k < place → ¬ IsRefusedFrom h q k) → IsTrue false ↔ IsRefusedAt h q
  not_at_all place done none = ((λ never. let no : ⊥ = cc in absurd no), (λ at. let below = at.below in absurd (none at.place at.behind (omega (arith, below, done)) at.refused)))

-- question after question
module _ (h : History) (qs : List OpenQuestion) where
  pub one_unrefused : (k : ℕ) (q : OpenQuestion) (b : Bool) → slice_get qs k ≡ Some q → IsTrue b ↔ IsRefusedAt h q → b ≡ false → IsTrue false ↔ AllByRecursion (IsRefusedAt h) qs
  one_unrefused k q b at told isnt =
      ((λ never. let no : ⊥ = cc in absurd no), (λ all. let clash : true ≡ false = sym (told.1 (all_at (IsRefusedAt h) qs k q at all)) ∙ isnt in cc))

  pub all_next : (k : ℕ) (q : OpenQuestion) (b : Bool) → slice_get qs k ≡ Some q → AllByRecursion (IsRefusedAt h) (take k qs) → IsTrue b ↔ IsRefusedAt h q → b ≡ true → AllByRecursion (IsRefusedAt h) (take (k + 1) qs)
  all_next k q b at before told right =
      let same : suc k ≡ k + 1 = omega arith in
      subst (λ m. AllByRecursion (IsRefusedAt h) (take m qs)) same (all_more (IsRefusedAt h) qs k q at before (told.0 right))

  take_all : {X : Type 0} (xs : List X) → take (length xs) xs ≡ xs
  take_all [] = refl
  take_all (x ∷ xs) = ap (λ ys. x ∷ ys) (take_all xs)

  pub all_refused : (k : ℕ) → length qs ≡ k → AllByRecursion (IsRefusedAt h) (take k qs) → IsTrue true ↔ AllByRecursion (IsRefusedAt h) qs
  all_refused k count all = ((λ yet. subst (AllByRecursion (IsRefusedAt h)) (ap (λ m. take m qs) (sym count) ∙ take_all qs) all), (λ more. refl))

-- an order of moments
pub risen : (a b : ℕ) → is_lt (nat_cmp b a) ≡ false → a ≤ b
risen a b is = grind (arith, nat_tests, is)

item_is : (qs : List OpenQuestion) (k : ℕ) (q d : OpenQuestion) → slice_get qs k ≡ Some q → slice_index_or qs k d ≡ q
item_is [] k q d at = let no : ⊥ = cc in absurd no
item_is (p ∷ qs) zero q d at = cc
item_is (p ∷ qs) (suc k) q d at = item_is qs k q d at

less_than : (qs : List OpenQuestion) (k : ℕ) (q : OpenQuestion) → slice_get qs k ≡ Some q → k < length qs
less_than [] k q at = let no : ⊥ = cc in absurd no
less_than (p ∷ qs) zero q at = omega arith
less_than (p ∷ qs) (suc k) q at = let rest = less_than qs k q at in omega (arith, rest)

pub in_order : (qs : List OpenQuestion) → IsSortedByKey moment_of_question nat_cmp qs → (i : ℕ) (q : OpenQuestion) → slice_get qs i ≡ Some q → (seen : ℕ) → (i ≡ 0 → seen ≡ 0) → ((k : ℕ) (p : OpenQuestion) → i ≡ suc k → seen ≡ (slice_index_or qs k p).moment) → seen ≤ q.moment
in_order qs sorted zero q at seen begin later = let none = begin refl in omega (arith, none)
in_order qs sorted (suc k) q at seen begin later =
    let less = less_than qs (suc k) q at in
    let same : k + 1 ≡ suc k = omega arith in
    let here : slice_index_or qs (k + 1) q ≡ q = ap (λ m. slice_index_or qs m q) same ∙ item_is qs (suc k) q q at in
    let next = subst (λ (x : OpenQuestion). is_lt (nat_cmp x.moment (slice_index_or qs k q).moment) ≡ false) here (sorted k q (omega arith) (omega (arith, less))) in
    let up = risen (slice_index_or qs k q).moment q.moment next in
    let was = later k q refl in
    omega (arith, up, was)

pub moment_then : (qs : List OpenQuestion) (i k : ℕ) (q p : OpenQuestion) → slice_get qs i ≡ Some q → i + 1 ≡ suc k → q.moment ≡ (slice_index_or qs k p).moment
moment_then qs i k q p at is =
    let same : i ≡ k = omega (arith, is) in
    ap (λ (x : OpenQuestion). x.moment) (sym (ap (λ m. slice_index_or qs m p) (sym same) ∙ item_is qs i q p at))

-- the table behind one event more
pub table_next : (events : History) (places : Located) (n : ℕ) (e : Event) → slice_get events n ≡ Some e → IsTable (take n events ++ e ∷ []) places → IsTable (take (n + 1) events) places
table_next events places n e at table =
    let same : suc n ≡ n + 1 = omega arith in
    subst (λ m. IsTable (take m events) places) same (subst (λ h. IsTable h places) (sym (take_front events n e at)) table)

-- no event yet
pub none_yet : (events : History) (places : Located) → places ≡ finmap.empty → IsTable (take 0 events) places
none_yet [] places is = subst (IsTable []) (sym is) table_none
none_yet (e ∷ events) places is = subst (IsTable []) (sym is) table_none
