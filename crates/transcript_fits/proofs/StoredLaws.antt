-- Which arrays lie on the mount.
use Rattle.std.proofs.Common.{◌≡◌, ◌↔◌, ◌∙◌, ◌⊎◌, inl, inr, ◌<◌, ◌≤◌, ◌+◌, ℕ, zero, suc, List, [], ◌∷◌, ◌++◌, get_or, Bool, true, false, cond, Option, Some, None, length, refl, sym, ap, subst, arith, eq-eqb}
use Rattle.std.specs.Prelude.{◌==◌, IsTrue, count_by}
use Rattle.std.specs.FinMap as finmap
use Rattle.cells.proofs.Laws.{less_or_not}
use Rattle.history.specs.declared.array.ArrayInfo.{ArrayInfo}
use Rattle.history.specs.declared.event.Kind.{Kind}
use Rattle.history.specs.declared.event.Kind.TheVariants.{Opened, Done, Resized, Fault}
use Rattle.history.specs.History.{History}
use Rattle.history.specs.Arrays.{Known, known_after, known_step, known_reshaped}
use Rattle.history.specs.Legal.{IsLegal, IsLegalKind, is_opening, opens}
use Rattle.history.specs.ReadRows.{IsOnMount, mount_of}
use Rattle.history.proofs.Laws.{each_history, legal_step, known_after-more, known_below}
use Rattle.open_fits.proofs.Laws.{count_more}
use Rattle.open_fits.specs.StoredPuts.{AreStored}
use Rattle.stated_history.specs.Transcript.{mount}

-- an array is there
abbrev IsThere : Option Known → Type 0
IsThere o = (k : Known) × (o ≡ Some k)

reshaped_there : (shape : List ℕ) (o : Option Known) → IsThere o → IsThere (known_reshaped shape o)
reshaped_there shape None is = absurd (let clash : None ≡ Some is.0 = is.1 in cc)
reshaped_there shape (Some k) is = (_, refl)

-- each number below the count of the arrays is one of them
pub known_there : (a : ℕ) (h : History) → IsLegal finmap.empty h → a < count_by is_opening h → IsThere (known_after h a)
known_there a =
    each_history (λ h. IsLegal finmap.empty h → a < count_by is_opening h → IsThere (known_after h a)) (λ legal less. absurd (omega (arith, less)))
    (λ h e before legal less.
    let parts = legal_step finmap.empty h e legal in
    subst IsThere (sym (known_after-more h e a)) (by h e.kind parts.1 (before parts.0) (subst (λ n. a < n) (count_more h e) less)))
  where
    opened : (h : History) (info : ArrayInfo) (b : Bool) → (info.number == a) ≡ b → info.number ≡ count_by is_opening h → (a < count_by is_opening h → IsThere (known_after h a)) → a < count_by is_opening h + 1
        → IsThere (cond b (Some (record { info = info; opened = length h + 1; shape = info.shape })) (known_after h a))
    opened h info true test number before less = (_, refl)
    opened h info false test number before less =
        elim (less_or_not a (count_by is_opening h)) [
          | inl early ↦ before early
          | inr late ↦
              let same : info.number ≡ a = omega (arith, number, late, less) in
              let clash : false ≡ true = sym test ∙ ap (λ n. n == a) same ∙ eq-eqb a a refl in
              absurd (cc)
        ]

    resized : (shape : List ℕ) (b : Bool) (o : Option Known) → IsThere o → IsThere (cond b (known_reshaped shape o) o)
    resized shape true o is = reshaped_there shape o is
    resized shape false o is = is

    by : (h : History) (kind : Kind) → IsLegalKind finmap.empty h kind → (a < count_by is_opening h → IsThere (known_after h a)) → a < count_by is_opening h + cond (opens kind) 1 0 → IsThere (known_step a h kind (known_after h a))
    by h (Opened info) legal before less = opened h info (info.number == a) refl legal.number before less
    by h (Done line mode ops key) legal before less = before (omega (arith, less))
    by h (Resized b shape) legal before less = resized shape (b == a) (known_after h a) (before (omega (arith, less)))
    by h (Fault mount) legal before less = before (omega (arith, less))

-- of the first so many arrays it is told whether they lie on the mount
pub record AreStoredUpTo (events : History) (many : ℕ) (stored : List Bool) : Type 0 where
  pub long : length stored ≡ many
  pub each : (a : ℕ) (k : Known) → a < many → known_after events a ≡ Some k → IsTrue (get_or stored a false) ↔ (mount_of k.info.home ≡ Some mount)

pub none_stored : (events : History) → AreStoredUpTo events 0 []
none_stored events = record { long = refl; each = λ a k low known. absurd (omega (arith, low)) }

got_first : (xs : List Bool) (x : Bool) (n : ℕ) → n < length xs → get_or (xs ++ x ∷ []) n false ≡ get_or xs n false
got_first [] x n low = absurd (omega (arith, low))
got_first (y ∷ xs) x zero low = refl
got_first (y ∷ xs) x (suc n) low = got_first xs x n (omega (arith, low))

got_last : (xs : List Bool) (x : Bool) (n : ℕ) → n ≡ length xs → get_or (xs ++ x ∷ []) n false ≡ x
got_last [] x zero is = refl
got_last [] x (suc n) is = absurd (omega (arith, is))
got_last (y ∷ xs) x zero is = absurd (omega (arith, is))
got_last (y ∷ xs) x (suc n) is = got_last xs x n (omega (arith, is))

long_more : (xs : List Bool) (x : Bool) → length (xs ++ x ∷ []) ≡ length xs + 1
long_more [] x = refl
long_more (y ∷ xs) x = let rest = long_more xs x in omega (arith, rest)

-- one more
pub stored_more : (events : History) (many : ℕ) (stored : List Bool) (b : Bool) → IsTrue b ↔ IsOnMount mount (known_after events many) → AreStoredUpTo events many stored → AreStoredUpTo events (many + 1) (stored ++ b ∷ [])
stored_more events many stored b tells are = record {
  long = long_more stored b ∙ ap (λ n. n + 1) are.long;
  each = λ a k low known. by a k low known (less_or_not a many);
}
  where
    by : (a : ℕ) (k : Known) → a < many + 1 → known_after events a ≡ Some k → (a < many) ⊎ (many ≤ a) → IsTrue (get_or (stored ++ b ∷ []) a false) ↔ (mount_of k.info.home ≡ Some mount)
    by a k low known (inl under) =
        let long = are.long in
        subst (λ c. IsTrue c ↔ (mount_of k.info.home ≡ Some mount)) (sym (got_first stored b a (omega (arith, under, long)))) (are.each a k under known)
    by a k low known (inr over) =
        let long = are.long in
        let same : many ≡ a = omega (arith, low, over) in
        subst (λ c. IsTrue c ↔ (mount_of k.info.home ≡ Some mount)) (sym (got_last stored b a (omega (arith, same, long))))
        (subst (λ o. IsTrue b ↔ IsOnMount mount o) (ap (known_after events) same ∙ known) tells)

pub all_stored : (events : History) (many : ℕ) (stored : List Bool) → IsLegal finmap.empty events → count_by is_opening events ≤ many → AreStoredUpTo events many stored → AreStored events stored
all_stored events many stored legal all are = record {
  each = λ a k known. let low = known_below finmap.empty a events legal k known in are.each a k (omega (arith, low, all)) known;
}
