-- Which numbers of events a line may print, by its act.
use Rattle.std.proofs.Common.{◌≡◌, ◌∙◌, ◌+◌, ℕ, List, [], ◌∷◌, ◌++◌, Bool, true, false, Option, Some, None, Ok, Err, length, refl, sym, ap, subst, arith}
use Rattle.std.specs.Prelude.{◌↔◌, ◌&&◌, ◌||◌, filter_map, is_some, not}
use Rattle.std.proofs.lemmas.List.{length-append, map-append}
use Rattle.serde_json.specs.Data.{Data}
use Rattle.history.specs.Acts.{Asked, write_act}
use Rattle.history.specs.Commit.{Transaction}
use Rattle.history.specs.History.{History}
use Rattle.history.specs.Own.{Numbered, numbers_of}
use Rattle.history.specs.Steps.{write_alone}
use Rattle.line_acts.specs.Openings.{leaves_of}
use Rattle.stated_arrays.specs.declared.OpenPlan.{OpenPlan}
use Rattle.stack_driver.specs.declared.view.View.{View}
use Rattle.stated_arrays.specs.AnswerNumbers.{PrintsNumbers}
use Rattle.stated_arrays.specs.Claimed.{opening_of, stated_asked, faults_at, commits_at}
use Rattle.stated_arrays.specs.Takings.{takings}
use Rattle.stated_arrays.specs.ToldNumbers.{single, opened_in, done_in, failed_in, numbers_in}
use Rattle.stated_arrays.specs.declared.EventNumbers.{EventNumbers}
use Rattle.stated_acts.specs.Acts.{IsActBy}
use Rattle.stated_acts.specs.Printing.{OpensAll, is_empty, ends_none, may_by}
use Rattle.stated_acts.specs.declared.acts.Act.{Act}
use Rattle.stated_acts.specs.declared.acts.Act.TheVariants.{Refused, Opens, Binds, Reads, Writes, Begins, Commits, Aborts}

empty_to : (ns : List ℕ) → is_empty ns ≡ true → ns ≡ []
empty_to [] is = refl
empty_to (n ∷ ns) is = let no : ⊥ = cc in absurd no

empty_from : (ns : List ℕ) → ns ≡ [] → is_empty ns ≡ true
empty_from ns is = ap is_empty is

no_item : (ns : List ℕ) → length ns ≡ 0 → ns ≡ []
no_item [] is = refl
no_item (n ∷ ns) is = let no : ⊥ = omega (arith, is) in absurd no

both : (a b : Bool) → a ≡ true → b ≡ true → (a && b) ≡ true
both true true x y = refl
both true false x y = y
both false b x y = x

first_of_both : (a b : Bool) → (a && b) ≡ true → a ≡ true
first_of_both true b is = refl
first_of_both false b is = is

second_of_both : (a b : Bool) → (a && b) ≡ true → b ≡ true
second_of_both true b is = is
second_of_both false b is = let no : ⊥ = cc in absurd no

iff_then : {A B C : Type 0} → (A ↔ B) → (B ↔ C) → A ↔ C
iff_then one two = ((λ a. two.0 (one.0 a)), (λ c. one.1 (two.1 c)))

empty_iff : (ns : List ℕ) → (is_empty ns ≡ true) ↔ (ns ≡ [])
empty_iff ns = (empty_to ns, empty_from ns)

two_iff : (ms ns : List ℕ) → ((is_empty ms && is_empty ns) ≡ true) ↔ ((ms ≡ []) × (ns ≡ []))
two_iff ms ns = (
  (λ is. (empty_to ms (first_of_both (is_empty ms) (is_empty ns) is), empty_to ns (second_of_both (is_empty ms) (is_empty ns) is))),
  (λ are. both (is_empty ms) (is_empty ns) (empty_from ms are.0) (empty_from ns are.1)),
)

failed_to : (o : Option ℕ) → not (is_some o) ≡ true → single o ≡ []
failed_to None is = refl
failed_to (Some n) is = let no : ⊥ = cc in absurd no

failed_from : (o : Option ℕ) → single o ≡ [] → not (is_some o) ≡ true
failed_from None is = refl
failed_from (Some n) is = let no : ⊥ = cc in absurd no

ends_iff : (ms : List ℕ) (numbers : EventNumbers) → ((is_empty ms && ends_none numbers) ≡ true) ↔ ((ms ≡ []) × (numbers.done ≡ []) × (single numbers.failed ≡ []))
ends_iff ms numbers = (
  (λ is.
      let ends = second_of_both (is_empty ms) (ends_none numbers) is in (
        empty_to ms (first_of_both (is_empty ms) (ends_none numbers) is),
        empty_to numbers.done (first_of_both (is_empty numbers.done) (not (is_some numbers.failed)) ends),
        failed_to numbers.failed (second_of_both (is_empty numbers.done) (not (is_some numbers.failed)) ends),
      )),
  (λ are. both (is_empty ms) (ends_none numbers) (empty_from ms are.0) (both (is_empty numbers.done) (not (is_some numbers.failed)) (empty_from numbers.done are.1) (failed_from numbers.failed are.2))),
)

-- lists of which some are left out
module _ (o d f : List ℕ) where
  all_length : length (o ++ (d ++ f)) ≡ length o + (length d + length f)
  all_length = length-append o (d ++ f) ∙ ap (λ n. length o + n) (length-append d f)

  opens_only : (o ++ f ≡ o ++ (d ++ f)) ↔ (d ≡ [])
  opens_only = (
    (λ same. let sizes = sym (length-append o f) ∙ ap length same ∙ all_length in no_item d (omega (arith, sizes))),
    (λ none. sym (ap (λ e. o ++ (e ++ f)) none)),
  )

  reads_only : (f ≡ o ++ (d ++ f)) ↔ ((o ≡ []) × (d ≡ []))
  reads_only = (
    (λ same. let sizes = ap length same ∙ all_length in (no_item o (omega (arith, sizes)), no_item d (omega (arith, sizes)))),
    (λ none. sym (ap (λ e. e ++ (d ++ f)) none.0 ∙ ap (λ e. e ++ f) none.1)),
  )

  commits_only : (d ++ f ≡ o ++ (d ++ f)) ↔ (o ≡ [])
  commits_only = (
    (λ same. let sizes = sym (length-append d f) ∙ ap length same ∙ all_length in no_item o (omega (arith, sizes))),
    (λ none. sym (ap (λ e. e ++ (d ++ f)) none)),
  )

  none_only : ([] ≡ o ++ (d ++ f)) ↔ ((o ≡ []) × (d ≡ []) × (f ≡ []))
  none_only = (
    (λ same. let sizes : 0 ≡ length o + (length d + length f) = ap length same ∙ all_length in (no_item o (omega (arith, sizes)), no_item d (omega (arith, sizes)), no_item f (omega (arith, sizes)))),
    (λ none. sym (ap (λ e. e ++ (d ++ f)) none.0 ∙ ap (λ e. e ++ f) none.1 ∙ none.2)),
  )

faults_numbers : (owner : ℕ) (ns : List ℕ) → numbers_of (faults_at owner ns) ≡ ns
faults_numbers owner [] = refl
faults_numbers owner (n ∷ ns) = ap (λ ms. n ∷ ms) (faults_numbers owner ns)

commits_numbers : (owner : ℕ) (t : Transaction) (ns : List ℕ) → numbers_of (commits_at owner t ns) ≡ ns
commits_numbers owner t [] = refl
commits_numbers owner t (n ∷ ns) = ap (λ ms. n ∷ ms) (commits_numbers owner t ns)

numbers_both : (xs ys : List Numbered) → numbers_of (xs ++ ys) ≡ numbers_of xs ++ numbers_of ys
numbers_both xs ys = map-append (λ (x : Numbered). x.number) xs ys

module _ (h : History) (owner line : ℕ) (t : Option Transaction) (asked : Asked) (answer : Data) (numbers : EventNumbers) (prints : PrintsNumbers answer numbers) where
  abbrev printed : List ℕ
  printed = numbers.opened ++ (numbers.done ++ single numbers.failed)

  abbrev States : Type 0
  States = numbers_of (stated_asked h owner line asked answer) ≡ numbers_in answer

  all_printed : numbers_in answer ≡ printed
  all_printed = (λ i. prints.opened i ++ (prints.done i ++ prints.failed i))

  -- the numbers of what is stated, as they are kept
  stated_so : (told : List ℕ) (P : Type 0) → numbers_of (stated_asked h owner line asked answer) ≡ told → ((told ≡ printed) ↔ P) → P ↔ States
  stated_so told P is same = ((λ p. is ∙ same.1 p ∙ sym all_printed), (λ states. same.0 (sym is ∙ states ∙ all_printed)))

  pub opens_printed : (name : List ℕ) (plan : OpenPlan) → IsActBy t asked (Opens name plan) → OpensAll h owner (Opens name plan) answer → (numbers.done ≡ []) ↔ States
  opens_printed name plan is all =
      stated_so (numbers.opened ++ single numbers.failed) (numbers.done ≡ [])
      (ap (λ a. numbers_of (stated_asked h owner line a answer)) is
      ∙ numbers_both (filter_map (opening_of h owner) (takings h (leaves_of plan) (opened_in answer))) (faults_at owner (failed_in answer))
      ∙ (λ i. (all ∙ prints.opened) i ++ (faults_numbers owner (failed_in answer) ∙ prints.failed) i))
      (opens_only numbers.opened numbers.done (single numbers.failed))

  pub reads_printed : (view : View) → IsActBy t asked (Reads view) → ((numbers.opened ≡ []) × (numbers.done ≡ [])) ↔ States
  reads_printed view is =
      stated_so (single numbers.failed) ((numbers.opened ≡ []) × (numbers.done ≡ []))
      (ap (λ a. numbers_of (stated_asked h owner line a answer)) is ∙ faults_numbers owner (failed_in answer) ∙ prints.failed)
      (reads_only numbers.opened numbers.done (single numbers.failed))

  committed : (u : Transaction) → numbers_of (commits_at owner u (done_in answer) ++ faults_at owner (failed_in answer)) ≡ numbers.done ++ single numbers.failed
  committed u =
      numbers_both (commits_at owner u (done_in answer)) (faults_at owner (failed_in answer))
      ∙ (λ i. (commits_numbers owner u (done_in answer) ∙ prints.done) i ++ (faults_numbers owner (failed_in answer) ∙ prints.failed) i)

  pub commits_printed : IsActBy t asked Commits → (numbers.opened ≡ []) ↔ States
  commits_printed is =
      stated_so (numbers.done ++ single numbers.failed) (numbers.opened ≡ []) (ap (λ a. numbers_of (stated_asked h owner line a answer)) is.2 ∙ committed is.0)
      (commits_only numbers.opened numbers.done (single numbers.failed))

  pub none_printed : numbers_of (stated_asked h owner line asked answer) ≡ [] → ((numbers.opened ≡ []) × (numbers.done ≡ []) × (single numbers.failed ≡ [])) ↔ States
  none_printed is = stated_so [] ((numbers.opened ≡ []) × (numbers.done ≡ []) × (single numbers.failed ≡ [])) is (none_only numbers.opened numbers.done (single numbers.failed))

  nothing : (told : Asked) → asked ≡ told → numbers_of (stated_asked h owner line told answer) ≡ [] → numbers_of (stated_asked h owner line asked answer) ≡ []
  nothing told is none = ap (λ a. numbers_of (stated_asked h owner line a answer)) is ∙ none

  ends_printed : numbers_of (stated_asked h owner line asked answer) ≡ [] → ((is_empty numbers.opened && ends_none numbers) ≡ true) ↔ States
  ends_printed is = iff_then (ends_iff numbers.opened numbers) (none_printed is)

  writes_alone : (view : View) (words : List ℕ) → asked ≡ Ok (write_act None view words) → (numbers.opened ≡ []) ↔ States
  writes_alone view words is =
      stated_so (numbers.done ++ single numbers.failed) (numbers.opened ≡ []) (ap (λ a. numbers_of (stated_asked h owner line a answer)) is ∙ committed (write_alone line view words))
      (commits_only numbers.opened numbers.done (single numbers.failed))

  writes_printed : (view : View) (words : List ℕ) (stands : Bool) (u : Option Transaction) → t ≡ u → asked ≡ Ok (write_act t view words) → stands ≡ is_some t
      → (may_by (Writes view words) stands numbers ≡ true) ↔ States
  writes_printed view words stands None none is so =
      subst (λ b. ((is_empty numbers.opened && (not b || ends_none numbers)) ≡ true) ↔ States) (sym (so ∙ ap (λ (o : Option Transaction). is_some o) none))
      (iff_then (
        (λ e. empty_to numbers.opened (first_of_both (is_empty numbers.opened) true e)),
        (λ e. both (is_empty numbers.opened) true (empty_from numbers.opened e) refl),
      ) (writes_alone view words (is ∙ ap (λ o. Ok (write_act o view words)) none)))
  writes_printed view words stands (Some u) some is so =
      subst (λ b. ((is_empty numbers.opened && (not b || ends_none numbers)) ≡ true) ↔ States) (sym (so ∙ ap (λ (o : Option Transaction). is_some o) some))
      (ends_printed (nothing (Ok (write_act (Some u) view words)) (is ∙ ap (λ o. Ok (write_act o view words)) some) refl))

  -- what may be printed is exactly what is stated
  pub may_is : (act : Act) (stands : Bool) → IsActBy t asked act → stands ≡ is_some t → OpensAll h owner act answer → (may_by act stands numbers ≡ true) ↔ States
  may_is (Refused b) stands is so all = ends_printed (nothing (Err is.0) is.1 refl)
  may_is (Opens name plan) stands is so all = iff_then (empty_iff numbers.done) (opens_printed name plan is all)
  may_is (Binds name view) stands is so all = ends_printed (nothing _ is refl)
  may_is (Reads view) stands is so all = iff_then (two_iff numbers.opened numbers.done) (reads_printed view is)
  may_is (Writes view words) stands is so all = writes_printed view words stands t refl is so
  may_is (Begins mode) stands is so all = ends_printed (nothing _ is.1 refl)
  may_is Commits stands is so all = iff_then (empty_iff numbers.opened) (commits_printed is)
  may_is Aborts stands is so all = ends_printed (nothing _ is refl)
