-- What is known of dimensions that a step selects.
use Rattle.std.proofs.Common.{◌≡◌, ◌∙◌, zero, suc, ℕ, ◌+◌, ◌<◌, ◌==◌, ◌||◌, Bool, true, false, List, [], ◌∷◌, ◌++◌, length, refl, sym, ap, subst, arith, Option, Some, None, option_map, option_and_then, length-append}
use Rattle.std.proofs.lemmas.Bool.Decides.{nat_tests}
use Rattle.std.proofs.lemmas.List.Elements.{All-head, All-tail, All-weaker}
use Rattle.std.specs.List.{All, list_any, range_with_len}
use Rattle.step_forms.specs.Steps.{is_newaxis}
use Rattle.step_forms.specs.Selection.{from_end, dim_numbered, selected_by, selected_by_all, has_repeat, positions_with, IsPosition, AreSelectors, AreSelected}
use Rattle.step_forms.specs.declared.act.Act.{Act}
use Rattle.step_forms.specs.declared.act.Step.{Step}
use Rattle.step_forms.specs.declared.act.Select.{Select}
use Rattle.step_forms.specs.declared.act.Select.TheVariants as select

-- a position selects one dimension
one_position : (rank : ℕ) (labels : List (List ℕ)) (selector : Select) (dims : List ℕ) → IsPosition selector → selected_by rank labels selector ≡ Some dims → length dims ≡ 1
one_position rank labels (select.Position number) dims is e = told (dim_numbered rank (from_end rank number)) e
  where
    told : (o : Option ℕ) → option_map (λ dim. dim ∷ []) o ≡ Some dims → length dims ≡ 1
    told None f = cc
    told (Some dim) f = let g : dims ≡ dim ∷ [] = cc in ap length g
one_position rank labels (select.Label label) dims is e = absurd is
one_position rank labels (select.Range start stop step) dims is e = absurd is

-- positions select as many dimensions as they are
pub as_many : (rank : ℕ) (labels : List (List ℕ)) (selectors : List Select) (dims : List ℕ) → All IsPosition selectors → selected_by_all rank labels selectors ≡ Some dims
    → length dims ≡ length selectors
as_many rank labels [] dims all e = let g : dims ≡ [] = cc in ap length g
as_many rank labels (selector ∷ selectors) dims all e = told (selected_by rank labels selector) (selected_by_all rank labels selectors) refl refl e
    (as_many rank labels selectors)
  where
    told : (o p : Option (List ℕ)) → selected_by rank labels selector ≡ o → selected_by_all rank labels selectors ≡ p
        → option_and_then (λ ds. option_map (λ more. ds ++ more) p) o ≡ Some dims
        → ((more : List ℕ) → All IsPosition selectors → selected_by_all rank labels selectors ≡ Some more → length more ≡ length selectors)
        → length dims ≡ length (selector ∷ selectors)
    told None p f g h rest = cc
    told (Some ds) None f g h rest = cc
    told (Some ds) (Some more) f g h rest =
        let one = one_position rank labels selector ds (All-head IsPosition selector selectors all) f in
        let others = rest more (All-tail IsPosition selector selectors all) g in
        let whole : dims ≡ ds ++ more = cc in
        let long = length-append ds more in
        let same = ap length whole in
        omega arith

-- numbers one after another are distinct
none_below : (k first n : ℕ) → k < first → list_any (λ other. other == k) (range_with_len first n) ≡ false
none_below k first zero less = refl
none_below k first (suc n) less =
    let apart : (first == k) ≡ false = grind (arith, nat_tests) in
    ap (λ b. b || list_any (λ other. other == k) (range_with_len (first + 1) n)) apart ∙ none_below k (first + 1) n (omega arith)

pub distinct_range : (first n : ℕ) → has_repeat (range_with_len first n) ≡ false
distinct_range first zero = refl
distinct_range first (suc n) =
    ap (λ b. b || has_repeat (range_with_len (first + 1) n)) (none_below first (first + 1) n (omega arith)) ∙ distinct_range (first + 1) n

within_all : (a : Act) (rank count : ℕ) (dims : List ℕ) (b : Bool) → is_newaxis a ≡ b → b ≡ false → All (λ dim. dim < rank) dims → All (λ dim. dim < positions_with a rank count) dims
within_all a rank count dims true e f all = cc
within_all a rank count dims false e f all = All-weaker (λ dim. dim < rank) (λ dim. dim < positions_with a rank count) (λ x h. rw e h) dims all

-- all dimensions
pub all_selected : (step : Step) (rank : ℕ) (dims : List ℕ) → AreSelectors step → step.all ≡ true → dims ≡ range_with_len 0 rank → All (λ dim. dim < rank) dims → AreSelected step.act rank dims
all_selected step rank dims are all is known = record {
  known = within_all step.act rank (length dims) dims (is_newaxis step.act) refl (plain (is_newaxis step.act) refl) known;
  distinct = ap has_repeat is ∙ distinct_range 0 rank;
}
  where
    plain : (b : Bool) → is_newaxis step.act ≡ b → b ≡ false
    plain true e = let f = (are.positions e).0 in cc
    plain false e = refl

-- those of selectors
pub some_selected : (step : Step) (rank : ℕ) (labels : List (List ℕ)) (dims : List ℕ) → AreSelectors step
    → Some dims ≡ selected_by_all (positions_with step.act rank (length step.dims)) labels step.dims → All (λ dim. dim < positions_with step.act rank (length step.dims)) dims
    → has_repeat dims ≡ false → AreSelected step.act rank dims
some_selected step rank labels dims are is known distinct = record { known = told (is_newaxis step.act) refl; distinct = distinct }
  where
    told : (b : Bool) → is_newaxis step.act ≡ b → All (λ dim. dim < positions_with step.act rank (length dims)) dims
    told true e =
        let count = as_many (positions_with step.act rank (length step.dims)) labels step.dims dims ((are.positions e).1) (sym is) in
        subst (λ (n : ℕ). All (λ dim. dim < positions_with step.act rank n) dims) (sym count) known
    told false e = All-weaker (λ dim. dim < positions_with step.act rank (length step.dims)) (λ dim. dim < positions_with step.act rank (length dims)) (λ x h. rw e (rw e at h)) dims known
