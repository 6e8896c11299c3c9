-- The arrays of an open line's leaves, and the view over them.
use Rattle.std.proofs.Common.{◌≡◌, ◌∙◌, ◌-◌, ◌+◌, ℕ, zero, suc, List, [], ◌∷◌, ◌++◌, Option, Some, None, length, map, take, drop, refl, sym, ap, subst, arith}
use Rattle.std.specs.Prelude.{option_map, option_and_then}
use Rattle.std.specs.List.{AllByRecursion, slice_get, take-map}
use Rattle.history.specs.declared.array.ArrayInfo.{ArrayInfo}
use Rattle.history.specs.Arrays.{ref_of}
use Rattle.history.specs.History.{History}
use Rattle.history.specs.Leaves.{location_of_leaf}
use Rattle.history.specs.Lines.{SpecLeaf, given, stored}
use Rattle.history.specs.OpenRows.{next_array}
use Rattle.history.specs.Places.{array_at}
use Rattle.line_acts.specs.Openings.{leaf_of, leaves_from, leaves_of, build_of}
use Rattle.stated_arrays.specs.declared.OpenPlan.{OpenPlan}
use Rattle.stated_arrays.specs.declared.SpecLeaf as spec
use Rattle.stated_arrays.specs.declared.SpecLeaf.TheVariants.{Zarr, N5, Zarr3, Given}
use Rattle.stated_arrays.specs.declared.Tree.{Tree}
use Rattle.stack_driver.specs.References.{Reference}
use Rattle.stated_arrays.specs.Lines.{bare}
use Rattle.stated_arrays.specs.Outline.{outline, outlined_event}
use Rattle.stated_arrays.specs.Takings.{before, Taking, taking, opened_info, array_of_leaf, ref_of_leaf, all_refs, built_view, opened_view}
use Rattle.stated_arrays.proofs.Laws.{array_at-outline, count-outline}
use Rattle.stated_arrays.specs.OpenedViews.{paired, IsGivenAt, AreGiven}

-- a history has the arrays of its outline
module _ (h events : History) (is : outline h ≡ events) where
  count_outlined : (m : ℕ) → next_array (take m h) ≡ next_array (take m events)
  count_outlined m = sym (count-outline (take m h)) ∙ ap next_array (sym (take-map outlined_event m h) ∙ ap (take m) is)

  array_outlined : (leaf : SpecLeaf) (number : Option ℕ) → array_of_leaf h leaf number ≡ array_of_leaf events leaf number
  array_outlined leaf (Some n) = ap (λ a. option_map (λ (info : ArrayInfo). record { info = info; opened = n; shape = info.shape }) (opened_info a leaf)) (count_outlined (n - 1))
  array_outlined (given cells) None = refl
  array_outlined (stored node leaf) None = sym (array_at-outline (location_of_leaf leaf) h) ∙ ap (λ (o : History). array_at o (location_of_leaf leaf)) is

  refs_outlined : (ts : List Taking) → map (ref_of_leaf h) ts ≡ map (ref_of_leaf events) ts
  refs_outlined [] = refl
  refs_outlined (t ∷ ts) =
      ap (λ o. option_map ref_of o ∷ map (ref_of_leaf h) ts) (array_outlined t.leaf t.number) ∙ ap (λ rs. ref_of_leaf events t ∷ rs) (refs_outlined ts)

-- an array doesn't go by the node that asks for it
ref_bare : (events : History) (node : List ℕ) (leaf : spec.SpecLeaf) (number : Option ℕ) → ref_of_leaf events (taking (leaf_of node leaf) number) ≡ ref_of_leaf events (taking (leaf_of [] leaf) number)
ref_bare events node (Zarr on at asked may_open may_create) (Some n) = refl
ref_bare events node (Zarr on at asked may_open may_create) None = refl
ref_bare events node (N5 on at asked may_open may_create) (Some n) = refl
ref_bare events node (N5 on at asked may_open may_create) None = refl
ref_bare events node (Zarr3 on at asked may_open may_create) (Some n) = refl
ref_bare events node (Zarr3 on at asked may_open may_create) None = refl
ref_bare events node (Given start) (Some n) = refl
ref_bare events node (Given start) None = refl

given_one : (events : History) (node : List ℕ) (leaf : spec.SpecLeaf) (number : Option ℕ) → IsGivenAt events (leaf_of node leaf) number → IsGivenAt events (leaf_of [] leaf) number
given_one events node leaf None is = tt
given_one events node (Zarr on at asked may_open may_create) (Some n) is = is
given_one events node (N5 on at asked may_open may_create) (Some n) is = is
given_one events node (Zarr3 on at asked may_open may_create) (Some n) is = is
given_one events node (Given start) (Some n) is = is

module _ (events : History) (tree : Tree) where
  refs_bare : (k : ℕ) (leaves : List spec.SpecLeaf) (numbers : List (Option ℕ)) → map (ref_of_leaf events) (paired (leaves_from tree k leaves) numbers) ≡ map (ref_of_leaf events) (paired (bare leaves) numbers)
  refs_bare k [] numbers = refl
  refs_bare k (leaf ∷ leaves) [] =
      ap (λ r. r ∷ map (ref_of_leaf events) (paired (leaves_from tree (suc k) leaves) [])) (ref_bare events _ leaf None) ∙ ap (λ rs. ref_of_leaf events (taking (leaf_of [] leaf) None) ∷ rs) (refs_bare (suc k) leaves [])
  refs_bare k (leaf ∷ leaves) (n ∷ numbers) =
      ap (λ r. r ∷ map (ref_of_leaf events) (paired (leaves_from tree (suc k) leaves) numbers)) (ref_bare events _ leaf n) ∙ ap (λ rs. ref_of_leaf events (taking (leaf_of [] leaf) n) ∷ rs) (refs_bare (suc k) leaves numbers)

  pub given_bare : (k : ℕ) (leaves : List spec.SpecLeaf) (numbers : List (Option ℕ)) → AreGiven events (paired (leaves_from tree k leaves) numbers) → AreGiven events (paired (bare leaves) numbers)
  given_bare k [] numbers are = tt
  given_bare k (leaf ∷ leaves) [] are = (tt, given_bare (suc k) leaves [] are.1)
  given_bare k (leaf ∷ leaves) (n ∷ numbers) are = (given_one events _ leaf n are.0, given_bare (suc k) leaves numbers are.1)

-- what a leaf more gives
then_one : (x : Reference) (r : Reference) (o : Option (List Reference)) → option_map (λ more. x ∷ more) (option_map (λ rs. rs ++ r ∷ []) o) ≡ option_map (λ rs. rs ++ r ∷ []) (option_map (λ more. x ∷ more) o)
then_one x r None = refl
then_one x r (Some rs) = refl

refs_then : (xs : List (Option Reference)) (r : Reference) → all_refs (xs ++ Some r ∷ []) ≡ option_map (λ rs. rs ++ r ∷ []) (all_refs xs)
refs_then [] r = refl
refs_then (None ∷ xs) r = refl
refs_then (Some x ∷ xs) r = ap (option_map (λ more. x ∷ more)) (refs_then xs r) ∙ then_one x r (all_refs xs)

refs_lack : (xs ys : List (Option Reference)) → all_refs (xs ++ None ∷ ys) ≡ None
refs_lack [] ys = refl
refs_lack (None ∷ xs) ys = refl
refs_lack (Some x ∷ xs) ys = ap (option_map (λ more. x ∷ more)) (refs_lack xs ys)

all_count : (xs : List (Option Reference)) (rs : List Reference) → all_refs xs ≡ Some rs → length rs ≡ length xs
all_count [] rs is = let none : [] ≡ rs = cc in sym (ap length none)
all_count (None ∷ xs) rs is = let no : ⊥ = cc in absurd no
all_count (Some x ∷ xs) rs is = by (all_refs xs) (λ more same. all_count xs more same) refl is
  where
    by : (o : Option (List Reference)) → ((more : List Reference) → all_refs xs ≡ Some more → length more ≡ length xs) → all_refs xs ≡ o → option_map (λ more. x ∷ more) o ≡ Some rs → length rs ≡ suc (length xs)
    by None rest same told = let no : ⊥ = cc in absurd no
    by (Some more) rest same told = let is_rs : (x ∷ more) ≡ rs = cc in sym (ap length is_rs) ∙ ap suc (rest more same)

-- what holds of each leaf holds of the one at a place
pub each_at : (P : spec.SpecLeaf → Type 0) (leaves : List spec.SpecLeaf) (k : ℕ) (leaf : spec.SpecLeaf) → slice_get leaves k ≡ Some leaf → AllByRecursion P leaves → P leaf
each_at P [] k leaf at all = let no : ⊥ = cc in absurd no
each_at P (l ∷ leaves) zero leaf at all = let same : l ≡ leaf = cc in subst P same all.0
each_at P (l ∷ leaves) (suc k) leaf at all = each_at P leaves k leaf at all.1

module _ (events : History) where
  abbrev pub refs : List spec.SpecLeaf → List (Option ℕ) → List (Option Reference)
  refs leaves numbers = map (ref_of_leaf events) (paired (bare leaves) numbers)

  -- the leaf at a place
  refs_parted : (leaves : List spec.SpecLeaf) (numbers : List (Option ℕ)) (k : ℕ) (leaf : spec.SpecLeaf) (number : Option ℕ) → slice_get leaves k ≡ Some leaf → slice_get numbers k ≡ Some number
      → refs leaves numbers ≡ take k (refs leaves numbers) ++ ref_of_leaf events (taking (leaf_of [] leaf) number) ∷ drop (suc k) (refs leaves numbers)
  refs_parted [] numbers k leaf number at here = let no : ⊥ = cc in absurd no
  refs_parted (l ∷ leaves) [] k leaf number at here = let no : ⊥ = cc in absurd no
  refs_parted (l ∷ leaves) (n ∷ numbers) zero leaf number at here =
      let one : l ≡ leaf = cc in
      let two : n ≡ number = cc in
      ap (λ m. ref_of_leaf events (taking (leaf_of [] m) n) ∷ refs leaves numbers) one ∙ ap (λ m. ref_of_leaf events (taking (leaf_of [] leaf) m) ∷ refs leaves numbers) two
  refs_parted (l ∷ leaves) (n ∷ numbers) (suc k) leaf number at here = ap (λ rs. ref_of_leaf events (taking (leaf_of [] l) n) ∷ rs) (refs_parted leaves numbers k leaf number at here)

  refs_next : (leaves : List spec.SpecLeaf) (numbers : List (Option ℕ)) (k : ℕ) (leaf : spec.SpecLeaf) (number : Option ℕ) → slice_get leaves k ≡ Some leaf → slice_get numbers k ≡ Some number
      → take (suc k) (refs leaves numbers) ≡ take k (refs leaves numbers) ++ ref_of_leaf events (taking (leaf_of [] leaf) number) ∷ []
  refs_next [] numbers k leaf number at here = let no : ⊥ = cc in absurd no
  refs_next (l ∷ leaves) [] k leaf number at here = let no : ⊥ = cc in absurd no
  refs_next (l ∷ leaves) (n ∷ numbers) zero leaf number at here =
      let one : l ≡ leaf = cc in
      let two : n ≡ number = cc in
      ap (λ m. ref_of_leaf events (taking (leaf_of [] m) n) ∷ []) one ∙ ap (λ m. ref_of_leaf events (taking (leaf_of [] leaf) m) ∷ []) two
  refs_next (l ∷ leaves) (n ∷ numbers) (suc k) leaf number at here = ap (λ rs. ref_of_leaf events (taking (leaf_of [] l) n) ∷ rs) (refs_next leaves numbers k leaf number at here)

  pub given_at : (leaves : List spec.SpecLeaf) (numbers : List (Option ℕ)) (k : ℕ) (leaf : spec.SpecLeaf) (number : Option ℕ) → slice_get leaves k ≡ Some leaf → slice_get numbers k ≡ Some number → AreGiven events (paired (bare leaves) numbers)
      → IsGivenAt events (leaf_of [] leaf) number
  given_at [] numbers k leaf number at here are = let no : ⊥ = cc in absurd no
  given_at (l ∷ leaves) [] k leaf number at here are = let no : ⊥ = cc in absurd no
  given_at (l ∷ leaves) (n ∷ numbers) zero leaf number at here are =
      let one : l ≡ leaf = cc in
      let two : n ≡ number = cc in
      subst (λ m. IsGivenAt events (leaf_of [] leaf) m) two (subst (λ m. IsGivenAt events (leaf_of [] m) n) one are.0)
  given_at (l ∷ leaves) (n ∷ numbers) (suc k) leaf number at here are = given_at leaves numbers k leaf number at here are.1

  next_place : (k : ℕ) → k + 1 ≡ suc k
  next_place k = omega arith

  -- one array more, none for one leaf, one for each
  pub arrays_more : (leaves : List spec.SpecLeaf) (numbers : List (Option ℕ)) (k : ℕ) (leaf : spec.SpecLeaf) (number : Option ℕ) (before : List Reference) (array : Reference) → slice_get leaves k ≡ Some leaf → slice_get numbers k ≡ Some number
      → ref_of_leaf events (taking (leaf_of [] leaf) number) ≡ Some array → all_refs (take k (refs leaves numbers)) ≡ Some before → all_refs (take (k + 1) (refs leaves numbers)) ≡ Some (before ++ array ∷ [])
  arrays_more leaves numbers k leaf number before array at here is so_far =
      ap (λ m. all_refs (take m (refs leaves numbers))) (next_place k) ∙ ap all_refs (refs_next leaves numbers k leaf number at here)
      ∙ ap (λ o. all_refs (take k (refs leaves numbers) ++ o ∷ [])) is
      ∙ refs_then (take k (refs leaves numbers)) array ∙ ap (option_map (λ rs. rs ++ array ∷ [])) so_far

  pub arrays_lack : (leaves : List spec.SpecLeaf) (numbers : List (Option ℕ)) (k : ℕ) (leaf : spec.SpecLeaf) (number : Option ℕ) → slice_get leaves k ≡ Some leaf → slice_get numbers k ≡ Some number
      → ref_of_leaf events (taking (leaf_of [] leaf) number) ≡ None → all_refs (refs leaves numbers) ≡ None
  arrays_lack leaves numbers k leaf number at here is =
      ap all_refs (refs_parted leaves numbers k leaf number at here) ∙ ap (λ o. all_refs (take k (refs leaves numbers) ++ o ∷ drop (suc k) (refs leaves numbers))) is
      ∙ refs_lack (take k (refs leaves numbers)) (drop (suc k) (refs leaves numbers))

  refs_length : (leaves : List spec.SpecLeaf) (numbers : List (Option ℕ)) → length (refs leaves numbers) ≡ length leaves
  refs_length [] numbers = refl
  refs_length (l ∷ leaves) [] = ap suc (refs_length leaves [])
  refs_length (l ∷ leaves) (n ∷ numbers) = ap suc (refs_length leaves numbers)

  -- as many arrays as leaves
  pub arrays_count : (leaves : List spec.SpecLeaf) (numbers : List (Option ℕ)) (arrays : List Reference) → all_refs (refs leaves numbers) ≡ Some arrays → length arrays ≡ length leaves
  arrays_count leaves numbers arrays is = all_count (refs leaves numbers) arrays is ∙ refs_length leaves numbers

  pub refs_all : (leaves : List spec.SpecLeaf) (numbers : List (Option ℕ)) → take (length leaves) (refs leaves numbers) ≡ refs leaves numbers
  refs_all [] numbers = refl
  refs_all (l ∷ leaves) [] = ap (λ rs. ref_of_leaf events (taking (leaf_of [] l) None) ∷ rs) (refs_all leaves [])
  refs_all (l ∷ leaves) (n ∷ numbers) = ap (λ rs. ref_of_leaf events (taking (leaf_of [] l) n) ∷ rs) (refs_all leaves numbers)

-- the view over the arrays of the outline is that over those of each history that has it
pub opened_over : (events : History) (plan : OpenPlan) (numbers : List (Option ℕ)) (arrays : Option (List Reference)) (view : Option _) → all_refs (refs events plan.leaves numbers) ≡ arrays
    → option_and_then (λ rs. built_view (build_of plan rs)) arrays ≡ view
    → (h : History) → outline h ≡ events → opened_view h (paired (leaves_of plan) numbers) (build_of plan) ≡ view
opened_over events plan numbers arrays view all is h same =
    ap (λ rs. option_and_then (λ refs. built_view (build_of plan refs)) (all_refs rs))
    (refs_outlined h events same (paired (leaves_of plan) numbers) ∙ refs_bare events plan.tree 0 plan.leaves numbers)
    ∙ ap (option_and_then (λ rs. built_view (build_of plan rs))) all ∙ is
