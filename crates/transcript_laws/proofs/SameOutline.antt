-- Two claimed histories with one outline state the same at every line.
use Rattle.std.proofs.Common.{◌≡◌, ℕ, ◌-◌, List, [], ◌∷◌, ◌++◌, codes, cond, Option, Some, None, Ok, Err, map, take, refl, sym, ap, ◌∙◌}
use Rattle.std.specs.Prelude.{filter_map, is_some, option_map, option_and_then}
use Rattle.std.specs.List.{take-map, cons_option}
use Rattle.serde_json.specs.Data.{Data}
use Rattle.serde_json.specs.Find.{get}
use Rattle.history.specs.declared.array.ArrayInfo.{ArrayInfo}
use Rattle.history.specs.Acts.{Asked, opens, binds, reads, stages, writes, begins, commits, aborts, resizes, resolves}
use Rattle.history.specs.Arrays.{ref_of}
use Rattle.history.specs.History.{History}
use Rattle.history.specs.Leaves.{Leaf, location_of_leaf}
use Rattle.history.specs.Lines.{SpecLeaf, given, stored, Build}
use Rattle.history.specs.OpenRows.{next_array}
use Rattle.history.specs.Own.{opened_event}
use Rattle.history.specs.Places.{array_at}
use Rattle.state_laws.specs.Outline.{outline, outlined_event}
use Rattle.state_laws.proofs.Outline.{array_at-outline, count-outline}
use Rattle.transcript_laws.specs.Transcript.{Told}
use Rattle.transcript_laws.specs.Numbers.{opened_in, failed_in}
use Rattle.transcript_laws.specs.Claimed.{opening_of, at_number, stated_asked, stated, faults_at}
use Rattle.transcript_laws.specs.Standings.{Standing, names_opened, standing_asked, standing_step, act_at}
use Rattle.transcript_laws.specs.Takings.{Taking, taking, takings, was_opened, opened_info, array_of_leaf, ref_of_leaf, all_refs, built_view, opened_view}

module _ (h k : History) where
  -- the first m events have one outline
  abbrev pub AreOutlined : ℕ → Type 0
  AreOutlined m = outline (take m h) ≡ outline (take m k)

  pub at_same : (m : ℕ) (x : List ℕ) → AreOutlined m → array_at (take m h) x ≡ array_at (take m k) x
  at_same m x same = sym (array_at-outline x (take m h)) ∙ ap (λ (o : History). array_at o x) same ∙ array_at-outline x (take m k)

  pub count_same : (m : ℕ) → AreOutlined m → next_array (take m h) ≡ next_array (take m k)
  count_same m same = sym (count-outline (take m h)) ∙ ap next_array same ∙ count-outline (take m k)

  pub was_same : (n : ℕ) (leaf : Leaf) → AreOutlined (n - 1) → was_opened h n leaf ≡ was_opened k n leaf
  was_same n leaf same = ap is_some (at_same (n - 1) (location_of_leaf leaf) same)

  -- what a leaf opens
  pub opening_same : (owner n : ℕ) (leaf : SpecLeaf) → AreOutlined (n - 1) → opening_of h owner (taking leaf (Some n)) ≡ opening_of k owner (taking leaf (Some n))
  opening_same owner n leaf same = ap (λ a. option_map (λ (info : ArrayInfo). at_number n (opened_event owner info)) (opened_info a leaf)) (count_same (n - 1) same)

module _ (h k : History) (whole : outline h ≡ outline k) where
  same_at : (m : ℕ) → AreOutlined h k m
  same_at m = sym (take-map outlined_event m h) ∙ ap (take m) whole ∙ take-map outlined_event m k

  all_at : (x : List ℕ) → array_at h x ≡ array_at k x
  all_at x = sym (array_at-outline x h) ∙ ap (λ (o : History). array_at o x) whole ∙ array_at-outline x k

  takings_same : (leaves : List SpecLeaf) (numbers : List ℕ) → takings h leaves numbers ≡ takings k leaves numbers
  takings_same [] numbers = refl
  takings_same (leaf ∷ leaves) [] = ap (λ ts. taking leaf None ∷ ts) (takings_same leaves [])
  takings_same (given cells ∷ leaves) (n ∷ numbers) = ap (λ ts. taking (given cells) (Some n) ∷ ts) (takings_same leaves numbers)
  takings_same (stored node leaf ∷ leaves) (n ∷ numbers) =
      ap (λ b. cond b (taking (stored node leaf) None ∷ takings h leaves (n ∷ numbers)) (taking (stored node leaf) (Some n) ∷ takings h leaves numbers)) (was_same h k n leaf (same_at (n - 1)))
      ∙ ap (λ ts. cond (was_opened k n leaf) (taking (stored node leaf) None ∷ ts) (taking (stored node leaf) (Some n) ∷ takings h leaves numbers)) (takings_same leaves (n ∷ numbers))
      ∙ ap (λ ts. cond (was_opened k n leaf) (taking (stored node leaf) None ∷ takings k leaves (n ∷ numbers)) (taking (stored node leaf) (Some n) ∷ ts)) (takings_same leaves numbers)

  array_same : (leaf : SpecLeaf) (number : Option ℕ) → array_of_leaf h leaf number ≡ array_of_leaf k leaf number
  array_same leaf (Some n) = ap (λ a. option_map (λ (info : ArrayInfo). record { info = info; opened = n; shape = info.shape }) (opened_info a leaf)) (count_same h k (n - 1) (same_at (n - 1)))
  array_same (given cells) None = refl
  array_same (stored node leaf) None = all_at (location_of_leaf leaf)

  refs_same : (ts : List Taking) → map (ref_of_leaf h) ts ≡ map (ref_of_leaf k) ts
  refs_same [] = refl
  refs_same (t ∷ ts) =
      ap (λ o. option_map ref_of o ∷ map (ref_of_leaf h) ts) (array_same t.leaf t.number) ∙ ap (λ rs. ref_of_leaf k t ∷ rs) (refs_same ts)

  view_same : (leaves : List SpecLeaf) (numbers : List ℕ) (build : Build) → opened_view h (takings h leaves numbers) build ≡ opened_view k (takings k leaves numbers) build
  view_same leaves numbers build =
      ap (λ rs. option_and_then (λ refs. built_view (build refs)) (all_refs rs)) (refs_same (takings h leaves numbers))
      ∙ ap (λ ts. opened_view k ts build) (takings_same leaves numbers)

  standing_same : (s : Standing) (line : ℕ) (asked : Asked) (answer : Data) → standing_asked h s line asked answer ≡ standing_asked k s line asked answer
  standing_same s line (Err refusal) answer = refl
  standing_same s line (Ok (opens name leaves build)) answer = ap (λ v. record s { names = names_opened s.names name (get (codes "open") answer) v }) (view_same leaves (opened_in answer) build)
  standing_same s line (Ok (binds name view)) answer = refl
  standing_same s line (Ok (reads view down)) answer = refl
  standing_same s line (Ok (stages t view words)) answer = refl
  standing_same s line (Ok (writes view words)) answer = refl
  standing_same s line (Ok (begins mode)) answer = refl
  standing_same s line (Ok (commits t)) answer = refl
  standing_same s line (Ok aborts) answer = refl
  standing_same s line (Ok (resizes array shape)) answer = refl
  standing_same s line (Ok (resolves name view array)) answer = refl

  pub step_same : (s : Standing) (t : Told) → standing_step h s t ≡ standing_step k s t
  step_same s t = standing_same s t.number (act_at s t) t.answer

  openings_same : (owner : ℕ) (t : Taking) → opening_of h owner t ≡ opening_of k owner t
  openings_same owner t = told t.leaf t.number
    where
      told : (leaf : SpecLeaf) (number : Option ℕ) → opening_of h owner (taking leaf number) ≡ opening_of k owner (taking leaf number)
      told leaf None = refl
      told leaf (Some n) = opening_same h k owner n leaf (same_at (n - 1))

  filtered_same : (owner : ℕ) (ts : List Taking) → filter_map (opening_of h owner) ts ≡ filter_map (opening_of k owner) ts
  filtered_same owner [] = refl
  filtered_same owner (t ∷ ts) = ap (λ o. cons_option o (filter_map (opening_of h owner) ts)) (openings_same owner t) ∙ ap (λ os. cons_option (opening_of k owner t) os) (filtered_same owner ts)

  asked_same : (owner line : ℕ) (asked : Asked) (answer : Data) → stated_asked h owner line asked answer ≡ stated_asked k owner line asked answer
  asked_same owner line (Err refusal) answer = refl
  asked_same owner line (Ok (opens name leaves build)) answer =
      ap (λ os. os ++ faults_at owner (failed_in answer)) (filtered_same owner (takings h leaves (opened_in answer)) ∙ ap (filter_map (opening_of k owner)) (takings_same leaves (opened_in answer)))
  asked_same owner line (Ok (binds name view)) answer = refl
  asked_same owner line (Ok (reads view down)) answer = refl
  asked_same owner line (Ok (stages t view words)) answer = refl
  asked_same owner line (Ok (writes view words)) answer = refl
  asked_same owner line (Ok (begins mode)) answer = refl
  asked_same owner line (Ok (commits t)) answer = refl
  asked_same owner line (Ok aborts) answer = refl
  asked_same owner line (Ok (resizes array shape)) answer = refl
  asked_same owner line (Ok (resolves name view array)) answer = refl

  pub stated_same : (s : Standing) (t : Told) → stated h s t ≡ stated k s t
  stated_same s t = asked_same t.session t.number (act_at s t) t.answer
