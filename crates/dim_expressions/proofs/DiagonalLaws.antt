-- One dimension in place of several, whose interval is the meet of theirs.
use Rattle.std.proofs.Common.{◌≡◌, ◌∙◌, zero, suc, ℕ, ◌+◌, ◌<◌, ◌≤◌, ◌==◌, Bool, true, false, cond, List, [], ◌∷◌, length, map, filter, get_or, refl, sym, ap, subst, arith, ℤ, pos, Option, Some, None, is_some, is_none, Ok, unwrap_or}
use Rattle.std.proofs.lemmas.Bool.Decides.{nat_tests}
use Rattle.std.specs.List.{All, range_with_len}
use Rattle.index_intervals.specs.Bounds.{Bounds, AreBounds, IsIndex, is_index}
use Rattle.index_intervals.specs.Edges.{lower_edge, upper_edge, ends_of, interval_of, preimage}
use Rattle.transform_composition.specs.Inside.{are_ends_inside}
use Rattle.transform_composition.specs.Reading.{point}
use Rattle.transform_composition.specs.Tightening.{preimages, tighten_answer, met, tight_lower, tight_upper}
use Rattle.index_transform.specs.Transforms.{DomainAndMaps, IsTransform, KeepsRules}
use Rattle.index_transform.specs.Values.{is_effective, first_outside, value_at, map_value}
use Rattle.dim_changes.specs.Dims.{spot_in, others, dim_at}
use Rattle.dim_changes.specs.Causes.{Follows}
use Rattle.dim_expressions.specs.Left.{left_by, left_map, without}
use Rattle.dim_expressions.specs.Diagonal.{unbounded, meet_of, selected_dims, diagonal_map, diagonal_view, meet_ends}
use Rattle.dim_changes.proofs.Laws.{rest_fewer, Edge, preimage-same, IsTightened, tighten_answer-Ok}
use Rattle.dim_expressions.proofs.MeetLaws.{AtLeast, AtMost, low_of, high_of, AllBelow, AllAbove, low_holds, high_holds, meet_within, meet_low_index, meet_high_index}
use Rattle.std.specs.Option.{ForSome, option_map}
use Rattle.index_intervals.specs.declared.edge.Ends.{Ends}
use Rattle.dim_expressions.proofs.WithoutLaws.{GoIn, rank_few, becomes, is_transform, maps}

-- where dimensions are selected, one less stays
pub one_fewer : (u : DomainAndMaps) (selected : List ℕ) → IsTransform u → All (λ dim. dim < length u.domain.dims) selected → 0 < length selected → 1 + length (others selected (length u.domain.dims)) ≤ 32
one_fewer u [] t known some = absurd (omega (arith, some))
one_fewer u (x ∷ selected) t known some =
    let same : (x == x) ≡ true = grind (arith, nat_tests) in
    let gone : is_none (spot_in (x ∷ selected) x) ≡ false = rw same refl in
    let less = known 0 0 (omega arith) in
    let fewer = rest_fewer (x ∷ selected) 0 (length u.domain.dims) x (omega arith) (omega (arith, less)) gone in
    let few = rank_few u t in
    omega (arith, fewer, few)

-- the selected dimensions of a range
abbrev chosen : List Bounds → List ℕ → ℕ → ℕ → List Bounds
chosen dims selected a n = map (dim_at dims) (filter (λ dim. is_some (spot_in selected dim)) (range_with_len a n))

-- the pre-images of the first dimension are the selected ones
preimages_chosen : (side : Bounds → ℤ → ℤ → Ends) (edge : Bounds → Ends) → ((b : Bounds) → side b (pos 0) (pos 1) ≡ edge b)
    → (dims : List Bounds) (selected rest : List ℕ) (a : ℕ) (outers : List Bounds) → ((i : ℕ) → i < length outers → get_or outers i point ≡ dim_at dims (a + i))
    → preimages side 0 outers (map (left_map selected rest 1 diagonal_map) (range_with_len a (length outers))) ≡ map edge (chosen dims selected a (length outers))
preimages_chosen side edge same dims selected rest a [] each = refl
preimages_chosen side edge same dims selected rest a (d ∷ outers) each =
    told (spot_in selected a)
    (preimages_chosen side edge same dims selected rest (a + 1) outers (λ i h. let z : a + suc i ≡ a + 1 + i = omega arith in each (suc i) (omega (arith, h)) ∙ ap (dim_at dims) z))
  where
    here : d ≡ dim_at dims a
    here = each 0 (omega arith) ∙ (let z : a + 0 ≡ a = omega arith in ap (dim_at dims) z)

    more : List Ends
    more = preimages side 0 outers (map (left_map selected rest 1 diagonal_map) (range_with_len (a + 1) (length outers)))

    told : (o : Option ℕ)
        → preimages side 0 outers (map (left_map selected rest 1 diagonal_map) (range_with_len (a + 1) (length outers))) ≡ map edge (chosen dims selected (a + 1) (length outers))
        → preimages side 0 (d ∷ outers) (left_by rest 1 diagonal_map a o ∷ map (left_map selected rest 1 diagonal_map) (range_with_len (a + 1) (length outers)))
        ≡ map edge (map (dim_at dims) (cond (is_some o) (a ∷ filter (λ dim. is_some (spot_in selected dim)) (range_with_len (a + 1) (length outers))) (filter (λ dim. is_some (spot_in selected dim)) (range_with_len (a + 1) (length outers)))))
    told (Some spot) rest_is =
        ap (λ (e : Ends). e ∷ preimages side 0 outers (map (left_map selected rest 1 diagonal_map) (range_with_len (a + 1) (length outers)))) (same d ∙ ap edge here)
        ∙ ap (λ (es : List Ends). edge (dim_at dims a) ∷ es) rest_is
    told None rest_is =
        let apart : (1 + unwrap_or (spot_in rest a) 0 == 0) ≡ false = grind (arith, nat_tests) in
        rw apart rest_is

-- what holds against all selected dimensions holds against each
one_below : (m : Option ℤ) (dims : List Bounds) (selected : List ℕ) (a n dim : ℕ) → a ≤ dim → dim < a + n → is_some (spot_in selected dim) ≡ true
    → AllBelow m (map lower_edge (chosen dims selected a n)) → AtLeast m ((lower_edge (dim_at dims dim)).at)
one_below m dims selected a zero dim low high there all = absurd (omega arith)
one_below m dims selected a (suc n) dim low high there all = told (is_some (spot_in selected a)) (a == dim) refl refl all (λ l. one_below m dims selected (a + 1) n dim l (omega (arith, high)) there)
  where
    told : (b c : Bool) → is_some (spot_in selected a) ≡ b → (a == dim) ≡ c
        → AllBelow m (map lower_edge (map (dim_at dims) (cond b (a ∷ filter (λ dim. is_some (spot_in selected dim)) (range_with_len (a + 1) n)) (filter (λ dim. is_some (spot_in selected dim)) (range_with_len (a + 1) n)))))
        → ((a + 1) ≤ dim → AllBelow m (map lower_edge (chosen dims selected (a + 1) n)) → AtLeast m ((lower_edge (dim_at dims dim)).at))
        → AtLeast m ((lower_edge (dim_at dims dim)).at)
    told true true e f all later = let same : a ≡ dim = grind (arith, nat_tests) in subst (λ (k : ℕ). AtLeast m ((lower_edge (dim_at dims k)).at)) same all.0
    told true false e f all later = let l : (a + 1) ≤ dim = grind (arith, nat_tests) in later l all.1
    told false true e f all later = let same : a ≡ dim = grind (arith, nat_tests) in absurd (let g = ap (λ k. is_some (spot_in selected k)) same in cc)
    told false false e f all later = let l : (a + 1) ≤ dim = grind (arith, nat_tests) in later l all

one_above : (m : Option ℤ) (dims : List Bounds) (selected : List ℕ) (a n dim : ℕ) → a ≤ dim → dim < a + n → is_some (spot_in selected dim) ≡ true
    → AllAbove m (map upper_edge (chosen dims selected a n)) → AtMost m ((upper_edge (dim_at dims dim)).at)
one_above m dims selected a zero dim low high there all = absurd (omega arith)
one_above m dims selected a (suc n) dim low high there all = told (is_some (spot_in selected a)) (a == dim) refl refl all (λ l. one_above m dims selected (a + 1) n dim l (omega (arith, high)) there)
  where
    told : (b c : Bool) → is_some (spot_in selected a) ≡ b → (a == dim) ≡ c
        → AllAbove m (map upper_edge (map (dim_at dims) (cond b (a ∷ filter (λ dim. is_some (spot_in selected dim)) (range_with_len (a + 1) n)) (filter (λ dim. is_some (spot_in selected dim)) (range_with_len (a + 1) n)))))
        → ((a + 1) ≤ dim → AllAbove m (map upper_edge (chosen dims selected (a + 1) n)) → AtMost m ((upper_edge (dim_at dims dim)).at))
        → AtMost m ((upper_edge (dim_at dims dim)).at)
    told true true e f all later = let same : a ≡ dim = grind (arith, nat_tests) in subst (λ (k : ℕ). AtMost m ((upper_edge (dim_at dims k)).at)) same all.0
    told true false e f all later = let l : (a + 1) ≤ dim = grind (arith, nat_tests) in later l all.1
    told false true e f all later = let same : a ≡ dim = grind (arith, nat_tests) in absurd (let g = ap (λ k. is_some (spot_in selected k)) same in cc)
    told false false e f all later = let l : (a + 1) ≤ dim = grind (arith, nat_tests) in later l all

-- a side of a meet that there may be
low_of_met : (o : Option Ends) → unwrap_or (option_map (λ m. m.lower) o) (lower_edge unbounded) ≡ (unwrap_or o (ends_of unbounded)).lower
low_of_met None = refl
low_of_met (Some m) = refl

high_of_met : (o : Option Ends) → unwrap_or (option_map (λ m. m.upper) o) (upper_edge unbounded) ≡ (unwrap_or o (ends_of unbounded)).upper
high_of_met None = refl
high_of_met (Some m) = refl

-- what is built has an unbounded dimension in place of the meet
abbrev pub diagonal_built : DomainAndMaps → List ℕ → DomainAndMaps
diagonal_built u selected = without u selected (unbounded ∷ []) diagonal_map

module _ (u : DomainAndMaps) (selected : List ℕ) (t : IsTransform u) (bounds : (i : ℕ) → i < length u.domain.dims → AreBounds (get_or u.domain.dims i point))
    (known : All (λ dim. dim < length u.domain.dims) selected) (some : 0 < length selected) where
  goes : GoIn u selected 1 diagonal_map (unbounded ∷ []) (meet_of (selected_dims u selected) ∷ [])
  goes = record {
    firsts_count = refl;
    news_count = refl;
    few = one_fewer u selected t known some;
    fit = λ dim spot h e. grind (arith, nat_tests);
    plain = λ spot. refl;
    apart = λ spot p. grind (arith, nat_tests);
    inside = inside;
    tight = tight;
  }
    where
      inside : (dim spot : ℕ) → dim < length u.domain.dims → spot_in selected dim ≡ Some spot
          → are_ends_inside (meet_of (selected_dims u selected)) (get_or u.domain.dims dim point) (pos 0) (pos 1) ≡ true
      inside dim spot h e = meet_within (selected_dims u selected) (get_or u.domain.dims dim point) (bounds dim h)
          (one_below ((low_of (selected_dims u selected)).at) u.domain.dims selected 0 (length u.domain.dims) dim (omega arith) (omega (arith, h)) (ap is_some e) (low_holds (selected_dims u selected)))
          (one_above ((high_of (selected_dims u selected)).at) u.domain.dims selected 0 (length u.domain.dims) dim (omega arith) (omega (arith, h)) (ap is_some e) (high_holds (selected_dims u selected)))

      shifted : (i : ℕ) → i < length u.domain.dims → get_or u.domain.dims i point ≡ dim_at u.domain.dims (0 + i)
      shifted i h = let z : i ≡ 0 + i = omega arith in ap (dim_at u.domain.dims) z

      pres : preimages preimage 0 u.domain.dims (maps u selected 1 diagonal_map) ≡ map ends_of (selected_dims u selected)
      pres = preimages_chosen preimage ends_of preimage-same u.domain.dims selected (others selected (length u.domain.dims)) 0 u.domain.dims shifted

      low : tight_lower 0 unbounded u.domain.dims (maps u selected 1 diagonal_map) ≡ (meet_ends (selected_dims u selected)).lower
      low = ap (λ (es : List Ends). unwrap_or (option_map (λ m. m.lower) (met es)) (lower_edge unbounded)) pres ∙ low_of_met (met (map ends_of (selected_dims u selected)))

      high : tight_upper 0 unbounded u.domain.dims (maps u selected 1 diagonal_map) ≡ (meet_ends (selected_dims u selected)).upper
      high = ap (λ (es : List Ends). unwrap_or (option_map (λ m. m.upper) (met es)) (upper_edge unbounded)) pres ∙ high_of_met (met (map ends_of (selected_dims u selected)))

      first : IsTightened 0 unbounded (meet_of (selected_dims u selected)) u.domain.dims (maps u selected 1 diagonal_map)
      first = record {
        interval = ap (λ (e : Edge). interval_of e (tight_upper 0 unbounded u.domain.dims (maps u selected 1 diagonal_map))) low
            ∙ ap (λ (e : Edge). interval_of ((meet_ends (selected_dims u selected)).lower) e) high;
        low_index = subst (λ (e : Edge). ForSome e.at IsIndex) (sym low) (meet_low_index (selected_dims u selected));
        high_index = subst (λ (e : Edge). ForSome e.at IsIndex) (sym high) (meet_high_index (selected_dims u selected));
      }

      tight : (i : ℕ) → i < 1 → IsTightened i (get_or (unbounded ∷ []) i point) (get_or (meet_of (selected_dims u selected) ∷ []) i point) u.domain.dims (maps u selected 1 diagonal_map)
      tight zero h = first
      tight (suc i) h = absurd (omega (arith, h))

  pub IsTransform-diagonal : KeepsRules (diagonal_built u selected)
  IsTransform-diagonal = is_transform u selected 1 diagonal_map (unbounded ∷ []) (meet_of (selected_dims u selected) ∷ []) t bounds goes

  pub tight-diagonal : tighten_answer (diagonal_built u selected) u.domain ≡ Ok (diagonal_view u selected)
  tight-diagonal = tighten_answer-Ok (diagonal_built u selected) u.domain ((diagonal_view u selected).domain.dims)
      (becomes u selected 1 diagonal_map (unbounded ∷ []) (meet_of (selected_dims u selected) ∷ []) t bounds goes)

-- both have the same values
pub same_values : (u : DomainAndMaps) (selected : List ℕ) (index : List ℤ) → value_at (diagonal_built u selected) index ≡ value_at (diagonal_view u selected) index
same_values u selected index = each (range_with_len 0 (length u.domain.dims))
  where
    one : (dims es : List Bounds) (dim : ℕ) (o : Option ℕ) → map_value dims index (left_by (others selected (length u.domain.dims)) 1 diagonal_map dim o) ≡ map_value es index (left_by (others selected (length u.domain.dims)) 1 diagonal_map dim o)
    one dims es dim (Some spot) = refl
    one dims es dim None = refl

    each : (xs : List ℕ) → map (map_value ((diagonal_built u selected).domain.dims) index) (map (left_map selected (others selected (length u.domain.dims)) 1 diagonal_map) xs)
        ≡ map (map_value ((diagonal_view u selected).domain.dims) index) (map (left_map selected (others selected (length u.domain.dims)) 1 diagonal_map) xs)
    each [] = refl
    each (x ∷ xs) =
        ap (λ y. y ∷ map (map_value ((diagonal_built u selected).domain.dims) index) (map (left_map selected (others selected (length u.domain.dims)) 1 diagonal_map) xs))
        (one ((diagonal_built u selected).domain.dims) ((diagonal_view u selected).domain.dims) x (spot_in selected x))
        ∙ ap (λ ys. map_value ((diagonal_view u selected).domain.dims) index (left_map selected (others selected (length u.domain.dims)) 1 diagonal_map x) ∷ ys) (each xs)

pub agrees_diagonal : (t u : DomainAndMaps) (selected : List ℕ) → Follows t u (diagonal_built u selected) → Follows t u (diagonal_view u selected)
agrees_diagonal t u selected follows = record {
  values = λ index cell. follows.values index cell ∙ ap (value_at u) (same_values u selected index);
  inside = λ finite index cell. ap (first_outside u.domain.dims) (sym (same_values u selected index)) ∙ follows.inside finite index cell;
  reached = λ index cell k h i.
      let same = same_values u selected index in
      subst (λ (ys : List ℤ). is_effective (get_or u.domain.dims k point) (get_or ys k (pos 0)) ≡ true) same
      (follows.reached index cell k h (subst (λ (ys : List ℤ). is_index (get_or ys k (pos 0)) ≡ true) (sym same) i));
}
