-- Dimensions that stay at an index go.
use Rattle.std.proofs.Common.{◌≡◌, ◌∙◌, zero, suc, ℕ, ◌+◌, ◌<◌, Bool, true, false, cond, List, [], ◌∷◌, length, map, get_or, refl, sym, ap, arith, ℤ, Option, Some, None, Ok}
use Rattle.std.specs.List.{enumerate_from}
use Rattle.index_intervals.specs.Bounds.{Bounds, AreBounds}
use Rattle.index_intervals.specs.Members.{effective_lo, effective_hi}
use Rattle.transform_composition.specs.Reading.{point}
use Rattle.transform_composition.specs.Tightening.{tighten_answer}
use Rattle.index_transform.specs.Transforms.{DomainAndMaps, IsTransform, KeepsRules}
use Rattle.index_transform.specs.Values.{is_effective}
use Rattle.step_forms.specs.declared.act.Numbers.{Numbers}
use Rattle.dim_changes.specs.declared.cause.Cause.{Cause}
use Rattle.dim_changes.specs.declared.cause.Cause.TheVariants.{OutOfRange}
use Rattle.dim_changes.specs.Causes.{with_cause, first_cause, outside_cause}
use Rattle.dim_changes.specs.Dims.{spot_in}
use Rattle.dim_expressions.specs.At.{at_number, at_cause, at_causes, at_map, at_view}
use Rattle.dim_changes.proofs.Laws.{spot_in-Some, rest_few, tighten_answer-Ok}
use Rattle.dim_expressions.proofs.WithoutLaws.{GoIn, rank_few, becomes, is_transform}

pub none_of_two : (c later : Option Cause) → with_cause c later ≡ None → (c ≡ None) × (later ≡ None)
none_of_two None later e = (refl, e)
none_of_two (Some c) later e = cc

-- where no cause counts, there is none at any spot
pub none_at : (f : ℕ × ℕ → Option Cause) (a : ℕ) (xs : List ℕ) → first_cause (map f (enumerate_from a xs)) ≡ None → (k x : ℕ) → k < length xs → f (a + k, get_or xs k x) ≡ None
none_at f a [] e k x h = absurd (omega (arith, h))
none_at f a (y ∷ xs) e zero x h = let z : a + 0 ≡ a = omega arith in ap (λ n. f (n, y)) z ∙ (none_of_two (f (a, y)) (first_cause (map f (enumerate_from (a + 1) xs))) e).0
none_at f a (y ∷ xs) e (suc k) x h =
    let z : a + suc k ≡ a + 1 + k = omega arith in
    ap (λ n. f (n, get_or xs k x)) z ∙ none_at f (a + 1) xs ((none_of_two (f (a, y)) (first_cause (map f (enumerate_from (a + 1) xs))) e).1) k x (omega (arith, h))

inside_cause : (dim : Bounds) (x : ℤ) → outside_cause dim x ≡ None → is_effective dim x ≡ true
inside_cause dim x e = told (is_effective dim x) e
  where
    told : (b : Bool) → cond b None (Some (OutOfRange (effective_lo dim) (effective_hi dim))) ≡ None → b ≡ true
    told true f = refl
    told false f = cc

pub at_goes : (u : DomainAndMaps) (selected : List ℕ) (by : Numbers) → IsTransform u → first_cause (at_causes by u.domain.dims selected) ≡ None → GoIn u selected 0 (at_map by) [] []
at_goes u selected by t good = record {
  firsts_count = refl;
  news_count = refl;
  few = (let a = rest_few selected 0 (length u.domain.dims) in let b = rank_few u t in omega (arith, a, b));
  fit = λ dim spot h e. refl;
  plain = λ spot. refl;
  apart = λ spot p. refl;
  inside = inside;
  tight = λ i h. absurd (omega (arith, h));
}
  where
    inside : (dim spot : ℕ) → dim < length u.domain.dims → spot_in selected dim ≡ Some spot → is_effective (get_or u.domain.dims dim point) (at_number by spot) ≡ true
    inside dim spot h e =
        let p = spot_in-Some selected dim spot e in
        let none = none_at (at_cause by u.domain.dims) 0 selected good spot 0 p.inside in
        let z : 0 + spot ≡ spot = omega arith in
        inside_cause (get_or u.domain.dims dim point) (at_number by spot)
        (ap (λ d. outside_cause (get_or u.domain.dims d point) (at_number by spot)) (sym (p.there 0)) ∙ ap (λ n. outside_cause (get_or u.domain.dims (get_or selected spot 0) point) (at_number by n)) (sym z) ∙ none)

module _ (u : DomainAndMaps) (selected : List ℕ) (by : Numbers) (t : IsTransform u) (bounds : (i : ℕ) → i < length u.domain.dims → AreBounds (get_or u.domain.dims i point))
    (good : first_cause (at_causes by u.domain.dims selected) ≡ None) where
  pub IsTransform-at : KeepsRules (at_view u selected by)
  IsTransform-at = is_transform u selected 0 (at_map by) [] [] t bounds (at_goes u selected by t good)

  pub tight-at : tighten_answer (at_view u selected by) u.domain ≡ Ok (at_view u selected by)
  tight-at = tighten_answer-Ok (at_view u selected by) u.domain ((at_view u selected by).domain.dims) (becomes u selected 0 (at_map by) [] [] t bounds (at_goes u selected by t good))
