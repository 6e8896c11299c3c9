-- A transform that tightening leaves as it is, or gives a domain that is known.
use Rattle.std.proofs.Common.{◌≡◌, ◌∙◌, suc, ℕ, ◌+◌, ◌<◌, ◌==◌, true, false, not, List, [], ◌∷◌, length, get_or, refl, ap, subst, arith, None, Ok}
use Rattle.std.proofs.lemmas.Bool.Decides.{nat_tests}
use Rattle.std.specs.Option.{ForSome}
use Rattle.std.specs.List.{list_all, zip, position_from}
use Rattle.index_intervals.specs.Bounds.{Bounds, IsIndex}
use Rattle.transform_composition.specs.declared.Domain.{Domain}
use Rattle.transform_composition.specs.declared.OutMap.{OutMap}
use Rattle.transform_composition.specs.declared.OutMap.TheVariants.{Constant, Strided, Indexed}
use Rattle.index_intervals.specs.Edges.{lower_edge, preimage, interval_of}
use Rattle.transform_composition.specs.Inside.{is_inside_by, first_outside_by}
use Rattle.transform_composition.specs.Maps.{is_map}
use Rattle.transform_composition.specs.Reading.{point}
use Rattle.transform_composition.specs.Composing.{nowhere}
use Rattle.transform_composition.specs.Transforms.{DomainAndMaps, on_dims}
use Rattle.transform_composition.specs.Tightening.{tight_lower, tight_upper, tight_dims, overflows_at, overflows_by, tightened, tighten_answer, preimages, gathered_from, interval_of, on_dims}
use Rattle.transform_composition.proofs.Laws.{get_or-inside}
use Rattle.dim_changes.proofs.TightBounds.{Edge, IsTight, interval_of-edges, finite_part-index, overflows-none}
use Rattle.cells.proofs.Laws.{both}

-- tightening makes one dimension another, by bounds that are finite indices or missing
pub record IsTightened (k : ℕ) (built dim : Bounds) (outers : List Bounds) (maps : List OutMap) : Type 0 where
  pub interval : interval_of (tight_lower k built outers maps) (tight_upper k built outers maps) ≡ dim
  pub low_index : ForSome ((tight_lower k built outers maps).at) IsIndex
  pub high_index : ForSome ((tight_upper k built outers maps).at) IsIndex

-- a dimension whose bounds are found again stays
pub IsTightened-same : (k : ℕ) (dim : Bounds) (outers : List Bounds) (maps : List OutMap) → IsTight k dim outers maps → IsTightened k dim dim outers maps
IsTightened-same k dim outers maps t = record {
  interval = ap (λ (e : Edge). interval_of e (tight_upper k dim outers maps)) t.lower ∙ ap (λ (e : Edge). interval_of (lower_edge dim) e) t.upper ∙ interval_of-edges dim t.bounds;
  low_index = rw t.lower (finite_part-index dim.lo);
  high_index = rw t.upper (finite_part-index dim.hi);
}

-- each dimension becomes the one at its spot
tight_dims-news : (k : ℕ) (builts news outers : List Bounds) (maps : List OutMap) → length news ≡ length builts
    → ((i : ℕ) → i < length builts → IsTightened (k + i) (get_or builts i point) (get_or news i point) outers maps)
    → tight_dims k builts outers maps ≡ news
tight_dims-news k [] [] outers maps l h = refl
tight_dims-news k [] (d ∷ news) outers maps l h = absurd (omega (arith, l))
tight_dims-news k (b ∷ builts) [] outers maps l h = absurd (omega (arith, l))
tight_dims-news k (b ∷ builts) (d ∷ news) outers maps l h =
    let z : k + 0 ≡ k = omega arith in
    let here : IsTightened k b d outers maps = subst (λ (n : ℕ). IsTightened n b d outers maps) z (h 0 (omega arith)) in
    ap (λ (x : Bounds). x ∷ tight_dims (k + 1) builts outers maps) here.interval
    ∙ ap (λ (xs : List Bounds). d ∷ xs)
    (tight_dims-news (k + 1) builts news outers maps (omega (arith, l))
    (λ i j. let y : k + suc i ≡ (k + 1) + i = omega arith in
    subst (λ (n : ℕ). IsTightened n (get_or builts i point) (get_or news i point) outers maps) y (h (suc i) (omega (arith, j)))))

-- no bound overflows by one output
overflows_by-false : (builts news outers : List Bounds) (maps : List OutMap) (outer : Bounds) (m : OutMap)
    → ((i : ℕ) → i < length builts → IsTightened i (get_or builts i point) (get_or news i point) outers maps)
    → is_map builts m ≡ true → overflows_by builts outers maps outer m ≡ false
overflows_by-false builts news outers maps outer (Constant offset) h e = refl
overflows_by-false builts news outers maps outer (Strided offset stride dim) h e =
    let less : dim < length builts = grind (arith, nat_tests) in
    let t = h dim less in
    ap (λ (b : Bounds). overflows_at b (gathered_from None (preimages preimage dim outers maps)) (preimage outer offset stride)) (get_or-inside builts dim outer point less)
    ∙ overflows-none (get_or builts dim point) (preimages preimage dim outers maps) (preimage outer offset stride) t.low_index t.high_index
overflows_by-false builts news outers maps outer (Indexed offset stride sizes entries) h e = refl

none_overflows : (builts news outers0 : List Bounds) (maps0 : List OutMap)
    → ((i : ℕ) → i < length builts → IsTightened i (get_or builts i point) (get_or news i point) outers0 maps0)
    → (outers : List Bounds) (maps : List OutMap) (n : ℕ) → list_all (is_map builts) maps ≡ true
    → position_from (λ p. overflows_by builts outers0 maps0 p.0 p.1) n (zip outers maps) ≡ None
none_overflows builts news os ms h [] maps n e = refl
none_overflows builts news os ms h (o ∷ outers) [] n e = refl
none_overflows builts news os ms h (o ∷ outers) (m ∷ maps) n e =
    let p = both (is_map builts m) (list_all (is_map builts) maps) e in
    rw (overflows_by-false builts news os ms o m h p.0) (none_overflows builts news os ms h outers maps (n + 1) p.1)

-- and no output has a number outside
none_outside : (news : List Bounds) (outers : List Bounds) (maps : List OutMap) (n : ℕ) → length maps ≡ length outers
    → ((j : ℕ) → j < length maps → is_inside_by news (get_or outers j point) (get_or maps j nowhere) ≡ true)
    → position_from (λ p. not (is_inside_by news p.0 p.1)) n (zip outers maps) ≡ None
none_outside news [] [] n l h = refl
none_outside news [] (m ∷ maps) n l h = absurd (omega (arith, l))
none_outside news (o ∷ outers) [] n l h = refl
none_outside news (o ∷ outers) (m ∷ maps) n l h =
    let e : is_inside_by news o m ≡ true = h 0 (omega arith) in
    rw e (none_outside news outers maps (n + 1) (omega (arith, l)) (λ j i. h (suc j) (omega (arith, i))))

-- what is shown of the dimensions that a transform is built with, and of those that it gets
pub record BecomesTight (builts news outers : List Bounds) (maps : List OutMap) : Type 0 where
  pub outputs : length maps ≡ length outers
  pub rank : length news ≡ length builts
  pub fit : list_all (is_map builts) maps ≡ true
  pub tight : (i : ℕ) → i < length builts → IsTightened i (get_or builts i point) (get_or news i point) outers maps
  pub inside : (j : ℕ) → j < length maps → is_inside_by news (get_or outers j point) (get_or maps j nowhere) ≡ true

pub tightened-Ok : (builts news outers : List Bounds) (maps : List OutMap) → BecomesTight builts news outers maps → tightened builts outers maps ≡ Ok news
tightened-Ok builts news outers maps t =
    let same : (length maps == length outers) ≡ true = let l = t.outputs in grind (arith, nat_tests) in
    let none = none_overflows builts news outers maps t.tight outers maps 0 t.fit in
    let dims = tight_dims-news 0 builts news outers maps t.rank
    (λ i j. let z : i ≡ 0 + i = omega arith in subst (λ (n : ℕ). IsTightened n (get_or builts i point) (get_or news i point) outers maps) z (t.tight i j)) in
    let out : first_outside_by news outers maps ≡ None = none_outside news outers maps 0 t.outputs t.inside in
    rw (same, none, dims, out) refl

-- tightening gives the dimensions that were shown
pub tighten_answer-Ok : (t : DomainAndMaps) (outer : Domain) (news : List Bounds) → BecomesTight t.domain.dims news outer.dims t.maps
    → tighten_answer t outer ≡ Ok (on_dims t news)
tighten_answer-Ok t outer news h = rw (tightened-Ok t.domain.dims news outer.dims t.maps h) refl

-- what is shown of dimensions that stay
pub record IsTightTransform (dims outers : List Bounds) (maps : List OutMap) : Type 0 where
  pub outputs : length maps ≡ length outers
  pub fit : list_all (is_map dims) maps ≡ true
  pub tight : (i : ℕ) → i < length dims → IsTight i (get_or dims i point) outers maps
  pub inside : (j : ℕ) → j < length maps → is_inside_by dims (get_or outers j point) (get_or maps j nowhere) ≡ true

pub BecomesTight-same : (dims outers : List Bounds) (maps : List OutMap) → IsTightTransform dims outers maps → BecomesTight dims dims outers maps
BecomesTight-same dims outers maps t = record {
  outputs = t.outputs;
  rank = refl;
  fit = t.fit;
  tight = λ i j. IsTightened-same i (get_or dims i point) outers maps (t.tight i j);
  inside = t.inside;
}

-- tightening leaves such a transform as it is
pub tighten_answer-same : (t : DomainAndMaps) (outer : Domain) → IsTightTransform t.domain.dims outer.dims t.maps → tighten_answer t outer ≡ Ok t
tighten_answer-same t outer h =
    tighten_answer-Ok t outer t.domain.dims (BecomesTight-same t.domain.dims outer.dims t.maps h)
