-- New dimensions, and behind them those that stay.
use Rattle.std.proofs.Common.{◌≡◌, ◌≢◌, ◌∙◌, ℕ, ◌+◌, ◌-◌, ◌<◌, ◌≤◌, ◌==◌, ◌&&◌, nat_le, nat_lt, Bool, true, false, List, [], ◌∷◌, ◌++◌, length, map, get_or, refl, sym, ap, subst, arith, pos, Option, Some, None, IsTrue, unwrap_or, length-append}
use Rattle.index_intervals.proofs.Laws.{preimage-ordered}
use Rattle.std.proofs.lemmas.Bool.Decides.{nat_tests}
use Rattle.std.proofs.lemmas.List.{length-map, get_or-map, get_or-append-add, get_or_append_left}
use Rattle.std.specs.List.{list_all, range_with_len}
use Rattle.index_intervals.specs.Bounds.{Bounds, AreBounds}
use Rattle.index_transform.specs.declared.map.OutMap.{OutMap}
use Rattle.index_intervals.specs.Edges.{preimage_lower, preimage_upper}
use Rattle.transform_composition.specs.Inside.{is_inside_by}
use Rattle.index_transform.specs.Maps.{is_map, is_plain, are_labels, has_ranks}
use Rattle.transform_composition.specs.Reading.{point}
use Rattle.transform_composition.specs.Composing.{nowhere}
use Rattle.index_transform.specs.Transforms.{DomainAndMaps, IsTransform, KeepsRules}
use Rattle.dim_changes.specs.Dims.{spot_in, others, dim_at, label_at}
use Rattle.index_transform.specs.declared.domain.Domain.{Domain}
use Rattle.dim_expressions.specs.Left.{passed, left_by, left_map, rank_of, without}
use Rattle.dim_changes.proofs.Laws.{made-of, range-length, range-at, range-all, rest_at, rest_distinct, spot_distinct, left_spot, AreLabels-from, AreLabels-taken, are_labels-true, IsTight, IsTight-one, preimage_lower-same, preimage_upper-same, is_strided_from, preimages-one, IsTightened, IsTightened-same, BecomesTight}
use Rattle.dim_expressions.proofs.PassedLaws.{ends_inside-same}
use Rattle.cells.proofs.Laws.{both}

-- a transform has one label per dimension, 32 at most
pub labels_count : (u : DomainAndMaps) → IsTransform u → length u.domain.labels ≡ length u.domain.dims
labels_count u t =
    let p = both (nat_le (length u.domain.dims) 32 && (length u.domain.labels == length u.domain.dims)) (nat_le (length u.maps) 32) t.ranks in
    let q = both (nat_le (length u.domain.dims) 32) (length u.domain.labels == length u.domain.dims) p.0 in
    grind (arith, nat_tests, q.1)

pub rank_few : (u : DomainAndMaps) → IsTransform u → length u.domain.dims ≤ 32
rank_few u t =
    let p = both (nat_le (length u.domain.dims) 32 && (length u.domain.labels == length u.domain.dims)) (nat_le (length u.maps) 32) t.ranks in
    let q = both (nat_le (length u.domain.dims) 32) (length u.domain.labels == length u.domain.dims) p.0 in
    grind (arith, nat_tests, q.0)

module _ (u : DomainAndMaps) (selected : List ℕ) (count : ℕ) (put : ℕ → OutMap) where
  abbrev pub rank : ℕ
  rank = length u.domain.dims

  abbrev pub rest : List ℕ
  rest = others selected rank

  abbrev pub stay : List Bounds
  stay = map (dim_at u.domain.dims) rest

  abbrev pub maps : List OutMap
  maps = map (left_map selected rest count put) (range_with_len 0 rank)

  pub maps_length : length maps ≡ rank
  maps_length = range-length (left_map selected rest count put) 0 rank

  pub map_at : (i : ℕ) (m : OutMap) → i < rank → get_or maps i m ≡ left_by rest count put i (spot_in selected i)
  map_at i m h = range-at (left_map selected rest count put) 0 rank i m h ∙ (let z : 0 + i ≡ i = omega arith in ap (left_map selected rest count put) z)

  pub stay_length : length stay ≡ length rest
  stay_length = length-map rest (dim_at u.domain.dims)

  -- the dimension at a spot among those that stay
  pub stay_at : (news : List Bounds) (p : ℕ) (d : Bounds) → length news ≡ count → p < length rest → get_or (news ++ stay) (count + p) d ≡ get_or u.domain.dims (get_or rest p 0) point
  stay_at news p d same h =
      ap (λ n. get_or (news ++ stay) (n + p) d) (sym same) ∙ get_or-append-add news stay p d ∙ get_or-map (dim_at u.domain.dims) rest p 0 d h

  pub whole_length : (news : List Bounds) → length news ≡ count → length (news ++ stay) ≡ count + length rest
  whole_length news same = let a = length-append news stay in let b = stay_length in omega (arith, same)

-- what is asked of the maps of selected dimensions
pub record GoIn (u : DomainAndMaps) (selected : List ℕ) (count : ℕ) (put : ℕ → OutMap) (firsts news : List Bounds) : Type 0 where
  pub firsts_count : length firsts ≡ count
  pub news_count : length news ≡ count
  pub few : count + length (rest u selected count put) ≤ 32
  pub fit : (dim spot : ℕ) → dim < length u.domain.dims → spot_in selected dim ≡ Some spot → is_map (firsts ++ stay u selected count put) (put spot) ≡ true
  pub plain : (spot : ℕ) → is_plain (put spot) ≡ true
  pub apart : (spot p : ℕ) → is_strided_from (count + p) (put spot) ≡ false
  pub inside : (dim spot : ℕ) → dim < length u.domain.dims → spot_in selected dim ≡ Some spot
      → is_inside_by (news ++ stay u selected count put) (get_or u.domain.dims dim point) (put spot) ≡ true
  pub tight : (i : ℕ) → i < count → IsTightened i (get_or firsts i point) (get_or news i point) u.domain.dims (maps u selected count put)

module _ (u : DomainAndMaps) (selected : List ℕ) (count : ℕ) (put : ℕ → OutMap) (firsts news : List Bounds) (t : IsTransform u)
    (bounds : (i : ℕ) → i < length u.domain.dims → AreBounds (get_or u.domain.dims i point)) (g : GoIn u selected count put firsts news) where
  -- a dimension that stays goes from its new one
  fit_at : (dim : ℕ) → dim < length u.domain.dims → is_map (firsts ++ stay u selected count put) (left_map selected (rest u selected count put) count put dim) ≡ true
  fit_at dim h = told (spot_in selected dim) refl
    where
      told : (o : Option ℕ) → spot_in selected dim ≡ o → is_map (firsts ++ stay u selected count put) (left_by (rest u selected count put) count put dim o) ≡ true
      told (Some spot) e = g.fit dim spot h e
      told None e =
          let p = left_spot selected (length u.domain.dims) dim h e in
          let w = whole_length u selected count put firsts g.firsts_count in
          let f : unwrap_or (spot_in (rest u selected count put) dim) 0 ≡ p.spot = ap (λ o. unwrap_or o 0) p.found in
          let l : p.spot < length (rest u selected count put) = p.inside in
          grind (arith, nat_tests)

  plain_at : (dim : ℕ) → is_plain (left_map selected (rest u selected count put) count put dim) ≡ true
  plain_at dim = told (spot_in selected dim)
    where
      told : (o : Option ℕ) → is_plain (left_by (rest u selected count put) count put dim o) ≡ true
      told (Some spot) = g.plain spot
      told None = refl

  -- no other map goes from the new dimension of one that stays
  apart_at : (p j : ℕ) → p < length (rest u selected count put) → j < length u.domain.dims → j ≢ get_or (rest u selected count put) p 0
      → is_strided_from (count + p) (left_map selected (rest u selected count put) count put j) ≡ false
  apart_at p j h k ne = told (spot_in selected j) refl
    where
      told : (o : Option ℕ) → spot_in selected j ≡ o → is_strided_from (count + p) (left_by (rest u selected count put) count put j o) ≡ false
      told (Some spot) e = g.apart spot p
      told None e =
          let q = left_spot selected (length u.domain.dims) j k e in
          let f : unwrap_or (spot_in (rest u selected count put) j) 0 ≡ q.spot = ap (λ o. unwrap_or o 0) q.found in
          let ne2 : q.spot ≢ p = λ s. ne (sym (q.there 0) ∙ ap (λ n. get_or (rest u selected count put) n 0) s) in
          grind (arith, nat_tests)

  stay_tight : (p : ℕ) → p < length (rest u selected count put) → IsTight (count + p) (get_or u.domain.dims (get_or (rest u selected count put) p 0) point) u.domain.dims (maps u selected count put)
  stay_tight p h =
      let dim = get_or (rest u selected count put) p 0 in
      let left = rest_at selected 0 (length u.domain.dims) p 0 h in
      let below : get_or (rest u selected count put) p 0 < length u.domain.dims = let b = left.below in omega (arith, b) in
      let lm = maps_length u selected count put in
      let own : spot_in (rest u selected count put) (get_or (rest u selected count put) p 0) ≡ Some p = spot_distinct (rest u selected count put) p 0 (rest_distinct selected 0 (length u.domain.dims)) h in
      let m : get_or (maps u selected count put) dim nowhere ≡ passed (count + p) =
      map_at u selected count put dim nowhere below ∙ ap (left_by (rest u selected count put) count put dim) left.kept ∙ ap (λ o. passed (count + unwrap_or o 0)) own in
      let k : dim < length (maps u selected count put) = omega (arith, below, lm) in
      let others_apart : (j : ℕ) → j < length (maps u selected count put) → j ≢ dim → is_strided_from (count + p) (get_or (maps u selected count put) j nowhere) ≡ false =
      λ j b n. (let l : j < length u.domain.dims = omega (arith, b, lm) in
      ap (is_strided_from (count + p)) (map_at u selected count put j nowhere l) ∙ apart_at p j h l n) in
      IsTight-one (count + p) (get_or u.domain.dims dim point) u.domain.dims (maps u selected count put) _ _ (bounds dim below)
      (preimages-one preimage_lower (count + p) u.domain.dims (maps u selected count put) dim (pos 0) (pos 1) k lm m others_apart)
      (preimages-one preimage_upper (count + p) u.domain.dims (maps u selected count put) dim (pos 0) (pos 1) k lm m others_apart)
      (preimage-ordered (get_or u.domain.dims dim point) (pos 0) (pos 1) (λ q. absurd (let no_such : ⊥ = cc in no_such)) (bounds dim below))
      (λ _. preimage_lower-same (get_or u.domain.dims dim point)) (λ _. preimage_upper-same (get_or u.domain.dims dim point))

  inside_at : (dim : ℕ) → dim < length u.domain.dims → is_inside_by (news ++ stay u selected count put) (get_or u.domain.dims dim point) (left_map selected (rest u selected count put) count put dim) ≡ true
  inside_at dim h = told (spot_in selected dim) refl
    where
      told : (o : Option ℕ) → spot_in selected dim ≡ o → is_inside_by (news ++ stay u selected count put) (get_or u.domain.dims dim point) (left_by (rest u selected count put) count put dim o) ≡ true
      told (Some spot) e = g.inside dim spot h e
      told None e =
          let p = left_spot selected (length u.domain.dims) dim h e in
          let at : get_or (news ++ stay u selected count put) (count + unwrap_or (spot_in (rest u selected count put) dim) 0) (get_or u.domain.dims dim point) ≡ get_or u.domain.dims dim point =
          ap (λ o. get_or (news ++ stay u selected count put) (count + unwrap_or o 0) (get_or u.domain.dims dim point)) p.found
          ∙ stay_at u selected count put news p.spot (get_or u.domain.dims dim point) g.news_count p.inside ∙ ap (λ n. get_or u.domain.dims n point) (p.there 0) in
          rw at (ends_inside-same (get_or u.domain.dims dim point) (bounds dim h))

  tight_at : (i : ℕ) → i < length (firsts ++ stay u selected count put)
      → IsTightened i (get_or (firsts ++ stay u selected count put) i point) (get_or (news ++ stay u selected count put) i point) u.domain.dims (maps u selected count put)
  tight_at i h = told (nat_lt i count) refl
    where
      told : (b : Bool) → nat_lt i count ≡ b
          → IsTightened i (get_or (firsts ++ stay u selected count put) i point) (get_or (news ++ stay u selected count put) i point) u.domain.dims (maps u selected count put)
      told true e =
          let less : i < count = grind (arith, nat_tests) in
          let one : get_or (firsts ++ stay u selected count put) i point ≡ get_or firsts i point = get_or_append_left firsts (stay u selected count put) point i (let s = g.firsts_count in omega (arith, less, s)) in
          let two : get_or (news ++ stay u selected count put) i point ≡ get_or news i point = get_or_append_left news (stay u selected count put) point i (let s = g.news_count in omega (arith, less, s)) in
          rw (one, two) (g.tight i less)
      told false e =
          let most : count ≤ i = grind (arith, nat_tests) in
          let z : count + (i - count) ≡ i = omega (arith, most) in
          let w = whole_length u selected count put firsts g.firsts_count in
          let p : i - count < length (rest u selected count put) = omega (arith, h, w, most) in
          let one = stay_at u selected count put firsts (i - count) point g.firsts_count p in
          let two = stay_at u selected count put news (i - count) point g.news_count p in
          subst (λ (n : ℕ). IsTightened n (get_or (firsts ++ stay u selected count put) n point) (get_or (news ++ stay u selected count put) n point) u.domain.dims (maps u selected count put)) z
          (rw (one, two) (IsTightened-same (count + (i - count)) (get_or u.domain.dims (get_or (rest u selected count put) (i - count) 0) point) u.domain.dims (maps u selected count put) (stay_tight (i - count) p)))

  fit_all : list_all (is_map (firsts ++ stay u selected count put)) (maps u selected count put) ≡ true
  fit_all = range-all (is_map (firsts ++ stay u selected count put)) (left_map selected (rest u selected count put) count put) 0 (length u.domain.dims) (λ i h. let z : 0 + i ≡ i = omega arith in rw z (fit_at i h))

  -- tightening leaves the dimensions that stay, and makes the first ones new
  pub becomes : BecomesTight (firsts ++ stay u selected count put) (news ++ stay u selected count put) u.domain.dims (maps u selected count put)
  becomes = record {
    outputs = maps_length u selected count put;
    rank = (let a = whole_length u selected count put firsts g.firsts_count in let b = whole_length u selected count put news g.news_count in omega (arith, a, b));
    fit = fit_all;
    tight = tight_at;
    inside = λ j h. (let l = maps_length u selected count put in let k : j < length u.domain.dims = omega (arith, h, l) in rw (map_at u selected count put j nowhere k) (inside_at j k));
  }

  -- labels of new dimensions are empty, the others are old ones
  abbrev pub names : List (List ℕ)
  names = map (λ (b : Bounds). []) firsts ++ map (label_at u.domain.labels) (rest u selected count put)

  names_length : length names ≡ count + length (rest u selected count put)
  names_length =
      let a = length-append (map (λ (b : Bounds). []) firsts) (map (label_at u.domain.labels) (rest u selected count put)) in
      let b = length-map {B = List ℕ} firsts (λ (b : Bounds). []) in
      let c = length-map (rest u selected count put) (label_at u.domain.labels) in
      let d = g.firsts_count in
      omega (arith, a, b, c, d)

  name_first : (i : ℕ) → i < count → get_or names i [] ≡ []
  name_first i h =
      let d = g.firsts_count in
      let b = length-map {B = List ℕ} firsts (λ (b : Bounds). []) in
      get_or_append_left (map (λ (b : Bounds). []) firsts) (map (label_at u.domain.labels) (rest u selected count put)) [] i (omega (arith, b, d, h))
      ∙ get_or-map (λ (b : Bounds). []) firsts i point [] (omega (arith, d, h))

  name_left : (i : ℕ) → count ≤ i → i < length names → get_or names i [] ≡ label_at u.domain.labels (get_or (rest u selected count put) (i - count) 0)
  name_left i most h =
      let d = g.firsts_count in
      let b = length-map {B = List ℕ} firsts (λ (b : Bounds). []) in
      let l = names_length in
      let z : length (map (λ (b : Bounds). []) firsts) + (i - count) ≡ i = omega (arith, b, d, most) in
      ap (λ n. get_or names n []) (sym z) ∙ get_or-append-add (map (λ (b : Bounds). []) firsts) (map (label_at u.domain.labels) (rest u selected count put)) (i - count) []
      ∙ get_or-map (label_at u.domain.labels) (rest u selected count put) (i - count) 0 [] (omega (arith, h, l, most))

  name_behind : (i : ℕ) → get_or names i [] ≢ [] → count ≤ i
  name_behind i n = told (nat_lt i count) refl
    where
      told : (b : Bool) → nat_lt i count ≡ b → count ≤ i
      told true e = absurd (n (name_first i (grind (arith, nat_tests))))
      told false e = grind (arith, nat_tests)

  pub are_names : are_labels names ≡ true
  are_names = are_labels-true names (AreLabels-taken u.domain.labels names (λ i. get_or (rest u selected count put) (i - count) 0) (AreLabels-from u.domain.labels t.labels) taken once)
    where
      taken : (i : ℕ) → i < length names → get_or names i [] ≢ [] → (get_or (rest u selected count put) (i - count) 0 < length u.domain.labels) × (get_or names i [] ≡ get_or u.domain.labels (get_or (rest u selected count put) (i - count) 0) [])
      taken i h n =
          let most = name_behind i n in
          let l = names_length in
          let left = rest_at selected 0 (length u.domain.dims) (i - count) 0 (omega (arith, h, l, most)) in
          let below = left.below in
          let same = labels_count u t in
          (omega (arith, below, same), name_left i most h)

      once : (i j : ℕ) → i < length names → j < length names → get_or (rest u selected count put) (i - count) 0 ≡ get_or (rest u selected count put) (j - count) 0
          → get_or names i [] ≢ [] → get_or names j [] ≢ [] → i ≡ j
      once i j h k e m n =
          let one = name_behind i m in
          let two = name_behind j n in
          let l = names_length in
          let distinct = rest_distinct selected 0 (length u.domain.dims) in
          let a = spot_distinct (rest u selected count put) (i - count) 0 distinct (omega (arith, h, l, one)) in
          let b = spot_distinct (rest u selected count put) (j - count) 0 distinct (omega (arith, k, l, two)) in
          let c : Some (i - count) ≡ Some (j - count) = sym a ∙ ap (spot_in (rest u selected count put)) e ∙ b in
          let d : i - count ≡ j - count = cc in
          omega (arith, d, one, two)

  -- what is built is a transform
  pub is_transform : KeepsRules (record { domain = record { dims = firsts ++ stay u selected count put; labels = names }; maps = maps u selected count put })
  is_transform = record {
    ranks = ranks;
    labels = are_names;
    maps = fit_all;
    plain = range-all is_plain (left_map selected (rest u selected count put) count put) 0 (length u.domain.dims) (λ i h. plain_at (0 + i));
  }
    where
      ranks : IsTrue (has_ranks (record { dims = firsts ++ stay u selected count put; labels = names }) (maps u selected count put))
      ranks =
          let a = whole_length u selected count put firsts g.firsts_count in
          let b = names_length in
          let c = maps_length u selected count put in
          let few = g.few in
          let old = rank_few u t in
          grind (arith, nat_tests, a, b, c, few, old)

-- what is made of the dimensions that stay, behind new ones, is the view
pub without-made : (u : DomainAndMaps) (selected rest : List ℕ) (news : List Bounds) (put : ℕ → OutMap) (domain : Domain) (olds : List Bounds) (ms : List OutMap)
    → rest ≡ others selected (rank_of u) → olds ≡ u.domain.dims
    → domain ≡ (let x : Domain = record { dims = news ++ map (dim_at u.domain.dims) rest; labels = map (λ _. []) news ++ map (label_at u.domain.labels) rest } in x)
    → ms ≡ map (left_map selected rest (length news) put) (range_with_len 0 (length olds))
    → (let b : DomainAndMaps = record { domain = domain; maps = ms } in b) ≡ without u selected news put
without-made u selected rest news put domain olds ms e o d m =
    made-of (without u selected news put) domain ms
    (d ∙ ap (λ (r : List ℕ). let x : Domain = record { dims = news ++ map (dim_at u.domain.dims) r; labels = map (λ _. []) news ++ map (label_at u.domain.labels) r } in x) e)
    (m ∙ ap (λ (r : List ℕ). map (left_map selected r (length news) put) (range_with_len 0 (length olds))) e
    ∙ ap (λ (os : List Bounds). map (left_map selected (others selected (rank_of u)) (length news) put) (range_with_len 0 (length os))) o)

-- a first dimension in front, by another name
pub front-is : (u : DomainAndMaps) (rest : List ℕ) (a b : Bounds) (domain : Domain)
    → domain ≡ (let x : Domain = record { dims = a ∷ map (dim_at u.domain.dims) rest; labels = [] ∷ map (label_at u.domain.labels) rest } in x) → a ≡ b
    → domain ≡ (let x : Domain = record { dims = (b ∷ []) ++ map (dim_at u.domain.dims) rest; labels = map (λ _. []) (b ∷ []) ++ map (label_at u.domain.labels) rest } in x)
front-is u rest a b domain d e = d ∙ ap (λ (y : Bounds). let x : Domain = record { dims = y ∷ map (dim_at u.domain.dims) rest; labels = [] ∷ map (label_at u.domain.labels) rest } in x) e
