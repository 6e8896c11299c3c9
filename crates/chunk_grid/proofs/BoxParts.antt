-- Boxes by one number more.
use Rattle.std.proofs.Common.{◌≡◌, ◌∙◌, ℕ, zero, suc, ◌+◌, ◌<◌, ◌==◌, true, ◌&&◌, ℤ, List, [], ◌∷◌, ◌++◌, length, map, get_or, refl, sym, ap, subst, arith}
use Rattle.std.specs.Prelude.{filter}
use Rattle.std.specs.List.{AllByRecursion, Contains}
use Rattle.std.specs.Str.{bytes_eq}
use Rattle.std.proofs.lemmas.List.{append_assoc, append-nil, map-append, length-append}
use Rattle.std.proofs.lemmas.List.Elements.{filter_agree, Contains-append_left, Contains-append_right}
use Rattle.std.proofs.lemmas.Slice.Eq.{bytes_eq-Decides}
use Rattle.index_transform.specs.Cells.{cells_of}
use Rattle.chunk_grid.specs.declared.boxes.Boxed.{Boxed}
use Rattle.chunk_grid.specs.BoxSteps.{IsRisingBy, IsBefore, IsParted, IsPartOf, IsSplit, AreSplit}
use Rattle.chunk_grid.proofs.BoxLists.{all-append, all-weaker, rising-append, before-more, same-more, filter-both, contains-filter}

-- the parts of one box more
pub split-more : (number : List ℤ → ℕ) (boxes out : List Boxed) (box : Boxed) (parts : List Boxed) → AreSplit number boxes out → IsSplit number box parts → AreSplit number (boxes ++ box ∷ []) (out ++ parts)
split-more number [] out box parts h s = (parts, [], ap (λ (xs : List Boxed). xs ++ parts) h ∙ sym (append-nil parts), s, refl)
split-more number (b ∷ boxes) out box parts h s =
    (h.0, h.1 ++ parts, ap (λ (xs : List Boxed). xs ++ parts) h.2 ∙ append_assoc h.0 h.1 parts, h.3, split-more number boxes h.1 box parts h.4 s)

-- the boxes have so many numbers each
abbrev pub AreLong : ℕ → List Boxed → Type 0
AreLong n boxes = AllByRecursion (λ b. length b.chunk ≡ n) boxes

longer : (a : List ℕ) (c n : ℕ) (b : List ℕ) → b ≡ a ++ c ∷ [] → length a ≡ n → length b ≡ n + 1
longer a c n b e l = ap length e ∙ length-append a (c ∷ []) ∙ (let one : length (c ∷ []) ≡ 1 = refl in omega (arith, l, one))

pub long-more : (n : ℕ) (number : List ℤ → ℕ) (boxes out : List Boxed) → AreLong n boxes → AreSplit number boxes out → AreLong (n + 1) out
long-more n number [] out l h = subst (AreLong (n + 1)) (sym h) tt
long-more n number (b ∷ boxes) out l h =
    subst (AreLong (n + 1)) (sym h.2)
    (all-append (λ b. length b.chunk ≡ n + 1) h.0 h.1
    (all-weaker (IsPartOf number b) (λ b. length b.chunk ≡ n + 1) (λ p q. longer b.chunk q.0 n p.chunk q.1 l.0) h.0 h.3.each)
    (long-more n number boxes h.1 l.1 h.4))

module _ (number : List ℤ → ℕ) (key : List ℤ → List ℕ) (cells : List (List ℤ)) (n : ℕ) (long_key : (cell : List ℤ) → length (key cell) ≡ n) where
  abbrev pub key_more : List ℤ → List ℕ
  key_more cell = key cell ++ number cell ∷ []

  abbrev IsEach : Boxed → Type 0
  IsEach b = cells_of b.dims ≡ filter (λ cell. bytes_eq (key cell) b.chunk) cells

  abbrev IsEachMore : Boxed → Type 0
  IsEachMore b = cells_of b.dims ≡ filter (λ cell. bytes_eq (key_more cell) b.chunk) cells

  part-each : (b : Boxed) → length b.chunk ≡ n → IsEach b → (p : Boxed) → IsPartOf number b p → IsEachMore p
  part-each b l e p q =
      q.2
      ∙ ap (filter (λ cell. number cell == q.0)) e
      ∙ filter-both (λ cell. bytes_eq (key cell) b.chunk) (λ cell. number cell == q.0) cells
      ∙ filter_agree (λ cell. bytes_eq (key cell) b.chunk && (number cell == q.0)) (λ cell. bytes_eq (key_more cell) p.chunk)
      (λ cell. sym (same-more (key cell) b.chunk (number cell) q.0 (long_key cell ∙ sym l)) ∙ ap (bytes_eq (key_more cell)) (sym q.1)) cells

  each-more : (boxes out : List Boxed) → AreLong n boxes → AllByRecursion IsEach boxes → AreSplit number boxes out → AllByRecursion IsEachMore out
  each-more [] out l e h = subst (AllByRecursion IsEachMore) (sym h) tt
  each-more (b ∷ boxes) out l e h =
      subst (AllByRecursion IsEachMore) (sym h.2)
      (all-append IsEachMore h.0 h.1 (all-weaker (IsPartOf number b) IsEachMore (part-each b l.0 e.0) h.0 h.3.each) (each-more boxes h.1 l.1 e.1 h.4))

  -- a part of a box comes before the parts of later ones
  before-part : (b p d q : Boxed) → length b.chunk ≡ n → length d.chunk ≡ n → IsPartOf number b p → IsPartOf number d q → IsBefore b d → IsBefore p q
  before-part b p d q l m u v h = rw (u.1, v.1) (before-more b.chunk d.chunk u.0 v.0 (l ∙ sym m) h)

  before-parts : (b p : Boxed) → length b.chunk ≡ n → IsPartOf number b p → (boxes out : List Boxed) → AreLong n boxes → AllByRecursion (IsBefore b) boxes → AreSplit number boxes out → AllByRecursion (IsBefore p) out
  before-parts b p l u [] out m before h = subst (AllByRecursion (IsBefore p)) (sym h) tt
  before-parts b p l u (d ∷ boxes) out m before h =
      subst (AllByRecursion (IsBefore p)) (sym h.2)
      (all-append (IsBefore p) h.0 h.1
      (all-weaker (IsPartOf number d) (IsBefore p) (λ q v. before-part b p d q l m.0 u v before.0) h.0 h.3.each)
      (before-parts b p l u boxes h.1 m.1 before.1 h.4))

  rising-more : (boxes out : List Boxed) → AreLong n boxes → IsRisingBy IsBefore boxes → AreSplit number boxes out → IsRisingBy IsBefore out
  rising-more [] out l r h = subst (IsRisingBy IsBefore) (sym h) tt
  rising-more (b ∷ boxes) out l r h =
      subst (IsRisingBy IsBefore) (sym h.2)
      (rising-append IsBefore h.0 h.1 h.3.rising (rising-more boxes h.1 l.1 r.1 h.4)
      (all-weaker (IsPartOf number b) (λ p. AllByRecursion (IsBefore p) h.1) (λ p u. before-parts b p l.0 u boxes h.1 l.1 r.0 h.4) h.0 h.3.each))

  chunks : List Boxed → List (List ℕ)
  chunks boxes = map (λ b. b.chunk) boxes

  -- each cell has a part
  cell-more : (cell : List ℤ) → Contains cells cell → (boxes out : List Boxed) → AllByRecursion IsEach boxes → AreSplit number boxes out
      → (k : ℕ) → k < length (map (λ (b : Boxed). b.chunk) boxes) → get_or (map (λ (b : Boxed). b.chunk) boxes) k (key cell) ≡ key cell → Contains (map (λ (b : Boxed). b.chunk) out) (key_more cell)
  cell-more cell has [] out e h k lt is = absurd (omega arith)
  cell-more cell has (b ∷ boxes) out e h zero lt is =
      let same : bytes_eq (key cell) b.chunk ≡ true = (bytes_eq-Decides (key cell) b.chunk).1 (sym is) in
      let here = contains-filter (λ cell. bytes_eq (key cell) b.chunk) cells cell has same in
      let there = h.3.all cell (subst (λ (cs : List (List ℤ)). Contains cs cell) (sym e.0) here) in
      let part = subst (λ (ns : List ℕ). Contains (map (λ (b : Boxed). b.chunk) h.0) (ns ++ number cell ∷ [])) is there in
      subst (λ (xs : List (List ℕ)). Contains xs (key_more cell)) (sym (ap (map (λ (b : Boxed). b.chunk)) h.2 ∙ map-append (λ (b : Boxed). b.chunk) h.0 h.1))
      (Contains-append_left (map (λ (b : Boxed). b.chunk) h.0) (map (λ (b : Boxed). b.chunk) h.1) (key_more cell) part)
  cell-more cell has (b ∷ boxes) out e h (suc k) lt is =
      subst (λ (xs : List (List ℕ)). Contains xs (key_more cell)) (sym (ap (map (λ (b : Boxed). b.chunk)) h.2 ∙ map-append (λ (b : Boxed). b.chunk) h.0 h.1))
      (Contains-append_right (map (λ (b : Boxed). b.chunk) h.0) (map (λ (b : Boxed). b.chunk) h.1) (key_more cell) (cell-more cell has boxes h.1 e.1 h.4 k (omega arith) is))

  pub parted-more : (boxes out : List Boxed) → AreLong n boxes → IsParted key cells boxes → AreSplit number boxes out → IsParted key_more cells out
  parted-more boxes out l p h = record {
    rising = rising-more boxes out l p.rising h;
    each = each-more boxes out l p.each h;
    all = λ cell has. let at = p.all cell has in cell-more cell has boxes out p.each h at.0 at.1 at.2;
  }
