-- Parts of a dimension.
use Rattle.std.proofs.Common.{◌≡◌, ◌∙◌, ℕ, zero, suc, ◌+◌, ◌<◌, Bool, true, false, ℤ, pos, ◌+ℤ◌, ◌-ℤ◌, ◌≤ℤ◌, ◌<ℤ◌, unsigned_abs, [], ◌∷◌, ◌++◌, refl, sym, ap, arith}
use Rattle.std.specs.Prelude.{IsTrue, filter}
use Rattle.std.proofs.lemmas.Int.{ints}
use Rattle.std.proofs.lemmas.List.Elements.{filter-append}
use Rattle.std.proofs.lemmas.List.{append-nil}
use Rattle.index_intervals.specs.Bounds.{Bounds, AreBounds, minus_infinity, plus_infinity}
use Rattle.index_transform.specs.Cells.{is_finite, counting, members_of}
use Rattle.index_transform.specs.Maps.{size_of}
use Rattle.chunk_grid.specs.BoxSteps.{IsNarrowed, part_after}

-- finite bounds
pub record AreFinite (d : Bounds) : Type 0 where
  pub lo_above : minus_infinity <ℤ d.lo
  pub lo_below : d.lo <ℤ plus_infinity
  pub hi_above : minus_infinity <ℤ d.hi
  pub hi_below : d.hi <ℤ plus_infinity

pub finite-bounds : (d : Bounds) → IsTrue (is_finite d) → AreFinite d
finite-bounds d e = record {
  lo_above = grind (arith, ints, e);
  lo_below = grind (arith, ints, e);
  hi_above = grind (arith, ints, e);
  hi_below = grind (arith, ints, e);
}

-- so many indices of a dimension are an interval in it
pub narrowed-part : (d : Bounds) (up : Bool) (done len : ℕ) → 0 < len → (pos done +ℤ pos len) ≤ℤ ((d.hi -ℤ d.lo) +ℤ pos 1) → IsNarrowed d (part_after d up done len)
narrowed-part d true done len some within = record { low = omega (arith, ints); some = omega (arith, ints); high = omega (arith, ints) }
narrowed-part d false done len some within = record { low = omega (arith, ints); some = omega (arith, ints); high = omega (arith, ints) }

pub bounds-narrowed : (d b : Bounds) → IsTrue (is_finite d) → IsNarrowed d b → AreBounds b
bounds-narrowed d b e n =
    let f = finite-bounds d e in
    let g = f.lo_above in
    let h = f.hi_below in
    let low = n.low in
    let some = n.some in
    let high = n.high in
    record {
      lo_from = omega (arith, ints);
      lo_below = omega (arith, ints);
      hi_above = omega (arith, ints);
      hi_to = omega (arith, ints);
      ordered = omega (arith, ints);
    }

-- counting further
pub counting-split : (m n : ℕ) (x : ℤ) → counting x (m + n) ≡ counting x m ++ counting (x +ℤ pos m) n
counting-split zero n x =
    let e : 0 + n ≡ n = omega arith in
    let f : x ≡ x +ℤ pos 0 = omega (arith, ints) in
    ap (counting x) e ∙ ap (λ y. counting y n) f
counting-split (suc m) n x =
    let e : suc m + n ≡ suc (m + n) = omega arith in
    let f : (x +ℤ pos 1) +ℤ pos m ≡ x +ℤ pos (suc m) = omega (arith, ints) in
    ap (counting x) e ∙ ap (λ xs. x ∷ xs) (counting-split m n (x +ℤ pos 1) ∙ ap (λ y. counting (x +ℤ pos 1) m ++ counting y n) f)

pub filter-all : (p : ℤ → Bool) (n : ℕ) (x : ℤ) → ((y : ℤ) → x ≤ℤ y → y <ℤ (x +ℤ pos n) → p y ≡ true) → filter p (counting x n) ≡ counting x n
filter-all p zero x h = refl
filter-all p (suc n) x h =
    rw (h x (omega (arith, ints)) (omega (arith, ints)))
    (ap (λ xs. x ∷ xs) (filter-all p n (x +ℤ pos 1) (λ y a b. h y (omega (arith, ints)) (omega (arith, ints)))))

pub filter-none : (p : ℤ → Bool) (n : ℕ) (x : ℤ) → ((y : ℤ) → x ≤ℤ y → y <ℤ (x +ℤ pos n) → p y ≡ false) → filter p (counting x n) ≡ []
filter-none p zero x h = refl
filter-none p (suc n) x h =
    rw (h x (omega (arith, ints)) (omega (arith, ints)))
    (filter-none p n (x +ℤ pos 1) (λ y a b. h y (omega (arith, ints)) (omega (arith, ints))))

three : (p : ℤ → Bool) (a m n : ℕ) (x : ℤ) → filter p (counting x (a + (m + n)))
    ≡ filter p (counting x a) ++ (filter p (counting (x +ℤ pos a) m) ++ filter p (counting ((x +ℤ pos a) +ℤ pos m) n))
three p a m n x =
    ap (filter p) (counting-split a (m + n) x) ∙ filter-append p (counting x a) (counting (x +ℤ pos a) (m + n))
    ∙ ap (λ xs. filter p (counting x a) ++ xs) (ap (filter p) (counting-split m n (x +ℤ pos a)) ∙ filter-append p (counting (x +ℤ pos a) m) (counting ((x +ℤ pos a) +ℤ pos m) n))

-- where a test passes exactly within a part, the part's members are those that pass
pub members-passing : (p : ℤ → Bool) (d b : Bounds) → IsNarrowed d b
    → ((y : ℤ) → b.lo ≤ℤ y → y ≤ℤ b.hi → p y ≡ true) → ((y : ℤ) → d.lo ≤ℤ y → y <ℤ b.lo → p y ≡ false) → ((y : ℤ) → b.hi <ℤ y → y ≤ℤ d.hi → p y ≡ false)
    → members_of b ≡ filter p (members_of d)
members-passing p d b narrow passes before behind =
    let low = narrow.low in
    let some = narrow.some in
    let high = narrow.high in
    let a = unsigned_abs (b.lo -ℤ d.lo) in
    let n = unsigned_abs (d.hi -ℤ b.hi) in
    let size : size_of d ≡ a + (size_of b + n) = omega (arith, ints) in
    let at : d.lo +ℤ pos a ≡ b.lo = omega (arith, ints) in
    let end : b.lo +ℤ pos (size_of b) ≡ b.hi +ℤ pos 1 = omega (arith, ints) in
    let first = filter-none p a d.lo (λ y l h. before y l (omega (arith, ints))) in
    let here = filter-all p (size_of b) b.lo (λ y l h. passes y l (omega (arith, ints))) in
    let last = filter-none p n (b.lo +ℤ pos (size_of b)) (λ y l h. behind y (omega (arith, ints)) (omega (arith, ints))) in
    sym (
    ap (λ k. filter p (counting d.lo k)) size
    ∙ three p a (size_of b) n d.lo
    ∙ (λ i. first i ++ (filter p (counting (at i) (size_of b)) ++ filter p (counting (at i +ℤ pos (size_of b)) n)))
    ∙ (λ i. here i ++ last i)
    ∙ append-nil (members_of b)
    )
