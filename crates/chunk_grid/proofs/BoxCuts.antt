-- A dimension cut into segments, one after another.
use Rattle.std.proofs.Common.{◌≡◌, ◌≢◌, ◌∙◌, ℕ, ◌+◌, ◌-◌, ◌*◌, ◌/◌, ◌%◌, ◌<◌, ◌≤◌, ◌==◌, Bool, true, false, ℤ, pos, neg_ℤ, ◌+ℤ◌, ◌-ℤ◌, ◌*ℤ◌, ◌≤ℤ◌, ◌<ℤ◌, unsigned_abs, List, [], ◌∷◌, ◌++◌, map, refl, sym, ap, subst, arith, inl, inr}
use Rattle.std.specs.Prelude.{filter}
use Rattle.std.specs.List.{AllByRecursion, Contains}
use Rattle.std.proofs.Math.IntN.{*ℤ_comm, pos-*ℤ-pos}
use Rattle.std.proofs.Math.Nat.{mod-lt, mul-le-mul_left, mul_comm}
use Rattle.std.proofs.lemmas.Int.{ints}
use Rattle.std.proofs.lemmas.Nat.{div-mul-add, div-add-mod'}
use Rattle.std.proofs.lemmas.Bool.{cases_lt, eq-eqb, ne_eqb}
use Rattle.std.proofs.lemmas.List.{map-append}
use Rattle.std.proofs.lemmas.List.Elements.{All-from_recursion, All-contains, Contains-append_left, Contains-push}
use Rattle.index_intervals.specs.Bounds.{Bounds}
use Rattle.index_intervals.proofs.Laws.{add-*ℤ, neg-*ℤ}
use Rattle.index_transform.specs.Cells.{members_of}
use Rattle.index_transform.specs.Maps.{size_of}
use Rattle.chunk_grid.specs.declared.boxes.Segment.{Segment}
use Rattle.chunk_grid.specs.BoxSteps.{IsRisingBy, IsNarrowed, IsCut, strided_number, goes_up, index_after, part_after}
use Rattle.chunk_grid.proofs.BoxLists.{all-append, all-weaker, all-map, rising-append}
use Rattle.chunk_grid.proofs.BoxBounds.{members-passing, narrowed-part}

-- how far a number stays in its chunk
up_stays : (x n d k : ℕ) → 0 < n → d * k ≤ n - 1 - x % n → (x + d * k) / n ≡ x / n
up_stays x n d k above le =
    let split = div-add-mod' x n in
    let below = mod-lt x above in
    let e : x + d * k ≡ x / n * n + (x % n + d * k) = omega (arith, split) in
    ap (λ y. y / n) e ∙ div-mul-add (x / n) n (x % n + d * k) (omega (arith, le, below))

times_room : (d k room : ℕ) → k ≤ room / d → d * k ≤ room
times_room d k room le =
    let split = div-add-mod' room d in
    let grown = mul-le-mul_left d le in
    omega (arith, split, grown, mul_comm d (room / d))

pub in_chunk : (x n d k len : ℕ) → 0 < n → len ≤ (n - 1 - x % n) / d + 1 → k < len → (x + d * k) / n ≡ x / n
in_chunk x n d k len above le lt = up_stays x n d k above (times_room d k (n - 1 - x % n) (omega (arith, le, lt)))

module _ (number : ℤ → ℕ) (d : Bounds) (up : Bool) where
  abbrev at : ℕ → ℕ
  at k = number (index_after d up k)

  abbrev IsEach : Segment → Type 0
  IsEach s = (members_of s.dim ≡ filter (λ x. number x == s.number) (members_of d)) × IsNarrowed d s.dim

  -- what is known of the segments of so many indices
  pub record AreSegments (done : ℕ) (segments : List Segment) : Type 0 where
    pub rising : IsRisingBy (λ a b. a.number < b.number) segments
    pub each : AllByRecursion (λ s. (members_of s.dim ≡ filter (λ x. number x == s.number) (members_of d)) × IsNarrowed d s.dim) segments
    pub passed : (k : ℕ) → k < done → Contains (map (λ s. s.number) segments) (number (index_after d up k))
    pub behind : AllByRecursion (λ s. (k : ℕ) → done ≤ k → k < size_of d → s.number < number (index_after d up k)) segments

-- the indices of a part, and those before and behind it, by steps
part-members : (number : ℤ → ℕ) (d : Bounds) (up : Bool) (done len c : ℕ) → 0 < len → done + len ≤ size_of d → d.lo ≤ℤ d.hi
    → ((k : ℕ) → done ≤ k → k < done + len → number (index_after d up k) ≡ c)
    → ((k : ℕ) → k < done → number (index_after d up k) ≢ c)
    → ((k : ℕ) → done + len ≤ k → k < size_of d → number (index_after d up k) ≢ c)
    → members_of (part_after d up done len) ≡ filter (λ x. number x == c) (members_of d)
part-members number d true done len c some within filled here before behind =
    let le : (pos done +ℤ pos len) ≤ℤ ((d.hi -ℤ d.lo) +ℤ pos 1) = omega (arith, ints) in
    members-passing (λ x. number x == c) d (part_after d true done len) (narrowed-part d true done len some le)
    (λ y l h.
    let k = unsigned_abs (y -ℤ d.lo) in
    let is : d.lo +ℤ pos k ≡ y = omega (arith, ints) in
    eq-eqb (number y) c (ap number (sym is) ∙ here k (omega (arith, ints)) (omega (arith, ints))))
    (λ y l h.
    let k = unsigned_abs (y -ℤ d.lo) in
    let is : d.lo +ℤ pos k ≡ y = omega (arith, ints) in
    ne_eqb (number y) c (λ e. before k (omega (arith, ints)) (ap number is ∙ e)))
    (λ y l h.
    let k = unsigned_abs (y -ℤ d.lo) in
    let is : d.lo +ℤ pos k ≡ y = omega (arith, ints) in
    ne_eqb (number y) c (λ e. behind k (omega (arith, ints)) (omega (arith, ints)) (ap number is ∙ e)))
part-members number d false done len c some within filled here before behind =
    let le : (pos done +ℤ pos len) ≤ℤ ((d.hi -ℤ d.lo) +ℤ pos 1) = omega (arith, ints) in
    members-passing (λ x. number x == c) d (part_after d false done len) (narrowed-part d false done len some le)
    (λ y l h.
    let k = unsigned_abs (d.hi -ℤ y) in
    let is : d.hi -ℤ pos k ≡ y = omega (arith, ints) in
    eq-eqb (number y) c (ap number (sym is) ∙ here k (omega (arith, ints)) (omega (arith, ints))))
    (λ y l h.
    let k = unsigned_abs (d.hi -ℤ y) in
    let is : d.hi -ℤ pos k ≡ y = omega (arith, ints) in
    ne_eqb (number y) c (λ e. behind k (omega (arith, ints)) (omega (arith, ints)) (ap number is ∙ e)))
    (λ y l h.
    let k = unsigned_abs (d.hi -ℤ y) in
    let is : d.hi -ℤ pos k ≡ y = omega (arith, ints) in
    ne_eqb (number y) c (λ e. before k (omega (arith, ints)) (ap number is ∙ e)))

pub segments-more : (number : ℤ → ℕ) (d : Bounds) (up : Bool) (done len : ℕ) (segments : List Segment) (s : Segment) → AreSegments number d up done segments
    → 0 < len → done + len ≤ size_of d → d.lo ≤ℤ d.hi → s.dim ≡ part_after d up done len
    → ((k : ℕ) → done ≤ k → k < done + len → number (index_after d up k) ≡ s.number)
    → ((k : ℕ) → done + len ≤ k → k < size_of d → s.number < number (index_after d up k))
    → AreSegments number d up (done + len) (segments ++ s ∷ [])
segments-more number d up done len segments s so_far some within filled is here behind =
    let first = here done (omega arith) (omega arith) in
    let below : AllByRecursion (λ (a : Segment). a.number < s.number) segments =
    all-weaker (λ (a : Segment). (k : ℕ) → done ≤ k → k < size_of d → a.number < number (index_after d up k)) (λ a. a.number < s.number)
    (λ a h. let l = h done (omega arith) (omega arith) in omega (arith, l, first)) segments so_far.behind in
    let numbers = map (λ (a : Segment). a.number) segments in
    let small = all-map (λ (n : ℕ). n < s.number) (λ (a : Segment). a.number < s.number) (λ a. a.number) (λ a l. l) segments below in
    let le : (pos done +ℤ pos len) ≤ℤ ((d.hi -ℤ d.lo) +ℤ pos 1) = omega (arith, ints) in
    let part = part-members number d up done len s.number some within filled here
    (λ k lt e. let l = All-contains (λ (n : ℕ). n < s.number) numbers (number (index_after d up k)) (All-from_recursion (λ (n : ℕ). n < s.number) numbers small) (so_far.passed k lt) in absurd (omega (arith, l, e)))
    (λ k low lt e. let l = behind k low lt in absurd (omega (arith, l, e))) in
    let joined = map-append (λ (a : Segment). a.number) segments (s ∷ []) in
    record {
      rising = rising-append (λ (a b : Segment). a.number < b.number) segments (s ∷ []) so_far.rising (tt, tt)
          (all-weaker (λ (a : Segment). a.number < s.number) (λ a. AllByRecursion (λ (b : Segment). a.number < b.number) (s ∷ [])) (λ a l. (l, tt)) segments below);
      each = all-append (λ (a : Segment). (members_of a.dim ≡ filter (λ x. number x == a.number) (members_of d)) × IsNarrowed d a.dim) segments (s ∷ []) so_far.each
          ((ap members_of is ∙ part, subst (IsNarrowed d) (sym is) (narrowed-part d up done len some le)), tt);
      passed = λ k lt. subst (λ (ns : List ℕ). Contains ns (number (index_after d up k))) (sym joined)
          (elim (cases_lt k done) [
            | inl l ↦ Contains-append_left numbers (s.number ∷ []) (number (index_after d up k)) (so_far.passed k l)
            | inr l ↦ subst (λ (n : ℕ). Contains (numbers ++ s.number ∷ []) n) (sym (here k l lt)) (Contains-push numbers s.number)
          ]);
      behind = all-append (λ (a : Segment). (k : ℕ) → done + len ≤ k → k < size_of d → a.number < number (index_after d up k)) segments (s ∷ [])
          (all-weaker (λ (a : Segment). (k : ℕ) → done ≤ k → k < size_of d → a.number < number (index_after d up k)) (λ a. (k : ℕ) → done + len ≤ k → k < size_of d → a.number < number (index_after d up k))
          (λ a h k low lt. h k (omega arith) lt) segments so_far.behind)
          (behind, tt);
    }

-- all indices are cut
pub cut-all : (number : ℤ → ℕ) (d : Bounds) (up : Bool) (done : ℕ) (segments : List Segment) → AreSegments number d up done segments → size_of d ≤ done → IsCut number d segments
cut-all number d true done segments h all = record {
  rising = h.rising;
  each = h.each;
  all = λ x low high.
      let k = unsigned_abs (x -ℤ d.lo) in
      let is : d.lo +ℤ pos k ≡ x = omega (arith, ints) in
      subst (λ (y : ℤ). Contains (map (λ (s : Segment). s.number) segments) (number y)) is (h.passed k (omega (arith, ints)));
}
cut-all number d false done segments h all = record {
  rising = h.rising;
  each = h.each;
  all = λ x low high.
      let k = unsigned_abs (d.hi -ℤ x) in
      let is : d.hi -ℤ pos k ≡ x = omega (arith, ints) in
      subst (λ (y : ℤ). Contains (map (λ (s : Segment). s.number) segments) (number y)) is (h.passed k (omega (arith, ints)));
}

-- a number rises by the stride's size with each step
times_abs_up : (s : ℤ) (k : ℕ) → pos 0 <ℤ s → s *ℤ pos k ≡ pos (unsigned_abs s * k)
times_abs_up s k h =
    let e : pos (unsigned_abs s) ≡ s = omega (arith, ints) in
    ap (λ z. z *ℤ pos k) (sym e) ∙ pos-*ℤ-pos (unsigned_abs s) k

times_abs_down : (s : ℤ) (k : ℕ) → s ≤ℤ pos 0 → s *ℤ pos k ≡ neg_ℤ (pos (unsigned_abs s * k))
times_abs_down s k h =
    let e : neg_ℤ (pos (unsigned_abs s)) ≡ s = omega (arith, ints) in
    ap (λ z. z *ℤ pos k) (sym e) ∙ neg-*ℤ (pos (unsigned_abs s)) (pos k) ∙ ap neg_ℤ (pos-*ℤ-pos (unsigned_abs s) k)

times_sum : (s x y : ℤ) → s *ℤ (x +ℤ y) ≡ s *ℤ x +ℤ s *ℤ y
times_sum s x y = *ℤ_comm s (x +ℤ y) ∙ add-*ℤ x y s ∙ (λ i. *ℤ_comm x s i +ℤ *ℤ_comm y s i)

times_difference : (s x y : ℤ) → s *ℤ (x -ℤ y) ≡ s *ℤ x -ℤ s *ℤ y
times_difference s x y =
    let e : x -ℤ y ≡ x +ℤ neg_ℤ y = omega (arith, ints) in
    let f = ap (λ z. s *ℤ z) e ∙ times_sum s x (neg_ℤ y) in
    let g = *ℤ_comm s (neg_ℤ y) ∙ neg-*ℤ y s ∙ ap neg_ℤ (*ℤ_comm y s) in
    omega (arith, ints, f, g)

-- whether the numbers rise with the index
abbrev pub Goes : Bool → ℤ → Type 0
Goes true s = pos 0 <ℤ s
Goes false s = s ≤ℤ pos 0

pub output-after : (o s : ℤ) (d : Bounds) (up : Bool) (j i : ℕ) → Goes up s → o +ℤ s *ℤ index_after d up (j + i) ≡ (o +ℤ s *ℤ index_after d up j) +ℤ pos (unsigned_abs s * i)
output-after o s d true j i goes =
    let e : d.lo +ℤ pos (j + i) ≡ (d.lo +ℤ pos j) +ℤ pos i = omega (arith, ints) in
    let f = ap (λ z. s *ℤ z) e ∙ times_sum s (d.lo +ℤ pos j) (pos i) in
    let g = times_abs_up s i goes in
    omega (arith, ints, f, g)
output-after o s d false j i goes =
    let e : d.hi -ℤ pos (j + i) ≡ (d.hi -ℤ pos j) -ℤ pos i = omega (arith, ints) in
    let f = ap (λ z. s *ℤ z) e ∙ times_difference s (d.hi -ℤ pos j) (pos i) in
    let g = times_abs_down s i goes in
    omega (arith, ints, f, g)

-- as naturals
pub natural-after : (o s : ℤ) (d : Bounds) (up : Bool) (j i : ℕ) → Goes up s → pos 0 ≤ℤ (o +ℤ s *ℤ index_after d up j)
    → unsigned_abs (o +ℤ s *ℤ index_after d up (j + i)) ≡ unsigned_abs (o +ℤ s *ℤ index_after d up j) + unsigned_abs s * i
natural-after o s d up j i goes from =
    let e = output-after o s d up j i goes in
    omega (arith, ints, e)

pub index-within : (d : Bounds) (up : Bool) (k : ℕ) → pos k ≤ℤ (d.hi -ℤ d.lo) → (d.lo ≤ℤ index_after d up k) × (index_after d up k ≤ℤ d.hi)
index-within d true k within = (omega (arith, ints), omega (arith, ints))
index-within d false k within = (omega (arith, ints), omega (arith, ints))

pub goes-by : (s : ℤ) → Goes (goes_up s) s
goes-by s = told (goes_up s) refl where
  told : (b : Bool) → goes_up s ≡ b → Goes b s
  told true e = grind (arith, ints, e)
  told false e = grind (arith, ints, e)

pub number-after : (o s : ℤ) (size : ℕ) (d : Bounds) (done k output : ℕ) → pos 0 ≤ℤ (o +ℤ s *ℤ index_after d (goes_up s) done)
    → output ≡ unsigned_abs (o +ℤ s *ℤ index_after d (goes_up s) done) → done ≤ k
    → strided_number o s size (index_after d (goes_up s) k) ≡ (output + unsigned_abs s * (k - done)) / size
number-after o s size d done k output from is le =
    let e : k ≡ done + (k - done) = omega (arith, le) in
    ap (λ j. strided_number o s size (index_after d (goes_up s) j)) e
    ∙ ap (λ n. n / size) (natural-after o s d (goes_up s) done (k - done) (goes-by s) from ∙ ap (λ n. n + unsigned_abs s * (k - done)) (sym is))

-- the indices from one on that lie in its chunk make a segment
pub segments-step : (o s : ℤ) (size : ℕ) (d : Bounds) (done len output : ℕ) (segments : List Segment) (next : Segment)
    → AreSegments (strided_number o s size) d (goes_up s) done segments → done < size_of d → 0 < len → len ≤ size_of d - done → d.lo ≤ℤ d.hi
    → pos 0 ≤ℤ (o +ℤ s *ℤ index_after d (goes_up s) done) → output ≡ unsigned_abs (o +ℤ s *ℤ index_after d (goes_up s) done)
    → ((k : ℕ) → k < len → (output + unsigned_abs s * k) / size ≡ output / size)
    → ((k : ℕ) → len ≤ k → k < size_of d - done → output / size < (output + unsigned_abs s * k) / size)
    → next.number ≡ output / size → next.dim ≡ part_after d (goes_up s) done len
    → AreSegments (strided_number o s size) d (goes_up s) (done + len) (segments ++ next ∷ [])
segments-step o s size d done len output segments next so_far under some most filled from is stays leaves number dim =
    segments-more (strided_number o s size) d (goes_up s) done len segments next so_far some (omega (arith, most, under)) filled dim
    (λ k low high.
    number-after o s size d done k output from is low ∙ stays (k - done) (omega (arith, low, high)) ∙ sym number)
    (λ k low high.
    let e = number-after o s size d done k output from is (omega (arith, low)) in
    let l = leaves (k - done) (omega (arith, low)) (omega (arith, low, high)) in
    omega (arith, e, l, number))
