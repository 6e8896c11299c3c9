-- The words of a chunk as it is touched and as words are put.
use Rattle.std.proofs.Common.{◌≡◌, ◌≢◌, ◌<◌, ◌≤◌, ◌⊎◌, inl, inr, ℕ, zero, suc, ◌+◌, ◌-◌, List, [], ◌∷◌, ◌++◌, length, get_or, replicate, Bool, true, false, cond, Some, refl, sym, ap, subst, ◌∙◌, arith, eq-eqb, ne_eqb, le-leb, lt-ltb, le-ltb, get_or-set_same, get_or-set_other}
use Rattle.std.specs.Prelude.{◌==◌, ◌&&◌, nat_le, nat_lt, if◌then◌else◌}
use Rattle.std.proofs.lemmas.List.{get_or_past, length_push, length-replicate, get_or-replicate}
use Rattle.cells.proofs.Laws.{less_or_not, equal_or_not}
use Rattle.chunk_versions.specs.Moments.{up_to, newest, touched}
use Rattle.chunk_versions.specs.Versions.{Versions, IsVersions, word_in, word_if, word_as_of, word_from, put_at, table_of, with_table, with_put, HasSameWords}
use Rattle.chunk_versions.proofs.Counts.{up_to_all, up_to_less, up_to_before, up_to_behind, touched_same, touched_next, newest_touched}
use Rattle.chunk_versions.proofs.Chains.{word_top, word_other, word_own}
use borrow.Author.Tests.{lt-leb}

-- the word that a place has now
abbrev now_of : Versions → ℕ → ℕ
now_of v place = (put_at v.fill v.puts (get_or v.last place 0)).word

-- behind all touches a place has its present word
pub word_now : (v : Versions) → IsVersions v → (place count : ℕ) → length v.touches ≤ count → word_if v place count ≡ Some (now_of v place)
word_now v is place zero high = absurd (let some = is.opened in omega (arith, some, high))
word_now v is place (suc n) high = ap Some (word_top v.fill v.puts (length v.touches) (get_or v.last place 0) (suc n) is.linked (is.links place) is.opened high)

-- so it does at each moment from the newest touch on
pub word_at_end : (v : Versions) → IsVersions v → (place m : ℕ) → newest v.touches ≤ m → word_as_of v m place ≡ Some (now_of v place)
word_at_end v is place m late = word_now v is place (up_to m v.touches) (let all = up_to_all m v.touches is.rising late in omega (arith, all))

-- a touch leaves all words
pub same_touched : (v : Versions) → IsVersions v → (n : ℕ) → newest v.touches ≤ n → HasSameWords v (record v { touches = touched n v.touches })
same_touched v is n high m place = by (equal_or_not (newest v.touches) n) where
  by : (newest v.touches ≡ n) ⊎ (newest v.touches ≢ n) → word_if v place (up_to m (touched n v.touches)) ≡ word_if v place (up_to m v.touches)
  by (inl same) = ap (λ ts. word_if v place (up_to m ts)) (touched_same n v.touches same)
  by (inr other) = ap (λ ts. word_if v place (up_to m ts)) (touched_next n v.touches next) ∙ either (less_or_not m n) where
    next : newest v.touches < n
    next = omega (arith, high, other)

    either : (m < n) ⊎ (n ≤ m) → word_if v place (up_to m (v.touches ++ n ∷ [])) ≡ word_if v place (up_to m v.touches)
    either (inl early) = ap (word_if v place) (up_to_before m n v.touches early)
    either (inr late) =
        word_now v is place (up_to m (v.touches ++ n ∷ [])) (let all = up_to_behind m n v.touches is.rising next late in omega (arith, all))
        ∙ sym (word_at_end v is place m (omega (arith, next, late)))

-- a table has no more links
pub table_link : (size : ℕ) (last : List ℕ) (place : ℕ) → get_or (table_of size last) place 0 ≡ get_or last place 0
table_link size [] place = by (less_or_not place size) where
  by : (place < size) ⊎ (size ≤ place) → ◌≡◌ {A = ℕ} (get_or (replicate size 0) place 0) 0
  by (inl within) = get_or-replicate size place 0 0 within
  by (inr past) = get_or_past (replicate size 0) place 0 (omega (arith, past, length-replicate {A = ℕ} size 0))
table_link size (l ∷ last) place = refl

pub same_table : (v : Versions) → HasSameWords v (with_table v)
same_table v m place = by (up_to m v.touches) where
  by : (count : ℕ) → word_if (with_table v) place count ≡ word_if v place count
  by zero = refl
  by (suc n) = ap (λ link. Some (word_from v.fill v.puts link (suc n))) (table_link v.size v.last place)

table_size : (size : ℕ) (last : List ℕ) → (length last ≡ 0) ⊎ (length last ≡ size) → length (table_of size last) ≡ size
table_size size [] is = length-replicate size 0
table_size size (l ∷ last) (inl none) = absurd (omega (arith, none))
table_size size (l ∷ last) (inr all) = all

pub table_valid : (v : Versions) → IsVersions v → IsVersions (with_table v)
table_valid v is = record {
  opened = is.opened;
  rising = is.rising;
  table = inr (table_size v.size v.last is.table);
  links = λ place. subst (λ link. link ≤ length v.puts) (sym (table_link v.size v.last place)) (is.links place);
  linked = is.linked;
}

-- the word of the place that a word is put at, from the newest touch on
module _ (v : Versions) (is : IsVersions v) (place word : ℕ) (within : place < length v.last) where
  size : (p : _) → length (v.puts ++ p ∷ []) ≡ suc (length v.puts)
  size p = omega (arith, length_push v.puts p)

  put_other : (q : ℕ) → q ≢ place → (count : ℕ) → word_if (with_put place word v) q count ≡ word_if v q count
  put_other q other zero = refl
  put_other q other (suc n) =
      ap (λ link. Some (word_from v.fill (with_put place word v).puts link (suc n))) (get_or-set_other v.last place q (length v.puts + 1) 0 other)
      ∙ ap Some (word_other v.fill v.puts _ (get_or v.last q 0) (suc n) (is.links q) (size _))

  put_own : (n : ℕ) → word_if (with_put place word v) place (suc n) ≡ Some (cond (nat_lt (length v.touches - 1) (suc n)) word (word_in v place (suc n)))
  put_own n =
      ap (λ link. Some (word_from v.fill (with_put place word v).puts link (suc n))) (get_or-set_same v.last place (length v.puts + 1) 0 within ∙ (let next : length v.puts + 1 ≡ suc (length v.puts) = omega arith in next))
      ∙ ap Some (word_own v.fill v.puts _ (suc n) (size _))

  -- what is put is the place's word from the newest touch on, and no other word changes
  pub words_put : (m q : ℕ) → word_as_of (with_put place word v) m q ≡ (if nat_le (newest v.touches) m && q == place then Some word else word_as_of v m q)
  words_put m q = by (equal_or_not q place) (less_or_not m (newest v.touches)) where
    no_place : (b : Bool) → cond (b && false) (Some word) (word_as_of v m q) ≡ word_as_of v m q
    no_place true = refl
    no_place false = refl

    before : (count : ℕ) → count < length v.touches → word_if (with_put place word v) place count ≡ word_if v place count
    before zero early = refl
    before (suc n) early = put_own n ∙ ap (λ b. Some (cond b word (word_in v place (suc n)))) (le-ltb (length v.touches - 1) (suc n) (omega (arith, early)))

    behind : (count : ℕ) → count ≡ length v.touches → word_if (with_put place word v) place count ≡ Some word
    behind zero all = absurd (let some = is.opened in omega (arith, some, all))
    behind (suc n) all = put_own n ∙ ap (λ b. Some (cond b word (word_in v place (suc n)))) (lt-ltb (length v.touches - 1) (suc n) (omega (arith, all)))

    by : (q ≡ place) ⊎ (q ≢ place) → (m < newest v.touches) ⊎ (newest v.touches ≤ m) → word_as_of (with_put place word v) m q ≡ cond (nat_le (newest v.touches) m && q == place) (Some word) (word_as_of v m q)
    by (inr other) either =
        put_other q other (up_to m v.touches)
        ∙ sym (ap (λ b. cond (nat_le (newest v.touches) m && b) (Some word) (word_as_of v m q)) (ne_eqb q place other) ∙ no_place (nat_le (newest v.touches) m))
    by (inl same) (inl early) =
        ap (word_as_of (with_put place word v) m) same
        ∙ before (up_to m v.touches) (up_to_less m v.touches is.opened early)
        ∙ ap (word_as_of v m) (sym same)
        ∙ sym (ap (λ b. cond (b && q == place) (Some word) (word_as_of v m q)) (lt-leb (newest v.touches) m early))
    by (inl same) (inr late) =
        ap (word_as_of (with_put place word v) m) same
        ∙ behind (up_to m v.touches) (up_to_all m v.touches is.rising late)
        ∙ sym (ap (λ b. cond (b && q == place) (Some word) (word_as_of v m q)) (le-leb (newest v.touches) m late) ∙ ap (λ b. cond b (Some word) (word_as_of v m q)) (eq-eqb q place same))

-- a word is put by an event
pub words_by : (v next : Versions) → (n place word : ℕ) → IsVersions v → IsVersions next → newest v.touches ≤ n → next ≡ record v { touches = touched n v.touches } → place < v.size
    → (m q : ℕ) → word_as_of (with_put place word (with_table next)) m q ≡ (if nat_le n m && q == place then Some word else word_as_of v m q)
words_by v next n place word is valid high same within m q =
    let sizes : length (with_table next).last ≡ next.size = table_size next.size next.last valid.table in
    let size : next.size ≡ v.size = ap (λ (w : Versions). w.size) same in
    let ended : newest next.touches ≡ n = ap (λ (w : Versions). newest w.touches) same ∙ newest_touched n v.touches high in
    let words : word_as_of (with_table next) m q ≡ word_as_of v m q =
    same_table next m q ∙ ap (λ (w : Versions). word_as_of w m q) same ∙ same_touched v is n high m q in
    words_put (with_table next) (table_valid next valid) place word (omega (arith, sizes, size, within)) m q
    ∙ ap (λ k. cond (nat_le k m && q == place) (Some word) (word_as_of (with_table next) m q)) ended
    ∙ ap (λ w. cond (nat_le n m && q == place) (Some word) w) words
