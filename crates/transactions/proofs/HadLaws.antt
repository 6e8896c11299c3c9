-- The chunks that a read has, and their marks.
use Rattle.std.proofs.Common.{◌≡◌, ◌≢◌, ◌∙◌, ℕ, zero, suc, ◌+◌, ◌≤◌, ◌==◌, ◌||◌, ◌&&◌, Bool, true, false, cond, List, [], ◌∷◌, ◌++◌, length, map, drop, Option, Some, None, refl, sym, ap, subst, arith}
use Rattle.std.specs.List.{AllByRecursion, list_any, slice_get}
use Rattle.std.specs.Str.{bytes_eq}
use Rattle.std.proofs.lemmas.Bool.Decides.{nat_tests}
use Rattle.std.proofs.lemmas.Slice.Eq.{bytes_eq-Decides}
use Rattle.cells.proofs.Laws.{both_true, same_test}
use Rattle.history.specs.Chunks.{Chunk, is_chunk}
use Rattle.history.specs.History.{History}
use Rattle.history.specs.Reads.{Marks, has_mark, mark_of}
use Rattle.history.proofs.Laws.{same_chunks}
use Rattle.chunk_fetches.specs.Agreement.{Opening}
use Rattle.chunk_fetches.specs.Needs.{needs}
use Rattle.chunk_fetches.specs.Sites.{id_of}
use Rattle.chunk_fetches.specs.Staging.{StagedChunk}
use Rattle.chunk_fetches.specs.declared.Piece.{Piece}
use Rattle.chunk_fetches.specs.Kept.{IsKeptIn, chunk_at, place_from}
use Rattle.chunk_fetches.specs.Fetched.{AreFetchedAt, IsFetchedFor}
use Rattle.transactions.specs.Had.{AreHad, IsHad, IsHadFor, had_from, had_of}
use Rattle.chunk_fetches.specs.Sources.{count_new, new_pieces, source_at, source_of, sources_of}
use Rattle.transactions.specs.Txn.{TxnSeen, marks_of}
use Rattle.chunk_fetches.specs.declared.kept.Kept.{Kept}
use Rattle.chunk_fetches.proofs.Laws.{IsNamed}
use Rattle.chunk_fetches.specs.declared.source.Source.{Source}
use Rattle.chunk_fetches.specs.declared.source.Source.TheVariants.{Covered, Old, New}

itself_is : (n : ℕ) → (n == n) ≡ true
itself_is n = grind (arith, nat_tests)

pub itself_chunk : (c : Chunk) → is_chunk c c ≡ true
itself_chunk c = both_true (c.array == c.array) (bytes_eq c.index c.index) (itself_is c.array) ((bytes_eq-Decides c.index c.index).1 refl)

-- ids are one exactly where their chunks are
pub id_test : (one other : List ℕ) → IsNamed one → IsNamed other → bytes_eq other one ≡ is_chunk (chunk_at one) (chunk_at other)
id_test one other first second = same_test (bytes_eq other one) (is_chunk (chunk_at one) (chunk_at other)) there back
  where
    there : bytes_eq other one ≡ true → is_chunk (chunk_at one) (chunk_at other) ≡ true
    there e = subst (λ id. is_chunk (chunk_at one) (chunk_at id) ≡ true) (sym ((bytes_eq-Decides other one).0 e)) (itself_chunk (chunk_at one))

    back : is_chunk (chunk_at one) (chunk_at other) ≡ true → bytes_eq other one ≡ true
    back e = (bytes_eq-Decides other one).1 (second ∙ ap id_of (sym (same_chunks (chunk_at one) (chunk_at other) e)) ∙ sym first)

-- a chunk that is kept under an id: it has the first mark of its chunk
pub record IsThere (P : Kept → Type 0) (kept : List Kept) (ms : Marks) (id : List ℕ) (place : ℕ) : Type 0 where
  pub chunk : Kept
  pub here : slice_get kept place ≡ Some chunk
  pub same : chunk.id ≡ id
  pub marked : has_mark (marks_of kept ++ ms) (chunk_at id) ≡ true
  pub mark : mark_of (marks_of kept ++ ms) (chunk_at id) ≡ chunk.mark
  pub holds : P chunk

module _ (P : Kept → Type 0) (named : (k : Kept) → P k → IsNamed k.id) (ms : Marks) (id : List ℕ) (is_named : IsNamed id) where
  pub there_at : (n : ℕ) (kept : List Kept) (place : ℕ) → AllByRecursion P kept → place_from n kept id ≡ Some place → (i : ℕ) × (place ≡ n + i) × IsThere P kept ms id i
  there_at n [] place all found = absurd (let no_such : ⊥ = cc in no_such)
  there_at n (k ∷ kept) place all found = by (bytes_eq id k.id) refl found (λ h. there_at (n + 1) kept place all.1 h)
    where
      by : (b : Bool) → bytes_eq id k.id ≡ b → cond b (Some n) (place_from (n + 1) kept id) ≡ Some place → (place_from (n + 1) kept id ≡ Some place → (i : ℕ) × (place ≡ n + 1 + i) × IsThere P kept ms id i)
          → (i : ℕ) × (place ≡ n + i) × IsThere P (k ∷ kept) ms id i
      by true e is rest =
          let here : n ≡ place = cc in
          let test : is_chunk (chunk_at k.id) (chunk_at id) ≡ true = sym (id_test k.id id (named k all.0) is_named) ∙ e in (
            0,
            omega (arith, here),
            record {
              chunk = k;
              here = refl;
              same = sym ((bytes_eq-Decides id k.id).0 e);
              marked = ap (λ b. b || has_mark (marks_of kept ++ ms) (chunk_at id)) test;
              mark = ap (λ b. cond b k.mark (mark_of (marks_of kept ++ ms) (chunk_at id))) test;
              holds = all.0;
            },
          )
      by false e is rest =
          let more = rest is in
          let far = more.1 in
          let there = more.2 in
          let test : is_chunk (chunk_at k.id) (chunk_at id) ≡ false = sym (id_test k.id id (named k all.0) is_named) ∙ e in (
            suc more.0,
            omega (arith, far),
            record {
              chunk = there.chunk;
              here = there.here;
              same = there.same;
              marked = ap (λ b. b || has_mark (marks_of kept ++ ms) (chunk_at id)) test ∙ there.marked;
              mark = ap (λ b. cond b k.mark (mark_of (marks_of kept ++ ms) (chunk_at id))) test ∙ there.mark;
              holds = there.holds;
            },
          )

  -- a chunk that isn't kept has the marks behind alone
  pub none_at : (n : ℕ) (kept : List Kept) → AllByRecursion P kept → place_from n kept id ≡ None
      → (has_mark (marks_of kept) (chunk_at id) ≡ false) × (has_mark (marks_of kept ++ ms) (chunk_at id) ≡ has_mark ms (chunk_at id)) × (mark_of (marks_of kept ++ ms) (chunk_at id) ≡ mark_of ms (chunk_at id))
  none_at n [] all none = (refl, refl, refl)
  none_at n (k ∷ kept) all none = by (bytes_eq id k.id) refl none (λ h. none_at (n + 1) kept all.1 h)
    where
      by : (b : Bool) → bytes_eq id k.id ≡ b → cond b (Some n) (place_from (n + 1) kept id) ≡ None
          → (place_from (n + 1) kept id ≡ None → (has_mark (marks_of kept) (chunk_at id) ≡ false) × (has_mark (marks_of kept ++ ms) (chunk_at id) ≡ has_mark ms (chunk_at id)) × (mark_of (marks_of kept ++ ms) (chunk_at id) ≡ mark_of ms (chunk_at id)))
          → (has_mark (marks_of (k ∷ kept)) (chunk_at id) ≡ false) × (has_mark (marks_of (k ∷ kept) ++ ms) (chunk_at id) ≡ has_mark ms (chunk_at id)) × (mark_of (marks_of (k ∷ kept) ++ ms) (chunk_at id) ≡ mark_of ms (chunk_at id))
      by true e is rest = absurd (let no_such : ⊥ = cc in no_such)
      by false e is rest =
          let more = rest is in
          let test : is_chunk (chunk_at k.id) (chunk_at id) ≡ false = sym (id_test k.id id (named k all.0) is_named) ∙ e in (
            ap (λ b. b || has_mark (marks_of kept) (chunk_at id)) test ∙ more.0,
            ap (λ b. b || has_mark (marks_of kept ++ ms) (chunk_at id)) test ∙ more.1,
            ap (λ b. cond b k.mark (mark_of (marks_of kept ++ ms) (chunk_at id))) test ∙ more.2,
          )

-- where all marks are one number, a chunk that has a mark has that
pub one_mark : (mark : ℕ) (fetched : List Kept) (c : Chunk) → AllByRecursion (λ (k : Kept). k.mark ≡ mark) fetched → has_mark (marks_of fetched) c ≡ true → mark_of (marks_of fetched) c ≡ mark
one_mark mark [] c all has = absurd (let no_such : ⊥ = cc in no_such)
one_mark mark (k ∷ fetched) c all has = by (is_chunk (chunk_at k.id) c) has (λ h. one_mark mark fetched c all.1 h)
  where
    by : (b : Bool) → (b || has_mark (marks_of fetched) c) ≡ true → (has_mark (marks_of fetched) c ≡ true → mark_of (marks_of fetched) c ≡ mark) → cond b k.mark (mark_of (marks_of fetched) c) ≡ mark
    by true is rest = all.0
    by false is rest = rest is

-- one of some chunks has a mark
pub has_one : (fetched : List Kept) (n : ℕ) (k : Kept) → slice_get fetched n ≡ Some k → has_mark (marks_of fetched) (chunk_at k.id) ≡ true
has_one [] zero k is = absurd (let no_such : ⊥ = cc in no_such)
has_one [] (suc n) k is = absurd (let no_such : ⊥ = cc in no_such)
has_one (j ∷ fetched) zero k is =
    let same : j ≡ k = cc in
    ap (λ b. b || has_mark (marks_of fetched) (chunk_at k.id)) (subst (λ (i : Kept). is_chunk (chunk_at i.id) (chunk_at k.id) ≡ true) (sym same) (itself_chunk (chunk_at k.id)))
has_one (j ∷ fetched) (suc n) k is = second (is_chunk (chunk_at j.id) (chunk_at k.id)) (has_one fetched n k is)
  where
    second : (b : Bool) → has_mark (marks_of fetched) (chunk_at k.id) ≡ true → (b || has_mark (marks_of fetched) (chunk_at k.id)) ≡ true
    second true h = refl
    second false h = h

-- what was fetched at a mark has it
pub at_one : (opening : Opening) (events : History) (mark : ℕ) (pieces : List Piece) (fetched : List Kept) → AreFetchedAt opening events mark pieces fetched → AllByRecursion (λ (k : Kept). k.mark ≡ mark) fetched
at_one opening events mark [] [] are = tt
at_one opening events mark [] (k ∷ fetched) are = absurd are
at_one opening events mark (p ∷ pieces) [] are = absurd are
at_one opening events mark (p ∷ pieces) (k ∷ fetched) are = (are.0.at_mark, at_one opening events mark pieces fetched are.1)

covered_is : (b : Bool) (o : Option ℕ) → cond b (source_at o) Covered ≡ Covered → b ≡ false
covered_is true None is = absurd (let no_such : ⊥ = cc in no_such)
covered_is true (Some place) is = absurd (let no_such : ⊥ = cc in no_such)
covered_is false o is = refl

old_is : (b : Bool) (o : Option ℕ) (place : ℕ) → cond b (source_at o) Covered ≡ Old place → (b ≡ true) × (o ≡ Some place)
old_is true None place is = absurd (let no_such : ⊥ = cc in no_such)
old_is true (Some there) place is = let same : there ≡ place = cc in (refl, ap Some same)
old_is false o place is = absurd (let no_such : ⊥ = cc in no_such)

pub new_is : (b : Bool) (o : Option ℕ) → cond b (source_at o) Covered ≡ New → (b ≡ true) × (o ≡ None)
new_is true None is = (refl, refl)
new_is true (Some there) is = absurd (let no_such : ⊥ = cc in no_such)
new_is false o is = absurd (let no_such : ⊥ = cc in no_such)

-- the first behind a front, and what is behind it
first_behind : (fetched : List Kept) (next : ℕ) (k : Kept) (ks : List Kept) → drop next fetched ≡ k ∷ ks → (slice_get fetched next ≡ Some k) × (drop (suc next) fetched ≡ ks)
first_behind [] zero k ks is = absurd (let no_such : ⊥ = cc in no_such)
first_behind [] (suc next) k ks is = absurd (let no_such : ⊥ = cc in no_such)
first_behind (j ∷ fetched) zero k ks is = let one : j ≡ k = cc in let rest : fetched ≡ ks = cc in (ap Some one, rest)
first_behind (j ∷ fetched) (suc next) k ks is = first_behind fetched next k ks is

none_more : (n : ℕ) → n ≡ n + 0
none_more n = omega arith

one_more : (n : ℕ) → suc n ≡ n + 1
one_more n = omega arith

from_zero : (place i : ℕ) → place ≡ 0 + i → place ≡ i
from_zero place i h = omega (arith, h)

-- each piece has its chunk, among those that are kept and those that were fetched
module _ (opening : Opening) (events : History) (staged : List StagedChunk) (kept fetched : List Kept) (mark : ℕ) (all : AllByRecursion (IsKeptIn opening events) kept) (marks : AllByRecursion (λ (k : Kept). k.mark ≡ mark) fetched) where
  abbrev srcs : List Piece → List Source
  srcs ps = sources_of staged kept ps

  abbrev pub all_marks : Marks
  all_marks = marks_of kept ++ marks_of fetched

  old_had : (p : Piece) (place : ℕ) → IsNamed p.id → needs staged p ≡ true → place_from 0 kept p.id ≡ Some place → IsHad opening events staged all_marks p (slice_get kept place)
  old_had p place named needed found =
      let there = there_at (IsKeptIn opening events) (λ k h. h.named) (marks_of fetched) p.id named 0 kept place all found in
      let held = there.2 in
      subst (IsHad opening events staged all_marks p) (sym (ap (slice_get kept) (from_zero place there.0 there.1) ∙ held.here))
      (record { needed = needed; same = held.same; marked = held.marked; mark = held.mark; kept = held.holds })

  new_had : (p : Piece) (next : ℕ) (k : Kept) → IsNamed p.id → needs staged p ≡ true → place_from 0 kept p.id ≡ None → slice_get fetched next ≡ Some k → IsFetchedFor opening events mark p k → IsHad opening events staged all_marks p (slice_get fetched next)
  new_had p next k named needed none here is =
      let behind = none_at (IsKeptIn opening events) (λ j h. h.named) (marks_of fetched) p.id named 0 kept all none in
      let has : has_mark (marks_of fetched) (chunk_at p.id) ≡ true = ap (λ id. has_mark (marks_of fetched) (chunk_at id)) (sym is.same) ∙ has_one fetched next k here in
      subst (IsHad opening events staged all_marks p) (sym here)
      (record { needed = needed; same = is.same; marked = behind.1 ∙ has; mark = behind.2 ∙ one_mark mark fetched (chunk_at p.id) marks has ∙ sym is.at_mark; kept = is.kept })

  one : (p : Piece) (ps : List Piece) (next : ℕ) (rest : List Kept) (s : Source) → IsNamed p.id → source_of staged kept p ≡ s → drop next fetched ≡ rest → AreFetchedAt opening events mark (new_pieces (s ∷ srcs ps) (p ∷ ps)) rest
      → ((n : ℕ) (r : List Kept) → drop n fetched ≡ r → AreFetchedAt opening events mark (new_pieces (srcs ps) ps) r → AreHad opening events staged all_marks ps (had_from (srcs ps) kept fetched n))
      → IsHad opening events staged all_marks p (had_of s kept fetched next) × AreHad opening events staged all_marks ps (had_from (srcs ps) kept fetched (next + count_new s))
  one p ps next rest Covered named is front are more =
      (covered_is (needs staged p) (place_from 0 kept p.id) is, subst (λ n. AreHad opening events staged all_marks ps (had_from (srcs ps) kept fetched n)) (none_more next) (more next rest front are))
  one p ps next rest (Old place) named is front are more =
      let old = old_is (needs staged p) (place_from 0 kept p.id) place is in
      (old_had p place named old.0 old.1, subst (λ n. AreHad opening events staged all_marks ps (had_from (srcs ps) kept fetched n)) (none_more next) (more next rest front are))
  one p ps next [] New named is front are more = absurd are
  one p ps next (k ∷ ks) New named is front are more =
      let new = new_is (needs staged p) (place_from 0 kept p.id) is in
      let behind = first_behind fetched next k ks front in
      (new_had p next k named new.0 new.1 behind.0 are.0, subst (λ n. AreHad opening events staged all_marks ps (had_from (srcs ps) kept fetched n)) (one_more next) (more (suc next) ks behind.1 are.1))

  had_behind : (ps : List Piece) (next : ℕ) (rest : List Kept) → AllByRecursion (λ (p : Piece). IsNamed p.id) ps → drop next fetched ≡ rest → AreFetchedAt opening events mark (new_pieces (srcs ps) ps) rest → AreHad opening events staged all_marks ps (had_from (srcs ps) kept fetched next)
  had_behind [] next rest named front are = tt
  had_behind (p ∷ ps) next rest named front are = one p ps next rest (source_of staged kept p) named.0 refl front are (λ n r. had_behind ps n r named.1)

  pub had_all : (ps : List Piece) → AllByRecursion (λ (p : Piece). IsNamed p.id) ps → AreFetchedAt opening events mark (new_pieces (srcs ps) ps) fetched → AreHad opening events staged all_marks ps (had_from (srcs ps) kept fetched 0)
  had_all ps named are = had_behind ps 0 fetched named refl are
