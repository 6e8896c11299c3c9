-- A state agrees with its opening behind a new local array.
use Rattle.std.proofs.Common.{◌≡◌, ℕ, ◌+◌, ◌*◌, ◌<◌, ◌≤◌, ◌^◌, List, [], ◌∷◌, ◌++◌, length, map, zero, suc, cond, Some, None, refl, sym, ap, subst, ◌∙◌, arith, eq-eqb}
use Rattle.std.specs.Prelude.{max, slice_index}
use Rattle.std.specs.List.{AllByRecursion}
use Rattle.std.specs.FinMap as finmap
use Rattle.std.proofs.Math.Nat.{le-mul_of_pos_right}
use Rattle.std.proofs.lemmas.Nat.{mul-le}
use Rattle.cells.specs.Dense.{DenseCells, IsDense}
use Rattle.cells.specs.Elements.{word_at}
use Rattle.cells.specs.Places.{cell_count, IsInside, c_place}
use Rattle.cells.specs.Shapes.{is_inside}
use Rattle.chunk_cache.specs.Snapshot.{SnapshotCells}
use Rattle.kv_face.specs.Store.{Contents}
use Rattle.stack_driver.specs.References.{IsReference}
use Rattle.array_homes.specs.Homes.{reference_of}
use Rattle.history.specs.declared.array.ArrayInfo.{ArrayInfo}
use Rattle.history.specs.declared.event.Event.{Event}
use Rattle.history.specs.History.{History}
use Rattle.history.specs.Arrays.{Known, known_after, chunk_shape}
use Rattle.history.specs.Chunks.{Chunk, IsIndexOf, in_array, chunk_in, cell_at}
use Rattle.history.specs.Legal.{IsLegalOpening}
use Rattle.history.specs.OpenRows.{next_array, given_info}
use Rattle.history.specs.Own.{opened_event}
use Rattle.history.specs.Touch.{generation_of}
use Rattle.history.proofs.Laws.{opening_found, counted_same, opened_as, none_is_none, local_opening, inside-to, opened_then, generation_touched}
use Rattle.history.proofs.Laws.{content_of_opening}
use Rattle.state_laws.specs.Seen.{StoreSeen}
use Rattle.state_laws.specs.Log.{Log}
use Rattle.state_laws.specs.Outline.{outline}
use Rattle.state_laws.specs.Agreement.{Agrees, Opening}
use Rattle.state_laws.specs.Kept.{IsCurrent}
use Rattle.state_laws.specs.Placed.{entered}
use Rattle.state_laws.proofs.Outline.{count-outline, length-outline, opening_of_outline}
use Rattle.state_laws.proofs.Entered.{agrees_opened}
use Rattle.state_laws.proofs.Leafs.{frame_same}

abbrev ones : List ℕ → List ℕ
ones shape = map (max 1) shape

positive : (shape : List ℕ) → 1 ≤ cell_count (ones shape)
positive [] = omega arith
positive (n ∷ shape) =
    let rest = positive shape in
    let first : 1 ≤ max 1 n = omega arith in
    mul-le 1 1 (max 1 n) (cell_count (ones shape)) first rest

least_one : (shape : List ℕ) (k : ℕ) → k < length (ones shape) → 1 ≤ slice_index (ones shape) k
least_one [] k less = absurd (omega arith)
least_one (n ∷ shape) zero less = omega arith
least_one (n ∷ shape) (suc k) less = least_one shape k (omega arith)

-- each size is at most as great as all cells, each size 0 taken as 1
most_all : (shape : List ℕ) (k : ℕ) → k < length (ones shape) → slice_index (ones shape) k ≤ cell_count (ones shape)
most_all [] k less = absurd (omega arith)
most_all (n ∷ shape) zero less = let rest = positive shape in le-mul_of_pos_right (max 1 n) (omega (arith, rest))
most_all (n ∷ shape) (suc k) less =
    let rest = most_all shape k (omega arith) in
    let first : 1 ≤ max 1 n = omega arith in
    let times : 1 * slice_index (ones shape) k ≤ max 1 n * cell_count (ones shape) = mul-le 1 (slice_index (ones shape) k) (max 1 n) (cell_count (ones shape)) first rest in
    omega (arith, times)

most_one : (shape : List ℕ) (k : ℕ) → k < length shape → slice_index shape k ≤ slice_index (ones shape) k
most_one [] k less = absurd (omega arith)
most_one (n ∷ shape) zero less = omega arith
most_one (n ∷ shape) (suc k) less = most_one shape k (omega arith)

length_ones : (shape : List ℕ) → length (ones shape) ≡ length shape
length_ones [] = refl
length_ones (n ∷ shape) = ap suc (length_ones shape)

-- a local array of few cells, each size 0 taken as 1, has a reference that keeps the rules
pub reference_given : (number : ℕ) (cells : DenseCells) → length cells.shape ≤ 32 → cell_count (map (max 1) cells.shape) ≤ 2 ^ 22 → IsReference (reference_of (given_info number cells) cells.shape)
reference_given number cells rank small = record {
  shape = record {
    rank = rank;
    sizes = λ k less.
        let one = most_one cells.shape k less in
        let all = most_all cells.shape k (subst (λ n. k < n) (sym (length_ones cells.shape)) less) in
        omega (arith, one, all, small);
  };
  chunk = record {
    least = λ k less. least_one cells.shape k less;
    greatest = λ k less. let all = most_all cells.shape k less in omega (arith, all, small);
    volume = omega (arith, small);
  };
  ranks = length_ones cells.shape;
  whole = λ run. refl;
}

-- the chunk at the origin has its cells where the array has them
at_origin : (chunk place index : List ℕ) → length place ≡ length chunk → AllByRecursion (λ c. c ≡ 0) place → length index ≡ length chunk → in_array chunk place index ≡ index
at_origin [] place [] rank zeros size = refl
at_origin [] place (x ∷ index) rank zeros size = absurd (omega arith)
at_origin (n ∷ chunk) [] index rank zeros size = absurd (omega arith)
at_origin (n ∷ chunk) (c ∷ place) [] rank zeros size = absurd (omega arith)
at_origin (n ∷ chunk) (c ∷ place) (x ∷ index) rank zeros size =
    let none : 0 * n + x ≡ x = omega arith in
    let first : c * n + x ≡ x = ap (λ c. c * n + x) zeros.0 ∙ none in
    let rest = at_origin chunk place index (omega arith) zeros.1 (omega arith) in
    λ i. first i ∷ rest i

inside_length : (shape index : List ℕ) → IsInside shape index → length index ≡ length shape
inside_length [] [] inside = refl
inside_length [] (x ∷ index) inside = absurd inside
inside_length (n ∷ shape) [] inside = absurd inside
inside_length (n ∷ shape) (x ∷ index) inside = ap suc (inside_length shape index inside.1)

module _ (opening : Opening) (store : StoreSeen) (log : Log) (owner : ℕ) (cells : DenseCells) (agrees : Agrees opening store log) (valid : IsDense cells) (small : length log.events + 1 < 2 ^ 64) where
  abbrev h : History
  h = log.events

  abbrev info : ArrayInfo
  info = given_info (next_array h) cells

  abbrev e : Event
  e = opened_event owner info

  abbrev later : History
  later = h ++ e ∷ []

  abbrev k : Known
  k = opened_as h info

  abbrev snapshot : SnapshotCells
  snapshot = record { generation = length h + 1; cells = cells }

  -- it may be opened
  may_open : IsLegalOpening h info
  may_open =
      let length_is = length-outline h in
      opening_of_outline h info
      (local_opening finmap.empty (outline h) info cells agrees.outline (omega (arith, length_is, small)) (sym (count-outline h)) refl (record { valid = valid; shape = refl; dtype = refl; fill = refl }))

  known : known_after later info.number ≡ Some k
  known = opened_then h e info info.number refl refl

  -- its one chunk has its numbers
  current : (start : Contents) (index : List ℕ) → IsIndexOf info index → IsCurrent start later k (record { array = info.number; index = index }) snapshot
  current start index is =
      let c : Chunk = record { array = info.number; index = index } in
      let one = eq-eqb info.number info.number refl in
      record {
        known = known;
        valid = is;
        current = sym (generation_touched h e c one);
        cells = λ place inside.
            let x = cell_at k c place in
            let at : x.index ≡ place = at_origin (chunk_shape info) index place is.rank is.whole (inside_length cells.shape place inside ∙ sym (length_ones cells.shape)) in
            let early : generation_of later (chunk_in (Some k) x) ≤ k.opened = let g = generation_touched h e (chunk_in (Some k) x) one in omega (arith, g) in
            content_of_opening start x later k known early
            ∙ ap (λ xs. cond (is_inside cells.shape xs) (Some (slice_index cells.words (c_place cells.shape xs))) None) at
            ∙ ap (λ b. cond b (Some (word_at cells place)) None) (inside-to cells.shape place inside);
      }

  pub agrees_given : Agrees opening store (entered log owner info (Some snapshot))
  agrees_given =
      agrees_opened opening store store log owner info (Some snapshot) agrees may_open (frame_same store) (omega arith) (λ m on. absurd (none_is_none m on))
      (λ local. (snapshot, refl, record { dtype = refl; shape = refl }, refl, λ start index told legal is. current start index is))
      (λ start told true_to. (
        true_to.contents,
        true_to.told,
        opening_found start h owner info true_to.legal may_open true_to.contents (λ key named. absurd (none_is_none key named)),
        counted_same start opening.store.changes store.changes store.changes h e true_to.counted refl refl,
      ))
