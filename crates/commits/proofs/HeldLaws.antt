-- The cells of local arrays behind a commit.
use Rattle.std.proofs.Common.{◌≡◌, ◌≢◌, ℕ, zero, suc, ◌+◌, ◌<◌, ◌⊎◌, inl, inr, List, [], ◌∷◌, ◌++◌, length, true, false, Option, Some, None, refl, sym, ap, subst, ◌∙◌, arith}
use Rattle.std.specs.Prelude.{IsSome, set, nat_lt}
use Rattle.std.specs.List.{AllByRecursion, IsDistinct, slice_get}
use Rattle.std.specs.Option.{option_map_or}
use Rattle.std.specs.Str.{bytes_eq}
use Rattle.std.proofs.lemmas.Slice.Eq.{bytes_eq-Decides}
use Rattle.std.proofs.lemmas.Map.Keys.{IsDistinct-head, IsDistinct-tail}
use Rattle.cells.proofs.Laws.{true_or_false, equal_or_not}
use Rattle.chunk_cache.specs.Snapshot.{SnapshotCells}
use Rattle.kv_face.specs.Store.{Contents}
use Rattle.history.specs.declared.array.Home.{Home}
use Rattle.history.specs.declared.array.Home.TheVariants.{Zarr, N5, Zarr3, Local}
use Rattle.history.specs.declared.event.Event.{Event}
use Rattle.history.specs.Arrays.{Known, known_after, is_local, chunk_shape}
use Rattle.history.specs.Chunks.{Chunk, IsIndexOf, AreStarts, IsWholeIfLocal, chunk_key}
use Rattle.history.specs.Touch.{touches}
use Rattle.history.proofs.Laws.{some_inj}
use Rattle.chunk_plans.specs.Recorded.{done_event}
use Rattle.chunk_plans.specs.declared.Deed.{Deed}
use Rattle.chunk_plans.specs.declared.HeldCells.{HeldCells}
use Rattle.chunk_plans.specs.Seen.{StoreSeen}
use Rattle.chunk_plans.specs.Agreement.{Opening, Agrees}
use Rattle.history.specs.Counting.{is_change}
use Rattle.history.specs.Legal.{IsLegalDone}
use Rattle.history.specs.declared.event.Kind.TheVariants.{Done}
use Rattle.chunk_plans.specs.Changing.{AreTouched, IsDeed, IsRightBy, IsHeldAnew, IsHeldStill, committed, with_cells}
use Rattle.chunk_plans.specs.Kept.{AreCellsOf, IsCurrent}
use Rattle.chunk_plans.specs.Log.{Log, cells_held}
use Rattle.chunk_plans.specs.declared.plan.Left.{Left}
use Rattle.chunk_plans.specs.declared.plan.Left.TheVariants.{Stored, Held}
use Rattle.chunk_plans.specs.declared.plan.Planned.{Planned}
use Rattle.commits.specs.Plans.{IsPlanned, IsRightLeft, IsRightPlan, HasPlan, keys_of, ArePlans, held_of, cells_of, changes_of}
use Rattle.chunk_plans.specs.Leaving.{HasNumber, IsLeftOf}
use Rattle.commits.proofs.PlanLaws.{plans_touched, plans_changes}

-- the one index of a local array's chunk
pub origin : List ℕ → List ℕ
origin [] = []
origin (n ∷ ns) = 0 ∷ origin ns

length_origin : (ns : List ℕ) → length (origin ns) ≡ length ns
unfolding origin
length_origin [] = refl
length_origin (n ∷ ns) = ap suc (length_origin ns)

starts_origin : (ns : List ℕ) → AreStarts ns (origin ns)
unfolding origin
starts_origin [] = tt
starts_origin (n ∷ ns) = (omega arith, starts_origin ns)

zeros_origin : (ns : List ℕ) → AllByRecursion (λ c. c ≡ 0) (origin ns)
unfolding origin
zeros_origin [] = tt
zeros_origin (n ∷ ns) = (refl, zeros_origin ns)

whole_origin : (home : Home) (ns : List ℕ) → IsWholeIfLocal home (origin ns)
whole_origin (Zarr mount path meta) ns = tt
whole_origin (N5 mount path meta) ns = tt
whole_origin (Zarr3 mount path meta) ns = tt
whole_origin (Local start) ns = zeros_origin ns

pub valid_origin : (k : Known) → IsIndexOf k.info (origin (chunk_shape k.info))
valid_origin k = record { rank = length_origin (chunk_shape k.info); starts = starts_origin (chunk_shape k.info); whole = whole_origin k.info.home (chunk_shape k.info) }

zeros_are : (ns index : List ℕ) → length index ≡ length ns → AllByRecursion (λ c. c ≡ 0) index → index ≡ origin ns
unfolding origin
zeros_are [] [] rank zeros = refl
zeros_are [] (c ∷ index) rank zeros = absurd (omega (arith, rank))
zeros_are (n ∷ ns) [] rank zeros = absurd (omega (arith, rank))
zeros_are (n ∷ ns) (c ∷ index) rank zeros = ap (λ d. d ∷ index) zeros.0 ∙ ap (λ is. 0 ∷ is) (zeros_are ns index (omega (arith, rank)) zeros.1)

zeros_of : (home : Home) (index : List ℕ) → is_local home ≡ true → IsWholeIfLocal home index → AllByRecursion (λ c. c ≡ 0) index
zeros_of (Zarr mount path meta) index local whole = absurd (cc)
zeros_of (N5 mount path meta) index local whole = absurd (cc)
zeros_of (Zarr3 mount path meta) index local whole = absurd (cc)
zeros_of (Local start) index local whole = whole

pub only_origin : (k : Known) (index : List ℕ) → is_local k.info.home ≡ true → IsIndexOf k.info index → index ≡ origin (chunk_shape k.info)
only_origin k index local valid = zeros_are (chunk_shape k.info) index valid.rank (zeros_of k.info.home index local valid.whole)

get_set_here : {A : Type 0} (xs : List A) (n : ℕ) (y : A) → n < length xs → slice_get (set xs n y) n ≡ Some y
get_set_here [] n y lt = absurd (omega arith)
get_set_here (x ∷ xs) zero y lt = refl
get_set_here (x ∷ xs) (suc n) y lt = get_set_here xs n y (omega arith)

get_set_other : {A : Type 0} (xs : List A) (n a : ℕ) (y : A) → n ≢ a → slice_get (set xs n y) a ≡ slice_get xs a
get_set_other [] n a y other = refl
get_set_other (x ∷ xs) zero zero y other = absurd (other refl)
get_set_other (x ∷ xs) zero (suc a) y other = refl
get_set_other (x ∷ xs) (suc n) zero y other = refl
get_set_other (x ∷ xs) (suc n) (suc a) y other = get_set_other xs n a y (λ same. other (ap suc same))

length_set : {A : Type 0} (xs : List A) (n : ℕ) (x : A) → length (set xs n x) ≡ length xs
length_set [] n x = refl
length_set (y ∷ xs) zero x = refl
length_set (y ∷ xs) (suc n) x = ap suc (length_set xs n x)

-- what is left isn't of the array
abbrev IsOther : ℕ → Left → Type 0
IsOther a (Stored bytes kept) = Unit {0}
IsOther a (Held b cells) = b ≢ a

other_leaves : (a : ℕ) (left : Left) (rest : List HeldCells) (locals : List (Option SnapshotCells)) → IsOther a left → ((ls : List (Option SnapshotCells)) → slice_get (with_cells ls rest) a ≡ slice_get ls a) → slice_get (with_cells locals (held_of left rest)) a ≡ slice_get locals a
other_leaves a (Stored bytes kept) rest locals other before = before locals
other_leaves a (Held b cells) rest locals other before = before (set locals b (Some cells)) ∙ get_set_other locals b a (Some cells) other

-- plans of other arrays leave its cells
others_leave : (a : ℕ) (ps : List Planned) → AllByRecursion (λ p. IsOther a p.left) ps → (locals : List (Option SnapshotCells)) → slice_get (with_cells locals (cells_of ps)) a ≡ slice_get locals a
others_leave a [] all locals = refl
others_leave a (p ∷ ps) all locals = other_leaves a p.left (cells_of ps) locals all.0 (others_leave a ps all.1)

held_here : (a : ℕ) (left : Left) (cells : SnapshotCells) (rest : List HeldCells) (locals : List (Option SnapshotCells)) → left ≡ Held a cells → a < length locals → ((ls : List (Option SnapshotCells)) → slice_get (with_cells ls rest) a ≡ slice_get ls a)
    → slice_get (with_cells locals (held_of left rest)) a ≡ Some (Some cells)
held_here a left cells rest locals is lt before =
    ap (λ l. slice_get (with_cells locals (held_of l rest)) a) is ∙ before (set locals a (Some cells)) ∙ get_set_here locals a (Some cells) lt

-- the cells that the run holds behind what is left of one chunk
abbrev after_left : Left → List (Option SnapshotCells) → List (Option SnapshotCells)
after_left (Stored bytes kept) locals = locals
after_left (Held b cells) locals = set locals b (Some cells)

step_left : (left : Left) (rest : List HeldCells) (locals : List (Option SnapshotCells)) → with_cells locals (held_of left rest) ≡ with_cells (after_left left locals) rest
step_left (Stored bytes kept) rest locals = refl
step_left (Held b cells) rest locals = refl

length_after : (left : Left) (locals : List (Option SnapshotCells)) → length (after_left left locals) ≡ length locals
length_after (Stored bytes kept) locals = refl
length_after (Held b cells) locals = length_set locals b (Some cells)

-- the plan of a local array's chunk, of which R holds if it does of all, and its cells
pub record HoldsPlan (R : Planned → Type 0) (log : Log) (e : Event) (a : ℕ) (k : Known) (ps : List Planned) (locals : List (Option SnapshotCells)) : Type 0 where
  pub plan : Planned
  pub is : IsPlanned log e plan
  pub array : is.array ≡ k
  pub of_array : is.chunk.array ≡ a
  pub cells : SnapshotCells
  pub left : plan.left ≡ Held a cells
  pub holds : AllByRecursion R ps → R plan
  pub held : slice_get (with_cells locals (cells_of ps)) a ≡ Some (Some cells)

module _ (R : Planned → Type 0) (log : Log) (e : Event) (a : ℕ) (k : Known) (known : known_after log.events a ≡ Some k) (local : is_local k.info.home ≡ true) where
  extend : (p : Planned) (ps : List Planned) (locals : List (Option SnapshotCells)) → HoldsPlan R log e a k ps (after_left p.left locals) → HoldsPlan R log e a k (p ∷ ps) locals
  extend p ps locals there = record {
    plan = there.plan;
    is = there.is;
    array = there.array;
    of_array = there.of_array;
    cells = there.cells;
    left = there.left;
    holds = λ all. there.holds all.1;
    held = ap (λ ls. slice_get ls a) (step_left p.left (cells_of ps) locals) ∙ there.held;
  }

  -- a plan of the array has the key of its one chunk
  key_of_plan : (p : Planned) (is : IsPlanned log e p) → is.chunk.array ≡ a → (is.array ≡ k) × (p.key ≡ chunk_key k (origin (chunk_shape k.info)))
  key_of_plan p is at =
      let array = some_inj is.array k (sym is.known ∙ ap (known_after log.events) at ∙ known) in
      let valid = subst (λ (l : Known). IsIndexOf l.info is.chunk.index) array is.valid in
      (array, sym is.named ∙ ap (λ (l : Known). chunk_key l is.chunk.index) array ∙ ap (chunk_key k) (only_origin k is.chunk.index local valid))

  other_by : (key : List ℕ) (q : Planned) (is : IsPlanned log e q) (left : Left) → q.left ≡ left → key ≡ chunk_key k (origin (chunk_shape k.info)) → bytes_eq key q.key ≡ false → IsOther a left
  other_by key q is (Stored bytes kept) left at apart = tt
  other_by key q is (Held c cells) left at apart =
      λ same.
      let of_chunk : IsLeftOf is.array is.chunk (Held c cells) = subst (IsLeftOf is.array is.chunk) left is.left in
      let mine = key_of_plan q is (sym of_chunk.1 ∙ same) in
      let clash : true ≡ false = sym ((bytes_eq-Decides key q.key).1 (at ∙ sym mine.1)) ∙ apart in
      cc

  rest_other : (key : List ℕ) (ps : List Planned) → AllByRecursion (IsPlanned log e) ps → key ≡ chunk_key k (origin (chunk_shape k.info)) → AllByRecursion (λ y. bytes_eq key y ≡ false) (keys_of ps) → AllByRecursion (λ p. IsOther a p.left) ps
  rest_other key [] all at apart = tt
  rest_other key (q ∷ ps) all at apart = (other_by key q all.0 q.left refl at apart.0, rest_other key ps all.1 at apart.1)

  -- the first plan is the array's
  first : (p : Planned) (ps : List Planned) (locals : List (Option SnapshotCells)) (b : ℕ) (cells : SnapshotCells) → p.left ≡ Held b cells → b ≡ a → IsPlanned log e p → AllByRecursion (IsPlanned log e) ps → IsDistinct bytes_eq (keys_of (p ∷ ps)) → a < length locals
      → HoldsPlan R log e a k (p ∷ ps) locals
  first p ps locals b cells left same is all distinct lt =
      let of_chunk : IsLeftOf is.array is.chunk (Held b cells) = subst (IsLeftOf is.array is.chunk) left is.left in
      let at : is.chunk.array ≡ a = sym of_chunk.1 ∙ same in
      let mine = key_of_plan p is at in
      let here : p.left ≡ Held a cells = left ∙ ap (λ n. Held n cells) same in
      let rest = rest_other p.key ps all mine.1 (IsDistinct-head bytes_eq p.key (keys_of ps) distinct) in
      record {
        plan = p;
        is = is;
        array = mine.0;
        of_array = at;
        cells = cells;
        left = here;
        holds = λ all. all.0;
        held = held_here a p.left cells (cells_of ps) locals here lt (others_leave a ps rest);
      }

  find_by : (p : Planned) (ps : List Planned) (locals : List (Option SnapshotCells)) (left : Left) → p.left ≡ left → IsPlanned log e p → AllByRecursion (IsPlanned log e) ps → IsDistinct bytes_eq (keys_of (p ∷ ps)) → a < length locals
      → (HoldsPlan R log e a k ps (after_left p.left locals) ⊎ AllByRecursion (λ q. IsOther a q.left) ps) → HoldsPlan R log e a k (p ∷ ps) locals ⊎ AllByRecursion (λ q. IsOther a q.left) (p ∷ ps)
  find_by p ps locals (Stored bytes kept) left is all distinct lt (inl there) = inl (extend p ps locals there)
  find_by p ps locals (Stored bytes kept) left is all distinct lt (inr none) = inr (subst (IsOther a) (sym left) tt, none)
  find_by p ps locals (Held b cells) left is all distinct lt (inl there) = inl (extend p ps locals there)
  find_by p ps locals (Held b cells) left is all distinct lt (inr none) = elim (equal_or_not b a) [
    | inl same ↦ inl (first p ps locals b cells left same is all distinct lt)
    | inr other ↦ inr (subst (IsOther a) (sym left) other, none)
  ]

  -- an array has a plan, or none is of it
  pub find : (ps : List Planned) (locals : List (Option SnapshotCells)) → AllByRecursion (IsPlanned log e) ps → IsDistinct bytes_eq (keys_of ps) → a < length locals → HoldsPlan R log e a k ps locals ⊎ AllByRecursion (λ p. IsOther a p.left) ps
  find [] locals all distinct lt = inr tt
  find (p ∷ ps) locals all distinct lt =
      find_by p ps locals p.left refl all.0 all.1 distinct lt
      (find ps (after_left p.left locals) all.1 (IsDistinct-tail bytes_eq p.key (keys_of ps) distinct) (subst (λ n. a < n) (sym (length_after p.left locals)) lt))

-- cells that the run holds have a place
held_place : (locals : List (Option SnapshotCells)) (a : ℕ) (snapshot : SnapshotCells) → option_map_or (λ cells. cells) (slice_get locals a) None ≡ Some snapshot → a < length locals
held_place [] a snapshot is = absurd (cc)
held_place (l ∷ locals) zero snapshot is = omega arith
held_place (l ∷ locals) (suc a) snapshot is = let low = held_place locals a snapshot is in omega arith

other_left : (log : Log) (e : Event) (a : ℕ) (index : List ℕ) (p : Planned) (k : Known) (left : Left) → p.left ≡ left → known_after log.events a ≡ Some k → is_local k.info.home ≡ true → IsOther a left → (is : IsPlanned log e p)
    → is.chunk ≡ record { array = a; index = index } → ⊥
other_left log e a index p k (Stored bytes kept) left known local other is chunk =
    let stored : IsLeftOf is.array is.chunk (Stored bytes kept) = subst (IsLeftOf is.array is.chunk) left is.left in
    let array = some_inj is.array k (sym is.known ∙ ap (λ (d : Chunk). known_after log.events d.array) chunk ∙ known) in
    let clash : true ≡ false = sym local ∙ ap (λ (l : Known). is_local l.info.home) (sym array) ∙ stored.0 in
    cc
other_left log e a index p k (Held b cells) left known local other is chunk =
    let of_chunk : IsLeftOf is.array is.chunk (Held b cells) = subst (IsLeftOf is.array is.chunk) left is.left in
    other (of_chunk.1 ∙ ap (λ (d : Chunk). d.array) chunk)

-- a local array that no plan is of isn't touched
other_planned : (log : Log) (e : Event) (a : ℕ) (index : List ℕ) (k : Known) (ps : List Planned) → known_after log.events a ≡ Some k → is_local k.info.home ≡ true → AllByRecursion (λ p. IsOther a p.left) ps
    → HasPlan log e (record { array = a; index = index }) ps → ⊥
other_planned log e a index k [] known local all has = has
other_planned log e a index k (p ∷ ps) known local all (inl here) = other_left log e a index p k p.left refl known local all.0 here.0 here.1
other_planned log e a index k (p ∷ ps) known local all (inr more) = other_planned log e a index k ps known local all.1 more

-- cells are those of arrays of the history
known_left : (log : Log) (e : Event) (p : Planned) (left : Left) (rest : List HeldCells) → p.left ≡ left → IsPlanned log e p → AllByRecursion (λ (h : HeldCells). IsSome (known_after log.events h.array)) rest
    → AllByRecursion (λ (h : HeldCells). IsSome (known_after log.events h.array)) (held_of left rest)
known_left log e p (Stored bytes kept) rest left is known = known
known_left log e p (Held a cells) rest left is known =
    let of_chunk : IsLeftOf is.array is.chunk (Held a cells) = subst (IsLeftOf is.array is.chunk) left is.left in
    (subst (λ n. IsSome (known_after log.events n)) (sym of_chunk.1) (subst IsSome (sym is.known) refl), known)

pub cells_known : (log : Log) (e : Event) (ps : List Planned) → AllByRecursion (IsPlanned log e) ps → AllByRecursion (λ (h : HeldCells). IsSome (known_after log.events h.array)) (cells_of ps)
cells_known log e [] all = tt
cells_known log e (p ∷ ps) all = known_left log e p p.left (cells_of ps) refl all.0 (cells_known log e ps all.1)

module _ (opening : Opening) (store : StoreSeen) (log : Log) (owner : ℕ) (deed : Deed) (plans : List Planned) (agrees : Agrees opening store log) (keys : deed.keys.items ≡ keys_of plans) (cells : deed.cells.items ≡ cells_of plans)
    (are : ArePlans log (done_event owner deed.commit) plans) where
  abbrev e : Event
  e = done_event owner deed.commit

  abbrev later : Log
  later = committed log owner deed

  place : (a : ℕ) (k : Known) → known_after log.events a ≡ Some k → is_local k.info.home ≡ true → a < length log.locals
  place a k known local = let was = agrees.held a k known local in held_place log.locals a was.snapshot was.held

  held_later : (a : ℕ) → cells_held later a ≡ option_map_or (λ cells. cells) (slice_get (with_cells log.locals (cells_of plans)) a) None
  held_later a = ap (λ cs. option_map_or (λ cells. cells) (slice_get (with_cells log.locals cs) a) None) cells

  -- what is left of a local array's chunk
  cells_are : (k : Known) (p : Planned) (is : IsPlanned log e p) (a : ℕ) (snapshot : SnapshotCells) → p.left ≡ Held a snapshot → is.array ≡ k → AreCellsOf k snapshot
  cells_are k p is a snapshot left array =
      let of_chunk : IsLeftOf is.array is.chunk (Held a snapshot) = subst (IsLeftOf is.array is.chunk) left is.left in
      subst (λ l. AreCellsOf l snapshot) array of_chunk.2

  touched_one : (a : ℕ) (k : Known) (index : List ℕ) → is_local k.info.home ≡ true → IsIndexOf k.info index → (p : Planned) (is : IsPlanned log e p) → is.array ≡ k → is.chunk.array ≡ a → is.chunk ≡ record { array = a; index = index }
  touched_one a k index local valid p is array at =
      let mine = only_origin k is.chunk.index local (subst (λ (l : Known). IsIndexOf l.info is.chunk.index) array is.valid) in
      let other = only_origin k index local valid in
      λ i. record { array = at i; index = (mine ∙ sym other) i }

  held_anew : (R : Planned → Type 0) (a : ℕ) (k : Known) → is_local k.info.home ≡ true → HoldsPlan R log e a k plans log.locals → IsHeldAnew log later e a k
  held_anew R a k local there = record {
    snapshot = there.cells;
    held = held_later a ∙ ap (λ o. option_map_or (λ cells. cells) o None) there.held;
    cells = cells_are k there.plan there.is a there.cells there.left there.array;
    generation = subst (HasNumber (length log.events + 1)) there.left there.is.numbered;
    touched = λ index valid. ap (touches log.events e) (sym (touched_one a k index local valid there.plan there.is there.array there.of_array)) ∙ there.is.touched;
  }

  held_still : (a : ℕ) (k : Known) → known_after log.events a ≡ Some k → is_local k.info.home ≡ true → AllByRecursion (λ p. IsOther a p.left) plans → IsHeldStill log later e a k
  held_still a k known local none = record {
    same = held_later a ∙ ap (λ o. option_map_or (λ cells. cells) o None) (others_leave a plans none log.locals);
    untouched = λ index valid. elim (true_or_false (touches log.events e (record { array = a; index = index }))) [
      | inl t ↦ absurd (other_planned log e a index k plans known local none (are.all (record { array = a; index = index }) k known valid t))
      | inr f ↦ f
    ];
  }

  -- plans are a deed
  pub plans_deed : IsDeed log owner deed
  plans_deed = record {
    touched = subst (AreTouched log.events e) (sym keys) (plans_touched log owner deed.commit plans are);
    held = λ a k known local. elim (find (λ p. Unit {0}) log e a k known local plans log.locals are.each are.distinct (place a k known local)) [
      | inl there ↦ inr (held_anew (λ p. Unit {0}) a k local there)
      | inr none ↦ inl (held_still a k known local none)
    ];
  }

  -- cells of a right plan are the chunk then
  current_of : (start : Contents) (a : ℕ) (k : Known) (index : List ℕ) (p : Planned) (is : IsPlanned log e p) (snapshot : SnapshotCells) → p.left ≡ Held a snapshot → is.array ≡ k → is.chunk ≡ record { array = a; index = index } → IsRightPlan start log e p
      → IsCurrent start (log.events ++ e ∷ []) k (record { array = a; index = index }) snapshot
  current_of start a k index p is snapshot left array chunk right =
      subst (λ c. IsCurrent start (log.events ++ e ∷ []) k c snapshot) chunk (subst (λ l. IsCurrent start (log.events ++ e ∷ []) l is.chunk snapshot) array (subst (IsRightLeft start log e is.array is.chunk) left (right is)))

  held_right : (start : Contents) → AllByRecursion (IsRightPlan start log e) plans → (a : ℕ) (k : Known) → known_after log.events a ≡ Some k → is_local k.info.home ≡ true → (anew : IsHeldAnew log later e a k) → (index : List ℕ) → IsIndexOf k.info index
      → IsCurrent start (log.events ++ e ∷ []) k (record { array = a; index = index }) anew.snapshot
  held_right start rights a k known local anew index valid =
      elim (find (IsRightPlan start log e) log e a k known local plans log.locals are.each are.distinct (place a k known local)) [
        | inl there ↦
            let mine = held_anew (IsRightPlan start log e) a k local there in
            let same : there.cells ≡ anew.snapshot = some_inj there.cells anew.snapshot (sym (held_later a ∙ ap (λ o. option_map_or (λ cells. cells) o None) there.held) ∙ anew.held) in
            subst (IsCurrent start (log.events ++ e ∷ []) k (record { array = a; index = index })) same
            (current_of start a k index there.plan there.is there.cells there.left there.array (touched_one a k index local valid there.plan there.is there.array there.of_array) (there.holds rights))
        | inr none ↦
            let still = held_still a k known local none in
            let clash : true ≡ false = sym (anew.touched index valid) ∙ still.untouched index valid in
            absurd (cc)
      ]

  -- and where they are right, so is the deed
  pub plans_right : (start : Contents) → AllByRecursion (IsRightPlan start log e) plans → IsLegalDone start log.events deed.commit.ops
      → is_change start log.events (Done deed.commit.line deed.commit.mode deed.commit.ops deed.commit.key) ≡ nat_lt 0 (length (changes_of plans)) → IsRightBy start log owner deed (changes_of plans)
  plans_right start rights legal counted = record {
    legal = legal;
    changes_are = plans_changes log owner deed.commit plans are start rights;
    counted = counted;
    held = held_right start rights;
  }
