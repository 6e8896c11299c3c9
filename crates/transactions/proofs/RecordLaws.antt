-- What a transaction has recorded beside its events, from one line to the next.
use Rattle.std.proofs.Common.{◌≡◌, ◌∙◌, ℕ, zero, suc, Bool, true, false, cond, ◌||◌, List, [], ◌∷◌, ◌++◌, map, Some, Result, Ok, Err, ◌⊎◌, inl, inr, refl, sym, ap, subst, append_assoc, append-nil, arith}
use Rattle.std.specs.Prelude.{Contains, IsTrue, filter, filter_map, not}
use Rattle.std.specs.FinMap as finmap
use Rattle.std.specs.List.{AllByRecursion, IsDistinct, list_any}
use Rattle.std.proofs.lemmas.List.{map-append}
use Rattle.std.proofs.lemmas.List.Elements.{Contains-append_left, Contains-append_right, Contains-append_cases, filter-append}
use Rattle.std.proofs.lemmas.List.Folds.{list_any-append}
use Rattle.std.proofs.lemmas.Map.Keys.{IsDistinct-head, IsDistinct-tail, IsDistinct-cons}
use Rattle.history.specs.Chunks.{Chunk, is_chunk, chunk_of}
use Rattle.history.specs.Commit.{Transaction, is_write, kept_ops}
use Rattle.history.specs.History.{History}
use Rattle.history.specs.Legal.{IsLegal}
use Rattle.history.specs.Reads.{Marks, cells_named, first_reads, footprint_of, has_mark, is_put, mark_of, target_cell, unwritten, visible_values}
use Rattle.history.specs.Shown.{AreMarked, after_read}
use Rattle.history.specs.Staged.{IsStaged}
use Rattle.history.specs.Writes.{puts_of}
use Rattle.history.specs.declared.event.Op.{Op}
use Rattle.history.specs.declared.event.Op.TheVariants.{Write, Read}
use Rattle.history.proofs.Laws.{IsLegal-front, LiesOf, WasInside, same_chunks, targets_lie, transaction_begun, transaction_longer, transaction_read, transaction_written}
use Rattle.kv_face.specs.Store.{Contents}
use Rattle.stack_driver.specs.Conditions.{IsView}
use Rattle.stack_driver.specs.Targets.{Cell, Target}
use Rattle.stack_driver.specs.Views.{targets_of}
use Rattle.stack_driver.specs.declared.error.TargetError.{TargetError}
use Rattle.stack_driver.specs.declared.view.View.{View}
use Rattle.chunk_fetches.specs.Agreement.{Opening}
use Rattle.chunk_fetches.specs.Outline.{outline, outlined_event}
use Rattle.chunk_fetches.proofs.Laws.{same_chunk}
use Rattle.transactions.specs.Conditions.{IsKnownOp}
use Rattle.transactions.specs.Recording.{AreOfFootprint, IsOfView, IsRecorded}
use Rattle.transactions.proofs.TxnLaws.{all_with}
use Rattle.chunk_fetches.proofs.Laws.{grows_in, keeps_front}

-- cells that operations read first, those of more operations behind them
first_reads-append : (before ops more : List Op) → first_reads before (ops ++ more) ≡ first_reads before ops ++ first_reads (before ++ ops) more
first_reads-append before [] more = ap (λ b. first_reads b more) (sym (append-nil before))
first_reads-append before (Write view words ∷ ops) more =
    let all = before ++ Write view words ∷ [] in
    first_reads-append all ops more ∙ ap (λ b. first_reads all ops ++ first_reads b more) (append_assoc before (Write view words ∷ []) ops)
first_reads-append before (Read view words ∷ ops) more =
    let all = before ++ Read view words ∷ [] in
    ap (λ xs. unwritten before view ++ xs) (first_reads-append all ops more ∙ ap (λ b. first_reads all ops ++ first_reads b more) (append_assoc before (Read view words ∷ []) ops))
    ∙ sym (append_assoc (unwritten before view) (first_reads all ops) (first_reads (before ++ Read view words ∷ ops) more))

footprint-append : (events : History) (ops more : List Op) → footprint_of events (ops ++ more) ≡ footprint_of events ops ++ map (chunk_of events) (first_reads ops more)
footprint-append events ops more = ap (map (chunk_of events)) (first_reads-append [] ops more) ∙ map-append (chunk_of events) (first_reads [] ops) (first_reads ops more)

-- a write reads nothing, and a read the chunks of the cells that nothing wrote before
footprint_write : (events : History) (ops : List Op) (v : View) (words : List ℕ) → footprint_of events (ops ++ Write v words ∷ []) ≡ footprint_of events ops
footprint_write events ops v words = footprint-append events ops (Write v words ∷ []) ∙ append-nil (footprint_of events ops)

footprint_read : (events : History) (ops : List Op) (v : View) (words : List ℕ) → footprint_of events (ops ++ Read v words ∷ []) ≡ footprint_of events ops ++ map (chunk_of events) (unwritten ops v)
footprint_read events ops v words =
    footprint-append events ops (Read v words ∷ []) ∙ ap (λ xs. footprint_of events ops ++ map (chunk_of events) xs) (append-nil (unwritten ops v))

-- the operations that an event holds are all of them
kept_none : (b : Bool) (ops : List Op) → ops ≡ [] → cond b ops (filter is_write ops) ≡ ops
kept_none true ops none = refl
kept_none false ops none = ap (filter is_write) none ∙ sym none

kept_write : (b : Bool) (ops : List Op) (v : View) (words : List ℕ) → cond b ops (filter is_write ops) ≡ ops → cond b (ops ++ Write v words ∷ []) (filter is_write (ops ++ Write v words ∷ [])) ≡ ops ++ Write v words ∷ []
kept_write true ops v words all = refl
kept_write false ops v words all = filter-append is_write ops (Write v words ∷ []) ∙ ap (λ os. os ++ Write v words ∷ []) all

-- the chunks of marks
abbrev chunks_of : Marks → List Chunk
chunks_of marks = map (λ (m : Chunk × ℕ). m.0) marks

none_twice : IsDistinct is_chunk []
unfolding IsDistinct
none_twice = tt

contains_none : (c : Chunk) → Contains [] c → ⊥
contains_none c (k, low, is) = omega (arith, low)

-- of a transaction without operations and marks
pub recorded_begun : (opening : Opening) (events : History) (t : Transaction) → t.ops ≡ [] → t.marks ≡ [] → IsRecorded opening events t
recorded_begun opening events t none unmarked = record {
  views = subst (AllByRecursion IsOfView) (sym none) tt;
  sound = subst (AllByRecursion IsStaged) (sym none) tt;
  modes = kept_none t.mode.repeatable_read t.ops none;
  footprint = record {
    marked = λ c has. absurd (contains_none c (subst (λ ops. Contains (footprint_of events ops) c) none has));
    needed = subst (AllByRecursion (λ (m : Chunk × ℕ). Contains (footprint_of events t.ops) m.0)) (sym unmarked) tt;
    once = subst (λ marks. IsDistinct is_chunk (chunks_of marks)) (sym unmarked) none_twice;
  };
  reads = λ start told. transaction_begun start events t none unmarked;
}

-- marks stay those of a footprint that stays
same_footprint : (events later : History) (t u : Transaction) → footprint_of later u.ops ≡ footprint_of events t.ops → u.marks ≡ t.marks → AreOfFootprint events t → AreOfFootprint later u
same_footprint events later t u same marks was = record {
  marked = λ c has. subst (λ ms. IsTrue (has_mark ms c)) (sym marks) (was.marked c (subst (λ cs. Contains cs c) same has));
  needed = subst (AllByRecursion (λ (m : Chunk × ℕ). Contains (footprint_of later u.ops) m.0)) (sym marks) (subst (λ cs. AllByRecursion (λ (m : Chunk × ℕ). Contains cs m.0) t.marks) (sym same) was.needed);
  once = subst (λ ms. IsDistinct is_chunk (chunks_of ms)) (sym marks) was.once;
}

-- one write more
pub recorded_written : (opening : Opening) (events : History) (t : Transaction) (v : View) (words : List ℕ) → IsRecorded opening events t → IsView v → IsStaged (Write v words)
    → IsRecorded opening events (record t { ops = t.ops ++ Write v words ∷ [] })
recorded_written opening events t v words was view staged = record {
  views = all_with IsOfView t.ops (Write v words ∷ []) was.views (view, tt);
  sound = all_with IsStaged t.ops (Write v words ∷ []) was.sound (staged, tt);
  modes = kept_write t.mode.repeatable_read t.ops v words was.modes;
  footprint = same_footprint events events t (record t { ops = t.ops ++ Write v words ∷ [] }) (footprint_write events t.ops v words) refl was.footprint;
  reads = λ start told. transaction_written start events t v words (was.reads start told);
}

-- what holds at each item holds of what a function makes of them
all_of_mapped : {A B : Type 0} (f : A → B) (P : B → Type 0) (xs : List A) → AllByRecursion (λ x. P (f x)) xs → (y : B) → Contains (map f xs) y → P y
all_of_mapped f P [] all y (k, low, is) = absurd (omega (arith, low))
all_of_mapped f P (x ∷ xs) all y (zero, low, is) = subst P is all.0
all_of_mapped f P (x ∷ xs) all y (suc k, low, is) = all_of_mapped f P xs all.1 y (k, omega (arith, low), is)

all_weaker : {A : Type 0} (P Q : A → Type 0) → ((x : A) → P x → Q x) → (xs : List A) → AllByRecursion P xs → AllByRecursion Q xs
all_weaker P Q f [] all = tt
all_weaker P Q f (x ∷ xs) all = (f x all.0, all_weaker P Q f xs all.1)

all_kept : {A : Type 0} (test : A → Bool) (P : A → Type 0) (xs : List A) → AllByRecursion P xs → AllByRecursion P (filter test xs)
all_kept test P [] all = tt
all_kept {A} test P (x ∷ xs) all = by (test x) (all_kept test P xs all.1)
  where
    by : (b : Bool) → AllByRecursion P (filter test xs) → AllByRecursion P (cond b (x ∷ filter test xs) (filter test xs))
    by true rest = (all.0, rest)
    by false rest = rest

-- a chunk of one of the cells is among their chunks
any_chunk : (events : History) (c : Chunk) (xs : List Cell) → list_any (λ x. is_chunk (chunk_of events x) c) xs ≡ true → Contains (map (chunk_of events) xs) c
any_chunk events c [] is = absurd (let no_such : ⊥ = cc in no_such)
any_chunk events c (x ∷ xs) is = by (is_chunk (chunk_of events x) c) refl is (any_chunk events c xs)
  where
    by : (b : Bool) → is_chunk (chunk_of events x) c ≡ b → (b || list_any (λ y. is_chunk (chunk_of events y) c) xs) ≡ true
        → (list_any (λ y. is_chunk (chunk_of events y) c) xs ≡ true → Contains (map (chunk_of events) xs) c) → Contains (map (chunk_of events) (x ∷ xs)) c
    by true here any rest = (zero, omega arith, same_chunks (chunk_of events x) c here)
    by false other any rest = Contains-append_right (chunk_of events x ∷ []) (map (chunk_of events) xs) c (rest any)

neither : (a b : Bool) → (a || b) ≡ false → (a ≡ false) × (b ≡ false)
neither true b is = absurd (let no_such : ⊥ = cc in no_such)
neither false b is = (refl, is)

-- chunks that have no mark are none of the marks' chunks
apart_of_first : (m : Chunk × ℕ) (old fresh : Marks) → AllByRecursion (λ (n : Chunk × ℕ). has_mark (m ∷ old) n.0 ≡ false) fresh → AllByRecursion (λ c. is_chunk m.0 c ≡ false) (chunks_of fresh)
apart_of_first m old [] new = tt
apart_of_first m old (n ∷ fresh) new = ((neither (is_chunk m.0 n.0) (has_mark old n.0) new.0).0, apart_of_first m old fresh new.1)

distinct_with : (old fresh : Marks) → IsDistinct is_chunk (chunks_of old) → IsDistinct is_chunk (chunks_of fresh) → AllByRecursion (λ (n : Chunk × ℕ). has_mark old n.0 ≡ false) fresh → IsDistinct is_chunk (chunks_of (old ++ fresh))
distinct_with [] fresh first second new = second
distinct_with (m ∷ old) fresh first second new =
    let apart : AllByRecursion (λ c. is_chunk m.0 c ≡ false) (chunks_of (old ++ fresh)) =
    subst (AllByRecursion (λ c. is_chunk m.0 c ≡ false)) (sym (map-append (λ (n : Chunk × ℕ). n.0) old fresh))
    (all_with (λ c. is_chunk m.0 c ≡ false) (chunks_of old) (chunks_of fresh) (IsDistinct-head is_chunk m.0 (chunks_of old) first) (apart_of_first m old fresh new)) in
    IsDistinct-cons is_chunk m.0 (chunks_of (old ++ fresh)) apart
    (distinct_with old fresh (IsDistinct-tail is_chunk m.0 (chunks_of old) first) second (all_weaker (λ (n : Chunk × ℕ). has_mark (m ∷ old) n.0 ≡ false) (λ (n : Chunk × ℕ). has_mark old n.0 ≡ false) (λ n is. (neither (is_chunk m.0 n.0) (has_mark old n.0) is).1) fresh new))

-- one read more
module _ (opening : Opening) (events : History) (seen : ℕ) (t : Transaction) (v : View) (words : List ℕ) (marks : Marks) (was : IsRecorded opening events t) (marked : AreMarked events seen t v marks) where
  abbrev chunks_before : List Chunk
  chunks_before = footprint_of events t.ops

  abbrev chunks_now : List Chunk
  chunks_now = map (chunk_of events) (unwritten t.ops v)

  has_before : (c : Chunk) → IsTrue (has_mark t.marks c) → IsTrue (has_mark marks c)
  has_before c is =
      subst (λ ms. has_mark ms c ≡ true) (sym marked.marked)
      (list_any-append (λ (m : Chunk × ℕ). is_chunk m.0 c) t.marks marked.fresh ∙ ap (λ b. b || has_mark marked.fresh c) is)

  has_either : (c : Chunk) → Contains chunks_before c ⊎ Contains chunks_now c → IsTrue (has_mark marks c)
  has_either c (inl early) = has_before c (was.footprint.marked c early)
  has_either c (inr late) = all_of_mapped (chunk_of events) (λ d. IsTrue (has_mark marks d)) (unwritten t.ops v) marked.each c late

  footprint_after : AreOfFootprint events (record t { ops = t.ops ++ Read v words ∷ []; marks = marks })
  footprint_after =
      let all : footprint_of events (t.ops ++ Read v words ∷ []) ≡ chunks_before ++ chunks_now = footprint_read events t.ops v words in
      record {
        marked = λ c has. has_either c (Contains-append_cases chunks_before chunks_now c (subst (λ cs. Contains cs c) all has));
        needed = subst (λ cs. AllByRecursion (λ (m : Chunk × ℕ). Contains cs m.0) marks) (sym all)
            (subst (AllByRecursion (λ (m : Chunk × ℕ). Contains (chunks_before ++ chunks_now) m.0)) (sym marked.marked)
            (all_with (λ (m : Chunk × ℕ). Contains (chunks_before ++ chunks_now) m.0) t.marks marked.fresh
            (all_weaker (λ (m : Chunk × ℕ). Contains chunks_before m.0) (λ (m : Chunk × ℕ). Contains (chunks_before ++ chunks_now) m.0) (λ m early. Contains-append_left chunks_before chunks_now m.0 early) t.marks was.footprint.needed)
            (all_weaker (λ (m : Chunk × ℕ). IsTrue (list_any (λ x. is_chunk (chunk_of events x) m.0) (unwritten t.ops v))) (λ (m : Chunk × ℕ). Contains (chunks_before ++ chunks_now) m.0)
            (λ m any. Contains-append_right chunks_before chunks_now m.0 (any_chunk events m.0 (unwritten t.ops v) any)) marked.fresh marked.needed)));
        once = subst (λ ms. IsDistinct is_chunk (chunks_of ms)) (sym marked.marked) (distinct_with t.marks marked.fresh was.footprint.once marked.once marked.new);
      }

  kept_read : t.mode.repeatable_read ≡ true → kept_ops (record t { ops = t.ops ++ Read v words ∷ []; marks = marks }) ≡ t.ops ++ Read v words ∷ []
  kept_read asked = ap (λ b. cond b (t.ops ++ Read v words ∷ []) (filter is_write (t.ops ++ Read v words ∷ []))) asked

  pub recorded_read : IsView v → IsStaged (Read v words) → ((start : Contents) → opening.store.contents ≡ Some start → map Some words ≡ visible_values start events (mark_of marks) t.ops v)
      → IsRecorded opening events (after_read t v words marks)
  recorded_read view staged shown = by t.mode.repeatable_read refl
    where
      by : (b : Bool) → t.mode.repeatable_read ≡ b → IsRecorded opening events (cond b (record t { ops = t.ops ++ Read v words ∷ []; marks = marks }) t)
      by false free = was
      by true asked = record {
        views = all_with IsOfView t.ops (Read v words ∷ []) was.views (view, tt);
        sound = all_with IsStaged t.ops (Read v words ∷ []) was.sound (staged, tt);
        modes = kept_read asked;
        footprint = footprint_after;
        reads = λ start told. transaction_read (record { start = start; prefixes = [] }) events seen t v words marks (was.reads start told) (record { marked = marked; shown = shown start told });
      }

-- cells that a view of known arrays names lay in their arrays' shapes
named_inside : (events : History) (ts : List (Result Target TargetError)) → AllByRecursion (LiesOf events) ts → AllByRecursion (WasInside events) (filter_map target_cell ts)
named_inside events [] all = tt
named_inside events (Ok t ∷ ts) all = (all.0, named_inside events ts all.1)
named_inside events (Err e ∷ ts) all = named_inside events ts all.1

first_reads_inside : (events : History) (before ops : List Op) → AllByRecursion (IsKnownOp events) ops → AllByRecursion (WasInside events) (first_reads before ops)
first_reads_inside events before [] known = tt
first_reads_inside events before (Write view words ∷ ops) known = first_reads_inside events (before ++ Write view words ∷ []) ops known.1
first_reads_inside events before (Read view words ∷ ops) known =
    all_with (WasInside events) (unwritten before view) (first_reads (before ++ Read view words ∷ []) ops)
    (all_kept (λ x. not (is_put (puts_of before) x)) (WasInside events) (cells_named view) (named_inside events (targets_of view) (targets_lie events view known.0)))
    (first_reads_inside events (before ++ Read view words ∷ []) ops known.1)

map_same : {A B : Type 0} (f g : A → B) (P : A → Type 0) → ((x : A) → P x → f x ≡ g x) → (xs : List A) → AllByRecursion P xs → map f xs ≡ map g xs
map_same f g P same [] all = refl
map_same f g P same (x ∷ xs) all = ap (λ y. y ∷ map f xs) (same x all.0) ∙ ap (λ ys. g x ∷ ys) (map_same f g P same xs all.1)

-- it stays as others' events follow
module _ (opening : Opening) (early more : History) (t : Transaction) (outlined : IsLegal finmap.empty (outline (early ++ more))) where
  chunk_later : (x : Cell) → WasInside early x → chunk_of (early ++ more) x ≡ chunk_of early x
  chunk_later x was =
      let front : IsLegal finmap.empty (outline early) = IsLegal-front finmap.empty (outline early) (outline more) (subst (IsLegal finmap.empty) (map-append outlined_event early more) outlined) in
      let there = grows_in early front was.seen x.array was.array was.known in
      same_chunk early (early ++ more) (keeps_front early more outlined) x there.0 there.1

  -- the marks stay those of the footprint, whatever the store tells
  pub footprint_later : AllByRecursion (IsKnownOp early) t.ops → AreOfFootprint early t → AreOfFootprint (early ++ more) t
  footprint_later known was = same_footprint early (early ++ more) t t (map_same (chunk_of (early ++ more)) (chunk_of early) (WasInside early) chunk_later (first_reads [] t.ops) (first_reads_inside early [] t.ops known)) refl was

  pub recorded_later : ((start : Contents) → opening.store.contents ≡ Some start → IsLegal start (early ++ more)) → AllByRecursion (IsKnownOp early) t.ops → IsRecorded opening early t → IsRecorded opening (early ++ more) t
  recorded_later legal known was = record {
    views = was.views;
    sound = was.sound;
    modes = was.modes;
    footprint = footprint_later known was.footprint;
    reads = λ start told. transaction_longer start early more t (legal start told) (was.reads start told);
  }
