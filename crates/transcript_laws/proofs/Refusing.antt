-- What a refused read and a conflict tell, where no array gets another shape.
use Rattle.std.proofs.Common.{◌≡◌, ℕ, zero, suc, ◌≤◌, ◌⊎◌, inl, inr, List, [], ◌∷◌, ◌++◌, length, map, take, take-take, drop, Bool, true, false, cond, Option, Some, None, refl, sym, ap, subst, ◌∙◌, arith, append_assoc, length-take}
use Rattle.std.specs.Prelude.{◌||◌, IsTrue, not, Contains}
use Rattle.std.specs.List.{AllByRecursion}
use Rattle.std.specs.FinMap as finmap
use Rattle.std.proofs.lemmas.List.{take-append-drop}
use Rattle.serial_runs.specs.Words.{is_inside}
use Rattle.stack_driver.specs.Targets.{Cell}
use Rattle.stack_driver.specs.declared.view.View.{View}
use Rattle.history.specs.declared.event.Kind.{Kind}
use Rattle.history.specs.declared.event.Kind.TheVariants.{Opened, Done, Resized, Fault}
use Rattle.history.specs.Alone.{AreOnMount}
use Rattle.history.specs.Answers.{Text}
use Rattle.history.specs.Arrays.{Known, known_after}
use Rattle.history.specs.Chunks.{Chunk, is_chunk, chunk_of}
use Rattle.history.specs.Commit.{Key, Transaction, IsConflict}
use Rattle.history.specs.Generations.{IsTouched}
use Rattle.history.specs.History.{History}
use Rattle.history.specs.Legal.{IsLegal, is_present, is_present_in}
use Rattle.history.specs.Own.{resized_event}
use Rattle.history.specs.ReadRows as rows
use Rattle.history.specs.ReadRows.{IsShrunkBy, IsOnMount, mount_of}
use Rattle.history.specs.Reads.{Marks, mark_of, has_mark, cells_named, is_put, unwritten, first_reads}
use Rattle.history.specs.Writes.{puts_of}
use Rattle.history.specs.Refs.{HasKnownRefs}
use Rattle.history.specs.Refusals.{was_outside, cells_outside}
use Rattle.history.specs.Shown.{IsMarkWithin, AreMarked}
use Rattle.history.specs.Staged.{AreWithin, IsTransaction}
use Rattle.history.specs.Store.{resized_after, resized_step}
use Rattle.history.specs.Touch.{generation_of}
use Rattle.history.proofs.AloneCommits.{bare}
use Rattle.history.proofs.Conflicts.{among_mapped}
use Rattle.history.proofs.Laws.{each_history, legal_take, known_still, known_unresized, chunk_array, same_chunks, resized_after-more, some_inj, WasInside, generation_of-touches, mark_of-within}
use Rattle.history.proofs.Quiet.{IsQuiet}
use Rattle.history.proofs.Transactions.{all_with}
use Rattle.serial_runs.specs.Numbered.{IsEvent}
use Rattle.serial_runs.proofs.Commits.{AreJoint, foreign_conflict}
use Rattle.transcript_laws.specs.Fitting as fitting
use Rattle.transcript_laws.specs.Fitting.{IsConflictTold}
use Rattle.transcript_laws.specs.Transcript.{mount}
use Rattle.transcript_laws.proofs.Marked.{IsKnownCell, IsKnownMark, cells_lie, unwritten_known, chunk_now, all_kept, all_mapped, all_both, none_kept, marks_of_read}
use Rattle.transcript_laws.proofs.Places.{IsUnresized, AreUnresized, unresized_back, unresized_front}
use Rattle.transcript_laws.proofs.States.{same_mount}

step_none : (a : ℕ) (h : History) (kind : Kind) (n : ℕ) → IsUnresized kind → resized_step a h kind n ≡ n
step_none a h (Opened info) n still = refl
step_none a h (Done line mode ops key) n still = refl
step_none a h (Resized b shape) n still = absurd still
step_none a h (Fault name) n still = refl

never_resized : (a : ℕ) (h : History) → AreUnresized h → resized_after h a ≡ 0
never_resized a =
    each_history (λ h. AreUnresized h → resized_after h a ≡ 0) (λ still. refl)
    (λ h e before still. resized_after-more h e a ∙ step_none a h e.kind (resized_after h a) (unresized_back h (e ∷ []) still).0 ∙ before (unresized_front h (e ∷ []) still))

-- no event of the history is a resize
pub no_event : (h : History) (n owner a : ℕ) (shape : List ℕ) → AreUnresized h → IsEvent h n (resized_event owner a shape) → ⊥
no_event h n owner a shape still is = (unresized_back is.before (resized_event owner a shape ∷ is.later) (subst AreUnresized is.parts still)).0

pub unresized_take : (m : ℕ) (history : History) → AreUnresized history → AreUnresized (take m history)
unresized_take m history still = unresized_front (take m history) (drop m history) (subst AreUnresized (sym (take-append-drop m history)) still)

-- an array that is known stays as it is
known_whole : (h : History) (j a : ℕ) (k : Known) → IsLegal finmap.empty h → AreUnresized h → known_after (take j h) a ≡ Some k → known_after h a ≡ Some k
known_whole h j a k legal still is =
    let whole : take j h ++ drop j h ≡ h = take-append-drop j h in
    let none : resized_after (take j h ++ drop j h) a ≡ 0 = ap (λ g. resized_after g a) whole ∙ never_resized a h still in
    ap (λ g. known_after g a) (sym whole) ∙ known_unresized finmap.empty (take j h) a k is (drop j h) (subst (IsLegal finmap.empty) (sym whole) legal) (omega (arith, none))

map_same : (f g : Cell → Chunk) (xs : List Cell) → AllByRecursion (λ x. f x ≡ g x) xs → map f xs ≡ map g xs
map_same f g [] all = refl
map_same f g (x ∷ xs) all = λ i. all.0 i ∷ map_same f g xs all.1 i

module _ (history : History) (legal : IsLegal finmap.empty history) (still : AreUnresized history) where
  mark_known : (marks : Marks) (c : Chunk) → AllByRecursion (IsKnownMark history legal) marks → has_mark marks c ≡ true → (k : Known) × (known_after (take (mark_of marks c) history) c.array ≡ Some k)
  mark_known [] c all has = absurd (cc)
  mark_known (m ∷ marks) c all has = first (is_chunk m.0 c) refl has (mark_known marks c all.1)
    where
      first : (b : Bool) → is_chunk m.0 c ≡ b → (b || has_mark marks c) ≡ true → (has_mark marks c ≡ true → (k : Known) × (known_after (take (mark_of marks c) history) c.array ≡ Some k))
          → (k : Known) × (known_after (take (cond b m.1 (mark_of marks c)) history) c.array ≡ Some k)
      first true is has rest = (all.0.0, ap (λ (d : Chunk). known_after (take m.1 history) d.array) (sym (same_chunks m.0 c is)) ∙ all.0.1)
      first false is has rest = rest has

  -- a cell that lay in its array lies in it whenever the array is known
  present_at : (seen j : ℕ) (x : Cell) (k : Known) → WasInside (take seen history) x → known_after (take j history) x.array ≡ Some k → is_present (take j history) x ≡ true
  present_at seen j x k was is =
      let first : known_after (take seen history) x.array ≡ Some was.array = known_whole (take seen history) was.seen x.array was.array (legal_take finmap.empty history seen legal) (unresized_take seen history still) was.known in
      let one : known_after history x.array ≡ Some was.array = known_whole history seen x.array was.array legal still first in
      let other : known_after history x.array ≡ Some k = known_whole history j x.array k legal still is in
      let same : was.array ≡ k = some_inj was.array k (sym one ∙ other) in
      ap (λ o. is_present_in o x) is ∙ ap (λ (l : Known). is_inside l.shape x.index) (sym same) ∙ was.inside

  module _ (seen m : ℕ) (low : seen ≤ m) (within : m ≤ length history) where
    abbrev now : History
    now = take m history

    fresh_within : (fresh : Marks) → AllByRecursion (IsMarkWithin seen (length now)) fresh → AreWithin (length now) fresh
    fresh_within [] all = tt
    fresh_within (p ∷ fresh) all = (all.0.1, fresh_within fresh all.1)

    pub marks_within : (t : Transaction) (view : View) (marks : Marks) → AreWithin (length now) t.marks → AreMarked now seen t view marks → AreWithin (length now) marks
    marks_within t view marks old is = subst (AreWithin (length now)) (sym is.marked) (all_with (λ (p : Chunk × ℕ). p.1 ≤ length now) t.marks is.fresh old (fresh_within is.fresh is.within))

    inside_then : (marks : Marks) → AreWithin (length now) marks → AllByRecursion (IsKnownMark history legal) marks → (x : Cell) → WasInside (take seen history) x × IsTrue (has_mark marks (chunk_of now x)) → was_outside now marks x ≡ false
    inside_then marks old known x both =
        let c = chunk_of now x in
        let j = mark_of marks c in
        let k = mark_known marks c known both.1 in
        let number : c.array ≡ x.array = chunk_array (known_after now x.array) x in
        let here : is_present (take j history) x ≡ true = present_at seen j x k.0 both.0 (ap (known_after (take j history)) (sym number) ∙ k.1) in
        let near = mark_of-within (length now) marks c old in
        ap (λ h. not (is_present h x)) (take-take j m history (omega (arith, near, length-take m history))) ∙ ap not here

    -- no read is refused because an array shrank
    pub never_shrunk : (t : Transaction) (view : View) (key : Key) (n : ℕ) → HasKnownRefs (take seen history) view → AreWithin (length now) t.marks → AllByRecursion (IsKnownMark history legal) t.marks → IsShrunkBy now seen t view key n → ⊥
    never_shrunk t view key n refs old known is =
        let read = marks_of_read history legal seen m low within 0 t view is.marks refs (omega arith) (all_from t.marks) known is.marked in
        let lie = all_kept (WasInside (take seen history)) (λ x. not (is_put (puts_of t.ops) x)) (cells_named view) (cells_lie history legal seen view refs) in
        let none : cells_outside now is.marks t view ≡ [] =
        none_kept (was_outside now is.marks) (unwritten t.ops view)
        (all_mapped (λ x. WasInside (take seen history) x × IsTrue (has_mark is.marks (chunk_of now x))) (λ x. was_outside now is.marks x ≡ false) (inside_then is.marks (marks_within t view is.marks old is.marked) read.known) (unwritten t.ops view)
        (all_both (WasInside (take seen history)) (λ x. IsTrue (has_mark is.marks (chunk_of now x))) (unwritten t.ops view) lie is.marked.each)) in
        nothing (subst (λ xs. Contains xs is.shrunk.cell) none is.shrunk.counts)
      where
        nothing : {x : Cell} → Contains [] x → ⊥
        nothing (k, less, e) = absurd (omega (arith, less))

        all_from : (marks : Marks) → AllByRecursion (λ (p : Chunk × ℕ). 0 ≤ p.1) marks
        all_from [] = tt
        all_from (p ∷ marks) = (omega arith, all_from marks)

    -- a chunk that a read fetched, as the whole history has it
    pub fetched_told : (t : Transaction) (view : View) (other : Text) → AreOnMount mount now → HasKnownRefs (take seen history) view → AllByRecursion (λ x. has_mark t.marks (chunk_of history x) ≡ true) (first_reads [] t.ops) → rows.IsFetched now t view other
        → fitting.IsFetched history t view
    fetched_told t view other on refs covered is =
        let same : map (chunk_of history) (unwritten t.ops view) ≡ map (chunk_of now) (unwritten t.ops view) =
        map_same (chunk_of history) (chunk_of now) (unwritten t.ops view) (all_mapped (IsKnownCell history legal seen) (λ x. chunk_of history x ≡ chunk_of now x) (λ x. chunk_now history legal seen m x low within) (unwritten t.ops view) (unwritten_known history legal seen t.ops view refs)) in
        record {
          chunk = is.chunk;
          needed = subst (λ cs. Contains cs is.chunk) (sym same) is.needed;
          unread = λ there.
              (let one = among_mapped (chunk_of history) (λ x. has_mark t.marks (chunk_of history x) ≡ true) (first_reads [] t.ops) is.chunk covered there in
              let clash : true ≡ false = sym one.1 ∙ ap (has_mark t.marks) one.2 ∙ is.unmarked in
              absurd (cc));
          on_mount = on_later (known_after now is.chunk.array) refl is.on_mount;
        }
      where
        on_later : (o : Option Known) → known_after now is.chunk.array ≡ o → IsOnMount other o → IsOnMount mount (known_after history is.chunk.array)
        on_later None known there = absurd there
        on_later (Some k) known there =
            let l = known_still finmap.empty history is.chunk.array m k legal known in
            let place : other ≡ mount = same_mount now is.chunk.array other on (subst (IsOnMount other) (sym known) there) in
            subst (IsOnMount mount) (sym l.1) (ap (λ i. mount_of i.home) l.2 ∙ there ∙ ap Some place)

  -- a generation is that of no event, or of one that touches the chunk
  read_then : (j : ℕ) (c : Chunk) (read : ℕ) → read ≡ generation_of (take j history) c → (read ≡ 0) ⊎ IsTouched history c read
  read_then j c zero is = inl refl
  read_then j c (suc n) is =
      let touched = generation_of-touches c (take j history) (omega (arith, is)) in
      let parts : history ≡ touched.before ++ touched.event ∷ (touched.later ++ drop j history) =
      sym (take-append-drop j history) ∙ ap (λ h. h ++ drop j history) touched.parts ∙ append_assoc touched.before (touched.event ∷ touched.later) (drop j history) in
      inr (record { before = touched.before; event = touched.event; later = touched.later ++ drop j history; parts = parts; number = is ∙ touched.number; touched = touched.touched })

  -- a conflict, as the whole history has it
  pub conflict_told : (owner m : ℕ) (joint : AreJoint history) (on : AreOnMount mount history) (t : Transaction) (key : Key) (read changed : ℕ) → IsTransaction finmap.empty (take m history) t → IsQuiet owner (length (take m history)) (take m history) t
      → IsConflict (take m history) t key read changed → IsConflictTold history owner (bare t) key read changed
  conflict_told owner m joint on t key read changed reads quiet conflict =
      let is = foreign_conflict mount owner history m legal joint on t reads quiet key read changed conflict in
      record {
        asked = is.asked;
        chunk = is.chunk;
        was_read = is.was_read;
        named = is.named;
        later = is.changed.later;
        read_at = read_then (mark_of is.marks is.chunk) is.chunk read is.read_at;
        now_at = record { touch = is.changed.touch; other = is.changed.foreign };
      }
