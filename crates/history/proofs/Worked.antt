-- The worked histories: which steps hold of them, and that a wrong answer beside each doesn't.
use Rattle.std.proofs.Common.{◌≡◌, ℕ, ◌<◌, ◌≤◌, lit≤, zero, suc, List, [], ◌∷◌, codes, refl, sym, ap, subst, ◌∙◌, Bool, true, false, cond, length, take, map, Option, Some, None, arith}
use Rattle.std.specs.Prelude.{filter, filter_map, ◌||◌, Result, Ok, Contains, IsTrue}
use Rattle.std.specs.FinMap as finmap
use Rattle.std.specs.List.{AllByRecursion, IsDistinct, cons_option, list_any}
use Rattle.std.specs.Fmt.{digits}
use Rattle.stack_driver.proofs.Laws.{look-Leaf, array-Leaf, renewed-Leaf}
use Rattle.stack_driver.proofs.Looks.{targets_by}
use Rattle.stack_driver.specs.Renewed.{renewed}
use Rattle.stack_driver.specs.Targets.{Cell, is_cell, Target}
use Rattle.stack_driver.specs.declared.error.TargetError.{TargetError}
use Rattle.stack_driver.specs.Views.{targets_of}
use Rattle.history.specs.declared.event.Op.{Op}
use Rattle.history.specs.History.{History}
use Rattle.history.specs.Acts.{act_of, reads, writes, resizes, resolves, on_leaf, on_stored}
use Rattle.history.specs.Answers as body
use Rattle.history.specs.Answers.{Body}
use Rattle.history.specs.Arrays.{Known, known_after}
use Rattle.history.specs.Chunks.{Chunk, is_chunk, chunk_of, key_of, metadata_key}
use Rattle.history.specs.Counting.{is_stored}
use Rattle.history.specs.Commit.{Key, Transaction, in_order, commit_events, done_each, changed_keys, stored_keys, are_together, read_generation, is_before, IsConflict}
use Rattle.history.specs.CommitRows.{MayCommit, HasNoDamage, IsCommit, conflicts, is_done, is_failed, is_split, is_shrunk}
use Rattle.history.specs.Legal.{is_present, IsLegalResize, MayTake}
use Rattle.history.specs.Lines as line
use Rattle.history.specs.Own.{numbered, numbers_of}
use Rattle.history.specs.Reads.{Marks, footprint_of, first_reads, unwritten, has_mark, mark_of, is_put, visible_values}
use Rattle.history.specs.Refusals.{was_outside, cells_outside, last_mark, IsShrunkRead, IsWrittenOutside, metadata_key_at, resized_keys, all_resized_keys}
use Rattle.history.specs.ResizeRows.{MayResize}
use Rattle.history.specs.Store.{resized_after}
use Rattle.history.specs.Sessions.{bind, new_transaction, plain_mode}
use Rattle.history.specs.Shown.{AreMarked, IsRead}
use Rattle.history.specs.Staged.{AreInShapes}
use Rattle.history.specs.Steps.{write_alone, SessionStep, IsAnswered, done_line, read_done, read_shrunk, write_done, commit_done, resize_done, resolve_done}
use Rattle.history.specs.Touch.{generation_of}
use Rattle.history.specs.Viewing.{values_body, resolved_body}
use Rattle.history.specs.Worked.{joint, split, array, metadata, first_key, second_key, chunk, cell, of_shape, first_cells, one_cell, whole, at, event5, event6, event7, events, first_events, names, within, outside, mark2, read4, read5, written6, written9, reread, rereading, with_rereading, written12, failing, fives, all_or_none, of_key, by_key, all_fives, three}
use Rattle.history.specs.Writes.{Put, puts_of}
use Rattle.history.proofs.AloneOpens.{no_bytes}
use Rattle.history.proofs.Written.{same_cells}

none_once : IsDistinct is_chunk []
unfolding IsDistinct
none_once = tt

abbrev pub found : ℕ → Result Target TargetError
found i = Ok (record { cell = cell i; casts = [] })

pub targets_whole : targets_of whole ≡ found 0 ∷ found 1 ∷ found 2 ∷ found 3 ∷ []
targets_whole = targets_by whole _ (look-Leaf _ _)

pub targets_0 : targets_of (at 0) ≡ found 0 ∷ []
targets_0 = targets_by (at 0) _ (look-Leaf _ _)

pub targets_1 : targets_of (at 1) ≡ found 1 ∷ []
targets_1 = targets_by (at 1) _ (look-Leaf _ _)

pub targets_3 : targets_of (at 3) ≡ found 3 ∷ []
targets_3 = targets_by (at 3) _ (look-Leaf _ _)

no_damage : (h : History) (t : Transaction) → HasNoDamage joint h t
no_damage h t c key why spoiled = no_bytes key _ spoiled.damaged.held

-- one cell of the array, as a line's transform gives it
abbrev pub to : ℕ → List line.Change
to i = (λ v. Ok (at i)) ∷ []

-- line 5: cell 1 is shown as it was at the mark of its chunk
pub reads_1 : act_of names (Some read4) (line.reading (codes "a") (to 1) None) ≡ Ok (reads (at 1) None)
reads_1 = simp (look-Leaf (of_shape 4) (one_cell 1), targets_1)

unwritten_1 : unwritten read4.ops (at 1) ≡ cell 1 ∷ []
unwritten_1 = simp targets_1

shown_1 : map Some (2 ∷ []) ≡ visible_values finmap.empty (first_events 3) (mark_of mark2) read4.ops (at 1)
shown_1 = simp (targets_whole, targets_1)

read_1 : IsRead joint (first_events 3) 2 read4 (at 1) (2 ∷ []) mark2
read_1 = record {
  marked = record {
    fresh = [];
    marked = refl;
    within = tt;
    needed = tt;
    new = tt;
    once = none_once;
    each = subst (AllByRecursion (λ x. IsTrue (has_mark mark2 (chunk_of (first_events 3) x)))) (sym unwritten_1) (refl, tt);
  };
  shown = shown_1;
}

pub repeats : SessionStep joint 0 (first_events 3) (within 2 read4) 5 (line.reading (codes "a") (to 1) None) (within 3 read5) (values_body (at 1) None (2 ∷ []))
repeats = record {
  rises = lit≤ tt;
  within = lit≤ tt;
  row = subst (λ asked. IsAnswered joint 0 (first_events 3) (within 2 read4) 5 asked names (Some read5) (values_body (at 1) None (2 ∷ [])) []) (sym reads_1) (done_line (read_done read_1));
}

-- line 7: the commit names the chunk that session 1 wrote since, and both generations
pub footprint_6 : footprint_of (first_events 3) written6.ops ≡ chunk 0 ∷ chunk 0 ∷ []
footprint_6 = simp (targets_0, targets_1, targets_3)

pub read_number : read_generation (first_events 3) mark2 (chunk 0) ≡ 2
read_number = simp targets_whole

pub now_number : generation_of (first_events 3) (chunk 0) ≡ 3
now_number = simp (targets_whole, targets_1)

pub later : read_generation (first_events 3) mark2 (chunk 0) < generation_of (first_events 3) (chunk 0)
later = subst (λ r. r < generation_of (first_events 3) (chunk 0)) (sym read_number) (subst (λ n. 2 < n) (sym now_number) (lit≤ tt))

pub only_first : (c : Chunk) → Contains (chunk 0 ∷ chunk 0 ∷ []) c → c ≡ chunk 0
only_first c (zero, low, is) = sym is
only_first c (suc zero, low, is) = sym is
only_first c (suc (suc k), low, is) = absurd (omega arith)

conflict_6 : IsConflict (first_events 3) written6 first_key 2 3
unfolding digits
conflict_6 = record {
  chunk = chunk 0;
  conflict = record { asked = refl; was_read = subst (λ cs. Contains cs (chunk 0)) (sym footprint_6) (0, lit≤ tt, refl); touched = later };
  named = refl;
  read_at = sym read_number;
  now_at = sym now_number;
  least = λ c there k named.
      let one : c ≡ chunk 0 = only_first c (subst (λ cs. Contains cs c) footprint_6 there.was_read) in
      let same : Some first_key ≡ Some k = ap (key_of (first_events 3)) (sym one) ∙ named in
      let key_is : first_key ≡ k = cc in
      ap (λ j. is_before j first_key) (sym key_is);
}

pub conflicts_7 : SessionStep joint 0 (first_events 3) (within 3 written6) 7 line.committing (outside 3) (body.conflict first_key 2 3)
conflicts_7 = record { rises = lit≤ tt; within = lit≤ tt; row = done_line (commit_done (conflicts conflict_6)) }

-- line 10: the second transaction, which only wrote, is committed behind what session 1 wrote to the same chunk
puts_9 : puts_of written9.ops ≡ (cell 0, 5) ∷ []
puts_9 = simp targets_0

no_reads_9 : first_reads [] written9.ops ≡ []
no_reads_9 = refl

only_cell : (i w : ℕ) (x : Cell) → is_put ((cell i, w) ∷ []) x ≡ true → cell i ≡ x
only_cell i w x put = same_cells (cell i) x (first_of (is_cell (cell i) x) put)
  where
    first_of : (b : Bool) → (b || false) ≡ true → b ≡ true
    first_of true e = refl
    first_of false e = absurd (cc)

inside_of : (h : History) (i w : ℕ) (ops : List Op) → puts_of ops ≡ (cell i, w) ∷ [] → is_present h (cell i) ≡ true → AreInShapes h ops
inside_of h i w ops puts present x put = subst (λ y. is_present h y ≡ true) (only_cell i w x (sym (ap (λ ps. is_put ps x) puts) ∙ put)) present

may_9 : (h : History) → is_present h (cell 0) ≡ true → MayCommit joint h written9
may_9 h present = record {
  no_conflict = λ asked. tt;
  in_shapes = inside_of h 0 5 written9.ops puts_9 present;
  whole = λ asked. absurd (cc);
}

-- the keys of one put are changed together
one_key : (o : Option Key) → are_together joint.prefixes (in_order (cons_option o [])) ≡ true
one_key None = refl
one_key (Some key) = refl

together_9 : (h : History) → are_together joint.prefixes (stored_keys h written9.ops) ≡ true
together_9 h =
    ap (λ ps. are_together joint.prefixes (in_order (filter_map (λ (p : Put). cond (is_stored (known_after h p.0.array)) (key_of h (chunk_of h p.0)) None) ps))) puts_9
    ∙ one_key (cond (is_stored (known_after h 0)) (key_of h (chunk_of h (cell 0))) None)

pub events_9 : (h : History) → commit_events joint h 0 written9 ≡ event5 ∷ []
events_9 h = ap (λ b. cond b (event5 ∷ []) (done_each 0 written9 written9.ops (changed_keys h written9.ops))) (together_9 h)

pub merges_10 : SessionStep joint 0 (first_events 5) (within 3 written9) 10 line.committing (outside 5) (body.committed (5 ∷ []))
merges_10 = record {
  rises = lit≤ tt;
  within = lit≤ tt;
  row = done_line (commit_done (subst (λ es. IsCommit joint 0 (first_events 5) written9 None (body.committed (numbers_of (numbered 5 es))) (numbered 5 es)) (events_9 (first_events 4)) (is_done 4 (may_9 (first_events 4) refl) (no_damage (first_events 4) written9))));
}

-- line 9: cell 0 is read back behind the transaction's own write, without a mark; the commit is as if it hadn't been read
reads_0 : act_of names (Some written9) (line.reading (codes "a") (to 0) None) ≡ Ok (reads (at 0) None)
reads_0 = simp (look-Leaf (of_shape 4) (one_cell 0), targets_0)

unwritten_9 : unwritten written9.ops (at 0) ≡ []
unwritten_9 = simp targets_0

shown_9 : map Some (5 ∷ []) ≡ visible_values finmap.empty (first_events 3) (mark_of []) written9.ops (at 0)
shown_9 = simp targets_0

read_9 : IsRead joint (first_events 3) 3 written9 (at 0) (5 ∷ []) []
read_9 = record {
  marked = record {
    fresh = [];
    marked = refl;
    within = tt;
    needed = tt;
    new = tt;
    once = none_once;
    each = subst (AllByRecursion (λ x. IsTrue (has_mark [] (chunk_of (first_events 3) x)))) (sym unwritten_9) tt;
  };
  shown = shown_9;
}

pub rereads_9 : SessionStep joint 0 (first_events 3) (within 3 written9) 9 (line.reading (codes "a") (to 0) None) (within 3 reread) (values_body (at 0) None (5 ∷ []))
rereads_9 = record {
  rises = lit≤ tt;
  within = lit≤ tt;
  row = subst (λ asked. IsAnswered joint 0 (first_events 3) (within 3 written9) 9 asked names (Some reread) (values_body (at 0) None (5 ∷ [])) []) (sym reads_0) (done_line (read_done read_9));
}

puts_reread : puts_of reread.ops ≡ (cell 0, 5) ∷ []
puts_reread = simp targets_0

pub reads_reread : first_reads [] reread.ops ≡ []
reads_reread = simp targets_0

may_reread : (h : History) → is_present h (cell 0) ≡ true → MayCommit joint h reread
may_reread h present = record {
  no_conflict = λ asked. subst (AllByRecursion (λ x. generation_of h (chunk_of h x) ≤ read_generation h reread.marks (chunk_of h x))) (sym reads_reread) tt;
  in_shapes = inside_of h 0 5 reread.ops puts_reread present;
  whole = λ asked. absurd (cc);
}

together_reread : (h : History) → are_together joint.prefixes (stored_keys h reread.ops) ≡ true
together_reread h =
    ap (λ ps. are_together joint.prefixes (in_order (filter_map (λ (p : Put). cond (is_stored (known_after h p.0.array)) (key_of h (chunk_of h p.0)) None) ps))) puts_reread
    ∙ one_key (cond (is_stored (known_after h 0)) (key_of h (chunk_of h (cell 0))) None)

events_reread : (h : History) → commit_events joint h 0 reread ≡ rereading ∷ []
events_reread h = ap (λ b. cond b (rereading ∷ []) (done_each 0 reread reread.ops (changed_keys h reread.ops))) (together_reread h)

pub merges_reread : SessionStep joint 0 with_rereading (within 3 reread) 10 line.committing (outside 5) (body.committed (5 ∷ []))
merges_reread = record {
  rises = lit≤ tt;
  within = lit≤ tt;
  row =
      done_line
      (commit_done
      (subst (λ es. IsCommit joint 0 with_rereading reread None (body.committed (numbers_of (numbered 5 es))) (numbered 5 es)) (events_reread (first_events 4)) (is_done 4 (may_reread (first_events 4) refl) (no_damage (first_events 4) reread))));
}

-- a commit whose store call fails leaves the transaction as it was, and may be made again
pub fails_10 : SessionStep joint 0 (take 5 failing) (within 3 written9) 10 line.committing (within 5 written9) (body.store_failed 5 [] None)
fails_10 = record {
  rises = lit≤ tt;
  within = lit≤ tt;
  row =
      done_line
      (commit_done
      (is_failed 4 0 (codes "memory")
      (record { may = may_9 (first_events 4) refl; fewer = subst (λ es. 0 < length es) (sym (events_9 (first_events 4))) (lit≤ tt); together = λ joint_is. refl; undamaged = λ some. absurd (omega arith) })
      (record { put = (cell 0, 5); among = subst (λ ps. Contains ps (cell 0, 5)) (sym puts_9) (0, lit≤ tt, refl); on_mount = refl })));
}

pub commits_11 : SessionStep joint 0 failing (within 5 written9) 11 line.committing (outside 6) (body.committed (6 ∷ []))
commits_11 = record {
  rises = lit≤ tt;
  within = lit≤ tt;
  row = done_line (commit_done (subst (λ es. IsCommit joint 0 failing written9 None (body.committed (numbers_of (numbered 6 es))) (numbered 6 es)) (events_9 (take 5 failing)) (is_done 5 (may_9 (take 5 failing) refl) (no_damage (take 5 failing) written9))));
}

-- line 13: a cell that the transaction wrote lies outside since event 6
pub puts_12 : puts_of written12.ops ≡ (cell 3, 9) ∷ []
puts_12 = simp targets_3

cut_least : (x : Cell) (k : Key) → IsWrittenOutside (first_events 6) written12 x k → is_before k metadata ≡ false
cut_least x k out =
    let here : cell 3 ≡ x = only_cell 3 9 x (sym (ap (λ ps. is_put ps x) puts_12) ∙ out.written) in
    let same : Some metadata ≡ Some k = ap (metadata_key_at (first_events 6)) here ∙ out.named in
    let key_is : metadata ≡ k = cc in
    ap (λ j. is_before j metadata) (sym key_is)

pub cut_13 : SessionStep joint 0 (first_events 6) (within 5 written12) 13 line.committing (outside 6) (body.shrunk metadata 6)
cut_13 = record {
  rises = lit≤ tt;
  within = lit≤ tt;
  row =
      done_line
      (commit_done
      (is_shrunk (λ asked. absurd (cc))
      (record { cell = cell 3; is_outside = record { written = ap (λ ps. is_put ps (cell 3)) puts_12; outside = refl; named = refl }; number = refl; least = cut_least })));
}

-- session 1 cuts the array at its line 4 and lets it grow again at line 5
pub resizes_to : (size : ℕ) → act_of names None (line.resizing (codes "a") (size ∷ [])) ≡ Ok (resizes (of_shape 4) (size ∷ []))
resizes_to size = ap (λ o. on_leaf o (λ r. on_stored r (size ∷ []))) (array-Leaf (of_shape 4) (first_cells 3))

abbrev known_of : ℕ → Known
known_of size = record { info = array; opened = 1; shape = size ∷ [] }

may_resize : (h : History) (old size : ℕ) → known_after h 0 ≡ Some (known_of old) → MayTake (known_of old) (size ∷ []) → are_together joint.prefixes (all_resized_keys (Some metadata) (resized_keys (known_of old) 0 (size ∷ []))) ≡ true → MayResize joint h 0 (size ∷ [])
may_resize h old size is new together = record {
  legal = subst (λ o. IsLegalResize o (size ∷ [])) (sym is) new;
  whole = λ keys split_is.
      let same : Some (known_of old) ≡ Some split_is.known = sym is ∙ split_is.is_known in
      let one : known_of old ≡ split_is.known = cc in
      let apart : are_together joint.prefixes (all_resized_keys (metadata_key (known_of old)) (resized_keys (known_of old) 0 (size ∷ []))) ≡ false =
      ap (λ (k : Known). are_together joint.prefixes (all_resized_keys (metadata_key k) (resized_keys k 0 (size ∷ [])))) one ∙ split_is.apart in
      let clash : true ≡ false = sym together ∙ apart in
      absurd (cc);
}

pub shrinks_4 : SessionStep joint 1 (first_events 6) (outside 4) 4 (line.resizing (codes "a") (3 ∷ [])) (outside 6) (body.resized 6)
unfolding digits
shrinks_4 = record {
  rises = lit≤ tt;
  within = lit≤ tt;
  row =
      subst (λ asked. IsAnswered joint 1 (first_events 6) (outside 4) 4 asked names None (body.resized 6) (numbered 6 (event6 ∷ []))) (sym (resizes_to 3))
      (done_line
      (resize_done 5 (may_resize (first_events 5) 4 3 refl (record { stored = refl; rank = refl; sizes = (lit≤ tt, tt); few = lit≤ tt }) refl)
      (λ key cause damage. no_bytes key _ damage.damaged.held)));
}

pub grows_5 : SessionStep joint 1 events (outside 6) 5 (line.resizing (codes "a") (4 ∷ [])) (outside 7) (body.resized 7)
unfolding digits
grows_5 = record {
  rises = lit≤ tt;
  within = lit≤ tt;
  row =
      subst (λ asked. IsAnswered joint 1 events (outside 6) 5 asked names None (body.resized 7) (numbered 7 (event7 ∷ []))) (sym (resizes_to 4))
      (done_line
      (resize_done 6 (may_resize (first_events 6) 3 4 refl (record { stored = refl; rank = refl; sizes = (lit≤ tt, tt); few = lit≤ tt }) refl)
      (λ key cause damage. no_bytes key _ damage.damaged.held)));
}

-- line 14: the cell that came anew has the fill
abbrev all_words : List ℕ
all_words = 5 ∷ 8 ∷ 3 ∷ 0 ∷ []

abbrev pub marks_14 : Marks
marks_14 = (chunk 0, 7) ∷ (chunk 1, 7) ∷ []

abbrev pub reading_14 : Transaction
reading_14 = new_transaction 14 plain_mode

pub reads_all : act_of names None (line.reading (codes "a") [] None) ≡ Ok (reads whole None)
reads_all = simp (look-Leaf (of_shape 4) (first_cells 3), targets_whole)

pub unwritten_14 : unwritten [] whole ≡ cell 0 ∷ cell 1 ∷ cell 2 ∷ cell 3 ∷ []
unwritten_14 = simp targets_whole

shown_14 : map Some all_words ≡ visible_values finmap.empty events (mark_of marks_14) [] whole
shown_14 = simp (targets_whole, targets_0, targets_1)

two_once : IsDistinct is_chunk (chunk 0 ∷ chunk 1 ∷ [])
unfolding IsDistinct
two_once = ((refl, tt), (tt, tt))

read_14 : IsRead joint events 6 reading_14 whole all_words marks_14
read_14 = record {
  marked = record {
    fresh = marks_14;
    marked = refl;
    within = ((lit≤ tt, lit≤ tt), ((lit≤ tt, lit≤ tt), tt));
    needed = (ap (list_any (λ x. is_chunk (chunk_of events x) (chunk 0))) unwritten_14, (ap (list_any (λ x. is_chunk (chunk_of events x) (chunk 1))) unwritten_14, tt));
    new = (refl, (refl, tt));
    once = two_once;
    each = subst (AllByRecursion (λ x. IsTrue (has_mark marks_14 (chunk_of events x)))) (sym unwritten_14) (refl, (refl, (refl, (refl, tt))));
  };
  shown = shown_14;
}

pub reads_14 : SessionStep joint 0 events (outside 6) 14 (line.reading (codes "a") [] None) (outside 7) (values_body whole None all_words)
reads_14 = record {
  rises = lit≤ tt;
  within = lit≤ tt;
  row = subst (λ asked. IsAnswered joint 0 events (outside 6) 14 asked names None (values_body whole None all_words) []) (sym reads_all) (done_line (read_done read_14));
}

-- over a store that changes each key alone: two chunks aren't changed together
two_puts : puts_of all_or_none.ops ≡ (cell 0, 5) ∷ (cell 1, 5) ∷ (cell 2, 5) ∷ (cell 3, 5) ∷ []
two_puts = simp targets_whole

pub two_keys : stored_keys (first_events 1) all_or_none.ops ≡ first_key ∷ second_key ∷ []
unfolding digits
two_keys = simp targets_whole

no_damage_split : (h : History) (t : Transaction) → HasNoDamage split h t
no_damage_split h t c key why spoiled = no_bytes key _ spoiled.damaged.held

all_in : AreInShapes (first_events 1) all_or_none.ops
all_in x put = each (sym (ap (λ ps. is_put ps x) two_puts) ∙ put)
  where
    present_at : (i : ℕ) → is_present (first_events 1) (cell i) ≡ true → (b : Bool) → is_cell (cell i) x ≡ b → (rest : Bool) → (b || rest) ≡ true → (rest ≡ true → is_present (first_events 1) x ≡ true) → is_present (first_events 1) x ≡ true
    present_at i there true is rest e next = subst (λ y. is_present (first_events 1) y ≡ true) (same_cells (cell i) x is) there
    present_at i there false is rest e next = next e

    each : is_put ((cell 0, 5) ∷ (cell 1, 5) ∷ (cell 2, 5) ∷ (cell 3, 5) ∷ []) x ≡ true → is_present (first_events 1) x ≡ true
    each e0 = present_at 0 refl (is_cell (cell 0) x) refl _ e0 (λ e1. present_at 1 refl (is_cell (cell 1) x) refl _ e1 (λ e2. present_at 2 refl (is_cell (cell 2) x) refl _ e2 (λ e3. present_at 3 refl (is_cell (cell 3) x) refl _ e3 (λ never. absurd (cc)))))

pub splits_4 : SessionStep split 0 (first_events 1) (within 1 all_or_none) 4 line.committing (outside 1) (body.not_atomic 2)
splits_4 = record {
  rises = lit≤ tt;
  within = lit≤ tt;
  row = done_line (commit_done (is_split (λ asked. absurd (cc)) all_in (record { asked = refl; apart = ap (are_together []) two_keys; count = sym (ap length two_keys) })));
}

-- a write of its own is an event for each chunk
abbrev own_write : Transaction
own_write = write_alone 5 whole fives

keyed_events : commit_events split (first_events 1) 0 own_write ≡ of_key first_key ∷ of_key second_key ∷ []
unfolding digits
keyed_events = simp targets_whole

pub writes_fives : act_of names None (line.writing (codes "a") [] all_fives) ≡ Ok (writes whole fives)
writes_fives = simp (look-Leaf (of_shape 4) (first_cells 3), targets_whole)

pub writes_5 : SessionStep split 0 by_key (outside 1) 5 (line.writing (codes "a") [] all_fives) (outside 3) (body.written 4 (2 ∷ 3 ∷ []))
writes_5 = record {
  rises = lit≤ tt;
  within = lit≤ tt;
  row =
      subst (λ asked. IsAnswered split 0 by_key (outside 1) 5 asked names None (body.written 4 (2 ∷ 3 ∷ [])) (numbered 2 (of_key first_key ∷ of_key second_key ∷ []))) (sym writes_fives)
      (done_line
      (write_done
      (subst (λ es. IsCommit split 0 by_key own_write None (body.committed (numbers_of (numbered 2 es))) (numbered 2 es)) keyed_events
      (is_done 1 (record { no_conflict = λ asked. absurd (cc); in_shapes = all_in; whole = λ asked. absurd (cc) }) (no_damage_split (first_events 1) own_write)))));
}

-- after event 6, a name that knows four cells is told that the array shrank, and resolves to three
abbrev marks_6 : Marks
marks_6 = (chunk 0, 6) ∷ (chunk 1, 6) ∷ []

marked_6 : AreMarked (first_events 6) 6 (new_transaction 15 plain_mode) whole marks_6
marked_6 = record {
  fresh = marks_6;
  marked = refl;
  within = ((lit≤ tt, lit≤ tt), ((lit≤ tt, lit≤ tt), tt));
  needed = (ap (list_any (λ x. is_chunk (chunk_of (first_events 6) x) (chunk 0))) unwritten_14, (ap (list_any (λ x. is_chunk (chunk_of (first_events 6) x) (chunk 1))) unwritten_14, tt));
  new = (refl, (refl, tt));
  once = two_once;
  each = subst (AllByRecursion (λ x. IsTrue (has_mark marks_6 (chunk_of (first_events 6) x)))) (sym unwritten_14) (refl, (refl, (refl, (refl, tt))));
}

outside_6 : cells_outside (first_events 6) marks_6 (new_transaction 15 plain_mode) whole ≡ cell 3 ∷ []
outside_6 = ap (filter (was_outside (first_events 6) marks_6)) unwritten_14

pub only_last : (x : Cell) → Contains (cell 3 ∷ []) x → cell 3 ≡ x
only_last x (zero, low, is) = is
only_last x (suc k, low, is) = absurd (omega arith)

shrunk_6 : IsShrunkRead (first_events 6) marks_6 (new_transaction 15 plain_mode) whole metadata 6
shrunk_6 = record {
  cell = cell 3;
  counts = subst (λ xs. Contains xs (cell 3)) (sym outside_6) (0, lit≤ tt, refl);
  named = refl;
  number = sym (ap (λ xs. resized_after (take (last_mark (first_events 6) marks_6 0 xs) (first_events 6)) 0) outside_6);
  least = λ x there k is.
      let here : cell 3 ≡ x = only_last x (subst (λ xs. Contains xs x) outside_6 there) in
      let same : Some metadata ≡ Some k = ap (metadata_key_at (first_events 6)) here ∙ is in
      let key_is : metadata ≡ k = cc in
      ap (λ j. is_before j metadata) (sym key_is);
}

pub shrunk_15 : SessionStep joint 0 (first_events 6) (outside 6) 15 (line.reading (codes "a") [] None) (outside 6) (body.shrunk metadata 6)
shrunk_15 = record {
  rises = lit≤ tt;
  within = lit≤ tt;
  row = subst (λ asked. IsAnswered joint 0 (first_events 6) (outside 6) 15 asked names None (body.shrunk metadata 6) []) (sym reads_all) (done_line (read_shrunk (record { marks = marks_6; marked = marked_6; shrunk = shrunk_6 })));
}

pub resolves_whole : act_of names None (line.resolving (codes "a")) ≡ Ok (resolves (codes "a") whole (of_shape 4))
resolves_whole = ap (λ o. on_leaf o (λ r. Ok (resolves (codes "a") whole r))) (array-Leaf (of_shape 4) (first_cells 3))

pub renewed_whole : renewed (3 ∷ []) whole ≡ Ok three
renewed_whole = renewed-Leaf (3 ∷ []) (of_shape 4) (first_cells 3)

pub resolves_16 : SessionStep joint 0 (first_events 6) (outside 6) 16 (line.resolving (codes "a")) (record { names = bind names (codes "a") three; seen = 6; transaction = None }) (resolved_body (codes "a") three)
resolves_16 = record {
  rises = lit≤ tt;
  within = lit≤ tt;
  row =
      subst (λ asked. IsAnswered joint 0 (first_events 6) (outside 6) 16 asked (bind names (codes "a") three) None (resolved_body (codes "a") three) []) (sym resolves_whole)
      (done_line (resolve_done 6 (lit≤ tt) (lit≤ tt) renewed_whole));
}
