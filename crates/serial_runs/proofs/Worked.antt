-- The run worked out by hand is one of a program's, and so its transactions are serial.
use Rattle.std.proofs.Common.{◌≡◌, ℕ, ◌<◌, ◌≤◌, lit≤, zero, suc, ◌-◌, ◌^◌, List, [], ◌∷◌, codes, length, map, take, Bool, true, false, cond, Option, Some, None, Ok, inl, refl, sym, ap, subst, ◌∙◌, arith, pos}
use Rattle.std.proofs.lemmas.Int.{ints}
use Rattle.std.specs.Prelude.{IsTrue, ◌||◌, filter_map, option_map}
use Rattle.std.specs.List.{AllByRecursion, IsDistinct, list_all, list_any, slice_get, slice_index}
use Rattle.std.specs.FinMap as finmap
use Rattle.cells.specs.Numbers.{Holds, IsWord}
use Rattle.cells.specs.declared.dtype.Dtype.TheVariants.{I32}
use Rattle.cells.specs.declared.order.Order.TheVariants.{C}
use Rattle.history.specs.declared.Form.TheVariants as form
use Rattle.index_transform.specs.Cells.{is_finite}
use Rattle.kv_face.specs.Store.{Contents}
use Rattle.stack_driver.proofs.Laws.{look-Leaf}
use Rattle.stack_driver.specs.References.{Reference}
use Rattle.stack_driver.specs.Targets.{is_cell, outwards}
use Rattle.stack_driver.specs.Views.{Look, look_of}
use Rattle.stack_driver.specs.declared.view.View.{every_made-View}
use Rattle.stack_driver.specs.declared.view.View.TheOpen.{View-F}
use Rattle.stack_driver.specs.declared.view.View.TheVariants as view
use Rattle.history.specs.declared.event.Op.TheVariants.{Write, Read}
use Rattle.history.specs.History.{History}
use Rattle.history.specs.Acts.{act_of, reads, writes}
use Rattle.history.specs.Answers as body
use Rattle.history.specs.Answers.{Answer, Body}
use Rattle.history.specs.Arrays.{known_after}
use Rattle.history.specs.Bound.{IsBuildWithin}
use Rattle.history.specs.Chunks.{is_chunk, chunk_of, key_of}
use Rattle.history.specs.Commit.{Transaction, commit_events, done_each, changed_keys, stored_keys, are_together, in_order, read_generation}
use Rattle.history.specs.CommitRows.{MayCommit, HasNoDamage, IsCommit, is_done}
use Rattle.history.specs.Content.{world_after}
use Rattle.history.specs.Counting.{is_stored}
use Rattle.history.specs.Leaves.{nothing, metadata_key_asked}
use Rattle.history.specs.Legal.{IsLegal, IsLegalOpening, IsLegalDone, HasTarget, is_present}
use Rattle.history.specs.Lines.{stored, reading, writing, beginning, committing}
use Rattle.history.specs.OpenRows.{AreOpened, no_leaf, known_leaf, new_leaf, made_here}
use Rattle.history.specs.Own.{numbered, numbers_of}
use Rattle.history.specs.Reads.{Marks, mark_of, marked_world, first_reads, unwritten, has_mark, is_put}
use Rattle.history.specs.Refs.{IsKnownRef, HasKnownRef, HasKnownRefs}
use Rattle.history.specs.Sessions.{Names, bind, SessionState, at_first, new_transaction}
use Rattle.history.specs.Shown.{IsRead}
use Rattle.history.specs.Staged.{AreInShapes}
use Rattle.history.specs.Steps.{write_alone, SessionStep, IsSessionRun, no_line, next_line, IsAnswered, done_line, open_done, read_done, write_done, begin_done, commit_done}
use Rattle.history.specs.Store.{RepresentsHistory}
use Rattle.history.specs.Touch.{generation_of}
use Rattle.history.specs.Viewing.{opened_body, values_body}
use Rattle.history.specs.Worked.{joint, array, chunk, cell, of_shape, one_cell, at, repeatable, event1}
use Rattle.history.specs.Writes.{Put, puts_of, Content, shown_in, read_values}
use Rattle.history.proofs.AloneOpens.{no_bytes}
use Rattle.history.proofs.Histories.{legal_more, joint_more}
use Rattle.history.proofs.Plain.{plain-world}
use Rattle.history.proofs.Worked.{targets_1}
use Rattle.history.proofs.Written.{same_cells}
use Rattle.serial_runs.specs.Runs.{Script, IsLog, AreLogs, IsRunOf, IsWholeLog, AreWholeLogs, AreOfMount}
use Rattle.serial_runs.specs.Serial.{IsWholeSerial}
use Rattle.serial_runs.specs.Worked.{asked_leaf, cell_1, open_cell, seven, reads_cell, writes_cell, scripts, commit_of, write_of_7, events, log_of, second_log, logs}
use Rattle.serial_runs.proofs.Laws.{serial_whole}

-- the name `c` is bound to the cell
abbrev named : Names
named = bind (λ name. None) (codes "c") (at 1)

abbrev first_mark : Marks
first_mark = (chunk 0, 1) ∷ []

abbrev has_read : Transaction
has_read = record { line = 2; mode = repeatable; ops = Read (at 1) (0 ∷ []) ∷ []; marks = first_mark }

-- a session that has seen so many events, and stands in this transaction
abbrev state : ℕ → Option Transaction → SessionState
state seen t = record { names = named; seen = seen; transaction = t }

-- line 1: the first session makes the array
makes : AreOpened finmap.empty 0 (take 1 events) 0 (stored [] asked_leaf ∷ []) (of_shape 4 ∷ []) (record { number = 1; event = event1 } ∷ []) 1 []
makes =
    new_leaf 0 (form.Zarr (record { shape = 4 ∷ []; chunks = 2 ∷ []; dtype = I32; big = false; fill = None; order = C; slash = false })) (lit≤ tt) (lit≤ tt)
    (made_here (record { stored = nothing; read = λ none. finmap.get-empty _ (metadata_key_asked asked_leaf); same = refl })) no_leaf

opens_first : SessionStep joint 0 events at_first 1 open_cell (state 1 None) (opened_body (codes "c") (at 1) (1 ∷ []))
opens_first = record { rises = lit≤ tt; within = lit≤ tt; row = done_line (open_done makes refl) }

-- line 2
begins_second : SessionStep joint 0 events (state 1 None) 2 (beginning repeatable) (state 1 (Some (new_transaction 2 repeatable))) body.begun
begins_second = record { rises = lit≤ tt; within = lit≤ tt; row = done_line begin_done }

-- line 3: the cell is read behind event 1
asks_read : (t : Transaction) → act_of named (Some t) (reading (codes "c") [] None) ≡ Ok (reads (at 1) None)
asks_read t = simp (look-Leaf (of_shape 4) (one_cell 1), targets_1)

unwritten_1 : unwritten [] (at 1) ≡ cell 1 ∷ []
unwritten_1 = simp targets_1

one_size : (n limit : ℕ) → n ≤ limit → (k : ℕ) → k < 1 → slice_index (n ∷ []) k ≤ limit
one_size n limit low zero is = low
one_size n limit low (suc k) is = absurd (omega (arith, is))

one_least : (n : ℕ) → 1 ≤ n → (k : ℕ) → k < 1 → 1 ≤ slice_index (n ∷ []) k
one_least n low zero is = low
one_least n low (suc k) is = absurd (omega (arith, is))

may_open : IsLegalOpening [] array
may_open = record {
  number = refl;
  alone = λ a. tt;
  placed = record { one_part = ((λ e. absurd (cc)), ((λ e. absurd (cc)), ((λ e. absurd (cc)), ((λ e. absurd (cc)), ((λ e. absurd (cc)), ((λ e. absurd (cc)), tt)))))); not_local = λ e. absurd (cc) };
  kept = record {
    valid = record {
      shape = record { rank = lit≤ tt; sizes = one_size 4 (2 ^ 62 - 2) (lit≤ tt) };
      ranks = refl;
      chunks = record { least = one_least 2 (lit≤ tt); greatest = one_size 2 (2 ^ 24) (lit≤ tt); volume = lit≤ tt };
      fill = λ x is. absurd (cc);
      one_byte = λ e. absurd (cc);
    };
    shape = refl;
    dtype = refl;
    fill = refl;
  };
}

legal_1 : IsLegal finmap.empty (event1 ∷ [])
legal_1 = legal_more finmap.empty [] event1 tt may_open

-- the cell is 0 then
word_1 : world_after finmap.empty (event1 ∷ []) (cell 1) ≡ Some 0
word_1 = sym (plain-world (cell 1) (event1 ∷ []) legal_1 (joint_more [] event1 tt tt))

shows_0 : (content : Content) → content (cell 1) ≡ Some 0 → map Some (0 ∷ []) ≡ read_values content (at 1)
shows_0 content is = sym (ap (map (shown_in content)) targets_1 ∙ ap (λ o. option_map (outwards []) o ∷ []) is)

marked_once : IsDistinct is_chunk (chunk 0 ∷ [])
unfolding IsDistinct
marked_once = (tt, tt)

reads_0 : IsRead joint (take 1 events) 1 (new_transaction 2 repeatable) (at 1) (0 ∷ []) first_mark
reads_0 = record {
  marked = record {
    fresh = first_mark;
    marked = refl;
    within = ((lit≤ tt, lit≤ tt), tt);
    needed = (subst (λ xs. IsTrue (list_any (λ x. is_chunk (chunk_of (take 1 events) x) (chunk 0)) xs)) (sym unwritten_1) refl, tt);
    new = (refl, tt);
    once = marked_once;
    each = subst (AllByRecursion (λ x. IsTrue (has_mark first_mark (chunk_of (take 1 events) x)))) (sym unwritten_1) (refl, tt);
  };
  shown = shows_0 (marked_world finmap.empty (take 1 events) (mark_of first_mark)) word_1;
}

reads_third : SessionStep joint 0 events (state 1 (Some (new_transaction 2 repeatable))) 3 (reading (codes "c") [] None) (state 1 (Some has_read)) (values_body (at 1) None (0 ∷ []))
reads_third = record {
  rises = lit≤ tt;
  within = lit≤ tt;
  row =
      subst (λ asked. IsAnswered joint 0 (take 1 events) (state 1 (Some (new_transaction 2 repeatable))) 3 asked named (Some has_read) (values_body (at 1) None (0 ∷ [])) []) (sym (asks_read (new_transaction 2 repeatable))) (done_line (read_done reads_0));
}

-- line 4: nothing has touched the chunk since
no_damage : (h : History) (t : Transaction) → HasNoDamage joint h t
no_damage h t c key why spoiled = no_bytes key _ spoiled.damaged.held

first_read : first_reads [] has_read.ops ≡ cell 1 ∷ []
first_read = simp targets_1

may_commit : MayCommit joint (event1 ∷ []) has_read
may_commit = record {
  no_conflict = λ asked. subst (AllByRecursion (λ x. generation_of (event1 ∷ []) (chunk_of (event1 ∷ []) x) ≤ read_generation (event1 ∷ []) first_mark (chunk_of (event1 ∷ []) x))) (sym first_read) (lit≤ tt, tt);
  in_shapes = λ x put. absurd (cc);
  whole = λ asked. absurd (cc);
}

commits_fourth : SessionStep joint 0 events (state 1 (Some has_read)) 4 committing (state 2 None) (body.committed (2 ∷ []))
commits_fourth = record { rises = lit≤ tt; within = lit≤ tt; row = done_line (commit_done (is_done 1 may_commit (no_damage (event1 ∷ []) has_read))) }

first_run : IsSessionRun joint 0 events at_first 1 reads_cell (log_of 0) (state 2 None)
first_run = next_line opens_first refl (next_line begins_second refl (next_line reads_third refl (next_line commits_fourth refl no_line)))

-- the second session, line 1: it finds the array
finds : AreOpened finmap.empty 1 (take 1 events) 0 (stored [] asked_leaf ∷ []) (of_shape 4 ∷ []) [] 1 []
finds =
    known_leaf 1 (record { info = array; opened = 1; shape = 4 ∷ [] }) (lit≤ tt) (lit≤ tt)
    (record { stored = nothing; read = λ none. finmap.get-empty _ (metadata_key_asked asked_leaf); same = refl }) no_leaf

opens_found : SessionStep joint 1 events at_first 1 open_cell (state 1 None) (opened_body (codes "c") (at 1) [])
opens_found = record { rises = lit≤ tt; within = lit≤ tt; row = done_line (open_done finds refl) }

-- line 2: it writes behind the first session's commit
asks_write : act_of named None (writing (codes "c") [] seven) ≡ Ok (writes (at 1) (7 ∷ []))
asks_write = simp (look-Leaf (of_shape 4) (one_cell 1), targets_1)

abbrev pub of_write : Transaction
of_write = write_alone 2 (at 1) (7 ∷ [])

pub puts_7 : puts_of of_write.ops ≡ (cell 1, 7) ∷ []
puts_7 = simp targets_1

first_of : (b : Bool) → (b || false) ≡ true → b ≡ true
first_of true e = refl
first_of false e = absurd (cc)

inside_7 : AreInShapes (take 2 events) of_write.ops
inside_7 x put =
    let only : cell 1 ≡ x = same_cells (cell 1) x (first_of (is_cell (cell 1) x) (sym (ap (λ ps. is_put ps x) puts_7) ∙ put)) in
    subst (λ y. is_present (take 2 events) y ≡ true) only refl

may_write : MayCommit joint (take 2 events) of_write
may_write = record { no_conflict = λ asked. absurd (cc); in_shapes = inside_7; whole = λ asked. absurd (cc) }

together_7 : are_together joint.prefixes (stored_keys (take 2 events) of_write.ops) ≡ true
together_7 = ap (λ ps. are_together joint.prefixes (in_order (filter_map (λ (p : Put). cond (is_stored (known_after (take 2 events) p.0.array)) (key_of (take 2 events) (chunk_of (take 2 events) p.0)) None) ps))) puts_7

event_7 : commit_events joint (take 2 events) 1 of_write ≡ write_of_7 ∷ []
event_7 = ap (λ b. cond b (write_of_7 ∷ []) (done_each 1 of_write of_write.ops (changed_keys (take 2 events) of_write.ops))) together_7

commits_7 : IsCommit joint 1 events of_write None (body.committed (3 ∷ [])) (record { number = 3; event = write_of_7 } ∷ [])
commits_7 = subst (λ es. IsCommit joint 1 events of_write None (body.committed (numbers_of (numbered 3 es))) (numbered 3 es)) event_7 (is_done 2 may_write (no_damage (take 2 events) of_write))

writes_second : SessionStep joint 1 events (state 1 None) 2 (writing (codes "c") [] seven) (state 3 None) (body.written 1 (3 ∷ []))
writes_second = record {
  rises = lit≤ tt;
  within = lit≤ tt;
  row = subst (λ asked. IsAnswered joint 1 (take 3 events) (state 1 None) 2 asked named None (body.written 1 (3 ∷ [])) (record { number = 3; event = write_of_7 } ∷ [])) (sym asks_write) (done_line (write_done commits_7));
}

second_run : IsSessionRun joint 1 events at_first 1 writes_cell second_log (state 3 None)
second_run = next_line opens_found refl (next_line writes_second refl no_line)

-- both logs
each_log : (k : ℕ) (script : Script) (log : List Answer) → slice_get scripts k ≡ Some script → slice_get logs k ≡ Some log → IsLog joint events k script log
each_log zero script log is are =
    let one : reads_cell ≡ script = cc in
    let other : log_of 0 ≡ log = cc in
    subst (λ l. IsLog joint events 0 script l) other (subst (λ s. IsLog joint events 0 s (log_of 0)) one (record { ran = reads_cell; left = []; parts = refl; last = state 2 None; run = first_run; no_more = refl }))
each_log (suc zero) script log is are =
    let one : writes_cell ≡ script = cc in
    let other : second_log ≡ log = cc in
    subst (λ l. IsLog joint events 1 script l) other (subst (λ s. IsLog joint events 1 s second_log) one (record { ran = writes_cell; left = []; parts = refl; last = state 3 None; run = second_run; no_more = refl }))
each_log (suc (suc k)) script log is are = absurd (cc)

both_logs : AreLogs joint events scripts logs
both_logs = record { count = refl; each = each_log; owners = (lit≤ tt, (lit≤ tt, (lit≤ tt, tt))) }

-- the history is legal
finite_cell : IsTrue (list_all is_finite (look_of (at 1)).dims)
finite_cell = ap (λ (l : Look). list_all is_finite l.dims) (look-Leaf (of_shape 4) (one_cell 1))

legal_read : IsLegalDone finmap.empty (event1 ∷ []) (Read (at 1) (0 ∷ []) ∷ [])
legal_read = record {
  each = (record { finite = finite_cell; targets = subst (AllByRecursion (HasTarget (event1 ∷ []))) (sym targets_1) (refl, tt); count = ap length (sym targets_1); words = tt }, tt);
  reads = (shows_0 (world_after finmap.empty (event1 ∷ [])) word_1, tt);
}

is_held : Holds I32 (pos 7)
is_held = record { from_least = omega (arith, ints); to_greatest = omega (arith, ints) }

is_word : IsWord (look_of (at 1)).dtype 7
is_word = subst (λ (l : Look). IsWord l.dtype 7) (sym (look-Leaf (of_shape 4) (one_cell 1))) (record { in_64_bits = lit≤ tt; held = is_held })

legal_write : IsLegalDone finmap.empty (event1 ∷ commit_of 0 ∷ []) (Write (at 1) (7 ∷ []) ∷ [])
legal_write = record {
  each = (record { finite = finite_cell; targets = subst (AllByRecursion (HasTarget (event1 ∷ commit_of 0 ∷ []))) (sym targets_1) (refl, tt); count = ap length (sym targets_1); words = (is_word, tt) }, tt);
  reads = tt;
}

legal : IsLegal finmap.empty events
legal =
    legal_more finmap.empty (event1 ∷ commit_of 0 ∷ []) write_of_7
    (legal_more finmap.empty (event1 ∷ []) (commit_of 0) legal_1 legal_read) legal_write

-- the scripts ask for arrays of the mount alone, and for no array that they weren't given
known_view : (h : History) (r : Reference) → IsKnownRef h r → HasKnownRefs h (view.Leaf r (one_cell 1))
known_view h r known = subst (HasKnownRefs h) (view.rolls-Leaf r (one_cell 1)) (every_made-View (HasKnownRef h) (View-F.Leaf r (one_cell 1)) (View-F.Leaf r (one_cell 1)) refl known)

builds : IsBuildWithin cell_1
builds h [] v known is = absurd (cc)
builds h (r ∷ rs) v known is = let same : view.Leaf r (one_cell 1) ≡ v = cc in subst (HasKnownRefs h) same (known_view h r known.0)

pub of_mount : AreOfMount (codes "memory") scripts
of_mount = record {
  on_mount = (((refl, tt), (tt, (tt, (tt, tt)))), (((refl, tt), (tt, tt)), tt));
  within = ((builds, (tt, (tt, (tt, tt)))), ((builds, (tt, tt)), tt));
}

-- it is a run, whatever store represents its events
pub is_run : (store : Contents) → RepresentsHistory store finmap.empty events → IsRunOf joint scripts events logs (Some store) None None
is_run store represents = record {
  sessions = both_logs;
  consistent = record { legal = legal; represents = λ told is. let same : store ≡ told = cc in subst (λ s. RepresentsHistory s finmap.empty events) same represents };
  counted = tt;
}

-- every line has its answer
each_whole : AreWholeLogs scripts logs
each_whole zero script log is are =
    let one : reads_cell ≡ script = cc in
    let other : log_of 0 ≡ log = cc in
    subst (IsWholeLog script) other (subst (λ s. IsWholeLog s (log_of 0)) one (inl refl))
each_whole (suc zero) script log is are =
    let one : writes_cell ≡ script = cc in
    let other : second_log ≡ log = cc in
    subst (IsWholeLog script) other (subst (λ s. IsWholeLog s second_log) one (inl refl))
each_whole (suc (suc k)) script log is are = absurd (cc)

-- so it is a whole run, and its transactions are serial
pub is_whole : (store : Contents) → RepresentsHistory store finmap.empty events → IsWholeSerial scripts events logs store
is_whole store represents = serial_whole (codes "memory") scripts events logs store None None of_mount (record { run = is_run store represents; whole = each_whole })
