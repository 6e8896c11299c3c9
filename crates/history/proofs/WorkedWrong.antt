-- A wrong answer beside each step of the worked histories is none.
use Rattle.std.proofs.Common.{◌≡◌, ℕ, ℤ, pos, ◌+◌, ◌<◌, ◌≤◌, List, [], ◌∷◌, ◌++◌, codes, refl, sym, ap, subst, ◌∙◌, Bool, true, false, cond, length, take, map, Option, Some, None, Ok, inl, inr, arith}
use Rattle.std.specs.Prelude.{◌||◌, Contains, IsTrue, option_map, not, filter, max}
use Rattle.std.specs.FinMap as finmap
use Rattle.std.specs.List.{AllByRecursion}
use Rattle.cells.specs.declared.dtype.Dtype.{Dtype}
use Rattle.stack_driver.specs.declared.view.View.{View, fold-roll-View}
use Rattle.stack_driver.specs.declared.view.View.TheOpen.{View-F}
use Rattle.stack_driver.specs.declared.view.View.TheVariants as view
use Rattle.stack_driver.specs.declared.view.View.TheVariants.{Leaf}
use Rattle.stack_driver.specs.Renewed.{renewed}
use Rattle.stack_driver.specs.Bounds.{Bounds}
use Rattle.stack_driver.specs.Transforms.{DomainAndMaps}
use Rattle.history.proofs.Known.{some_inj}
use Rattle.history.specs.declared.event.Event.{Event}
use Rattle.history.specs.declared.event.Kind.TheVariants.{Done}
use Rattle.history.specs.History.{History}
use Rattle.history.specs.Acts.{Act, Asked, reads, writes, commits, resizes, resolves}
use Rattle.history.specs.Answers as body
use Rattle.history.specs.Answers.{Body}
use Rattle.history.specs.Chunks.{Chunk, is_chunk, chunk_of}
use Rattle.history.specs.Commit.{Key, Fixed, Transaction, commit_events, stored_keys, are_together, read_generation, IsConflict}
use Rattle.history.specs.CommitRows.{MayCommit, IsCommit, IsPart, is_done, conflicts, is_shrunk, is_split, is_damaged, is_failed, is_wanting, left_by, own_after}
use Rattle.history.specs.Legal.{is_present}
use Rattle.history.specs.Lines as line
use Rattle.history.specs.Lines.{Downsampling}
use Rattle.history.specs.Own.{Numbered, numbers_of}
use Rattle.history.specs.ReadRows.{IsShrunkBy}
use Rattle.history.specs.Refusals.{was_outside, cells_outside, last_mark, metadata_key_at}
use Rattle.history.specs.ResizeRows.{shape_after}
use Rattle.history.specs.Store.{resized_after}
use Rattle.history.specs.Reads.{Marks, first_reads, has_mark, mark_of, is_put, marked_world, visible_values}
use Rattle.history.specs.Sessions.{Names, SessionState, reader}
use Rattle.history.specs.Shown.{IsMarkWithin, IsRead}
use Rattle.history.specs.Steps.{SessionStep, IsRow, open_done, open_refused, open_unbuilt, open_failed, open_wanting, view_done, read_done, read_shrunk, read_damaged, read_failed, write_staged, write_done, begin_done, commit_done, abort_done, resize_done, resize_many, resize_split, resize_damaged, resize_failed, resolve_done, resolve_refused, IsAnswered, refused_line, wanting, done_line, as_written}
use Rattle.history.specs.Touch.{generation_of}
use Rattle.history.specs.Viewing.{values_body, resolved_body}
use Rattle.history.specs.Worked.{of_shape, joint, split, chunk, cell, whole, at, repeatable, event1, event2, event3, events, first_events, names, within, outside, mark2, read4, written6, written9, reread, written12, failing, all_or_none, metadata, by_key, fives, all_fives, first_cells, three}
use Rattle.history.specs.Writes.{shown_in}
use Rattle.history.specs.Content.{world_after}
use Rattle.history.proofs.Tests.{equal_or_not}
use Rattle.stack_driver.specs.References.{Reference}
use Rattle.stack_driver.specs.Targets.{Cell, outwards}
use Rattle.stack_driver.specs.Views.{targets_of, own_transform, own_transform_step}
use Rattle.history.proofs.Alone.{first_number, number_first}
use Rattle.history.proofs.Worked.{reads_reread, found, resizes_to, to, reads_1, reads_all, reading_14, footprint_6, later, only_first, read_number, now_number, targets_whole, targets_0, targets_1, targets_3, events_9, two_keys, puts_12, unwritten_14, only_last, writes_fives, resolves_whole, renewed_whole}

-- what a commit that is answered so has done
record IsDone (fixed : Fixed) (owner : ℕ) (h : History) (t : Transaction) (own : List Numbered) : Type 0 where
  judged : ℕ
  may : MayCommit fixed (take judged h) t
  added : own ≡ own_after fixed owner h judged t

done_of : {fixed : Fixed} {owner : ℕ} {h : History} {t : Transaction} {left : Option Transaction} {numbers : List ℕ} {own : List Numbered} → IsCommit fixed owner h t left (body.committed numbers) own → IsDone fixed owner h t own
done_of (is_done n may undamaged) = record { judged = n; may = may; added = refl }

committed_of : {fixed : Fixed} {owner line : ℕ} {h : History} {s : SessionState} {t : Transaction} {names : Names} {left : Option Transaction} {numbers : List ℕ} {own : List Numbered} → IsAnswered fixed owner h s line (Ok (commits t)) names left (body.committed numbers) own
    → IsDone fixed owner h t own
committed_of (done_line (commit_done row)) = done_of row

conflict_of : {fixed : Fixed} {owner line : ℕ} {h : History} {s : SessionState} {t : Transaction} {names : Names} {left : Option Transaction} {key : Key} {read now : ℕ} {own : List Numbered} → IsAnswered fixed owner h s line (Ok (commits t)) names left (body.conflict key read now) own
    → IsConflict h t key read now
conflict_of (done_line (commit_done (conflicts conflict))) = conflict

-- line 7: no commit is done behind what the transaction read, and no other generations are told
abbrev stale : Event
stale = record { owner = 0; kind = Done 3 repeatable written6.ops None }

reads_6 : first_reads [] written6.ops ≡ cell 0 ∷ cell 1 ∷ []
reads_6 = simp (targets_0, targets_1, targets_3)

stale_never : MayCommit joint (first_events 3) written6 → ⊥
stale_never may =
    let kept = subst (AllByRecursion (λ x. generation_of (first_events 3) (chunk_of (first_events 3) x) ≤ read_generation (first_events 3) written6.marks (chunk_of (first_events 3) x))) reads_6 (may.no_conflict refl) in
    let low : generation_of (first_events 3) (chunk 0) ≤ read_generation (first_events 3) mark2 (chunk 0) = kept.0 in
    let high = later in
    omega (arith, low, high)

pub not_committed_7 : (numbers : List ℕ) → SessionStep joint 0 (event1 ∷ event2 ∷ event3 ∷ stale ∷ []) (within 3 written6) 7 line.committing (outside 4) (body.committed numbers) → ⊥
not_committed_7 numbers step =
    let done = committed_of step.row in
    let number : 4 ≡ done.judged + 1 = number_first (record { number = 4; event = stale }) [] (done.judged + 1) (commit_events joint (take done.judged (event1 ∷ event2 ∷ event3 ∷ stale ∷ [])) 0 written6) done.added in
    let judged : done.judged ≡ 3 = omega (arith, number) in
    stale_never (subst (λ n. MayCommit joint (take n (event1 ∷ event2 ∷ event3 ∷ stale ∷ [])) written6) judged done.may)

pub only_these_7 : (key : Key) (read now : ℕ) → SessionStep joint 0 (first_events 3) (within 3 written6) 7 line.committing (outside 3) (body.conflict key read now) → (read ≡ 2) × (now ≡ 3)
only_these_7 key read now step =
    let conflict : IsConflict (first_events 3) written6 key read now = conflict_of step.row in
    let one : conflict.chunk ≡ chunk 0 = only_first conflict.chunk (subst (λ cs. Contains cs conflict.chunk) footprint_6 conflict.conflict.was_read) in
    (conflict.read_at ∙ ap (read_generation (first_events 3) mark2) one ∙ read_number, conflict.now_at ∙ ap (generation_of (first_events 3)) one ∙ now_number)

-- line 10: a transaction that only wrote meets no conflict
pub no_conflict_10 : (key : Key) (read now : ℕ) → SessionStep joint 0 (first_events 4) (within 3 written9) 10 line.committing (outside 4) (body.conflict key read now) → ⊥
no_conflict_10 key read now step =
    let conflict : IsConflict (first_events 4) written9 key read now = conflict_of step.row in
    let low = conflict.conflict.was_read.1 in
    omega (arith, low)

-- nor does one that read its own write alone
pub no_conflict_reread : (key : Key) (read now : ℕ) → SessionStep joint 0 (first_events 4) (within 3 reread) 10 line.committing (outside 4) (body.conflict key read now) → ⊥
no_conflict_reread key read now step =
    let conflict : IsConflict (first_events 4) reread key read now = conflict_of step.row in
    let there : Contains [] conflict.chunk = subst (λ xs. Contains (map (chunk_of (first_events 4)) xs) conflict.chunk) reads_reread conflict.conflict.was_read in
    let low = there.1 in
    omega (arith, low)

-- a transaction of which nothing was done is not gone
failed_of : {fixed : Fixed} {owner line : ℕ} {h : History} {s : SessionState} {t : Transaction} {names : Names} {left : Option Transaction} {number : ℕ} {done : List ℕ} {own : List Numbered}
    → IsAnswered fixed owner h s line (Ok (commits t)) names left (body.store_failed number done None) own → (n : ℕ) × (count : ℕ) × IsPart fixed owner (take n h) t count × (left ≡ left_by count t)
failed_of (done_line (commit_done (is_failed n count mount part changed))) = (n, count, part, refl)

nothing_left_by : (count : ℕ) (t : Transaction) → count ≡ 0 → None ≡ left_by count t → ⊥
nothing_left_by count t none is = let some : None ≡ Some t = is ∙ ap (λ k. left_by k t) none in cc

pub not_gone_10 : SessionStep joint 0 (take 5 failing) (within 3 written9) 10 line.committing (outside 5) (body.store_failed 5 [] None) → ⊥
not_gone_10 step =
    let parts = failed_of step.row in
    let fewer : parts.1 < 1 = subst (λ es. parts.1 < length es) (events_9 (take parts.0 (take 5 failing))) parts.2.fewer in
    nothing_left_by parts.1 written9 (omega (arith, fewer)) parts.3

-- line 13: no commit of a cell outside is done
abbrev past_end : Event
past_end = record { owner = 0; kind = Done 11 (written12.mode) written12.ops None }

pub not_committed_13 : (numbers : List ℕ) → SessionStep joint 0 (first_events 6 ++ past_end ∷ []) (within 6 written12) 13 line.committing (outside 7) (body.committed numbers) → ⊥
not_committed_13 numbers step =
    let h : History = first_events 6 ++ past_end ∷ [] in
    let done = committed_of step.row in
    let number : 7 ≡ done.judged + 1 = number_first (record { number = 7; event = past_end }) [] (done.judged + 1) (commit_events joint (take done.judged h) 0 written12) done.added in
    let judged : done.judged ≡ 6 = omega (arith, number) in
    let may : MayCommit joint (first_events 6) written12 = subst (λ n. MayCommit joint (take n h) written12) judged done.may in
    let inside : is_present (first_events 6) (cell 3) ≡ true = may.in_shapes (cell 3) (ap (λ ps. is_put ps (cell 3)) puts_12) in
    cc

-- a store that changes each key alone commits no two chunks together
abbrev both_chunks : Event
both_chunks = record { owner = 0; kind = Done 2 (all_or_none.mode) all_or_none.ops None }

pub not_committed_4 : (numbers : List ℕ) → SessionStep split 0 (event1 ∷ both_chunks ∷ []) (within 1 all_or_none) 4 line.committing (outside 2) (body.committed numbers) → ⊥
not_committed_4 numbers step =
    let done = committed_of step.row in
    let number : 2 ≡ done.judged + 1 = number_first (record { number = 2; event = both_chunks }) [] (done.judged + 1) (commit_events split (take done.judged (event1 ∷ both_chunks ∷ [])) 0 all_or_none) done.added in
    let judged : done.judged ≡ 1 = omega (arith, number) in
    let may : MayCommit split (first_events 1) all_or_none = subst (λ n. MayCommit split (take n (event1 ∷ both_chunks ∷ [])) all_or_none) judged done.may in
    let together : are_together [] (stored_keys (first_events 1) all_or_none.ops) ≡ true = may.whole refl in
    let clash : false ≡ true = ap (are_together []) (sym two_keys) ∙ together in
    cc

-- what is answered by values was read
record WasRead (fixed : Fixed) (h : History) (seen line : ℕ) (t : Option Transaction) (view : View) (down : Option Downsampling) (answer : Body) : Type 0 where
  words : List ℕ
  marks : Marks
  read : IsRead fixed h seen (reader line t) view words marks
  answered : values_body view down words ≡ answer

module _ {fixed : Fixed} {owner line : ℕ} {h : History} {s : SessionState} (view : View) (down : Option Downsampling) (origin : List ℤ) (shape : List ℕ) (dtype : Dtype) (told : List ℕ) where
  row_read : {act : Act} {names : Names} {left : Option Transaction} {answer : Body} {own : List Numbered} → IsRow fixed owner h s line act names left answer own → act ≡ reads view down → answer ≡ body.values origin shape dtype told → WasRead fixed h s.seen line s.transaction view down answer
  row_read (read_done {view = v} {down = d} {words = words} {marks = marks} read) is values =
      let same_view : v ≡ view = cc in
      let same_down : d ≡ down = cc in
      record { words = words; marks = marks; read = subst (λ w. IsRead fixed h s.seen (reader line s.transaction) w words marks) same_view read; answered = λ i. values_body (sym same_view i) (sym same_down i) words }
  row_read (open_done opened built) is values = absurd (cc)
  row_read (open_refused opened refusal) is values = absurd (cc)
  row_read (open_unbuilt opened built) is values = absurd (cc)
  row_read (open_failed before opened failed) is values = absurd (cc)
  row_read (open_wanting opened) is values = absurd (cc)
  row_read view_done is values = absurd (cc)
  row_read (read_shrunk shrunk) is values = absurd (cc)
  row_read (read_damaged damaged) is values = absurd (cc)
  row_read (read_failed before fetched) is values = absurd (cc)
  row_read write_staged is values = absurd (cc)
  row_read (write_done commit) is values = absurd (cc)
  row_read begin_done is values = absurd (cc)
  row_read (commit_done commit) is values = absurd (cc)
  row_read abort_done is values = absurd (cc)
  row_read (resize_done n may undamaged) is values = absurd (cc)
  row_read (resize_many many) is values = absurd (cc)
  row_read (resize_split few split_is) is values = absurd (cc)
  row_read (resize_damaged may damaged) is values = absurd (cc)
  row_read (resize_failed n may on_mount) is values = absurd (cc)
  row_read (resolve_done m low high is_made) is values = absurd (cc)
  row_read (resolve_refused m low high refused) is values = absurd (cc)

  answer_read : {asked : Asked} {names : Names} {left : Option Transaction} {answer : Body} {own : List Numbered} → IsAnswered fixed owner h s line asked names left answer own → asked ≡ Ok (reads view down) → answer ≡ body.values origin shape dtype told
      → WasRead fixed h s.seen line s.transaction view down answer
  answer_read refused_line is values = absurd (cc)
  answer_read wanting is values = absurd (cc)
  answer_read (done_line {act = act} row) is values = let same : act ≡ reads view down = cc in row_read row same values

-- line 5: what was written since the mark isn't shown
pub not_shown_5 : (t : Transaction) → SessionStep joint 0 (first_events 3) (within 2 read4) 5 (line.reading (codes "a") (to 1) None) (within 3 t) (values_body (at 1) None (7 ∷ [])) → ⊥
not_shown_5 t step =
    let was = answer_read (at 1) None _ _ _ (7 ∷ []) step.row reads_1 refl in
    let words : was.words ≡ 7 ∷ [] = cc in
    let shown : map Some (7 ∷ []) ≡ visible_values finmap.empty (first_events 3) (mark_of (mark2 ++ was.read.marked.fresh)) read4.ops (at 1) =
    ap (map Some) (sym words) ∙ was.read.shown ∙ ap (λ ms. visible_values finmap.empty (first_events 3) (mark_of ms) read4.ops (at 1)) was.read.marked.marked in
    let there : visible_values finmap.empty (first_events 3) (mark_of (mark2 ++ was.read.marked.fresh)) read4.ops (at 1) ≡ Some 2 ∷ [] = simp (targets_whole, targets_1) in
    let clash : Some 7 ∷ [] ≡ Some 2 ∷ [] = shown ∙ there in
    cc

-- a chunk that has a mark has it within the bounds of all
mark_between : (low high : ℕ) (marks : Marks) (c : Chunk) → AllByRecursion (IsMarkWithin low high) marks → has_mark marks c ≡ true → (low ≤ mark_of marks c) × (mark_of marks c ≤ high)
mark_between low high [] c all has = absurd (cc)
mark_between low high (m ∷ ms) c all has = told (is_chunk m.0 c) has (mark_between low high ms c all.1)
  where
    told : (b : Bool) → (b || has_mark ms c) ≡ true → (has_mark ms c ≡ true → (low ≤ mark_of ms c) × (mark_of ms c ≤ high)) → (low ≤ cond b m.1 (mark_of ms c)) × (cond b m.1 (mark_of ms c) ≤ high)
    told true e next = all.0
    told false e next = next e

four_is_some : ◌≡◌ {A = Option ℕ} (Some 4) None → ⊥
four_is_some e = cc

four_is_four : ◌≡◌ {A = Option ℕ} (Some 4) (Some 0) → ⊥
four_is_four e = cc

abbrev last_cell : ℕ → Option ℕ
last_cell m = world_after finmap.empty (take m events) (cell 3)

cell_cut : last_cell 6 ≡ None
cell_cut = refl

cell_new : last_cell 7 ≡ Some 0
cell_new = refl

fourth : {A : Type 0} (a b c d e f g h : A) → a ∷ b ∷ c ∷ d ∷ [] ≡ e ∷ f ∷ g ∷ h ∷ [] → d ≡ h
fourth a b c d e f g h same = cc

never_last : (m : ℕ) → 6 ≤ m → m ≤ 7 → Some 4 ≡ option_map (outwards []) (last_cell m) → ⊥
never_last m low high last = elim (equal_or_not m 6) [
  | inl six ↦ four_is_some (last ∙ ap (λ k. option_map (outwards []) (last_cell k)) six ∙ ap (option_map (outwards [])) cell_cut)
  | inr other ↦ let seven : m ≡ 7 = omega (arith, low, high, other) in four_is_four (last ∙ ap (λ k. option_map (outwards []) (last_cell k)) seven ∙ ap (option_map (outwards [])) cell_new)
]

never_read : (words : List ℕ) (marks : Marks) → words ≡ 5 ∷ 8 ∷ 3 ∷ 4 ∷ [] → IsRead joint events 6 reading_14 whole words marks → ⊥
never_read words marks same read =
    let c = marked_world finmap.empty events (mark_of marks) in
    let shown : map Some (5 ∷ 8 ∷ 3 ∷ 4 ∷ []) ≡ map (shown_in c) (targets_of whole) = ap (map Some) (sym same) ∙ read.shown in
    let there : map Some (5 ∷ 8 ∷ 3 ∷ 4 ∷ []) ≡ map (shown_in c) (found 0 ∷ found 1 ∷ found 2 ∷ found 3 ∷ []) = shown ∙ ap (map (shown_in c)) targets_whole in
    let last : Some 4 ≡ option_map (outwards []) (last_cell (mark_of marks (chunk 1))) = fourth _ _ _ _ _ _ _ _ there in
    let within_all : AllByRecursion (IsMarkWithin 6 7) marks = subst (AllByRecursion (IsMarkWithin 6 7)) (sym read.marked.marked) read.marked.within in
    let each = subst (AllByRecursion (λ x. IsTrue (has_mark marks (chunk_of events x)))) unwritten_14 read.marked.each in
    let mark = mark_between 6 7 marks (chunk 1) within_all each.1.1.1.0 in
    never_last (mark_of marks (chunk 1)) mark.0 mark.1 last

-- line 14: the word that the cell had before it was cut isn't shown
pub not_shown_14 : (t : Option Transaction) → SessionStep joint 0 events (outside 6) 14 (line.reading (codes "a") [] None) (record { names = names; seen = 7; transaction = t }) (values_body whole None (5 ∷ 8 ∷ 3 ∷ 4 ∷ [])) → ⊥
not_shown_14 t step =
    let was = answer_read whole None _ _ _ (5 ∷ 8 ∷ 3 ∷ 4 ∷ []) step.row reads_all refl in
    never_read was.words was.marks (same_words was.words (5 ∷ 8 ∷ 3 ∷ 4 ∷ []) was.answered) was.read
  where
    same_words : (xs ys : List ℕ) → values_body whole None xs ≡ values_body whole None ys → xs ≡ ys
    same_words xs ys same = cc

-- session 1's new shape has the number of its event
record WasResized (fixed : Fixed) (owner : ℕ) (number : ℕ) (own : List Numbered) : Type 0 where
  at : ℕ
  event : Event
  added : own ≡ record { number = at + 1; event = event } ∷ []
  told : number ≡ at + 1

module _ {fixed : Fixed} {owner line : ℕ} {h : History} {s : SessionState} (array : Reference) (shape : List ℕ) (number : ℕ) where
  row_resized : {act : Act} {names : Names} {left : Option Transaction} {answer : Body} {own : List Numbered} → IsRow fixed owner h s line act names left answer own → act ≡ resizes array shape → answer ≡ body.resized number → WasResized fixed owner number own
  row_resized (resize_done n may undamaged) is told = let same : n + 1 ≡ number = cc in record { at = n; event = _; added = refl; told = sym same }
  row_resized (open_done opened built) is told = absurd (cc)
  row_resized (open_refused opened refusal) is told = absurd (cc)
  row_resized (open_unbuilt opened built) is told = absurd (cc)
  row_resized (open_failed before opened failed) is told = absurd (cc)
  row_resized (open_wanting opened) is told = absurd (cc)
  row_resized view_done is told = absurd (cc)
  row_resized (read_done read) is told = absurd (cc)
  row_resized (read_shrunk shrunk) is told = absurd (cc)
  row_resized (read_damaged damaged) is told = absurd (cc)
  row_resized (read_failed before fetched) is told = absurd (cc)
  row_resized write_staged is told = absurd (cc)
  row_resized (write_done commit) is told = absurd (cc)
  row_resized begin_done is told = absurd (cc)
  row_resized (commit_done commit) is told = absurd (cc)
  row_resized abort_done is told = absurd (cc)
  row_resized (resize_many many) is told = absurd (cc)
  row_resized (resize_split few split_is) is told = absurd (cc)
  row_resized (resize_damaged may damaged) is told = absurd (cc)
  row_resized (resize_failed n may on_mount) is told = absurd (cc)
  row_resized (resolve_done m low high is_made) is told = absurd (cc)
  row_resized (resolve_refused m low high refused) is told = absurd (cc)

  answer_resized : {asked : Asked} {names : Names} {left : Option Transaction} {answer : Body} {own : List Numbered} → IsAnswered fixed owner h s line asked names left answer own → asked ≡ Ok (resizes array shape) → answer ≡ body.resized number → WasResized fixed owner number own
  answer_resized refused_line is told = absurd (cc)
  answer_resized wanting is told = absurd (cc)
  answer_resized (done_line {act = act} row) is told = let same : act ≡ resizes array shape = cc in row_resized row same told

-- its line 4 is answered by no other
pub only_this_4 : (number : ℕ) → SessionStep joint 1 (first_events 6) (outside 4) 4 (line.resizing (codes "a") (3 ∷ [])) (outside 6) (body.resized number) → number ≡ 6
only_this_4 number step =
    let was = answer_resized (of_shape 4) (3 ∷ []) number step.row (resizes_to 3) refl in
    let at : 6 ≡ was.at + 1 = ap first_number was.added in
    was.told ∙ sym at

-- and its line 5
pub only_this_5 : (number : ℕ) → SessionStep joint 1 events (outside 6) 5 (line.resizing (codes "a") (4 ∷ [])) (outside 7) (body.resized number) → number ≡ 7
only_this_5 number step =
    let was = answer_resized (of_shape 4) (4 ∷ []) number step.row (resizes_to 4) refl in
    let at : 7 ≡ was.at + 1 = ap first_number was.added in
    was.told ∙ sym at

-- line 11: the commit that is made again tells the number of its event, and no other
told_by : {fixed : Fixed} {owner : ℕ} {h : History} {t : Transaction} {left : Option Transaction} {numbers : List ℕ} {own : List Numbered} → IsCommit fixed owner h t left (body.committed numbers) own → numbers ≡ numbers_of own
told_by (is_done n may undamaged) = refl

numbers_by : {fixed : Fixed} {owner line : ℕ} {h : History} {s : SessionState} {t : Transaction} {names : Names} {left : Option Transaction} {numbers : List ℕ} {own : List Numbered} → IsAnswered fixed owner h s line (Ok (commits t)) names left (body.committed numbers) own → numbers ≡ numbers_of own
numbers_by (done_line (commit_done row)) = told_by row

pub only_this_11 : (numbers : List ℕ) → SessionStep joint 0 failing (within 5 written9) 11 line.committing (outside 6) (body.committed numbers) → numbers ≡ 6 ∷ []
only_this_11 numbers step = numbers_by step.row

-- a write of its own over a store that changes each key alone tells both events
written_by : {fixed : Fixed} {owner : ℕ} {h : History} {t : Transaction} {left : Option Transaction} {inner : Body} {own : List Numbered} (many cells : ℕ) (numbers : List ℕ) → IsCommit fixed owner h t left inner own → as_written many inner ≡ body.written cells numbers → numbers ≡ numbers_of own
written_by {own = own} many cells numbers (is_done n may undamaged) told = let same : numbers_of own ≡ numbers = cc in sym same
written_by many cells numbers (conflicts conflict) told = absurd (cc)
written_by many cells numbers (is_shrunk free shrunk) told = absurd (cc)
written_by many cells numbers (is_split free present split_is) told = absurd (cc)
written_by many cells numbers (is_damaged may damage) told = absurd (cc)
written_by many cells numbers (is_failed n count mount part changed) told = absurd (cc)
written_by many cells numbers (is_wanting n count part) told = absurd (cc)

module _ {fixed : Fixed} {owner line : ℕ} {h : History} {s : SessionState} (view : View) (words : List ℕ) (cells : ℕ) (numbers : List ℕ) where
  row_written : {act : Act} {names : Names} {left : Option Transaction} {answer : Body} {own : List Numbered} → IsRow fixed owner h s line act names left answer own → act ≡ writes view words → answer ≡ body.written cells numbers → numbers ≡ numbers_of own
  row_written (write_done {words = ws} commit) is told = written_by (length ws) cells numbers commit told
  row_written (open_done opened built) is told = absurd (cc)
  row_written (open_refused opened refusal) is told = absurd (cc)
  row_written (open_unbuilt opened built) is told = absurd (cc)
  row_written (open_failed before opened failed) is told = absurd (cc)
  row_written (open_wanting opened) is told = absurd (cc)
  row_written view_done is told = absurd (cc)
  row_written (read_done read) is told = absurd (cc)
  row_written (read_shrunk shrunk) is told = absurd (cc)
  row_written (read_damaged damaged) is told = absurd (cc)
  row_written (read_failed before fetched) is told = absurd (cc)
  row_written write_staged is told = absurd (cc)
  row_written begin_done is told = absurd (cc)
  row_written (commit_done commit) is told = absurd (cc)
  row_written abort_done is told = absurd (cc)
  row_written (resize_done n may undamaged) is told = absurd (cc)
  row_written (resize_many many) is told = absurd (cc)
  row_written (resize_split few split_is) is told = absurd (cc)
  row_written (resize_damaged may damaged) is told = absurd (cc)
  row_written (resize_failed n may on_mount) is told = absurd (cc)
  row_written (resolve_done m low high is_made) is told = absurd (cc)
  row_written (resolve_refused m low high refused) is told = absurd (cc)

  answer_written : {asked : Asked} {names : Names} {left : Option Transaction} {answer : Body} {own : List Numbered} → IsAnswered fixed owner h s line asked names left answer own → asked ≡ Ok (writes view words) → answer ≡ body.written cells numbers → numbers ≡ numbers_of own
  answer_written refused_line is told = absurd (cc)
  answer_written wanting is told = absurd (cc)
  answer_written (done_line {act = act} row) is told = let same : act ≡ writes view words = cc in row_written row same told

pub only_these_5 : (numbers : List ℕ) → SessionStep split 0 by_key (outside 1) 5 (line.writing (codes "a") [] all_fives) (outside 3) (body.written 4 numbers) → numbers ≡ 2 ∷ 3 ∷ []
only_these_5 numbers step = answer_written whole fives 4 numbers step.row writes_fives refl

-- line 15: no other key is told, and no other resize
module _ {fixed : Fixed} {owner line : ℕ} {h : History} {s : SessionState} (view : View) (down : Option Downsampling) (key : Key) (now : ℕ) where
  row_shrunk : {act : Act} {names : Names} {left : Option Transaction} {answer : Body} {own : List Numbered} → IsRow fixed owner h s line act names left answer own → act ≡ reads view down → answer ≡ body.shrunk key now → IsShrunkBy h s.seen (reader line s.transaction) view key now
  row_shrunk (read_shrunk {view = v} {key = k} {now = n} shrunk) is told =
      let same_view : v ≡ view = cc in
      let same_key : k ≡ key = cc in
      let same_now : n ≡ now = cc in
      subst (λ m. IsShrunkBy h s.seen (reader line s.transaction) view key m) same_now (subst (λ l. IsShrunkBy h s.seen (reader line s.transaction) view l n) same_key (subst (λ w. IsShrunkBy h s.seen (reader line s.transaction) w k n) same_view shrunk))
  row_shrunk (open_done opened built) is told = absurd (cc)
  row_shrunk (open_refused opened refusal) is told = absurd (cc)
  row_shrunk (open_unbuilt opened built) is told = absurd (cc)
  row_shrunk (open_failed before opened failed) is told = absurd (cc)
  row_shrunk (open_wanting opened) is told = absurd (cc)
  row_shrunk view_done is told = absurd (cc)
  row_shrunk (read_done read) is told = absurd (cc)
  row_shrunk (read_damaged damaged) is told = absurd (cc)
  row_shrunk (read_failed before fetched) is told = absurd (cc)
  row_shrunk write_staged is told = absurd (cc)
  row_shrunk (write_done commit) is told = absurd (cc)
  row_shrunk begin_done is told = absurd (cc)
  row_shrunk (commit_done commit) is told = absurd (cc)
  row_shrunk abort_done is told = absurd (cc)
  row_shrunk (resize_done n may undamaged) is told = absurd (cc)
  row_shrunk (resize_many many) is told = absurd (cc)
  row_shrunk (resize_split few split_is) is told = absurd (cc)
  row_shrunk (resize_damaged may damaged) is told = absurd (cc)
  row_shrunk (resize_failed n may on_mount) is told = absurd (cc)
  row_shrunk (resolve_done m low high is_made) is told = absurd (cc)
  row_shrunk (resolve_refused m low high refused) is told = absurd (cc)

  answer_shrunk : {asked : Asked} {names : Names} {left : Option Transaction} {answer : Body} {own : List Numbered} → IsAnswered fixed owner h s line asked names left answer own → asked ≡ Ok (reads view down) → answer ≡ body.shrunk key now → IsShrunkBy h s.seen (reader line s.transaction) view key now
  answer_shrunk refused_line is told = absurd (cc)
  answer_shrunk wanting is told = absurd (cc)
  answer_shrunk (done_line {act = act} row) is told = let same : act ≡ reads view down = cc in row_shrunk row same told

abbrev reading_15 : Transaction
reading_15 = reader 15 None

-- where each chunk was read behind event 6, cell 3 alone was outside then
cells_15 : (marks : Marks) → mark_of marks (chunk 0) ≡ 6 → mark_of marks (chunk 1) ≡ 6 → cells_outside (first_events 6) marks reading_15 whole ≡ cell 3 ∷ []
cells_15 marks first second =
    let w = was_outside (first_events 6) marks in
    let w0 : w (cell 0) ≡ false = ap (λ m. not (is_present (take m (first_events 6)) (cell 0))) first in
    let w1 : w (cell 1) ≡ false = ap (λ m. not (is_present (take m (first_events 6)) (cell 1))) first in
    let w2 : w (cell 2) ≡ false = ap (λ m. not (is_present (take m (first_events 6)) (cell 2))) second in
    let w3 : w (cell 3) ≡ true = ap (λ m. not (is_present (take m (first_events 6)) (cell 3))) second in
    ap (filter w) unwritten_14 ∙ ap (λ b. cond b (cell 0 ∷ filter w (cell 1 ∷ cell 2 ∷ cell 3 ∷ [])) (filter w (cell 1 ∷ cell 2 ∷ cell 3 ∷ []))) w0 ∙ ap (λ b. cond b (cell 1 ∷ filter w (cell 2 ∷ cell 3 ∷ [])) (filter w (cell 2 ∷ cell 3 ∷ []))) w1
    ∙ ap (λ b. cond b (cell 2 ∷ filter w (cell 3 ∷ [])) (filter w (cell 3 ∷ []))) w2 ∙ ap (λ b. cond b (cell 3 ∷ []) []) w3

shrunk_only : (key : Key) (now : ℕ) → IsShrunkBy (first_events 6) 6 reading_15 whole key now → (key ≡ metadata) × (now ≡ 6)
shrunk_only key now shrunk =
    let marks : Marks = shrunk.marks in
    let out = shrunk.shrunk in
    let within_all : AllByRecursion (IsMarkWithin 6 6) marks = subst (AllByRecursion (IsMarkWithin 6 6)) (sym shrunk.marked.marked) shrunk.marked.within in
    let each = subst (AllByRecursion (λ x. IsTrue (has_mark marks (chunk_of (first_events 6) x)))) unwritten_14 shrunk.marked.each in
    let low = mark_between 6 6 marks (chunk 0) within_all each.0 in
    let high = mark_between 6 6 marks (chunk 1) within_all each.1.1.0 in
    let a = low.0 in
    let b = low.1 in
    let c = high.0 in
    let d = high.1 in
    let first : mark_of marks (chunk 0) ≡ 6 = omega (arith, a, b) in
    let second : mark_of marks (chunk 1) ≡ 6 = omega (arith, c, d) in
    let cells = cells_15 marks first second in
    let here : cell 3 ≡ out.cell = only_last out.cell (subst (λ xs. Contains xs out.cell) cells out.counts) in
    let named : Some metadata ≡ Some key = ap (metadata_key_at (first_events 6)) here ∙ out.named in
    let last : last_mark (first_events 6) marks 0 (cells_outside (first_events 6) marks reading_15 whole) ≡ 6 = ap (last_mark (first_events 6) marks 0) cells ∙ ap (max 0) second in
    let number : now ≡ resized_after (take (last_mark (first_events 6) marks 0 (cells_outside (first_events 6) marks reading_15 whole)) (first_events 6)) 0 =
    out.number ∙ ap (λ (x : Cell). resized_after (take (last_mark (first_events 6) marks x.array (cells_outside (first_events 6) marks reading_15 whole)) (first_events 6)) x.array) (sym here) in
    (sym (some_inj metadata key named), number ∙ ap (λ m. resized_after (take m (first_events 6)) 0) last)

pub only_this_15 : (key : Key) (now : ℕ) → SessionStep joint 0 (first_events 6) (outside 6) 15 (line.reading (codes "a") [] None) (outside 6) (body.shrunk key now) → (key ≡ metadata) × (now ≡ 6)
only_this_15 key now step = shrunk_only key now (answer_shrunk whole None key now step.row reads_all refl)

-- line 16: the name isn't bound to the view that it had, nor is that view refused
record WasResolved (h : History) (seen : ℕ) (view : View) (array : Reference) (answer : Body) : Type 0 where
  name : List ℕ
  at : ℕ
  low : seen ≤ at
  high : at ≤ length h
  made : View
  renews : renewed (shape_after (take at h) array.number) view ≡ Ok made
  told : resolved_body name made ≡ answer

module _ {fixed : Fixed} {owner line : ℕ} {h : History} {s : SessionState} (name : List ℕ) (view : View) (array : Reference) (dtype : Dtype) (transform : DomainAndMaps) where
  row_resolved : {act : Act} {names : Names} {left : Option Transaction} {answer : Body} {own : List Numbered} → IsRow fixed owner h s line act names left answer own → act ≡ resolves name view array → answer ≡ body.resolved name dtype transform → WasResolved h s.seen view array answer
  row_resolved (resolve_done {name = n} {view = v} {made = made} {array = a} m low high is_made) is told =
      let same_view : v ≡ view = cc in
      let same_array : a ≡ array = cc in
      record { name = n; at = m; low = low; high = high; made = made; renews = subst (λ w. renewed (shape_after (take m h) array.number) w ≡ Ok made) same_view (subst (λ (r : Reference). renewed (shape_after (take m h) r.number) v ≡ Ok made) same_array is_made); told = refl }
  row_resolved (open_done opened built) is told = absurd (cc)
  row_resolved (open_refused opened refusal) is told = absurd (cc)
  row_resolved (open_unbuilt opened built) is told = absurd (cc)
  row_resolved (open_failed before opened failed) is told = absurd (cc)
  row_resolved (open_wanting opened) is told = absurd (cc)
  row_resolved view_done is told = absurd (cc)
  row_resolved (read_done read) is told = absurd (cc)
  row_resolved (read_shrunk shrunk) is told = absurd (cc)
  row_resolved (read_damaged damaged) is told = absurd (cc)
  row_resolved (read_failed before fetched) is told = absurd (cc)
  row_resolved write_staged is told = absurd (cc)
  row_resolved (write_done commit) is told = absurd (cc)
  row_resolved begin_done is told = absurd (cc)
  row_resolved (commit_done commit) is told = absurd (cc)
  row_resolved abort_done is told = absurd (cc)
  row_resolved (resize_done n may undamaged) is told = absurd (cc)
  row_resolved (resize_many many) is told = absurd (cc)
  row_resolved (resize_split few split_is) is told = absurd (cc)
  row_resolved (resize_damaged may damaged) is told = absurd (cc)
  row_resolved (resize_failed n may on_mount) is told = absurd (cc)
  row_resolved (resolve_refused m low high refused) is told = absurd (cc)

  answer_resolved : {asked : Asked} {names : Names} {left : Option Transaction} {answer : Body} {own : List Numbered} → IsAnswered fixed owner h s line asked names left answer own → asked ≡ Ok (resolves name view array) → answer ≡ body.resolved name dtype transform
      → WasResolved h s.seen view array answer
  answer_resolved refused_line is told = absurd (cc)
  answer_resolved wanting is told = absurd (cc)
  answer_resolved (done_line {act = act} row) is told = let same : act ≡ resolves name view array = cc in row_resolved row same told

own_leaf : (array : Reference) (t : DomainAndMaps) → own_transform (Leaf array t) ≡ t
own_leaf array t = ap own_transform (sym (view.rolls-Leaf array t)) ∙ fold-roll-View DomainAndMaps own_transform_step (View-F.Leaf array t)

abbrev last_index : List Bounds → ℤ
last_index [] = pos 0
last_index (d ∷ dims) = d.hi

two_is_three : pos 2 ≡ pos 3 → ⊥
two_is_three e = cc

pub not_whole_16 : (next : Names) → SessionStep joint 0 (first_events 6) (outside 6) 16 (line.resolving (codes "a")) (record { names = next; seen = 6; transaction = None }) (resolved_body (codes "a") whole) → ⊥
not_whole_16 next step =
    let was = answer_resolved (codes "a") whole (of_shape 4) _ _ step.row resolves_whole refl in
    let a = was.low in
    let b = was.high in
    let at : was.at ≡ 6 = omega (arith, a, b) in
    let made : Ok was.made ≡ Ok three = sym was.renews ∙ ap (λ m. renewed (shape_after (take m (first_events 6)) 0) whole) at ∙ renewed_whole in
    let view : was.made ≡ three = cc in
    let told = was.told in
    let same : own_transform was.made ≡ own_transform whole = cc in
    let bounds : first_cells 2 ≡ first_cells 3 = sym (own_leaf (of_shape 3) (first_cells 2)) ∙ ap own_transform (sym view) ∙ same ∙ own_leaf (of_shape 4) (first_cells 3) in
    two_is_three (ap (λ (t : DomainAndMaps). last_index t.domain.dims) bounds)
