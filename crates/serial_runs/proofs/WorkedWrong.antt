-- A log in which a read under repeatable read prints another session's later cell isn't one of serial transactions, though a history goes
-- with it.
use Rattle.std.proofs.Common.{◌≡◌, ℕ, zero, pos, List, [], ◌∷◌, ◌++◌, length, map, take, codes, Bool, true, false, cond, Option, Some, None, Result, Ok, Err, inl, inr, refl, sym, ap, subst, ◌∙◌, arith, lit≤}
use Rattle.std.specs.Prelude.{option_map, ◌==◌, fold}
use Rattle.std.specs.List.{AllByRecursion}
use Rattle.std.specs.FinMap as finmap
use Rattle.std.specs.Fmt.{digits}
use Rattle.std.proofs.Math.Seq.{take-append_seam}
use Rattle.kv_face.specs.Store.{Contents}
use Rattle.history.specs.Words.{is_inside}
use Rattle.stack_driver.proofs.Laws.{look-Leaf}
use Rattle.stack_driver.proofs.Looks.{targets_by}
use Rattle.stack_driver.specs.References.{Reference}
use Rattle.stack_driver.specs.Targets.{outwards, in_shape}
use Rattle.stack_driver.specs.Views.{leaf_target, targets_of}
use Rattle.stack_driver.specs.declared.view.View.{View}
use Rattle.stack_driver.specs.declared.view.View.TheVariants.{Leaf}
use Rattle.history.specs.declared.event.Op.TheVariants.{Read}
use Rattle.history.specs.History.{History}
use Rattle.history.specs.Arrays.{Known}
use Rattle.history.specs.Acts.{reads, without}
use Rattle.history.specs.Answers as body
use Rattle.history.specs.Answers.{Answer, Body}
use Rattle.history.specs.Commit.{Transaction, done, kept_ops}
use Rattle.history.specs.Lines.{stored, reading, beginning, committing}
use Rattle.history.specs.Plain.{plain_after}
use Rattle.history.specs.Sessions.{Names, bind, new_transaction}
use Rattle.history.specs.Viewing.{view_fault, cell_fault, opened_body, values_body}
use Rattle.history.specs.Worked.{one_cell, at, repeatable, event1, array, chunk, cell, first_key}
use Rattle.history.specs.Writes.{shown_in, read_values, put}
use Rattle.history.proofs.Known.{some_inj}
use Rattle.serial_runs.specs.Attempts.{Attempt, is_ok, AreShown, next, IsShown}
use Rattle.serial_runs.specs.Runs.{IsWholeLog}
use Rattle.serial_runs.specs.Held.{IsStoredChunk, padded_word, IsHeld, HoldsArrays}
use Rattle.serial_runs.specs.Ends.{IsSerialCommit, IsEnd}
use Rattle.serial_runs.specs.Serial.{IsSerialSession, IsSerial}
use Rattle.serial_runs.specs.Worked.{asked_leaf, cell_1, reads_cell, scripts, log_of, second_log, wrong_events, writes_cell, events, commit_of}
use Rattle.serial_runs.proofs.Worked.{puts_7}
use Rattle.serial_runs.proofs.Refused.{IsFaultBody, fault_refused, cell_refused}
use Rattle.serial_runs.proofs.Told.{next_shown, open_told, begin_told, ReadTold, read_told, commit_told, refusal_told, words_in}

-- what is built is the view of cell 1 of some array
record IsCell1 (v : View) : Type 0 where
  known : Reference
  same : Leaf known (one_cell 1) ≡ v

is_cell_1 : (refs : List Reference) (v : View) → cell_1 refs ≡ Ok v → IsCell1 v
is_cell_1 [] v is = absurd (cc)
is_cell_1 (r ∷ rs) v is = record { known = r; same = cc }

-- behind event 1 no cell of any array is 7
never_there : (b c : Bool) → cond b (cond c (Some zero) None) None ≡ Some 7 → ⊥
never_there true true is = absurd (cc)
never_there true false is = absurd (cc)
never_there false c is = absurd (cc)

never_out : (b c : Bool) → option_map (outwards []) (cond b (cond c (Some zero) None) None) ≡ Some 7 → ⊥
never_out true true is = absurd (cc)
never_out true false is = absurd (cc)
never_out false c is = absurd (cc)

never_shown : (r : Reference) (place : Result (List ℕ) ℕ) → shown_in (plain_after (event1 ∷ [])).words (leaf_target r place) ≡ Some 7 → ⊥
never_shown r (Ok index) is = never_out (0 == r.number) (is_inside (4 ∷ []) index) is
never_shown r (Err dim) is = absurd (cc)

never_read : (r : Reference) → map Some (7 ∷ []) ≡ read_values (plain_after (event1 ∷ [])).words (Leaf r (one_cell 1)) → ⊥
never_read r is =
    let place = in_shape 0 (pos 1 ∷ []) r.shape in
    let targets : targets_of (Leaf r (one_cell 1)) ≡ leaf_target r place ∷ [] = targets_by (Leaf r (one_cell 1)) _ (look-Leaf r (one_cell 1)) in
    let same : Some 7 ∷ [] ≡ shown_in (plain_after (event1 ∷ [])).words (leaf_target r place) ∷ [] = is ∙ ap (map (shown_in (plain_after (event1 ∷ [])).words)) targets in
    let first : Some 7 ≡ shown_in (plain_after (event1 ∷ [])).words (leaf_target r place) = cc in
    never_shown r place (sym first)

abbrev AreRight : List Attempt → Type 0
AreRight attempts = AllByRecursion (λ (a : Attempt). IsEnd wrong_events 0 a.transaction a.answer) attempts

module _ (r : Reference) where
  abbrev v : View
  v = Leaf r (one_cell 1)

  abbrev named : Names
  named = bind (λ name. None) (codes "c") v

  abbrev having_read : List ℕ → Transaction
  having_read words = record { line = 2; mode = repeatable; ops = Read v words ∷ []; marks = [] }

  wrong_commit : (words : List ℕ) → words ≡ 7 ∷ [] → IsSerialCommit wrong_events 0 (having_read words) (2 ∷ []) → ⊥
  wrong_commit words seven is =
      let before : History = is.event.before in
      let number : 2 ≡ is.number = cc in
      let counted = is.event.numbered in
      let size : length before ≡ 1 = omega (arith, number, counted) in
      let one : before ≡ event1 ∷ [] = sym (take-append_seam before (done 0 (having_read words) (kept_ops (having_read words)) None ∷ is.event.later)) ∙ ap (take (length before)) (sym is.event.parts) ∙ ap (λ k. take k wrong_events) size in
      never_read r (ap (map Some) (sym seven) ∙ is.reads.0 ∙ ap (λ h. read_values (plain_after h).words v) one)

  behind_read : (words : List ℕ) (attempts : List Attempt) → words ≡ 7 ∷ [] → AreShown wrong_events 0 named (Some (having_read words)) 4 (Some committing ∷ []) (record { line = 4; body = body.committed (2 ∷ []) } ∷ []) attempts → AreRight attempts → ⊥
  behind_read words attempts seven shown right =
      let n = next_shown shown in
      let tried = commit_told wrong_events 0 named (Some (having_read words)) 4 _ _ n.later n.left n.first (having_read words) refl refl n.shows in
      let all : AreRight (record { transaction = having_read words; answer = body.committed (2 ∷ []) } ∷ n.more) = subst AreRight (n.parts ∙ ap (λ l. l ++ n.more) tried) right in
      wrong_commit words seven all.0

  -- a read that prints is no refusal
  prints : (f g : Option Body) (t : Option Transaction) (answer : Body) (later : Names) (u : Option Transaction) (attempts : List Attempt) → IsFaultBody f → IsFaultBody g → is_ok answer ≡ true
      → IsShown wrong_events 0 named t 3 (without f (without g (Ok (reads v None)))) answer later u attempts → ReadTold named later t u v None answer attempts
  prints None None t answer later u attempts sound other ok shows = read_told wrong_events 0 named t 3 _ answer later u attempts v None refl ok shows
  prints None (Some b) t answer later u attempts sound other ok shows = absurd (refusal_told wrong_events 0 named t 3 _ answer later u attempts b refl other.no_ok ok shows)
  prints (Some b) g t answer later u attempts sound other ok shows = absurd (refusal_told wrong_events 0 named t 3 _ answer later u attempts b refl sound.no_ok ok shows)

  behind_begin : (attempts : List Attempt) → AreShown wrong_events 0 named (Some (new_transaction 2 repeatable)) 3 (Some (reading (codes "c") [] None) ∷ Some committing ∷ []) (record { line = 3; body = values_body (at 1) None (7 ∷ []) } ∷ record { line = 4; body = body.committed (2 ∷ []) } ∷ []) attempts
      → AreRight attempts → ⊥
  behind_begin attempts shown right =
      let n = next_shown shown in
      let done_so = prints (view_fault v) (cell_fault v) (Some (new_transaction 2 repeatable)) _ n.later n.left n.first (fault_refused v) (cell_refused v) refl n.shows in
      let words_are : ◌≡◌ {A = Body} (values_body (at 1) None (7 ∷ [])) (values_body v None done_so.words) = done_so.prints in
      let words : done_so.words ≡ 7 ∷ [] = sym (ap words_in words_are) in
      let rest = subst (λ u. AreShown wrong_events 0 named u 4 (Some committing ∷ []) (record { line = 4; body = body.committed (2 ∷ []) } ∷ []) n.more) done_so.left_is
      (subst (λ (names : Names). AreShown wrong_events 0 names n.left 4 (Some committing ∷ []) (record { line = 4; body = body.committed (2 ∷ []) } ∷ []) n.more) done_so.names_are n.rest) in
      behind_read done_so.words n.more words rest (subst AreRight (n.parts ∙ ap (λ l. l ++ n.more) done_so.none) right)

  behind_open : (attempts : List Attempt) → AreShown wrong_events 0 named None 2 (Some (beginning repeatable) ∷ Some (reading (codes "c") [] None) ∷ Some committing ∷ [])
      (record { line = 2; body = body.begun } ∷ record { line = 3; body = values_body (at 1) None (7 ∷ []) } ∷ record { line = 4; body = body.committed (2 ∷ []) } ∷ []) attempts → AreRight attempts → ⊥
  behind_open attempts shown right =
      let n = next_shown shown in
      let begun_so = begin_told wrong_events 0 named None 2 _ _ n.later n.left n.first repeatable refl refl n.shows in
      let rest = subst (λ u. AreShown wrong_events 0 named u 3 (Some (reading (codes "c") [] None) ∷ Some committing ∷ []) (record { line = 3; body = values_body (at 1) None (7 ∷ []) } ∷ record { line = 4; body = body.committed (2 ∷ []) } ∷ []) n.more) begun_so.left_is
      (subst (λ (names : Names). AreShown wrong_events 0 names n.left 3 (Some (reading (codes "c") [] None) ∷ Some committing ∷ []) (record { line = 3; body = values_body (at 1) None (7 ∷ []) } ∷ record { line = 4; body = body.committed (2 ∷ []) } ∷ []) n.more) begun_so.names_are n.rest) in
      behind_begin n.more rest (subst AreRight (n.parts ∙ ap (λ l. l ++ n.more) begun_so.none) right)

-- the first session can't have printed 7
wrong_session : IsSerialSession wrong_events 0 reads_cell (log_of 7) → ⊥
wrong_session s =
    let n = next_shown s.shown in
    let o = open_told wrong_events 0 (λ name. None) None 1 _ _ n.later n.left n.first (codes "c") (stored [] asked_leaf ∷ []) cell_1 refl refl n.shows in
    let c = is_cell_1 o.refs o.view o.built in
    let names_are : n.later ≡ bind (λ name. None) (codes "c") (Leaf c.known (one_cell 1)) = o.names_are ∙ ap (bind (λ name. None) (codes "c")) (sym c.same) in
    let rest = subst (λ u. AreShown wrong_events 0 (bind (λ name. None) (codes "c") (Leaf c.known (one_cell 1))) u 2 (Some (beginning repeatable) ∷ Some (reading (codes "c") [] None) ∷ Some committing ∷ []) (record { line = 2; body = body.begun } ∷ record { line = 3; body = values_body (at 1) None (7 ∷ []) } ∷ record { line = 4; body = body.committed (2 ∷ []) } ∷ []) n.more) o.left_is
    (subst (λ (names : Names). AreShown wrong_events 0 names n.left 2 (Some (beginning repeatable) ∷ Some (reading (codes "c") [] None) ∷ Some committing ∷ []) (record { line = 2; body = body.begun } ∷ record { line = 3; body = values_body (at 1) None (7 ∷ []) } ∷ record { line = 4; body = body.committed (2 ∷ []) } ∷ []) n.more) names_are n.rest) in
    behind_open c.known n.more rest (subst AreRight (n.parts ∙ ap (λ l. l ++ n.more) o.none) s.ends)

-- so no store makes this a run of serial transactions
pub wrong : (store : Contents) → ¬ IsSerial scripts wrong_events (log_of 7 ∷ second_log ∷ []) store
wrong store serial = wrong_session (serial.sessions 0 reads_cell (log_of 7) refl refl)

-- nor can the second session print another event's number, or none for its write
pub other_number : IsSerialSession events 1 writes_cell (record { line = 1; body = opened_body (codes "c") (at 1) [] } ∷ record { line = 2; body = body.written 1 (2 ∷ []) } ∷ []) → ⊥
other_number s = let printed : ◌≡◌ {A = List ℕ} (2 ∷ []) (3 ∷ []) = s.printed in absurd (cc)

pub no_number : IsSerialSession events 1 writes_cell (record { line = 1; body = opened_body (codes "c") (at 1) [] } ∷ []) → ⊥
no_number s = let printed : ◌≡◌ {A = List ℕ} [] (3 ∷ []) = s.printed in absurd (cc)

-- or print the first session's new array as its own
pub other_opening : IsSerialSession events 1 writes_cell (record { line = 1; body = opened_body (codes "c") (at 1) (1 ∷ []) } ∷ record { line = 2; body = body.written 1 (3 ∷ []) } ∷ []) → ⊥
other_opening s = let opened : ◌≡◌ {A = List ℕ} (1 ∷ s.unprinted) [] = s.opened in absurd (cc)

-- or say that the store can't make its change together
pub blames_it : IsSerialSession events 1 writes_cell (record { line = 1; body = opened_body (codes "c") (at 1) [] } ∷ record { line = 2; body = body.not_atomic 2 } ∷ []) → ⊥
blames_it s = let sound : true ≡ false = s.sound.1.0 in absurd (cc)

-- nor is a log whole that leaves a line unanswered, and none goes on behind want of memory
pub no_answer : ¬ IsWholeLog writes_cell (record { line = 1; body = opened_body (codes "c") (at 1) [] } ∷ [])
no_answer (inl same) = let clash : ◌≡◌ {A = ℕ} 1 2 = same in absurd (cc)
no_answer (inr memory) = let clash : false ≡ true = memory in absurd (cc)

pub goes_on : (attempts : List Attempt) → ¬ AreShown events 1 (λ name. None) None 1 writes_cell (record { line = 1; body = body.memory } ∷ record { line = 2; body = body.written 1 (3 ∷ []) } ∷ []) attempts
goes_on attempts (next shows ends rest) = let clash : true ≡ false = ends in absurd (cc)

-- and a store that lacks the chunk doesn't hold the arrays: its cell 1 is 7, and not the fill
known_then : Known
known_then = record { info = array; opened = 1; shape = 4 ∷ [] }

word_7 : (plain_after events).words (cell 1) ≡ Some 7
word_7 = ap (λ puts. fold put (plain_after (event1 ∷ commit_of 0 ∷ [])).words puts (cell 1)) puts_7

never_both : (word : Option ℕ) → word ≡ Some 7 → word ≡ Some 0 → ⊥
never_both word one other = let clash : ◌≡◌ {A = ℕ} 7 0 = some_inj 7 0 (sym one ∙ other) in absurd (cc)

pub lost_chunk : (store : Contents) → finmap.get store first_key ≡ None → ¬ HoldsArrays store events
unfolding digits known_then
lost_chunk store lacks holds =
    let there : IsStoredChunk events known_then (chunk 0) first_key = record { known = refl; stored = refl; valid = record { rank = refl; starts = (lit≤ tt, tt); whole = tt }; named = refl } in
    let held : IsHeld events known_then (chunk 0) None = subst (IsHeld events known_then (chunk 0)) lacks (holds.chunks (chunk 0) known_then first_key there) in
    let fill : padded_word events known_then (cell 1) ≡ Some 0 = held (1 ∷ []) (lit≤ tt, tt) in
    never_both (padded_word events known_then (cell 1)) word_7 fill
