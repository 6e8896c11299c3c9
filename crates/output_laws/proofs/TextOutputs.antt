-- The answers of an output read back, where its lines' texts are UTF-8 and what their parts make is small.
use Rattle.std.proofs.Common.{◌≡◌, ℕ, ◌+◌, ◌<◌, ◌≤◌, ◌^◌, List, [], ◌∷◌, length, map, take, drop, Bool, true, false, cond, Option, Some, None, Ok, refl, sym, ap, subst, arith, eq-eqb, eqb-true, length-append}
use Rattle.std.specs.Prelude.{◌==◌}
use Rattle.std.specs.FinMap as finmap
use Rattle.std.specs.List.{AllByRecursion, join_with_byte}
use Rattle.stack_driver.specs.Views.{look_of}
use Rattle.stack_driver.specs.declared.view.View.{View}
use Rattle.script_lines.specs.Script.{lines_of, is_blank}
use Rattle.script_lines.proofs.LineLaws.{join_with_byte-lines_of}
use Rattle.history.specs.declared.event.Event.{Event}
use Rattle.history.specs.Acts.{Act, Asked, opens, reads, commits, aborts, begins, outside, inside, changed, write_act, read_of, write_of, act_of}
use Rattle.history.specs.Alone.{single_store}
use Rattle.history.specs.Answers.{Answer}
use Rattle.history.specs.Commit.{Transaction}
use Rattle.history.specs.History.{History}
use Rattle.history.specs.Legal.{IsLegal}
use Rattle.history.specs.Lines.{Line, refused, opening, viewing, joining, reading, writing, beginning, committing, aborting, resizing, resolving}
use Rattle.history.specs.Own.{own_events}
use Rattle.history.specs.Sessions.{Names, SessionState}
use Rattle.history.specs.Staged.{FitsInLine}
use Rattle.history.specs.Steps.{IsSessionRun, no_line, blank_line, next_line, last_line}
use Rattle.history.specs.Viewing.{shape_of, view_fault, cell_fault}
use Rattle.history.proofs.Asking.{IsAskedBy, named_by, changes_by, without_by, values_by}
use Rattle.transcript_laws.specs.Bodies.{answer_of}
use Rattle.transcript_laws.specs.Meanings.{line_of_bytes, asked_line}
use Rattle.transcript_laws.specs.Outputs.{scripts_of, ArePrintable, AreFew, HaveWords, IsOutput}
use Rattle.transcript_laws.specs.Printable.{IsPrintable}
use Rattle.transcript_laws.specs.Transcript.{mount}
use Rattle.transcript_laws.proofs.Checked.{IsCheckedLine, AreCheckedLines, all_checked}
use Rattle.transcript_laws.proofs.Numbered.{all_serial}
use Rattle.transcript_laws.proofs.Runs.{HaveRunAll, AreAnswersTo, run_answers, all_run}
use Rattle.transcript_laws.proofs.Views.{bytes_fit}
use Rattle.transcript_laws.proofs.Words.{outputs_have_words}
use Rattle.output_laws.specs.Flat.{IsFlat, AreFlat}
use Rattle.output_laws.specs.Parts.{IsSmallBody}
use Rattle.output_laws.proofs.FlatOutputs.{Lines, AreRankLines, all_ranks, outputs_are_flat}
use Rattle.output_laws.proofs.Printed.{AreCounted, logs_counted}
use Rattle.output_laws.proofs.SmallBodies.{small_printable}
use Rattle.output_laws.proofs.SmallLines.{IsSmallLine}
use Rattle.output_laws.proofs.SmallOutputs.{AreSmallLines, run_small}
use Rattle.output_laws.proofs.TextEvents.{AreTextEvents, AreTextOwn, IsTextAct, answered_text, own_parts, all_text, both_text}

-- ---- the events of sessions

outside_text : (t : Option Transaction) (asked : Asked) → IsAskedBy IsTextAct asked → IsAskedBy IsTextAct (outside t asked)
outside_text None asked is = is
outside_text (Some u) asked is = tt

inside_text : (t : Option Transaction) (act : Transaction → Act) → ((u : Transaction) → IsTextAct (act u)) → IsAskedBy IsTextAct (inside t act)
inside_text None act is = tt
inside_text (Some u) act is = is u

write_text : (t : Option Transaction) (v : View) (words : List ℕ) → IsTextAct (write_act t v words)
write_text None v words = tt
write_text (Some u) v words = tt

-- what a line asks to be opened lies at texts of UTF-8
text_act : (names : Names) (t : Option Transaction) (line : Line) → IsCheckedLine line → IsSmallLine line → IsAskedBy IsTextAct (act_of names t line)
text_act names t (refused error) checked is = tt
text_act names t (opening name leaves build) checked is = outside_text t (Ok (opens name leaves build)) is.1
text_act names t (viewing name of changes) checked is = named_by IsTextAct of (names of) _ (λ v there. changes_by IsTextAct (changed (Ok v) changes) _ (λ made of_these. tt))
text_act names t (joining name of join changes) checked is = absurd checked
text_act names t (reading name changes None) checked is =
    named_by IsTextAct name (names name) _
    (λ v there. changes_by IsTextAct (changed (Ok v) changes) (read_of None) (λ w of_these. without_by IsTextAct (view_fault w) _ (λ fits. without_by IsTextAct (cell_fault w) (Ok (reads w None)) (λ found. tt))))
text_act names t (reading name changes (Some down)) checked is = absurd (cc)
text_act names t (writing name changes values) checked is =
    named_by IsTextAct name (names name) _
    (λ v there. changes_by IsTextAct (changed (Ok v) changes) (write_of t values)
    (λ w of_these. without_by IsTextAct (view_fault w) _ (λ fits. values_by IsTextAct (values (look_of w).dtype (shape_of w)) _ (λ words given. without_by IsTextAct (cell_fault w) (Ok (write_act t w words)) (λ found. write_text t w words)))))
text_act names t (beginning mode) checked is = outside_text t (Ok (begins mode)) tt
text_act names t committing checked is = inside_text t commits (λ u. tt)
text_act names t aborting checked is = inside_text t (λ u. aborts) (λ u. tt)
text_act names t (resizing name shape) checked is = absurd checked
text_act names t (resolving name) checked is = absurd checked

-- a session opens arrays at such texts alone
own_text : (owner : ℕ) (history : History) {s last : SessionState} {n : ℕ} {lines : Lines} {log : List Answer} → AreCheckedLines lines → AreSmallLines lines → IsSessionRun (single_store mount) owner history s n lines log last
    → own_events owner (last.seen + 1) (drop last.seen history) ≡ [] → AreTextOwn (own_events owner (s.seen + 1) (drop s.seen history))
own_text owner history checked small no_line none = subst (AreTextOwn) (sym none) tt
own_text owner history checked small (blank_line rest) none = own_text owner history checked.1 small rest none
own_text owner history checked small (next_line {s} {m} {last} {line} {asked} {answer} step goes_on rest) none =
    subst (AreTextOwn) (sym (own_parts owner history s.seen m.seen step.rises step.within))
    (both_text (own_events owner (s.seen + 1) (drop s.seen (take m.seen history))) (own_events owner (m.seen + 1) (drop m.seen history))
    (answered_text (single_store mount) owner (take m.seen history) s line (act_of s.names s.transaction asked) m.names m.transaction answer _ (text_act s.names s.transaction asked checked.0 small.0) step.row)
    (own_text owner history checked.1 small.1 rest none))
own_text owner history checked small (last_line {s} {last} {line} {asked} step) none =
    subst (AreTextOwn) (sym (own_parts owner history s.seen last.seen step.rises step.within))
    (both_text (own_events owner (s.seen + 1) (drop s.seen (take last.seen history))) (own_events owner (last.seen + 1) (drop last.seen history))
    (answered_text (single_store mount) owner (take last.seen history) s line (act_of s.names s.transaction asked) last.names last.transaction _ _ (text_act s.names s.transaction asked checked.0 small.0) step.row)
    (subst (AreTextOwn) (sym none) tt))

module _ (history : History) where
  each_text : (k session : ℕ) (scripts : List Lines) (logs : List (List Answer)) → AllByRecursion AreCheckedLines scripts → AllByRecursion AreSmallLines scripts → HaveRunAll (single_store mount) history session scripts logs → session ≤ k → k < session + length scripts
      → AreTextOwn (own_events k 1 history)
  each_text k session [] logs checked small ran low high = absurd (omega (arith, low, high))
  each_text k session (script ∷ scripts) [] checked small ran low high = absurd ran
  each_text k session (script ∷ scripts) (log ∷ logs) checked small ran low high = by_session (session == k) refl (each_text k (session + 1) scripts logs checked.1 small.1 ran.1)
    where
      by_session : (b : Bool) → (session == k) ≡ b → (session + 1 ≤ k → k < session + 1 + length scripts → AreTextOwn (own_events k 1 history)) → AreTextOwn (own_events k 1 history)
      by_session true is more = subst (λ j. AreTextOwn (own_events j 1 history)) (eqb-true session k is) (own_text session history checked.0 small.0 ran.0.run ran.0.no_more)
      by_session false is more =
          let other : session ≡ k → ⊥ = λ same. (let yes_is = eq-eqb session k same in absurd (cc)) in
          more (omega (arith, low, other)) (omega (arith, high))

  -- so do all
  events_text : (scripts : List Lines) (logs : List (List Answer)) → AllByRecursion (λ (e : Event). e.owner < length scripts) history → AllByRecursion AreCheckedLines scripts → AllByRecursion AreSmallLines scripts → HaveRunAll (single_store mount) history 0 scripts logs → AreTextEvents history
  events_text scripts logs owned checked small ran = all_text (length scripts) 1 history owned (λ k low. each_text k 0 scripts logs checked small ran (omega arith) (omega (arith, low)))

-- ---- numbers of lines

-- the bytes of lines, each with an LF
abbrev pub size_of_lines : List (List ℕ) → ℕ
size_of_lines [] = 0
size_of_lines (line ∷ lines) = length line + 1 + size_of_lines lines

joined_size : (lines : List (List ℕ)) → size_of_lines lines ≤ length (join_with_byte 10 lines) + 1
joined_size [] = omega arith
joined_size (x ∷ []) = omega arith
joined_size (x ∷ y ∷ lines) =
    let more = joined_size (y ∷ lines) in
    let whole = length-append x (10 ∷ join_with_byte 10 (y ∷ lines)) in
    omega (arith, more, whole)

abbrev asked_lines : List (List ℕ) → Lines
asked_lines lines = map (asked_line (mount ∷ [])) lines

-- a line that isn't blank has a byte, so its number is at most that of all bytes
numbers_low : (most n : ℕ) (lines : List (List ℕ)) (log : List Answer) → n + size_of_lines lines ≤ most + 2 → AreAnswersTo n (asked_lines lines) log → AllByRecursion (λ (a : Answer). a.line ≤ most) log
numbers_low most n [] [] low are = tt
numbers_low most n [] (a ∷ log) low are = absurd are
numbers_low most n ([] ∷ lines) log low are = numbers_low most (n + 1) lines log (omega (arith, low)) are
numbers_low most n ((b ∷ bs) ∷ lines) log low are = by (is_blank (b ∷ bs)) log (λ more then. numbers_low most (n + 1) lines more (omega (arith, low)) then) are
  where
    by : (t : Bool) (log : List Answer) → ((more : List Answer) → AreAnswersTo (n + 1) (asked_lines lines) more → AllByRecursion (λ (a : Answer). a.line ≤ most) more)
        → AreAnswersTo n (cond t None (Some (line_of_bytes (mount ∷ []) (b ∷ bs))) ∷ asked_lines lines) log → AllByRecursion (λ (a : Answer). a.line ≤ most) log
    by true log rest are = rest log are
    by false [] rest are = absurd are
    by false (a ∷ log) rest are = let same = are.0 in (omega (arith, low, same), rest log are.1)

pub script_size : (script : List ℕ) → size_of_lines (lines_of script) ≤ length script + 1
script_size script =
    let size = joined_size (lines_of script) in
    let whole : length (join_with_byte 10 (lines_of script)) ≡ length script = ap length (join_with_byte-lines_of script) in
    omega (arith, size, whole)

script_numbers : (script : List ℕ) (log : List Answer) → AreAnswersTo 1 (asked_lines (lines_of script)) log → AllByRecursion (λ (a : Answer). a.line ≤ length script) log
script_numbers script log are = let size = script_size script in numbers_low (length script) 1 (lines_of script) log (omega (arith, size)) are

-- ---- outputs

script_fits : (lines : List (List ℕ)) → AllByRecursion FitsInLine (asked_lines lines)
script_fits [] = tt
script_fits (bytes ∷ lines) = (by (is_blank bytes), script_fits lines)
  where
    by : (b : Bool) → FitsInLine (cond b None (Some (line_of_bytes (mount ∷ []) bytes)))
    by true = tt
    by false = bytes_fit bytes

log_printable : (most : ℕ) (log : List Answer) → most < 2 ^ 64 → AllByRecursion (λ (a : Answer). a.line ≤ most) log → AllByRecursion (λ (a : Answer). IsFlat a.body) log → AllByRecursion (λ (a : Answer). IsSmallBody a.body) log → AllByRecursion (λ (a : Answer). IsPrintable (answer_of a)) log
log_printable most [] few low flat small = tt
log_printable most (a ∷ log) few low flat small = (let number = low.0 in small_printable a (omega (arith, number, few)) flat.0 small.0, log_printable most log few low.1 flat.1 small.1)

module _ (history : History) (legal : IsLegal finmap.empty history) (texts : AreTextEvents history) (few : length history < 2 ^ 64) where
  logs_printable : (session : ℕ) (scripts : List (List ℕ)) (logs : List (List Answer)) → AllByRecursion (λ (script : List ℕ). length script < 2 ^ 64) scripts → AllByRecursion AreCheckedLines (scripts_of scripts) → AllByRecursion AreRankLines (scripts_of scripts) → AllByRecursion AreSmallLines (scripts_of scripts)
      → AreFlat logs → AllByRecursion AreCounted logs → HaveWords logs → HaveRunAll (single_store mount) history session (scripts_of scripts) logs → ArePrintable logs
  logs_printable session [] [] bytes checked ranked small flat counted words ran = tt
  logs_printable session [] (log ∷ logs) bytes checked ranked small flat counted words ran = absurd ran
  logs_printable session (script ∷ scripts) [] bytes checked ranked small flat counted words ran = absurd ran
  logs_printable session (script ∷ scripts) (log ∷ logs) bytes checked ranked small flat counted words ran =
      let run = ran.0 in
      let parts = run_small session history legal texts few checked.0 ranked.0 (script_fits (lines_of script)) small.0 (λ name view at. absurd (cc)) (λ name view at. absurd (cc)) run.none counted.0 words.0 run.run in
      (log_printable (length script) log bytes.0 (script_numbers script log (run_answers (single_store mount) session history run.none run.run)) flat.0 parts, logs_printable (session + 1) scripts logs bytes.1 checked.1 ranked.1 small.1 flat.1 counted.1 words.1 ran.1)

-- answers of an output read back, where there are few events and bytes, and its lines are small
pub small_lines_printable : (scripts : List (List ℕ)) (history : History) (logs : List (List Answer)) → IsOutput scripts history logs → AreFew scripts history → AllByRecursion AreSmallLines (scripts_of scripts) → ArePrintable logs
small_lines_printable scripts history logs is few small =
    let asked = scripts_of scripts in
    let ran = all_run (single_store mount) history asked logs is.sessions is.whole is.memory in
    let checked = all_checked scripts is.checked in
    let texts = events_text history asked logs is.sessions.owners checked small ran in
    logs_printable history is.legal texts few.events 0 scripts logs few.bytes checked (all_ranks scripts) small (outputs_are_flat scripts history logs is)
    (logs_counted (single_store mount) history 0 asked logs ran checked (all_serial scripts history logs is)) (outputs_have_words scripts history logs is) ran
