-- Each conflict that a log tells is with another session, whatever the stores tell.
use Rattle.std.proofs.Common.{◌≡◌, ◌∙◌, ℕ, List, [], ◌∷◌, ◌++◌, map, Option, Some, None, refl, sym, ap, subst, append_assoc}
use Rattle.std.specs.FinMap as finmap
use Rattle.std.specs.List.{AllByRecursion}
use Rattle.std.proofs.lemmas.List.{map-append}
use mathlib.Core.List.{IsPrefix}
use Rattle.answer_text.specs.declared.answer.Answer.{Answer}
use Rattle.answer_text.specs.declared.answer.Body.{Body}
use Rattle.answer_text.specs.declared.answer.Body.TheVariants.{Conflict}
use Rattle.history.specs.Arrays.{Known, known_after, form_of}
use Rattle.history.specs.Chunks.{Chunk, home_text, key_in, key_of}
use Rattle.history.specs.Commit.{Key}
use Rattle.history.specs.History.{History}
use Rattle.history.specs.Legal.{IsLegal}
use Rattle.history.specs.Names.{chunk_name}
use Rattle.history.proofs.Laws as laws
use Rattle.history.proofs.Laws.{as_opened, known-longer, none_is_none, opened_itself}
use Rattle.history.proofs.Longer.{IsOpenedAs}
use Rattle.serial_runs.specs.Foreign.{IsForeignConflict}
use Rattle.session_runs.proofs.Laws.{IsForeignSeen, caused_foreign}
use Rattle.session_workers.specs.Foreign.{IsForeignAnswer}
use Rattle.session_workers.specs.Workers.{IsSessionLog}
use Rattle.state_laws.specs.Agreement.{Opening}
use Rattle.state_laws.specs.Outline.{outline, outlined_event}
use Rattle.state_laws.proofs.Laws.{known-outline}
use Rattle.session_runs.specs.Answers.{fixed_by}
use Rattle.turn_book.specs.Passes.{BookView}

-- behind a first part of a history whose outline is legal
module _ (whole early : History) (legal : IsLegal finmap.empty (outline whole)) (front : IsPrefix early whole) where
  abbrev late : History
  late = front.0

  parts : early ++ late ≡ whole
  parts = front.1

  outlines : outline whole ≡ outline early ++ outline late
  outlines = ap outline (sym parts) ∙ map-append outlined_event early late

  -- an array stays where it was opened
  array_then : (a : ℕ) (k : Known) → known_after early a ≡ Some k → (l : Known) × (known_after whole a ≡ Some l) × (l.info ≡ k.info) × (l.opened ≡ k.opened)
  array_then a k is =
      as_opened k.info k.opened (known_after whole a)
      (subst (IsOpenedAs k.info k.opened) (ap (λ h. known_after h a) (sym outlines) ∙ known-outline a whole)
      (known-longer finmap.empty (outline early) a k.info k.opened (opened_itself (known_after (outline early) a) k (known-outline a early ∙ is)) (outline late) (subst (IsLegal finmap.empty) outlines legal)))

  -- and its chunks keep their keys
  key_then : (c : Chunk) (key : Key) → key_of early c ≡ Some key → key_of whole c ≡ Some key
  key_then c key named = told (known_after early c.array) refl named
    where
      told : (o : Option Known) → known_after early c.array ≡ o → key_in o c ≡ Some key → key_of whole c ≡ Some key
      told None e f = absurd (none_is_none key f)
      told (Some k) e f =
          let l = array_then c.array k e in
          ap (λ o. key_in o c) l.1 ∙ (λ i. Some (home_text (l.2 i).home (l.3 i) ++ chunk_name (form_of (l.2 i).home) c.index)) ∙ f

  -- so a conflict over what was seen is one over the whole history
  conflict_then : (owner : ℕ) (key : Key) (read changed : ℕ) → laws.IsForeignConflict owner early key read changed → IsForeignConflict owner whole key read changed
  conflict_then owner key read changed is =
      let touch = is.foreign.touch in record {
        chunk = is.chunk;
        named = key_then is.chunk key is.named;
        changed = record {
          touch = record {
            before = touch.before;
            event = touch.event;
            later = touch.later ++ late;
            parts = sym parts ∙ ap (λ h. h ++ late) touch.parts ∙ append_assoc touch.before (touch.event ∷ touch.later) late;
            number = touch.number;
            touched = touch.touched;
          };
          change = is.foreign.change;
          later = is.foreign.later;
          foreign = is.foreign.foreign;
        };
      }

module _ (whole seen : History) (legal : IsLegal finmap.empty (outline whole)) (front : IsPrefix seen whole) (owner : ℕ) where
  further : (h : History) → IsPrefix h seen → IsPrefix h whole
  further h one = (one.0 ++ front.0, sym (append_assoc h one.0 front.0) ∙ ap (λ xs. xs ++ front.0) one.1 ∙ front.1)

  answer_foreign : (answer : Body) → IsForeignSeen owner seen answer → IsForeignAnswer owner whole answer
  answer_foreign (Conflict key read now) is = conflict_then whole is.0 legal (further is.0 is.1) owner key read now is.2
  answer_foreign answer is = tt

  answers_foreign : (log : List Answer) → AllByRecursion (λ (a : Answer). IsForeignSeen owner seen a.body) log → AllByRecursion (λ (a : Answer). IsForeignAnswer owner whole a.body) log
  answers_foreign [] all = tt
  answers_foreign (a ∷ log) all = (answer_foreign a.body all.0, answers_foreign log all.1)

-- so it is of each conflict of a session's log
pub log_foreign : (book : BookView Opening) (mounts : List (List ℕ)) (whole : History) (k : ℕ) (script : List ℕ) (log : List Answer) → IsLegal finmap.empty (outline whole) → IsSessionLog book mounts whole k script log
    → AllByRecursion (λ (a : Answer). IsForeignAnswer k whole a.body) log
log_foreign book mounts whole k script log legal is =
    let s = is.session in
    let to = is.run.on.caused in
    let all = caused_foreign (fixed_by book.fixed finmap.empty) s.pass.number is.run.given s.log s.pass.seen to.last to.are in
    answers_foreign whole s.pass.seen legal is.seen k log
    (subst (λ n. AllByRecursion (λ (a : Answer). IsForeignSeen n s.pass.seen a.body) log) is.number_is
    (subst (AllByRecursion (λ (a : Answer). IsForeignSeen s.pass.number s.pass.seen a.body)) is.log_is all))
