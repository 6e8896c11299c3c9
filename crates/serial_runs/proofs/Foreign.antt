-- Each conflict that a session answers is with another session.
use Rattle.std.proofs.Common.{◌≡◌, ℕ, zero, suc, ◌<◌, List, [], ◌∷◌, ◌++◌, length, take, drop, Option, Some, None, refl, sym, ap, subst, ◌∙◌, append_assoc, arith}
use Rattle.std.specs.List.{slice_get, AllByRecursion}
use Rattle.std.proofs.lemmas.List.{take-append-drop}
use Rattle.kv_face.specs.Store.{Contents}
use Rattle.history.specs.Names.{chunk_name}
use Rattle.history.specs.History.{History}
use Rattle.history.specs.Answers as body
use Rattle.history.specs.Answers.{Body, Answer}
use Rattle.history.specs.Arrays.{Known, known_after, form_of}
use Rattle.history.specs.Chunks.{Chunk, key_in, key_of, home_text}
use Rattle.history.specs.Commit.{Key, Fixed}
use Rattle.history.specs.Legal.{IsLegal}
use Rattle.history.proofs.Conflicts.{itself}
use Rattle.history.proofs.ForeignConflicts as conflicts
use Rattle.history.proofs.ForeignConflicts.{session_conflicts}
use Rattle.history.proofs.GenerationTables.{as_opened}
use Rattle.history.proofs.Known.{none_is_none}
use Rattle.history.proofs.Longer.{IsOpenedAs, known-longer}
use Rattle.serial_runs.specs.Foreign.{IsForeignConflict, IsForeignAnswer, AreForeign}
use Rattle.serial_runs.specs.Runs.{Script, AreLogs}

module _ (start : Contents) (history : History) (m : ℕ) (legal : IsLegal start history) where
  abbrev now : History
  now = take m history

  abbrev behind : History
  behind = drop m history

  whole : now ++ behind ≡ history
  whole = take-append-drop m history

  -- an array stays where it was opened
  array_then : (a : ℕ) (k : Known) → known_after now a ≡ Some k → (l : Known) × (known_after history a ≡ Some l) × (l.info ≡ k.info) × (l.opened ≡ k.opened)
  array_then a k is =
      as_opened k.info k.opened (known_after history a)
      (subst (λ h. IsOpenedAs k.info k.opened (known_after h a)) whole (known-longer start now a k.info k.opened (itself (known_after now a) k is) behind (subst (IsLegal start) (sym whole) legal)))

  -- and its chunks keep their keys
  key_then : (c : Chunk) (key : Key) → key_of now c ≡ Some key → key_of history c ≡ Some key
  key_then c key named = told (known_after now c.array) refl named
    where
      told : (o : Option Known) → known_after now c.array ≡ o → key_in o c ≡ Some key → key_of history c ≡ Some key
      told None e f = absurd (none_is_none key f)
      told (Some k) e f =
          let l = array_then c.array k e in
          ap (λ o. key_in o c) l.1 ∙ (λ i. Some (home_text (l.2 i).home (l.3 i) ++ chunk_name (form_of (l.2 i).home) c.index)) ∙ f

  -- so a conflict over what was seen is one over the whole history
  conflict_then : (owner : ℕ) (key : Key) (read changed : ℕ) → conflicts.IsForeignConflict owner now key read changed → IsForeignConflict owner history key read changed
  conflict_then owner key read changed is =
      let touch = is.foreign.touch in record {
        chunk = is.chunk;
        named = key_then is.chunk key is.named;
        changed = record {
          touch = record {
            before = touch.before;
            event = touch.event;
            later = touch.later ++ behind;
            parts = sym whole ∙ ap (λ h. h ++ behind) touch.parts ∙ append_assoc touch.before (touch.event ∷ touch.later) behind;
            number = touch.number;
            touched = touch.touched;
          };
          change = is.foreign.change;
          later = is.foreign.later;
          foreign = is.foreign.foreign;
        };
      }

module _ (start : Contents) (history : History) (legal : IsLegal start history) (owner : ℕ) where
  answer_foreign : (answer : Body) → conflicts.IsForeignAnswer owner history answer → IsForeignAnswer owner history answer
  answer_foreign (body.conflict key read changed) is = let at = is key read changed refl in conflict_then start history at.0 legal owner key read changed at.2
  answer_foreign answer is = tt

  all_foreign : (log : List Answer) → AllByRecursion (λ (a : Answer). conflicts.IsForeignAnswer owner history a.body) log → AllByRecursion (λ (a : Answer). IsForeignAnswer owner history a.body) log
  all_foreign [] all = tt
  all_foreign (a ∷ log) all = (answer_foreign a.body all.0, all_foreign log all.1)

-- an item's place is below the length, and there is an item at each such place
place_of : {A : Type 0} (xs : List A) (k : ℕ) (x : A) → slice_get xs k ≡ Some x → k < length xs
place_of [] k x is = absurd (cc)
place_of (y ∷ xs) zero x is = omega arith
place_of (y ∷ xs) (suc k) x is = let low = place_of xs k x is in omega (arith, low)

item_at : {A : Type 0} (xs : List A) (k : ℕ) → k < length xs → (x : A) × (slice_get xs k ≡ Some x)
item_at [] k low = absurd (omega (arith, low))
item_at (x ∷ xs) zero low = (x, refl)
item_at (x ∷ xs) (suc k) low = item_at xs k (omega (arith, low))

-- so it is of each conflict of a run with a legal history
pub logs_foreign : (fixed : Fixed) (history : History) (scripts : List Script) (logs : List (List Answer)) → IsLegal fixed.start history → AreLogs fixed history scripts logs → AreForeign history logs
logs_foreign fixed history scripts logs legal are k log has =
    let script = item_at scripts k (subst (λ n. k < n) are.count (place_of logs k log has)) in
    let one = are.each k script.0 log script.1 has in
    all_foreign fixed.start history legal k log (session_conflicts fixed k history one.ran log one.last legal one.run)
