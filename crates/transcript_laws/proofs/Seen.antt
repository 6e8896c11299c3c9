-- What a read showed is what its transaction sees at marks of the line's window.
use Rattle.std.proofs.Common.{◌≡◌, ℕ, ◌≤◌, List, [], ◌∷◌, ◌++◌, length, take, take-take, drop, Bool, true, false, cond, Option, Some, None, refl, sym, ap, subst, ◌∙◌, arith, length-take}
use Rattle.std.specs.Prelude.{◌||◌, IsTrue}
use Rattle.std.specs.List.{AllByRecursion}
use Rattle.std.specs.FinMap as finmap
use Rattle.std.proofs.lemmas.List.{take-append-drop}
use Rattle.stack_driver.specs.Targets.{Cell}
use Rattle.stack_driver.specs.declared.view.View.{View}
use Rattle.history.specs.declared.event.Op.TheVariants.{Read}
use Rattle.history.specs.Alone.{single_store}
use Rattle.history.specs.Arrays.{Known, known_after}
use Rattle.history.specs.Chunks.{Chunk, is_chunk, chunk_in, chunk_of}
use Rattle.history.specs.Commit.{Transaction}
use Rattle.history.specs.Content.{content_after, world_after}
use Rattle.history.specs.History.{History}
use Rattle.history.specs.Legal.{IsLegal, AreReads, is_present_in}
use Rattle.history.specs.Reads.{Marks, mark_of, has_mark, marked_world, unwritten}
use Rattle.history.specs.Shown.{IsRead}
use Rattle.history.specs.Staged.{AreWithin}
use Rattle.history.proofs.Laws.{legal_take, known_still, world_some, mark_of-within}
use Rattle.history.proofs.Longer.{seen-longer}
use Rattle.history.proofs.Serial.{IsKeptAt, reads_kept}
use Rattle.history.proofs.Transactions.{all_with}
use Rattle.transcript_laws.specs.Fitting.{IsSeen}
use Rattle.transcript_laws.specs.Transcript.{mount}
use Rattle.transcript_laws.specs.Windows.{IsWithin}

-- no mark is below a number of events
abbrev pub AreFrom : ℕ → Marks → Type 0
AreFrom low marks = AllByRecursion (λ (m : Chunk × ℕ). low ≤ m.1) marks

mark_from : (low : ℕ) (marks : Marks) (c : Chunk) → AreFrom low marks → has_mark marks c ≡ true → low ≤ mark_of marks c
mark_from low [] c all has = absurd (cc)
mark_from low (m ∷ marks) c all has = first (is_chunk m.0 c) has (mark_from low marks c all.1)
  where
    first : (b : Bool) → (b || has_mark marks c) ≡ true → (has_mark marks c ≡ true → low ≤ mark_of marks c) → low ≤ cond b m.1 (mark_of marks c)
    first true is rest = all.0
    first false is rest = rest is

-- the chunk's mark, and where it has none the beginning of the window
abbrev mark_or : ℕ → Marks → Chunk → ℕ
mark_or low marks c = cond (has_mark marks c) (mark_of marks c) low

module _ (history : History) (m : ℕ) (legal : IsLegal finmap.empty history) where
  abbrev now : History
  now = take m history

  whole : now ++ drop m history ≡ history
  whole = take-append-drop m history

  -- a cell whose array is known stays in its chunk
  pub chunk_stays : (x : Cell) (j : ℕ) (k : Known) → j ≤ length now → known_after (take j history) x.array ≡ Some k → chunk_of history x ≡ chunk_of now x
  chunk_stays x j k low is =
      let early : known_after (take j now) x.array ≡ Some k = ap (λ h. known_after h x.array) (take-take j m history (omega (arith, low, length-take m history))) ∙ is in
      let l = known_still finmap.empty now x.array j k (legal_take finmap.empty history m legal) early in
      let late = known_still finmap.empty history x.array m l.0 legal l.1 in
      ap (λ o. chunk_in o x) late.1 ∙ ap (λ i. chunk_in (Some (record { info = i; opened = 0; shape = [] })) x) late.2 ∙ sym (ap (λ o. chunk_in o x) l.1)

  -- so does one that is there at a mark
  same_chunk : (x : Cell) (j : ℕ) → j ≤ length now → is_present_in (known_after (take j history) x.array) x ≡ true → chunk_of history x ≡ chunk_of now x
  same_chunk x j low present = by (known_after (take j history) x.array) refl present
    where
      by : (o : Option Known) → known_after (take j history) x.array ≡ o → is_present_in o x ≡ true → chunk_of history x ≡ chunk_of now x
      by None is here = absurd (cc)
      by (Some k) is here = chunk_stays x j k low is

  module _ (low : ℕ) (marks : Marks) (within : AreWithin (length now) marks) where
    -- a cell whose chunk has a mark is shown alike
    shown_alike : (x : Cell) → has_mark marks (chunk_of now x) ≡ true → IsKeptAt (marked_world finmap.empty history (mark_of marks)) (marked_world finmap.empty history (mark_or low marks)) x
    shown_alike x has w is =
        let j = mark_of marks (chunk_of history x) in
        let near : j ≤ length now = mark_of-within (length now) marks (chunk_of history x) within in
        let present = (world_some (known_after (take j history) x.array) x (content_after finmap.empty (take j history) x) w is).0 in
        let here : has_mark marks (chunk_of history x) ≡ true = ap (has_mark marks) (same_chunk x j near present) ∙ has in
        ap (λ b. world_after finmap.empty (take (cond b (mark_of marks (chunk_of history x)) low) history) x) here ∙ is

    all_alike : (xs : List Cell) → AllByRecursion (λ x. IsTrue (has_mark marks (chunk_of now x))) xs
        → AllByRecursion (IsKeptAt (marked_world finmap.empty history (mark_of marks)) (marked_world finmap.empty history (mark_or low marks))) xs
    all_alike [] each = tt
    all_alike (x ∷ xs) each = (shown_alike x each.0, all_alike xs each.1)

  -- a read whose marks lie in the window
  pub sees : (low high seen : ℕ) (t : Transaction) (view : View) (words : List ℕ) (marks : Marks) → AreWithin (length now) marks → AreFrom low marks → low ≤ high → length now ≤ high → IsRead (single_store mount) now seen t view words marks
      → IsSeen history (record { from = low; upto = high }) t view words
  sees low high seen t view words marks within from up behind is =
      let early : AreReads (marked_world finmap.empty now (mark_of marks)) t.ops (Read view words ∷ []) = (is.shown, tt) in
      let late : AreReads (marked_world finmap.empty history (mark_of marks)) t.ops (Read view words ∷ []) =
      subst (λ h. AreReads (marked_world finmap.empty h (mark_of marks)) t.ops (Read view words ∷ [])) whole
      (seen-longer finmap.empty now (drop m history) marks t.ops (Read view words ∷ []) (subst (IsLegal finmap.empty) (sym whole) legal) within early) in
      let alike = all_alike low marks within (unwritten t.ops view) is.marked.each in
      let kept =
      all_with (IsKeptAt (marked_world finmap.empty history (mark_of marks)) (marked_world finmap.empty history (mark_or low marks))) (unwritten t.ops view) [] alike tt in
      record {
        marks = mark_or low marks;
        within = λ c. within_by c (has_mark marks c) refl;
        shown = (reads_kept (marked_world finmap.empty history (mark_of marks)) (marked_world finmap.empty history (mark_or low marks)) t.ops (Read view words ∷ []) kept late).0;
      }
    where
      within_by : (c : Chunk) (b : Bool) → has_mark marks c ≡ b → IsWithin (record { from = low; upto = high }) (cond b (mark_of marks c) low)
      within_by c true has = let first = mark_from low marks c from has in let last = mark_of-within (length now) marks c within in (first, omega (arith, last, behind))
      within_by c false has = (omega arith, up)
