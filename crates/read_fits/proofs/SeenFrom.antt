-- What a transaction sees of a view in a window is what the events up to the window's end show it.
use Rattle.std.proofs.Common.{◌≡◌, ◌∙◌, ◌≤◌, ℕ, List, [], ◌∷◌, length, map, take, take-take, true, Option, Some, None, Result, Ok, Err, refl, sym, ap, arith, length-take}
use Rattle.std.specs.Prelude.{◌↔◌, option_map}
use Rattle.std.specs.FinMap as finmap
use Rattle.std.specs.List.{AllByRecursion}
use Rattle.line_fits.specs.Demands.{IsSeenFrom}
use Rattle.history.specs.declared.event.Op.{Op}
use Rattle.history.specs.Arrays.{Known, known_after}
use Rattle.history.specs.Chunks.{Chunk, chunk_of}
use Rattle.history.specs.Commit.{Transaction}
use Rattle.history.specs.Content.{world_after}
use Rattle.history.specs.History.{History}
use Rattle.history.specs.Legal.{HasTarget, is_present_in}
use Rattle.history.specs.Reads.{marked_world, visible_values}
use Rattle.history.specs.Writes.{puts_of, shown_in, written}
use Rattle.history.proofs.Laws.{else_word, last_put, written-is}
use Rattle.stack_driver.specs.Targets.{Cell, Target, outwards}
use Rattle.stack_driver.specs.Views.{targets_of}
use Rattle.stack_driver.specs.declared.error.TargetError.{TargetError}
use Rattle.stack_driver.specs.declared.view.View.{View}
use Rattle.transaction_cells.specs.Operations.{KeepsArrays}
use Rattle.transaction_cells.proofs.Laws.{same_chunk}
use Rattle.line_fits.specs.Fitting.{IsSeen}
use Rattle.line_fits.specs.Windows.{Window}

module _ (h : History) (n : ℕ) (keeps : KeepsArrays (take n h) h) (marks : Chunk → ℕ) (low : (c : Chunk) → marks c ≤ n) where
  -- a cell of an array that is there is the same by the first events
  world_at : (x : Cell) (k : Known) → known_after (take n h) x.array ≡ Some k → marked_world finmap.empty h marks x ≡ marked_world finmap.empty (take n h) marks x
  world_at x k is =
      ap (λ c. world_after finmap.empty (take (marks c) h) x) (same_chunk (take n h) h keeps x k is)
      ∙ ap (λ g. world_after finmap.empty g x) (sym (take-take (marks (chunk_of (take n h) x)) n h (low (chunk_of (take n h) x))))

  shown_at : (ops : List Op) (t : Target) → HasTarget (take n h) (Ok t) → shown_in (written ops (marked_world finmap.empty h marks)) (Ok t) ≡ shown_in (written ops (marked_world finmap.empty (take n h) marks)) (Ok t)
  shown_at ops t here = by (known_after (take n h) t.cell.array) refl here
    where
      by : (o : Option Known) → known_after (take n h) t.cell.array ≡ o → is_present_in o t.cell ≡ true → shown_in (written ops (marked_world finmap.empty h marks)) (Ok t) ≡ shown_in (written ops (marked_world finmap.empty (take n h) marks)) (Ok t)
      by None is present = absurd (cc)
      by (Some k) is present =
          ap (option_map (outwards t.casts))
          (written-is ops (marked_world finmap.empty h marks) t.cell
          ∙ ap (else_word (last_put (puts_of ops) t.cell)) (world_at t.cell k is)
          ∙ sym (written-is ops (marked_world finmap.empty (take n h) marks) t.cell))

  all_shown : (ops : List Op) (ts : List (Result Target TargetError)) → AllByRecursion (HasTarget (take n h)) ts
      → map (shown_in (written ops (marked_world finmap.empty h marks))) ts ≡ map (shown_in (written ops (marked_world finmap.empty (take n h) marks))) ts
  all_shown ops [] all = refl
  all_shown ops (Err e ∷ ts) all = absurd all.0
  all_shown ops (Ok t ∷ ts) all = λ i. shown_at ops t all.0 i ∷ all_shown ops ts all.1 i

  pub values_at : (ops : List Op) (view : View) → AllByRecursion (HasTarget (take n h)) (targets_of view) → visible_values finmap.empty h marks ops view ≡ visible_values finmap.empty (take n h) marks ops view
  values_at ops view all = all_shown ops (targets_of view) all

-- a transaction sees these words in a window exactly where the events up to the window's end show them from its beginning on
pub seen_from : (h : History) (w : Window) (t : Transaction) (view : View) (words : List ℕ) → KeepsArrays (take w.upto h) h → w.upto ≤ length h → AllByRecursion (HasTarget (take w.upto h)) (targets_of view)
    → IsSeen h w t view words ↔ IsSeenFrom (take w.upto h) w.from t.ops view words
seen_from h w t view words keeps within targets = (
  λ seen. record {
    marks = seen.marks;
    not_before = λ c. (seen.within c).0;
    within = λ c. (let high = (seen.within c).1 in omega (arith, high, within, length-take w.upto h));
    shown = seen.shown ∙ values_at h w.upto keeps seen.marks (λ c. (seen.within c).1) t.ops view targets;
  },
  λ seen.
      let low : (c : Chunk) → seen.marks c ≤ w.upto = λ c. (let high = seen.within c in omega (arith, high, within, length-take w.upto h)) in
      record {
        marks = seen.marks;
        within = λ c. (seen.not_before c, low c);
        shown = seen.shown ∙ sym (values_at h w.upto keeps seen.marks low t.ops view targets);
      },
)
