-- What a read shows are words of the view's dtype.
use Rattle.std.proofs.Common.{◌≡◌, ℕ, ℤ, List, [], ◌∷◌, ◌++◌, length, map, take, Bool, true, false, cond, Option, Some, None, Result, Ok, Err, refl, sym, ap, subst, ◌∙◌, arith, append_assoc, append-nil, drop}
use Rattle.std.specs.Prelude.{option_map}
use Rattle.std.specs.FinMap as finmap
use Rattle.std.specs.List.{AllByRecursion}
use Rattle.std.proofs.lemmas.List.{length-map, take-append-drop}
use Rattle.cells.specs.Numbers.{IsWord, conv_word}
use Rattle.cells.specs.Places.{cell_count}
use Rattle.cells.specs.declared.dtype.Dtype.{Dtype}
use Rattle.cells.proofs.Laws.{IsWord-conv_word}
use Rattle.stack_driver.specs.Cells.{cells_of}
use Rattle.stack_driver.specs.Chain.{dtype_after}
use Rattle.stack_driver.specs.Conditions.{IsView}
use Rattle.stack_driver.specs.Targets.{Cell, Target, outwards}
use Rattle.stack_driver.specs.Views.{look_of, targets_of}
use Rattle.stack_driver.specs.declared.Cast.{Cast}
use Rattle.stack_driver.specs.declared.error.TargetError.{TargetError}
use Rattle.stack_driver.specs.declared.view.View.{View}
use Rattle.stack_driver.specs.declared.view.View.TheVariants as view
use Rattle.stack_driver.proofs.Laws.{length-cells_of}
use Rattle.history.specs.declared.array.ArrayInfo.{ArrayInfo}
use Rattle.history.specs.declared.event.Op.{Op}
use Rattle.history.specs.Arrays.{Known, known_after}
use Rattle.history.specs.Bound.{AreCommitsKnown, IsCommitKnown}
use Rattle.history.specs.Chunks.{chunk_of}
use Rattle.history.specs.Content.{content_after}
use Rattle.history.specs.History.{History}
use Rattle.history.specs.Legal.{IsLegal, AreWritten, viewed, is_present_in}
use Rattle.history.specs.Reads.{Marks, mark_of, marked_world, visible_values}
use Rattle.history.specs.Refs.{HasKnownRefs}
use Rattle.history.specs.Viewing.{shape_of}
use Rattle.history.specs.Writes.{Content, puts_of, shown_in, written}
use Rattle.history.proofs.Histories.{after-more}
use Rattle.history.proofs.Laws.{each_history, known_still, legal_take, some_inj, word_of_dtype, world_some}
use Rattle.history.proofs.Typed.{IsOf, IsTyped, all_targets, puts_of_dtype, typed_ops}

-- a word of an array's dtype comes out as one of the view's
out_typed : (casts : List Cast) (base : Dtype) (word : ℕ) → IsWord base word → IsWord (dtype_after base casts) (outwards casts word)
out_typed [] base word is = is
out_typed (c ∷ casts) base word is = out_typed casts c.to (conv_word c.from word c.to) (IsWord-conv_word c.from word c.to)

-- what commits knew of a whole history they knew of its beginning
commits_front : (more h : History) → AreCommitsKnown (h ++ more) → AreCommitsKnown h
commits_front =
    each_history (λ more. (h : History) → AreCommitsKnown (h ++ more) → AreCommitsKnown h) (λ h known. subst AreCommitsKnown (append-nil h) known)
    (λ more e before h known.
    let whole : AreCommitsKnown ((h ++ more) ++ e ∷ []) = subst AreCommitsKnown (sym (append_assoc h more (e ∷ []))) known in
    before h (subst (λ (P : Type 0). P) (after-more {A = Type 0} (λ g f all. all × IsCommitKnown g f.kind) (Unit {0}) (h ++ more) e) whole).0)

targets_count : (view : View) → length (targets_of view) ≡ length (cells_of (look_of view).dims)
unfolding targets_of
targets_count view = length-map (cells_of (look_of view).dims) (look_of view).target

shown_typed : (events : History) (dtype : Dtype) (c : Content) (ts : List (Result Target TargetError)) (words : List ℕ) → ((x : Cell) (k : Known) → known_after events x.array ≡ Some k → IsOf k.info.dtype (c x))
    → AllByRecursion (λ r. (t : Target) → r ≡ Ok t → IsTyped events dtype t) ts → map Some words ≡ map (shown_in c) ts → AllByRecursion (IsWord dtype) words
shown_typed events dtype c ts [] cells each shown = tt
shown_typed events dtype c [] (w ∷ words) cells each shown = absurd (cc)
shown_typed events dtype c (Err e ∷ ts) (w ∷ words) cells each shown = absurd (cc)
shown_typed events dtype c (Ok t ∷ ts) (w ∷ words) cells each shown =
    let head : option_map (outwards t.casts) (c t.cell) ≡ Some w = cc in
    let tail : map Some words ≡ map (shown_in c) ts = cc in
    (first (c t.cell) refl head, shown_typed events dtype c ts words cells each.1 tail)
  where
    first : (o : Option ℕ) → c t.cell ≡ o → option_map (outwards t.casts) o ≡ Some w → IsWord dtype w
    first None at is = absurd (cc)
    first (Some v) at is =
        let here = each.0 t refl in
        let same : outwards t.casts v ≡ w = cc in
        subst (IsWord dtype) same (subst (λ d. IsWord d (outwards t.casts v)) here.ends (out_typed t.casts here.known.info.dtype v (cells t.cell here.known here.is_known v at)))

module _ (history : History) (m : ℕ) (legal : IsLegal finmap.empty history) (commits : AreCommitsKnown history) where
  abbrev now : History
  now = take m history

  legal_now : IsLegal finmap.empty now
  legal_now = legal_take finmap.empty history m legal

  commits_now : AreCommitsKnown now
  commits_now = commits_front (drop m history) now (subst AreCommitsKnown (sym (take-append-drop m history)) commits)

  -- the word of a cell at a mark is one of its array's dtype
  marked_typed : (marks : Marks) (x : Cell) (k : Known) → known_after now x.array ≡ Some k → IsOf k.info.dtype (marked_world finmap.empty now (mark_of marks) x)
  marked_typed marks x k known w is =
      let j = mark_of marks (chunk_of now x) in
      let parts = world_some (known_after (take j now) x.array) x (content_after finmap.empty (take j now) x) w is in
      by (known_after (take j now) x.array) refl parts.0 parts.1
    where
      by : (o : Option Known) → known_after (take (mark_of marks (chunk_of now x)) now) x.array ≡ o → is_present_in o x ≡ true → content_after finmap.empty (take (mark_of marks (chunk_of now x)) now) x ≡ Some w → IsWord k.info.dtype w
      by None at present held = absurd (cc)
      by (Some l) at present held =
          let j = mark_of marks (chunk_of now x) in
          let later = known_still finmap.empty now x.array j l legal_now at in
          let same : later.0 ≡ k = some_inj later.0 k (sym later.1 ∙ known) in
          let front : AreCommitsKnown (take j now) = commits_front (drop j now) (take j now) (subst AreCommitsKnown (sym (take-append-drop j now)) commits_now) in
          subst (λ (i : ArrayInfo). IsWord i.dtype w) (sym later.2 ∙ ap (λ (n : Known). n.info) same)
          (word_of_dtype finmap.empty x (take j now) (legal_take finmap.empty now j legal_now) front l at w held)

  -- what a read shows: a word of the dtype for each cell
  pub read_words : (view : View) (ops : List Op) (marks : Marks) (words : List ℕ) → IsView view → HasKnownRefs now view → AllByRecursion (λ op. IsView (viewed op) × HasKnownRefs now (viewed op)) ops → AllByRecursion AreWritten ops
      → map Some words ≡ visible_values finmap.empty now (mark_of marks) ops view → (length words ≡ cell_count (shape_of view)) × AllByRecursion (IsWord (look_of view).dtype) words
  read_words view ops marks words valid refs known each shown =
      let c : Content = written ops (marked_world finmap.empty now (mark_of marks)) in
      let size : length words ≡ length (targets_of view) = sym (length-map words Some) ∙ ap length shown ∙ length-map (targets_of view) (shown_in c) in (
        size ∙ targets_count view ∙ length-cells_of (look_of view).dims,
        shown_typed now (look_of view).dtype c (targets_of view) words
            (λ x k is. puts_of_dtype now (puts_of ops) x k (marked_world finmap.empty now (mark_of marks)) is (typed_ops finmap.empty now ops legal_now known each) (marked_typed marks x k is))
            (all_targets finmap.empty now view legal_now valid refs) shown,
      )
