-- Words that a stated history shows are of the dtype of the view that shows them.
use Rattle.std.proofs.Common.{inl, inr, ◌≡◌, ◌∙◌, ℕ, ◌+◌, List, [], ◌∷◌, ◌++◌, length, map, take, drop, true, cond, Option, Some, None, Result, Ok, Err, refl, sym, ap, subst, append_assoc, eq-eqb, eqb-true}
use Rattle.std.specs.Prelude.{All, count_by, option_map}
use Rattle.std.specs.FinMap as finmap
use Rattle.std.specs.List.{AllByRecursion}
use Rattle.std.proofs.lemmas.List.{length-map, take-append-drop}
use Rattle.std.proofs.lemmas.List.Elements.{All-from_recursion}
use Rattle.cells.specs.Numbers.{IsWord, conv_word}
use Rattle.cells.specs.Places.{cell_count}
use Rattle.cells.specs.declared.dtype.Dtype.{Dtype}
use Rattle.cells.proofs.Laws.{IsWord-conv_word}
use Rattle.cells.specs.Shapes.{is_inside}
use Rattle.line_fits.specs.Sweeps.{IsFront, IsOpIn, IsStated, IsStatedKind, IsViewIn}
use Rattle.line_fits.proofs.Laws.{front_outline, known_later, stated_next}
use Rattle.history.specs.declared.event.Event.{Event}
use Rattle.history.specs.declared.event.Kind.{Kind}
use Rattle.history.specs.declared.event.Kind.TheVariants.{Opened, Done, Resized, Fault}
use Rattle.history.specs.declared.array.ArrayInfo.{ArrayInfo}
use Rattle.history.specs.declared.event.Op.{Op}
use Rattle.history.specs.declared.event.Op.TheVariants.{Write, Read}
use Rattle.history.specs.Arrays.{Known, known_after, known_step}
use Rattle.history.specs.Bound.{AreCommitsKnown, IsCommitKnown}
use Rattle.history.specs.Chunks.{Chunk, chunk_of}
use Rattle.history.specs.Content.{content_after, cut_to, present_shape, word_by, word_outside}
use Rattle.history.specs.History.{History}
use Rattle.history.specs.Legal.{AreWritten, IsLegal, is_opening, is_present_in, viewed}
use Rattle.history.specs.Reads.{marked_world, visible_values}
use Rattle.history.specs.Refs.{HasKnownRefs}
use Rattle.history.specs.Start.{opening_word}
use Rattle.history.specs.Touch.{touches, touches_by}
use Rattle.history.specs.Viewing.{shape_of}
use Rattle.history.specs.Writes.{Content, puts_of, shown_in, written}
use Rattle.history.proofs.Histories.{after-more}
use Rattle.history.proofs.Laws.{chunk_array, content_touched, content_untouched, each_history, known_after-more, some_inj, word_of_dtype, world_some}
use Rattle.history.proofs.Tests.{true_or_false}
use Rattle.history.proofs.Typed.{IsOf, IsTyped, all_targets, none_of, puts_of_dtype, typed_ops}
use Rattle.history.proofs.Untouched.{opens_cell}
use Rattle.index_transform.specs.Cells.{cells_of}
use Rattle.stack_driver.specs.Chain.{dtype_after}
use Rattle.stack_driver.specs.Conditions.{IsView}
use Rattle.stack_driver.specs.Targets.{Cell, Target, outwards}
use Rattle.stack_driver.specs.Views.{look_of, targets_of}
use Rattle.stack_driver.specs.declared.Cast.{Cast}
use Rattle.stack_driver.specs.declared.error.TargetError.{TargetError}
use Rattle.stack_driver.specs.declared.view.View.{View}
use Rattle.stack_driver.proofs.Laws.{length-cells_of}
use Rattle.stated_arrays.specs.Outline.{outline, outlined, outlined_event}
use Rattle.stated_arrays.proofs.Laws.{known-outline, outline-more}

-- nothing is asked of the commits of an outline
outline_known : (h : History) → AreCommitsKnown (outline h)
outline_known =
    each_history (λ h. AreCommitsKnown (outline h)) tt
    (λ h e before.
    subst AreCommitsKnown (sym (outline-more h e))
    (subst (λ (P : Type 0). P) (sym (after-more {A = Type 0} (λ g f known. known × IsCommitKnown g f.kind) (Unit {0}) (outline h) (outlined_event e))) (before, by (outline h) e.kind)))
  where
    by : (g : History) (kind : Kind) → IsCommitKnown g (outlined kind)
    by g (Opened info) = tt
    by g (Done line mode ops key) = tt
    by g (Resized a shape) = tt
    by g (Fault mount) = tt

-- the word of a new array is of its dtype
opened_word : (g : History) (e : Event) (info : ArrayInfo) (x : Cell) (k : Known) → IsLegal finmap.empty (outline (g ++ e ∷ [])) → e.kind ≡ Opened info → info.number ≡ x.array → known_after (g ++ e ∷ []) x.array ≡ Some k
    → IsOf k.info.dtype (opening_word finmap.empty (record { info = info; opened = length g + 1; shape = info.shape }) x)
opened_word g e info x k legal is number known =
    let kind : outlined e.kind ≡ Opened info = ap outlined is in
    let there : content_after finmap.empty (outline g ++ outlined_event e ∷ []) x ≡ opening_word finmap.empty (record { info = info; opened = length g + 1; shape = info.shape }) x =
    content_touched finmap.empty (outline g) (outlined_event e) x (opens_cell (outline g) (outlined_event e) info x kind number)
    ∙ ap (λ j. word_by finmap.empty (outline g) j x (content_after finmap.empty (outline g) x)) kind
    ∙ ap (λ n. opening_word finmap.empty (record { info = info; opened = n + 1; shape = info.shape }) x) (length-map g outlined_event) in
    let here : known_after (outline g ++ outlined_event e ∷ []) x.array ≡ Some k = ap (λ q. known_after q x.array) (sym (outline-more g e)) ∙ known-outline x.array (g ++ e ∷ []) ∙ known in
    subst (IsOf k.info.dtype) there
    (word_of_dtype finmap.empty x (outline g ++ outlined_event e ∷ []) (subst (IsLegal finmap.empty) (outline-more g e) legal) (subst AreCommitsKnown (outline-more g e) (outline_known (g ++ e ∷ []))) k here)

known_views : (events : History) (ops : List Op) → AllByRecursion (IsOpIn events) ops → AllByRecursion (λ op. IsView (viewed op) × HasKnownRefs events (viewed op)) ops
known_views events [] each = tt
known_views events (op ∷ ops) each = ((each.0.view.valid, each.0.view.refs), known_views events ops each.1)

written_words : (events : History) (ops : List Op) → AllByRecursion (IsOpIn events) ops → AllByRecursion AreWritten ops
written_words events [] each = tt
written_words events (Write view words ∷ ops) each = (each.0.writes.1, written_words events ops each.1)
written_words events (Read view words ∷ ops) each = (tt, written_words events ops each.1)

module _ (events : History) (legal : IsLegal finmap.empty events) (stated : IsStated events) (x : Cell) (k : Known) (is : known_after events x.array ≡ Some k) where
  -- an array that is there at first is the one
  same_array : (g more : History) (l : Known) → events ≡ g ++ more → known_after g x.array ≡ Some l → l ≡ k
  same_array g more l whole at =
      let front : IsFront events g (count_by is_opening g) = record { stated = stated; later = more; whole = whole; count = refl } in
      some_inj l k (sym (known_later events g (count_by is_opening g) front x.array l at) ∙ is)

  module _ (inside : is_inside k.shape x.index ≡ true) where
    cut_by : (g more : History) (word : Option ℕ) (o : Option Known) → events ≡ g ++ more → known_after g x.array ≡ o → IsOf k.info.dtype word → IsOf k.info.dtype (cut_to o (present_shape o) x word)
    cut_by g more word None whole at new = new
    cut_by g more word (Some l) whole at new =
        let here : is_inside l.shape x.index ≡ true = ap (λ (q : Known). is_inside q.shape x.index) (same_array g more l whole at) ∙ inside in
        subst (IsOf k.info.dtype) (sym (ap (λ b. cond b word (word_outside l.info.home l.info.fill)) here)) new

    touched : (g more : History) (e : Event) (j : Kind) → events ≡ (g ++ e ∷ []) ++ more → events ≡ g ++ e ∷ more → e.kind ≡ j → IsStatedKind events j → touches_by g j (chunk_of g x) ≡ true → IsOf k.info.dtype (content_after finmap.empty g x)
        → IsOf k.info.dtype (word_by finmap.empty g j x (content_after finmap.empty g x))
    touched g more e (Opened info) whole split kind so t old =
        let number : info.number ≡ x.array = eqb-true info.number (chunk_of g x).array t ∙ chunk_array (known_after g x.array) x in
        let n : Known = record { info = info; opened = length g + 1; shape = info.shape } in
        let here : known_after (g ++ e ∷ []) x.array ≡ Some n =
        known_after-more g e x.array ∙ ap (λ q. known_step x.array g q (known_after g x.array)) kind ∙ ap (λ b. cond b (Some n) (known_after g x.array)) (eq-eqb info.number x.array number) in
        let front : IsFront events (g ++ e ∷ []) (count_by is_opening (g ++ e ∷ [])) = record { stated = stated; later = more; whole = whole; count = refl } in
        subst (λ (q : Known). IsOf q.info.dtype (opening_word finmap.empty n x)) (same_array (g ++ e ∷ []) more n whole here)
        (opened_word g e info x n (front_outline events (g ++ e ∷ []) (count_by is_opening (g ++ e ∷ [])) front) kind number here)
    touched g more e (Done line mode ops key) whole split kind so t old =
        let new : IsOf k.info.dtype (written ops (λ y. content_after finmap.empty g x) x) =
        puts_of_dtype events (puts_of ops) x k (λ y. content_after finmap.empty g x) is (typed_ops finmap.empty events ops legal (known_views events ops so.1) (written_words events ops so.1)) old in
        cut_by g (e ∷ more) (written ops (λ y. content_after finmap.empty g x) x) (known_after g x.array) split refl new
    touched g more e (Resized a shape) whole split kind so t old = absurd so
    touched g more e (Fault mount) whole split kind so t old = absurd (cc)

    Front : History → Type 0
    Front g = (more : History) → events ≡ g ++ more → IsOf k.info.dtype (content_after finmap.empty g x)

    more_typed : (g : History) (e : Event) → Front g → Front (g ++ e ∷ [])
    unfolding Front
    more_typed g e before more whole =
        let split : events ≡ g ++ e ∷ more = whole ∙ append_assoc g (e ∷ []) more in
        let old = before (e ∷ more) split in
        elim (true_or_false (touches g e (chunk_of g x))) [
          | inl t ↦ subst (IsOf k.info.dtype) (sym (content_touched finmap.empty g e x t)) (touched g more e e.kind whole split refl (stated_next events g more e stated split) t old)
          | inr t ↦ subst (IsOf k.info.dtype) (sym (content_untouched finmap.empty g e x t)) old
        ]

    front_typed : (g : History) → Front g
    unfolding Front
    front_typed = each_history Front (λ more whole. none_of k.info.dtype) more_typed

    pub content_typed : (g more : History) → events ≡ g ++ more → IsOf k.info.dtype (content_after finmap.empty g x)
    unfolding Front
    content_typed g more whole = front_typed g more whole

  -- the word of a cell at any moments of the chunks is one of its array's dtype
  marked_typed : (marks : Chunk → ℕ) → IsOf k.info.dtype (marked_world finmap.empty events marks x)
  marked_typed marks w shown =
      let j = marks (chunk_of events x) in
      let parts = world_some (known_after (take j events) x.array) x (content_after finmap.empty (take j events) x) w shown in
      by (known_after (take j events) x.array) refl parts.0 parts.1
    where
      by : (o : Option Known) → known_after (take (marks (chunk_of events x)) events) x.array ≡ o → is_present_in o x ≡ true → content_after finmap.empty (take (marks (chunk_of events x)) events) x ≡ Some w → IsWord k.info.dtype w
      by None at present held = absurd (cc)
      by (Some l) at present held =
          let j = marks (chunk_of events x) in
          let whole : events ≡ take j events ++ drop j events = sym (take-append-drop j events) in
          let same : l ≡ k = same_array (take j events) (drop j events) l whole at in
          content_typed (subst (λ (q : Known). is_inside q.shape x.index ≡ true) same present) (take j events) (drop j events) whole w held

-- a word of an array's dtype comes out as one of the view's
out_typed : (casts : List Cast) (base : Dtype) (word : ℕ) → IsWord base word → IsWord (dtype_after base casts) (outwards casts word)
out_typed [] base word is = is
out_typed (c ∷ casts) base word is = out_typed casts c.to (conv_word c.from word c.to) (IsWord-conv_word c.from word c.to)

pub targets_count : (view : View) → length (targets_of view) ≡ length (cells_of (look_of view).dims)
unfolding targets_of
targets_count view = length-map (cells_of (look_of view).dims) (look_of view).target

shown_typed : (events : History) (dtype : Dtype) (c : Content) (ts : List (Result Target TargetError)) (words : List ℕ) → ((x : Cell) (k : Known) → known_after events x.array ≡ Some k → IsOf k.info.dtype (c x))
    → AllByRecursion (λ r. (t : Target) → r ≡ Ok t → IsTyped events dtype t) ts → map Some words ≡ map (shown_in c) ts → AllByRecursion (IsWord dtype) words
shown_typed events dtype c ts [] cells each shown = tt
shown_typed events dtype c [] (w ∷ words) cells each shown = absurd (cc)
shown_typed events dtype c (Err e ∷ ts) (w ∷ words) cells each shown = absurd (cc)
shown_typed events dtype c (Ok t ∷ ts) (w ∷ words) cells each shown =
    let head : option_map (outwards t.casts) (c t.cell) ≡ Some w = cc in
    let tail : map Some words ≡ map (shown_in c) ts = cc in
    (first (c t.cell) refl head, shown_typed events dtype c ts words cells each.1 tail)
  where
    first : (o : Option ℕ) → c t.cell ≡ o → option_map (outwards t.casts) o ≡ Some w → IsWord dtype w
    first None at is = absurd (cc)
    first (Some v) at is =
        let here = each.0 t refl in
        let same : outwards t.casts v ≡ w = cc in
        subst (IsWord dtype) same (subst (λ d. IsWord d (outwards t.casts v)) here.ends (out_typed t.casts here.known.info.dtype v (cells t.cell here.known here.is_known v at)))

-- what a view shows to a transaction of a stated history: a word of its dtype for each cell
pub seen_words : (events : History) (view : View) (ops : List Op) (marks : Chunk → ℕ) (words : List ℕ) → IsLegal finmap.empty events → IsStated events → IsViewIn events view → AllByRecursion (IsOpIn events) ops
    → map Some words ≡ visible_values finmap.empty events marks ops view → (length words ≡ cell_count (shape_of view)) × All (IsWord (look_of view).dtype) words
seen_words events view ops marks words legal stated here each shown =
    let c : Content = written ops (marked_world finmap.empty events marks) in
    let size : length words ≡ length (targets_of view) = sym (length-map words Some) ∙ ap length shown ∙ length-map (targets_of view) (shown_in c) in (
      size ∙ targets_count view ∙ length-cells_of (look_of view).dims,
      All-from_recursion (IsWord (look_of view).dtype) words
          (shown_typed events (look_of view).dtype c (targets_of view) words
          (λ x k is. puts_of_dtype events (puts_of ops) x k (marked_world finmap.empty events marks) is (typed_ops finmap.empty events ops legal (known_views events ops each) (written_words events ops each)) (marked_typed events legal stated x k is marks))
          (all_targets finmap.empty events view legal here.valid here.refs) shown),
    )
