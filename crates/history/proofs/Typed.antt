-- A word of an array is a word of its dtype.
use Rattle.std.proofs.Common.{inl, inr, ◌≡◌, ℕ, ℤ, ◌<◌, List, [], ◌∷◌, ◌++◌, length, map, drop, Bool, true, false, cond, Option, Some, None, Result, Ok, Err, refl, sym, ap, subst, ◌∙◌, arith}
use Rattle.std.specs.Prelude.{fold, zip, filter_map, slice_index, unwrap_or, ◌==◌}
use Rattle.std.specs.FinMap as finmap
use Rattle.std.specs.Option.{ForSome}
use Rattle.std.specs.List.{AllByRecursion}
use Rattle.stack_driver.proofs.Laws.{IsWord-word_back, every_base, every_layer, look-Leaf, look-Cast, look-Stack}
use Rattle.stack_driver.specs.Chain.{BeginsWith, dtype_after}
use Rattle.stack_driver.specs.declared.Cast.{Cast}
use Rattle.cells.proofs.Laws.{IsWord-word_of_bytes, c_place-lt}
use Rattle.cells.specs.Dense.{DenseCells, IsDense}
use Rattle.cells.specs.Numbers.{IsWord}
use Rattle.cells.specs.Bytes.{byte_count, word_of_bytes}
use Rattle.chunk_forms.specs.Block as block
use Rattle.chunk_forms.specs.Faults.{sizes_in, header_len}
use Rattle.cells.specs.Places.{c_place, f_place, IsInside}
use Rattle.cells.specs.declared.dtype.Dtype.{Dtype}
use Rattle.cells.specs.declared.dtype.Dtype.TheVariants.{U8}
use Rattle.chunk_forms.proofs.Laws.{IsWord-zero}
use Rattle.chunk_forms.specs.Metadata.{IsMetadata, dtype_of, fill_of}
use Rattle.chunk_forms.specs.Words.{is_inside, stored_word, unless_damaged, chunk_fault, spelled_word}
use Rattle.chunk_forms.specs.declared.form.Damage.{Damage}
use Rattle.chunk_forms.specs.declared.form.Form.{Form}
use Rattle.chunk_forms.specs.declared.form.Form.TheVariants as form
use Rattle.stack_driver.specs.Transforms.{DomainAndMaps}
use Rattle.stack_driver.specs.Values.{value_at}
use Rattle.kv_face.specs.Store.{Contents}
use Rattle.stack_driver.proofs.Layers.{stack_node}
use Rattle.stack_driver.specs.Conditions.{HasKind, AreLayers, IsNode, IsView}
use Rattle.stack_driver.specs.References.{Reference}
use Rattle.stack_driver.specs.Targets.{Cell, is_cell, Target, inwards, in_shape, has_index}
use Rattle.stack_driver.specs.Views.{Look, look_of, leaf_target, cast_target, last_target, target_of, targets_of}
use Rattle.stack_driver.specs.declared.error.TargetError.{TargetError}
use Rattle.stack_driver.specs.declared.error.TargetError.TheVariants.{Uncovered}
use Rattle.stack_driver.specs.declared.view.View.{View, every_here-View, ind-View, roll-View, map-View}
use Rattle.stack_driver.specs.declared.view.View.TheOpen.{View-F}
use Rattle.stack_driver.specs.declared.view.View.TheVariants as view
use Rattle.history.specs.declared.array.ArrayInfo.{ArrayInfo}
use Rattle.history.specs.History.{History}
use Rattle.history.specs.Arrays.{Known, known_after, chunk_shape, form_of}
use Rattle.history.specs.Bound.{IsCommitKnown, AreCommitsKnown}
use Rattle.history.specs.Chunks.{chunk_of, chunk_index, within_chunk, chunk_key}
use Rattle.history.specs.Content.{content_after, word_by, cut_to, present_shape, word_outside}
use Rattle.history.specs.Start.{dense_word, word_at_start, opening_word, opening_word_in}
use Rattle.history.specs.Touch.{touches, touches_by}
use Rattle.history.specs.Legal.{IsLegal, IsLegalKind, IsLegalOp, AreWritten, IsAsMetadata, IsAsKept, viewed}
use Rattle.history.specs.Refs.{IsKnownRef, HasKnownRef, HasKnownRefs}
use Rattle.history.specs.Writes.{written, Put, Content, put, put_at, puts_of, puts_of_op}
use Rattle.history.specs.declared.event.Op.{Op}
use Rattle.history.specs.declared.event.Op.TheVariants.{Write, Read}
use Rattle.history.proofs.Histories.{after-more, each_history, legal_step}
use Rattle.history.proofs.Known.{known_split, known_good, fresh_number, no_array, some_inj, none_is_none}
use Rattle.history.proofs.Shapes.{inside-from}
use Rattle.history.proofs.Tests.{true_or_false}
use Rattle.history.proofs.Untouched.{content_touched, content_untouched, chunk_array, opens_cell}
use Rattle.std.proofs.lemmas.List.Elements.{All-get_or}
use Rattle.history.specs.declared.array.Home.{Home}
use Rattle.history.specs.declared.array.Home.TheVariants.{Zarr, N5, Zarr3, Local}
use Rattle.history.specs.declared.event.Event.{Event}
use Rattle.history.specs.declared.event.Kind.{Kind}
use Rattle.history.specs.declared.event.Kind.TheVariants.{Opened, Done, Resized, Fault}
use Rattle.history.proofs.Shrinks.{known_still}
use Rattle.history.proofs.Transactions.{all_with}
use Rattle.history.proofs.Written.{same_cells}
use Rattle.stack_driver.specs.Cells.{cells_of}

-- a target lies in an array, and the casts lead from that one's dtype to this one
pub record IsTyped (events : History) (dtype : Dtype) (t : Target) : Type 0 where
  pub known : Known
  pub is_known : known_after events t.cell.array ≡ Some known
  pub begins : BeginsWith known.info.dtype t.casts
  pub ends : dtype_after known.info.dtype t.casts ≡ dtype

Typed : History → View → Type 0
Typed events v = IsView v → HasKnownRefs events v → (index : List ℤ) (t : Target) → target_of v index ≡ Ok t → IsTyped events (look_of v).dtype t

begins_more : (d : Dtype) (casts : List Cast) (c : Cast) → BeginsWith d casts → dtype_after d casts ≡ c.from → BeginsWith d (casts ++ c ∷ [])
begins_more d [] c begins ends = sym ends
begins_more d (b ∷ casts) c begins ends = begins

ends_more : (d : Dtype) (casts : List Cast) (c : Cast) → dtype_after d (casts ++ c ∷ []) ≡ c.to
ends_more d [] c = refl
ends_more d (b ∷ casts) c = ends_more b.to casts c

module _ (start : Contents) (events : History) (legal : IsLegal start events) where
  typed_leaf : (array : Reference) (u : DomainAndMaps) → Typed events (view.Leaf array u)
  unfolding Typed
  typed_leaf array u valid refs index t is =
      let here : IsKnownRef events array = subst (HasKnownRef events) (view.outs-Leaf array u) (every_here-View (HasKnownRef events) (view.Leaf array u) refs) in
      told here (in_shape 0 (value_at u index) array.shape) (sym (ap (λ (l : Look). l.target index) (look-Leaf array u)) ∙ is)
    where
      told : IsKnownRef events array → (r : Result (List ℕ) ℕ) → leaf_target array r ≡ Ok t → IsTyped events (look_of (view.Leaf array u)).dtype t
      told ref (Err d) g = absurd (cc)
      told ref (Ok i) g =
          let same : record { cell = record { array = array.number; index = i }; casts = [] } ≡ t = cc in
          let now = known_still start events array.number ref.seen ref.array legal ref.known in
          let dtype : now.0.info.dtype ≡ (look_of (view.Leaf array u)).dtype = ap (λ (k : ArrayInfo). k.dtype) now.2 ∙ sym (ap (λ (r : Reference). r.dtype) ref.same) ∙ sym (ap (λ (l : Look). l.dtype) (look-Leaf array u)) in
          subst (IsTyped events (look_of (view.Leaf array u)).dtype) same (record { known = now.0; is_known = now.1; begins = tt; ends = dtype })

  typed_cast : (to : Dtype) (base : View) → Typed events base → Typed events (view.Cast to base)
  unfolding Typed
  typed_cast to base rest valid refs index t is = told (target_of base index) refl (sym (ap (λ (l : Look). l.target index) (look-Cast to base)) ∙ is)
    where
      told : (r : Result Target TargetError) → target_of base index ≡ r → cast_target (record { from = (look_of base).dtype; to = to }) r ≡ Ok t → IsTyped events (look_of (view.Cast to base)).dtype t
      told (Err e) f g = absurd (cc)
      told (Ok u) f g =
          let c : Cast = record { from = (look_of base).dtype; to = to } in
          let same : record u { casts = u.casts ++ c ∷ [] } ≡ t = cc in
          let inner = rest (every_base IsNode to base valid) (every_base (HasKnownRef events) to base refs) index u f in
          subst (IsTyped events (look_of (view.Cast to base)).dtype) same
          (record {
            known = inner.known;
            is_known = inner.is_known;
            begins = begins_more inner.known.info.dtype u.casts c inner.begins inner.ends;
            ends = ends_more inner.known.info.dtype u.casts c ∙ sym (ap (λ (l : Look). l.dtype) (look-Cast to base));
          })

  typed_layers : (ys : List ((z : View) × Typed events z)) (dtype : Dtype) (rank : ℕ) → AllByRecursion (HasKind dtype rank) (map (λ (y : (z : View) × Typed events z). y.0) ys) → AllByRecursion IsView (map (λ (y : (z : View) × Typed events z). y.0) ys)
      → AllByRecursion (HasKnownRefs events) (map (λ (y : (z : View) × Typed events z). y.0) ys) → (x : List ℤ) (found : Result Target TargetError) (t : Target) → (found ≡ Ok t → IsTyped events dtype t)
      → last_target (map look_of (map (λ (y : (z : View) × Typed events z). y.0) ys)) x found ≡ Ok t → IsTyped events dtype t
  unfolding Typed
  typed_layers [] dtype rank alike valid refs x found t so is = so is
  typed_layers (y ∷ ys) dtype rank alike valid refs x found t so is =
      typed_layers ys dtype rank alike.1 valid.1 refs.1 x (cond (has_index (look_of y.0).dims x) ((look_of y.0).target x) found) t (chosen (has_index (look_of y.0).dims x)) is
    where
      chosen : (b : Bool) → cond b ((look_of y.0).target x) found ≡ Ok t → IsTyped events dtype t
      chosen true e = subst (λ d. IsTyped events d t) alike.0.dtype_is (y.1 valid.0 refs.0 x t e)
      chosen false e = so e

  stack_dtype : (layers : List View) (u : DomainAndMaps) (rank : ℕ) (node : AreLayers layers rank) → (look_of (view.Stack layers u)).dtype ≡ node.dtype
  stack_dtype [] u rank node = absurd (let some = node.some in omega (arith, some))
  stack_dtype (l ∷ ls) u rank node = ap (λ (k : Look). k.dtype) (look-Stack (l ∷ ls) u) ∙ node.alike.0.dtype_is

  typed_step : (x : View-F View) (y : View-F ((z : View) × Typed events z)) → map-View ((z : View) × Typed events z) View (λ e. e.0) y ≡ x → Typed events (roll-View x)
  unfolding Typed
  typed_step x (View-F.Leaf array u) e = subst (λ z. Typed events (roll-View z)) e (subst (Typed events) (sym (view.rolls-Leaf array u)) (typed_leaf array u))
  typed_step x (View-F.Cast to p) e = subst (λ z. Typed events (roll-View z)) e (subst (Typed events) (sym (view.rolls-Cast to p.0)) (typed_cast to p.0 p.1))
  typed_step x (View-F.Stack ys u) e =
      let layers : List View = map (λ (y : (z : View) × Typed events z). y.0) ys in
      subst (λ z. Typed events (roll-View z)) e
      (subst (Typed events) (sym (view.rolls-Stack layers u))
      (λ valid refs index t is.
      let node = stack_node layers u valid in
      subst (λ d. IsTyped events d t) (sym (stack_dtype layers u (length u.maps) node))
      (typed_layers ys node.dtype (length u.maps) node.alike (every_layer IsNode layers u valid) (every_layer (HasKnownRef events) layers u refs) (value_at u index) (Err Uncovered) t (λ none. absurd (cc)) (sym (ap (λ (l : Look). l.target index) (look-Stack layers u)) ∙ is))))

  typed : (v : View) → Typed events v
  typed v = ind-View (Typed events) typed_step v

-- a word is put at a cell of its dtype
abbrev pub IsPutTyped : History → Put → Type 0
IsPutTyped events p = (k : Known) → known_after events p.0.array ≡ Some k → IsWord k.info.dtype p.1

typed_puts : (start : Contents) (events : History) (view : View) (ts : List (Result Target TargetError)) (words : List ℕ) → IsLegal start events → AllByRecursion (λ r. (t : Target) → r ≡ Ok t → IsTyped events (look_of view).dtype t) ts → AllByRecursion (IsWord (look_of view).dtype) words
    → AllByRecursion (IsPutTyped events) (filter_map put_at (zip ts words))
typed_puts start events view [] words legal each are = tt
typed_puts start events view (t ∷ ts) [] legal each are = tt
typed_puts start events view (Err e ∷ ts) (w ∷ ws) legal each are = typed_puts start events view ts ws legal each.1 are.1
typed_puts start events view (Ok t ∷ ts) (w ∷ ws) legal each are = (first, typed_puts start events view ts ws legal each.1 are.1)
  where
    first : (k : Known) → known_after events t.cell.array ≡ Some k → IsWord k.info.dtype (inwards t.casts w)
    first k is =
        let here = each.0 t refl in
        let same : here.known ≡ k = some_inj here.known k (sym here.is_known ∙ is) in
        subst (λ (l : Known). IsWord l.info.dtype (inwards t.casts w)) same (IsWord-word_back t.casts here.known.info.dtype w here.begins (subst (λ d. IsWord d w) (sym here.ends) are.0))

typed_targets : (start : Contents) (events : History) (view : View) → IsLegal start events → IsView view → HasKnownRefs events view → (cells : List (List ℤ)) → AllByRecursion (λ r. (t : Target) → r ≡ Ok t → IsTyped events (look_of view).dtype t) (map (target_of view) cells)
unfolding Typed
typed_targets start events view legal valid refs [] = tt
typed_targets start events view legal valid refs (x ∷ xs) = (typed start events legal view valid refs x, typed_targets start events view legal valid refs xs)

-- each target of a view of known arrays
pub all_targets : (start : Contents) (events : History) (view : View) → IsLegal start events → IsView view → HasKnownRefs events view → AllByRecursion (λ r. (t : Target) → r ≡ Ok t → IsTyped events (look_of view).dtype t) (targets_of view)
unfolding targets_of
all_targets start events view legal valid refs = typed_targets start events view legal valid refs (cells_of (look_of view).dims)

-- what operations put
pub typed_ops : (start : Contents) (events : History) (ops : List Op) → IsLegal start events → AllByRecursion (λ op. IsView (viewed op) × HasKnownRefs events (viewed op)) ops → AllByRecursion AreWritten ops → AllByRecursion (IsPutTyped events) (puts_of ops)
typed_ops start events [] legal known each = tt
typed_ops start events (Write view words ∷ ops) legal known each =
    all_with (IsPutTyped events) (puts_of_op (Write view words)) (puts_of ops) (typed_puts start events view (targets_of view) words legal (all_targets start events view legal known.0.0 known.0.1) each.0) (typed_ops start events ops legal known.1 each.1)
typed_ops start events (Read view words ∷ ops) legal known each = typed_ops start events ops legal known.1 each.1

legal_words : (events : History) (ops : List Op) → AllByRecursion (IsLegalOp events) ops → AllByRecursion AreWritten ops
legal_words events [] each = tt
legal_words events (op ∷ ops) each = (each.0.words, legal_words events ops each.1)

-- a word, if there is one, is of the dtype
abbrev pub IsOf : Dtype → Option ℕ → Type 0
IsOf dtype o = (w : ℕ) → o ≡ Some w → IsWord dtype w

pub some_of : (dtype : Dtype) (w : ℕ) → IsWord dtype w → IsOf dtype (Some w)
some_of dtype w word v is = subst (IsWord dtype) (some_inj w v is) word

pub none_of : (dtype : Dtype) → IsOf dtype None
none_of dtype w is = absurd (none_is_none w is)

-- a cell that is put is of the dtype too
pub puts_of_dtype : (events : History) (ps : List Put) (x : Cell) (k : Known) (f : Content) → known_after events x.array ≡ Some k → AllByRecursion (IsPutTyped events) ps → IsOf k.info.dtype (f x) → IsOf k.info.dtype (fold put f ps x)
puts_of_dtype events [] x k f is each old = old
puts_of_dtype events (p ∷ ps) x k f is each old = puts_of_dtype events ps x k (put f p) is each.1 (first (is_cell p.0 x) refl)
  where
    first : (b : Bool) → is_cell p.0 x ≡ b → IsOf k.info.dtype (cond b (Some p.1) (f x))
    first true here = some_of k.info.dtype p.1 (each.0 k (ap (λ (c : Cell). known_after events c.array) (same_cells p.0 x here) ∙ is))
    first false other = old

zarr_fill : (dtype : Dtype) (fill : Option ℕ) → ForSome fill (IsWord dtype) → IsWord dtype (unwrap_or fill 0)
zarr_fill dtype None each = IsWord-zero dtype
zarr_fill dtype (Some w) each = each w refl

fill_word : (f : Form) → IsMetadata f → IsWord (dtype_of f) (fill_of f)
fill_word (form.Zarr meta) valid = zarr_fill meta.dtype meta.fill valid.fill
fill_word (form.N5 meta) valid = IsWord-zero meta.dtype
fill_word (form.Zarr3 meta) valid = valid.fill
fill_word form.Local valid = IsWord-zero U8

-- what bytes spell is a word of the dtype
spelled_is : (f : Form) (bytes index : List ℕ) → IsWord (dtype_of f) (spelled_word f bytes index)
spelled_is (form.Zarr meta) bytes index = IsWord-word_of_bytes meta.dtype meta.big _
spelled_is (form.N5 meta) bytes index = either (is_inside (sizes_in (length meta.block) bytes) index)
  where
    either : (b : Bool) → IsWord meta.dtype (cond b (word_of_bytes meta.dtype true (block.element_bytes (byte_count meta.dtype) (drop (header_len (length meta.block)) bytes) (f_place (sizes_in (length meta.block) bytes) index))) 0)
    either true = IsWord-word_of_bytes meta.dtype true _
    either false = IsWord-zero meta.dtype
spelled_is (form.Zarr3 meta) bytes index = IsWord-word_of_bytes meta.dtype meta.big _
spelled_is form.Local bytes index = IsWord-zero U8

stored_is : (f : Form) (fill : ℕ) (bytes : Option (List ℕ)) (index : List ℕ) → IsWord (dtype_of f) fill → IsOf (dtype_of f) (stored_word f fill bytes index)
stored_is f fill None index is = some_of (dtype_of f) fill is
stored_is f fill (Some bytes) index is = by (chunk_fault f bytes)
  where
    by : (o : Option Damage) → IsOf (dtype_of f) (unless_damaged o (spelled_word f bytes index))
    by None = some_of (dtype_of f) (spelled_word f bytes index) (spelled_is f bytes index)
    by (Some cause) = none_of (dtype_of f)

dense_is : (cells : DenseCells) (x : Cell) → IsDense cells → IsOf cells.dtype (dense_word cells x.index)
dense_is cells x valid = by (is_inside cells.shape x.index) refl
  where
    by : (b : Bool) → is_inside cells.shape x.index ≡ b → IsOf cells.dtype (cond b (Some (slice_index cells.words (c_place cells.shape x.index))) None)
    by true e =
        let within : IsInside cells.shape x.index = inside-from cells.shape x.index e in
        let low : c_place cells.shape x.index < length cells.words = subst (λ n. c_place cells.shape x.index < n) (sym valid.full) (c_place-lt cells.shape x.index within) in
        some_of cells.dtype (slice_index cells.words (c_place cells.shape x.index)) (All-get_or (IsWord cells.dtype) cells.words (c_place cells.shape x.index) 0 low valid.of_dtype)
    by false e = none_of cells.dtype

fill_is : (k : Known) (f : Form) → IsAsMetadata k.info f → IsWord k.info.dtype k.info.fill
fill_is k f kept = subst (λ d. IsWord d k.info.fill) (sym kept.dtype) (subst (IsWord (dtype_of f)) (sym kept.fill) (fill_word f kept.valid))

-- the word that an array has at a cell when it is opened
kept_is : (start : Contents) (k : Known) (x : Cell) → IsAsMetadata k.info (form_of k.info.home) → IsOf k.info.dtype (word_at_start start k x)
kept_is start k x kept =
    let fill : IsWord (dtype_of (form_of k.info.home)) k.info.fill = subst (IsWord (dtype_of (form_of k.info.home))) (sym kept.fill) (fill_word (form_of k.info.home) kept.valid) in
    subst (λ d. IsOf d (word_at_start start k x)) (sym kept.dtype)
    (stored_is (form_of k.info.home) k.info.fill (finmap.get start (chunk_key k (chunk_index (chunk_shape k.info) x.index))) (within_chunk (chunk_shape k.info) x.index) fill)

opens_is : (start : Contents) (k : Known) (home : Home) (x : Cell) → k.info.home ≡ home → IsAsKept k.info home → IsOf k.info.dtype (opening_word_in start k home x)
opens_is start k (Zarr mount path meta) x is kept = kept_is start k x (subst (λ h. IsAsMetadata k.info (form_of h)) (sym is) kept)
opens_is start k (N5 mount path meta) x is kept = kept_is start k x (subst (λ h. IsAsMetadata k.info (form_of h)) (sym is) kept)
opens_is start k (Zarr3 mount path meta) x is kept = kept_is start k x (subst (λ h. IsAsMetadata k.info (form_of h)) (sym is) kept)
opens_is start k (Local cells) x is kept = subst (λ d. IsOf d (dense_word cells x.index)) (sym kept.dtype) (dense_is cells x kept.valid)

outside_is : (k : Known) (home : Home) → IsAsKept k.info home → IsOf k.info.dtype (word_outside home k.info.fill)
outside_is k (Zarr mount path meta) kept = some_of k.info.dtype k.info.fill (fill_is k (form.Zarr meta) kept)
outside_is k (N5 mount path meta) kept = some_of k.info.dtype k.info.fill (fill_is k (form.N5 meta) kept)
outside_is k (Zarr3 mount path meta) kept = some_of k.info.dtype k.info.fill (fill_is k (form.Zarr3 meta) kept)
outside_is k (Local cells) kept = none_of k.info.dtype

cut_is : (k : Known) (shape : List ℕ) (x : Cell) (word : Option ℕ) → IsAsKept k.info k.info.home → IsOf k.info.dtype word → IsOf k.info.dtype (cut_to (Some k) shape x word)
cut_is k shape x word kept old = either (is_inside shape x.index)
  where
    either : (b : Bool) → IsOf k.info.dtype (cond b word (word_outside k.info.home k.info.fill))
    either true = old
    either false = outside_is k k.info.home kept

commits_more : (events : History) (e : Event) → AreCommitsKnown (events ++ e ∷ []) ≡ (AreCommitsKnown events × IsCommitKnown events e.kind)
commits_more events e = after-more {A = Type 0} (λ before f known. known × IsCommitKnown before f.kind) (Unit {0}) events e

commits_step : (events : History) (e : Event) → AreCommitsKnown (events ++ e ∷ []) → AreCommitsKnown events × IsCommitKnown events e.kind
commits_step events e = subst (λ (P : Type 0). P) (commits_more events e)

module _ (start : Contents) (h : History) (x : Cell) (k : Known) (is : known_after h x.array ≡ Some k) (legal : IsLegal start h) (old : IsOf k.info.dtype (content_after start h x)) where
  touched_is : (kind : Kind) → IsLegalKind start h kind → IsCommitKnown h kind → touches_by h kind (chunk_of h x) ≡ true → IsOf k.info.dtype (word_by start h kind x (content_after start h x))
  touched_is (Opened info) next known t =
      let here : (info.number == x.array) ≡ true = ap (λ n. info.number == n) (sym (chunk_array (known_after h x.array) x)) ∙ t in
      let clash : true ≡ false = sym here ∙ fresh_number start h info x.array k legal next is in
      absurd (cc)
  touched_is (Done line mode ops key) next known t =
      let good = known_good start x.array h legal k is in
      let new : IsOf k.info.dtype (written ops (λ y. content_after start h x) x) = puts_of_dtype h (puts_of ops) x k (λ y. content_after start h x) is (typed_ops start h ops legal known (legal_words h ops next.each)) old in
      subst (λ o. IsOf k.info.dtype (cut_to o (present_shape o) x (written ops (λ y. content_after start h x) x))) (sym is) (cut_is k k.shape x (written ops (λ y. content_after start h x) x) good.kept new)
  touched_is (Resized a shape) next known t =
      let good = known_good start x.array h legal k is in
      subst (λ o. IsOf k.info.dtype (cut_to o shape x (content_after start h x))) (sym is) (cut_is k shape x (content_after start h x) good.kept old)
  touched_is (Fault mount) next known t = absurd (cc)

  next_is : (e : Event) → IsLegalKind start h e.kind → IsCommitKnown h e.kind → IsOf k.info.dtype (content_after start (h ++ e ∷ []) x)
  next_is e next known = elim (true_or_false (touches h e (chunk_of h x))) [
    | inl t ↦ subst (IsOf k.info.dtype) (sym (content_touched start h e x t)) (touched_is e.kind next known t)
    | inr t ↦ subst (IsOf k.info.dtype) (sym (content_untouched start h e x t)) old
  ]

-- the word of a cell of an array, if it has one, is a word of the array's dtype, where commits are through views of known arrays
pub word_of_dtype : (start : Contents) (x : Cell) (events : History) → IsLegal start events → AreCommitsKnown events → (k : Known) → known_after events x.array ≡ Some k → IsOf k.info.dtype (content_after start events x)
word_of_dtype start x =
    each_history (λ h. IsLegal start h → AreCommitsKnown h → (k : Known) → known_after h x.array ≡ Some k → IsOf k.info.dtype (content_after start h x)) (λ legal known k is. absurd (no_array x.array k is))
    (λ h e before legal known k is.
    let parts = legal_step start h e legal in
    let commits = commits_step h e known in
    elim (known_split h e x.array k is) [
      | inl new ↦ (
          let good = known_good start x.array (h ++ e ∷ []) legal k is in
          let here : content_after start (h ++ e ∷ []) x ≡ opening_word start k x =
          content_touched start h e x (opens_cell h e new.0 x new.1 new.2) ∙ ap (λ kind. word_by start h kind x (content_after start h x)) new.1 ∙ ap (λ (l : Known). opening_word start l x) (sym new.3) in
          subst (IsOf k.info.dtype) (sym here) (opens_is start k k.info.home x refl good.kept))
      | inr (inl cut) ↦
          subst (λ (l : Known). IsOf l.info.dtype (content_after start (h ++ e ∷ []) x)) (sym cut.4) (next_is start h x cut.0 cut.3 parts.0 (before parts.0 commits.0 cut.0 cut.3) e parts.1 commits.1)
      | inr (inr old) ↦ next_is start h x k old parts.0 (before parts.0 commits.0 k old) e parts.1 commits.1
    ])
