-- Each cell that is present has a word, where the bytes of its chunk at the start aren't damaged.
use Rattle.std.proofs.Common.{◌⊎◌, inl, inr, ◌≡◌, ℕ, List, [], ◌∷◌, ◌++◌, Bool, true, false, cond, Option, Some, None, refl, sym, ap, subst, ◌∙◌, eqb-true}
use Rattle.std.specs.Prelude.{◌==◌, slice_index}
use Rattle.std.specs.FinMap as finmap
use Rattle.cells.proofs.Laws.{both}
use Rattle.cells.specs.Places.{c_place}
use Rattle.chunk_forms.specs.Words.{is_inside, stored_word, stored_fault, unless_damaged, spelled_word}
use Rattle.chunk_forms.specs.declared.form.Form.{Form}
use Rattle.kv_face.specs.Store.{Contents}
use Rattle.stack_driver.specs.Targets.{Cell}
use Rattle.history.specs.declared.array.Home.{Home}
use Rattle.history.specs.declared.array.Home.TheVariants.{Zarr, N5, Zarr3, Local}
use Rattle.history.specs.declared.event.Event.{Event}
use Rattle.history.specs.declared.event.Kind.{Kind}
use Rattle.history.specs.declared.event.Kind.TheVariants.{Opened, Done, Resized, Fault}
use Rattle.history.specs.History.{History}
use Rattle.history.specs.Arrays.{Known, known_after, chunk_shape, is_local, form_of}
use Rattle.history.specs.Chunks.{chunk_of, chunk_in, chunk_index, within_chunk, chunk_key}
use Rattle.history.specs.Content.{content_after, world_after, word_by, cut_to, present_shape, word_outside}
use Rattle.history.specs.Damaged.{IsSound}
use Rattle.history.specs.Legal.{IsLegal, IsLegalKind, IsLegalResize, IsAsKept, is_present, is_present_in}
use Rattle.history.specs.Resizes.{is_cut_in}
use Rattle.history.specs.Start.{opening_word, opening_word_in}
use Rattle.history.specs.Touch.{touches, touches_by}
use Rattle.history.specs.Writes.{puts_of, written}
use Rattle.history.proofs.Histories.{each_history, legal_step}
use Rattle.history.proofs.Known.{known_split, known_good, fresh_number, no_array, none_is_none}
use Rattle.history.proofs.Presence.{world_from}
use Rattle.history.proofs.Tests.{true_or_false}
use Rattle.history.proofs.Untouched.{content_touched, content_untouched, chunk_array, opens_cell}
use Rattle.history.proofs.Valid.{local_shape}
use Rattle.history.proofs.Written.{else_word, last_put, written-is}

abbrev pub IsSome : Option ℕ → Type 0
IsSome o = (w : ℕ) × (o ≡ Some w)

some_else : (l : Option ℕ) (w : ℕ) → IsSome (else_word l (Some w))
some_else None w = (w, refl)
some_else (Some v) w = (v, refl)

-- a word of a local array lies inside its shape
dense_inside : (b : Bool) (w v : ℕ) → cond b (Some w) None ≡ Some v → b ≡ true
dense_inside true w v is = refl
dense_inside false w v is = absurd (none_is_none v is)

opened_inside : (start : Contents) (k : Known) (home : Home) (x : Cell) → is_local home ≡ true → IsAsKept k.info home → IsSome (opening_word_in start k home x) → is_inside k.info.shape x.index ≡ true
opened_inside start k (Zarr mount path meta) x local kept word = absurd (cc)
opened_inside start k (N5 mount path meta) x local kept word = absurd (cc)
opened_inside start k (Zarr3 mount path meta) x local kept word = absurd (cc)
opened_inside start k (Local cells) x local kept word = ap (λ s. is_inside s x.index) kept.shape ∙ dense_inside (is_inside cells.shape x.index) (slice_index cells.words (c_place cells.shape x.index)) word.0 word.1

outside_some : (home : Home) (fill : ℕ) → is_local home ≡ false → IsSome (word_outside home fill)
outside_some (Zarr mount path meta) fill stored = (fill, refl)
outside_some (N5 mount path meta) fill stored = (fill, refl)
outside_some (Zarr3 mount path meta) fill stored = (fill, refl)
outside_some (Local start) fill stored = absurd (cc)

-- what is cut off has the fill
cut_some : (k : Known) (shape : List ℕ) (x : Cell) (word : Option ℕ) → (is_inside shape x.index ≡ true) ⊎ (is_local k.info.home ≡ false) → IsSome word → IsSome (cut_to (Some k) shape x word)
cut_some k shape x word where_is some = told (is_inside shape x.index) refl
  where
    told : (b : Bool) → is_inside shape x.index ≡ b → IsSome (cond b word (word_outside k.info.home k.info.fill))
    told true e = some
    told false e = elim where_is [ inl inside ↦ (let clash : true ≡ false = sym inside ∙ e in absurd (cc)) | inr stored ↦ outside_some k.info.home k.info.fill stored ]

-- a cell that had a word when its array was opened has one after each event
module _ (start : Contents) (h : History) (x : Cell) (k : Known) (is : known_after h x.array ≡ Some k) (legal : IsLegal start h) (began : IsSome (opening_word start k x)) (word : IsSome (content_after start h x)) where
  touched_word : (kind : Kind) → IsLegalKind start h kind → touches_by h kind (chunk_of h x) ≡ true → IsSome (word_by start h kind x (content_after start h x))
  touched_word (Opened info) next t =
      let here : (info.number == x.array) ≡ true = ap (λ n. info.number == n) (sym (chunk_array (known_after h x.array) x)) ∙ t in
      let clash : true ≡ false = sym here ∙ fresh_number start h info x.array k legal next is in
      absurd (cc)
  touched_word (Done line mode ops key) next t =
      let good = known_good start x.array h legal k is in
      let all = some_else (last_put (puts_of ops) x) word.0 in
      let new : IsSome (written ops (λ y. content_after start h x) x) = (all.0, written-is ops (λ y. content_after start h x) x ∙ ap (else_word (last_put (puts_of ops) x)) word.1 ∙ all.1) in
      let where_is : (is_inside k.shape x.index ≡ true) ⊎ (is_local k.info.home ≡ false) = elim (true_or_false (is_local k.info.home)) [
        | inl local ↦ inl (ap (λ s. is_inside s x.index) (local_shape start x.array h legal k is local) ∙ opened_inside start k k.info.home x local good.kept began)
        | inr stored ↦ inr stored
      ] in
      subst (λ o. IsSome (cut_to o (present_shape o) x (written ops (λ y. content_after start h x) x))) (sym is) (cut_some k k.shape x (written ops (λ y. content_after start h x) x) where_is new)
  touched_word (Resized a shape) next t =
      let here : a ≡ x.array = eqb-true a x.array (ap (λ n. a == n) (sym (chunk_array (known_after h x.array) x)) ∙ (both (a == (chunk_of h x).array) (is_cut_in (known_after h (chunk_of h x).array) shape (chunk_of h x).index) t).0) in
      let there : known_after h a ≡ Some k = ap (known_after h) here ∙ is in
      let resize : IsLegalResize (Some k) shape = subst (λ o. IsLegalResize o shape) there next in
      subst (λ o. IsSome (cut_to o shape x (content_after start h x))) (sym is) (cut_some k shape x (content_after start h x) (inr resize.stored) word)
  touched_word (Fault mount) next t = absurd (cc)

  next_word : (e : Event) → IsLegalKind start h e.kind → IsSome (content_after start (h ++ e ∷ []) x)
  next_word e next = elim (true_or_false (touches h e (chunk_of h x))) [
    | inl t ↦ let new = touched_word e.kind next t in (new.0, content_touched start h e x t ∙ new.1)
    | inr t ↦ (word.0, content_untouched start h e x t ∙ word.1)
  ]

-- a cell that had a word when its array was opened has one ever after
pub word_after : (start : Contents) (x : Cell) (events : History) → IsLegal start events → (k : Known) → known_after events x.array ≡ Some k → IsSome (opening_word start k x) → IsSome (content_after start events x)
word_after start x =
    each_history (λ h. IsLegal start h → (k : Known) → known_after h x.array ≡ Some k → IsSome (opening_word start k x) → IsSome (content_after start h x)) (λ legal k is began. absurd (no_array x.array k is))
    (λ h e before legal k is began.
    let parts = legal_step start h e legal in
    elim (known_split h e x.array k is) [
      | inl new ↦ (
        began.0,
        content_touched start h e x (opens_cell h e new.0 x new.1 new.2) ∙ ap (λ kind. word_by start h kind x (content_after start h x)) new.1 ∙ ap (λ (l : Known). opening_word start l x) (sym new.3) ∙ began.1,
      )
      | inr (inl cut) ↦
          let early : IsSome (opening_word start cut.0 x) = (began.0, sym (ap (λ (l : Known). opening_word start l x) cut.4) ∙ began.1) in
          next_word start h x cut.0 cut.3 parts.0 early (before parts.0 cut.0 cut.3 early) e parts.1
      | inr (inr old) ↦ next_word start h x k old parts.0 began (before parts.0 k old began) e parts.1
    ])

stored_some : (form : Form) (fill : ℕ) (bytes : Option (List ℕ)) (index : List ℕ) → stored_fault form bytes ≡ None → IsSome (stored_word form fill bytes index)
stored_some form fill None index sound = (fill, refl)
stored_some form fill (Some bytes) index sound = (spelled_word form bytes index, ap (λ o. unless_damaged o (spelled_word form bytes index)) sound)

opens_some : (start : Contents) (k : Known) (home : Home) (x : Cell) → k.info.home ≡ home → IsAsKept k.info home → IsSound start k (record { array = x.array; index = chunk_index (chunk_shape k.info) x.index }) → (is_local home ≡ true → is_inside k.info.shape x.index ≡ true)
    → IsSome (opening_word_in start k home x)
opens_some start k (Zarr mount path meta) x is kept sound inside = stored_some (form_of k.info.home) k.info.fill (finmap.get start (chunk_key k (chunk_index (chunk_shape k.info) x.index))) (within_chunk (chunk_shape k.info) x.index) (sound (ap is_local is))
opens_some start k (N5 mount path meta) x is kept sound inside = stored_some (form_of k.info.home) k.info.fill (finmap.get start (chunk_key k (chunk_index (chunk_shape k.info) x.index))) (within_chunk (chunk_shape k.info) x.index) (sound (ap is_local is))
opens_some start k (Zarr3 mount path meta) x is kept sound inside = stored_some (form_of k.info.home) k.info.fill (finmap.get start (chunk_key k (chunk_index (chunk_shape k.info) x.index))) (within_chunk (chunk_shape k.info) x.index) (sound (ap is_local is))
opens_some start k (Local cells) x is kept sound inside =
    (slice_index cells.words (c_place cells.shape x.index), ap (λ b. cond b (Some (slice_index cells.words (c_place cells.shape x.index))) None) (ap (λ s. is_inside s x.index) (sym kept.shape) ∙ inside refl))

-- a cell in its array's present shape has a word, where the bytes of its chunk at the start are none that are damaged
pub present_word : (start : Contents) (events : History) (x : Cell) (k : Known) → IsLegal start events → known_after events x.array ≡ Some k → is_inside k.shape x.index ≡ true → IsSound start k (chunk_of events x) → IsSome (world_after start events x)
present_word start events x k legal is inside sound =
    let good = known_good start x.array events legal k is in
    let chunk : chunk_of events x ≡ record { array = x.array; index = chunk_index (chunk_shape k.info) x.index } = ap (λ o. chunk_in o x) is in
    let began = opens_some start k k.info.home x refl good.kept (subst (IsSound start k) chunk sound) (λ local. ap (λ s. is_inside s x.index) (sym (local_shape start x.array events legal k is local)) ∙ inside) in
    let word = word_after start x events legal k is began in
    (word.0, world_from (known_after events x.array) x (content_after start events x) word.0 (ap (λ o. is_present_in o x) is ∙ inside) word.1)

known_of : (o : Option Known) (x : Cell) → is_present_in o x ≡ true → (k : Known) × (o ≡ Some k) × (is_inside k.shape x.index ≡ true)
known_of None x present = absurd (cc)
known_of (Some k) x present = (k, refl, present)

-- over a store that starts empty each does
pub word_over_empty : (events : History) (x : Cell) → IsLegal finmap.empty events → is_present events x ≡ true → IsSome (world_after finmap.empty events x)
word_over_empty events x legal present =
    let k = known_of (known_after events x.array) x present in
    present_word finmap.empty events x k.0 legal k.1 k.2 (λ stored. ap (stored_fault (form_of k.0.info.home)) (finmap.get-empty _ (chunk_key k.0 (chunk_of events x).index)))
