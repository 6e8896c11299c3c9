-- Over a store that begins empty, a stored array has its fill past its shape.
use Rattle.std.proofs.Common.{◌≡◌, ℕ, List, [], ◌∷◌, ◌++◌, true, false, cond, Option, Some, None, inl, inr, refl, sym, ap, ◌∙◌, eq-eqb}
use Rattle.std.specs.Prelude.{◌==◌, slice_index}
use Rattle.std.specs.FinMap as finmap
use Rattle.cells.specs.Places.{c_place}
use Rattle.chunk_forms.specs.Words.{is_inside, stored_word}
use Rattle.stack_driver.specs.Targets.{Cell}
use Rattle.history.specs.declared.array.ArrayInfo.{ArrayInfo}
use Rattle.history.specs.declared.array.Home.{Home}
use Rattle.history.specs.declared.array.Home.TheVariants.{Zarr, N5, Zarr3, Local}
use Rattle.history.specs.declared.event.Kind.{Kind}
use Rattle.history.specs.declared.event.Kind.TheVariants.{Opened, Done, Resized, Fault}
use Rattle.history.specs.declared.event.Event.{Event}
use Rattle.history.specs.History.{History}
use Rattle.history.specs.Arrays.{Known, known_after, known_step, known_reshaped, chunk_shape, form_of}
use Rattle.history.specs.Chunks.{chunk_of, chunk_index, within_chunk, chunk_key}
use Rattle.history.specs.Resizes.{is_cut_in}
use Rattle.history.specs.Touch.{touches, touches_by}
use Rattle.history.specs.Start.{opening_word, opening_word_in, word_at_start}
use Rattle.history.specs.Writes.{written}
use Rattle.history.specs.Content.{content_after, word_by, cut_to, present_shape, word_outside}
use Rattle.history.specs.Plain.{new_word}
use Rattle.history.specs.Legal.{IsLegal, IsLegalKind, IsAsKept, is_present_in}
use Rattle.history.proofs.Tests.{true_or_false}
use Rattle.history.proofs.Histories.{each_history, known_after-more, legal_step}
use Rattle.history.proofs.Known.{known_split, opened_as, some_inj, none_is_none, no_array}
use Rattle.history.proofs.Untouched.{content_touched, content_untouched, chunk_array}
use Rattle.history.proofs.Presence.{present_step}
use Rattle.cells.proofs.Laws.{both}

none_at : (k : Known) (x : Cell) → word_at_start finmap.empty k x ≡ Some k.info.fill
none_at k x =
    ap (λ o. stored_word (form_of k.info.home) k.info.fill o (within_chunk (chunk_shape k.info) x.index)) (finmap.get-empty _ (chunk_key k (chunk_index (chunk_shape k.info) x.index)))

opens_in : (k : Known) (home : Home) (x : Cell) → opening_word_in finmap.empty k home x ≡ new_word k.info home x
opens_in k (Zarr mount path meta) x = none_at k x
opens_in k (N5 mount path meta) x = none_at k x
opens_in k (Zarr3 mount path meta) x = none_at k x
opens_in k (Local start) x = refl

-- over an empty store a new array has its fill, or its own words
pub opens_with : (k : Known) (x : Cell) → opening_word finmap.empty k x ≡ new_word k.info k.info.home x
opens_with k x = opens_in k k.info.home x

outside_new : (info : ArrayInfo) (home : Home) (x : Cell) → IsAsKept info home → is_inside info.shape x.index ≡ false → new_word info home x ≡ word_outside home info.fill
outside_new info (Zarr mount path meta) x kept out = refl
outside_new info (N5 mount path meta) x kept out = refl
outside_new info (Zarr3 mount path meta) x kept out = refl
outside_new info (Local start) x kept out = ap (λ b. cond b (Some (slice_index start.words (c_place start.shape x.index))) None) (ap (λ s. is_inside s x.index) (sym kept.shape) ∙ out)

cut_outside : (k : Known) (shape : List ℕ) (x : Cell) (word : Option ℕ) → is_inside shape x.index ≡ false → cut_to (Some k) shape x word ≡ word_outside k.info.home k.info.fill
cut_outside k shape x word out = ap (λ b. cond b word (word_outside k.info.home k.info.fill)) out

-- the word of a cell past its array's shape is the one outside
abbrev pub IsOutsideWord : Option Known → Cell → Option ℕ → Type 0
IsOutsideWord known x word = (k : Known) → known ≡ Some k → is_inside k.shape x.index ≡ false → word ≡ word_outside k.info.home k.info.fill

opened_now : (h : History) (info : ArrayInfo) (a : ℕ) (known : Option Known) (k : Known) → (info.number == a) ≡ true → cond (info.number == a) (Some (opened_as h info)) known ≡ Some k → opened_as h info ≡ k
opened_now h info a known k here is = some_inj (opened_as h info) k (ap (λ b. cond b (Some (opened_as h info)) known) (sym here) ∙ is)

resized_outside : (shape : List ℕ) (x : Cell) (word : Option ℕ) (known : Option Known) (k : Known) → known_reshaped shape known ≡ Some k → is_inside k.shape x.index ≡ false → cut_to known shape x word ≡ word_outside k.info.home k.info.fill
resized_outside shape x word None k is out = absurd (none_is_none k is)
resized_outside shape x word (Some old) k is out =
    let same : record old { shape = shape } ≡ k = some_inj (record old { shape = shape }) k is in
    let here : is_inside shape x.index ≡ false = ap (λ (l : Known). is_inside l.shape x.index) same ∙ out in
    cut_outside old shape x word here ∙ ap (λ (l : Known). word_outside l.info.home l.info.fill) same

touched_outside : (h : History) (kind : Kind) (x : Cell) (word : Option ℕ) → IsLegalKind finmap.empty h kind → touches_by h kind (chunk_of h x) ≡ true → IsOutsideWord (known_step x.array h kind (known_after h x.array)) x (word_by finmap.empty h kind x word)
touched_outside h (Opened info) x word legal t k is out =
    let here : (info.number == x.array) ≡ true = ap (λ a. info.number == a) (sym (chunk_array (known_after h x.array) x)) ∙ t in
    let same = opened_now h info x.array (known_after h x.array) k here is in
    let past : is_inside info.shape x.index ≡ false = ap (λ (l : Known). is_inside l.shape x.index) same ∙ out in
    opens_with (opened_as h info) x ∙ outside_new info info.home x legal.kept past ∙ ap (λ (l : Known). word_outside l.info.home l.info.fill) same
touched_outside h (Done line mode ops key) x word legal t k is out =
    ap (λ o. cut_to o (present_shape o) x (written ops (λ y. word) x)) is ∙ cut_outside k k.shape x (written ops (λ y. word) x) out
touched_outside h (Resized a shape) x word legal t k is out =
    let here : (a == x.array) ≡ true = ap (λ n. a == n) (sym (chunk_array (known_after h x.array) x)) ∙ (both (a == (chunk_of h x).array) (is_cut_in (known_after h (chunk_of h x).array) shape (chunk_of h x).index) t).0 in
    resized_outside shape x word (known_after h x.array) k (ap (λ b. cond b (known_reshaped shape (known_after h x.array)) (known_after h x.array)) (sym here) ∙ is) out
touched_outside h (Fault mount) x word legal t k is out = absurd (cc)

module _ (h : History) (e : Event) (x : Cell) (legal : IsLegal finmap.empty h) (next : IsLegalKind finmap.empty h e.kind) (t : touches h e (chunk_of h x) ≡ false) (k : Known) (is : known_after (h ++ e ∷ []) x.array ≡ Some k) (out : is_inside k.shape x.index ≡ false) where
  -- the cell was outside before
  was_outside : (old : Known) → known_after h x.array ≡ Some old → is_inside old.shape x.index ≡ false
  was_outside old known =
      elim (true_or_false (is_inside old.shape x.index)) [
        | inl inside ↦
            let present : is_present_in (known_after h x.array) x ≡ true = ap (λ o. is_present_in o x) known ∙ inside in
            let later = present_step finmap.empty h e.kind x legal next t present in
            let clash : true ≡ false = sym later ∙ ap (λ o. is_present_in o x) (sym (known_after-more h e x.array) ∙ is) ∙ out in
            absurd (cc)
        | inr gone ↦ gone
      ]

  untouched_outside : (word : Option ℕ) → IsOutsideWord (known_after h x.array) x word → word ≡ word_outside k.info.home k.info.fill
  untouched_outside word before =
      elim (known_split h e x.array k is) [
        | inl new ↦
            let touch : touches h e (chunk_of h x) ≡ true = ap (λ kind. touches_by h kind (chunk_of h x)) new.1 ∙ eq-eqb new.0.number (chunk_of h x).array (new.2 ∙ sym (chunk_array (known_after h x.array) x)) in
            let clash : true ≡ false = sym touch ∙ t in
            absurd (cc)
        | inr (inl cut) ↦ before cut.0 cut.3 (was_outside cut.0 cut.3) ∙ ap (λ (l : Known). word_outside l.info.home l.info.fill) (sym cut.4)
        | inr (inr old) ↦ before k old (was_outside k old)
      ]

-- over a store that begins empty, each cell past its array's shape has the fill, or in a local array no word
pub outside_word : (x : Cell) (events : History) → IsLegal finmap.empty events → IsOutsideWord (known_after events x.array) x (content_after finmap.empty events x)
outside_word x =
    each_history (λ h. IsLegal finmap.empty h → IsOutsideWord (known_after h x.array) x (content_after finmap.empty h x)) (λ legal k is out. absurd (no_array x.array k is))
    (λ h e before legal k is out.
    let parts = legal_step finmap.empty h e legal in
    elim (true_or_false (touches h e (chunk_of h x))) [
      | inl t ↦ content_touched finmap.empty h e x t ∙ touched_outside h e.kind x (content_after finmap.empty h x) parts.1 t k (sym (known_after-more h e x.array) ∙ is) out
      | inr t ↦ content_untouched finmap.empty h e x t ∙ untouched_outside h e x parts.0 parts.1 t k is out (content_after finmap.empty h x) (before parts.0)
    ])
