-- The arrays after a history, without chunks and by the chunks that events touch, are the same.
use Rattle.std.proofs.Common.{◌≡◌, ℕ, List, [], ◌∷◌, ◌++◌, map, Bool, true, false, cond, Option, Some, None, Result, inl, inr, refl, sym, ap, subst, ◌∙◌, eqb-true}
use Rattle.std.specs.Prelude.{◌==◌, ◌&&◌}
use Rattle.std.specs.List.{AllByRecursion}
use Rattle.std.specs.FinMap as finmap
use Rattle.chunk_forms.specs.Words.{is_inside}
use Rattle.stack_driver.specs.declared.view.View.{View}
use Rattle.stack_driver.specs.Targets.{Cell, Target}
use Rattle.stack_driver.specs.Views.{targets_of}
use Rattle.stack_driver.specs.declared.error.TargetError.{TargetError}
use Rattle.history.specs.declared.array.ArrayInfo.{ArrayInfo}
use Rattle.history.specs.declared.array.Home.{Home}
use Rattle.history.specs.declared.array.Home.TheVariants.{Zarr, N5, Zarr3, Local}
use Rattle.history.specs.declared.event.Mode.{Mode}
use Rattle.history.specs.declared.event.Op.{Op}
use Rattle.history.specs.declared.event.Kind.{Kind}
use Rattle.history.specs.declared.event.Kind.TheVariants.{Opened, Done, Resized, Fault}
use Rattle.history.specs.declared.event.Event.{Event}
use Rattle.history.specs.History.{History}
use Rattle.history.specs.Arrays.{Known, known_after, known_step, known_reshaped, is_local}
use Rattle.history.specs.Chunks.{chunk_of}
use Rattle.history.specs.Resizes.{is_cut_in}
use Rattle.history.specs.Touch.{touches_by, writes_chunk}
use Rattle.history.specs.Writes.{Content, puts_of, written, shown_in, read_values}
use Rattle.history.specs.Start.{opening_word}
use Rattle.history.specs.Content.{content_after, word_by, world_after, world_in, cut_to, present_shape, word_outside}
use Rattle.history.specs.Legal.{IsLegal, IsLegalKind, IsLegalResize, IsLegalOp, is_present_in}
use Rattle.history.specs.Plain.{PlainArrays, plain_by, plain_after, new_word, new_shape, resized_word}
use Rattle.history.specs.Joint.{IsJoint, IsJointKind}
use Rattle.history.proofs.Tests.{true_or_false}
use Rattle.history.proofs.Histories.{each_history, known_after-more, content_after-more, plain-more, legal_step, joint_step}
use Rattle.history.proofs.Known.{opened_as}
use Rattle.history.proofs.Untouched.{chunk_array}
use Rattle.history.proofs.Written.{puts_local, puts_elsewhere, elsewhere, absent}
use Rattle.history.proofs.Outside.{opens_with, outside_word, IsOutsideWord}

abbrev shape_in : Option Known → Option (List ℕ)
shape_in None = None
shape_in (Some k) = Some k.shape

opened_shape : (b : Bool) (k : Known) (o : Option (List ℕ)) (known : Option Known) → o ≡ shape_in known → cond b (Some k.shape) o ≡ shape_in (cond b (Some k) known)
opened_shape true k o known e = refl
opened_shape false k o known e = e

resized_shape : (b : Bool) (shape : List ℕ) (o : Option (List ℕ)) (known : Option Known) → o ≡ shape_in known → cond b (new_shape o shape) o ≡ shape_in (cond b (known_reshaped shape known) known)
resized_shape true shape o None e = ap (λ p. new_shape p shape) e
resized_shape true shape o (Some k) e = ap (λ p. new_shape p shape) e
resized_shape false shape o known e = e

shape_step : (h : History) (kind : Kind) (a : ℕ) (arrays : PlainArrays) (known : Option Known) → arrays.shape a ≡ shape_in known → (plain_by kind arrays).shape a ≡ shape_in (known_step a h kind known)
shape_step h (Opened info) a arrays known e = opened_shape (info.number == a) (opened_as h info) (arrays.shape a) known e
shape_step h (Done line mode ops key) a arrays known e = e
shape_step h (Resized b shape) a arrays known e = resized_shape (b == a) shape (arrays.shape a) known e
shape_step h (Fault mount) a arrays known e = e

-- the plain arrays have the present shapes
pub plain-shape : (a : ℕ) (events : History) → (plain_after events).shape a ≡ shape_in (known_after events a)
plain-shape a =
    each_history (λ h. (plain_after h).shape a ≡ shape_in (known_after h a)) refl
    (λ h e before. ap (λ (p : PlainArrays). p.shape a) (plain-more h e) ∙ shape_step h e.kind a (plain_after h) (known_after h a) before ∙ ap shape_in (sym (known_after-more h e a)))

-- the fill is that of the array, if there is one
HasFill : Option Known → ℕ → Type 0
HasFill None fill = Unit {0}
HasFill (Some k) fill = fill ≡ k.info.fill

opened_fill : (b : Bool) (k : Known) (fill : ℕ) (known : Option Known) → HasFill known fill → HasFill (cond b (Some k) known) (cond b k.info.fill fill)
unfolding HasFill
opened_fill true k fill known e = refl
opened_fill false k fill known e = e

resized_fill : (b : Bool) (shape : List ℕ) (fill : ℕ) (known : Option Known) → HasFill known fill → HasFill (cond b (known_reshaped shape known) known) fill
unfolding HasFill
resized_fill true shape fill None e = e
resized_fill true shape fill (Some k) e = e
resized_fill false shape fill known e = e

fill_step : (h : History) (kind : Kind) (a : ℕ) (arrays : PlainArrays) (known : Option Known) → HasFill known (arrays.fill a) → HasFill (known_step a h kind known) ((plain_by kind arrays).fill a)
fill_step h (Opened info) a arrays known e = opened_fill (info.number == a) (opened_as h info) (arrays.fill a) known e
fill_step h (Done line mode ops key) a arrays known e = e
fill_step h (Resized b shape) a arrays known e = resized_fill (b == a) shape (arrays.fill a) known e
fill_step h (Fault mount) a arrays known e = e

plain-fill : (a : ℕ) (events : History) → HasFill (known_after events a) ((plain_after events).fill a)
unfolding HasFill
plain-fill a =
    each_history (λ h. HasFill (known_after h a) ((plain_after h).fill a)) tt
    (λ h e before. subst (λ o. HasFill o ((plain_after (h ++ e ∷ [])).fill a)) (sym (known_after-more h e a)) (subst (λ (p : PlainArrays). HasFill (known_step a h e.kind (known_after h a)) (p.fill a)) (sym (plain-more h e)) (fill_step h e.kind a (plain_after h) (known_after h a) before)))

world_absent : (known : Option Known) (x : Cell) (v : Option ℕ) → is_present_in known x ≡ false → world_in known x v ≡ None
world_absent None x v e = refl
world_absent (Some k) x v e = ap (λ b. cond b v None) e

world_present : (known : Option Known) (x : Cell) (v : Option ℕ) → is_present_in known x ≡ true → world_in known x v ≡ v
world_present None x v e = absurd (cc)
world_present (Some k) x v e = ap (λ b. cond b v None) e

cut_present : (known : Option Known) (x : Cell) (v : Option ℕ) → is_present_in known x ≡ true → cut_to known (present_shape known) x v ≡ v
cut_present None x v e = absurd (cc)
cut_present (Some k) x v e = ap (λ b. cond b v (word_outside k.info.home k.info.fill)) e

-- the world that an event of this kind leaves at a cell
abbrev world_by : History → Kind → Cell → Option ℕ → Option ℕ
world_by h kind x w = world_in (known_step x.array h kind (known_after h x.array)) x (cond (touches_by h kind (chunk_of h x)) (word_by finmap.empty h kind x w) w)

world-more : (h : History) (e : Event) (x : Cell) → world_after finmap.empty (h ++ e ∷ []) x ≡ world_by h e.kind x (content_after finmap.empty h x)
world-more h e x =
    ap (λ o. world_in o x (content_after finmap.empty (h ++ e ∷ []) x)) (known_after-more h e x.array)
    ∙ ap (world_in (known_step x.array h e.kind (known_after h x.array)) x) (content_after-more finmap.empty h e x)

stored_outside : (home : Home) (fill : ℕ) → is_local home ≡ false → word_outside home fill ≡ Some fill
stored_outside (Zarr mount path meta) fill e = refl
stored_outside (N5 mount path meta) fill e = refl
stored_outside (Zarr3 mount path meta) fill e = refl
stored_outside (Local start) fill e = absurd (cc)

same_either : (b : Bool) (w : Option ℕ) → cond b w w ≡ w
same_either true w = refl
same_either false w = refl

module _ (h : History) (x : Cell) (w p : Option ℕ) (e : p ≡ world_in (known_after h x.array) x w) where
  abbrev known : Option Known
  known = known_after h x.array

  opened_cases : (info : ArrayInfo) (b : Bool) → cond b (cond (is_inside info.shape x.index) (new_word info info.home x) None) p ≡ world_in (cond b (Some (opened_as h info)) known) x (cond b (opening_word finmap.empty (opened_as h info) x) w)
  opened_cases info true = ap (λ o. cond (is_inside info.shape x.index) o None) (sym (opens_with (opened_as h info) x))
  opened_cases info false = e

  by_opening : (info : ArrayInfo) → cond (info.number == x.array) (cond (is_inside info.shape x.index) (new_word info info.home x) None) p ≡ world_by h (Opened info) x w
  by_opening info =
      opened_cases info (info.number == x.array)
      ∙ ap (λ a. world_in (known_step x.array h (Opened info) known) x (cond (info.number == a) (opening_word finmap.empty (opened_as h info) x) w)) (sym (chunk_array known x))

  -- operations put the same at a cell as on the word that it had
  by_done : (line : ℕ) (mode : Mode) (ops : List Op) (arrays : Content) → arrays x ≡ p → AllByRecursion (IsLegalOp h) ops → written ops arrays x ≡ world_by h (Done line mode ops None) x w
  by_done line mode ops arrays is legal =
      let word = written ops (λ y. w) x in
      let cut = cut_to known (present_shape known) x word in
      elim (true_or_false (is_present_in known x)) [
        | inr gone ↦
            puts_elsewhere (puts_of ops) arrays x (absent h x ops legal gone) ∙ is ∙ e ∙ world_absent known x w gone
            ∙ sym (world_absent known x (cond (writes_chunk h ops (chunk_of h x)) cut w) gone)
        | inl there ↦
            let here = is ∙ e ∙ world_present known x w there in
            elim (true_or_false (writes_chunk h ops (chunk_of h x))) [
              | inl t ↦
                  puts_local (puts_of ops) arrays (λ y. w) x here ∙ sym (cut_present known x word there)
                  ∙ sym (world_present known x cut there)
                  ∙ ap (λ b. world_in known x (cond b cut w)) (sym t)
              | inr t ↦
                  puts_elsewhere (puts_of ops) arrays x (elsewhere h x (puts_of ops) t) ∙ is ∙ e
                  ∙ ap (λ b. world_in known x (cond b cut w)) (sym t)
            ]
      ]

-- a resize, the array being known or not
resized_here : (x : Cell) (w p : Option ℕ) (shape : List ℕ) (fill : ℕ) (t : Bool) (known : Option Known) (o : Option (List ℕ)) → o ≡ shape_in known → p ≡ world_in known x w → IsOutsideWord known x w → HasFill known fill → IsLegalResize known shape
    → resized_word o shape fill x p ≡ world_in (known_reshaped shape known) x (cond t (cut_to known shape x w) w)
unfolding HasFill
resized_here x w p shape fill t None o so e outside has legal = absurd legal
resized_here x w p shape fill t (Some k) o so e outside has legal =
    ap (λ s. resized_word s shape fill x p) so
    ∙ elim (true_or_false (is_inside shape x.index)) [
      | inr gone ↦
          let nothing : cond (is_inside shape x.index) (cond (is_inside k.shape x.index) p (Some fill)) None ≡ None = ap (λ b. cond b (cond (is_inside k.shape x.index) p (Some fill)) None) gone in
          nothing ∙ sym (ap (λ b. cond b (cond t (cut_to (Some k) shape x w) w) None) gone)
      | inl there ↦
          let cut : cut_to (Some k) shape x w ≡ w = ap (λ b. cond b w (word_outside k.info.home k.info.fill)) there in
          let right : cond (is_inside shape x.index) (cond t (cut_to (Some k) shape x w) w) None ≡ w = ap (λ b. cond b (cond t (cut_to (Some k) shape x w) w) None) there ∙ ap (λ v. cond t v w) cut ∙ same_either t w in
          let left : cond (is_inside shape x.index) (cond (is_inside k.shape x.index) p (Some fill)) None ≡ w =
          ap (λ b. cond b (cond (is_inside k.shape x.index) p (Some fill)) None) there
          ∙ elim (true_or_false (is_inside k.shape x.index)) [
            | inl was ↦ ap (λ b. cond b p (Some fill)) was ∙ e ∙ ap (λ b. cond b w None) was
            | inr out ↦ ap (λ b. cond b p (Some fill)) out ∙ ap Some has ∙ sym (stored_outside k.info.home k.info.fill legal.stored) ∙ sym (outside k refl out)
          ] in
          left ∙ sym right
    ]

by_resize : (h : History) (x : Cell) (w p : Option ℕ) (a : ℕ) (shape : List ℕ) (arrays : PlainArrays) (b : Bool) → (a == x.array) ≡ b → arrays.words x ≡ p → p ≡ world_in (known_after h x.array) x w → arrays.shape x.array ≡ shape_in (known_after h x.array) → HasFill (known_after h x.array) (arrays.fill x.array)
    → IsOutsideWord (known_after h x.array) x w → IsLegalResize (known_after h a) shape
    → cond b (resized_word (arrays.shape x.array) shape (arrays.fill x.array) x (arrays.words x)) (arrays.words x) ≡ world_in (cond b (known_reshaped shape (known_after h x.array)) (known_after h x.array)) x (cond (b && is_cut_in (known_after h x.array) shape (chunk_of h x).index) (cut_to (known_after h x.array) shape x w) w)
by_resize h x w p a shape arrays true same is e so has outside legal =
    ap (resized_word (arrays.shape x.array) shape (arrays.fill x.array) x) is
    ∙ resized_here x w p shape (arrays.fill x.array) (is_cut_in (known_after h x.array) shape (chunk_of h x).index) (known_after h x.array) (arrays.shape x.array) so e outside has (subst (λ n. IsLegalResize (known_after h n) shape) (eqb-true a x.array same) legal)
by_resize h x w p a shape arrays false same is e so has outside legal = is ∙ e

by_kind : (h : History) (x : Cell) (w : Option ℕ) (arrays : PlainArrays) (kind : Kind) → IsLegalKind finmap.empty h kind → IsJointKind kind → arrays.words x ≡ world_in (known_after h x.array) x w → arrays.shape x.array ≡ shape_in (known_after h x.array)
    → HasFill (known_after h x.array) (arrays.fill x.array) → IsOutsideWord (known_after h x.array) x w → (plain_by kind arrays).words x ≡ world_by h kind x w
by_kind h x w arrays (Opened info) legal joint e so has outside = by_opening h x w (arrays.words x) e info
by_kind h x w arrays (Done line mode ops None) legal joint e so has outside = by_done h x w (arrays.words x) e line mode ops arrays.words refl legal.each
by_kind h x w arrays (Done line mode ops (Some key)) legal joint e so has outside = absurd (cc)
by_kind h x w arrays (Resized a shape) legal joint e so has outside =
    by_resize h x w (arrays.words x) a shape arrays (a == x.array) refl refl e so has outside legal
    ∙ ap (λ n. world_in (known_step x.array h (Resized a shape) (known_after h x.array)) x (cond ((a == n) && is_cut_in (known_after h n) shape (chunk_of h x).index) (cut_to (known_after h x.array) shape x w) w)) (sym (chunk_array (known_after h x.array) x))
by_kind h x w arrays (Fault mount) legal joint e so has outside = e

-- the arrays of a history are the same, whether its events change cells or touch chunks
pub plain-world : (x : Cell) (events : History) → IsLegal finmap.empty events → IsJoint events → (plain_after events).words x ≡ world_after finmap.empty events x
plain-world x =
    each_history (λ h. IsLegal finmap.empty h → IsJoint h → (plain_after h).words x ≡ world_after finmap.empty h x) (λ legal joint. refl)
    (λ h e before legal joint.
    let lawful = legal_step finmap.empty h e legal in
    let whole = joint_step h e joint in
    ap (λ (p : PlainArrays). p.words x) (plain-more h e)
    ∙ by_kind h x (content_after finmap.empty h x) (plain_after h) e.kind lawful.1 whole.1 (before lawful.0 whole.0) (plain-shape x.array h) (plain-fill x.array h) (outside_word x h lawful.0)
    ∙ sym (world-more h e x))

shown_same : (f g : Content) (t : Result Target TargetError) → ((x : Cell) → f x ≡ g x) → shown_in f t ≡ shown_in g t
shown_same f g t e = ap (λ (k : Content). shown_in k t) (λ i x. e x i)

same_map : (f g : Content) (ts : List (Result Target TargetError)) → ((x : Cell) → f x ≡ g x) → map (shown_in f) ts ≡ map (shown_in g) ts
same_map f g [] e = refl
same_map f g (t ∷ ts) e = λ i. shown_same f g t e i ∷ same_map f g ts e i

-- and so each view has the same words
pub plain-values : (events : History) (view : View) → IsLegal finmap.empty events → IsJoint events → read_values (plain_after events).words view ≡ read_values (world_after finmap.empty events) view
plain-values events view legal joint = same_map (plain_after events).words (world_after finmap.empty events) (targets_of view) (λ x. plain-world x events legal joint)
