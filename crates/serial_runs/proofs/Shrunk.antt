-- A written cell that lies outside its array's shape was cut off by the array's last resize.
use Rattle.std.proofs.Common.{◌≡◌, ℕ, ◌+◌, ◌≤◌, List, [], ◌∷◌, ◌++◌, length, take, drop, Bool, true, false, cond, Option, Some, None, ◌⊎◌, inl, inr, Result, Ok, Err, refl, sym, ap, subst, ◌∙◌, arith, eqb-true}
use Rattle.std.specs.Prelude.{◌==◌, filter_map}
use Rattle.std.specs.List.{AllByRecursion, zip}
use Rattle.std.specs.FinMap as finmap
use Rattle.std.proofs.lemmas.List.{take-append-drop}
use Rattle.history.specs.Words.{is_inside}
use Rattle.stack_driver.specs.Targets.{Cell, is_cell, Target}
use Rattle.stack_driver.specs.Views.{targets_of}
use Rattle.stack_driver.specs.declared.error.TargetError.{TargetError}
use Rattle.history.specs.declared.event.Kind.{Kind}
use Rattle.history.specs.declared.event.Kind.TheVariants.{Opened, Done, Resized, Fault}
use Rattle.history.specs.declared.event.Event.{Event}
use Rattle.history.specs.declared.event.Op.{Op}
use Rattle.history.specs.declared.event.Op.TheVariants.{Write, Read}
use Rattle.history.specs.History.{History}
use Rattle.history.specs.Arrays.{Known, known_after, known_step, known_reshaped}
use Rattle.history.specs.Legal.{IsLegal, IsLegalKind, IsLegalResize, viewed, is_present, is_present_in}
use Rattle.history.specs.Own.{resized_event}
use Rattle.history.specs.Reads.{is_put}
use Rattle.history.specs.Refs.{HasKnownRefs}
use Rattle.history.specs.Store.{resized_after, resized_step}
use Rattle.history.specs.Writes.{put_at, puts_of, puts_of_op}
use Rattle.history.proofs.Histories.{each_history, known_after-more, resized_after-more, legal_step}
use Rattle.history.proofs.Known.{fresh_number, opening_of, opened_as}
use Rattle.history.proofs.Shrinks.{WasInside, LiesOf, targets_lie}
use Rattle.history.proofs.Staged.{put_either, or_parted}
use Rattle.history.proofs.Unresized.{known_unresized}
use Rattle.history.proofs.Written.{same_cells}
use Rattle.serial_runs.specs.Numbered.{IsEvent}

-- the array's last resize, by which it has its present shape
record LastResize (h : History) (a : ℕ) : Type 0 where
  array : Known
  known : known_after h a ≡ Some array
  owner : ℕ
  shape : List ℕ
  event : IsEvent h (resized_after h a) (resized_event owner a shape)
  shaped : array.shape ≡ shape

abbrev IsLast : History → ℕ → Type 0
IsLast h a = (resized_after h a ≡ 0) ⊎ LastResize h a

with_more : (h : History) (e f : Event) (n : ℕ) → IsEvent h n f → IsEvent (h ++ e ∷ []) n f
with_more h e f n is = record {
  before = is.before;
  later = is.later ++ e ∷ [];
  parts = ap (λ g. g ++ e ∷ []) is.parts ∙ append_behind is.before;
  numbered = is.numbered;
} where
  append_behind : (xs : History) → (xs ++ f ∷ is.later) ++ e ∷ [] ≡ xs ++ f ∷ (is.later ++ e ∷ [])
  append_behind [] = refl
  append_behind (x ∷ xs) = ap (λ g. x ∷ g) (append_behind xs)

module _ (h : History) (e : Event) (a : ℕ) (legal : IsLegal finmap.empty h) where
  stays : resized_after (h ++ e ∷ []) a ≡ resized_after h a → ((k : Known) → known_after h a ≡ Some k → known_after (h ++ e ∷ []) a ≡ Some k) → IsLast h a → IsLast (h ++ e ∷ []) a
  stays same still (inl none) = inl (same ∙ none)
  stays same still (inr last) =
      inr (record {
        array = last.array;
        known = still last.array last.known;
        owner = last.owner;
        shape = last.shape;
        event = subst (λ n. IsEvent (h ++ e ∷ []) n (resized_event last.owner a last.shape)) (sym same) (with_more h e (resized_event last.owner a last.shape) (resized_after h a) last.event);
        shaped = last.shaped;
      })

  resize_known : (shape : List ℕ) (o : Option Known) → known_after h a ≡ o → IsLegalResize o shape → (k : Known) × (known_after h a ≡ Some k)
  resize_known shape None is may = absurd may
  resize_known shape (Some k) is may = (k, is)

  last_step : (kind : Kind) → e.kind ≡ kind → IsLegalKind finmap.empty h kind → IsLast h a → IsLast (h ++ e ∷ []) a
  last_step (Opened info) is next last =
      stays (resized_after-more h e a ∙ ap (λ q. resized_step a h q (resized_after h a)) is)
      (λ k there. known_after-more h e a ∙ ap (λ q. known_step a h q (known_after h a)) is ∙ ap (λ t. cond t (Some (opened_as h info)) (known_after h a)) (fresh_number finmap.empty h info a k legal (opening_of finmap.empty h (Opened info) info refl next) there) ∙ there) last
  last_step (Done line mode ops key) is next last =
      stays (resized_after-more h e a ∙ ap (λ q. resized_step a h q (resized_after h a)) is) (λ k there. known_after-more h e a ∙ ap (λ q. known_step a h q (known_after h a)) is ∙ there) last
  last_step (Fault mount) is next last =
      stays (resized_after-more h e a ∙ ap (λ q. resized_step a h q (resized_after h a)) is) (λ k there. known_after-more h e a ∙ ap (λ q. known_step a h q (known_after h a)) is ∙ there) last
  last_step (Resized b shape) is next last = by (b == a) refl
    where
      number : resized_after (h ++ e ∷ []) a ≡ cond (b == a) (length h + 1) (resized_after h a)
      number = resized_after-more h e a ∙ ap (λ q. resized_step a h q (resized_after h a)) is

      there : known_after (h ++ e ∷ []) a ≡ cond (b == a) (known_reshaped shape (known_after h a)) (known_after h a)
      there = known_after-more h e a ∙ ap (λ q. known_step a h q (known_after h a)) is

      by : (t : Bool) → (b == a) ≡ t → IsLast (h ++ e ∷ []) a
      by false other =
          stays (number ∙ ap (λ u. cond u (length h + 1) (resized_after h a)) other) (λ k known. there ∙ ap (λ u. cond u (known_reshaped shape (known_after h a)) (known_after h a)) other ∙ known) last
      by true same =
          let one : b ≡ a = eqb-true b a same in
          let known = resize_known shape (known_after h a) refl (subst (λ n. IsLegalResize (known_after h n) shape) one next) in
          let at : resized_after (h ++ e ∷ []) a ≡ length h + 1 = number ∙ ap (λ u. cond u (length h + 1) (resized_after h a)) same in
          inr (record {
            array = record known.0 { shape = shape };
            known = there ∙ ap (λ u. cond u (known_reshaped shape (known_after h a)) (known_after h a)) same ∙ ap (known_reshaped shape) known.1;
            owner = e.owner;
            shape = shape;
            event = record { before = h; later = []; parts = λ i. h ++ record { owner = e.owner; kind = (is ∙ ap (λ n. Resized n shape) one) i } ∷ []; numbered = at };
            shaped = refl;
          })

last_resize : (a : ℕ) (h : History) → IsLegal finmap.empty h → IsLast h a
last_resize a =
    each_history (λ h. IsLegal finmap.empty h → IsLast h a) (λ legal. inl refl)
    (λ h e before legal. let parts = legal_step finmap.empty h e legal in last_step h e a parts.0 e.kind refl parts.1 (before parts.0))

-- a cell that lay in its array's shape and doesn't now was cut off by the array's last resize
pub record IsCutOff (h : History) (x : Cell) : Type 0 where
  pub owner : ℕ
  pub shape : List ℕ
  pub event : IsEvent h (resized_after h x.array) (resized_event owner x.array shape)
  pub outside : is_inside shape x.index ≡ false

pub cut_off : (h : History) (x : Cell) → IsLegal finmap.empty h → WasInside h x → is_present h x ≡ false → IsCutOff h x
cut_off h x legal was absent = told (last_resize x.array h legal)
  where
    told : IsLast h x.array → IsCutOff h x
    told (inr last) =
        record {
          owner = last.owner;
          shape = last.shape;
          event = last.event;
          outside = ap (λ s. is_inside s x.index) (sym last.shaped) ∙ ap (λ o. is_present_in o x) (sym last.known) ∙ absent;
        }
    told (inl none) =
        let whole = take-append-drop was.seen h in
        let unchanged : known_after h x.array ≡ Some was.array =
        ap (λ g. known_after g x.array) (sym whole)
        ∙ known_unresized finmap.empty (take was.seen h) x.array was.array was.known (drop was.seen h) (subst (IsLegal finmap.empty) (sym whole) legal)
        (subst (λ n. n ≤ length (take was.seen h)) (sym none ∙ ap (λ g. resized_after g x.array) (sym whole)) (omega arith)) in
        let present : is_present h x ≡ true = ap (λ o. is_present_in o x) unchanged ∙ was.inside in
        let clash : true ≡ false = sym present ∙ absent in
        absurd (cc)

zipped_lie : (events : History) (ts : List (Result Target TargetError)) (words : List ℕ) → AllByRecursion (LiesOf events) ts → (x : Cell) → is_put (filter_map put_at (zip ts words)) x ≡ true → WasInside events x
zipped_lie events [] words lie x put = absurd (cc)
zipped_lie events (t ∷ ts) [] lie x put = absurd (cc)
zipped_lie events (Err e ∷ ts) (w ∷ ws) lie x put = zipped_lie events ts ws lie.1 x put
zipped_lie events (Ok t ∷ ts) (w ∷ ws) lie x put =
    elim (or_parted (is_cell t.cell x) (is_put (filter_map put_at (zip ts ws)) x) put) [
      | inl here ↦ subst (WasInside events) (same_cells t.cell x here) lie.0
      | inr rest ↦ zipped_lie events ts ws lie.1 x rest
    ]

-- a cell that operations write lay in a shape of its array
pub puts_lie : (events : History) (ops : List Op) → AllByRecursion (λ op. HasKnownRefs events (viewed op)) ops → (x : Cell) → is_put (puts_of ops) x ≡ true → WasInside events x
puts_lie events [] refs x put = absurd (cc)
puts_lie events (Write view words ∷ ops) refs x put =
    elim (or_parted (is_put (puts_of_op (Write view words)) x) (is_put (puts_of ops) x) (sym (put_either (puts_of_op (Write view words)) (puts_of ops) x) ∙ put)) [
      | inl here ↦ zipped_lie events (targets_of view) words (targets_lie events view refs.0) x here
      | inr rest ↦ puts_lie events ops refs.1 x rest
    ]
puts_lie events (Read view words ∷ ops) refs x put = puts_lie events ops refs.1 x put
