-- A state agrees with its opening behind a new shape.
use Rattle.std.proofs.Common.{◌≡◌, ◌≢◌, ℕ, ◌<◌, ◌≤◌, ◌⊎◌, inl, inr, List, [], ◌∷◌, ◌++◌, length, Bool, true, false, cond, Option, Some, None, refl, sym, ap, subst, ◌∙◌, eqb-true}
use Rattle.std.specs.Prelude.{◌==◌, ◌&&◌, Result, Ok, Err, OnOk, OnErr}
use Rattle.std.specs.FinMap as finmap
use Rattle.std.proofs.lemmas.Bool.{lt-ltb}
use Rattle.cells.proofs.Laws.{true_or_false}
use Rattle.kv_face.specs.Store.{Contents, OneMore, after}
use Rattle.kv_face.specs.declared.change.Change.{Change}
use Rattle.history.specs.declared.event.Event.{Event}
use Rattle.history.specs.History.{History}
use Rattle.history.specs.Arrays.{Known, known_after, known_reshaped, is_local}
use Rattle.history.specs.Legal.{IsLegal, IsLegalResize}
use Rattle.history.specs.Own.{resized_event}
use Rattle.history.specs.Resizes.{is_cut_in}
use Rattle.history.specs.Touch.{touches}
use Rattle.history.proofs.Laws.{known_after-more, legal_more, some_inj}
use Rattle.state_laws.specs.declared.deed.ChangeError.{ChangeError}
use Rattle.state_laws.specs.declared.deed.ChangeError.TheVariants as error
use Rattle.state_laws.specs.declared.deed.NewShape.{NewShape}
use Rattle.state_laws.specs.Seen.{StoreSeen, IsFrame, IsQuiet}
use Rattle.state_laws.specs.Log.{Log}
use Rattle.state_laws.specs.Outline.{outline, outlined_event}
use Rattle.state_laws.specs.Agreement.{Opening, Agrees}
use Rattle.state_laws.specs.Changing.{resized, IsNewShape, IsRightShape, IsHeldStill, IsHeldAnew}
use Rattle.state_laws.specs.Fetches.{HasFailed}
use Rattle.state_laws.proofs.Got.{agrees_quiet}
use Rattle.state_laws.proofs.Later.{not_risen, agrees_fault}
use Rattle.state_laws.proofs.Outline.{outline-more, known-outline}
use Rattle.state_laws.proofs.Committed.{IsStill, agrees_changed}

-- one number is another or not, by the test
differs : (x y : ℕ) → x ≢ y → (x == y) ≡ false
differs x y ne = elim (true_or_false (x == y)) [ inl h ↦ absurd (ne (eqb-true x y h)) | inr h ↦ h ]

module _ (opening : Opening) (store next : StoreSeen) (log : Log) (owner : ℕ) (new : NewShape) (changes : List Change) (agrees : Agrees opening store log) (is_new : IsNewShape log owner new changes) (right : IsRightShape opening log owner new changes) where
  abbrev b : ℕ
  b = new.array

  abbrev shape : List ℕ
  shape = new.shape

  abbrev event : Event
  event = resized_event owner b shape

  abbrev later : History
  later = log.events ++ event ∷ []

  step : (a : ℕ) → known_after later a ≡ cond (b == a) (known_reshaped shape (known_after log.events a)) (known_after log.events a)
  step a = known_after-more log.events event a

  still_by : (a : ℕ) (k : Known) (t : Bool) → (b == a) ≡ t → known_after log.events a ≡ Some k → IsStill later a k
  still_by a k true test known = record {
    now = record k { shape = shape };
    known = step a ∙ ap (λ t. cond t (known_reshaped shape (known_after log.events a)) (known_after log.events a)) test ∙ ap (known_reshaped shape) known;
    info = refl;
    opened = refl;
  }
  still_by a k false test known = record {
    now = k;
    known = step a ∙ ap (λ t. cond t (known_reshaped shape (known_after log.events a)) (known_after log.events a)) test ∙ known;
    info = refl;
    opened = refl;
  }

  reshaped_of : (o : Option Known) (l : Known) → known_reshaped shape o ≡ Some l → (k : Known) × (o ≡ Some k) × (l.info ≡ k.info)
  reshaped_of None l is = absurd (cc)
  reshaped_of (Some k) l is = (k, refl, ap (λ (m : Known). m.info) (sym (some_inj (record k { shape = shape }) l is)))

  back_by : (a : ℕ) (l : Known) (t : Bool) → (b == a) ≡ t → known_after later a ≡ Some l → (k : Known) × (known_after log.events a ≡ Some k) × (l.info ≡ k.info)
  back_by a l true test known =
      reshaped_of (known_after log.events a) l (sym (step a ∙ ap (λ t. cond t (known_reshaped shape (known_after log.events a)) (known_after log.events a)) test) ∙ known)
  back_by a l false test known = (l, sym (step a ∙ ap (λ t. cond t (known_reshaped shape (known_after log.events a)) (known_after log.events a)) test) ∙ known, refl)

  -- a local array is another one
  other_by : (a : ℕ) (k : Known) (t : Bool) → (b == a) ≡ t → known_after later a ≡ Some k → is_local k.info.home ≡ true → (b == a) ≡ false
  other_by a k false test known local = test
  other_by a k true test known local =
      let was = back_by a k true test known in
      let same = some_inj was.0 is_new.array (sym was.1 ∙ ap (known_after log.events) (sym (eqb-true b a test)) ∙ is_new.known) in
      let stored : is_local k.info.home ≡ false = ap (λ (i : _). is_local i.home) was.2 ∙ ap (λ (m : Known). is_local m.info.home) same ∙ is_new.may.stored in
      let clash : true ≡ false = sym local ∙ stored in
      absurd (cc)

  held_by : (a : ℕ) (k : Known) → known_after later a ≡ Some k → is_local k.info.home ≡ true
      → (known_after log.events a ≡ Some k) × (IsHeldStill log (resized log owner new) event a k ⊎ IsHeldAnew log (resized log owner new) event a k)
  held_by a k known local =
      let other = other_by a k (b == a) refl known local in (
        sym (step a ∙ ap (λ t. cond t (known_reshaped shape (known_after log.events a)) (known_after log.events a)) other) ∙ known,
        inl (record { same = refl; untouched = λ index valid. ap (λ t. t && is_cut_in (known_after log.events a) shape index) other }),
      )

  -- the event touches no chunk of it
  no_anew_by : (a : ℕ) (k : Known) (index : List ℕ) (t : Bool) → (b == a) ≡ t → known_after log.events a ≡ Some k → is_local k.info.home ≡ true → touches log.events event (record { array = a; index = index }) ≡ true → ⊥
  no_anew_by a k index false test known local touched =
      let clash : true ≡ false = sym touched ∙ ap (λ t. t && is_cut_in (known_after log.events a) shape index) test in
      absurd (cc)
  no_anew_by a k index true test known local touched =
      let same = some_inj k is_new.array (sym known ∙ ap (known_after log.events) (sym (eqb-true b a test)) ∙ is_new.known) in
      let clash : true ≡ false = sym local ∙ ap (λ (m : Known). is_local m.info.home) same ∙ is_new.may.stored in
      absurd (cc)

  may_be : IsLegalResize (known_after (outline log.events) b) shape
  may_be = subst (λ o. IsLegalResize o shape) (sym (known-outline b log.events ∙ is_new.known)) is_new.may

  -- a new shape that was made
  pub agrees_resized : IsFrame store next → next.faults ≤ store.faults → ((m : Contents) → store.contents ≡ Some m → next.contents ≡ Some (after m changes)) → (0 < length changes → OneMore store.changes next.changes)
      → (length changes ≡ 0 → next.changes ≡ store.changes) → Agrees opening next (resized log owner new)
  agrees_resized frame steady made more none =
      agrees_changed opening store next log event new.keys.items changes log.locals agrees is_new.touched (record {
        frame = frame;
        still = λ a k known. still_by a k (b == a) refl known;
        back = λ a l known. back_by a l (b == a) refl known;
        steady = steady;
        no_fault = refl;
        no_opening = refl;
        count = refl;
        outline = subst (IsLegal finmap.empty) (sym (outline-more log.events event)) (legal_more finmap.empty (outline log.events) (outlined_event event) agrees.outline may_be);
        held = held_by;
        held_now = λ start told a k known local anew index valid. absurd (no_anew_by a k index (b == a) refl known local (anew.touched index valid));
        right = λ start told. (
          subst (λ o. IsLegalResize o shape) (sym is_new.known) is_new.may,
          right start told,
          sym (lt-ltb 0 (length changes) is_new.some),
        );
        made = made;
        more = more;
        none = none;
      })

-- what comes of a new shape
pub agrees_shape : (opening : Opening) (store next : StoreSeen) (log then : Log) (owner : ℕ) (new : NewShape) (changes : List Change) (r : Result ℕ ChangeError) → OnOk r (then ≡ resized log owner new)
    → OnOk r ((m : Contents) → store.contents ≡ Some m → next.contents ≡ Some (after m changes)) → OnOk r (0 < length changes → OneMore store.changes next.changes) → OnOk r (length changes ≡ 0 → next.changes ≡ store.changes) → OnErr r (IsQuiet store next)
    → ((event : ℕ) → r ≡ Err (error.StoreFailed event) → HasFailed owner new.mount store next log then event) → (store.faults < next.faults → (event : ℕ) × (r ≡ Err (error.StoreFailed event))) → (r ≡ Err error.Memory → then ≡ log) → IsFrame store next → IsNewShape log owner new changes → IsRightShape opening log owner new changes → Agrees opening store log
    → Agrees opening next then
agrees_shape opening store next log then owner new changes (Ok n) ok done more none quiet failed told memory frame is_new right is =
    let same = not_risen store.faults next.faults (λ rose. let why = told rose in let clash = why.1 in cc) in
    subst (Agrees opening next) (sym ok) (agrees_resized opening store next log owner new changes is is_new right frame same done more none)
agrees_shape opening store next log then owner new changes (Err (error.StoreFailed event)) ok done more none quiet failed told memory frame is_new right is =
    let has = failed event refl in
    subst (Agrees opening next) (sym has.added) (agrees_fault opening store next log owner new.mount quiet has.rose is)
agrees_shape opening store next log then owner new changes (Err error.Memory) ok done more none quiet failed told memory frame is_new right is =
    let same = not_risen store.faults next.faults (λ rose. let why = told rose in let clash = why.1 in cc) in
    subst (Agrees opening next) (sym (memory refl)) (agrees_quiet opening store next log quiet same is)
