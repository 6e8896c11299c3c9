-- The events that touch a chunk, and the numbers of those that are kept.
use Rattle.std.proofs.Common.{◌≡◌, ◌<◌, ◌≤◌, ◌⊎◌, inl, inr, ℕ, suc, ◌+◌, ◌-◌, List, [], ◌∷◌, ◌++◌, length, take, Bool, true, false, cond, Option, Some, None, refl, sym, ap, subst, ◌∙◌, arith, append_assoc, length-append, eqb-true}
use Rattle.std.specs.Prelude.{◌==◌, ◌&&◌, Contains}
use Rattle.std.specs.FinMap as finmap
use Rattle.std.proofs.lemmas.List.{same_from_push, take_at}
use Rattle.std.proofs.lemmas.List.Elements.{Contains-get_or, Contains-append_left, Contains-push, Contains-push_cases}
use Rattle.history.specs.declared.event.Event.{Event}
use Rattle.history.specs.declared.event.Kind.{Kind}
use Rattle.history.specs.declared.event.Kind.TheVariants.{Opened, Done, Resized, Fault}
use Rattle.history.specs.Arrays.{Known, known_after, known_step, known_reshaped}
use Rattle.history.specs.Chunks.{Chunk, key_in}
use Rattle.history.specs.Generations.{IsTouched}
use Rattle.history.specs.History.{History}
use Rattle.history.specs.Legal.{IsLegal, IsLegalKind, is_present_in}
use Rattle.history.specs.Resizes.{is_cut_in}
use Rattle.history.specs.Targets.{Cell}
use Rattle.history.specs.Touch.{is_key, touches, touches_by, writes_chunk}
use Rattle.history.proofs.Laws.{each_history, known_after-more, legal_step, none_is_none, known_still, chunk_array, IsLegal-front, HasWritten, written_by_all}
use Rattle.cells.proofs.Laws.{true_or_false, not_both}
use Rattle.chunk_versions.specs.Moments.{newest, touched}

-- an event that touched a chunk is one of the history
pub touched_low : (h : History) (c : Chunk) (n : ℕ) → IsTouched h c n → n ≤ length h
touched_low h c n t =
    let size : length h ≡ length t.before + suc (length t.later) = ap length t.parts ∙ length-append t.before (t.event ∷ t.later) in
    let number = t.number in
    omega (arith, size, number)

-- it is so in a longer history
pub touched_longer : (h : History) (e : Event) (c : Chunk) (n : ℕ) → IsTouched h c n → IsTouched (h ++ e ∷ []) c n
touched_longer h e c n t = record {
  before = t.before;
  event = t.event;
  later = t.later ++ e ∷ [];
  parts = ap (λ g. g ++ e ∷ []) t.parts ∙ append_assoc t.before (t.event ∷ t.later) (e ∷ []);
  number = t.number;
  touched = t.touched;
}

-- the last event is one that touched it
pub touched_last : (h : History) (e : Event) (c : Chunk) → touches h e c ≡ true → IsTouched (h ++ e ∷ []) c (length h + 1)
touched_last h e c is = record { before = h; event = e; later = []; parts = refl; number = refl; touched = is }

-- what touched it is the last event or one before
pub touched_split : (h : History) (e : Event) (c : Chunk) (n : ℕ) → IsTouched (h ++ e ∷ []) c n → IsTouched h c n ⊎ ((n ≡ length h + 1) × (touches h e c ≡ true))
touched_split h e c n t = by t.later t.parts where
  by : (later : History) → h ++ e ∷ [] ≡ t.before ++ t.event ∷ later → IsTouched h c n ⊎ ((n ≡ length h + 1) × (touches h e c ≡ true))
  by =
      each_history (λ later. h ++ e ∷ [] ≡ t.before ++ t.event ∷ later → IsTouched h c n ⊎ ((n ≡ length h + 1) × (touches h e c ≡ true)))
      (λ parts.
      let same = same_from_push h t.before e t.event parts in
      inr (t.number ∙ ap (λ g. length g + 1) (sym same.0), ap (λ g. touches g e c) same.0 ∙ ap (λ f. touches t.before f c) same.1 ∙ t.touched))
      (λ later f before parts.
      let same = same_from_push h (t.before ++ t.event ∷ later) e f (parts ∙ sym (append_assoc t.before (t.event ∷ later) (f ∷ []))) in
      inl (record { before = t.before; event = t.event; later = later; parts = same.0; number = t.number; touched = t.touched }))

-- a test that can't hold
second_false : (b : Bool) → (b && false) ≡ false
second_false true = refl
second_false false = refl

opened_none : (b : Bool) (k : Known) (known : Option Known) → cond b (Some k) known ≡ None → b ≡ false
opened_none true k known is = absurd (none_is_none k (sym is))
opened_none false k known is = refl

reshaped_none : (b : Bool) (shape : List ℕ) (known : Option Known) → cond b (known_reshaped shape known) known ≡ None → known ≡ None
reshaped_none true shape None is = refl
reshaped_none true shape (Some k) is = absurd (none_is_none _ (sym is))
reshaped_none false shape known is = is

absent_present : (known : Option Known) (x : Cell) → known ≡ None → is_present_in known x ≡ true → ⊥
absent_present None x is present = let clash : false ≡ true = present in cc
absent_present (Some k) x is present = none_is_none k (sym is)

-- an event behind which there is no array of the chunk's number doesn't touch the chunk
module _ (h : History) (c : Chunk) where
  untouched_none : (kind : Kind) → IsLegalKind finmap.empty h kind → known_step c.array h kind (known_after h c.array) ≡ None → touches_by h kind c ≡ false
  untouched_none (Opened info) legal none = opened_none (info.number == c.array) _ (known_after h c.array) none
  untouched_none (Done line mode ops None) legal none = elim (true_or_false (writes_chunk h ops c)) [
    | inl t ↦
        let w : HasWritten h c = written_by_all h c ops legal.each t in
        let array : w.cell.array ≡ c.array = sym (chunk_array (known_after h w.cell.array) w.cell) ∙ ap (λ (d : Chunk). d.array) w.inside in
        absurd (absent_present (known_after h w.cell.array) w.cell (ap (known_after h) array ∙ none) w.present)
    | inr f ↦ f
  ]
  untouched_none (Done line mode ops (Some key)) legal none = ap (λ o. is_key key (key_in o c)) none
  untouched_none (Resized a shape) legal none =
      ap (λ o. (a == c.array) && is_cut_in o shape c.index) (reshaped_none (a == c.array) shape (known_after h c.array) none) ∙ second_false (a == c.array)
  untouched_none (Fault mount) legal none = refl

touched_by : (before : History) (event : Event) (later : History) (c : Chunk) (known : Option Known) → known_after (before ++ event ∷ []) c.array ≡ known → IsLegal finmap.empty ((before ++ event ∷ []) ++ later) → touches before event c ≡ true
    → known_after ((before ++ event ∷ []) ++ later) c.array ≡ None → ⊥
touched_by before event later c None is legal touch none =
    let lawful = legal_step finmap.empty before event (IsLegal-front finmap.empty (before ++ event ∷ []) later legal) in
    not_both (touches before event c) touch (untouched_none before c event.kind lawful.1 (sym (known_after-more before event c.array) ∙ is))
touched_by before event later c (Some k) is legal touch none =
    let early = before ++ event ∷ [] in
    let front : take (length early) (early ++ later) ≡ early = take_at early later (length early) refl in
    let still = known_still finmap.empty (early ++ later) c.array (length early) k legal (ap (λ g. known_after g c.array) front ∙ is) in
    none_is_none still.0 (sym none ∙ still.1)

-- a chunk that an event touched is of an array that is there
pub touched_there : (h : History) (c : Chunk) (n : ℕ) → IsLegal finmap.empty h → IsTouched h c n → known_after h c.array ≡ None → ⊥
touched_there h c n legal t none =
    let early = t.before ++ t.event ∷ [] in
    let parts : early ++ t.later ≡ h = append_assoc t.before (t.event ∷ []) t.later ∙ sym t.parts in
    touched_by t.before t.event t.later c (known_after early c.array) refl (subst (IsLegal finmap.empty) (sym parts) legal) t.touched (ap (λ g. known_after g c.array) parts ∙ none)

-- the newest of some numbers is one of them
pub has_newest : (ns : List ℕ) → 0 < length ns → Contains ns (newest ns)
has_newest ns some = Contains-get_or ns (length ns - 1) 0 (omega (arith, some))

-- one number alone
pub one_of : (a n : ℕ) → Contains (a ∷ []) n → a ≡ n
one_of a n has = by (Contains-push_cases [] a n has) where
  by : Contains {X = ℕ} [] n ⊎ (a ≡ n) → a ≡ n
  by (inl none) = absurd (let low = none.1 in omega (arith, low))
  by (inr same) = same

-- with a number as the last of them, they are those that they were, and that one
module _ (n : ℕ) (ns : List ℕ) where
  pub touched_cases : (x : ℕ) → Contains (touched n ns) x → Contains ns x ⊎ (n ≡ x)
  touched_cases x has = by (newest ns == n) has where
    by : (b : Bool) → Contains (cond b ns (ns ++ n ∷ [])) x → Contains ns x ⊎ (n ≡ x)
    by true there = inl there
    by false there = Contains-push_cases ns n x there

  pub touched_keeps : (x : ℕ) → Contains ns x → Contains (touched n ns) x
  touched_keeps x has = by (newest ns == n) where
    by : (b : Bool) → Contains (cond b ns (ns ++ n ∷ [])) x
    by true = has
    by false = Contains-append_left ns (n ∷ []) x has

  pub touched_has : 0 < length ns → Contains (touched n ns) n
  touched_has some = by (newest ns == n) refl where
    by : (b : Bool) → (newest ns == n) ≡ b → Contains (cond b ns (ns ++ n ∷ [])) n
    by true is = subst (Contains ns) (eqb-true (newest ns) n is) (has_newest ns some)
    by false is = Contains-push ns n
