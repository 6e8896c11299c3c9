-- A chunk that an event doesn't touch, and one that it does.
use Rattle.std.proofs.Common.{◌≡◌, ℕ, ◌+◌, ◌≤◌, List, [], ◌∷◌, ◌++◌, length, Bool, true, false, cond, Option, Some, None, inl, inr, refl, sym, ap, subst, ◌∙◌, append_assoc, length-append, arith, eq-eqb}
use Rattle.std.specs.Prelude.{◌==◌}
use Rattle.kv_face.specs.Store.{Contents}
use Rattle.stack_driver.specs.Targets.{Cell}
use Rattle.history.specs.declared.array.ArrayInfo.{ArrayInfo}
use Rattle.history.specs.declared.event.Kind.{Kind}
use Rattle.history.specs.declared.event.Kind.TheVariants.{Opened, Done, Resized, Fault}
use Rattle.history.specs.declared.event.Event.{Event}
use Rattle.history.specs.History.{History}
use Rattle.history.specs.Arrays.{Known, known_after, known_step, known_reshaped}
use Rattle.history.specs.Chunks.{Chunk, chunk_of, chunk_in}
use Rattle.history.specs.Touch.{touches, touches_by, generation_of}
use Rattle.history.specs.Start.{opening_word}
use Rattle.history.specs.Content.{content_after, word_by}
use Rattle.history.proofs.Tests.{true_or_false}
use Rattle.history.proofs.Histories.{each_history, known_after-more, content_after-more, generation_of-more}
use Rattle.history.proofs.Known.{known_split, opened_le, no_array}

pub generation_touched : (h : History) (e : Event) (c : Chunk) → touches h e c ≡ true → generation_of (h ++ e ∷ []) c ≡ length h + 1
generation_touched h e c t = generation_of-more h e c ∙ ap (λ b. cond b (length h + 1) (generation_of h c)) t

pub generation_untouched : (h : History) (e : Event) (c : Chunk) → touches h e c ≡ false → generation_of (h ++ e ∷ []) c ≡ generation_of h c
generation_untouched h e c t = generation_of-more h e c ∙ ap (λ b. cond b (length h + 1) (generation_of h c)) t

pub content_untouched : (start : Contents) (h : History) (e : Event) (x : Cell) → touches h e (chunk_of h x) ≡ false → content_after start (h ++ e ∷ []) x ≡ content_after start h x
content_untouched start h e x t = content_after-more start h e x ∙ ap (λ b. cond b (word_by start h e.kind x (content_after start h x)) (content_after start h x)) t

pub content_touched : (start : Contents) (h : History) (e : Event) (x : Cell) → touches h e (chunk_of h x) ≡ true → content_after start (h ++ e ∷ []) x ≡ word_by start h e.kind x (content_after start h x)
content_touched start h e x t = content_after-more start h e x ∙ ap (λ b. cond b (word_by start h e.kind x (content_after start h x)) (content_after start h x)) t

pub chunk_array : (known : Option Known) (x : Cell) → (chunk_in known x).array ≡ x.array
chunk_array None x = refl
chunk_array (Some k) x = refl

maybe_reshaped : (b : Bool) (known : Option Known) (shape : List ℕ) (x : Cell) → chunk_in (cond b (known_reshaped shape known) known) x ≡ chunk_in known x
maybe_reshaped true None shape x = refl
maybe_reshaped true (Some k) shape x = refl
maybe_reshaped false known shape x = refl

chunk_step : (h : History) (kind : Kind) (x : Cell) (c : Chunk) → c.array ≡ x.array → touches_by h kind c ≡ false → chunk_in (known_step x.array h kind (known_after h x.array)) x ≡ chunk_of h x
chunk_step h (Opened info) x c same gone =
    ap (λ b. chunk_in (cond b (Some (record { info = info; opened = length h + 1; shape = info.shape })) (known_after h x.array)) x) (ap (λ a. info.number == a) (sym same) ∙ gone)
chunk_step h (Done line mode ops key) x c same gone = refl
chunk_step h (Resized a shape) x c same gone = maybe_reshaped (a == x.array) (known_after h x.array) shape x
chunk_step h (Fault mount) x c same gone = refl

-- an event that doesn't touch a chunk of the array leaves the chunk of each of its cells
pub chunk_untouched : (h : History) (e : Event) (x : Cell) (c : Chunk) → c.array ≡ x.array → touches h e c ≡ false → chunk_of (h ++ e ∷ []) x ≡ chunk_of h x
chunk_untouched h e x c same gone = ap (λ known. chunk_in known x) (known_after-more h e x.array) ∙ chunk_step h e.kind x c same gone

below : (b : Bool) (n g m : ℕ) → cond b (n + 1) g ≤ m → m ≤ n → (b ≡ false) × (g ≤ m)
below true n g m small late = absurd (omega arith)
below false n g m small late = (refl, small)

-- a generation that is no later than the early events was the early one, and the last event didn't touch the chunk
pub generation_step : (early late : History) (e : Event) (c : Chunk) → generation_of (early ++ (late ++ e ∷ [])) c ≤ length early → (touches (early ++ late) e c ≡ false) × (generation_of (early ++ late) c ≤ length early)
generation_step early late e c small =
    let at_end : generation_of ((early ++ late) ++ e ∷ []) c ≤ length early = subst (λ h. generation_of h c ≤ length early) (sym (append_assoc early late (e ∷ []))) small in
    below (touches (early ++ late) e c) (length (early ++ late)) (generation_of (early ++ late) c) (length early) (subst (λ g. g ≤ length early) (generation_of-more (early ++ late) e c) at_end) (omega (arith, length-append early late))

-- the opening event touches the array's cells
pub opens_cell : (h : History) (e : Event) (info : ArrayInfo) (x : Cell) → e.kind ≡ Opened info → info.number ≡ x.array → touches h e (chunk_of h x) ≡ true
opens_cell h e info x is same = ap (λ k. touches_by h k (chunk_of h x)) is ∙ eq-eqb info.number (chunk_of h x).array (same ∙ sym (chunk_array (known_after h x.array) x))

-- the word that a known array had when it was opened doesn't depend on its present shape
pub opening_word-reshaped : (start : Contents) (old : Known) (shape : List ℕ) (x : Cell) → opening_word start (record old { shape = shape }) x ≡ opening_word start old x
opening_word-reshaped start old shape x = refl

-- a cell whose chunk nothing has touched since the opening has the word that it had then
pub content_of_opening : (start : Contents) (x : Cell) (events : History) (k : Known) → known_after events x.array ≡ Some k → generation_of events (chunk_in (Some k) x) ≤ k.opened → content_after start events x ≡ opening_word start k x
content_of_opening start x =
    each_history (λ h. (k : Known) → known_after h x.array ≡ Some k → generation_of h (chunk_in (Some k) x) ≤ k.opened → content_after start h x ≡ opening_word start k x) (λ k is. absurd (no_array x.array k is))
    (λ h e before k is small.
    elim (known_split h e x.array k is) [
      | inl new ↦
          content_touched start h e x (opens_cell h e new.0 x new.1 new.2) ∙ ap (λ kind. word_by start h kind x (content_after start h x)) new.1 ∙ ap (λ (l : Known). opening_word start l x) (sym new.3)
      | inr (inl cut) ↦
          let chunk : chunk_in (Some k) x ≡ chunk_in (Some cut.0) x = ap (λ (l : Known). chunk_in (Some l) x) cut.4 in
          let opened : k.opened ≡ cut.0.opened = ap (λ (l : Known). l.opened) cut.4 in
          let word : opening_word start k x ≡ opening_word start cut.0 x = ap (λ (l : Known). opening_word start l x) cut.4 in
          stays h e cut.0 cut.3 (subst (λ c. generation_of (h ++ e ∷ []) c ≤ cut.0.opened) chunk (subst (λ n. generation_of (h ++ e ∷ []) (chunk_in (Some k) x) ≤ n) opened small)) (before cut.0 cut.3) ∙ sym word
      | inr (inr old) ↦ stays h e k old small (before k old)
    ]) where
      stays : (h : History) (e : Event) (k : Known) → known_after h x.array ≡ Some k → generation_of (h ++ e ∷ []) (chunk_in (Some k) x) ≤ k.opened
          → (generation_of h (chunk_in (Some k) x) ≤ k.opened → content_after start h x ≡ opening_word start k x) → content_after start (h ++ e ∷ []) x ≡ opening_word start k x
      stays h e k old small before =
          let here : chunk_of h x ≡ chunk_in (Some k) x = ap (λ o. chunk_in o x) old in
          elim (true_or_false (touches h e (chunk_of h x))) [
            | inl t ↦
                let late = generation_touched h e (chunk_in (Some k) x) (ap (touches h e) (sym here) ∙ t) in
                let low = opened_le x.array h k old in
                absurd (omega arith)
            | inr t ↦
                let same = generation_untouched h e (chunk_in (Some k) x) (ap (touches h e) (sym here) ∙ t) in
                content_untouched start h e x t ∙ before (omega arith)
          ]
