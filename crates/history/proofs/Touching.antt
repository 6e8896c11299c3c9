-- What events leave in the chunks that they touch, and which events touch a chunk after its array was opened.
use Rattle.std.proofs.Common.{◌≡◌, ◌≢◌, ℕ, ◌+◌, ◌<◌, List, [], ◌∷◌, ◌++◌, length, true, cond, Option, Some, None, refl, sym, ap, subst, ◌∙◌, arith, append_assoc, eqb-true, eq-eqb}
use Rattle.kv_face.specs.Store.{Contents}
use Rattle.stack_driver.specs.Targets.{Cell}
use Rattle.history.specs.declared.array.ArrayInfo.{ArrayInfo}
use Rattle.history.specs.declared.event.Op.{Op}
use Rattle.history.specs.declared.event.Kind.TheVariants.{Opened, Resized}
use Rattle.history.specs.declared.event.Event.{Event}
use Rattle.history.specs.History.{History}
use Rattle.history.specs.Arrays.{Known, known_after, known_step}
use Rattle.history.specs.Chunks.{Chunk, chunk_of}
use Rattle.history.specs.Touch.{touches, touches_by, generation_of}
use Rattle.history.specs.Writes.{puts_of}
use Rattle.history.specs.Content.{content_after, cut_to, present_shape}
use Rattle.history.specs.Commit.{Key, Transaction, done}
use Rattle.history.proofs.Histories.{known_after-more}
use Rattle.history.proofs.Known.{opened_as, some_inj}
use Rattle.history.proofs.Untouched.{content_touched}
use Rattle.history.proofs.Generations.{generation_of-touches}
use Rattle.history.specs.Generations.{IsTouched}
use Rattle.history.proofs.Longer.{IsOpenedAs, AlwaysStay}
use Rattle.history.proofs.Written.{else_word, last_put, written-is}

-- a commit leaves the last word that it puts at a cell, else the one before, and past the shape the fill
pub content_of_done : (start : Contents) (events : History) (owner : ℕ) (t : Transaction) (ops : List Op) (key : Option Key) (x : Cell) → touches events (done owner t ops key) (chunk_of events x) ≡ true
    → content_after start (events ++ done owner t ops key ∷ []) x ≡ cut_to (known_after events x.array) (present_shape (known_after events x.array)) x (else_word (last_put (puts_of ops) x) (content_after start events x))
content_of_done start events owner t ops key x touched =
    content_touched start events (done owner t ops key) x touched ∙ ap (cut_to (known_after events x.array) (present_shape (known_after events x.array)) x) (written-is ops (λ y. content_after start events x) x)

-- a resize leaves the word inside the new shape, and past it the fill
pub content_of_resize : (start : Contents) (events : History) (owner a : ℕ) (shape : List ℕ) (x : Cell) → touches events (record { owner = owner; kind = Resized a shape }) (chunk_of events x) ≡ true
    → content_after start (events ++ record { owner = owner; kind = Resized a shape } ∷ []) x ≡ cut_to (known_after events x.array) shape x (content_after start events x)
content_of_resize start events owner a shape x touched = content_touched start events (record { owner = owner; kind = Resized a shape }) x touched

pub opened_then : (h : History) (e : Event) (info : ArrayInfo) (a : ℕ) → e.kind ≡ Opened info → info.number ≡ a → known_after (h ++ e ∷ []) a ≡ Some (opened_as h info)
opened_then h e info a is same =
    known_after-more h e a ∙ ap (λ kind. known_step a h kind (known_after h a)) is ∙ ap (λ b. cond b (Some (opened_as h info)) (known_after h a)) (eq-eqb info.number a same)

same_opened : (i : ArrayInfo) (n : ℕ) (o : Option Known) (k : Known) → o ≡ Some k → IsOpenedAs i n o → k.opened ≡ n
unfolding IsOpenedAs
same_opened i n None k is opened = absurd opened
same_opened i n (Some l) k is opened = ap (λ (m : Known). m.opened) (sym (some_inj l k is)) ∙ opened.1

opened_known : (i : ArrayInfo) (n : ℕ) (o : Option Known) (k : Known) → o ≡ Some k → k.info ≡ i → k.opened ≡ n → IsOpenedAs i n o
unfolding IsOpenedAs
opened_known i n o k is info number = subst (IsOpenedAs i n) (sym is) (info, number)

-- an event after its array's opening that touches a chunk is a commit or a resize
pub touched_later : (events : History) (c : Chunk) (k : Known) → AlwaysStay events → known_after events c.array ≡ Some k → k.opened < generation_of events c
    → (t : IsTouched events c (generation_of events c)) × ((info : ArrayInfo) → t.event.kind ≢ Opened info)
touched_later events c k stay is late =
    let t = generation_of-touches c events (omega arith) in (
      t,
      λ info kind.
          let before = t.before in
          let early = before ++ t.event ∷ [] in
          let parts : early ++ t.later ≡ events = append_assoc before (t.event ∷ []) t.later ∙ sym t.parts in
          let number : info.number ≡ c.array = eqb-true info.number c.array (ap (λ g. touches_by before g c) (sym kind) ∙ t.touched) in
          let now = opened_then before t.event info c.array kind number in
          let first : IsOpenedAs info (length before + 1) (known_after early c.array) = opened_known info (length before + 1) (known_after early c.array) (opened_as before info) now refl refl in
          let last : IsOpenedAs info (length before + 1) (known_after events c.array) = stay early t.later parts c.array info (length before + 1) first in
          let opened = same_opened info (length before + 1) (known_after events c.array) k is last in
          let same = t.number in
          absurd (omega arith),
    )
