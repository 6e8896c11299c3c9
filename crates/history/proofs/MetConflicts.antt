-- A transaction during which its session made no change, and a conflict that it met, whatever was read.
use Rattle.std.proofs.Common.{◌≡◌, ℕ, ◌+◌, ◌<◌, ◌≤◌, List, [], ◌∷◌, ◌++◌, length, take, take-take, drop, Bool, true, false, cond, Option, Some, None, refl, sym, ap, subst, ◌∙◌, append_assoc, length-append, length-take, arith}
use Rattle.std.specs.Prelude.{IsTrue, ◌||◌}
use Rattle.std.specs.List.{AllByRecursion}
use Rattle.std.proofs.lemmas.List.{take-append-drop, drop-append-le, drop_all}
use Rattle.std.proofs.Math.Seq.{take-append_seam, take-length}
use Rattle.std.proofs.Math.Decide.{dec_le}
use Rattle.std.proofs.Math.Nat.{lt_of_not-le}
use Rattle.stack_driver.specs.declared.view.View.{View}
use Rattle.history.specs.declared.array.ArrayInfo.{ArrayInfo}
use Rattle.history.specs.declared.event.Kind.{Kind}
use Rattle.history.specs.declared.event.Kind.TheVariants.{Opened, Done, Resized, Fault}
use Rattle.history.specs.declared.event.Mode.{Mode}
use Rattle.history.specs.declared.event.Op.TheVariants.{Read}
use Rattle.history.specs.Chunks.{Chunk, is_chunk}
use Rattle.history.specs.Commit.{Key, Transaction, IsConflict}
use Rattle.history.specs.Generations.{IsChange, IsForeignChange, IsRealConflict, IsTouched}
use Rattle.history.specs.History.{History}
use Rattle.history.specs.ReadRows.{with_read}
use Rattle.history.specs.Reads.{Marks, has_mark, mark_of}
use Rattle.history.specs.Sessions.{new_transaction, reader}
use Rattle.history.specs.Shown.{AreMarked, IsMarkWithin}
use Rattle.history.specs.Touch.{generation_of, touches_by}
use Rattle.history.proofs.Generations.{generation_of-rises}
use Rattle.history.proofs.Histories.{generation_of-more}
use Rattle.history.proofs.Quiet.{HasQuiet, IsQuiet, IsQuietEvent, all_parts}
use Rattle.history.proofs.Transactions.{all_with}

-- a new transaction
pub quiet_begun : (owner seen : ℕ) (events : History) (line : ℕ) (mode : Mode) → IsQuiet owner seen events (new_transaction line mode)
quiet_begun owner seen events line mode = record {
  begun = seen;
  low = omega arith;
  marked = tt;
  quiet = subst (AllByRecursion (IsQuietEvent owner)) (sym (drop_all seen (take seen events) (omega (arith, length-take seen events)))) tt;
}

fresh_above : (seen high begun : ℕ) (fresh : Marks) → begun ≤ seen → AllByRecursion (IsMarkWithin seen high) fresh → AllByRecursion (λ m. begun ≤ m.1) fresh
fresh_above seen high begun [] low new = tt
fresh_above seen high begun (m ∷ ms) low new = (let h = new.0.0 in omega (arith, low, h), fresh_above seen high begun ms low new.1)

-- one that reads
pub quiet_marked : (owner seen : ℕ) (events : History) (line : ℕ) (t : Option Transaction) (view : View) (words : List ℕ) (marks : Marks) → AreMarked events seen (reader line t) view marks → HasQuiet owner seen events t → HasQuiet owner seen events (with_read t view words marks)
quiet_marked owner seen events line None view words marks is quiet = tt
quiet_marked owner seen events line (Some t) view words marks is quiet = by t.mode.repeatable_read
  where
    by : (b : Bool) → IsQuiet owner seen events (cond b (record t { ops = t.ops ++ Read view words ∷ []; marks = marks }) t)
    by true = record {
      begun = quiet.begun;
      low = quiet.low;
      marked = subst (λ ms. AllByRecursion (λ m. quiet.begun ≤ m.1) ms) (sym is.marked) (all_with (λ m. quiet.begun ≤ m.1) t.marks is.fresh quiet.marked (fresh_above seen (length events) quiet.begun is.fresh quiet.low is.within));
      quiet = quiet.quiet;
    }
    by false = quiet

-- a mark at which the chunk's generation was less lies before the event that touched it last
pub late_mark : (events : History) (c : Chunk) (m : ℕ) (t : IsTouched events c (generation_of events c)) → generation_of (take m events) c < generation_of events c → length t.before < m → ⊥
late_mark events c m t less high =
    let head : History = t.before ++ t.event ∷ [] in
    let parts : head ++ t.later ≡ events = append_assoc t.before (t.event ∷ []) t.later ∙ sym t.parts in
    let size : length head ≡ length t.before + 1 = length-append t.before (t.event ∷ []) in
    let rest : History = drop (length head) (take m events) in
    let front : take (length head) (take m events) ≡ head = take-take (length head) m events (omega (arith, size, high)) ∙ ap (take (length head)) (sym parts) ∙ take-append_seam head t.later in
    let whole : head ++ rest ≡ take m events = ap (λ h. h ++ rest) (sym front) ∙ take-append-drop (length head) (take m events) in
    let here : generation_of head c ≡ length t.before + 1 = generation_of-more t.before t.event c ∙ ap (λ b. cond b (length t.before + 1) (generation_of t.before c)) t.touched in
    let rises : generation_of head c ≤ generation_of (take m events) c = subst (λ h. generation_of head c ≤ generation_of h c) whole (generation_of-rises head c rest) in
    let number = t.number in
    omega (arith, here, rises, less, number)

pub early_mark : (a b : ℕ) → (b < a → ⊥) → a ≤ b
early_mark a b never = elim (dec_le a b) [ yes low ↦ low | no high ↦ absurd (never (lt_of_not-le high)) ]

-- a mark that there is lies where all marks do
mark_above : (begun : ℕ) (marks : Marks) (c : Chunk) → AllByRecursion (λ m. begun ≤ m.1) marks → has_mark marks c ≡ true → begun ≤ mark_of marks c
mark_above begun [] c low has = absurd (cc)
mark_above begun (m ∷ ms) c low has = mark_step (is_chunk m.0 c) begun m.1 (mark_of ms c) (has_mark ms c) low.0 has (mark_above begun ms c low.1)
  where
    mark_step : (b : Bool) (begun m rest : ℕ) (more : Bool) → begun ≤ m → (b || more) ≡ true → (more ≡ true → begun ≤ rest) → begun ≤ cond b m rest
    mark_step true begun m rest more low has next = low
    mark_step false begun m rest more low has next = next has

-- an event that touches a chunk and is no opening is a commit or a resize
pub change_of : (before : History) (kind : Kind) (c : Chunk) → touches_by before kind c ≡ true → ((info : ArrayInfo) → kind ≡ Opened info → ⊥) → IsChange kind
change_of before (Opened info) c touched never = absurd (never info refl)
change_of before (Done line mode ops key) c touched never = tt
change_of before (Resized a shape) c touched never = tt
change_of before (Fault mount) c touched never = absurd (cc)

-- a conflict with a chunk that has a mark is another session's
pub met_is_foreign : (owner : ℕ) (events : History) (t : Transaction) (key : Key) (read now : ℕ) (is : IsConflict events t key read now) → IsTrue (has_mark t.marks is.chunk) → IsRealConflict events is.chunk read now → IsQuiet owner (length events) events t
    → IsForeignChange owner events is.chunk read now
met_is_foreign owner events t key read now is marked real quiet =
    let c = is.chunk in
    let m = mark_of t.marks c in
    let touch = real.touch in
    let low : quiet.begun ≤ m = mark_above quiet.begun t.marks c quiet.marked marked in
    let at : IsTouched events c (generation_of events c) = subst (IsTouched events c) is.now_at touch in
    let late : m ≤ length at.before = early_mark m (length at.before) (late_mark events c m at is.conflict.touched) in
    let number : length at.before ≡ length touch.before = let a = at.number in let b = touch.number in let n = is.now_at in omega (arith, a, b, n) in
    let change = change_of touch.before touch.event.kind c touch.touched real.no_opening in
    let whole : AllByRecursion (IsQuietEvent owner) (drop quiet.begun events) = subst (λ h. AllByRecursion (IsQuietEvent owner) (drop quiet.begun h)) (take-length events) quiet.quiet in
    let parts : drop quiet.begun events ≡ drop quiet.begun touch.before ++ touch.event ∷ touch.later = ap (drop quiet.begun) touch.parts ∙ drop-append-le quiet.begun touch.before (touch.event ∷ touch.later) (omega (arith, low, late, number)) in
    let each = all_parts (IsQuietEvent owner) (drop quiet.begun touch.before) (touch.event ∷ touch.later) (subst (AllByRecursion (IsQuietEvent owner)) parts whole) in
    record { touch = touch; change = change; later = real.later; foreign = λ same. each.1.0 same change }
