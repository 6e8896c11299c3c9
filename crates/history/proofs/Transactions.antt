-- A transaction from line to line.
use Rattle.std.proofs.Common.{◌≡◌, ℕ, ◌≤◌, List, [], ◌∷◌, ◌++◌, length, take, Bool, true, false, cond, Some, None, ◌⊎◌, inl, inr, refl, sym, ap, subst, ◌∙◌, append_assoc, append-nil, length-append, arith}
use Rattle.std.specs.List.{AllByRecursion}
use Rattle.stack_driver.specs.declared.view.View.{View}
use Rattle.stack_driver.specs.Targets.{Cell}
use Rattle.history.specs.declared.event.Op.{Op}
use Rattle.history.specs.declared.event.Op.TheVariants.{Write, Read}
use Rattle.history.specs.History.{History}
use Rattle.history.specs.Chunks.{Chunk, is_chunk, chunk_of}
use Rattle.history.specs.Writes.{Content}
use Rattle.kv_face.specs.Store.{Contents}
use Rattle.history.specs.Content.{world_after}
use Rattle.history.specs.Reads.{Marks, mark_of, first_reads, marked_world}
use Rattle.history.specs.Legal.{IsLegal, AreReads}
use Rattle.history.specs.Commit.{Fixed, Transaction}
use Rattle.history.specs.Shown.{IsRead, IsMarkWithin}
use Rattle.history.proofs.Serial.{IsKeptAt, reads_kept}
use Rattle.history.proofs.Longer.{each_cell, seen-longer}
use Rattle.history.specs.Staged.{IsTransaction}

-- one operation more
pub AreReads-more : (f : Content) (op : Op) (before ops : List Op) → AreReads f before ops → AreReads f (before ++ ops) (op ∷ []) → AreReads f before (ops ++ op ∷ [])
AreReads-more f op before [] reads last = subst (λ b. AreReads f b (op ∷ [])) (append-nil before) last
AreReads-more f op before (Write view words ∷ ops) reads last = AreReads-more f op (before ++ Write view words ∷ []) ops reads (subst (λ b. AreReads f b (op ∷ [])) (sym (append_assoc before (Write view words ∷ []) ops)) last)
AreReads-more f op before (Read view words ∷ ops) reads last = (reads.0, AreReads-more f op (before ++ Read view words ∷ []) ops reads.1 (subst (λ b. AreReads f b (op ∷ [])) (sym (append_assoc before (Read view words ∷ []) ops)) last))

entry_more : (b : Bool) (m rest more : ℕ) → (more ≡ rest) ⊎ (rest ≡ 0) → (cond b m more ≡ cond b m rest) ⊎ (cond b m rest ≡ 0)
entry_more true m rest more h = inl refl
entry_more false m rest more h = h

-- a chunk keeps its mark, or had none
mark_of-more : (marks fresh : Marks) (c : Chunk) → (mark_of (marks ++ fresh) c ≡ mark_of marks c) ⊎ (mark_of marks c ≡ 0)
mark_of-more [] fresh c = inr refl
mark_of-more (m ∷ ms) fresh c = entry_more (is_chunk m.0 c) m.1 (mark_of ms c) (mark_of (ms ++ fresh) c) (mark_of-more ms fresh c)

more_kept : (start : Contents) (events : History) (marks fresh : Marks) (x : Cell) → IsKeptAt (marked_world start events (mark_of marks)) (marked_world start events (mark_of (marks ++ fresh))) x
more_kept start events marks fresh x w has = elim (mark_of-more marks fresh (chunk_of events x)) [
  | inl same ↦ ap (λ m. world_after start (take m events) x) same ∙ has
  | inr none ↦ let nothing : None ≡ Some w = ap (λ m. world_after start (take m events) x) (sym none) ∙ has in absurd (cc)
]

pub all_with : {A : Type 0} (P : A → Type 0) (xs ys : List A) → AllByRecursion P xs → AllByRecursion P ys → AllByRecursion P (xs ++ ys)
all_with P [] ys all rest = rest
all_with P (x ∷ xs) ys all rest = (all.0, all_with P xs ys all.1 rest)

fresh_within : (low high : ℕ) (fresh : Marks) → AllByRecursion (IsMarkWithin low high) fresh → AllByRecursion (λ m. m.1 ≤ high) fresh
fresh_within low high [] all = tt
fresh_within low high (m ∷ ms) all = (all.0.1, fresh_within low high ms all.1)

-- a transaction without operations
pub transaction_begun : (start : Contents) (events : History) (t : Transaction) → t.ops ≡ [] → t.marks ≡ [] → IsTransaction start events t
transaction_begun start events t none unmarked = record {
  seen = subst (λ ops. AreReads (marked_world start events (mark_of t.marks)) [] ops) (sym none) tt;
  within = subst (λ marks. AllByRecursion (λ m. m.1 ≤ length events) marks) (sym unmarked) tt;
}

-- one that stages a Write
pub transaction_written : (start : Contents) (events : History) (t : Transaction) (view : View) (words : List ℕ) → IsTransaction start events t → IsTransaction start events (record t { ops = t.ops ++ Write view words ∷ [] })
transaction_written start events t view words tx = record { seen = AreReads-more (marked_world start events (mark_of t.marks)) (Write view words) [] t.ops tx.seen tt; within = tx.within }

-- one that has read
pub transaction_read : (fixed : Fixed) (events : History) (seen : ℕ) (t : Transaction) (view : View) (words : List ℕ) (marks : Marks) → IsTransaction fixed.start events t → IsRead fixed events seen t view words marks
    → IsTransaction fixed.start events (record t { ops = t.ops ++ Read view words ∷ []; marks = marks })
transaction_read fixed events seen t view words marks tx read =
    let f = marked_world fixed.start events (mark_of t.marks) in
    let g = marked_world fixed.start events (mark_of marks) in
    let kept : (x : Cell) → IsKeptAt f g x = λ x. subst (λ (m : Marks). IsKeptAt f (marked_world fixed.start events (mark_of m)) x) (sym read.marked.marked) (more_kept fixed.start events t.marks read.marked.fresh x) in
    record {
      seen = AreReads-more g (Read view words) [] t.ops (reads_kept f g [] t.ops (each_cell (IsKeptAt f g) kept (first_reads [] t.ops)) tx.seen) (read.shown, tt);
      within = subst (λ ms. AllByRecursion (λ m. m.1 ≤ length events) ms) (sym read.marked.marked) (all_with (λ m. m.1 ≤ length events) t.marks read.marked.fresh tx.within (fresh_within seen (length events) read.marked.fresh read.marked.within));
    }

within_more : (n m : ℕ) (marks : Marks) → n ≤ m → AllByRecursion (λ p. p.1 ≤ n) marks → AllByRecursion (λ p. p.1 ≤ m) marks
within_more n m [] le all = tt
within_more n m (p ∷ ps) le all = (let h = all.0 in omega arith, within_more n m ps le all.1)

-- a transaction stands in every longer history
pub transaction_longer : (start : Contents) (early late : History) (t : Transaction) → IsLegal start (early ++ late) → IsTransaction start early t → IsTransaction start (early ++ late) t
transaction_longer start early late t legal tx = record {
  seen = seen-longer start early late t.marks [] t.ops legal tx.within tx.seen;
  within = within_more (length early) (length (early ++ late)) t.marks (omega (arith, length-append early late)) tx.within;
}
