-- A conflict is real: a commit or a resize touched a chunk after it was read.
use Rattle.std.proofs.Common.{◌≡◌, ℕ, zero, suc, ◌+◌, ◌<◌, ◌≤◌, List, [], ◌∷◌, ◌++◌, length, map, take, drop, Bool, true, false, cond, Option, Some, None, Result, Ok, Err, inl, inr, refl, sym, ap, subst, ◌∙◌, arith}
use Rattle.std.specs.Prelude.{Contains, filter, filter_map, option_map, not}
use Rattle.std.specs.List.{AllByRecursion}
use Rattle.std.proofs.lemmas.List.{take-append-drop}
use Rattle.kv_face.specs.Store.{Contents}
use Rattle.stack_driver.specs.Targets.{Cell, Target, outwards}
use Rattle.stack_driver.specs.Views.{targets_of}
use Rattle.stack_driver.specs.declared.error.TargetError.{TargetError}
use Rattle.history.specs.declared.array.ArrayInfo.{ArrayInfo}
use Rattle.history.specs.declared.event.Op.{Op}
use Rattle.history.specs.declared.event.Op.TheVariants.{Write, Read}
use Rattle.history.specs.History.{History}
use Rattle.history.specs.Arrays.{Known, known_after}
use Rattle.history.specs.Chunks.{Chunk, chunk_of}
use Rattle.history.specs.Touch.{touches, touches_by, generation_of}
use Rattle.history.specs.Writes.{Content, puts_of, written, shown_in}
use Rattle.history.specs.Content.{content_after}
use Rattle.history.specs.Reads.{target_cell, is_put, unwritten, first_reads, footprint_of, mark_of, marked_world}
use Rattle.history.specs.Legal.{IsLegal, AreReads, is_present_in}
use Rattle.history.specs.Commit.{Key, Transaction, IsConflict, read_generation}
use Rattle.history.proofs.Histories.{each_history}
use Rattle.history.proofs.Known.{known_split, no_array, none_is_none}
use Rattle.history.proofs.Untouched.{generation_touched, chunk_array}
use Rattle.history.proofs.Generations.{generation_of-rises}
use Rattle.history.proofs.Presence.{world_some}
use Rattle.history.proofs.Longer.{IsOpenedAs, AlwaysStay, legal_stay}
use Rattle.history.proofs.Written.{puts_elsewhere}
use Rattle.history.specs.Staged.{IsTransaction}
use Rattle.history.proofs.Transactions.{all_with}
use Rattle.history.proofs.Touching.{touched_later}
use Rattle.std.proofs.Common.{eq-eqb}
use Rattle.history.specs.Generations.{IsRealConflict}

-- the content has a word at the cell
abbrev pub HasWord : Content → Cell → Type 0
HasWord f x = (w : ℕ) × (f x ≡ Some w)

shown_word : (o : Option ℕ) (out : ℕ → ℕ) (w : ℕ) → option_map out o ≡ Some w → (v : ℕ) × (o ≡ Some v)
shown_word None out w e = absurd (none_is_none w e)
shown_word (Some v) out w e = (v, refl)

unless_put : (b : Bool) (P : Cell → Type 0) (x : Cell) (xs : List Cell) → (b ≡ false → P x) → AllByRecursion P xs → AllByRecursion P (cond (not b) (x ∷ xs) xs)
unless_put true P x xs first rest = rest
unless_put false P x xs first rest = (first refl, rest)

unwritten_words : (f : Content) (before : List Op) (ts : List (Result Target TargetError)) (words : List ℕ) → map Some words ≡ map (shown_in (written before f)) ts → AllByRecursion (HasWord f) (filter (λ x. not (is_put (puts_of before) x)) (filter_map target_cell ts))
unwritten_words f before [] words e = tt
unwritten_words f before (t ∷ ts) [] e = absurd (cc)
unwritten_words f before (Ok t ∷ ts) (w ∷ ws) e =
    let head : option_map (outwards t.casts) (written before f t.cell) ≡ Some w = cc in
    let tail : map Some ws ≡ map (shown_in (written before f)) ts = cc in
    let word = shown_word (written before f t.cell) (outwards t.casts) w head in
    unless_put (is_put (puts_of before) t.cell) (HasWord f) t.cell (filter (λ x. not (is_put (puts_of before) x)) (filter_map target_cell ts))
    (λ gone. (word.0, sym (puts_elsewhere (puts_of before) f t.cell gone) ∙ word.1)) (unwritten_words f before ts ws tail)
unwritten_words f before (Err x ∷ ts) (w ∷ ws) e = absurd (cc)

-- what was read first was there
pub first_reads_words : (f : Content) (before ops : List Op) → AreReads f before ops → AllByRecursion (HasWord f) (first_reads before ops)
first_reads_words f before [] reads = tt
first_reads_words f before (Write view words ∷ ops) reads = first_reads_words f (before ++ Write view words ∷ []) ops reads
first_reads_words f before (Read view words ∷ ops) reads =
    all_with (HasWord f) (unwritten before view) (first_reads (before ++ Read view words ∷ []) ops) (unwritten_words f before (targets_of view) words reads.0) (first_reads_words f (before ++ Read view words ∷ []) ops reads.1)

pub among_mapped : (f : Cell → Chunk) (P : Cell → Type 0) (xs : List Cell) (c : Chunk) → AllByRecursion P xs → Contains (map f xs) c → (x : Cell) × P x × (f x ≡ c)
among_mapped f P [] c all (k, lt, e) = absurd (omega arith)
among_mapped f P (x ∷ xs) c all (zero, lt, e) = (x, all.0, e)
among_mapped f P (x ∷ xs) c all (suc k, lt, e) = among_mapped f P xs c all.1 (k, omega arith, e)

-- an array's opening touches all its chunks
pub opening_touches : (c : Chunk) (events : History) (k : Known) → known_after events c.array ≡ Some k → k.opened ≤ generation_of events c
opening_touches c =
    each_history (λ h. (k : Known) → known_after h c.array ≡ Some k → k.opened ≤ generation_of h c) (λ k is. absurd (no_array c.array k is))
    (λ h e before k is.
    let rises = generation_of-rises h c (e ∷ []) in
    elim (known_split h e c.array k is) [
      | inl new ↦
          let touch : touches h e c ≡ true = ap (λ kind. touches_by h kind c) new.1 ∙ eq-eqb new.0.number c.array new.2 in
          let now = generation_touched h e c touch in
          let opened : k.opened ≡ length h + 1 = ap (λ (l : Known). l.opened) new.3 in
          omega arith
      | inr (inl cut) ↦
          let opened : k.opened ≡ cut.0.opened = ap (λ (l : Known). l.opened) cut.4 in
          let low = before cut.0 cut.3 in
          omega arith
      | inr (inr old) ↦ let low = before k old in omega arith
    ])

present_known : (o : Option Known) (x : Cell) → is_present_in o x ≡ true → (k : Known) × (o ≡ Some k)
present_known None x e = absurd (cc)
present_known (Some k) x e = (k, refl)

pub itself : (o : Option Known) (k : Known) → o ≡ Some k → IsOpenedAs k.info k.opened o
unfolding IsOpenedAs
itself o k is = subst (IsOpenedAs k.info k.opened) (sym is) (refl, refl)

opened_of_known : (i : ArrayInfo) (n : ℕ) (o : Option Known) → IsOpenedAs i n o → (k : Known) × (o ≡ Some k) × (k.opened ≡ n)
unfolding IsOpenedAs
opened_of_known i n None opened = absurd opened
opened_of_known i n (Some k) opened = (k, refl, opened.1)

-- the array of a chunk that was read is known at the chunk's mark
pub known_at_mark : (start : Contents) (events : History) (t : Transaction) (c : Chunk) → IsTransaction start events t → Contains (footprint_of events t.ops) c → (k : Known) × (known_after (take (mark_of t.marks c) events) c.array ≡ Some k)
known_at_mark start events t c tx read =
    let m = mark_of t.marks c in
    let early = take m events in
    let f = marked_world start events (mark_of t.marks) in
    let found = among_mapped (chunk_of events) (HasWord f) (first_reads [] t.ops) c (first_reads_words f [] t.ops tx.seen) read in
    let x = found.0 in
    let here : f x ≡ Some found.1.0 = found.1.1 in
    let at : known_after (take (mark_of t.marks (chunk_of events x)) events) x.array ≡ known_after early x.array = ap (λ d. known_after (take (mark_of t.marks d) events) x.array) found.2 in
    let present = (world_some (known_after (take (mark_of t.marks (chunk_of events x)) events) x.array) x (content_after start (take (mark_of t.marks (chunk_of events x)) events) x) found.1.0 here).0 in
    let number : x.array ≡ c.array = sym (chunk_array (known_after events x.array) x) ∙ ap (λ (d : Chunk). d.array) found.2 in
    let first = present_known (known_after early x.array) x (ap (λ o. is_present_in o x) (sym at) ∙ present) in
    (first.0, ap (known_after early) (sym number) ∙ first.1)

-- a conflict over a chunk whose array was known at the chunk's mark is real
pub conflict_after_mark : (events : History) (t : Transaction) (key : Key) (read now : ℕ) → AlwaysStay events → (is : IsConflict events t key read now) (k : Known) → known_after (take (mark_of t.marks is.chunk) events) is.chunk.array ≡ Some k
    → IsRealConflict events is.chunk read now
conflict_after_mark events t key read now stay is k then =
    let c = is.chunk in
    let m = mark_of t.marks c in
    let early = take m events in
    let low : k.opened ≤ generation_of early c = opening_touches c early k then in
    let last : IsOpenedAs k.info k.opened (known_after events c.array) = stay early (drop m events) (take-append-drop m events) c.array k.info k.opened (itself (known_after early c.array) k then) in
    let known = opened_of_known k.info k.opened (known_after events c.array) last in
    let rises : read_generation events t.marks c < generation_of events c = is.conflict.touched in
    let same = known.2 in
    let later = touched_later events c known.0 stay known.1 (omega arith) in
    let now_at = is.now_at in
    let read_at = is.read_at in
    subst (λ n. IsRealConflict events c read n) (sym now_at) (record { touch = later.0; no_opening = later.1; later = omega arith })

pub conflict_is_real : (start : Contents) (events : History) (t : Transaction) (key : Key) (read now : ℕ) → IsLegal start events → IsTransaction start events t → (is : IsConflict events t key read now) → IsRealConflict events is.chunk read now
conflict_is_real start events t key read now legal tx is =
    let first = known_at_mark start events t is.chunk tx is.conflict.was_read in
    conflict_after_mark events t key read now (legal_stay start events legal) is first.0 first.1
