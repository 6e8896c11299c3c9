-- A read of a session alone shows the arrays as they are.
use Rattle.std.proofs.Common.{◌⊎◌, inl, inr, ◌≡◌, ℕ, List, [], ◌∷◌, length, map, take, Bool, true, false, cond, Option, Some, None, Result, Ok, Err, refl, sym, ap, ◌∙◌}
use Rattle.std.specs.Prelude.{fold, filter, filter_map, option_map, not, ◌||◌, unwrap_or}
use Rattle.std.specs.FinMap as finmap
use Rattle.std.specs.List.{AllByRecursion}
use Rattle.std.proofs.Math.Seq.{take-length}
use Rattle.kv_face.specs.Store.{Contents}
use Rattle.stack_driver.specs.declared.view.View.{View}
use Rattle.stack_driver.specs.Targets.{Cell, is_cell, Target, outwards}
use Rattle.stack_driver.specs.Views.{targets_of}
use Rattle.stack_driver.specs.declared.error.TargetError.{TargetError}
use Rattle.history.specs.declared.event.Op.{Op}
use Rattle.history.specs.declared.event.Op.TheVariants.{Read}
use Rattle.history.specs.History.{History}
use Rattle.history.specs.Arrays.{known_after}
use Rattle.history.specs.Chunks.{Chunk, is_chunk, chunk_of}
use Rattle.history.specs.Commit.{Fixed, Transaction}
use Rattle.history.specs.Content.{content_after, world_after}
use Rattle.history.specs.Legal.{is_present}
use Rattle.history.specs.Reads.{Marks, mark_of, is_put, target_cell, unwritten, marked_world}
use Rattle.history.specs.Shown.{IsRead}
use Rattle.history.specs.Single.{Outside, first_outside, words_now}
use Rattle.history.specs.Writes.{Put, puts_of, Content, put, written, shown_in, read_values}
use Rattle.history.proofs.Longer.{each_cell}
use Rattle.history.proofs.Presence.{world_some}
use Rattle.history.proofs.Serial.{IsKeptAt, reads_kept}

abbrev pub AreMarkedAt : ℕ → Marks → Type 0
AreMarkedAt n marks = AllByRecursion (λ m. m.1 ≡ n) marks

abbrev pub IsThere : Content → Cell → Type 0
IsThere f x = (w : ℕ) × (f x ≡ Some w)

-- a cell that isn't put keeps its number
unput_step : (b : Bool) (w : ℕ) (o : Option ℕ) → b ≡ false → cond b (Some w) o ≡ o
unput_step true w o is = absurd (cc)
unput_step false w o is = refl

or_parts : (a b : Bool) → (a || b) ≡ false → (a ≡ false) × (b ≡ false)
or_parts true b is = absurd (cc)
or_parts false b is = (refl, is)

pub unput : (puts : List Put) (f : Content) (x : Cell) → is_put puts x ≡ false → fold put f puts x ≡ f x
unput [] f x none = refl
unput (p ∷ ps) f x none = let parts = or_parts (is_cell p.0 x) (is_put ps x) none in unput ps (put f p) x parts.1 ∙ unput_step (is_cell p.0 x) p.1 (f x) parts.0

some_of : (o : Option ℕ) (out : ℕ → ℕ) (w : ℕ) → option_map out o ≡ Some w → (v : ℕ) × (o ≡ Some v)
some_of None out w is = absurd (cc)
some_of (Some v) out w is = (v, refl)

there_step : (b : Bool) (f : Content) (x : Cell) (xs : List Cell) → (b ≡ false → IsThere f x) → AllByRecursion (IsThere f) xs → AllByRecursion (IsThere f) (cond (not b) (x ∷ xs) xs)
there_step true f x xs here rest = rest
there_step false f x xs here rest = (here refl, rest)

-- a view that is shown has a number at each cell that isn't written
all_there : (f : Content) (ops : List Op) (ts : List (Result Target TargetError)) (words : List ℕ) → map Some words ≡ map (shown_in (written ops f)) ts → AllByRecursion (IsThere f) (filter (λ x. not (is_put (puts_of ops) x)) (filter_map target_cell ts))
all_there f ops [] words shown = tt
all_there f ops (t ∷ ts) [] shown = absurd (cc)
all_there f ops (Err e ∷ ts) (w ∷ ws) shown = all_there f ops ts ws (cc)
all_there f ops (Ok t ∷ ts) (w ∷ ws) shown =
    let head : Some w ≡ option_map (outwards t.casts) (written ops f t.cell) = cc in
    let tail : map Some ws ≡ map (shown_in (written ops f)) ts = cc in
    let there = some_of (written ops f t.cell) (outwards t.casts) w (sym head) in
    there_step (is_put (puts_of ops) t.cell) f t.cell _ (λ none. (there.0, sym (unput (puts_of ops) f t.cell none) ∙ there.1)) (all_there f ops ts ws tail)

mark_step : (b : Bool) (m rest n : ℕ) → m ≡ n → (rest ≡ n) ⊎ (rest ≡ 0) → (cond b m rest ≡ n) ⊎ (cond b m rest ≡ 0)
mark_step true m rest n here rests = inl here
mark_step false m rest n here rests = rests

mark_is : (n : ℕ) (marks : Marks) (c : Chunk) → AreMarkedAt n marks → (mark_of marks c ≡ n) ⊎ (mark_of marks c ≡ 0)
mark_is n [] c at = inr refl
mark_is n (m ∷ ms) c at = mark_step (is_chunk m.0 c) m.1 (mark_of ms c) n at.0 (mark_is n ms c at.1)

-- with every mark at the present, what was seen is there now
present_kept : (start : Contents) (events : History) (marks : Marks) → AreMarkedAt (length events) marks → (x : Cell) → IsKeptAt (marked_world start events (mark_of marks)) (world_after start events) x
present_kept start events marks at x w has = elim (mark_is (length events) marks (chunk_of events x) at) [
  | inl here ↦ sym (ap (λ h. world_after start h x) (ap (λ m. take m events) here ∙ take-length events)) ∙ has
  | inr none ↦ let nothing : None ≡ Some w = ap (λ m. world_after start (take m events) x) (sym none) ∙ has in absurd (cc)
]

values_of_words : (ws : List ℕ) → map (λ word. unwrap_or word 0) (map Some ws) ≡ ws
values_of_words [] = refl
values_of_words (w ∷ ws) = ap (λ xs. w ∷ xs) (values_of_words ws)

-- a list of numbers that are all there is the list of what they are
pub words_are : (fixed : Fixed) (events : History) (seen : ℕ) (t : Transaction) (view : View) (words : List ℕ) (marks : Marks) → fixed.start ≡ finmap.empty → AreMarkedAt (length events) marks → IsRead fixed events seen t view words marks → words_now events t view ≡ words
words_are fixed events seen t view words marks empty at read =
    let f = marked_world fixed.start events (mark_of marks) in
    let g = world_after fixed.start events in
    let shown : map Some words ≡ read_values (written t.ops g) view = (reads_kept f g t.ops (Read view words ∷ []) (each_cell (IsKeptAt f g) (present_kept fixed.start events marks at) _) (read.shown, tt)).0 in
    ap (λ s. map (λ word. unwrap_or word 0) (read_values (written t.ops (world_after s events)) view)) (sym empty) ∙ ap (map (λ word. unwrap_or word 0)) (sym shown) ∙ values_of_words words

outside_step : (b : Bool) (o p : Option Outside) → b ≡ true → p ≡ None → cond b p o ≡ None
outside_step true o p is none = none
outside_step false o p is none = absurd (cc)

pub none_outside : (events : History) (xs : List Cell) → AllByRecursion (λ x. is_present events x ≡ true) xs → first_outside events xs ≡ None
none_outside events [] present = refl
none_outside events (x ∷ xs) present = outside_step (is_present events x) _ (first_outside events xs) present.0 (none_outside events xs present.1)

all_present : (start : Contents) (events : History) (marks : Marks) → AreMarkedAt (length events) marks → (xs : List Cell) → AllByRecursion (IsThere (marked_world start events (mark_of marks))) xs → AllByRecursion (λ x. is_present events x ≡ true) xs
all_present start events marks at [] there = tt
all_present start events marks at (x ∷ xs) there =
    let here : world_after start events x ≡ Some there.0.0 = present_kept start events marks at x there.0.0 there.0.1 in
    ((world_some (known_after events x.array) x (content_after start events x) there.0.0 here).0, all_present start events marks at xs there.1)

-- what a read with marks at the present needs is inside
pub read_inside : (fixed : Fixed) (events : History) (seen : ℕ) (t : Transaction) (view : View) (words : List ℕ) (marks : Marks) → AreMarkedAt (length events) marks → IsRead fixed events seen t view words marks → first_outside events (unwritten t.ops view) ≡ None
read_inside fixed events seen t view words marks at read =
    none_outside events (unwritten t.ops view)
    (all_present fixed.start events marks at (unwritten t.ops view) (all_there (marked_world fixed.start events (mark_of marks)) t.ops (targets_of view) words read.shown))
