-- What stays true of the arrays and of a transaction in every longer history.
use Rattle.std.proofs.Common.{◌≡◌, ℕ, ◌<◌, ◌≤◌, List, [], ◌∷◌, ◌++◌, length, take, drop, Bool, true, false, cond, Option, Some, None, refl, sym, ap, subst, ◌∙◌, append_assoc, append-nil, eqb-true, arith}
use Rattle.std.specs.Prelude.{count_by, ◌==◌}
use Rattle.std.specs.List.{AllByRecursion}
use Rattle.std.proofs.lemmas.List.{take-append-le, take-append-drop}
use Rattle.stack_driver.specs.Targets.{Cell}
use Rattle.history.specs.declared.array.ArrayInfo.{ArrayInfo}
use Rattle.history.specs.declared.event.Op.{Op}
use Rattle.history.specs.declared.event.Kind.{Kind}
use Rattle.history.specs.declared.event.Kind.TheVariants.{Opened, Done, Resized, Fault}
use Rattle.history.specs.History.{History}
use Rattle.history.specs.Arrays.{Known, known_after, known_step, known_reshaped}
use Rattle.history.specs.Chunks.{Chunk, is_chunk, chunk_of, chunk_in}
use Rattle.kv_face.specs.Store.{Contents}
use Rattle.history.specs.Content.{content_after, world_after}
use Rattle.history.specs.Reads.{Marks, mark_of, first_reads, marked_world}
use Rattle.history.specs.Legal.{IsLegal, IsLegalKind, AreReads, is_opening, is_present_in}
use Rattle.history.proofs.Histories.{each_history, known_after-more, legal_step}
use Rattle.history.proofs.Known.{known_below}
use Rattle.history.proofs.Presence.{IsLegal-front, world_some}
use Rattle.history.proofs.Serial.{IsKeptAt, reads_kept}
use Rattle.history.specs.Staged.{AreWithin}

-- the array is known, with this opening
unfoldable pub IsOpenedAs : ArrayInfo → ℕ → Option Known → Type 0
IsOpenedAs info n None = ⊥
IsOpenedAs info n (Some k) = (k.info ≡ info) × (k.opened ≡ n)

opened_below : (start : Contents) (h : History) (a : ℕ) (i : ArrayInfo) (n : ℕ) (known : Option Known) → known ≡ known_after h a → IsLegal start h → IsOpenedAs i n known → a < count_by is_opening h
unfolding IsOpenedAs
opened_below start h a i n None is legal opened = absurd opened
opened_below start h a i n (Some k) is legal opened = known_below start a h legal k (sym is)

stays_opened : (i : ArrayInfo) (n : ℕ) (b : Bool) (k : Known) (known : Option Known) → b ≡ false → IsOpenedAs i n known → IsOpenedAs i n (cond b (Some k) known)
stays_opened i n b k known e opened = subst (λ t. IsOpenedAs i n (cond t (Some k) known)) (sym e) opened

stays_shaped : (i : ArrayInfo) (n : ℕ) (shape : List ℕ) (b : Bool) (known : Option Known) → IsOpenedAs i n known → IsOpenedAs i n (cond b (known_reshaped shape known) known)
unfolding IsOpenedAs
stays_shaped i n shape true None opened = opened
stays_shaped i n shape true (Some k) opened = opened
stays_shaped i n shape false known opened = opened

not_new : (a b count : ℕ) (t : Bool) → (b == a) ≡ t → a < count → b ≡ count → t ≡ false
not_new a b count true is low number = let same = eqb-true b a is in absurd (omega arith)
not_new a b count false is low number = refl

stays_step : (start : Contents) (h : History) (kind : Kind) (a : ℕ) (i : ArrayInfo) (n : ℕ) → IsLegalKind start h kind → a < count_by is_opening h → IsOpenedAs i n (known_after h a) → IsOpenedAs i n (known_step a h kind (known_after h a))
stays_step start h (Opened info) a i n legal low opened = stays_opened i n (info.number == a) _ (known_after h a) (not_new a info.number (count_by is_opening h) (info.number == a) refl low legal.number) opened
stays_step start h (Done line mode ops key) a i n legal low opened = opened
stays_step start h (Resized b shape) a i n legal low opened = stays_shaped i n shape (b == a) (known_after h a) opened
stays_step start h (Fault mount) a i n legal low opened = opened

-- a known array stays the same one
pub known-longer : (start : Contents) (early : History) (a : ℕ) (i : ArrayInfo) (n : ℕ) → IsOpenedAs i n (known_after early a) → (late : History) → IsLegal start (early ++ late) → IsOpenedAs i n (known_after (early ++ late) a)
known-longer start early a i n opened =
    each_history (λ late. IsLegal start (early ++ late) → IsOpenedAs i n (known_after (early ++ late) a)) (λ legal. subst (λ h. IsOpenedAs i n (known_after h a)) (sym (append-nil early)) opened)
    (λ late e before legal.
    let all = early ++ late in
    let to : early ++ (late ++ e ∷ []) ≡ all ++ e ∷ [] = sym (append_assoc early late (e ∷ [])) in
    let parts = legal_step start all e (subst (IsLegal start) to legal) in
    let here = before parts.0 in
    subst (λ h. IsOpenedAs i n (known_after h a)) (sym to) (subst (IsOpenedAs i n) (sym (known_after-more all e a)) (stays_step start all e.kind a i n parts.1 (opened_below start all a i n (known_after all a) refl parts.0 here) here)))

pub IsKnown : Option Known → Type 0
IsKnown known = (i : ArrayInfo) × (n : ℕ) × IsOpenedAs i n known

same_chunk : (i : ArrayInfo) (n : ℕ) (x : Cell) (known more : Option Known) → IsOpenedAs i n known → IsOpenedAs i n more → chunk_in more x ≡ chunk_in known x
unfolding IsOpenedAs
same_chunk i n x None more p q = absurd p
same_chunk i n x (Some k) None p q = absurd q
same_chunk i n x (Some k) (Some l) p q = ap (λ info. chunk_in (Some (record { info = info; opened = 0; shape = [] })) x) (q.0 ∙ sym p.0)

-- a cell of a known array stays in its chunk
pub chunk_of-longer : (start : Contents) (early late : History) (x : Cell) → IsKnown (known_after early x.array) → IsLegal start (early ++ late) → chunk_of (early ++ late) x ≡ chunk_of early x
unfolding IsKnown
chunk_of-longer start early late x known legal = same_chunk known.0 known.1 x (known_after early x.array) (known_after (early ++ late) x.array) known.2 (known-longer start early x.array known.0 known.1 known.2 late legal)

known_of_present : (known : Option Known) (x : Cell) → is_present_in known x ≡ true → IsKnown known
unfolding IsKnown IsOpenedAs
known_of_present None x present = absurd (cc)
known_of_present (Some k) x present = (k.info, k.opened, (refl, refl))

-- an array that is known after some of the events is known after all
pub known-after_take : (start : Contents) (events : History) (a m : ℕ) → IsLegal start events → IsKnown (known_after (take m events) a) → IsKnown (known_after events a)
unfolding IsKnown
known-after_take start events a m legal known =
    let parts = take-append-drop m events in
    (known.0, known.1, subst (λ h. IsOpenedAs known.0 known.1 (known_after h a)) parts (known-longer start (take m events) a known.0 known.1 known.2 (drop m events) (subst (IsLegal start) (sym parts) legal)))

mark_step : (b : Bool) (m rest n : ℕ) → m ≤ n → rest ≤ n → cond b m rest ≤ n
mark_step true m rest n h k = h
mark_step false m rest n h k = k

pub mark_of-within : (n : ℕ) (marks : Marks) (c : Chunk) → AreWithin n marks → mark_of marks c ≤ n
mark_of-within n [] c within = omega arith
mark_of-within n (m ∷ ms) c within = mark_step (is_chunk m.0 c) m.1 (mark_of ms c) n within.0 (mark_of-within n ms c within.1)

marked_kept : (start : Contents) (early late : History) (marks : Marks) → IsLegal start (early ++ late) → AreWithin (length early) marks → (x : Cell) → IsKeptAt (marked_world start early (mark_of marks)) (marked_world start (early ++ late) (mark_of marks)) x
marked_kept start early late marks legal within x w has =
    let c = chunk_of early x in
    let m = mark_of marks c in
    let low : m ≤ length early = mark_of-within (length early) marks c within in
    let present = (world_some (known_after (take m early) x.array) x (content_after start (take m early) x) w has).0 in
    let known = known-after_take start early x.array m (IsLegal-front start early late legal) (known_of_present (known_after (take m early) x.array) x present) in
    let same = chunk_of-longer start early late x known legal in
    ap (λ h. world_after start h x) (ap (λ d. take (mark_of marks d) (early ++ late)) same ∙ take-append-le m early late low) ∙ has

pub each_cell : (P : Cell → Type 0) → ((x : Cell) → P x) → (xs : List Cell) → AllByRecursion P xs
each_cell P f [] = tt
each_cell P f (x ∷ xs) = (f x, each_cell P f xs)

-- what a transaction saw it still saw in every longer history
pub seen-longer : (start : Contents) (early late : History) (marks : Marks) (before ops : List Op) → IsLegal start (early ++ late) → AreWithin (length early) marks
    → AreReads (marked_world start early (mark_of marks)) before ops → AreReads (marked_world start (early ++ late) (mark_of marks)) before ops
seen-longer start early late marks before ops legal within seen =
    let f = marked_world start early (mark_of marks) in
    let g = marked_world start (early ++ late) (mark_of marks) in
    reads_kept f g before ops (each_cell (IsKeptAt f g) (marked_kept start early late marks legal within) (first_reads before ops)) seen

-- an array that was there is there later, as it was opened
abbrev pub ArraysStay : History → History → Type 0
ArraysStay early later = (a : ℕ) (i : ArrayInfo) (n : ℕ) → IsOpenedAs i n (known_after early a) → IsOpenedAs i n (known_after later a)

-- so it is from each part of a history on
abbrev pub AlwaysStay : History → Type 0
AlwaysStay events = (early late : History) → early ++ late ≡ events → ArraysStay early events

pub legal_stay : (start : Contents) (events : History) → IsLegal start events → AlwaysStay events
legal_stay start events legal early late parts a i n opened =
    subst (λ h. IsOpenedAs i n (known_after h a)) parts (known-longer start early a i n opened late (subst (IsLegal start) (sym parts) legal))
