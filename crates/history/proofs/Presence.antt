-- A cell of the arrays that no event touches keeps its place and its word.
use Rattle.std.proofs.Common.{◌≡◌, ℕ, ◌≤◌, List, [], ◌∷◌, ◌++◌, length, take, drop, Bool, true, false, cond, Option, Some, None, refl, sym, ap, subst, ◌∙◌, append_assoc, append-nil, arith, eqb-true}
use Rattle.std.specs.Prelude.{◌==◌, ◌&&◌}
use Rattle.std.proofs.lemmas.List.{take-append-drop, length-take-le}
use Rattle.kv_face.specs.Store.{Contents}
use Rattle.chunk_forms.specs.Words.{is_inside}
use Rattle.stack_driver.specs.Targets.{Cell}
use Rattle.history.specs.declared.event.Kind.{Kind}
use Rattle.history.specs.declared.event.Kind.TheVariants.{Opened, Done, Resized, Fault}
use Rattle.history.specs.History.{History}
use Rattle.history.specs.Arrays.{Known, known_after, known_step, known_reshaped, chunk_shape}
use Rattle.history.specs.Chunks.{chunk_of, chunk_in, chunk_index}
use Rattle.history.specs.Resizes.{is_shorter, is_cut_in}
use Rattle.history.specs.Touch.{touches, touches_by, generation_of}
use Rattle.history.specs.Content.{content_after, world_after, world_in}
use Rattle.history.specs.Legal.{IsLegal, IsLegalKind, IsLegalResize, is_present_in}
use Rattle.history.proofs.Histories.{each_history, known_after-more, legal_step}
use Rattle.history.proofs.Known.{known_good, good_rank, good_positive}
use Rattle.history.proofs.Untouched.{chunk_array, generation_step}
use Rattle.history.proofs.Moments.{chunk_same, content_same}
use Rattle.history.proofs.Shapes.{reaches_own, inside_longer}

-- the events before the last ones of a legal history are one too
pub IsLegal-front : (start : Contents) (early late : History) → IsLegal start (early ++ late) → IsLegal start early
IsLegal-front start early =
    each_history (λ late. IsLegal start (early ++ late) → IsLegal start early) (λ legal. subst (IsLegal start) (append-nil early) legal)
    (λ late e before legal. before (legal_step start (early ++ late) e (subst (IsLegal start) (sym (append_assoc early late (e ∷ []))) legal)).0)

resized_present : (start : Contents) (x : Cell) (a : ℕ) (shape : List ℕ) (h : History) (test : Bool) → (a == x.array) ≡ test → (known : Option Known) → known ≡ known_after h x.array → IsLegal start h → IsLegalResize (known_after h a) shape
    → (test && is_cut_in known shape (chunk_in known x).index) ≡ false → is_present_in known x ≡ true → is_present_in (cond test (known_reshaped shape known) known) x ≡ true
resized_present start x a shape h false same known is legal resize uncut present = present
resized_present start x a shape h true same None is legal resize uncut present = present
resized_present start x a shape h true same (Some k) is legal resize uncut present =
    let there : known_after h a ≡ Some k = ap (known_after h) (eqb-true a x.array same) ∙ sym is in
    let new : IsLegalResize (Some k) shape = subst (λ o. IsLegalResize o shape) there resize in
    let good = known_good start x.array h legal k (sym is) in
    let sizes = chunk_shape k.info in
    let ranks = good_rank x.array k good in
    let reached = reaches_own sizes k.shape x.index present ranks in
    let kept : is_shorter sizes k.shape shape (chunk_index sizes x.index) ≡ false = ap (λ b. b && is_shorter sizes k.shape shape (chunk_index sizes x.index)) (sym reached) ∙ uncut in
    inside_longer sizes k.shape shape x.index present ranks (new.rank ∙ sym good.rank) (good_positive x.array k good) kept

opened_present : (b : Bool) (k : Known) (known : Option Known) (x : Cell) → b ≡ false → is_present_in known x ≡ true → is_present_in (cond b (Some k) known) x ≡ true
opened_present b k known x e present = ap (λ t. is_present_in (cond t (Some k) known) x) e ∙ present

-- an event that doesn't touch a cell's chunk leaves the cell in its array
pub present_step : (start : Contents) (h : History) (kind : Kind) (x : Cell) → IsLegal start h → IsLegalKind start h kind → touches_by h kind (chunk_of h x) ≡ false
    → is_present_in (known_after h x.array) x ≡ true → is_present_in (known_step x.array h kind (known_after h x.array)) x ≡ true
present_step start h (Opened info) x legal next untouched present =
    opened_present (info.number == x.array) _ (known_after h x.array) x (ap (λ a. info.number == a) (sym (chunk_array (known_after h x.array) x)) ∙ untouched) present
present_step start h (Done line mode ops key) x legal next untouched present = present
present_step start h (Resized a shape) x legal next untouched present =
    resized_present start x a shape h (a == x.array) refl (known_after h x.array) refl legal next
    (ap (λ b. (a == b) && is_cut_in (known_after h b) shape (chunk_of h x).index) (sym (chunk_array (known_after h x.array) x)) ∙ untouched) present
present_step start h (Fault mount) x legal next untouched present = present

-- a cell of the early arrays stays in them where no later event touches its chunk
pub present_same : (start : Contents) (early : History) (x : Cell) → is_present_in (known_after early x.array) x ≡ true → (late : History) → IsLegal start (early ++ late) → generation_of (early ++ late) (chunk_of early x) ≤ length early
    → is_present_in (known_after (early ++ late) x.array) x ≡ true
present_same start early x present =
    let c = chunk_of early x in
    each_history (λ late. IsLegal start (early ++ late) → generation_of (early ++ late) c ≤ length early → is_present_in (known_after (early ++ late) x.array) x ≡ true)
    (λ legal small. ap (λ h. is_present_in (known_after h x.array) x) (append-nil early) ∙ present)
    (λ late e before legal small.
    let step = generation_step early late e c small in
    let all = early ++ late in
    let to : early ++ (late ++ e ∷ []) ≡ all ++ e ∷ [] = sym (append_assoc early late (e ∷ [])) in
    let ok = legal_step start all e (subst (IsLegal start) to legal) in
    let here : chunk_of all x ≡ c = chunk_same early x c (chunk_array (known_after early x.array) x) late step.1 in
    ap (λ h. is_present_in (known_after h x.array) x) to ∙ ap (λ known. is_present_in known x) (known_after-more all e x.array)
    ∙ present_step start all e.kind x ok.0 ok.1 (ap (touches all e) here ∙ step.0) (before ok.0 step.1))

chosen : (b : Bool) (word : Option ℕ) (w : ℕ) → cond b word None ≡ Some w → (b ≡ true) × (word ≡ Some w)
chosen true word w has = (refl, has)
chosen false word w has = absurd (cc)

pub world_some : (known : Option Known) (x : Cell) (word : Option ℕ) (w : ℕ) → world_in known x word ≡ Some w → (is_present_in known x ≡ true) × (word ≡ Some w)
world_some None x word w has = absurd (cc)
world_some (Some k) x word w has = chosen (is_inside k.shape x.index) word w has

pub world_from : (known : Option Known) (x : Cell) (word : Option ℕ) (w : ℕ) → is_present_in known x ≡ true → word ≡ Some w → world_in known x word ≡ Some w
world_from None x word w present has = absurd (cc)
world_from (Some k) x word w present has = ap (λ b. cond b word None) present ∙ has

-- where no later event touches its chunk, a cell of the early arrays has its word in the late ones
pub world_kept : (start : Contents) (early late : History) (x : Cell) (w : ℕ) → IsLegal start (early ++ late) → generation_of (early ++ late) (chunk_of early x) ≤ length early → world_after start early x ≡ Some w → world_after start (early ++ late) x ≡ Some w
world_kept start early late x w legal small has =
    let parts = world_some (known_after early x.array) x (content_after start early x) w has in
    world_from (known_after (early ++ late) x.array) x (content_after start (early ++ late) x) w (present_same start early x parts.0 late legal small) (content_same start early x late small ∙ parts.1)

-- the same at a mark
pub world_at_mark : (start : Contents) (events : History) (x : Cell) (w mark : ℕ) → IsLegal start events → mark ≤ length events → generation_of events (chunk_of events x) ≤ mark → world_after start (take mark events) x ≡ Some w → world_after start events x ≡ Some w
world_at_mark start events x w mark legal within small has =
    let early = take mark events in
    let late = drop mark events in
    let parts : early ++ late ≡ events = take-append-drop mark events in
    let size : length early ≡ mark = length-take-le mark events within in
    let there : generation_of (early ++ late) (chunk_of (early ++ late) x) ≤ length early = subst (λ h. generation_of h (chunk_of h x) ≤ length early) (sym parts) (omega arith) in
    let same = chunk_same early x (chunk_of (early ++ late) x) (chunk_array (known_after (early ++ late) x.array) x) late there in
    ap (λ h. world_after start h x) (sym parts)
    ∙ world_kept start early late x w (subst (IsLegal start) (sym parts) legal) (subst (λ c. generation_of (early ++ late) c ≤ length early) same there) has
