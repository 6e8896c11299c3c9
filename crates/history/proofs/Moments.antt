-- Two moments of a history between which nothing touches a chunk.
use Rattle.std.proofs.Common.{◌≡◌, ℕ, ◌≤◌, [], ◌∷◌, ◌++◌, length, take, drop, sym, ap, subst, ◌∙◌, append_assoc, append-nil, arith}
use Rattle.std.proofs.lemmas.List.{take-append-drop, length-take-le}
use Rattle.kv_face.specs.Store.{Contents}
use Rattle.stack_driver.specs.Targets.{Cell}
use Rattle.history.specs.History.{History}
use Rattle.history.specs.Arrays.{known_after}
use Rattle.history.specs.Chunks.{Chunk, chunk_of}
use Rattle.history.specs.Touch.{touches, generation_of}
use Rattle.history.specs.Content.{content_after}
use Rattle.history.proofs.Histories.{each_history}
use Rattle.history.proofs.Untouched.{content_untouched, chunk_untouched, chunk_array, generation_step}

-- a cell stays in its chunk where nothing later touches a chunk of its array
pub chunk_same : (early : History) (x : Cell) (c : Chunk) → c.array ≡ x.array → (late : History) → generation_of (early ++ late) c ≤ length early → chunk_of (early ++ late) x ≡ chunk_of early x
chunk_same early x c same =
    each_history (λ late. generation_of (early ++ late) c ≤ length early → chunk_of (early ++ late) x ≡ chunk_of early x)
    (λ small. ap (λ h. chunk_of h x) (append-nil early))
    (λ late e before small.
    let step = generation_step early late e c small in
    ap (λ h. chunk_of h x) (sym (append_assoc early late (e ∷ []))) ∙ chunk_untouched (early ++ late) e x c same step.0 ∙ before step.1)

-- where no event after the early ones touches the chunk of a cell, the cell has its early word
pub content_same : (start : Contents) (early : History) (x : Cell) (late : History) → generation_of (early ++ late) (chunk_of early x) ≤ length early → content_after start (early ++ late) x ≡ content_after start early x
content_same start early x =
    let c = chunk_of early x in
    each_history (λ late. generation_of (early ++ late) c ≤ length early → content_after start (early ++ late) x ≡ content_after start early x)
    (λ small. ap (λ h. content_after start h x) (append-nil early))
    (λ late e before small.
    let step = generation_step early late e c small in
    let here : chunk_of (early ++ late) x ≡ c = chunk_same early x c (chunk_array (known_after early x.array) x) late step.1 in
    ap (λ h. content_after start h x) (sym (append_assoc early late (e ∷ [])))
    ∙ content_untouched start (early ++ late) e x (ap (touches (early ++ late) e) here ∙ step.0) ∙ before step.1)

-- the same, the chunk being that of the cell after all events
pub content_same_late : (start : Contents) (early late : History) (x : Cell) → generation_of (early ++ late) (chunk_of (early ++ late) x) ≤ length early → content_after start (early ++ late) x ≡ content_after start early x
content_same_late start early late x small =
    let here = chunk_same early x (chunk_of (early ++ late) x) (chunk_array (known_after (early ++ late) x.array) x) late small in
    content_same start early x late (subst (λ c. generation_of (early ++ late) c ≤ length early) here small)

-- each cell of the chunk is in it at both moments, and has the same word
pub record IsUnchanged (start : Contents) (before later : History) (c : Chunk) : Type 0 where
  pub chunk : (x : Cell) → chunk_of before x ≡ c → chunk_of later x ≡ c
  pub content : (x : Cell) → chunk_of before x ≡ c → content_after start later x ≡ content_after start before x

-- where no event between two moments touches a chunk, its content is the same at both
pub unchanged_between : (start : Contents) (before : History) (c : Chunk) (more : History) → generation_of (before ++ more) c ≤ length before → IsUnchanged start before (before ++ more) c
unchanged_between start before c more small = record {
  chunk = λ x is. chunk_same before x c (ap (λ (d : Chunk). d.array) (sym is) ∙ chunk_array (known_after before x.array) x) more small ∙ is;
  content = λ x is. content_same start before x more (subst (λ d. generation_of (before ++ more) d ≤ length before) (sym is) small);
}

-- after as many events as its chunk's generation says, a cell has its last word already
pub content_at_mark : (start : Contents) (events : History) (x : Cell) (mark : ℕ) → mark ≤ length events → generation_of events (chunk_of events x) ≤ mark → content_after start (take mark events) x ≡ content_after start events x
content_at_mark start events x mark within small =
    let parts : take mark events ++ drop mark events ≡ events = take-append-drop mark events in
    let size : length (take mark events) ≡ mark = length-take-le mark events within in
    let there : generation_of (take mark events ++ drop mark events) (chunk_of (take mark events ++ drop mark events) x) ≤ length (take mark events) =
    subst (λ h. generation_of h (chunk_of h x) ≤ length (take mark events)) (sym parts) (omega arith) in
    sym (content_same_late start (take mark events) (drop mark events) x there) ∙ ap (λ h. content_after start h x) parts
