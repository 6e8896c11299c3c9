-- What the single session adds only grows, and begins with what a session added that wanted memory.
use Rattle.std.proofs.Common.{◌≡◌, ℕ, ◌+◌, ◌≤◌, List, [], ◌∷◌, ◌++◌, length, take, drop, map, Bool, true, false, cond, Option, Some, None, Result, Ok, Err, refl, sym, ap, subst, ◌∙◌, append_assoc, append-nil, arith}
use Rattle.std.specs.Prelude.{fold}
use Rattle.std.specs.FinMap as finmap
use Rattle.std.proofs.lemmas.List.{length-take-le}
use Rattle.kv_face.specs.Store.{Contents}
use Rattle.stack_driver.specs.References.{Reference}
use Rattle.stack_driver.specs.declared.error.RenewError.{RenewError}
use Rattle.stack_driver.specs.declared.error.RenewError.TheVariants as renew
use Rattle.stack_driver.specs.declared.view.View.{View}
use Rattle.history.specs.declared.array.ArrayInfo.{ArrayInfo}
use Rattle.history.specs.declared.event.Event.{Event}
use Rattle.history.specs.History.{History}
use Rattle.history.specs.Acts.{Act, Asked, opens, binds, reads, stages, writes, begins, commits, aborts, resizes, resolves, act_of}
use Rattle.history.specs.Answers as body
use Rattle.history.specs.Answers.{Body, Text, BuildCause, Answer}
use Rattle.history.specs.Commit.{Fixed, Transaction, commit_events}
use Rattle.history.specs.Lines.{SpecLeaf, Build, Line, stored, given}
use Rattle.history.specs.OpenRows.{AreOpened, no_leaf, known_leaf, new_leaf, given_leaf, given_info, next_array}
use Rattle.history.specs.Outcomes.{there, new_info}
use Rattle.history.specs.Own.{Numbered, numbered, opened_event, resized_event}
use Rattle.history.specs.Single.{Single, LineDone, Outside, Run, stays, built, opened_by, unless_outside, resolve_alone, act_alone, asked_alone, after_line, answered}
use Rattle.history.specs.SingleOpen.{Begun, leaves_from, with_own, by_outcome, opened_then}
use Rattle.history.specs.Steps.{write_alone}
use Rattle.history.proofs.AloneOpens.{first_after, take_to_end, nothing_left, room_for, opens_new, outcome_is}
use Rattle.history.proofs.Alone.{number_first, number_rest, drop_next}

-- a line leaves the events that there were, and adds some
abbrev pub Grows : Single → LineDone → Type 0
Grows s done = (more : List Event) × (done.after.events ≡ s.events ++ more)

nothing : (s : Single) → (more : List Event) × (s.events ≡ s.events ++ more)
nothing s = ([], sym (append-nil s.events))

built_events : (s : Single) (name : Text) (own : List Numbered) (r : Result View (Text × BuildCause)) → (built s name own r).after.events ≡ with_own s.events own
built_events s name own (Ok view) = refl
built_events s name own (Err e) = refl

-- what opening adds is what its leaves add, however the line ends
pub opened_events : (s : Single) (name : Text) (build : Build) (begun : Begun) (rest : List SpecLeaf) → (opened_by s name build begun rest).after.events ≡ with_own s.events begun.own
opened_events s name build begun [] = built_events s name begun.own (build begun.refs)
opened_events s name build begun (leaf ∷ rest) = refl

grows_unless : (s : Single) (t : Option Transaction) (o : Option Outside) (done : LineDone) → Grows s done → Grows s (unless_outside s t o done)
grows_unless s t None done grows = grows
grows_unless s t (Some o) done grows = nothing s

grows_resize : (owner : ℕ) (s : Single) (array : ℕ) (shape : List ℕ) (b : Bool) (n : ℕ)
    → Grows s (cond b (stays s (body.too_many_chunks n)) (record { after = record s { events = s.events ++ resized_event owner array shape ∷ [] }; body = body.resized (n + 1) }))
grows_resize owner s array shape true n = nothing s
grows_resize owner s array shape false n = (resized_event owner array shape ∷ [], refl)

grows_resolve : (s : Single) (name : Text) (r : Result View RenewError) → Grows s (resolve_alone s name r)
grows_resolve s name (Ok view) = nothing s
grows_resolve s name (Err (renew.Refused cause)) = nothing s
grows_resolve s name (Err renew.NotArray) = nothing s
grows_resolve s name (Err renew.Memory) = nothing s

pub grows_act : (fixed : Fixed) (owner : ℕ) (s : Single) (line : ℕ) (act : Act) → Grows s (act_alone fixed owner s line act)
grows_act fixed owner s line (opens name leaves build) =
    let begun = leaves_from owner leaves s.events in (map (λ (o : Numbered). o.event) begun.own, opened_events s name build begun begun.rest)
grows_act fixed owner s line (binds name view) = nothing s
grows_act fixed owner s line (reads view down) = grows_unless s s.transaction _ _ (nothing s)
grows_act fixed owner s line (stages t view words) = nothing s
grows_act fixed owner s line (writes view words) = grows_unless s None _ _ (commit_events fixed s.events owner (write_alone line view words), refl)
grows_act fixed owner s line (begins mode) = nothing s
grows_act fixed owner s line (commits t) = grows_unless s None _ _ (commit_events fixed s.events owner t, refl)
grows_act fixed owner s line aborts = nothing s
grows_act fixed owner s line (resizes array shape) = grows_resize owner s array.number shape _ (length s.events)
grows_act fixed owner s line (resolves name view array) = grows_resolve s name _

pub grows_asked : (fixed : Fixed) (owner : ℕ) (s : Single) (line : ℕ) (asked : Asked) → Grows s (asked_alone fixed owner s line asked)
grows_asked fixed owner s line (Err answer) = nothing s
grows_asked fixed owner s line (Ok act) = grows_act fixed owner s line act

-- and so does every run, with its answers
pub record HasGone (before after : Run) : Type 0 where
  pub more : List Event
  pub events : after.session.events ≡ before.session.events ++ more
  pub rest : List Answer
  pub answers : after.answers ≡ before.answers ++ rest

pub run_grows : (fixed : Fixed) (owner : ℕ) (lines : List (Option Line)) (r : Run) → HasGone r (fold (after_line fixed owner) r lines)
run_grows fixed owner [] r = record { more = []; events = sym (append-nil r.session.events); rest = []; answers = sym (append-nil r.answers) }
run_grows fixed owner (None ∷ lines) r = let on = run_grows fixed owner lines (record r { line = r.line + 1 }) in record { more = on.more; events = on.events; rest = on.rest; answers = on.answers }
run_grows fixed owner (Some asked ∷ lines) r =
    let done : LineDone = asked_alone fixed owner r.session r.line (act_of r.session.names r.session.transaction asked) in
    let here : Grows r.session done = grows_asked fixed owner r.session r.line (act_of r.session.names r.session.transaction asked) in
    let on = run_grows fixed owner lines (answered r done) in record {
      more = here.0 ++ on.more;
      events = on.events ∙ ap (λ es. es ++ on.more) here.1 ∙ append_assoc r.session.events here.0 on.more;
      rest = record { line = r.line; body = done.body } ∷ on.rest;
      answers = on.answers ∙ append_assoc r.answers (record { line = r.line; body = done.body } ∷ []) on.rest;
    }

-- a new array, and what comes of the leaves behind it
begins_at : (owner : ℕ) (now : History) (at : ℕ) (leaf : SpecLeaf) (leaves : List SpecLeaf) (own tail : List Numbered) (info : ArrayInfo) (es : List Event) → drop at now ≡ es → at ≤ length now
    → leaves_from owner (leaf ∷ leaves) (take at now) ≡ opened_then owner (take at now) info (leaves_from owner leaves)
    → record { number = at + 1; event = opened_event owner info } ∷ own ≡ numbered (at + 1) es
    → (own ≡ numbered (at + 1 + 1) (drop (at + 1) now) → (leaves_from owner leaves (take (at + 1) now)).own ≡ own ++ tail)
    → (leaves_from owner (leaf ∷ leaves) (take at now)).own ≡ record { number = at + 1; event = opened_event owner info } ∷ (own ++ tail)
begins_at owner now at leaf leaves own tail info [] left within starts is more = absurd (cc)
begins_at owner now at leaf leaves own tail info (y ∷ ys) left within starts is more =
    let h : History = take at now in
    let e : Event = opened_event owner info in
    let parts = number_rest (record { number = at + 1; event = e }) own (at + 1) y ys is in
    let next = drop_next at now y ys left in
    let grown : h ++ e ∷ [] ≡ take (at + 1) now = ap (λ x. h ++ x ∷ []) parts.0 ∙ sym next.1 in
    let size : length h ≡ at = length-take-le at now within in
    let inner : (leaves_from owner leaves (h ++ e ∷ [])).own ≡ own ++ tail = ap (λ h. (leaves_from owner leaves h).own) grown ∙ more (parts.1 ∙ ap (numbered (at + 1 + 1)) (sym next.0)) in
    ap (λ (b : Begun). b.own) starts ∙ ap (λ os. record { number = length h + 1; event = e } ∷ os) inner ∙ ap (λ n. record { number = n + 1; event = e } ∷ (own ++ tail)) size

-- the leaves that were opened are those that the session alone opens first
pub leaves_begin : {start : Contents} {owner : ℕ} {now : History} {cur fin : ℕ} {leaves rest : List SpecLeaf} {refs : List Reference} {own : List Numbered} → start ≡ finmap.empty → AreOpened start owner now cur leaves refs own fin rest → cur ≤ length now
    → own ≡ numbered (cur + 1) (drop cur now) → (leaves_from owner leaves (take cur now)).own ≡ own ++ (leaves_from owner rest now).own
leaves_begin {owner = owner} {now = now} {cur = cur} {leaves = leaves} empty no_leaf low is = ap (λ h. (leaves_from owner leaves h).own) (take_to_end cur now (nothing_left (cur + 1) (drop cur now) is))
leaves_begin {start = start} {owner = owner} {now = now} {cur = cur} {own = own} empty (known_leaf {node = node} {leaf = leaf} {leaves = leaves} at k up within is_found rest) low is =
    let here : at ≡ cur = first_after cur rest up within is in
    let h : History = take at now in
    let inner = leaves_begin empty rest within (subst (λ n. own ≡ numbered (n + 1) (drop n now)) (sym here) is) in
    ap (λ n. (leaves_from owner (stored node leaf ∷ leaves) (take n now)).own) (sym here) ∙ ap (λ o. (by_outcome owner h leaf (stored node leaf ∷ leaves) (leaves_from owner leaves) o).own) (outcome_is start h leaf (there k) empty is_found) ∙ inner
leaves_begin {start = start} {owner = owner} {now = now} {cur = cur} {rest = last} {own = own} empty (new_leaf {node = node} {leaf = leaf} {leaves = leaves} {own = others} at meta up within is_new rest) low is =
    let next : at + 1 ≡ cur + 1 = number_first _ _ (cur + 1) (drop cur now) is in
    let here : at ≡ cur = omega arith in
    let is_at = subst (λ n. own ≡ numbered (n + 1) (drop n now)) (sym here) is in
    let room : at + 1 ≤ length now = room_for at now is_at within in
    ap (λ n. (leaves_from owner (stored node leaf ∷ leaves) (take n now)).own) (sym here)
    ∙ begins_at owner now at (stored node leaf) leaves others (leaves_from owner last now).own (new_info (next_array (take at now)) leaf meta) (drop at now) refl within (opens_new start owner (take at now) node leaf leaves meta empty is_new) is_at (λ more. leaves_begin empty rest room more)
leaves_begin {owner = owner} {now = now} {cur = cur} {rest = last} {own = own} empty (given_leaf {numbers = numbers} {leaves = leaves} {own = others} at up within rest) low is =
    let next : at + 1 ≡ cur + 1 = number_first _ _ (cur + 1) (drop cur now) is in
    let here : at ≡ cur = omega arith in
    let is_at = subst (λ n. own ≡ numbered (n + 1) (drop n now)) (sym here) is in
    let room : at + 1 ≤ length now = room_for at now is_at within in
    ap (λ n. (leaves_from owner (given numbers ∷ leaves) (take n now)).own) (sym here)
    ∙ begins_at owner now at (given numbers) leaves others (leaves_from owner last now).own (given_info (next_array (take at now)) numbers) (drop at now) refl within refl is_at (λ more. leaves_begin empty rest room more)
