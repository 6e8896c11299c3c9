-- While a transaction stands, its session makes no change.
use Rattle.std.proofs.Common.{◌≡◌, ℕ, ◌+◌, ◌≤◌, List, [], ◌∷◌, ◌++◌, length, take, take-take, drop, Bool, true, false, cond, Option, Some, None, refl, sym, ap, subst, ◌∙◌, eqb-true, eq-eqb, length-take, arith}
use Rattle.std.specs.Prelude.{◌==◌}
use Rattle.std.specs.List.{AllByRecursion}
use Rattle.std.proofs.lemmas.List.{take-append-drop, drop-append-le, drop_all, length-take-le}
use Rattle.std.proofs.Math.Seq.{take-length}
use Rattle.stack_driver.specs.declared.view.View.{View}
use Rattle.history.specs.declared.event.Op.TheVariants.{Read}
use Rattle.history.specs.declared.event.Event.{Event}
use Rattle.history.specs.History.{History}
use Rattle.history.specs.Acts.{Act, Asked, act_of}
use Rattle.history.specs.Answers as body
use Rattle.history.specs.Answers.{Body, Answer}
use Rattle.history.specs.Commit.{Fixed, Transaction}
use Rattle.history.specs.CommitRows.{IsCommit, is_done, conflicts, is_failed, is_split, is_shrunk, is_damaged, is_wanting, own_after}
use Rattle.history.specs.Generations.{IsChange}
use Rattle.history.specs.Lines.{Line}
use Rattle.history.specs.Own.{Numbered, own_events, fault}
use Rattle.history.specs.ReadRows.{with_read}
use Rattle.history.specs.Reads.{Marks}
use Rattle.history.specs.Sessions.{Names, SessionState, reader}
use Rattle.history.specs.Shown.{IsRead, IsMarkWithin}
use Rattle.history.specs.Steps.{IsRow, open_done, open_refused, open_unbuilt, open_failed, open_wanting, view_done, read_done, read_shrunk, read_damaged, read_failed, write_staged, write_done, begin_done, commit_done, abort_done, resize_done, resize_many, resize_split, resize_damaged, resize_failed, resolve_done, resolve_refused, IsAnswered, refused_line, wanting, done_line, SessionStep, IsSessionRun, no_line, blank_line, next_line, last_line}
use Rattle.history.proofs.ActFits.{IsActIn, IsAskedIn, act_of-in}

-- the event, if it is the session's, is no commit and no resize
abbrev pub IsQuietEvent : ℕ → Event → Type 0
IsQuietEvent owner e = e.owner ≡ owner → IsChange e.kind → ⊥

-- since so many events, which no mark is older than, the session made no change
pub record IsQuiet (owner seen : ℕ) (events : History) (t : Transaction) : Type 0 where
  pub begun : ℕ
  pub low : begun ≤ seen
  pub marked : AllByRecursion (λ m. begun ≤ m.1) t.marks
  pub quiet : AllByRecursion (IsQuietEvent owner) (drop begun (take seen events))

abbrev pub HasQuiet : ℕ → ℕ → History → Option Transaction → Type 0
HasQuiet owner seen events None = Unit {0}
HasQuiet owner seen events (Some t) = IsQuiet owner seen events t

abbrev pub IsNoChange : Numbered → Type 0
IsNoChange o = IsChange o.event.kind → ⊥

-- the transaction that stands after a row: no change was added
abbrev IsQuietRow : ℕ → ℕ → History → Option Transaction → List Numbered → Type 0
IsQuietRow owner seen events None own = Unit {0}
IsQuietRow owner seen events (Some t) own = IsQuiet owner seen events t × AllByRecursion IsNoChange own

quiet_row : (owner seen : ℕ) (events : History) (t : Option Transaction) (own : List Numbered) → HasQuiet owner seen events t → AllByRecursion IsNoChange own → IsQuietRow owner seen events t own
quiet_row owner seen events None own quiet none = tt
quiet_row owner seen events (Some t) own quiet none = (quiet, none)

all_joined : {A : Type 0} (P : A → Type 0) (xs ys : List A) → AllByRecursion P xs → AllByRecursion P ys → AllByRecursion P (xs ++ ys)
all_joined P [] ys p q = q
all_joined P (x ∷ xs) ys p q = (p.0, all_joined P xs ys p.1 q)

pub all_parts : {A : Type 0} (P : A → Type 0) (xs ys : List A) → AllByRecursion P (xs ++ ys) → AllByRecursion P xs × AllByRecursion P ys
all_parts P [] ys p = (tt, p)
all_parts P (x ∷ xs) ys p = let rest = all_parts P xs ys p.1 in ((p.0, rest.0), rest.1)

fresh_low : (events : History) (seen begun : ℕ) (t : Transaction) (view : View) (fresh : Marks) → begun ≤ seen → AllByRecursion (IsMarkWithin seen (length events)) fresh → AllByRecursion (λ m. begun ≤ m.1) fresh
fresh_low events seen begun t view [] low new = tt
fresh_low events seen begun t view (m ∷ ms) low new = (let h = new.0.0 in omega (arith, low, h), fresh_low events seen begun t view ms low new.1)

quiet_read : (fixed : Fixed) (owner : ℕ) (events : History) (seen : ℕ) (t : Transaction) (view : View) (words : List ℕ) (marks : Marks) (b : Bool) → b ≡ t.mode.repeatable_read → IsRead fixed events seen t view words marks → IsQuiet owner seen events t
    → IsQuiet owner seen events (cond b (record t { ops = t.ops ++ Read view words ∷ []; marks = marks }) t)
quiet_read fixed owner events seen t view words marks false is read quiet = quiet
quiet_read fixed owner events seen t view words marks true is read quiet = record {
  begun = quiet.begun;
  low = quiet.low;
  marked = subst (λ ms. AllByRecursion (λ m. quiet.begun ≤ m.1) ms) (sym read.marked.marked) (all_joined (λ m. quiet.begun ≤ m.1) t.marks read.marked.fresh quiet.marked (fresh_low events seen quiet.begun t view read.marked.fresh quiet.low read.marked.within));
  quiet = quiet.quiet;
}

quiet_after_read : (fixed : Fixed) (owner : ℕ) (events : History) (seen line : ℕ) (t : Option Transaction) (view : View) (words : List ℕ) (marks : Marks) → IsRead fixed events seen (reader line t) view words marks → HasQuiet owner seen events t → IsQuietRow owner seen events (with_read t view words marks) []
quiet_after_read fixed owner events seen line None view words marks read quiet = tt
quiet_after_read fixed owner events seen line (Some t) view words marks read quiet = (quiet_read fixed owner events seen t view words marks t.mode.repeatable_read refl read quiet, tt)

begun_quiet : (owner seen : ℕ) (events : History) (t : Transaction) → t.marks ≡ [] → IsQuiet owner seen events t
begun_quiet owner seen events t none = record {
  begun = seen;
  low = omega arith;
  marked = subst (λ ms. AllByRecursion (λ m. seen ≤ m.1) ms) (sym none) tt;
  quiet = subst (AllByRecursion (IsQuietEvent owner)) (sym (drop_all seen (take seen events) (omega (arith, length-take seen events)))) tt;
}

no_transaction_row : (owner seen : ℕ) (events : History) (t : Option Transaction) (own : List Numbered) → t ≡ None → IsQuietRow owner seen events t own
no_transaction_row owner seen events t own none = subst (λ u. IsQuietRow owner seen events u own) (sym none) tt

left_quiet : (owner seen : ℕ) (events : History) (b : Bool) (t : Transaction) (own : List Numbered) → IsQuiet owner seen events t → (b ≡ true → AllByRecursion IsNoChange own) → IsQuietRow owner seen events (cond b (Some t) None) own
left_quiet owner seen events true t own quiet none = (quiet, none refl)
left_quiet owner seen events false t own quiet none = tt

fault_alone : (owner number count : ℕ) (mount : List ℕ) (own : List Numbered) → (count == 0) ≡ true → AllByRecursion IsNoChange (take count own ++ record { number = number; event = fault owner mount } ∷ [])
fault_alone owner number count mount own none =
    let zero_is : count ≡ 0 = eqb-true count 0 none in
    subst (λ k. AllByRecursion IsNoChange (take k own ++ record { number = number; event = fault owner mount } ∷ [])) (sym zero_is) ((λ change. change), tt)

nothing_done : (count : ℕ) (own : List Numbered) → (count == 0) ≡ true → AllByRecursion IsNoChange (take count own)
nothing_done count own none = let zero_is : count ≡ 0 = eqb-true count 0 none in subst (λ k. AllByRecursion IsNoChange (take k own)) (sym zero_is) tt

commit_quiet : (fixed : Fixed) (owner seen : ℕ) (events : History) (t : Transaction) (left : Option Transaction) (answer : Body) (own : List Numbered) → IsCommit fixed owner events t left answer own → IsQuiet owner seen events t → IsQuietRow owner seen events left own
commit_quiet fixed owner seen events t left answer own (conflicts conflict) quiet = tt
commit_quiet fixed owner seen events t left answer own (is_shrunk free shrunk) quiet = tt
commit_quiet fixed owner seen events t left answer own (is_split free present split) quiet = tt
commit_quiet fixed owner seen events t left answer own (is_damaged may damage) quiet = (quiet, tt)
commit_quiet fixed owner seen events t left answer own (is_done n may undamaged) quiet = tt
commit_quiet fixed owner seen events t left answer own (is_failed n count mount part changed) quiet = left_quiet owner seen events (count == 0) t _ quiet (fault_alone owner (n + count + 1) count mount (own_after fixed owner events n t))
commit_quiet fixed owner seen events t left answer own (is_wanting n count part) quiet = left_quiet owner seen events (count == 0) t _ quiet (nothing_done count (own_after fixed owner events n t))

own_quiet : (owner seen : ℕ) (events : History) (t : Option Transaction) (u : Transaction) → t ≡ Some u → HasQuiet owner seen events t → IsQuiet owner seen events u
own_quiet owner seen events t u is quiet = subst (HasQuiet owner seen events) is quiet

row_quiet : (fixed : Fixed) (owner : ℕ) (events : History) (s : SessionState) (line : ℕ) (act : Act) (names : Names) (left : Option Transaction) (answer : Body) (own : List Numbered) → IsRow fixed owner events s line act names left answer own
    → IsActIn s.transaction act → HasQuiet owner s.seen events s.transaction → IsQuietRow owner s.seen events left own
row_quiet fixed owner events s line act names left answer own (open_done opened built) fits quiet = no_transaction_row owner s.seen events s.transaction _ fits
row_quiet fixed owner events s line act names left answer own (open_refused opened refused) fits quiet = no_transaction_row owner s.seen events s.transaction _ fits
row_quiet fixed owner events s line act names left answer own (open_unbuilt opened built) fits quiet = no_transaction_row owner s.seen events s.transaction _ fits
row_quiet fixed owner events s line act names left answer own (open_failed before opened failed) fits quiet = no_transaction_row owner s.seen events s.transaction _ fits
row_quiet fixed owner events s line act names left answer own (open_wanting opened) fits quiet = no_transaction_row owner s.seen events s.transaction _ fits
row_quiet fixed owner events s line act names left answer own view_done fits quiet = quiet_row owner s.seen events s.transaction [] quiet tt
row_quiet fixed owner events s line act names left answer own (read_done {view = view} {words = words} {marks = marks} read) fits quiet = quiet_after_read fixed owner events s.seen line s.transaction view words marks read quiet
row_quiet fixed owner events s line act names left answer own (read_shrunk shrunk) fits quiet = quiet_row owner s.seen events s.transaction [] quiet tt
row_quiet fixed owner events s line act names left answer own (read_damaged damaged) fits quiet = quiet_row owner s.seen events s.transaction [] quiet tt
row_quiet fixed owner events s line act names left answer own (read_failed before fetched) fits quiet = quiet_row owner s.seen events s.transaction _ quiet ((λ change. change), tt)
row_quiet fixed owner events s line act names left answer own (write_staged {t = t}) fits quiet =
    let old : IsQuiet owner s.seen events t = own_quiet owner s.seen events s.transaction t fits quiet in
    (record { begun = old.begun; low = old.low; marked = old.marked; quiet = old.quiet }, tt)
row_quiet fixed owner events s line act names left answer own (write_done commit) fits quiet = tt
row_quiet fixed owner events s line act names left answer own begin_done fits quiet = (begun_quiet owner s.seen events _ refl, tt)
row_quiet fixed owner events s line act names left answer own (commit_done {t = t} {left = u} {answer = given} {own = added} commit) fits quiet = commit_quiet fixed owner s.seen events t u given added commit (own_quiet owner s.seen events s.transaction t fits quiet)
row_quiet fixed owner events s line act names left answer own abort_done fits quiet = tt
row_quiet fixed owner events s line act names left answer own (resize_done n free undamaged) fits quiet = no_transaction_row owner s.seen events s.transaction _ fits
row_quiet fixed owner events s line act names left answer own (resize_many many) fits quiet = no_transaction_row owner s.seen events s.transaction _ fits
row_quiet fixed owner events s line act names left answer own (resize_split few split) fits quiet = no_transaction_row owner s.seen events s.transaction _ fits
row_quiet fixed owner events s line act names left answer own (resize_damaged free damaged) fits quiet = no_transaction_row owner s.seen events s.transaction _ fits
row_quiet fixed owner events s line act names left answer own (resize_failed n free on_mount) fits quiet = no_transaction_row owner s.seen events s.transaction _ fits
row_quiet fixed owner events s line act names left answer own (resolve_done m low high renewed) fits quiet = no_transaction_row owner s.seen events s.transaction _ fits
row_quiet fixed owner events s line act names left answer own (resolve_refused m low high renewed) fits quiet = no_transaction_row owner s.seen events s.transaction _ fits

answered_quiet : (fixed : Fixed) (owner : ℕ) (events : History) (s : SessionState) (line : ℕ) (asked : Asked) (names : Names) (left : Option Transaction) (answer : Body) (own : List Numbered) → IsAnswered fixed owner events s line asked names left answer own
    → IsAskedIn s.transaction asked → HasQuiet owner s.seen events s.transaction → IsQuietRow owner s.seen events left own
answered_quiet fixed owner events s line asked names left answer own refused_line fits quiet = quiet_row owner s.seen events s.transaction [] quiet tt
answered_quiet fixed owner events s line asked names left answer own wanting fits quiet = quiet_row owner s.seen events s.transaction [] quiet tt
answered_quiet fixed owner events s line asked names left answer own (done_line {act = act} row) fits quiet = row_quiet fixed owner events s line act names left answer own row fits quiet

head_quiet : (owner n : ℕ) (b : Bool) (e : Event) (es : List Event) → b ≡ (e.owner == owner) → AllByRecursion IsNoChange (cond b (record { number = n; event = e } ∷ own_events owner (n + 1) es) (own_events owner (n + 1) es))
    → IsQuietEvent owner e × AllByRecursion IsNoChange (own_events owner (n + 1) es)
head_quiet owner n true e es is none = ((λ same. none.0), none.1)
head_quiet owner n false e es is none = ((λ same change. absurd (no_owner e.owner owner same (sym is))), none)
  where
    no_owner : (a b : ℕ) → a ≡ b → (a == b) ≡ false → ⊥
    no_owner a b same differs = let equal : (a == b) ≡ true = eq-eqb a b same in absurd (cc)

events_quiet : (owner n : ℕ) (es : List Event) → AllByRecursion IsNoChange (own_events owner n es) → AllByRecursion (IsQuietEvent owner) es
events_quiet owner n [] none = tt
events_quiet owner n (e ∷ es) none = let parts = head_quiet owner n (e.owner == owner) e es refl none in (parts.0, events_quiet owner (n + 1) es parts.1)

quiet_at : (owner seen : ℕ) (events now : History) (t : Option Transaction) → take seen now ≡ take seen events → HasQuiet owner seen events t → HasQuiet owner seen now t
quiet_at owner seen events now None same quiet = tt
quiet_at owner seen events now (Some t) same quiet = record { begun = quiet.begun; low = quiet.low; marked = quiet.marked; quiet = subst (λ h. AllByRecursion (IsQuietEvent owner) (drop quiet.begun h)) (sym same) quiet.quiet }

quiet_on : (owner seen later : ℕ) (events now : History) (t : Option Transaction) → now ≡ take later events → seen ≤ later → seen ≤ length now → IsQuietRow owner seen now t (own_events owner (seen + 1) (drop seen now)) → HasQuiet owner later events t
quiet_on owner seen later events now None is rises within quiet = tt
quiet_on owner seen later events now (Some t) is rises within quiet =
    let old = quiet.0 in
    let size : length (take seen now) ≡ seen = length-take-le seen now within in
    let parts : drop old.begun (take seen now) ++ drop seen now ≡ drop old.begun now =
    sym (drop-append-le old.begun (take seen now) (drop seen now) (let low = old.low in omega (arith, size, low))) ∙ ap (drop old.begun) (take-append-drop seen now) in
    record {
      begun = old.begun;
      low = let low = old.low in omega (arith, low, rises);
      marked = old.marked;
      quiet = subst (AllByRecursion (IsQuietEvent owner)) (parts ∙ ap (drop old.begun) is) (all_joined (IsQuietEvent owner) (drop old.begun (take seen now)) (drop seen now) old.quiet (events_quiet owner (seen + 1) (drop seen now) quiet.1));
    }

-- a step keeps that the session made no change while its transaction stands
pub step_quiet : (fixed : Fixed) (owner : ℕ) (events : History) (s : SessionState) (line : ℕ) (asked : Line) (next : SessionState) (answer : Body) → SessionStep fixed owner events s line asked next answer
    → HasQuiet owner s.seen events s.transaction → HasQuiet owner next.seen events next.transaction
step_quiet fixed owner events s line asked next answer step quiet =
    let now = take next.seen events in
    let size : length now ≡ next.seen = length-take-le next.seen events step.within in
    let rises = step.rises in
    let row =
    answered_quiet fixed owner now s line (act_of s.names s.transaction asked) next.names next.transaction answer (own_events owner (s.seen + 1) (drop s.seen now)) step.row (act_of-in s.names s.transaction asked)
    (quiet_at owner s.seen events now s.transaction (take-take s.seen next.seen events rises) quiet) in
    quiet_on owner s.seen next.seen events now next.transaction refl rises (omega (arith, size, rises)) row

-- so does a run
pub run_quiet : {fixed : Fixed} {owner : ℕ} (events : History) {s : SessionState} {line : ℕ} {lines : List (Option Line)} {answers : List Answer} {last : SessionState} → IsSessionRun fixed owner events s line lines answers last
    → HasQuiet owner s.seen events s.transaction → HasQuiet owner last.seen events last.transaction
run_quiet events no_line quiet = quiet
run_quiet events (blank_line rest) quiet = run_quiet events rest quiet
run_quiet {fixed = fixed} {owner = owner} events (next_line {s} {m} {last} {line} {asked} {answer} step goes_on rest) quiet = run_quiet events rest (step_quiet fixed owner events s line asked m answer step quiet)
run_quiet {fixed = fixed} {owner = owner} events (last_line {s} {last} {line} {asked} step) quiet = step_quiet fixed owner events s line asked last body.memory step quiet

pub seen_quiet : (owner seen : ℕ) (events : History) (t : Transaction) → seen ≤ length events → IsQuiet owner seen events t → (later : ℕ) → seen ≤ later → later ≤ length events → AllByRecursion IsNoChange (own_events owner (seen + 1) (drop seen (take later events)))
    → IsQuiet owner (length (take later events)) (take later events) t
seen_quiet owner seen events t within quiet later rises high none =
    let now = take later events in
    let size : length now ≡ later = length-take-le later events high in
    let on : IsQuiet owner later events t =
    quiet_on owner seen later events now (Some t) refl rises (omega (arith, size, rises)) (quiet_at owner seen events now (Some t) (take-take seen later events rises) quiet, none) in
    record {
      begun = on.begun;
      low = let low = on.low in omega (arith, size, low);
      marked = on.marked;
      quiet = subst (λ h. AllByRecursion (IsQuietEvent owner) (drop on.begun h)) (sym (take-length now)) on.quiet;
    }
