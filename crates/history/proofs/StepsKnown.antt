-- Line after line, a session's names and operations are of known arrays.
use Rattle.std.proofs.Common.{◌≡◌, ℕ, ◌+◌, ◌≤◌, List, [], ◌∷◌, ◌++◌, length, take, take-take, drop, Bool, true, false, cond, Option, Some, None, Result, Ok, Err, refl, sym, ap, subst, ◌∙◌, append_assoc, arith, eq-eqb}
use Rattle.std.specs.Prelude.{◌==◌}
use Rattle.std.specs.List.{AllByRecursion}
use Rattle.std.specs.Str.{bytes_eq}
use Rattle.std.proofs.lemmas.List.{take-append-drop, length-take-le, take-append-le}
use Rattle.std.proofs.Math.Seq.{take-length}
use Rattle.kv_face.specs.Store.{Contents}
use Rattle.stack_driver.specs.References.{Reference}
use Rattle.stack_driver.specs.Renewed.{array_of, reshaped, renewed}
use Rattle.stack_driver.specs.Views.{look_of}
use Rattle.stack_driver.specs.declared.view.View.{View}
use Rattle.history.specs.declared.array.ArrayInfo.{ArrayInfo}
use Rattle.history.specs.declared.event.Event.{Event}
use Rattle.history.specs.declared.event.Op.{Op}
use Rattle.history.specs.declared.event.Op.TheVariants.{Write, Read}
use Rattle.history.specs.History.{History}
use Rattle.history.specs.Acts.{Act, opens, binds, reads, stages, writes, begins, commits, aborts, resizes, resolves, Asked, outside, inside, changed, write_act, read_of, write_of, act_of}
use Rattle.history.specs.Answers as body
use Rattle.history.specs.Answers.{Body, Text, Answer}
use Rattle.history.specs.Arrays.{Known, known_after, ref_of}
use Rattle.history.specs.Bound.{AreKnownNames, AreKnownOps, IsChangeWithin, IsBuildWithin, IsLineWithin, IsWithin}
use Rattle.history.specs.Commit.{Fixed, Transaction}
use Rattle.history.specs.CommitRows.{IsCommit, is_done, conflicts, is_failed, is_split, is_shrunk, is_damaged, is_wanting}
use Rattle.history.specs.Legal.{IsLegal, viewed}
use Rattle.history.specs.Lines.{SpecLeaf, Change, ChangeError, Line, refused, opening, viewing, joining, reading, writing, beginning, committing, aborting, resizing, resolving}
use Rattle.history.specs.OpenRows.{new_ref, AreOpened, no_leaf, known_leaf, new_leaf, given_leaf}
use Rattle.history.specs.Own.{Numbered, own_events, opened_event}
use Rattle.history.specs.ReadRows.{with_read}
use Rattle.history.specs.Reads.{Marks}
use Rattle.history.specs.Refs.{IsKnownRef, HasKnownRefs}
use Rattle.history.specs.ResizeRows.{shape_after}
use Rattle.history.specs.Content.{present_shape}
use Rattle.history.specs.Sessions.{Names, bind, SessionState}
use Rattle.history.specs.Steps.{IsRow, open_done, open_refused, open_unbuilt, open_failed, open_wanting, view_done, read_done, read_shrunk, read_damaged, read_failed, write_staged, write_done, begin_done, commit_done, abort_done, resize_done, resize_many, resize_split, resize_damaged, resize_failed, resolve_done, resolve_refused, IsAnswered, refused_line, wanting, done_line, SessionStep, IsSessionRun, no_line, blank_line, next_line, last_line}
use Rattle.history.specs.Viewing.{shape_of, view_fault, cell_fault}
use Rattle.history.proofs.ActFits.{IsActIn, IsAskedIn, act_of-in}
use Rattle.history.proofs.Asking.{IsAskedBy, named_by, all_named_by, join_by, changes_by, without_by, values_by, leaf_by, cond_by, factors_by}
use Rattle.history.proofs.Histories.{known_after-more}
use Rattle.history.proofs.Known.{some_inj, opened_as, length-more}
use Rattle.history.proofs.KnownViews.{view_later, ref_later, known_renewed, array_known}
use Rattle.history.proofs.Openings.{known_there}
use Rattle.history.proofs.Presence.{IsLegal-front}
use Rattle.history.proofs.Shrinks.{known_still}
use Rattle.history.proofs.Transactions.{all_with}

-- an event that a line added stands in the history under its number
abbrev pub IsEventOf : History → Numbered → Type 0
IsEventOf events o = (n : ℕ) × (o.number ≡ n + 1) × (take (n + 1) events ≡ take n events ++ o.event ∷ [])

take_front : (xs ys : History) → take (length xs) (xs ++ ys) ≡ xs
take_front xs ys = take-append-le (length xs) xs ys (omega arith) ∙ take-length xs

take_more : (before : History) (e : Event) (es : History) → take (length before + 1) (before ++ e ∷ es) ≡ take (length before) (before ++ e ∷ es) ++ e ∷ []
take_more before e es =
    let front : take (length before + 1) (before ++ e ∷ es) ≡ before ++ e ∷ [] =
    subst (λ n. take n (before ++ e ∷ es) ≡ before ++ e ∷ []) (length-more before e) (ap (take (length (before ++ e ∷ []))) (sym (append_assoc before (e ∷ []) es)) ∙ take_front (before ++ e ∷ []) es) in
    front ∙ ap (λ h. h ++ e ∷ []) (sym (take_front before (e ∷ es)))

head_event : (owner n : ℕ) (events : History) (b : Bool) (e : Event) (es : History) → IsEventOf events (record { number = n; event = e }) → AllByRecursion (IsEventOf events) (own_events owner (n + 1) es)
    → AllByRecursion (IsEventOf events) (cond b (record { number = n; event = e } ∷ own_events owner (n + 1) es) (own_events owner (n + 1) es))
head_event owner n events true e es first rest = (first, rest)
head_event owner n events false e es first rest = rest

events_from : (owner : ℕ) (before es : History) → AllByRecursion (IsEventOf (before ++ es)) (own_events owner (length before + 1) es)
events_from owner before [] = tt
events_from owner before (e ∷ es) =
    head_event owner (length before + 1) (before ++ e ∷ es) (e.owner == owner) e es (length before, refl, take_more before e es)
    (subst (λ h. AllByRecursion (IsEventOf h) (own_events owner (length before + 1 + 1) es)) (append_assoc before (e ∷ []) es)
    (subst (λ n. AllByRecursion (IsEventOf ((before ++ e ∷ []) ++ es)) (own_events owner (n + 1) es)) (length-more before e) (events_from owner (before ++ e ∷ []) es)))

own_are : (owner seen : ℕ) (events : History) → seen ≤ length events → AllByRecursion (IsEventOf events) (own_events owner (seen + 1) (drop seen events))
own_are owner seen events within =
    subst (λ h. AllByRecursion (IsEventOf h) (own_events owner (seen + 1) (drop seen events))) (take-append-drop seen events)
    (subst (λ n. AllByRecursion (IsEventOf (take seen events ++ drop seen events)) (own_events owner (n + 1) (drop seen events))) (length-take-le seen events within) (events_from owner (take seen events) (drop seen events)))

-- an array whose opening stands in the history is known
new_known : (events : History) (owner at : ℕ) (info : ArrayInfo) → IsEventOf events (record { number = at + 1; event = opened_event owner info }) → IsKnownRef events (new_ref (take at events) info)
new_known events owner at info stands =
    let n : ℕ = stands.0 in
    let number = stands.1 in
    let same : n ≡ at = omega (arith, number) in
    record {
      seen = n + 1;
      array = opened_as (take at events) info;
      known = ap (λ h. known_after h info.number) stands.2 ∙ known_after-more (take n events) (opened_event owner info) info.number
          ∙ ap (λ t. cond t (Some (opened_as (take n events) info)) (known_after (take n events) info.number)) (eq-eqb info.number info.number refl) ∙ ap (λ m. Some (opened_as (take m events) info)) same;
      same = refl;
    }

pub legal_take : (start : Contents) (events : History) (n : ℕ) → IsLegal start events → IsLegal start (take n events)
legal_take start events n legal = IsLegal-front start (take n events) (drop n events) (subst (IsLegal start) (sym (take-append-drop n events)) legal)

opened_known : {start : Contents} {owner : ℕ} {events : History} {seen : ℕ} {leaves : List SpecLeaf} {refs : List Reference} {own : List Numbered} {now : ℕ} {rest : List SpecLeaf} → IsLegal start events → AreOpened start owner events seen leaves refs own now rest
    → AllByRecursion (IsEventOf events) own → AllByRecursion (IsKnownRef events) refs
opened_known legal no_leaf stand = tt
opened_known {start = start} {events = events} legal (known_leaf {leaf = leaf} at k low high outcome more) stand =
    let known = known_there start (take at events) leaf outcome.stored k (legal_take start events at legal) (sym outcome.same) in
    (record { seen = at; array = k; known = known; same = refl }, opened_known legal more stand)
opened_known {owner = owner} {events = events} legal (new_leaf at meta low high new more) stand = (new_known events owner at _ stand.0, opened_known legal more stand.1)
opened_known {owner = owner} {events = events} legal (given_leaf at low high more) stand = (new_known events owner at _ stand.0, opened_known legal more stand.1)

bound_names : (events : History) (names : Names) (name : Text) (view : View) → AreKnownNames events names → HasKnownRefs events view → AreKnownNames events (bind names name view)
bound_names events names name view each refs other v is = told (bytes_eq name other) is
  where
    told : (b : Bool) → cond b (Some view) (names other) ≡ Some v → HasKnownRefs events v
    told true e = subst (HasKnownRefs events) (some_inj view v e) refs
    told false e = each other v e

changed_known : (events : History) (changes : List Change) (r : Result View ChangeError) (made : View) → AllByRecursion IsChangeWithin changes → ((v : View) → r ≡ Ok v → HasKnownRefs events v) → changed r changes ≡ Ok made → HasKnownRefs events made
changed_known events changes (Err e) made all known is = absurd (cc)
changed_known events [] (Ok v) made all known is = known made is
changed_known events (change ∷ changes) (Ok v) made all known is = changed_known events changes (change v) made all.1 (λ w e. all.0 events v w (known v refl) e) is

one_known : (events : History) (u v : View) → HasKnownRefs events u → ◌≡◌ {A = Result View ChangeError} (Ok u) (Ok v) → HasKnownRefs events v
one_known events u v refs e = let same : u ≡ v = cc in subst (HasKnownRefs events) same refs

-- the views of an act are of known arrays
abbrev pub IsActKnown : History → Act → Type 0
IsActKnown events (opens name leaves build) = IsBuildWithin build
IsActKnown events (binds name view) = HasKnownRefs events view
IsActKnown events (reads view down) = HasKnownRefs events view
IsActKnown events (stages t view words) = HasKnownRefs events view
IsActKnown events (writes view words) = HasKnownRefs events view
IsActKnown events (begins mode) = Unit {0}
IsActKnown events (commits t) = Unit {0}
IsActKnown events aborts = Unit {0}
IsActKnown events (resizes array shape) = Unit {0}
IsActKnown events (resolves name view array) = HasKnownRefs events view × (array_of view ≡ Some array)

write_known : (events : History) (t : Option Transaction) (view : View) (words : List ℕ) → HasKnownRefs events view → IsActKnown events (write_act t view words)
write_known events None view words refs = refs
write_known events (Some t) view words refs = refs

module _ (events : History) where
  outside_known : (t : Option Transaction) (asked : Asked) → IsAskedBy (IsActKnown events) asked → IsAskedBy (IsActKnown events) (outside t asked)
  outside_known None asked known = known
  outside_known (Some t) asked known = tt

  inside_known : (t : Option Transaction) (act : Transaction → Act) → ((u : Transaction) → IsActKnown events (act u)) → IsAskedBy (IsActKnown events) (inside t act)
  inside_known None act known = tt
  inside_known (Some t) act known = known t

  -- a line none of whose parts brings in an array has views of known arrays
  pub act_of-known : (names : Names) (t : Option Transaction) (line : Line) → AreKnownNames events names → IsLineWithin line → IsAskedBy (IsActKnown events) (act_of names t line)
  act_of-known names t (refused error) each within = tt
  act_of-known names t (opening name leaves build) each within = outside_known t (Ok (opens name leaves build)) within
  act_of-known names t (viewing name of changes) each within =
      named_by (IsActKnown events) of (names of) _
      (λ v there. changes_by (IsActKnown events) (changed (Ok v) changes) _ (λ made is. changed_known events changes (Ok v) made within (λ w e. one_known events v w (each of v there) e) is))
  act_of-known names t (joining name of join changes) each within =
      all_named_by (IsActKnown events) (HasKnownRefs events) names each of _
      (λ views all. join_by (IsActKnown events) (join views) _
      (λ v joined. changes_by (IsActKnown events) (changed (Ok v) changes) _ (λ made is. changed_known events changes (Ok v) made within.1 (λ w e. one_known events v w (within.0 events views v all joined) e) is)))
  act_of-known names t (reading name changes down) each within =
      named_by (IsActKnown events) name (names name) _
      (λ v there. changes_by (IsActKnown events) (changed (Ok v) changes) (read_of down)
      (λ w is. factors_by (IsActKnown events) down w _ (without_by (IsActKnown events) (view_fault w) _ (λ fits. without_by (IsActKnown events) (cell_fault w) (Ok (reads w down))
      (λ found. changed_known events changes (Ok v) w within (λ u e. one_known events v u (each name v there) e) is)))))
  act_of-known names t (writing name changes values) each within =
      named_by (IsActKnown events) name (names name) _
      (λ v there. changes_by (IsActKnown events) (changed (Ok v) changes) (write_of t values)
      (λ w is. without_by (IsActKnown events) (view_fault w) _ (λ fits. values_by (IsActKnown events) (values (look_of w).dtype (shape_of w)) _
      (λ words given. without_by (IsActKnown events) (cell_fault w) (Ok (write_act t w words))
      (λ found. write_known events t w words (changed_known events changes (Ok v) w within (λ u e. one_known events v u (each name v there) e) is))))))
  act_of-known names t (beginning mode) each within = outside_known t (Ok (begins mode)) tt
  act_of-known names t committing each within = inside_known t commits (λ u. tt)
  act_of-known names t aborting each within = inside_known t (λ u. aborts) (λ u. tt)
  act_of-known names t (resizing name shape) each within =
      outside_known t _ (named_by (IsActKnown events) name (names name) _ (λ v there. leaf_by (IsActKnown events) (array_of v) _
      (λ array leaf. cond_by (IsActKnown events) array.local _ _ tt (cond_by (IsActKnown events) (length shape == length array.shape) _ _ tt tt))))
  act_of-known names t (resolving name) each within =
      outside_known t _ (named_by (IsActKnown events) name (names name) _ (λ v there. leaf_by (IsActKnown events) (array_of v) (λ array. Ok (resolves name v array)) (λ array leaf. (each name v there, leaf))))

-- a view of an array that has another shape is of a known array
resolved_known : (start : Contents) (events : History) (seen m : ℕ) (view made : View) (array : Reference) → IsLegal start events → seen ≤ m → HasKnownRefs (take seen events) view → array_of view ≡ Some array
    → renewed (shape_after (take m events) array.number) view ≡ Ok made → HasKnownRefs events made
resolved_known start events seen m view made array legal low refs leaf is =
    let k = ref_later events seen m low array (array_known (take seen events) view array refs leaf) in
    let now = known_still start (take m events) array.number k.seen k.array (legal_take start events m legal) k.known in
    let l : Known = now.0 in
    known_renewed events (shape_after (take m events) array.number) view made array is leaf
    (record {
      seen = m;
      array = l;
      known = now.1;
      same = ap (λ o. reshaped (present_shape o) array) now.1 ∙ ap (reshaped l.shape) k.same ∙ ap (λ (i : ArrayInfo). ref_of (record { info = i; opened = l.opened; shape = l.shape })) (sym now.2);
    })

read_known : (events : History) (view : View) (words : List ℕ) (marks : Marks) (t : Transaction) (b : Bool) → HasKnownRefs events view → AreKnownOps events (Some t) → AreKnownOps events (Some (cond b (record t { ops = t.ops ++ Read view words ∷ []; marks = marks }) t))
read_known events view words marks t true refs all = all_with (λ op. HasKnownRefs events (viewed op)) t.ops (Read view words ∷ []) all (refs, tt)
read_known events view words marks t false refs all = all

after_known : (events : History) (t : Option Transaction) (view : View) (words : List ℕ) (marks : Marks) → HasKnownRefs events view → AreKnownOps events t → AreKnownOps events (with_read t view words marks)
after_known events None view words marks refs all = tt
after_known events (Some t) view words marks refs all = read_known events view words marks t t.mode.repeatable_read refs all

left_known : (events : History) (b : Bool) (t : Transaction) → AreKnownOps events (Some t) → AreKnownOps events (cond b (Some t) None)
left_known events true t all = all
left_known events false t all = tt

commit_known : {fixed : Fixed} {owner : ℕ} {events : History} {t : Transaction} {left : Option Transaction} {answer : Body} {own : List Numbered} → IsCommit fixed owner events t left answer own → AreKnownOps events (Some t) → AreKnownOps events left
commit_known (conflicts conflict) all = tt
commit_known (is_shrunk free shrunk) all = tt
commit_known (is_split free present split) all = tt
commit_known (is_damaged may damage) all = all
commit_known (is_done n may undamaged) all = tt
commit_known {events = events} {t = t} (is_failed n count mount part changed) all = left_known events (count == 0) t all
commit_known {events = events} {t = t} (is_wanting n count part) all = left_known events (count == 0) t all

of_known : (events : History) (t : Option Transaction) (u : Transaction) → t ≡ Some u → AreKnownOps events t → AreKnownOps events (Some u)
of_known events t u is all = subst (AreKnownOps events) is all

-- names and operations are of known arrays
abbrev pub AreKnown : History → Names → Option Transaction → Type 0
AreKnown events names t = AreKnownNames events names × AreKnownOps events t

now_known : (events : History) (seen : ℕ) (v : View) → seen ≤ length events → HasKnownRefs (take seen events) v → HasKnownRefs events v
now_known events seen v within refs = subst (λ h. HasKnownRefs h v) (take-length events) (view_later events seen (length events) within v refs)

row_known : (fixed : Fixed) (owner : ℕ) (events : History) (s : SessionState) (line : ℕ) (act : Act) (names : Names) (left : Option Transaction) (answer : Body) (own : List Numbered) → IsRow fixed owner events s line act names left answer own → IsLegal fixed.start events
    → s.seen ≤ length events → AllByRecursion (IsEventOf events) own → IsActIn s.transaction act → IsActKnown (take s.seen events) act → AreKnown events s.names s.transaction → AreKnown events names left
row_known fixed owner events s line act names left answer own (open_done {name = name} {refs = refs} {view = view} opened built) legal within stand fits known all =
    (bound_names events s.names name view all.0 (known events refs view (opened_known legal opened stand) built), all.1)
row_known fixed owner events s line act names left answer own (open_refused opened refusal) legal within stand fits known all = all
row_known fixed owner events s line act names left answer own (open_unbuilt opened built) legal within stand fits known all = all
row_known fixed owner events s line act names left answer own (open_failed before opened failed) legal within stand fits known all = all
row_known fixed owner events s line act names left answer own (open_wanting opened) legal within stand fits known all = all
row_known fixed owner events s line act names left answer own (view_done {name = name} {view = view}) legal within stand fits known all = (bound_names events s.names name view all.0 (now_known events s.seen view within known), all.1)
row_known fixed owner events s line act names left answer own (read_done {view = view} {words = words} {marks = marks} read) legal within stand fits known all = (all.0, after_known events s.transaction view words marks (now_known events s.seen view within known) all.1)
row_known fixed owner events s line act names left answer own (read_shrunk shrunk) legal within stand fits known all = all
row_known fixed owner events s line act names left answer own (read_damaged damaged) legal within stand fits known all = all
row_known fixed owner events s line act names left answer own (read_failed before fetched) legal within stand fits known all = all
row_known fixed owner events s line act names left answer own (write_staged {t = t} {view = view} {words = words}) legal within stand fits known all =
    (all.0, all_with (λ op. HasKnownRefs events (viewed op)) t.ops (Write view words ∷ []) (of_known events s.transaction t fits all.1) (now_known events s.seen view within known, tt))
row_known fixed owner events s line act names left answer own (write_done commit) legal within stand fits known all = (all.0, tt)
row_known fixed owner events s line act names left answer own begin_done legal within stand fits known all = (all.0, tt)
row_known fixed owner events s line act names left answer own (commit_done {t = t} commit) legal within stand fits known all = (all.0, commit_known commit (of_known events s.transaction t fits all.1))
row_known fixed owner events s line act names left answer own abort_done legal within stand fits known all = (all.0, tt)
row_known fixed owner events s line act names left answer own (resize_done n may undamaged) legal within stand fits known all = all
row_known fixed owner events s line act names left answer own (resize_many many) legal within stand fits known all = all
row_known fixed owner events s line act names left answer own (resize_split few split) legal within stand fits known all = all
row_known fixed owner events s line act names left answer own (resize_damaged may damaged) legal within stand fits known all = all
row_known fixed owner events s line act names left answer own (resize_failed n may on_mount) legal within stand fits known all = all
row_known fixed owner events s line act names left answer own (resolve_done {name = name} {view = view} {made = made} {array = array} m low high is) legal within stand fits known all =
    (bound_names events s.names name made all.0 (resolved_known fixed.start events s.seen m view made array legal low known.0 known.1 is), all.1)
row_known fixed owner events s line act names left answer own (resolve_refused m low high is) legal within stand fits known all = all

answered_known : (fixed : Fixed) (owner : ℕ) (events : History) (s : SessionState) (line : ℕ) (asked : Asked) (names : Names) (left : Option Transaction) (answer : Body) (own : List Numbered) → IsAnswered fixed owner events s line asked names left answer own → IsLegal fixed.start events
    → s.seen ≤ length events → AllByRecursion (IsEventOf events) own → IsAskedIn s.transaction asked → IsAskedBy (IsActKnown (take s.seen events)) asked → AreKnown events s.names s.transaction → AreKnown events names left
answered_known fixed owner events s line asked names left answer own refused_line legal within stand fits known all = all
answered_known fixed owner events s line asked names left answer own wanting legal within stand fits known all = all
answered_known fixed owner events s line asked names left answer own (done_line {act = act} row) legal within stand fits known all = row_known fixed owner events s line act names left answer own row legal within stand fits known all

ops_known : (early late : History) (t : Option Transaction) → ((v : View) → HasKnownRefs early v → HasKnownRefs late v) → AreKnownOps early t → AreKnownOps late t
ops_known early late None each all = tt
ops_known early late (Some t) each all = each_op t.ops all
  where
    each_op : (ops : List Op) → AllByRecursion (λ op. HasKnownRefs early (viewed op)) ops → AllByRecursion (λ op. HasKnownRefs late (viewed op)) ops
    each_op [] all = tt
    each_op (op ∷ ops) all = (each (viewed op) all.0, each_op ops all.1)

-- a step keeps that names and operations are of known arrays, where its line brings in none
pub step_known : (fixed : Fixed) (owner : ℕ) (events : History) (s : SessionState) (line : ℕ) (asked : Line) (next : SessionState) (answer : Body) → IsLegal fixed.start events → IsLineWithin asked → SessionStep fixed owner events s line asked next answer
    → AreKnown (take s.seen events) s.names s.transaction → AreKnown (take next.seen events) next.names next.transaction
step_known fixed owner events s line asked next answer legal parts step all =
    let now : History = take next.seen events in
    let rises = step.rises in
    let size : length now ≡ next.seen = length-take-le next.seen events step.within in
    let within : s.seen ≤ length now = omega (arith, size, rises) in
    let same : take s.seen now ≡ take s.seen events = take-take s.seen next.seen events rises in
    let early : AreKnown (take s.seen now) s.names s.transaction = subst (λ h. AreKnown h s.names s.transaction) (sym same) all in
    answered_known fixed owner now s line (act_of s.names s.transaction asked) next.names next.transaction answer (own_events owner (s.seen + 1) (drop s.seen now)) step.row (legal_take fixed.start events next.seen legal) within (own_are owner s.seen now within)
    (act_of-in s.names s.transaction asked) (act_of-known (take s.seen now) s.names s.transaction asked early.0 parts)
    ((λ name v is. now_known now s.seen v within (early.0 name v is)), ops_known (take s.seen now) now s.transaction (λ v. now_known now s.seen v within) early.1)

-- so does a run
pub run_known : {fixed : Fixed} {owner : ℕ} (events : History) {s : SessionState} {line : ℕ} {lines : List (Option Line)} {answers : List Answer} {last : SessionState} → IsLegal fixed.start events → AllByRecursion IsWithin lines → IsSessionRun fixed owner events s line lines answers last
    → AreKnown (take s.seen events) s.names s.transaction → AreKnown (take last.seen events) last.names last.transaction
run_known events legal parts no_line all = all
run_known events legal parts (blank_line rest) all = run_known events legal parts.1 rest all
run_known {fixed = fixed} {owner = owner} events legal parts (next_line {s} {m} {last} {line} {asked} {answer} step goes_on rest) all = run_known events legal parts.1 rest (step_known fixed owner events s line asked m answer legal parts.0 step all)
run_known {fixed = fixed} {owner = owner} events legal parts (last_line {s} {last} {line} {asked} step) all = step_known fixed owner events s line asked last body.memory legal parts.0 step all
