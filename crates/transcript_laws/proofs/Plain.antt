-- An answer that fits is none of a store that can't make all changes together or didn't start empty, nor of an array that shrank.
use Rattle.std.proofs.Common.{◌≡◌, ℕ, ℤ, codes, List, [], ◌∷◌, ◌++◌, Bool, true, false, cond, length, Option, Some, None, Result, Ok, Err, refl, sym, subst, eq-eqb}
use Rattle.std.specs.Prelude.{◌==◌}
use Rattle.std.specs.List.{AllByRecursion}
use Rattle.std.specs.FinMap as finmap
use Rattle.serial_runs.specs.declared.Form.{Form}
use Rattle.serial_runs.specs.Made.{form_made}
use Rattle.serial_runs.specs.Wants.{mismatch_of}
use Rattle.serde_json.specs.Data.{Data}
use Rattle.stack_driver.specs.References.{Reference}
use Rattle.stack_driver.specs.Renewed.{array_of}
use Rattle.stack_driver.specs.Targets.{Target}
use Rattle.stack_driver.specs.Views.{look_of, targets_of}
use Rattle.stack_driver.specs.declared.error.TargetError.{TargetError}
use Rattle.stack_driver.specs.declared.error.TargetError.TheVariants as target
use Rattle.stack_driver.specs.declared.view.View.{View}
use Rattle.index_transform.specs.Cells.{cells_of}
use Rattle.answer_data.specs.Answers.{answer_data}
use Rattle.history.specs.Acts.{Act, Asked, change_body, form_body, outside, inside, named, all_named, changed, with_changes, with_join, without, with_values, with_factors, on_leaf, on_stored, read_of, write_of, write_act, act_of, reads, opens, begins, commits, aborts}
use Rattle.history.specs.Answers.{Body, Text, JoinCause, opened, viewed, values, staged, written, begun, committed, aborted, resized, resolved, bad_line, bad_spec, unsupported, bad_step, unknown_name, in_transaction, no_transaction, unknown_dim, repeated_dim, refused_step, refused_view, refused_join, refused_spec, not_found, exists, path_taken, mismatch, bad_metadata, unbounded, too_many, out_of_range, uncovered, bad_values, conflict, shrunk, not_atomic, not_array, too_many_chunks, store_failed, damaged, memory}
use Rattle.history.specs.Arrays.{Known, form_of}
use Rattle.history.specs.Commit.{Transaction}
use Rattle.history.specs.History.{History}
use Rattle.history.specs.Leaves.{Leaf, Stored, nothing, unreadable, readable, location_of_leaf, metadata_key_asked, IsStoredAs}
use Rattle.history.specs.Lines as lines
use Rattle.history.specs.Lines.{ChangeError, Downsampling, FormError, Line}
use Rattle.history.specs.OpenRows.{IsRefusal, IsRefusedLeaf}
use Rattle.history.specs.Outcomes as outcome
use Rattle.history.specs.Outcomes.{Outcome, IsOutcome, outcome_in_store, outcome_at, unless_differs, unless_taken, making_outcome}
use Rattle.history.specs.Places.{taken, array_at}
use Rattle.history.specs.Sessions.{Names}
use Rattle.history.specs.Viewing.{shape_of, first_infinite, too_many as too_many_cells, size_fault, view_fault, target_body, first_fault, cell_fault}
use Rattle.transcript_laws.specs.Transcript.{Told}
use Rattle.transcript_laws.specs.Numbers.{opened_in, told_of}
use Rattle.transcript_laws.specs.Windows.{Window}
use Rattle.transcript_laws.specs.Takings.{Taking}
use Rattle.transcript_laws.specs.Opening as opening
use Rattle.transcript_laws.specs.Opening.{IsOpenAnswer}
use Rattle.transcript_laws.specs.Standings.{Standing, first_standing, standing_step, act_at}
use Rattle.transcript_laws.specs.Fitting as fitting
use Rattle.transcript_laws.specs.Fitting.{IsActAnswer, IsAnswer, printed_at, IsFitting, AreFitting, IsAnswered, Lacks, IsPlain, ArePlain}

-- data that lacks the four members
abbrev LacksAll : Data → Type 0
LacksAll d = Lacks (codes "not_atomic") d × Lacks (codes "damaged") d × Lacks (codes "bad_meta") d × Lacks (codes "shrunk") d

-- a body that isn't one of these four
abbrev IsOther : Body → Type 0
IsOther (opened name dtype domain events) = Unit {0}
IsOther (viewed name dtype transform) = Unit {0}
IsOther (values origin shape dtype words) = Unit {0}
IsOther (staged cells) = Unit {0}
IsOther (written cells events) = Unit {0}
IsOther begun = Unit {0}
IsOther (committed events) = Unit {0}
IsOther aborted = Unit {0}
IsOther (resized event) = Unit {0}
IsOther (resolved name dtype transform) = Unit {0}
IsOther (bad_line text) = Unit {0}
IsOther (bad_spec path events) = Unit {0}
IsOther (unsupported path) = Unit {0}
IsOther (bad_step step) = Unit {0}
IsOther (unknown_name name) = Unit {0}
IsOther in_transaction = Unit {0}
IsOther no_transaction = Unit {0}
IsOther (unknown_dim step) = Unit {0}
IsOther (repeated_dim step) = Unit {0}
IsOther (refused_step step cause) = Unit {0}
IsOther (refused_view cause) = Unit {0}
IsOther (refused_join cause) = Unit {0}
IsOther (refused_spec path cause events) = Unit {0}
IsOther (not_found at path events) = Unit {0}
IsOther (exists at path events) = Unit {0}
IsOther (path_taken at path events) = Unit {0}
IsOther (mismatch at member path events) = Unit {0}
IsOther (bad_metadata key why events) = ⊥
IsOther (unbounded dim) = Unit {0}
IsOther (too_many dim) = Unit {0}
IsOther (out_of_range cell dim) = Unit {0}
IsOther (uncovered cell) = Unit {0}
IsOther (bad_values path) = Unit {0}
IsOther (conflict key read now) = Unit {0}
IsOther (shrunk key now) = ⊥
IsOther (not_atomic keys) = ⊥
IsOther not_array = Unit {0}
IsOther (too_many_chunks at) = Unit {0}
IsOther (store_failed event done events) = Unit {0}
IsOther (damaged key cause) = ⊥
IsOther memory = Unit {0}

-- the object of such an answer lacks the members
lacking : (n : ℕ) (b : Body) → IsOther b → LacksAll (answer_data (printed_at n b))
lacking n (opened name dtype domain events) is = (refl, refl, refl, refl)
lacking n (viewed name dtype transform) is = (refl, refl, refl, refl)
lacking n (values origin shape dtype words) is = (refl, refl, refl, refl)
lacking n (staged cells) is = (refl, refl, refl, refl)
lacking n (written cells events) is = (refl, refl, refl, refl)
lacking n begun is = (refl, refl, refl, refl)
lacking n (committed events) is = (refl, refl, refl, refl)
lacking n aborted is = (refl, refl, refl, refl)
lacking n (resized event) is = (refl, refl, refl, refl)
lacking n (resolved name dtype transform) is = (refl, refl, refl, refl)
lacking n (bad_line text) is = (refl, refl, refl, refl)
lacking n (bad_spec path None) is = (refl, refl, refl, refl)
lacking n (bad_spec path (Some events)) is = (refl, refl, refl, refl)
lacking n (unsupported path) is = (refl, refl, refl, refl)
lacking n (bad_step step) is = (refl, refl, refl, refl)
lacking n (unknown_name name) is = (refl, refl, refl, refl)
lacking n in_transaction is = (refl, refl, refl, refl)
lacking n no_transaction is = (refl, refl, refl, refl)
lacking n (unknown_dim step) is = (refl, refl, refl, refl)
lacking n (repeated_dim step) is = (refl, refl, refl, refl)
lacking n (refused_step step cause) is = (refl, refl, refl, refl)
lacking n (refused_view cause) is = (refl, refl, refl, refl)
lacking n (refused_join cause) is = (refl, refl, refl, refl)
lacking n (refused_spec path cause events) is = (refl, refl, refl, refl)
lacking n (not_found at path events) is = (refl, refl, refl, refl)
lacking n (exists at path events) is = (refl, refl, refl, refl)
lacking n (path_taken at path events) is = (refl, refl, refl, refl)
lacking n (mismatch at member path events) is = (refl, refl, refl, refl)
lacking n (bad_metadata key why events) is = absurd is
lacking n (unbounded dim) is = (refl, refl, refl, refl)
lacking n (too_many dim) is = (refl, refl, refl, refl)
lacking n (out_of_range cell dim) is = (refl, refl, refl, refl)
lacking n (uncovered cell) is = (refl, refl, refl, refl)
lacking n (bad_values path) is = (refl, refl, refl, refl)
lacking n (conflict key read now) is = (refl, refl, refl, refl)
lacking n (shrunk key now) is = absurd is
lacking n (not_atomic keys) is = absurd is
lacking n not_array is = (refl, refl, refl, refl)
lacking n (too_many_chunks at) is = (refl, refl, refl, refl)
lacking n (store_failed event done None) is = (refl, refl, refl, refl)
lacking n (store_failed event done (Some events)) is = (refl, refl, refl, refl)
lacking n (damaged key cause) is = absurd is
lacking n memory is = (refl, refl, refl, refl)

-- ---- refusals

-- of the refusal, where there is one
abbrev IsRefusedBy : Asked → Type 0
IsRefusedBy (Ok act) = Unit {0}
IsRefusedBy (Err answer) = IsOther answer

named_so : (name : Text) (o : Option View) (next : View → Asked) → ((v : View) → IsRefusedBy (next v)) → IsRefusedBy (named name o next)
named_so name None next each = tt
named_so name (Some v) next each = each v

all_named_so : (names : Names) (of : List Text) (next : List View → Asked) → ((vs : List View) → IsRefusedBy (next vs)) → IsRefusedBy (all_named names of next)
all_named_so names [] next each = each []
all_named_so names (name ∷ more) next each = named_so name (names name) _ (λ v. all_named_so names more (λ vs. next (v ∷ vs)) (λ vs. each (v ∷ vs)))

change_so : (e : ChangeError) → IsOther (change_body e)
change_so (lines.unknown_dim step) = tt
change_so (lines.repeated_dim step) = tt
change_so (lines.refused_step step cause) = tt
change_so (lines.refused_view cause) = tt

changes_so : (r : Result View ChangeError) (next : View → Asked) → ((v : View) → IsRefusedBy (next v)) → IsRefusedBy (with_changes r next)
changes_so (Err e) next each = change_so e
changes_so (Ok v) next each = each v

join_so : (r : Result View JoinCause) (next : View → Asked) → ((v : View) → IsRefusedBy (next v)) → IsRefusedBy (with_join r next)
join_so (Err cause) next each = tt
join_so (Ok v) next each = each v

abbrev IsOtherFault : Option Body → Type 0
IsOtherFault None = Unit {0}
IsOtherFault (Some fault) = IsOther fault

without_so : (fault : Option Body) (asked : Asked) → IsOtherFault fault → IsRefusedBy asked → IsRefusedBy (without fault asked)
without_so None asked is rest = rest
without_so (Some fault) asked is rest = is

values_so : (r : Result (List ℕ) (List ℕ)) (next : List ℕ → Asked) → ((ws : List ℕ) → IsRefusedBy (next ws)) → IsRefusedBy (with_values r next)
values_so (Err path) next each = tt
values_so (Ok words) next each = each words

cond_so : (b : Bool) (x y : Asked) → IsRefusedBy x → IsRefusedBy y → IsRefusedBy (cond b x y)
cond_so true x y p q = p
cond_so false x y p q = q

factors_so : (down : Option Downsampling) (view : View) (asked : Asked) → IsRefusedBy asked → IsRefusedBy (with_factors down view asked)
factors_so None view asked rest = rest
factors_so (Some d) view asked rest = cond_so (d.rank == length (look_of view).dims) _ _ rest tt

leaf_so : (o : Option Reference) (next : Reference → Asked) → ((a : Reference) → IsRefusedBy (next a)) → IsRefusedBy (on_leaf o next)
leaf_so None next each = tt
leaf_so (Some a) next each = each a

outside_so : (t : Option Transaction) (asked : Asked) → IsRefusedBy asked → IsRefusedBy (outside t asked)
outside_so None asked rest = rest
outside_so (Some t) asked rest = tt

inside_so : (t : Option Transaction) (act : Transaction → Act) → IsRefusedBy (inside t act)
inside_so None act = tt
inside_so (Some t) act = tt

size_so : (dim many : Option ℕ) → IsOtherFault (size_fault dim many)
size_so (Some dim) many = tt
size_so None (Some dim) = tt
size_so None None = tt

target_so : (x : List ℤ) (e : TargetError) → IsOther (target_body x e)
target_so x (target.OutOfRange dim) = tt
target_so x target.Uncovered = tt
target_so x target.Memory = tt

cells_so : (xs : List (List ℤ)) (ts : List (Result Target TargetError)) → IsOtherFault (first_fault xs ts)
cells_so [] ts = tt
cells_so (x ∷ xs) [] = tt
cells_so (x ∷ xs) (Ok t ∷ ts) = cells_so xs ts
cells_so (x ∷ xs) (Err e ∷ ts) = target_so x e

form_so : (e : FormError) → IsOther (form_body e)
form_so (lines.bad_line text) = tt
form_so (lines.bad_spec path) = tt
form_so (lines.unsupported path) = tt
form_so (lines.bad_step step) = tt

view_so : (view : View) → IsOtherFault (view_fault view)
view_so view = size_so (first_infinite 0 (look_of view).dims) (too_many_cells (shape_of view))

cell_so : (view : View) → IsOtherFault (cell_fault view)
cell_so view = cells_so (cells_of (look_of view).dims) (targets_of view)

read_so : (down : Option Downsampling) (view : View) → IsRefusedBy (read_of down view)
read_so down view = factors_so down view _ (without_so (view_fault view) _ (view_so view) (without_so (cell_fault view) (Ok (reads view down)) (cell_so view) tt))

write_so : (t : Option Transaction) (given : lines.Values) (view : View) → IsRefusedBy (write_of t given view)
write_so t given view =
    without_so (view_fault view) _ (view_so view)
    (values_so (given (look_of view).dtype (shape_of view)) _ (λ words. without_so (cell_fault view) (Ok (write_act t view words)) (cell_so view) tt))

stored_so : (array : Reference) (shape : List ℕ) → IsRefusedBy (on_stored array shape)
stored_so array shape = cond_so array.local _ _ tt (cond_so (length shape == length array.shape) _ _ tt tt)

-- no refusal of a line is one of the four
act_so : (names : Names) (t : Option Transaction) (line : Line) → IsRefusedBy (act_of names t line)
act_so names t (lines.refused error) = form_so error
act_so names t (lines.opening name leaves build) = outside_so t (Ok (opens name leaves build)) tt
act_so names t (lines.viewing name of changes) = named_so of (names of) _ (λ v. changes_so (changed (Ok v) changes) _ (λ made. tt))
act_so names t (lines.joining name of join changes) =
    all_named_so names of _ (λ vs. join_so (join vs) _ (λ v. changes_so (changed (Ok v) changes) _ (λ made. tt)))
act_so names t (lines.reading name changes down) = named_so name (names name) _ (λ v. changes_so (changed (Ok v) changes) (read_of down) (read_so down))
act_so names t (lines.writing name changes given) = named_so name (names name) _ (λ v. changes_so (changed (Ok v) changes) (write_of t given) (write_so t given))
act_so names t (lines.beginning mode) = outside_so t (Ok (begins mode)) tt
act_so names t lines.committing = inside_so t commits
act_so names t lines.aborting = inside_so t (λ old. aborts)
act_so names t (lines.resizing name shape) = outside_so t _ (named_so name (names name) _ (λ v. leaf_so (array_of v) _ (λ a. stored_so a shape)))
act_so names t (lines.resolving name) = outside_so t _ (named_so name (names name) _ (λ v. leaf_so (array_of v) _ (λ a. tt)))

-- ---- leaves

-- an outcome that tells of no bytes of the store
abbrev TellsNoBytes : Outcome → Type 0
TellsNoBytes (outcome.path_taken other) = Unit {0}
TellsNoBytes (outcome.bad_metadata bytes) = ⊥
TellsNoBytes outcome.exists = Unit {0}
TellsNoBytes (outcome.mismatch member) = Unit {0}
TellsNoBytes (outcome.there array) = Unit {0}
TellsNoBytes (outcome.found meta) = Unit {0}
TellsNoBytes outcome.not_found = Unit {0}
TellsNoBytes (outcome.bad_want member) = Unit {0}
TellsNoBytes (outcome.made meta) = Unit {0}

differs_so : (o : Option (List ℕ)) (x : Outcome) → TellsNoBytes x → TellsNoBytes (unless_differs o x)
differs_so None x is = is
differs_so (Some member) x is = tt

choice_so : (b : Bool) (x y : Outcome) → TellsNoBytes x → TellsNoBytes y → TellsNoBytes (cond b x y)
choice_so true x y p q = p
choice_so false x y p q = q

making_so : (r : Result Form (List ℕ)) → TellsNoBytes (making_outcome r)
making_so (Ok meta) = tt
making_so (Err member) = tt

none_some : (text : List ℕ) → None ≡ Some text → ⊥
none_some text is = cc

-- over an empty store no bytes are read
store_so : (leaf : Leaf) (stored : Stored) → IsStoredAs leaf.want None stored → TellsNoBytes (outcome_in_store leaf stored)
store_so leaf nothing is = choice_so leaf.may_create _ outcome.not_found (making_so (form_made leaf.want)) tt
store_so leaf (unreadable text) is = absurd (none_some text is.0)
store_so leaf (readable meta) is = choice_so leaf.may_open _ outcome.exists (differs_so _ (outcome.found meta) tt) tt

at_so : (leaf : Leaf) (stored : Stored) (o : Option Known) → (o ≡ None → IsStoredAs leaf.want None stored) → TellsNoBytes (outcome_at leaf stored o)
at_so leaf stored None is = store_so leaf stored (is refl)
at_so leaf stored (Some k) is = choice_so leaf.may_open _ outcome.exists (differs_so (mismatch_of leaf.want (form_of k.info.home) k.shape) (outcome.there k) tt) tt

taken_so : (o : Option (List ℕ)) (x : Outcome) → TellsNoBytes x → TellsNoBytes (unless_taken o x)
taken_so None x is = is
taken_so (Some other) x is = tt

outcome_so : (events : History) (leaf : Leaf) (o : Outcome) → IsOutcome finmap.empty events leaf o → TellsNoBytes o
outcome_so events leaf o is =
    subst TellsNoBytes (sym is.same)
    (taken_so (taken events (location_of_leaf leaf)) _ (at_so leaf is.stored (array_at events (location_of_leaf leaf))
    (λ none. subst (λ bytes. IsStoredAs leaf.want bytes is.stored) (finmap.get-empty _ (metadata_key_asked leaf)) (is.read none))))

refusal_so : (node : Text) (leaf : Leaf) (at : ℕ) (numbers : List ℕ) (o : Outcome) (answer : Body) → TellsNoBytes o → IsRefusal node leaf at numbers o answer → IsOther answer
refusal_so node leaf at numbers (outcome.path_taken other) answer none is = subst IsOther (sym is) tt
refusal_so node leaf at numbers (outcome.bad_metadata bytes) answer none is = absurd none
refusal_so node leaf at numbers outcome.exists answer none is = subst IsOther (sym is) tt
refusal_so node leaf at numbers (outcome.mismatch member) answer none is = subst IsOther (sym is) tt
refusal_so node leaf at numbers (outcome.there array) answer none is = absurd is
refusal_so node leaf at numbers (outcome.found meta) answer none is = absurd is
refusal_so node leaf at numbers outcome.not_found answer none is = subst IsOther (sym is) tt
refusal_so node leaf at numbers (outcome.bad_want member) answer none is = subst IsOther (sym is) tt
refusal_so node leaf at numbers (outcome.made meta) answer none is = absurd is

refused_so : (events : History) (now : ℕ) (node : Text) (leaf : Leaf) (numbers : List ℕ) (answer : Body) → IsRefusedLeaf finmap.empty events now node leaf numbers answer → IsOther answer
refused_so events now node leaf numbers answer is = refusal_so node leaf is.at numbers is.outcome answer (outcome_so _ leaf is.outcome is.comes) is.answered

-- ---- answers

module _ (history : History) (w : Window) where
  open_so : (name : Text) (leaves : List Taking) (build : lines.Build) (numbers : List ℕ) (answer : Body) → IsOpenAnswer history w name leaves build numbers answer → IsOther answer
  open_so name leaves build numbers answer (opening.opened all builds) = tt
  open_so name leaves build numbers answer (opening.unbuilt all builds) = tt
  open_so name leaves build numbers answer (opening.refused {node} {leaf} stopped refusal) = refused_so _ w.from node leaf numbers answer refusal
  open_so name leaves build numbers answer (opening.failed n stopped fails) = tt

  does_so : (owner : ℕ) (t : Option Transaction) (line : ℕ) (numbers : List ℕ) (act : Act) (answer : Body) → IsActAnswer history owner w t line numbers act answer → IsOther answer
  does_so owner t line numbers act answer (fitting.open_answer {name} {leaves} {build} is) = open_so name _ build numbers answer is
  does_so owner t line numbers act answer fitting.viewed = tt
  does_so owner t line numbers act answer (fitting.read seen) = tt
  does_so owner t line numbers act answer (fitting.read_failed n fetched) = tt
  does_so owner t line numbers act answer fitting.staged = tt
  does_so owner t line numbers act answer (fitting.written n) = tt
  does_so owner t line numbers act answer (fitting.write_failed n is) = tt
  does_so owner t line numbers act answer fitting.begun = tt
  does_so owner t line numbers act answer (fitting.committed n) = tt
  does_so owner t line numbers act answer (fitting.conflicts is) = tt
  does_so owner t line numbers act answer (fitting.commit_failed n is) = tt
  does_so owner t line numbers act answer fitting.aborted = tt

  asked_so : (owner : ℕ) (t : Option Transaction) (line : ℕ) (numbers : List ℕ) (asked : Asked) (answer : Body) → IsRefusedBy asked → IsAnswer history owner w t line numbers asked answer → IsOther answer
  asked_so owner t line numbers (Err refusal) answer plain is = subst IsOther (sym is) plain
  asked_so owner t line numbers (Ok act) answer plain is = does_so owner t line numbers act answer is

  line_so : (s : Standing) (t : Told) → IsFitting history w s t → IsPlain t
  line_so s t is =
      let lacks = lacking t.number is.answer (asked_so t.session s.transaction t.number (opened_in t.answer) (act_at s t) is.answer (act_so s.names s.transaction t.asked) is.may) in
      let so : LacksAll t.answer = subst LacksAll (sym is.object) lacks in
      record { not_atomic = so.0; damaged = so.1; bad_meta = so.2; shrunk = so.3 }

lines_so : (history : History) (earlier : List Told) (s : Standing) (told : List Told) → AreFitting history earlier s told → AllByRecursion IsPlain told
lines_so history earlier s [] is = tt
lines_so history earlier s (t ∷ told) is = (line_so history _ s t is.0, lines_so history (earlier ++ t ∷ []) (standing_step history s t) told is.1)

-- what holds of what is told of each session holds of all
tail_so : (session : ℕ) (t : Told) (told : List Told) → AllByRecursion IsPlain (told_of session (t ∷ told)) → AllByRecursion IsPlain (told_of session told)
tail_so session t told all = by (t.session == session) all
  where
    by : (b : Bool) → AllByRecursion IsPlain (cond b (t ∷ told_of session told) (told_of session told)) → AllByRecursion IsPlain (told_of session told)
    by true all = all.1
    by false all = all

each_so : (told : List Told) → ((session : ℕ) → AllByRecursion IsPlain (told_of session told)) → ArePlain told
each_so [] all = tt
each_so (t ∷ told) all =
    let own : (t.session == t.session) ≡ true = eq-eqb t.session t.session refl in
    let first : AllByRecursion IsPlain (t ∷ told_of t.session told) = subst (λ b. AllByRecursion IsPlain (cond b (t ∷ told_of t.session told) (told_of t.session told))) own (all t.session) in
    (first.0, each_so told (λ session. tail_so session t told (all session)))

-- where part 4 holds, so does part 5
pub part_5_follows : (told : List Told) (history : History) → IsAnswered told history → ArePlain told
part_5_follows told history is = each_so told (λ session. lines_so history [] first_standing (told_of session told) (is session))
