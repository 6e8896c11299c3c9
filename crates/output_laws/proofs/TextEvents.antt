-- The arrays that sessions open lie at texts of UTF-8, where their lines ask for such.
use Rattle.std.proofs.Common.{◌≡◌, ◌∙◌, ℕ, zero, suc, ◌+◌, ◌<◌, ◌≤◌, ◌^◌, List, [], ◌∷◌, ◌++◌, length, take, drop, filter, Bool, true, false, cond, Option, Some, None, IsUtf8, refl, sym, ap, subst, arith, length-drop, eq-eqb}
use Rattle.std.specs.Prelude.{◌==◌, filter_map}
use Rattle.std.specs.List.{AllByRecursion, cons_option}
use Rattle.std.specs.Ordering.{is_lt, nat_cmp}
use Rattle.std.specs.Cmp.Lexicographic.{slice_cmp}
use Rattle.std.proofs.lemmas.List.{take-append-drop, drop-append-le, length-take-le}
use Rattle.std.proofs.lemmas.Str.{IsUtf8-append}
use Rattle.json.proofs.Printed.Utf8.{IsUtf8-are_ascii}
use Rattle.kv_face.specs.Store.{Contents}
use Rattle.stack_driver.specs.References.{Reference}
use Rattle.history.specs.declared.Form.{Form}
use Rattle.history.specs.declared.Form.TheVariants as form
use Rattle.history.specs.declared.array.ArrayInfo.{ArrayInfo}
use Rattle.history.specs.declared.array.Home.{Home}
use Rattle.history.specs.declared.array.Home.TheVariants.{Zarr, N5, Zarr3, Local}
use Rattle.history.specs.declared.event.Event.{Event}
use Rattle.history.specs.declared.event.Kind.{Kind}
use Rattle.history.specs.declared.event.Kind.TheVariants.{Opened, Done, Resized, Fault}
use Rattle.history.specs.declared.event.Op.{Op}
use Rattle.history.specs.Acts.{Act, opens, binds, reads, stages, writes, begins, commits, aborts, resizes, resolves, Asked}
use Rattle.history.specs.Answers.{Body}
use Rattle.history.specs.Arrays.{Known, known_after, known_step, known_reshaped}
use Rattle.history.specs.Commit.{Key, Fixed, Transaction, done_each, commit_events, kept_ops, changed_keys, stored_keys, are_together}
use Rattle.history.specs.CommitRows.{IsCommit, is_done, conflicts, is_failed, is_split, is_shrunk, is_damaged, is_wanting, own_after}
use Rattle.history.specs.History.{History}
use Rattle.history.specs.Leaves.{Leaf}
use Rattle.history.specs.Lines.{SpecLeaf, given, stored}
use Rattle.history.specs.OpenRows.{AreOpened, no_leaf, known_leaf, new_leaf, given_leaf}
use Rattle.history.specs.Outcomes.{home_of}
use Rattle.history.specs.Own.{Numbered, numbered, own_events}
use Rattle.history.specs.Places.{location, location_of, locations, arrays_of, opened_array, lesser, least, taken, clashes}
use Rattle.history.specs.Sessions.{Names, SessionState}
use Rattle.history.specs.Steps.{IsRow, open_done, open_refused, open_unbuilt, open_failed, open_wanting, view_done, read_done, read_shrunk, read_damaged, read_failed, write_staged, write_done, begin_done, commit_done, abort_done, resize_done, resize_many, resize_split, resize_damaged, resize_failed, resolve_done, resolve_refused, IsAnswered, refused_line, wanting, done_line}
use Rattle.history.proofs.Asking.{IsAskedBy}
use Rattle.history.proofs.Histories.{known_after-more, each_history}
use Rattle.history.proofs.Known.{some_inj, none_is_none, opened_as}
use Rattle.history.proofs.Transactions.{all_with}
use Rattle.output_laws.proofs.HeldData.{May}

-- an array lies at a text of UTF-8; the sizes of a local one are below 2^63
abbrev pub IsTextHome : Home → Type 0
IsTextHome (Zarr mount path meta) = IsUtf8 mount × IsUtf8 path
IsTextHome (N5 mount path meta) = IsUtf8 mount × IsUtf8 path
IsTextHome (Zarr3 mount path meta) = IsUtf8 mount × IsUtf8 path
IsTextHome (Local start) = AllByRecursion (λ size. size < 2 ^ 63) start.shape

abbrev pub IsTextKind : Kind → Type 0
IsTextKind (Opened info) = IsTextHome info.home
IsTextKind (Done line mode ops key) = Unit {0}
IsTextKind (Resized a shape) = Unit {0}
IsTextKind (Fault mount) = Unit {0}

-- so do all arrays that events open
abbrev pub AreTextEvents : History → Type 0
AreTextEvents events = AllByRecursion (λ (e : Event). IsTextKind e.kind) events

abbrev pub AreTextOwn : List Numbered → Type 0
AreTextOwn os = AllByRecursion (λ (o : Numbered). IsTextKind o.event.kind) os

-- what a line asks to be opened lies so
abbrev pub IsTextLeaf : SpecLeaf → Type 0
IsTextLeaf (given numbers) = AllByRecursion (λ size. size < 2 ^ 63) numbers.shape
IsTextLeaf (stored node leaf) = IsUtf8 node × IsUtf8 leaf.mount × IsUtf8 leaf.path

abbrev pub IsTextAct : Act → Type 0
IsTextAct (opens name leaves build) = AllByRecursion IsTextLeaf leaves
IsTextAct (binds name view) = Unit {0}
IsTextAct (reads view down) = Unit {0}
IsTextAct (stages t view words) = Unit {0}
IsTextAct (writes view words) = Unit {0}
IsTextAct (begins mode) = Unit {0}
IsTextAct (commits t) = Unit {0}
IsTextAct aborts = Unit {0}
IsTextAct (resizes array shape) = Unit {0}
IsTextAct (resolves name view array) = Unit {0}

-- ---- what a row adds

home_text : (leaf : Leaf) (meta : Form) → IsUtf8 leaf.mount → IsUtf8 leaf.path → IsTextHome (home_of leaf.mount leaf.path meta)
home_text leaf (form.Zarr meta) mount path = (mount, path)
home_text leaf (form.N5 meta) mount path = (mount, path)
home_text leaf (form.Zarr3 meta) mount path = (mount, path)
home_text leaf form.Local mount path = tt

opened_text : {start : Contents} {owner : ℕ} {events : History} {seen : ℕ} {leaves : List SpecLeaf} {refs : List Reference} {own : List Numbered} {now : ℕ} {rest : List SpecLeaf} → AreOpened start owner events seen leaves refs own now rest → AllByRecursion IsTextLeaf leaves → AreTextOwn own
opened_text no_leaf texts = tt
opened_text (known_leaf at k low high outcome more) texts = opened_text more texts.1
opened_text (new_leaf {leaf = leaf} at meta low high new more) texts = (home_text leaf meta texts.0.1 texts.0.2, opened_text more texts.1)
opened_text (given_leaf at low high more) texts = (texts.0, opened_text more texts.1)

each_text : (owner : ℕ) (t : Transaction) (n : ℕ) (ops : List Op) (keys : List Key) → AreTextOwn (numbered n (done_each owner t ops keys))
each_text owner t n ops [] = tt
each_text owner t n ops (k ∷ ks) = (tt, each_text owner t (n + 1) _ ks)

commit_text : (fixed : Fixed) (owner : ℕ) (before : History) (t : Transaction) (n : ℕ) → AreTextOwn (numbered n (commit_events fixed before owner t))
commit_text fixed owner before t n = go (are_together fixed.prefixes (stored_keys before t.ops))
  where
    go : (b : Bool) → AreTextOwn (numbered n (cond b (record { owner = owner; kind = Done t.line t.mode (kept_ops t) None } ∷ []) (done_each owner t (kept_ops t) (changed_keys before t.ops))))
    go true = (tt, tt)
    go false = each_text owner t n (kept_ops t) (changed_keys before t.ops)

first_text : (n : ℕ) (own : List Numbered) → AreTextOwn own → AreTextOwn (take n own)
first_text zero own all = tt
first_text (suc n) [] all = tt
first_text (suc n) (o ∷ os) all = (all.0, first_text n os all.1)

committed_text : {fixed : Fixed} {owner : ℕ} {events : History} {t : Transaction} {left : Option Transaction} {answer : Body} {own : List Numbered} → IsCommit fixed owner events t left answer own → AreTextOwn own
committed_text (conflicts conflict) = tt
committed_text (is_shrunk free shrunk) = tt
committed_text (is_split free present split) = tt
committed_text (is_damaged may damage) = tt
committed_text {fixed} {owner} {events} {t} (is_done n may undamaged) = commit_text fixed owner (take n events) t (n + 1)
committed_text {fixed} {owner} {events} {t} (is_failed n count other part changed) =
    all_with (λ (o : Numbered). IsTextKind o.event.kind) (take count (own_after fixed owner events n t)) _ (first_text count _ (commit_text fixed owner (take n events) t (n + 1))) (tt, tt)
committed_text {fixed} {owner} {events} {t} (is_wanting n count part) = first_text count _ (commit_text fixed owner (take n events) t (n + 1))

row_text : (fixed : Fixed) (owner : ℕ) (events : History) (s : SessionState) (line : ℕ) (act : Act) (names : Names) (left : Option Transaction) (answer : Body) (own : List Numbered) → IsRow fixed owner events s line act names left answer own → IsTextAct act → AreTextOwn own
row_text fixed owner events s line act names left answer own (open_done opened built) texts = opened_text opened texts
row_text fixed owner events s line act names left answer own (open_refused opened refusal) texts = opened_text opened texts
row_text fixed owner events s line act names left answer own (open_unbuilt opened built) texts = opened_text opened texts
row_text fixed owner events s line act names left answer own (open_failed before opened failed) texts = all_with (λ (o : Numbered). IsTextKind o.event.kind) _ _ (opened_text opened texts) (tt, tt)
row_text fixed owner events s line act names left answer own (open_wanting opened) texts = opened_text opened texts
row_text fixed owner events s line act names left answer own view_done texts = tt
row_text fixed owner events s line act names left answer own (read_done read) texts = tt
row_text fixed owner events s line act names left answer own (read_shrunk shrunk) texts = tt
row_text fixed owner events s line act names left answer own (read_damaged damaged) texts = tt
row_text fixed owner events s line act names left answer own (read_failed before fetched) texts = (tt, tt)
row_text fixed owner events s line act names left answer own write_staged texts = tt
row_text fixed owner events s line act names left answer own (write_done commit) texts = committed_text commit
row_text fixed owner events s line act names left answer own begin_done texts = tt
row_text fixed owner events s line act names left answer own (commit_done commit) texts = committed_text commit
row_text fixed owner events s line act names left answer own abort_done texts = tt
row_text fixed owner events s line act names left answer own (resize_done n may undamaged) texts = (tt, tt)
row_text fixed owner events s line act names left answer own (resize_many many) texts = tt
row_text fixed owner events s line act names left answer own (resize_split few split) texts = tt
row_text fixed owner events s line act names left answer own (resize_damaged may damaged) texts = tt
row_text fixed owner events s line act names left answer own (resize_failed n may on_mount) texts = (tt, tt)
row_text fixed owner events s line act names left answer own (resolve_done m low high is) texts = tt
row_text fixed owner events s line act names left answer own (resolve_refused m low high is) texts = tt

-- what a line adds
pub answered_text : (fixed : Fixed) (owner : ℕ) (events : History) (s : SessionState) (line : ℕ) (asked : Asked) (names : Names) (left : Option Transaction) (answer : Body) (own : List Numbered) → IsAskedBy IsTextAct asked → IsAnswered fixed owner events s line asked names left answer own → AreTextOwn own
answered_text fixed owner events s line asked names left answer own texts refused_line = tt
answered_text fixed owner events s line asked names left answer own texts wanting = tt
answered_text fixed owner events s line asked names left answer own texts (done_line {act = act} row) = row_text fixed owner events s line act names left answer own row texts

-- ---- a session's events by their numbers

cond_append : (b : Bool) (o : Numbered) (xs ys zs : List Numbered) → zs ≡ xs ++ ys → cond b (o ∷ zs) zs ≡ cond b (o ∷ xs) xs ++ ys
cond_append true o xs ys zs e = ap (λ l. o ∷ l) e
cond_append false o xs ys zs e = e

own_append : (owner n : ℕ) (xs ys : History) → own_events owner n (xs ++ ys) ≡ own_events owner n xs ++ own_events owner (n + length xs) ys
own_append owner n [] ys = ap (λ k. own_events owner k ys) (omega arith)
own_append owner n (x ∷ xs) ys =
    let next : n + 1 + length xs ≡ n + length (x ∷ xs) = omega arith in
    cond_append (x.owner == owner) (record { number = n; event = x }) (own_events owner (n + 1) xs) (own_events owner (n + length (x ∷ xs)) ys) (own_events owner (n + 1) (xs ++ ys))
    (own_append owner (n + 1) xs ys ∙ ap (λ k. own_events owner (n + 1) xs ++ own_events owner k ys) next)

-- those from one moment on are those up to another and those from there on
pub own_parts : (owner : ℕ) (history : History) (a b : ℕ) → a ≤ b → b ≤ length history → own_events owner (a + 1) (drop a history) ≡ own_events owner (a + 1) (drop a (take b history)) ++ own_events owner (b + 1) (drop b history)
own_parts owner history a b low high =
    let size : length (take b history) ≡ b = length-take-le b history high in
    let parts : drop a history ≡ drop a (take b history) ++ drop b history =
    ap (drop a) (sym (take-append-drop b history)) ∙ drop-append-le a (take b history) (drop b history) (omega (arith, size, low)) in
    let count : a + 1 + length (drop a (take b history)) ≡ b + 1 = omega (arith, size, low, length-drop a (take b history)) in
    ap (own_events owner (a + 1)) parts ∙ own_append owner (a + 1) (drop a (take b history)) (drop b history)
    ∙ ap (λ n. own_events owner (a + 1) (drop a (take b history)) ++ own_events owner n (drop b history)) count

own_head : (b : Bool) (n : ℕ) (e : Event) (rest : List Numbered) → b ≡ true → AreTextOwn (cond b (record { number = n; event = e } ∷ rest) rest) → IsTextKind e.kind
own_head true n e rest same all = all.0
own_head false n e rest same all = absurd (cc)

own_tail : (b : Bool) (n : ℕ) (e : Event) (rest : List Numbered) → AreTextOwn (cond b (record { number = n; event = e } ∷ rest) rest) → AreTextOwn rest
own_tail true n e rest all = all.1
own_tail false n e rest all = all

-- what holds of the events of each session holds of all
pub all_text : (count n : ℕ) (es : History) → AllByRecursion (λ (e : Event). e.owner < count) es → ((k : ℕ) → k < count → AreTextOwn (own_events k n es)) → AreTextEvents es
all_text count n [] owned each = tt
all_text count n (e ∷ es) owned each = (
  own_head (e.owner == e.owner) n e (own_events e.owner (n + 1) es) (eq-eqb e.owner e.owner refl) (each e.owner owned.0),
  all_text count (n + 1) es owned.1 (λ k low. own_tail (e.owner == k) n e (own_events k (n + 1) es) (each k low)),
)

-- two parts of a session's events
pub both_text : (xs ys : List Numbered) → AreTextOwn xs → AreTextOwn ys → AreTextOwn (xs ++ ys)
both_text xs ys one two = all_with (λ (o : Numbered). IsTextKind o.event.kind) xs ys one two

-- ---- what is known of such a history

pub front_text : (n : ℕ) (h : History) → AreTextEvents h → AreTextEvents (take n h)
front_text zero h all = tt
front_text (suc n) [] all = tt
front_text (suc n) (e ∷ h) all = (all.0, front_text n h all.1)

start_text : (h more : History) → AreTextEvents (h ++ more) → AreTextEvents h
start_text [] more all = tt
start_text (e ∷ h) more all = (all.0, start_text h more all.1)

last_text : (h : History) (e : Event) → AreTextEvents (h ++ e ∷ []) → IsTextKind e.kind
last_text [] e all = all.0
last_text (f ∷ h) e all = last_text h e all.1

reshaped_info : (shape : List ℕ) (o : Option Known) (k : Known) → known_reshaped shape o ≡ Some k → (l : Known) × (o ≡ Some l) × (l.info ≡ k.info)
reshaped_info shape None k is = absurd (none_is_none k is)
reshaped_info shape (Some l) k is = let same : record l { shape = shape } ≡ k = some_inj (record l { shape = shape }) k is in (l, refl, ap (λ (m : Known). m.info) same)

step_text : (h : History) (kind : Kind) (a : ℕ) (k : Known) → ((l : Known) → known_after h a ≡ Some l → IsTextHome l.info.home) → IsTextKind kind → known_step a h kind (known_after h a) ≡ Some k → IsTextHome k.info.home
step_text h (Opened info) a k before here is = go (info.number == a) is
  where
    go : (b : Bool) → cond b (Some (opened_as h info)) (known_after h a) ≡ Some k → IsTextHome k.info.home
    go true e = subst (λ (l : Known). IsTextHome l.info.home) (some_inj (opened_as h info) k e) here
    go false e = before k e
step_text h (Done line mode ops key) a k before here is = before k is
step_text h (Resized b shape) a k before here is = go (b == a) is
  where
    go : (t : Bool) → cond t (known_reshaped shape (known_after h a)) (known_after h a) ≡ Some k → IsTextHome k.info.home
    go true e = let l = reshaped_info shape (known_after h a) k e in subst (λ (i : ArrayInfo). IsTextHome i.home) l.2 (before l.0 l.1)
    go false e = before k e
step_text h (Fault mount) a k before here is = before k is

-- each array of it lies at such a text
pub known_text : (h : History) (a : ℕ) (k : Known) → AreTextEvents h → known_after h a ≡ Some k → IsTextHome k.info.home
known_text h a k all is = go h all k is
  where
    go : (g : History) → AreTextEvents g → (l : Known) → known_after g a ≡ Some l → IsTextHome l.info.home
    go =
        each_history (λ g. AreTextEvents g → (l : Known) → known_after g a ≡ Some l → IsTextHome l.info.home) (λ texts l at. absurd (none_is_none l at))
        (λ g e before texts l at. step_text g e.kind a l (before (start_text g (e ∷ []) texts)) (last_text g e texts) (sym (known_after-more g e a) ∙ at))

slash : IsUtf8 (47 ∷ [])
slash = IsUtf8-are_ascii (47 ∷ []) refl

pub located_text : (mount path : List ℕ) → IsUtf8 mount → IsUtf8 path → IsUtf8 (mount ++ 47 ∷ path)
located_text mount path one two = IsUtf8-append mount (47 ∷ path) one (IsUtf8-append (47 ∷ []) path slash two)

place_text : (home : Home) → IsTextHome home → May IsUtf8 (location home)
place_text (Zarr mount path meta) is = located_text mount path is.0 is.1
place_text (N5 mount path meta) is = located_text mount path is.0 is.1
place_text (Zarr3 mount path meta) is = located_text mount path is.0 is.1
place_text (Local start) is = tt

added : (o : Option (List ℕ)) → May IsUtf8 o → (rest : List (List ℕ)) → AllByRecursion IsUtf8 rest → AllByRecursion IsUtf8 (cons_option o rest)
added None may rest more = more
added (Some text) may rest more = (may, more)

places_text : (h : History) → AreTextEvents h → AllByRecursion IsUtf8 (locations h)
places_text [] all = tt
places_text (e ∷ h) all = go e.kind all.0 (places_text h all.1)
  where
    go : (kind : Kind) → IsTextKind kind → AllByRecursion IsUtf8 (locations h) → AllByRecursion IsUtf8 (filter_map location_of (opened_array kind ++ arrays_of h))
    go (Opened info) is more = added (location_of info) (place_text info.home is) (filter_map location_of (arrays_of h)) more
    go (Done line mode ops key) is more = more
    go (Resized a shape) is more = more
    go (Fault mount) is more = more

kept_texts : (p : List ℕ → Bool) (xs : List (List ℕ)) → AllByRecursion IsUtf8 xs → AllByRecursion IsUtf8 (filter p xs)
kept_texts p [] all = tt
kept_texts p (x ∷ xs) all = go (p x) (kept_texts p xs all.1)
  where
    go : (t : Bool) → AllByRecursion IsUtf8 (filter p xs) → AllByRecursion IsUtf8 (cond t (x ∷ filter p xs) (filter p xs))
    go true more = (all.0, more)
    go false more = more

least_text : (xs : List (List ℕ)) → AllByRecursion IsUtf8 xs → May IsUtf8 (least xs)
least_text [] all = tt
least_text (x ∷ xs) all = go (least xs) (least_text xs all.1)
  where
    less : (t : Bool) (s : List ℕ) → IsUtf8 s → IsUtf8 (cond t s x)
    less true s is = is
    less false s is = all.0

    go : (o : Option (List ℕ)) → May IsUtf8 o → May IsUtf8 (elim o [ None ↦ Some x | Some s ↦ Some (lesser s x) ])
    go None may = all.0
    go (Some s) may = less (is_lt (slice_cmp nat_cmp s x)) s may

-- so does what is in the way at a location
pub taken_text : (h : History) (here other : List ℕ) → AreTextEvents h → taken h here ≡ Some other → IsUtf8 other
taken_text h here other all is = go (taken h here) (least_text (filter (clashes here) (locations h)) (kept_texts (clashes here) (locations h) (places_text h all))) is
  where
    go : (o : Option (List ℕ)) → May IsUtf8 o → o ≡ Some other → IsUtf8 other
    go None may e = absurd (cc)
    go (Some text) may e = let same : text ≡ other = cc in subst IsUtf8 same may
