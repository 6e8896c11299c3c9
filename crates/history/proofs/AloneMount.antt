-- What a session that asks for arrays of one mount alone opens lies on it.
use Rattle.std.proofs.Common.{◌≡◌, ℕ, zero, suc, ◌+◌, List, [], ◌∷◌, ◌++◌, length, take, Bool, true, false, cond, Option, Some, None, Ok, Err, refl, sym, ap, subst, ◌∙◌, append_assoc, append-nil, eqb-true}
use Rattle.std.specs.Prelude.{◌==◌}
use Rattle.std.specs.List.{AllByRecursion}
use Rattle.chunk_forms.specs.declared.form.Form.{Form}
use Rattle.chunk_forms.specs.declared.form.Form.TheVariants as form
use Rattle.kv_face.specs.Store.{Contents}
use Rattle.stack_driver.specs.References.{Reference}
use Rattle.stack_driver.specs.Renewed.{array_of}
use Rattle.stack_driver.specs.declared.view.View.{View}
use Rattle.history.specs.declared.array.ArrayInfo.{ArrayInfo}
use Rattle.history.specs.declared.event.Event.{Event}
use Rattle.history.specs.declared.event.Kind.{Kind}
use Rattle.history.specs.declared.event.Kind.TheVariants.{Opened, Done, Resized, Fault}
use Rattle.history.specs.declared.event.Op.{Op}
use Rattle.history.specs.History.{History}
use Rattle.history.specs.Acts.{Act, opens, binds, reads, stages, writes, begins, commits, aborts, resizes, resolves, Asked, outside, inside, changed, read_of, write_of, write_act, on_stored, act_of}
use Rattle.history.specs.Alone.{AreOnMount, IsLeafOn, IsLineOn}
use Rattle.history.specs.Answers as body
use Rattle.history.specs.Answers.{Body, Text}
use Rattle.stack_driver.specs.declared.ComposeError.TheVariants as compose
use Rattle.history.specs.Arrays.{Known, known_after, known_step, known_reshaped, is_local}
use Rattle.history.specs.Bound.{AreKnownNames}
use Rattle.history.specs.Commit.{Key, Fixed, Transaction, done_each, commit_events, kept_ops, changed_keys, stored_keys, are_together}
use Rattle.history.specs.CommitRows.{IsCommit, is_done, conflicts, is_failed, is_split, is_shrunk, is_damaged, is_wanting, own_after}
use Rattle.history.specs.Legal.{IsLegal}
use Rattle.history.specs.Lines.{SpecLeaf, Line, refused, opening, viewing, joining, reading, writing, beginning, committing, aborting, resizing, resolving}
use Rattle.history.specs.OpenRows.{AreOpened, no_leaf, known_leaf, new_leaf, given_leaf}
use Rattle.history.specs.Outcomes.{home_of}
use Rattle.history.specs.Own.{Numbered, numbered}
use Rattle.history.specs.ReadRows.{mount_of}
use Rattle.history.specs.Refs.{IsKnownRef}
use Rattle.history.specs.Sessions.{Names, SessionState}
use Rattle.history.specs.Steps.{IsRow, open_done, open_refused, open_unbuilt, open_failed, open_wanting, view_done, read_done, read_shrunk, read_damaged, read_failed, write_staged, write_done, begin_done, commit_done, abort_done, resize_done, resize_many, resize_split, resize_damaged, resize_failed, resolve_done, resolve_refused}
use Rattle.history.specs.Viewing.{shape_of, view_fault, cell_fault}
use Rattle.stack_driver.specs.Views.{look_of}
use Rattle.history.proofs.Asking.{IsAskedBy, named_by, all_named_by, join_by, changes_by, without_by, values_by, leaf_by, factors_by}
use Rattle.history.proofs.Histories.{known_after-more}
use Rattle.history.proofs.Known.{some_inj, opened_as, known_good}
use Rattle.history.proofs.KnownViews.{array_known}
use Rattle.history.proofs.Shrinks.{known_still}
use Rattle.history.proofs.StepsKnown.{legal_take}
use Rattle.history.proofs.Transactions.{all_with}

abbrev pub IsHomeOn : Text → ArrayInfo → Type 0
IsHomeOn mount info = is_local info.home ≡ false → mount_of info.home ≡ Some mount

-- an array that the event opens, if it is stored, lies on the mount
abbrev pub IsKindOn : Text → Kind → Type 0
IsKindOn mount (Opened info) = IsHomeOn mount info
IsKindOn mount (Done line mode ops key) = Unit {0}
IsKindOn mount (Resized a shape) = Unit {0}
IsKindOn mount (Fault other) = Unit {0}

abbrev pub AreOwnOn : Text → List Numbered → Type 0
AreOwnOn mount own = AllByRecursion (λ (o : Numbered). IsKindOn mount o.event.kind) own

reshaped_info : (shape : List ℕ) (o : Option Known) (k : Known) → known_reshaped shape o ≡ Some k → (l : Known) × (o ≡ Some l) × (l.info ≡ k.info)
reshaped_info shape None k is = absurd (cc)
reshaped_info shape (Some l) k is = let same : record l { shape = shape } ≡ k = some_inj (record l { shape = shape }) k is in (l, refl, ap (λ (m : Known). m.info) same)

-- an array of one event more
step_on : (mount : Text) (h : History) (kind : Kind) (a : ℕ) (k : Known) → AreOnMount mount h → IsKindOn mount kind → known_step a h kind (known_after h a) ≡ Some k → IsHomeOn mount k.info
step_on mount h (Opened info) a k on here is = told (info.number == a) is
  where
    told : (b : Bool) → cond b (Some (opened_as h info)) (known_after h a) ≡ Some k → IsHomeOn mount k.info
    told true e = subst (λ (l : Known). IsHomeOn mount l.info) (some_inj (opened_as h info) k e) here
    told false e = on a k e
step_on mount h (Done line mode ops key) a k on here is = on a k is
step_on mount h (Resized b shape) a k on here is = told (b == a) is
  where
    told : (t : Bool) → cond t (known_reshaped shape (known_after h a)) (known_after h a) ≡ Some k → IsHomeOn mount k.info
    told true e = let l = reshaped_info shape (known_after h a) k e in subst (IsHomeOn mount) l.2 (on a l.0 l.1)
    told false e = on a k e
step_on mount h (Fault other) a k on here is = on a k is

more_on : (mount : Text) (h : History) (e : Event) → AreOnMount mount h → IsKindOn mount e.kind → AreOnMount mount (h ++ e ∷ [])
more_on mount h e on here a k is = step_on mount h e.kind a k on here (sym (known_after-more h e a) ∙ is)

-- arrays stay on the mount, where what is opened lies on it
pub grown_on : (mount : Text) (n : ℕ) (h es : History) → AreOnMount mount h → AreOwnOn mount (numbered n es) → AreOnMount mount (h ++ es)
grown_on mount n h [] on own = subst (AreOnMount mount) (sym (append-nil h)) on
grown_on mount n h (e ∷ es) on own = subst (AreOnMount mount) (append_assoc h (e ∷ []) es) (grown_on mount (n + 1) (h ++ e ∷ []) es (more_on mount h e on own.0) own.1)

home_on : (mount m path : Text) (meta : Form) → m ≡ mount → is_local (home_of m path meta) ≡ false → mount_of (home_of m path meta) ≡ Some mount
home_on mount m path (form.Zarr meta) same stored = ap Some same
home_on mount m path (form.N5 meta) same stored = ap Some same
home_on mount m path (form.Zarr3 meta) same stored = ap Some same
home_on mount m path form.Local same stored = absurd (cc)

-- what leaves open lies where they say, as far as they are of the mount
opened_on : {start : Contents} {owner : ℕ} {events : History} {seen : ℕ} {leaves : List SpecLeaf} {refs : List Reference} {own : List Numbered} {now : ℕ} {rest : List SpecLeaf} (mount : Text) → AreOpened start owner events seen leaves refs own now rest → AllByRecursion (IsLeafOn mount) leaves → AreOwnOn mount own
opened_on mount no_leaf on = tt
opened_on mount (known_leaf at k low high outcome more) on = opened_on mount more on.1
opened_on mount (new_leaf {leaf = leaf} at meta low high new more) on = (home_on mount leaf.mount leaf.path meta on.0, opened_on mount more on.1)
opened_on mount (given_leaf at low high more) on = ((λ stored. absurd (cc)), opened_on mount more on.1)

each_on : (mount : Text) (owner : ℕ) (t : Transaction) (n : ℕ) (ops : List Op) (keys : List Key) → AreOwnOn mount (numbered n (done_each owner t ops keys))
each_on mount owner t n ops [] = tt
each_on mount owner t n ops (k ∷ ks) = (tt, each_on mount owner t (n + 1) _ ks)

commit_on : (mount : Text) (fixed : Fixed) (owner : ℕ) (before : History) (t : Transaction) (n : ℕ) → AreOwnOn mount (numbered n (commit_events fixed before owner t))
commit_on mount fixed owner before t n = told (are_together fixed.prefixes (stored_keys before t.ops))
  where
    told : (b : Bool) → AreOwnOn mount (numbered n (cond b (record { owner = owner; kind = Done t.line t.mode (kept_ops t) None } ∷ []) (done_each owner t (kept_ops t) (changed_keys before t.ops))))
    told true = (tt, tt)
    told false = each_on mount owner t n (kept_ops t) (changed_keys before t.ops)

first_on : (mount : Text) (n : ℕ) (own : List Numbered) → AreOwnOn mount own → AreOwnOn mount (take n own)
first_on mount zero own all = tt
first_on mount (suc n) [] all = tt
first_on mount (suc n) (o ∷ os) all = (all.0, first_on mount n os all.1)

of_commit : {fixed : Fixed} {owner : ℕ} {events : History} {t : Transaction} {left : Option Transaction} {answer : Body} {own : List Numbered} (mount : Text) → IsCommit fixed owner events t left answer own → AreOwnOn mount own
of_commit mount (conflicts conflict) = tt
of_commit mount (is_shrunk free shrunk) = tt
of_commit mount (is_split free present split) = tt
of_commit mount (is_damaged may damage) = tt
of_commit {fixed} {owner} {events} {t} mount (is_done n may undamaged) = commit_on mount fixed owner (take n events) t (n + 1)
of_commit {fixed} {owner} {events} {t} mount (is_failed n count other part changed) = all_with (λ (o : Numbered). IsKindOn mount o.event.kind) (take count (own_after fixed owner events n t)) _ (first_on mount count _ (commit_on mount fixed owner (take n events) t (n + 1))) (tt, tt)
of_commit {fixed} {owner} {events} {t} mount (is_wanting n count part) = first_on mount count _ (commit_on mount fixed owner (take n events) t (n + 1))

-- an act that opens arrays asks for ones of the mount
abbrev pub IsActOn : Text → Act → Type 0
IsActOn mount (opens name leaves build) = AllByRecursion (IsLeafOn mount) leaves
IsActOn mount (binds name view) = Unit {0}
IsActOn mount (reads view down) = Unit {0}
IsActOn mount (stages t view words) = Unit {0}
IsActOn mount (writes view words) = Unit {0}
IsActOn mount (begins mode) = Unit {0}
IsActOn mount (commits t) = Unit {0}
IsActOn mount aborts = Unit {0}
IsActOn mount (resizes array shape) = Unit {0}
IsActOn mount (resolves name view array) = Unit {0}

-- what a row adds lies on the mount
pub row_on : (mount : Text) (fixed : Fixed) (owner : ℕ) (events : History) (s : SessionState) (line : ℕ) (act : Act) (names : Names) (left : Option Transaction) (answer : Body) (own : List Numbered) → IsRow fixed owner events s line act names left answer own → IsActOn mount act → AreOwnOn mount own
row_on mount fixed owner events s line act names left answer own (open_done opened built) on = opened_on mount opened on
row_on mount fixed owner events s line act names left answer own (open_refused opened refusal) on = opened_on mount opened on
row_on mount fixed owner events s line act names left answer own (open_unbuilt opened built) on = opened_on mount opened on
row_on mount fixed owner events s line act names left answer own (open_failed before opened failed) on = all_with (λ (o : Numbered). IsKindOn mount o.event.kind) _ _ (opened_on mount opened on) (tt, tt)
row_on mount fixed owner events s line act names left answer own (open_wanting opened) on = opened_on mount opened on
row_on mount fixed owner events s line act names left answer own view_done on = tt
row_on mount fixed owner events s line act names left answer own (read_done read) on = tt
row_on mount fixed owner events s line act names left answer own (read_shrunk shrunk) on = tt
row_on mount fixed owner events s line act names left answer own (read_damaged damaged) on = tt
row_on mount fixed owner events s line act names left answer own (read_failed before fetched) on = (tt, tt)
row_on mount fixed owner events s line act names left answer own write_staged on = tt
row_on mount fixed owner events s line act names left answer own (write_done commit) on = of_commit mount commit
row_on mount fixed owner events s line act names left answer own begin_done on = tt
row_on mount fixed owner events s line act names left answer own (commit_done commit) on = of_commit mount commit
row_on mount fixed owner events s line act names left answer own abort_done on = tt
row_on mount fixed owner events s line act names left answer own (resize_done n may undamaged) on = (tt, tt)
row_on mount fixed owner events s line act names left answer own (resize_many many) on = tt
row_on mount fixed owner events s line act names left answer own (resize_split few split) on = tt
row_on mount fixed owner events s line act names left answer own (resize_damaged may damaged) on = tt
row_on mount fixed owner events s line act names left answer own (resize_failed n may on_mount) on = (tt, tt)
row_on mount fixed owner events s line act names left answer own (resolve_done m low high is) on = tt
row_on mount fixed owner events s line act names left answer own (resolve_refused m low high is) on = tt

-- a new shape is for a stored array that is known, and has its rank
abbrev pub IsActStored : History → Act → Type 0
IsActStored events (opens name leaves build) = Unit {0}
IsActStored events (binds name view) = Unit {0}
IsActStored events (reads view down) = Unit {0}
IsActStored events (stages t view words) = Unit {0}
IsActStored events (writes view words) = Unit {0}
IsActStored events (begins mode) = Unit {0}
IsActStored events (commits t) = Unit {0}
IsActStored events aborts = Unit {0}
IsActStored events (resizes array shape) = IsKnownRef events array × (array.local ≡ false) × (length shape ≡ length array.shape)
IsActStored events (resolves name view array) = Unit {0}

module _ (mount : Text) (events : History) where
  -- both of an act
  abbrev pub IsActFit : Act → Type 0
  IsActFit act = IsActOn mount act × IsActStored events act

  outside_fit : (t : Option Transaction) (asked : Asked) → IsAskedBy IsActFit asked → IsAskedBy IsActFit (outside t asked)
  outside_fit None asked fits = fits
  outside_fit (Some t) asked fits = tt

  inside_fit : (t : Option Transaction) (act : Transaction → Act) → ((u : Transaction) → IsActFit (act u)) → IsAskedBy IsActFit (inside t act)
  inside_fit None act fits = tt
  inside_fit (Some t) act fits = fits t

  write_fit : (t : Option Transaction) (view : View) (words : List ℕ) → IsActFit (write_act t view words)
  write_fit None view words = (tt, tt)
  write_fit (Some t) view words = (tt, tt)

  stored_fit : (array : Reference) (shape : List ℕ) → IsKnownRef events array → IsAskedBy IsActFit (on_stored array shape)
  stored_fit array shape known =
      told array.local refl (length shape == length array.shape) refl
    where
      told : (b : Bool) → array.local ≡ b → (c : Bool) → (length shape == length array.shape) ≡ c → IsAskedBy IsActFit (cond b (Err body.not_array) (cond c (Ok (resizes array shape)) (Err (body.refused_view compose.Rank))))
      told true e c f = tt
      told false e true f = (tt, (known, e, eqb-true (length shape) (length array.shape) f))
      told false e false f = tt

  -- a line that asks for arrays of the mount alone, over names of known arrays
  pub act_of-fit : (names : Names) (t : Option Transaction) (line : Line) → AreKnownNames events names → IsLineOn mount line → IsAskedBy IsActFit (act_of names t line)
  act_of-fit names t (refused error) each on = tt
  act_of-fit names t (opening name leaves build) each on = outside_fit t (Ok (opens name leaves build)) (on, tt)
  act_of-fit names t (viewing name of changes) each on = named_by IsActFit of (names of) _ (λ v there. changes_by IsActFit (changed (Ok v) changes) _ (λ made is. (tt, tt)))
  act_of-fit names t (joining name of join changes) each on =
      all_named_by IsActFit (λ v. Unit {0}) names (λ name v there. tt) of _ (λ views all. join_by IsActFit (join views) _ (λ v joined. changes_by IsActFit (changed (Ok v) changes) _ (λ made is. (tt, tt))))
  act_of-fit names t (reading name changes down) each on =
      named_by IsActFit name (names name) _
      (λ v there. changes_by IsActFit (changed (Ok v) changes) (read_of down)
      (λ w is. factors_by IsActFit down w _ (without_by IsActFit (view_fault w) _ (λ fits. without_by IsActFit (cell_fault w) (Ok (reads w down)) (λ found. (tt, tt))))))
  act_of-fit names t (writing name changes values) each on =
      named_by IsActFit name (names name) _
      (λ v there. changes_by IsActFit (changed (Ok v) changes) (write_of t values)
      (λ w is. without_by IsActFit (view_fault w) _ (λ fits. values_by IsActFit (values (look_of w).dtype (shape_of w)) _ (λ words given. without_by IsActFit (cell_fault w) (Ok (write_act t w words)) (λ found. write_fit t w words)))))
  act_of-fit names t (beginning mode) each on = outside_fit t (Ok (begins mode)) (tt, tt)
  act_of-fit names t committing each on = inside_fit t commits (λ u. (tt, tt))
  act_of-fit names t aborting each on = inside_fit t (λ u. aborts) (λ u. (tt, tt))
  act_of-fit names t (resizing name shape) each on = outside_fit t _ (named_by IsActFit name (names name) _ (λ v there. leaf_by IsActFit (array_of v) _ (λ array leaf. stored_fit array shape (array_known events v array (each name v there) leaf))))
  act_of-fit names t (resolving name) each on = outside_fit t _ (named_by IsActFit name (names name) _ (λ v there. leaf_by IsActFit (array_of v) (λ array. Ok (resolves name v array)) (λ array leaf. (tt, tt))))

-- what lies on the mount lay on it before
pub front_on : (mount : Text) (start : Contents) (events : History) (n : ℕ) → IsLegal start events → AreOnMount mount events → AreOnMount mount (take n events)
front_on mount start events n legal on a k is = let later = known_still start events a n k legal is in subst (IsHomeOn mount) later.2 (on a later.0 later.1)

-- a known array that is stored, with its rank
pub record IsStoredArray (events : History) (array : Reference) : Type 0 where
  pub known : Known
  pub is_known : known_after events array.number ≡ Some known
  pub stored : is_local known.info.home ≡ false
  pub rank : length known.info.shape ≡ length array.shape

pub stored_array : (start : Contents) (events : History) (array : Reference) → IsLegal start events → IsKnownRef events array → array.local ≡ false → IsStoredArray events array
stored_array start events array legal ref stored =
    let now = known_still start events array.number ref.seen ref.array legal ref.known in
    let good = known_good start array.number (take ref.seen events) (legal_take start events ref.seen legal) ref.array ref.known in
    record {
      known = now.0;
      is_known = now.1;
      stored = ap (λ (i : ArrayInfo). is_local i.home) now.2 ∙ sym (ap (λ (r : Reference). r.local) ref.same) ∙ stored;
      rank = ap (λ (i : ArrayInfo). length i.shape) now.2 ∙ sym good.rank ∙ sym (ap (λ (r : Reference). length r.shape) ref.same);
    }
