-- A state agrees with its opening behind a commit.
use Rattle.std.proofs.Common.{◌≡◌, ℕ, zero, suc, ◌+◌, ◌<◌, ◌≤◌, ◌⊎◌, inl, inr, List, [], ◌∷◌, ◌++◌, length, Bool, true, false, cond, Option, Some, refl, sym, ap, subst, ◌∙◌, All, arith}
use Rattle.std.specs.Prelude.{◌||◌, Result, Ok, Err, OnOk, OnErr, count_by, filter, not, nat_lt, set}
use Rattle.std.specs.FinMap as finmap
use Rattle.std.specs.List.{AllByRecursion, list_any}
use Rattle.std.specs.Str.{bytes_eq}
use Rattle.std.proofs.lemmas.List.Elements.{All-from_recursion, recursion_from_All}
use Rattle.std.proofs.lemmas.Slice.Eq.{bytes_eq-Decides}
use Rattle.std.proofs.lemmas.Bool.{ltb-true, ltb-false}
use Rattle.cells.proofs.Laws.{true_or_false}
use Rattle.cells.specs.Elements.{word_at}
use Rattle.chunk_cache.specs.Cache.{after_drop}
use Rattle.chunk_cache.specs.Snapshot.{SnapshotCells}
use Rattle.kv_face.specs.Store.{Contents, OneMore, after}
use Rattle.kv_face.specs.declared.change.Change.{Change}
use Rattle.history.specs.declared.event.Event.{Event}
use Rattle.history.specs.History.{History}
use Rattle.history.specs.Arrays.{Known, known_after, form_of, is_local}
use Rattle.history.specs.declared.array.ArrayInfo.{ArrayInfo}
use Rattle.history.specs.Names as names
use Rattle.history.specs.Chunks.{Chunk, IsIndexOf, key_in, chunk_key, home_text}
use Rattle.history.specs.Snapshots.{chunk_box}
use Rattle.history.specs.Stored.{AreChangesOf}
use Rattle.history.specs.Counting.{IsCounted, is_change}
use Rattle.history.specs.Generations.{Generations, IsNumbered}
use Rattle.history.specs.Legal.{IsLegal, IsLegalKind, is_opening}
use Rattle.history.specs.ReadRows.{mount_of}
use Rattle.history.specs.Touch.{touches}
use Rattle.history.proofs.Laws.{changes_applied, counted_more, counted_same, generation_touched, known_after-more, legal_more, represents_event, some_inj, opened_le, snapshot_longer, generation_untouched}
use Rattle.std.specs.FinMap.{get-insert}
use Rattle.std.specs.Cmp.Lexicographic.{nat_list_cmp_total}
use Rattle.std.proofs.lemmas.Map.Text.{is_eq-slice_cmp}
use Rattle.state_laws.specs.Recorded.{with_numbers, without_all, done_event}
use Rattle.state_laws.specs.declared.deed.Deed.{Deed}
use Rattle.state_laws.specs.declared.deed.HeldCells.{HeldCells}
use Rattle.state_laws.specs.Seen.{StoreSeen, IsFrame, IsQuiet}
use Rattle.state_laws.specs.Log.{Log}
use Rattle.state_laws.specs.Outline.{outline, outlined_event}
use Rattle.state_laws.specs.Kept.{IsKept, IsKeptNow, IsCurrent}
use Rattle.state_laws.specs.Agreement.{Opening, Agrees, IsTrueTo, IsHeld, IsHeldNow, is_fault, TakesMount}
use Rattle.state_laws.specs.Changing.{IsOneOf, with_cells, committed, AreTouched, IsHeldStill, IsHeldAnew, IsDeed, IsRightDeed}
use Rattle.state_laws.specs.declared.deed.ChangeError.{ChangeError}
use Rattle.state_laws.specs.declared.deed.ChangeError.TheVariants as error
use Rattle.state_laws.specs.Fetches.{HasFailed}
use Rattle.state_laws.proofs.Got.{agrees_quiet}
use Rattle.state_laws.proofs.Later.{count_more, frame_then, not_risen, agrees_fault}
use Rattle.state_laws.proofs.Outline.{outline-more, numbered_more}

-- what holds of all entries holds of those that pass a test
passed_by : {X : Type 0} (Q : X → Type 0) (x : X) (xs : List X) (b : Bool) → (b ≡ true → Q x) → AllByRecursion Q xs → AllByRecursion Q (cond b (x ∷ xs) xs)
passed_by Q x xs true q rest = (q refl, rest)
passed_by Q x xs false q rest = rest

passed : {X : Type 0} (P Q : X → Type 0) (p : X → Bool) (xs : List X) → ((x : X) → p x ≡ true → P x → Q x) → AllByRecursion P xs → AllByRecursion Q (filter p xs)
passed P Q p [] f all = tt
passed P Q p (x ∷ xs) f all = passed_by Q x (filter p xs) (p x) (λ t. f x t all.0) (passed P Q p xs f all.1)

weaker : {X : Type 0} (P Q : X → Type 0) (xs : List X) → ((x : X) → P x → Q x) → AllByRecursion P xs → AllByRecursion Q xs
weaker P Q [] f all = tt
weaker P Q (x ∷ xs) f all = (f x all.0, weaker P Q xs f all.1)

other_key : (k key : List ℕ) → not (bytes_eq k key) ≡ true → k ≡ key → ⊥
other_key k key t same = let clash : not true ≡ true = sym (ap not ((bytes_eq-Decides k key).1 same)) ∙ t in absurd (cc)

-- what is left in the cache is under none of the keys
abbrev Entry : Type 0
Entry = List ℕ × SnapshotCells

left : (P : Entry → Type 0) (keys : List (List ℕ)) (entries : List Entry) → AllByRecursion P entries → AllByRecursion (λ e. P e × (IsOneOf keys e.0 → ⊥)) (without_all keys entries)
left P [] entries all = weaker P (λ e. P e × (IsOneOf [] e.0 → ⊥)) entries (λ e p. (p, λ one. one)) all
left P (k ∷ keys) entries all =
    weaker (λ e. (P e × (k ≡ e.0 → ⊥)) × (IsOneOf keys e.0 → ⊥)) (λ e. P e × (IsOneOf (k ∷ keys) e.0 → ⊥)) (without_all keys (after_drop k entries))
    (λ e is. (is.0.0, λ one. elim one [ inl same ↦ is.0.1 same | inr more ↦ is.1 more ]))
    (left (λ e. P e × (k ≡ e.0 → ⊥)) keys (after_drop k entries) (passed P (λ e. P e × (k ≡ e.0 → ⊥)) (λ e. not (bytes_eq k e.0)) entries (λ e t p. (p, other_key k e.0 t)) all))

-- the number at a key, once some keys have one
either_number : (a b : Bool) (n : ℕ) (o : Option ℕ) → cond b (Some n) (cond a (Some n) o) ≡ cond (a || b) (Some n) o
either_number true true n o = refl
either_number true false n o = refl
either_number false b n o = refl

get-with_numbers : (n : ℕ) (q : List ℕ) (keys : List (List ℕ)) (table : Generations) → finmap.get (with_numbers n table keys) q ≡ cond (list_any (bytes_eq q) keys) (Some n) (finmap.get table q)
get-with_numbers n q [] table = refl
get-with_numbers n q (key ∷ keys) table =
    get-with_numbers n q keys (finmap.insert table key n)
    ∙ ap (cond (list_any (bytes_eq q) keys) (Some n)) (get-insert nat_list_cmp_total table key n q ∙ ap (λ b. cond b (Some n) (finmap.get table q)) (is_eq-slice_cmp q key))
    ∙ either_number (bytes_eq q key) (list_any (bytes_eq q) keys) n (finmap.get table q)

any_by : (key k : List ℕ) (b : Bool) → bytes_eq key k ≡ true → (bytes_eq key k || b) ≡ true
any_by key k b t = ap (λ c. c || b) t

among : (key : List ℕ) (keys : List (List ℕ)) → IsOneOf keys key → list_any (bytes_eq key) keys ≡ true
among key [] one = absurd one
among key (k ∷ keys) (inl same) = any_by key k (list_any (bytes_eq key) keys) ((bytes_eq-Decides key k).1 (sym same))
among key (k ∷ keys) (inr more) = or_true (bytes_eq key k) (list_any (bytes_eq key) keys) (among key keys more)
  where
    or_true : (a b : Bool) → b ≡ true → (a || b) ≡ true
    or_true true b t = refl
    or_true false b t = t

one_by : (key k : List ℕ) (keys : List (List ℕ)) (a : Bool) → bytes_eq key k ≡ a → (a || list_any (bytes_eq key) keys) ≡ true → (list_any (bytes_eq key) keys ≡ true → IsOneOf keys key) → IsOneOf (k ∷ keys) key
one_by key k keys true t any more = inl (sym ((bytes_eq-Decides key k).0 t))
one_by key k keys false t any more = inr (more any)

one_of : (key : List ℕ) (keys : List (List ℕ)) → list_any (bytes_eq key) keys ≡ true → IsOneOf keys key
one_of key [] any = absurd (cc)
one_of key (k ∷ keys) any = one_by key k keys (bytes_eq key k) refl any (one_of key keys)

length_set : {A : Type 0} (xs : List A) (n : ℕ) (x : A) → length (set xs n x) ≡ length xs
length_set [] n x = refl
length_set (y ∷ xs) zero x = refl
length_set (y ∷ xs) (suc n) x = ap suc (length_set xs n x)

cells_count : (cells : List HeldCells) (locals : List (Option SnapshotCells)) → length (with_cells locals cells) ≡ length locals
cells_count [] locals = refl
cells_count (c ∷ cs) locals = cells_count cs (set locals c.array (Some c.cells)) ∙ length_set locals c.array (Some c.cells)

-- an array stays, by another shape at most
pub record IsStill (later : History) (a : ℕ) (k : Known) : Type 0 where
  pub now : Known
  pub known : known_after later a ≡ Some now
  pub info : now.info ≡ k.info
  pub opened : now.opened ≡ k.opened

same_key : (k l : Known) (index : List ℕ) → l.info ≡ k.info → l.opened ≡ k.opened → chunk_key l index ≡ chunk_key k index
same_key k l index info opened =
    ap (λ (i : ArrayInfo). home_text i.home l.opened ++ names.chunk_name (form_of i.home) index) info ∙ ap (λ n. home_text k.info.home n ++ names.chunk_name (form_of k.info.home) index) opened

-- a commit or a resize: the event, the keys of the chunks that it touches, the changes, and the cells of local arrays behind it
module _ (opening : Opening) (store next : StoreSeen) (log : Log) (e : Event) (keys : List (List ℕ)) (changes : List Change) (locals : List (Option SnapshotCells)) (agrees : Agrees opening store log) (touched : AreTouched log.events e keys) where
  abbrev h : History
  h = log.events

  abbrev later : History
  later = h ++ e ∷ []

  abbrev pub changed_log : Log
  changed_log = record {
    events = later;
    generations = with_numbers (length h + 1) log.generations keys;
    cache = record log.cache { entries = without_all keys log.cache.entries };
    locals = locals;
  }

  -- what is owed for the event
  pub record IsOwed : Type 0 where
    pub frame : IsFrame store next
    pub still : (a : ℕ) (k : Known) → known_after h a ≡ Some k → IsStill later a k
    pub back : (a : ℕ) (l : Known) → known_after later a ≡ Some l → (k : Known) × (known_after h a ≡ Some k) × (l.info ≡ k.info)
    pub steady : next.faults ≤ store.faults
    pub no_fault : is_fault e ≡ false
    pub no_opening : is_opening e ≡ false
    pub count : length locals ≡ length log.locals
    pub outline : IsLegal finmap.empty (outline later)
    pub held : (a : ℕ) (k : Known) → known_after later a ≡ Some k → is_local k.info.home ≡ true → (known_after h a ≡ Some k) × (IsHeldStill log changed_log e a k ⊎ IsHeldAnew log changed_log e a k)
    pub held_now : (start : Contents) → opening.store.contents ≡ Some start → (a : ℕ) (k : Known) → known_after h a ≡ Some k → is_local k.info.home ≡ true → (anew : IsHeldAnew log changed_log e a k) → (index : List ℕ) → IsIndexOf k.info index
        → IsCurrent start later k (record { array = a; index = index }) anew.snapshot
    pub right : (start : Contents) → opening.store.contents ≡ Some start → IsLegalKind start h e.kind × AreChangesOf start h e changes × (is_change start h e.kind ≡ nat_lt 0 (length changes))
    pub made : (m : Contents) → store.contents ≡ Some m → next.contents ≡ Some (after m changes)
    pub more : 0 < length changes → OneMore store.changes next.changes
    pub none : length changes ≡ 0 → next.changes ≡ store.changes

  module _ (owed : IsOwed) where
    numbered : IsNumbered h e log.generations changed_log.generations
    numbered = record {
      touched = λ c key it. get-with_numbers (length h + 1) key keys log.generations ∙ ap (λ b. cond b (Some (length h + 1)) (finmap.get log.generations key)) (among key keys (touched.all c key it));
      others = λ key none.
          get-with_numbers (length h + 1) key keys log.generations
          ∙ elim (true_or_false (list_any (bytes_eq key) keys)) [
            | inl t ↦ let there = touched.only key (one_of key keys t) in absurd (none there.0 there.1)
            | inr f ↦ ap (λ b. cond b (Some (length h + 1)) (finmap.get log.generations key)) f
          ];
    }

    -- a chunk whose key isn't touched
    untouched : (c : Chunk) (k l : Known) (key : List ℕ) → known_after h c.array ≡ Some k → known_after later c.array ≡ Some l → l.opened ≡ k.opened → IsIndexOf l.info c.index → key_in (known_after later c.array) c ≡ Some key
        → (IsOneOf keys key → ⊥) → touches h e c ≡ false
    untouched c k l key known is opened valid named apart = elim (true_or_false (touches h e c)) [
      | inl t ↦
          let low = opened_le c.array h k known in
          absurd (apart (touched.all c key (record {
            has = record { array = l; known = is; valid = valid; named = named };
            touched = t;
            opened = subst (λ n. n ≤ length h) (sym opened) low;
          })))
      | inr f ↦ f
    ]

    kept_later : (entry : Entry) → IsKept h entry → (IsOneOf keys entry.0 → ⊥) → IsKept later entry
    kept_later entry is apart =
        let still = owed.still is.chunk.array is.array is.known in
        let valid : IsIndexOf still.now.info is.chunk.index = subst (λ (i : ArrayInfo). IsIndexOf i is.chunk.index) (sym still.info) is.valid in
        let named : key_in (known_after later is.chunk.array) is.chunk ≡ Some entry.0 =
        ap (λ o. key_in o is.chunk) still.known ∙ ap Some (same_key is.array still.now is.chunk.index still.info still.opened) ∙ sym (ap (λ o. key_in o is.chunk) is.known) ∙ is.named in
        record {
          chunk = is.chunk;
          array = still.now;
          known = still.known;
          stored = ap (λ (i : ArrayInfo). is_local i.home) still.info ∙ is.stored;
          valid = valid;
          named = named;
          generation = is.generation ∙ sym (generation_untouched h e is.chunk (untouched is.chunk is.array still.now entry.0 is.known still.known still.opened valid named apart));
          cells = record {
            dtype = is.cells.dtype ∙ ap (λ (i : ArrayInfo). i.dtype) (sym still.info);
            shape = is.cells.shape ∙ ap chunk_box (sym still.info);
          };
        }

    all_kept : All (IsKept later) changed_log.cache.entries
    all_kept =
        All-from_recursion (IsKept later) changed_log.cache.entries
        (weaker (λ e. IsKept h e × (IsOneOf keys e.0 → ⊥)) (IsKept later) changed_log.cache.entries (λ entry is. kept_later entry is.0 is.1)
        (left (IsKept h) keys log.cache.entries (recursion_from_All (IsKept h) log.cache.entries agrees.kept)))

    -- cells that the run holds, as they were or others
    still_held : (a : ℕ) (k : Known) → IsHeld log a k → IsHeldStill log changed_log e a k → IsHeld changed_log a k
    still_held a k was still = record {
      snapshot = was.snapshot;
      held = still.same ∙ was.held;
      cells = was.cells;
      generation = λ index valid. was.generation index valid ∙ sym (generation_untouched h e (record { array = a; index = index }) (still.untouched index valid));
    }

    anew_held : (a : ℕ) (k : Known) → IsHeldAnew log changed_log e a k → IsHeld changed_log a k
    anew_held a k anew = record {
      snapshot = anew.snapshot;
      held = anew.held;
      cells = anew.cells;
      generation = λ index valid. anew.generation ∙ sym (generation_touched h e (record { array = a; index = index }) (anew.touched index valid));
    }

    module _ (start : Contents) (told : opening.store.contents ≡ Some start) where
      true_to : IsTrueTo start opening store log
      true_to = agrees.holds start told

      legal_kind : IsLegalKind start h e.kind
      legal_kind = let right = owed.right start told in right.0

      legal : IsLegal start later
      legal = legal_more start h e true_to.legal legal_kind

      current_later : (k l : Known) (c : Chunk) (snapshot : SnapshotCells) → known_after later c.array ≡ Some l → touches h e c ≡ false → IsCurrent start h k c snapshot → IsCurrent start later l c snapshot
      current_later k l c snapshot known quiet is =
          let now = is.current ∙ sym (generation_untouched h e c quiet) in
          let more = snapshot_longer start h (e ∷ []) k c snapshot.generation (word_at snapshot.cells) legal is now in
          subst (λ m. IsCurrent start later m c snapshot) (some_inj more.0 l (sym more.2.known ∙ known)) more.2

      kept_now_later : (entry : Entry) → IsKeptNow start h entry × (IsOneOf keys entry.0 → ⊥) → IsKeptNow start later entry
      unfolding kept_later
      kept_now_later entry is =
          let was = is.0.0 in
          let kept = kept_later entry was is.1 in
          let still = owed.still was.chunk.array was.array was.known in
          let quiet = untouched was.chunk was.array still.now entry.0 was.known still.known still.opened kept.valid kept.named is.1 in
          (kept, current_later was.array still.now was.chunk entry.1 still.known quiet is.0.1)

      all_now : All (IsKeptNow start later) changed_log.cache.entries
      all_now =
          All-from_recursion (IsKeptNow start later) changed_log.cache.entries
          (weaker (λ e. IsKeptNow start h e × (IsOneOf keys e.0 → ⊥)) (IsKeptNow start later) changed_log.cache.entries kept_now_later
          (left (IsKeptNow start h) keys log.cache.entries (recursion_from_All (IsKeptNow start h) log.cache.entries true_to.kept)))

      held_still : (a : ℕ) (k : Known) → known_after h a ≡ Some k → known_after later a ≡ Some k → is_local k.info.home ≡ true → IsHeldStill log changed_log e a k → IsHeldNow start changed_log a k
      unfolding still_held
      held_still a k known now local still =
          let was = true_to.held a k known local in (
            still_held a k was.0 still,
            λ index valid. current_later k k (record { array = a; index = index }) was.0.snapshot now (still.untouched index valid) (was.1 index valid),
          )

      held_anew : (a : ℕ) (k : Known) → known_after h a ≡ Some k → is_local k.info.home ≡ true → IsHeldAnew log changed_log e a k → IsHeldNow start changed_log a k
      unfolding anew_held
      held_anew a k known local anew = (anew_held a k anew, λ index valid. owed.held_now start told a k known local anew index valid)

      held_now : (a : ℕ) (k : Known) → known_after later a ≡ Some k → is_local k.info.home ≡ true → IsHeldNow start changed_log a k
      held_now a k known local =
          let held = owed.held a k known local in
          elim held.1 [ inl still ↦ held_still a k held.0 known local still | inr anew ↦ held_anew a k held.0 local anew ]

      -- the changes are counted
      counted_by : (b : Bool) → nat_lt 0 (length changes) ≡ b → IsCounted start opening.store.changes next.changes later
      counted_by true some =
          let right = owed.right start told in
          counted_more start opening.store.changes store.changes next.changes h e true_to.counted (right.2 ∙ some) (owed.more (ltb-true 0 (length changes) some))
      counted_by false some =
          let right = owed.right start told in
          let low : length changes ≤ 0 = ltb-false 0 (length changes) some in
          counted_same start opening.store.changes store.changes next.changes h e true_to.counted (right.2 ∙ some) (owed.none (omega (arith, low)))

      true_later : IsTrueTo start opening next changed_log
      true_later =
          let right = owed.right start told in
          record {
            legal = legal;
            contents = after true_to.contents changes;
            told = owed.made true_to.contents true_to.told;
            represents = represents_event start h e true_to.legal legal_kind true_to.contents (after true_to.contents changes) true_to.represents (changes_applied start h e true_to.contents changes right.1);
            counted = counted_by (nat_lt 0 (length changes)) refl;
            kept = all_now;
            held = held_now;
          }

    held_then : (a : ℕ) (k : Known) → known_after later a ≡ Some k → is_local k.info.home ≡ true → IsHeld changed_log a k
    held_then a k known local =
        let held = owed.held a k known local in
        elim held.1 [
          | inl still ↦ still_held a k (agrees.held a k held.0 local) still
          | inr anew ↦ anew_held a k anew
        ]

    -- it keeps the agreement
    pub agrees_changed : Agrees opening next changed_log
    agrees_changed = record {
      frame = frame_then opening.store store next agrees.frame owed.frame;
      faults =
          let old = agrees.faults in
          let up = owed.frame.faults in
          let same : count_by is_fault later ≡ count_by is_fault h + 0 = count_more is_fault h e ∙ ap (λ b. count_by is_fault h + cond {A = ℕ} b 1 0) owed.no_fault in
          omega arith;
      told = λ rose.
          let old = agrees.told (omega (arith, rose, owed.steady)) in
          let same : count_by is_fault later ≡ count_by is_fault h + 0 = count_more is_fault h e ∙ ap (λ b. count_by is_fault h + cond {A = ℕ} b 1 0) owed.no_fault in
          omega (arith, old, same);
      limit = agrees.limit;
      count =
          let old = agrees.count in
          let longer = owed.count in
          let same : count_by is_opening later ≡ count_by is_opening h + 0 = count_more is_opening h e ∙ ap (λ b. count_by is_opening h + cond {A = ℕ} b 1 0) owed.no_opening in
          omega arith;
      outline = owed.outline;
      generations = numbered_more h e log.generations changed_log.generations owed.outline agrees.generations numbered;
      mounts = λ a l m known on.
          let was = owed.back a l known in
          subst (λ names. TakesMount names m) (sym owed.frame.names) (agrees.mounts a was.0 m was.1 (ap (λ (i : ArrayInfo). mount_of i.home) (sym was.2) ∙ on));
      kept = all_kept;
      held = held_then;
      holds = λ start told. true_later start told;
    }

-- a commit that was made
module _ (opening : Opening) (store next : StoreSeen) (log : Log) (owner : ℕ) (deed : Deed) (changes : List Change) (agrees : Agrees opening store log) (is_deed : IsDeed log owner deed) (right : IsRightDeed opening log owner deed changes) where
  abbrev deed_event : Event
  deed_event = done_event owner deed.commit

  same : (a : ℕ) → known_after (log.events ++ deed_event ∷ []) a ≡ known_after log.events a
  same = known_after-more log.events deed_event

  pub agrees_committed : IsFrame store next → next.faults ≤ store.faults → ((m : Contents) → store.contents ≡ Some m → next.contents ≡ Some (after m changes)) → (0 < length changes → OneMore store.changes next.changes)
      → (length changes ≡ 0 → next.changes ≡ store.changes) → Agrees opening next (committed log owner deed)
  agrees_committed frame steady made more none =
      agrees_changed opening store next log deed_event deed.keys.items changes (with_cells log.locals deed.cells.items) agrees is_deed.touched (record {
        frame = frame;
        still = λ a k known. record { now = k; known = same a ∙ known; info = refl; opened = refl };
        back = λ a l known. (l, sym (same a) ∙ known, refl);
        steady = steady;
        no_fault = refl;
        no_opening = refl;
        count = cells_count deed.cells.items log.locals;
        outline = subst (IsLegal finmap.empty) (sym (outline-more log.events deed_event)) (legal_more finmap.empty (outline log.events) (outlined_event deed_event) agrees.outline tt);
        held = λ a k known local. let before = sym (same a) ∙ known in (before, is_deed.held a k before local);
        held_now = λ start told a k known local anew index valid. let is = right start told in is.held a k known local anew index valid;
        right = λ start told. let is = right start told in (is.legal, is.changes_are, is.counted);
        made = made;
        more = more;
        none = none;
      })

-- what comes of a deed
pub agrees_deed : (opening : Opening) (store next : StoreSeen) (log then : Log) (owner : ℕ) (deed : Deed) (changes : List Change) (r : Result ℕ ChangeError) → OnOk r (then ≡ committed log owner deed)
    → OnOk r ((m : Contents) → store.contents ≡ Some m → next.contents ≡ Some (after m changes)) → OnOk r (0 < length changes → OneMore store.changes next.changes) → OnOk r (length changes ≡ 0 → next.changes ≡ store.changes) → OnErr r (IsQuiet store next)
    → ((event : ℕ) → r ≡ Err (error.StoreFailed event) → HasFailed owner deed.mount store next log then event) → (store.faults < next.faults → (event : ℕ) × (r ≡ Err (error.StoreFailed event))) → (r ≡ Err error.Memory → then ≡ log) → IsFrame store next → IsDeed log owner deed → IsRightDeed opening log owner deed changes → Agrees opening store log
    → Agrees opening next then
agrees_deed opening store next log then owner deed changes (Ok n) ok done more none quiet failed told memory frame is_deed right is =
    let same = not_risen store.faults next.faults (λ rose. let why = told rose in let clash = why.1 in cc) in
    subst (Agrees opening next) (sym ok) (agrees_committed opening store next log owner deed changes is is_deed right frame same done more none)
agrees_deed opening store next log then owner deed changes (Err (error.StoreFailed event)) ok done more none quiet failed told memory frame is_deed right is =
    let has = failed event refl in
    subst (Agrees opening next) (sym has.added) (agrees_fault opening store next log owner deed.mount quiet has.rose is)
agrees_deed opening store next log then owner deed changes (Err error.Memory) ok done more none quiet failed told memory frame is_deed right is =
    let same = not_risen store.faults next.faults (λ rose. let why = told rose in let clash = why.1 in cc) in
    subst (Agrees opening next) (sym (memory refl)) (agrees_quiet opening store next log quiet same is)
