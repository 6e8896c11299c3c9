-- A state agrees with its opening behind an array that entered the run.
use Rattle.std.proofs.Common.{◌≡◌, ◌≢◌, ℕ, ◌+◌, ◌<◌, ◌≤◌, ◌⊎◌, inl, inr, List, [], ◌∷◌, ◌++◌, length, Bool, true, false, cond, Option, Some, None, refl, sym, ap, subst, ◌∙◌, arith, eq-eqb, eqb-true, length-append, zero, suc}
use Rattle.std.specs.Prelude.{◌==◌, count_by}
use Rattle.std.specs.List.{slice_get}
use Rattle.std.specs.Option.{option_map, option_map_or}
use Rattle.std.specs.FinMap as finmap
use Rattle.cells.proofs.Laws.{true_or_false}
use Rattle.chunk_cache.specs.Snapshot.{SnapshotCells}
use Rattle.history.specs.Names.{chunk_name, metadata_name}
use Rattle.kv_face.specs.Store.{Contents}
use Rattle.history.specs.declared.array.ArrayInfo.{ArrayInfo}
use Rattle.history.specs.declared.event.Event.{Event}
use Rattle.history.specs.History.{History}
use Rattle.history.specs.Arrays.{Known, known_after, form_of, is_local}
use Rattle.history.specs.Chunks.{Chunk, IsIndexOf, home_text, keys_text}
use Rattle.history.specs.Counting.{IsCounted}
use Rattle.history.specs.Legal.{IsLegal, IsLegalOpening, IsApartFrom, AreApart, is_opening}
use Rattle.history.specs.Own.{opened_event}
use Rattle.history.specs.ReadRows.{mount_of}
use Rattle.history.specs.Store.{RepresentsHistory}
use Rattle.history.specs.Stored.{IsApplied}
use Rattle.history.specs.Touch.{touches}
use Rattle.history.proofs.Laws.{apart_texts, key_is, generation_touched, opening_numbers_none, known_after-more, legal_more, opened_as, some_inj, none_is_none, known_below}
use Rattle.state_laws.specs.Seen.{StoreSeen, IsFrame}
use Rattle.state_laws.specs.Log.{Log, cells_held}
use Rattle.state_laws.specs.Kept.{AreCellsOf, IsCurrent}
use Rattle.state_laws.specs.Outline.{outline}
use Rattle.state_laws.specs.Agreement.{Opening, Agrees, IsTrueTo, IsHeld, IsHeldNow, is_fault, TakesMount}
use Rattle.state_laws.proofs.Outline.{known-outline, count-outline, outline_opened}
use Rattle.state_laws.proofs.Later.{count_more, agrees_later}

-- a key of an array that isn't there yet is nobody's
module _ (h : History) (info : ArrayInfo) (opening : IsLegalOpening h info) where
  abbrev text : List ℕ
  text = home_text info.home (length h + 1)

  apart_by : (o : Option Known) (l : Known) → o ≡ Some l → IsApartFrom text o → AreApart text (keys_text l)
  apart_by None l is apart = absurd (none_is_none l is)
  apart_by (Some k) l is apart = subst (λ m. AreApart text (keys_text m)) (some_inj k l is) apart

  nobodys : (name : List ℕ) (a : ℕ) (l : Known) (rest : List ℕ) → known_after h a ≡ Some l → text ++ name ≢ keys_text l ++ rest
  nobodys name a l rest is = apart_texts text (keys_text l) name rest (apart_by (known_after h a) l is (opening.alone a))

  metadata_of : (l : Known) (o : Option (List ℕ)) (key : List ℕ) → option_map (λ name. keys_text l ++ name) o ≡ Some key → (rest : List ℕ) × (keys_text l ++ rest ≡ key)
  metadata_of l None key is = absurd (none_is_none key is)
  metadata_of l (Some name) key is = (name, some_inj (keys_text l ++ name) key is)

  -- so the store has there what it had at the start
  pub fresh_key : (start contents : Contents) (name : List ℕ) → RepresentsHistory contents start h → finmap.get contents (text ++ name) ≡ finmap.get start (text ++ name)
  fresh_key start contents name represents =
      represents.others (text ++ name)
      (λ d l changed named. nobodys name d.array l (chunk_name (form_of l.info.home) d.index) changed.known (sym (key_is h d l (text ++ name) changed.known named)))
      (λ a l has. let rest = metadata_of l (metadata_name (form_of l.info.home)) (text ++ name) has.named in nobodys name a l rest.0 has.known (sym rest.1))

-- one opening more
module _ (opening : Opening) (store next : StoreSeen) (log : Log) (owner : ℕ) (info : ArrayInfo) (local : Option SnapshotCells) (agrees : Agrees opening store log) (is_opening_of : IsLegalOpening log.events info) where
  abbrev h : History
  h = log.events

  abbrev e : Event
  e = opened_event owner info

  abbrev later : History
  later = h ++ e ∷ []

  -- no array has the number yet
  unknown : (k : Known) → known_after h info.number ≡ Some k → ⊥
  unknown k is =
      let below = known_below finmap.empty info.number (outline h) agrees.outline k (known-outline info.number h ∙ is) in
      let count = count-outline h in
      let number = is_opening_of.number in
      absurd (omega arith)

  other : (a : ℕ) (k : Known) → known_after h a ≡ Some k → (info.number == a) ≡ false
  other a k is = elim (true_or_false (info.number == a)) [
    | inl t ↦ absurd (unknown k (ap (known_after h) (eqb-true info.number a t) ∙ is))
    | inr f ↦ f
  ]

  stays : (a : ℕ) (k : Known) → known_after h a ≡ Some k → known_after later a ≡ Some k
  stays a k is = known_after-more h e a ∙ ap (λ b. cond b (Some (opened_as h info)) (known_after h a)) (other a k is) ∙ is

  quiet : (c : Chunk) (k : Known) → known_after h c.array ≡ Some k → touches h e c ≡ false
  quiet c k is = other c.array k is

  -- an array that is known then was known before, or is the new one
  split_by : (a : ℕ) (k : Known) (b : Bool) → (info.number == a) ≡ b → cond b (Some (opened_as h info)) (known_after h a) ≡ Some k → (known_after h a ≡ Some k) ⊎ ((info.number ≡ a) × (opened_as h info ≡ k))
  split_by a k true test is = inr (eqb-true info.number a test, some_inj (opened_as h info) k is)
  split_by a k false test is = inl is

  split : (a : ℕ) (k : Known) → known_after later a ≡ Some k → (known_after h a ≡ Some k) ⊎ ((info.number ≡ a) × (opened_as h info ≡ k))
  split a k is = split_by a k (info.number == a) refl (sym (known_after-more h e a) ∙ is)

  get_front : {A : Type 0} (xs ys : List A) (n : ℕ) → n < length xs → slice_get (xs ++ ys) n ≡ slice_get xs n
  get_front [] ys n lt = absurd (omega arith)
  get_front (x ∷ xs) ys zero lt = refl
  get_front (x ∷ xs) ys (suc n) lt = get_front xs ys n (omega arith)

  get_last : {A : Type 0} (xs : List A) (x : A) → slice_get (xs ++ x ∷ []) (length xs) ≡ Some x
  get_last [] x = refl
  get_last (y ∷ xs) x = get_last xs x

  abbrev log_later : Log
  log_later = record log { events = later; locals = log.locals ++ local ∷ [] }

  held_before : (a : ℕ) (k : Known) → known_after h a ≡ Some k → cells_held log_later a ≡ cells_held log a
  held_before a k is =
      let below = known_below finmap.empty a (outline h) agrees.outline k (known-outline a h ∙ is) in
      let count = count-outline h in
      let same = agrees.count in
      ap (λ o. option_map_or (λ cells. cells) o None) (get_front log.locals (local ∷ []) a (omega arith))

  held_new : cells_held log_later info.number ≡ local
  held_new =
      let number : info.number ≡ length log.locals = is_opening_of.number ∙ sym agrees.count in
      ap (λ n. option_map_or (λ cells. cells) (slice_get (log.locals ++ local ∷ []) n) None) number ∙ ap (λ o. option_map_or (λ cells. cells) o None) (get_last log.locals local)

  -- what is owed for a new local array: its cells
  abbrev pub HoldsCells : Type 0
  HoldsCells = is_local info.home ≡ true → (snapshot : SnapshotCells) × (local ≡ Some snapshot) × AreCellsOf (opened_as h info) snapshot × (snapshot.generation ≡ length h + 1)
      × ((start : Contents) (index : List ℕ) → opening.store.contents ≡ Some start → IsLegal start later → IsIndexOf info index → IsCurrent start later (opened_as h info) (record { array = info.number; index = index }) snapshot)

  -- and for what is done to a store that tells its contents
  abbrev pub IsEnteredIn : Contents → Contents → Type 0
  IsEnteredIn start old = (new : Contents) × (next.contents ≡ Some new) × IsApplied start h e old new × IsCounted start opening.store.changes next.changes later

  held_by : HoldsCells → (a : ℕ) (k : Known) → is_local k.info.home ≡ true → (known_after h a ≡ Some k) ⊎ ((info.number ≡ a) × (opened_as h info ≡ k))
      → ((known_after h a ≡ Some k) × (cells_held log_later a ≡ cells_held log a)) ⊎ (IsHeld log_later a k × ((start : Contents) → opening.store.contents ≡ Some start → IsLegal start later → IsHeldNow start log_later a k))
  held_by holds a k is (inl old) = inl (old, held_before a k old)
  held_by holds a k is (inr new) =
      let cells = holds (ap (λ (l : Known). is_local l.info.home) new.1 ∙ is) in
      let there : cells_held log_later a ≡ Some cells.0 = ap (cells_held log_later) (sym new.0) ∙ held_new ∙ cells.1 in
      let held : IsHeld log_later a k = record { snapshot = cells.0; held = there; cells = subst (λ l. AreCellsOf l cells.0) new.1 cells.2; generation = λ index valid. cells.3 ∙ sym (generation_touched h e (record { array = a; index = index }) (eq-eqb info.number a new.0)) } in
      inr (
        held,
        λ start told legal. (
          held,
          λ index valid.
              subst (λ l. IsCurrent start later l (record { array = a; index = index }) cells.0) new.1
              (subst (λ n. IsCurrent start later (opened_as h info) (record { array = n; index = index }) cells.0) new.0
              (cells.4 start index told legal (subst (λ (l : Known). IsIndexOf l.info index) (sym new.1) valid))),
        ),
      )

  pub agrees_opened : IsFrame store next → next.faults ≤ store.faults → ((m : List ℕ) → mount_of info.home ≡ Some m → TakesMount next.names m) → HoldsCells
      → ((start : Contents) → opening.store.contents ≡ Some start → (true_to : IsTrueTo start opening store log) → IsEnteredIn start true_to.contents) → Agrees opening next log_later
  agrees_opened frame steady takes holds entered =
      agrees_later h e stays quiet opening store next log (log.locals ++ local ∷ []) refl agrees (record {
        frame = frame;
        faults =
            let old = agrees.faults in
            let up = frame.faults in
            let same : count_by is_fault later ≡ count_by is_fault h + 0 = count_more is_fault h e in
            omega arith;
        told = λ rose.
            let old = agrees.told (omega (arith, rose, steady)) in
            let same : count_by is_fault later ≡ count_by is_fault h + 0 = count_more is_fault h e in
            omega (arith, old, same);
        count =
            let old = agrees.count in
            let longer : length (log.locals ++ local ∷ []) ≡ length log.locals + 1 = simp length-append in
            let more : count_by is_opening later ≡ count_by is_opening h + 1 = count_more is_opening h e in
            omega arith;
        outline = outline_opened h owner info agrees.outline is_opening_of;
        numbered = opening_numbers_none h e info log.generations refl;
        mounts = λ a k m is on. elim (split a k is) [
          | inl old ↦ subst (λ names. TakesMount names m) (sym frame.names) (agrees.mounts a k m old on)
          | inr new ↦ takes m (ap (λ (l : Known). mount_of l.info.home) new.1 ∙ on)
        ];
        held = λ a k is on. held_by holds a k on (split a k is);
        done = λ start told true_to.
            let done = entered start told true_to in
            (done.0, done.1, legal_more start h e true_to.legal is_opening_of, done.2, done.3);
      })
