-- A state agrees with its opening behind a failed store call, and behind a look into the cache.
use Rattle.std.proofs.Common.{◌≡◌, ℕ, ◌+◌, ◌<◌, ◌≤◌, ◌⊎◌, inl, inr, List, [], ◌∷◌, ◌++◌, length, Bool, true, false, cond, Option, Some, refl, sym, ap, subst, ◌∙◌, All, arith}
use Rattle.std.proofs.lemmas.Grind.{fold-append}
use Rattle.std.specs.Prelude.{count_by, nat_lt}
use Rattle.std.specs.FinMap as finmap
use Rattle.std.proofs.lemmas.Bool.{ltb-true, ltb-false}
use Rattle.cells.proofs.Laws.{true_or_false}
use Rattle.std.proofs.lemmas.List.Elements.{All-weaker}
use Rattle.cells.specs.Elements.{word_at}
use Rattle.chunk_cache.specs.Snapshot.{SnapshotCells}
use Rattle.kv_face.specs.Store.{Contents}
use Rattle.history.specs.declared.event.Event.{Event}
use Rattle.history.specs.History.{History}
use Rattle.history.specs.Arrays.{Known, known_after, is_local}
use Rattle.history.specs.Counting.{IsCounted}
use Rattle.history.specs.Generations.{IsGenerationTable, IsNumbered}
use Rattle.history.specs.Chunks.{Chunk, key_in}
use Rattle.history.specs.Legal.{IsLegal, is_opening}
use Rattle.history.specs.Own.{fault}
use Rattle.history.specs.ReadRows.{mount_of}
use Rattle.history.specs.Store.{RepresentsHistory}
use Rattle.history.specs.Stored.{IsApplied}
use Rattle.history.specs.Touch.{touches, generation_of}
use Rattle.history.proofs.Laws.{fault_applied, counted_same, fault_numbers_none, some_inj, known_after-more, legal_step, legal_more}
use Rattle.history.proofs.Laws.{represents_event, snapshot_longer, generation_untouched}
use Rattle.state_laws.specs.Seen.{StoreSeen, IsFrame, IsQuiet, IsRead}
use Rattle.state_laws.specs.Log.{Log, cells_held}
use Rattle.state_laws.specs.Outline.{outline}
use Rattle.state_laws.specs.Kept.{IsKept, IsKeptNow, IsCurrent}
use Rattle.state_laws.specs.Agreement.{Opening, Agrees, IsTrueTo, IsHeld, IsHeldNow, is_fault, TakesMount}
use Rattle.state_laws.proofs.Outline.{outline_fault, numbered_more}

pub count_more : (f : Event → Bool) (events : History) (e : Event) → count_by f (events ++ e ∷ []) ≡ count_by f events + cond (f e) 1 0
count_more f events e = fold-append (λ a x. a + cond {A = ℕ} (f x) 1 0) 0 events (e ∷ [])

pub frame_then : (a b c : StoreSeen) → IsFrame a b → IsFrame b c → IsFrame a c
frame_then a b c first second = record {
  faults = let x = first.faults in let y = second.faults in omega arith;
  counts = record { each = λ k. let x = first.counts.each k in let y = second.counts.each k in omega arith };
  prefixes = second.prefixes ∙ first.prefixes;
  names = second.names ∙ first.names;
}

-- a count that didn't rise
pub not_risen : (old new : ℕ) → (old < new → ⊥) → new ≤ old
not_risen old new never = elim (true_or_false (nat_lt old new)) [ inl more ↦ absurd (never (ltb-true old new more)) | inr less ↦ ltb-false old new less ]

pub read_then : (a b c : StoreSeen) → IsRead a b → IsRead b c → IsRead a c
read_then a b c first second = record {
  frame = frame_then a b c first.frame second.frame;
  contents = second.contents ∙ first.contents;
  standing = second.standing ∙ first.standing;
  changes = second.changes ∙ first.changes;
}

pub quiet_read : (a b : StoreSeen) → IsRead a b → IsQuiet a b
quiet_read a b is = record { frame = is.frame; contents = is.contents; changes = is.changes }

-- one event more, which touches no chunk of an array that was there
module _ (h : History) (e : Event) (stays : (a : ℕ) (k : Known) → known_after h a ≡ Some k → known_after (h ++ e ∷ []) a ≡ Some k) (quiet : (c : Chunk) (k : Known) → known_after h c.array ≡ Some k → touches h e c ≡ false) where
  abbrev later : History
  later = h ++ e ∷ []

  kept_later : (entry : List ℕ × SnapshotCells) → IsKept h entry → IsKept later entry
  kept_later entry is =
      let known = stays is.chunk.array is.array is.known in
      record {
        chunk = is.chunk;
        array = is.array;
        known = known;
        stored = is.stored;
        valid = is.valid;
        named = ap (λ o. key_in o is.chunk) known ∙ sym (ap (λ o. key_in o is.chunk) is.known) ∙ is.named;
        cells = is.cells;
        generation = is.generation ∙ sym (generation_untouched h e is.chunk (quiet is.chunk is.array is.known));
      }

  current_later : (start : Contents) (k : Known) (c : Chunk) (snapshot : SnapshotCells) → IsLegal start later → IsCurrent start h k c snapshot → IsCurrent start later k c snapshot
  current_later start k c snapshot legal is =
      let now = is.current ∙ sym (generation_untouched h e c (quiet c k is.known)) in
      let more = snapshot_longer start h (e ∷ []) k c snapshot.generation (word_at snapshot.cells) legal is now in
      subst (λ l. IsCurrent start later l c snapshot) (some_inj more.0 k (sym more.2.known ∙ stays c.array k is.known)) more.2

  kept_now_later : (start : Contents) (entry : List ℕ × SnapshotCells) → IsLegal start later → IsKeptNow start h entry → IsKeptNow start later entry
  unfolding kept_later
  kept_now_later start entry legal is = (kept_later entry is.0, current_later start is.0.array is.0.chunk entry.1 legal is.1)

  module _ (opening : Opening) (store next : StoreSeen) (log : Log) (locals : List (Option SnapshotCells)) (events : log.events ≡ h) where
    abbrev log_later : Log
    log_later = record log { events = later; locals = locals }

    -- a local array was there, or is new
    abbrev pub Held : ℕ → Known → Type 0
    Held a k = ((known_after h a ≡ Some k) × (cells_held log_later a ≡ cells_held log a)) ⊎ (IsHeld log_later a k × ((start : Contents) → opening.store.contents ≡ Some start → IsLegal start later → IsHeldNow start log_later a k))

    -- what the event does to a store that tells its contents
    abbrev pub IsDoneTo : Contents → Contents → Type 0
    IsDoneTo start old =
        (new : Contents) × (next.contents ≡ Some new) × IsLegal start later × IsApplied start h e old new × IsCounted start opening.store.changes next.changes later

    -- a local array that was there has its cells still
    held_old : (a : ℕ) (k : Known) → known_after h a ≡ Some k → cells_held log_later a ≡ cells_held log a → IsHeld log a k → IsHeld log_later a k
    held_old a k known same was = record {
      snapshot = was.snapshot;
      held = same ∙ was.held;
      cells = was.cells;
      generation = λ index valid.
          let c : Chunk = record { array = a; index = index } in
          was.generation index valid ∙ ap (λ g. generation_of g c) events ∙ sym (generation_untouched h e c (quiet c k known));
    }

    held_later : (a : ℕ) (k : Known) → Agrees opening store log → is_local k.info.home ≡ true → Held a k → IsHeld log_later a k
    held_later a k is local (inl old) =
        held_old a k old.0 old.1 (is.held a k (ap (λ g. known_after g a) events ∙ old.0) local)
    held_later a k is local (inr new) = new.0

    held_now_later : (start : Contents) (a : ℕ) (k : Known) → IsTrueTo start opening store log → opening.store.contents ≡ Some start → IsLegal start later → is_local k.info.home ≡ true → Held a k → IsHeldNow start log_later a k
    unfolding held_old
    held_now_later start a k is told legal local (inl old) =
        let was = is.held a k (ap (λ g. known_after g a) events ∙ old.0) local in (
          held_old a k old.0 old.1 was.0,
          λ index valid. current_later start k (record { array = a; index = index }) was.0.snapshot legal (subst (λ g. IsCurrent start g k (record { array = a; index = index }) was.0.snapshot) events (was.1 index valid)),
        )
    held_now_later start a k is told legal local (inr new) = new.1 start told legal

    true_later : (start : Contents) → opening.store.contents ≡ Some start → (is : IsTrueTo start opening store log) → IsDoneTo start is.contents → ((a : ℕ) (k : Known) → known_after later a ≡ Some k → is_local k.info.home ≡ true → Held a k) → IsTrueTo start opening next log_later
    true_later start told is done held =
        let legal = done.2 in
        record {
          legal = legal;
          contents = done.0;
          told = done.1;
          represents = let steps = legal_step start h e legal in represents_event start h e steps.0 steps.1 is.contents done.0 (subst (λ g. RepresentsHistory is.contents start g) events is.represents) done.3;
          counted = done.4;
          kept = All-weaker (IsKeptNow start h) (IsKeptNow start later) (λ entry k. kept_now_later start entry legal k) log.cache.entries (subst (λ g. All (IsKeptNow start g) log.cache.entries) events is.kept);
          held = λ a k known local. held_now_later start a k is told legal local (held a k known local);
        }

    -- what is owed for the event: the frame, the counts, and what it does
    pub record IsOwed : Type 0 where
      pub frame : IsFrame store next
      pub faults : opening.store.faults + count_by is_fault later ≤ next.faults
      pub told : opening.store.faults < next.faults → 0 < count_by is_fault later
      pub count : length locals ≡ count_by is_opening later
      pub outline : IsLegal finmap.empty (outline later)
      pub numbered : IsNumbered h e log.generations log.generations
      pub mounts : (a : ℕ) (k : Known) (mount : List ℕ) → known_after later a ≡ Some k → mount_of k.info.home ≡ Some mount → TakesMount next.names mount
      pub held : (a : ℕ) (k : Known) → known_after later a ≡ Some k → is_local k.info.home ≡ true → Held a k
      pub done : (start : Contents) → opening.store.contents ≡ Some start → (is : IsTrueTo start opening store log) → IsDoneTo start is.contents

    pub agrees_later : Agrees opening store log → IsOwed → Agrees opening next log_later
    agrees_later is owed = record {
      frame = frame_then opening.store store next is.frame owed.frame;
      faults = owed.faults;
      told = owed.told;
      limit = is.limit;
      count = owed.count;
      outline = owed.outline;
      generations = numbered_more h e log.generations log.generations owed.outline (subst (λ g. IsGenerationTable g log.generations) events is.generations) owed.numbered;
      mounts = owed.mounts;
      kept = All-weaker (IsKept h) (IsKept later) kept_later log.cache.entries (subst (λ g. All (IsKept g) log.cache.entries) events is.kept);
      held = λ a k known local. held_later a k is local (owed.held a k known local);
      holds = λ start told. true_later start told (is.holds start told) (owed.done start told (is.holds start told)) owed.held;
    }

-- a failed store call
pub agrees_fault : (opening : Opening) (store next : StoreSeen) (log : Log) (owner : ℕ) (mount : List ℕ) → IsQuiet store next → store.faults < next.faults → Agrees opening store log
    → Agrees opening next (record log { events = log.events ++ fault owner mount ∷ [] })
agrees_fault opening store next log owner mount read rose is =
    let h = log.events in
    let e = fault owner mount in
    let same : (a : ℕ) → known_after (h ++ e ∷ []) a ≡ known_after h a = known_after-more h e in
    agrees_later h e (λ a k known. same a ∙ known) (λ c k known. refl) opening store next log log.locals refl is (record {
      frame = read.frame;
      faults =
          let old = is.faults in
          let more : count_by is_fault (h ++ e ∷ []) ≡ count_by is_fault h + 1 = count_more is_fault h e in
          omega arith;
      told = λ more. let one : count_by is_fault (h ++ e ∷ []) ≡ count_by is_fault h + 1 = count_more is_fault h e in omega (arith, one);
      count = is.count ∙ sym (count_more is_opening h e ∙ plus_none (count_by is_opening h));
      outline = outline_fault h owner mount is.outline;
      numbered = fault_numbers_none h e mount log.generations refl;
      mounts = λ a k m known on. subst (λ names. TakesMount names m) (sym read.frame.names) (is.mounts a k m (sym (same a) ∙ known) on);
      held = λ a k known local. inl (sym (same a) ∙ known, refl);
      done = λ start told true_to. (
        true_to.contents,
        read.contents ∙ true_to.told,
        legal_more start h e true_to.legal tt,
        fault_applied start true_to.contents h owner mount,
        counted_same start opening.store.changes store.changes next.changes h e true_to.counted refl read.changes,
      );
    })
  where
    plus_none : (n : ℕ) → n + 0 ≡ n
    plus_none n = omega arith
