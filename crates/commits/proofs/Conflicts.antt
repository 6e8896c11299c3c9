-- Marks and conflicts.
use Rattle.std.proofs.Common.{◌≡◌, ◌<◌, ◌≤◌, ℕ, zero, suc, List, [], ◌∷◌, map, true, false, Option, Some, None, inl, inr, refl, sym, ap, ◌∙◌, arith}
use Rattle.std.specs.Prelude.{IsTrue, Contains}
use Rattle.std.specs.FinMap as finmap
use Rattle.std.specs.List.{AllByRecursion}
use Rattle.stack_driver.specs.Targets.{Cell}
use Rattle.history.specs.History.{History}
use Rattle.history.specs.Chunks.{Chunk, chunk_of, key_of}
use Rattle.history.specs.Commit.{HasConflict, HasNoConflict, IsConflict, Key, Transaction, is_before, read_generation}
use Rattle.history.specs.Generations.{HasKey, IsGenerationTable}
use Rattle.history.specs.Legal.{IsLegal}
use Rattle.history.specs.Reads.{first_reads, footprint_of}
use Rattle.history.specs.Touch.{generation_of}
use Rattle.history.proofs.Laws.{conflict_after_mark, generation_by_table, never_itself, other_way}
use Rattle.chunk_plans.specs.Log.{Log}
use Rattle.chunk_plans.specs.Outline.{outline}
use Rattle.chunk_plans.proofs.Laws.{not_risen, one_chunk_in, stay_in}
use Rattle.commits.specs.Caused.{IsMetChange}
use Rattle.commits.specs.declared.late.Late.{Late}
use Rattle.chunk_plans.specs.declared.mark.Mark.{Mark}
use Rattle.commits.specs.Late.{IsFirstLate, IsGenerationIn, IsLate, IsStill}
use Rattle.commits.specs.Prepared.{AreMarks, HasMark, IsMarkOf, WasReadAt}
use Rattle.chunk_plans.specs.Rising.{AreRising}

some_key : (o : Option Key) (k l : Key) → o ≡ Some k → o ≡ Some l → k ≡ l
some_key o k l a b = let both : Some k ≡ Some l = sym a ∙ b in cc

module _ (log : Log) (t : Transaction) (outlined : IsLegal finmap.empty (outline log.events)) (table : IsGenerationTable log.events log.generations) where
  abbrev events : History
  events = log.events

  -- the number that the table tells is the chunk's generation
  now_is : (c : Chunk) (key : List ℕ) (n : ℕ) → HasKey events c key → IsGenerationIn log key n → n ≡ generation_of events c
  now_is c key n has is = is c has ∙ sym (generation_by_table events log.generations c key (one_chunk_in events outlined) table has)

  -- a chunk whose mark is still has no conflict
  still : (m : Mark) (c : Chunk) → IsMarkOf events t m → IsStill log m → HasKey events c m.key → HasConflict events t c → ⊥
  still m c is at has conflict =
      let same : is.chunk ≡ c = one_chunk_in events outlined is.chunk c m.key is.has has in
      let now : at.now ≡ generation_of events c = now_is c m.key at.now has at.is in
      let read : m.generation ≡ read_generation events t.marks c = is.generation ∙ ap (read_generation events t.marks) same in
      let late = conflict.touched in
      let low = at.not_later in
      omega (arith, now, read, late, low)

  none_by : (ms : List Mark) → AllByRecursion (IsMarkOf events t) ms → IsFirstLate log ms None → (c : Chunk) → HasMark events c ms → HasConflict events t c → ⊥
  none_by [] all none c has conflict = has
  none_by (m ∷ ms) all none c (inl here) conflict = still m c all.0 none.0 here conflict
  none_by (m ∷ ms) all none c (inr more) conflict = none_by ms all.1 none.1 c more conflict

  -- where no mark is late there is no conflict
  pub no_conflict : (marks : List Mark) → AreMarks events t marks → (IsTrue t.mode.repeatable_read → IsFirstLate log marks None) → HasNoConflict events t
  no_conflict marks are none asked =
      none_later (first_reads [] t.ops)
      (λ c among more. none_by marks are.each (none asked) c (are.all c among) (record { asked = asked; was_read = among; touched = more }))
    where
      none_later : (xs : List Cell) → ((c : Chunk) → Contains (map (chunk_of events) xs) c → read_generation events t.marks c < generation_of events c → ⊥)
          → AllByRecursion (λ x. generation_of events (chunk_of events x) ≤ read_generation events t.marks (chunk_of events x)) xs
      none_later [] never = tt
      none_later (x ∷ xs) never = (
        let c = chunk_of events x in not_risen (read_generation events t.marks c) (generation_of events c) (never c (zero, omega arith, refl)),
        none_later xs (λ c among. never c (suc among.0, (let less = among.1 in omega (arith, less)), among.2)),
      )

  -- the first late mark, and that no conflict has a lesser key
  record IsLeastLate (l : Late) (ms : List Mark) : Type 0 where
    mark : Mark
    is : IsMarkOf events t mark
    late : IsLate log mark l
    least : (c : Chunk) → HasMark events c ms → HasConflict events t c → (k : Key) → key_of events c ≡ Some k → is_before k l.key ≡ false

  -- a key of a mark behind one that stands before all
  behind : (low : Key) (c : Chunk) (k : Key) (ms : List Mark) → AllByRecursion (λ other. is_before low other ≡ true) (map (λ (m : Mark). m.key) ms) → HasMark events c ms → key_of events c ≡ Some k → is_before k low ≡ false
  behind low c k [] all has named = absurd has
  behind low c k (m ∷ ms) all (inl here) named = ap (λ j. is_before j low) (some_key (key_of events c) k m.key named here.named) ∙ other_way low m.key all.0
  behind low c k (m ∷ ms) all (inr more) named = behind low c k ms all.1 more named

  least_by : (l : Late) (ms : List Mark) → AllByRecursion (IsMarkOf events t) ms → AreRising (map (λ (m : Mark). m.key) ms) → IsFirstLate log ms (Some l) → IsLeastLate l ms
  least_by l [] all rising found = absurd found
  least_by l (m ∷ ms) all rising (inl late) = record {
    mark = m;
    is = all.0;
    late = late;
    least = λ c has conflict k named. elim has [
      | inl here ↦ ap (λ j. is_before j l.key) (some_key (key_of events c) k m.key named here.named ∙ sym late.key) ∙ never_itself l.key
      | inr more ↦ ap (is_before k) late.key ∙ behind m.key c k ms rising.0 more named
    ];
  }
  least_by l (m ∷ ms) all rising (inr rest) =
      let there = least_by l ms all.1 rising.1 rest.1 in
      record {
        mark = there.mark;
        is = there.is;
        late = there.late;
        least = λ c has conflict k named. elim has [ inl here ↦ absurd (still m c all.0 rest.0 here conflict) | inr more ↦ there.least c more conflict k named ];
      }

  -- the first late mark is the conflict
  pub conflict_of : (marks : List Mark) (l : Late) → AreMarks events t marks → IsTrue t.mode.repeatable_read → IsFirstLate log marks (Some l) → IsConflict events t l.key l.read l.now
  conflict_of marks l are asked found =
      let least = least_by l marks are.each are.sorted found in
      let now : l.now ≡ generation_of events least.is.chunk = now_is least.is.chunk least.mark.key l.now least.is.has least.late.is in
      let read : l.read ≡ read_generation events t.marks least.is.chunk = least.late.read ∙ least.is.generation in
      record {
        chunk = least.is.chunk;
        conflict = record {
          asked = asked;
          was_read = least.is.was_read;
          touched = let later = least.late.later in let is = least.is.generation in omega (arith, later, now, is);
        };
        named = least.is.has.named ∙ ap Some (sym least.late.key);
        read_at = read;
        now_at = now;
        least = λ c conflict k named. least.least c (are.all c conflict.was_read) conflict k named;
      }

  -- and real, where what was read was read at its mark
  pub met_of : (marks : List Mark) (l : Late) → AreMarks events t marks → ((c : Chunk) → Contains (footprint_of events t.ops) c → WasReadAt events t c) → IsTrue t.mode.repeatable_read → IsFirstLate log marks (Some l)
      → IsMetChange events t l.key l.read l.now
  met_of marks l are was_read asked found =
      let is = conflict_of marks l are asked found in
      let at = was_read is.chunk is.conflict.was_read in
      record { conflict = is; marked = at.marked; real = conflict_after_mark events t l.key l.read l.now (stay_in events outlined) is at.array at.known }
