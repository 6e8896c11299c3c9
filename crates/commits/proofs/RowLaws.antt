-- A commit's answer as a row of a session's step.
use Rattle.std.proofs.Common.{◌≡◌, ℕ, suc, ◌+◌, ◌<◌, List, [], ◌∷◌, ◌++◌, length, take, Bool, true, false, cond, Result, Ok, Err, Option, Some, None, inl, inr, refl, sym, ap, subst, ◌∙◌, arith}
use Rattle.std.specs.Prelude.{IsTrue, ◌||◌, nat_eq, nat_le}
use Rattle.std.specs.List.{list_all, starts_with}
use Rattle.std.proofs.lemmas.List.{append_assoc, append-nil, length-append}
use Rattle.kv_face.specs.Store.{Contents}
use Rattle.history.specs.declared.event.Event.{Event}
use Rattle.history.specs.declared.event.Mode.{Mode}
use Rattle.history.specs.Answers as body
use Rattle.history.specs.History.{History}
use Rattle.history.specs.Arrays.{known_after}
use Rattle.history.specs.Commit.{CommitTogether, Fixed, HasNoConflict, Key, Transaction, are_together, changed_keys, commit_events, done, done_each, kept_ops, stored_keys}
use Rattle.history.specs.CommitRows.{HasNoDamage, IsChangedOn, IsCommit, IsPart, MayCommit, conflicts, is_damaged, is_done, is_failed, is_shrunk, is_split, is_wanting, left_by, own_after, own_part}
use Rattle.history.specs.Legal.{IsLegal, IsLegalDone}
use Rattle.history.specs.Own.{fault, numbered, numbers_of}
use Rattle.history.specs.Staged.{AreInShapes}
use Rattle.history.proofs.Laws.{commit_keeps_legal, in_shapes, legal_step}
use Rattle.chunk_plans.specs.Agreement.{Opening, Agrees}
use Rattle.chunk_plans.specs.Log.{Log}
use Rattle.chunk_plans.specs.Seen.{StoreSeen}
use Rattle.chunk_plans.specs.declared.write.ChunkWrite.{ChunkWrite}
use Rattle.commits.specs.declared.late.Late.{Late}
use Rattle.commits.specs.declared.outside.Outside.{Outside}
use Rattle.commits.specs.declared.prepared.Prepared.{Prepared}
use Rattle.commits.specs.declared.refused.CommitRefused.{CommitRefused}
use Rattle.commits.specs.declared.refused.CommitRefused.TheVariants as refused
use Rattle.commits.specs.Answers.{IsCommitRow, IsCommitted, Leaves, body_of}
use Rattle.commits.specs.Keyed.{each_event}
use Rattle.commits.specs.Late.{IsFirstLate}
use Rattle.commits.specs.Made.{IsMade, whole_event}
use Rattle.commits.specs.Outside.{IsFirstOutside}
use Rattle.commits.specs.Planning.{IsAmongOn, write_arrays}
use Rattle.commits.specs.Prepared.{AreWrites, write_keys}
use Rattle.commits.specs.Right.{IsRightCommit}
use Rattle.commits.specs.Ways.{IsOpen, IsUntouched, IsWay}
use Rattle.commits.specs.Writes.{stored_write_keys}
use Rattle.commits.proofs.ChangedKeys.{stored_keys_are}
use Rattle.commits.proofs.Conflicts.{conflict_of, no_conflict}
use Rattle.commits.proofs.DamageLaws.{damaged_of, no_damage}
use Rattle.commits.proofs.MadeEvents.{among_same, changed_on, each_events, known_each, known_whole, length_take, numbered_one, take_front, take_numbered, together_as, whole_events}
use Rattle.commits.proofs.ShrunkLaws.{not_shrunk, shrunk_of}

all_begin : (keys : List Key) → list_all (λ key. starts_with nat_eq key []) keys ≡ true
all_begin [] = refl
all_begin (k ∷ keys) = all_begin keys

module _ (opening : Opening) (start : Contents) (store : StoreSeen) (log : Log) (owner : ℕ) (t : Transaction) (p : Prepared) (agrees : Agrees opening store log) (told : opening.store.contents ≡ Some start) (is : IsCommitted start log t p)
    (writes : AreWrites log.events p.ops p.writes.items) where
  abbrev fixed : Fixed
  fixed = record { start = start; prefixes = opening.store.prefixes }

  abbrev events : History
  events = log.events

  abbrev ws : List ChunkWrite
  ws = p.writes.items

  legal : IsLegal start events
  legal = (agrees.holds start told).legal

  are : AreWrites events t.ops ws
  are = subst (λ os. AreWrites events os ws) is.prepared.ops writes

  asked_same : IsTrue t.mode.repeatable_read → IsTrue p.mode.repeatable_read
  asked_same = subst (λ (m : Mode). IsTrue m.repeatable_read) (sym is.prepared.mode)

  pub free_of : IsUntouched log p → HasNoConflict events t
  free_of untouched = no_conflict log t agrees.outline agrees.generations p.footprint.now is.prepared.marks (λ asked. untouched (asked_same asked))

  pub shaped_of : IsFirstOutside events ws None → AreInShapes events t.ops
  shaped_of none = in_shapes start events t legal is.known (not_shrunk events t agrees.outline ws are none)

  together_is : (b : Bool) → are_together store.prefixes (stored_write_keys events ws) ≡ b → are_together opening.store.prefixes (stored_keys events t.ops) ≡ b
  together_is b e = together_as opening start store log owner t p agrees is.prepared.line is.prepared.mode is.prepared.ops is.prepared.reads are b e

  -- the operations may follow
  pub done_legal_of : IsOpen log p → IsLegalDone start events p.ops
  done_legal_of is_open =
      let one : Fixed = record { start = start; prefixes = [] ∷ [] } in
      let together : are_together ([] ∷ []) (stored_keys events t.ops) ≡ true = second (nat_le (length (stored_keys events t.ops)) 1) (ap (λ b. b || false) (all_begin (stored_keys events t.ops))) in
      let event : commit_events one events owner t ≡ done owner t (kept_ops t) None ∷ [] = ap (λ b. cond b (done owner t (kept_ops t) None ∷ []) (done_each owner t (kept_ops t) (changed_keys events t.ops))) together in
      let kept = commit_keeps_legal one events owner t legal is.reads (free_of is_open.untouched) is.staged (shaped_of is_open.within) in
      subst (IsLegalDone start events) (is.prepared.reads ∙ sym is.prepared.ops) (legal_step start events (done owner t (kept_ops t) None) (subst (λ es. IsLegal start (events ++ es)) event kept)).1
    where
      second : (a : Bool) {b : Bool} → b ≡ true → (a || b) ≡ true
      second true {b} h = refl
      second false {b} h = h

  pub right_of : IsOpen log p → IsRightCommit start log p.ops ws
  right_of is_open = record { legal = done_legal_of is_open; ready = is.ready }

  -- the refusals
  conflict_row : (l : Late) → IsTrue p.mode.repeatable_read → IsFirstLate log p.footprint.now (Some l) → IsCommit fixed owner events t None (body.conflict l.key l.read l.now) []
  conflict_row l asked found = conflicts (conflict_of log t agrees.outline agrees.generations p.footprint.now l is.prepared.marks (subst (λ (m : Mode). IsTrue m.repeatable_read) is.prepared.mode asked) found)

  shrunk_row : (o : Outside) → IsUntouched log p → IsFirstOutside events ws (Some o) → IsCommit fixed owner events t None (body.shrunk o.key o.now) []
  shrunk_row o untouched found = is_shrunk (free_of untouched) (shrunk_of events t agrees.outline ws are o found)

  split_row : (keys : ℕ) → IsOpen log p → are_together store.prefixes (stored_write_keys events ws) ≡ false → p.mode.atomic ≡ true → keys ≡ length (stored_write_keys events ws) → IsCommit fixed owner events t None (body.not_atomic keys) []
  split_row keys is_open apart atomic count =
      is_split (free_of is_open.untouched) (shaped_of is_open.within)
      (record { asked = ap (λ (m : Mode). m.atomic) (sym is.prepared.mode) ∙ atomic; apart = together_is false apart; count = count ∙ ap length (sym (stored_keys_are events t.ops ws are)) })

  none_own : (result : Result (List ℕ) CommitRefused) (left : Option Transaction) → IsCommit fixed owner events t left (body_of result) [] → Leaves t result left → IsCommitRow fixed owner events events t result
  none_own result left row stands = record { own = []; added = sym (append-nil events); left = left; row = inl row; stands = stands }

  -- a commit that is refused before it is made
  pub refused_row : (error : CommitRefused) → IsWay store.prefixes log p (Err error) → IsCommitRow fixed owner events events t (Err error)
  refused_row (refused.Conflict key read now) way = none_own (Err (refused.Conflict key read now)) None (conflict_row (record { key = key; read = read; now = now }) way.0 way.1) refl
  refused_row (refused.Shrunk key now) way = none_own (Err (refused.Shrunk key now)) None (shrunk_row (record { key = key; now = now }) way.0 way.1) refl
  refused_row (refused.NotAtomic keys) (is_open, apart, atomic, count) = none_own (Err (refused.NotAtomic keys)) None (split_row keys is_open apart atomic count) refl
  refused_row (refused.Damaged key cause) way = absurd way
  refused_row (refused.StoreFailed event done) way = absurd way
  refused_row refused.Memory way = record { own = []; added = sym (append-nil events); left = None; row = inr (refl, refl); stands = tt }

  -- the rows of a commit that is made
  module _ (is_open : IsOpen log p) (step : ℕ) (next : StoreSeen) (later : History) (all : List Event) (is_all : all ≡ commit_events fixed events owner t) (whole : IsTrue t.mode.atomic → CommitTogether fixed events t.ops)
      (one : CommitTogether fixed events t.ops → length all ≡ 1) (known : (count : ℕ) (a : ℕ) → known_after (events ++ take count all) a ≡ known_after events a) where
    may : MayCommit fixed events t
    may = record { no_conflict = free_of is_open.untouched; in_shapes = shaped_of is_open.within; whole = whole }

    module _ (own : List Event) (added : later ≡ events ++ own) where
      before_is : take (length events) later ≡ events
      before_is = ap (take (length events)) added ∙ take_front events own

      may_then : MayCommit fixed (take (length events) later) t
      may_then = subst (λ h. MayCommit fixed h t) (sym before_is) may

      own_is : own_after fixed owner later (length events) t ≡ numbered (length events + 1) all
      own_is = ap (λ h. numbered (length events + 1) (commit_events fixed h owner t)) before_is ∙ ap (numbered (length events + 1)) (sym is_all)

      part_is : (count : ℕ) → own_part fixed owner later (length events) t count ≡ numbered (length events + 1) (take count all)
      part_is count = ap (take count) own_is ∙ take_numbered (length events + 1) count all

      part_of : (count : ℕ) → count < length all → (0 < count → HasNoDamage fixed events t) → IsPart fixed owner (take (length events) later) t count
      part_of count fewer sound =
          subst (λ h. IsPart fixed owner h t count) (sym before_is)
          (record {
            may = may;
            fewer = subst (λ n. count < n) (ap length is_all) fewer;
            together = λ together. let single = one together in omega (arith, fewer, single);
            undamaged = sound;
          })

    done_row : (numbers : List ℕ) → (later ≡ events ++ all) → numbers ≡ numbers_of (numbered (length events + 1) all) → HasNoDamage fixed events t → IsCommitRow fixed owner events later t (Ok numbers)
    done_row numbers added counted sound = record {
      own = all;
      added = added;
      left = None;
      row =
          inl
          (subst (λ ns. IsCommit fixed owner later t None (body.committed ns) (numbered (length events + 1) all)) (sym counted)
          (subst (λ os. IsCommit fixed owner later t None (body.committed (numbers_of os)) os) (own_is all added)
          (is_done (length events) (may_then all added) (subst (λ h. HasNoDamage fixed h t) (sym (before_is all added)) sound))));
      stands = refl;
    }

    wanting_by : (count : ℕ) → count < length all → later ≡ events ++ take count all → (0 < count → HasNoDamage fixed events t) → IsCommitRow fixed owner events later t (Err refused.Memory)
    wanting_by count fewer added sound = record {
      own = take count all;
      added = added;
      left = left_by count t;
      row =
          inl
          (subst (IsCommit fixed owner later t (left_by count t) body.memory) (part_is (take count all) added count) (is_wanting (length events) count (part_of (take count all) added count fewer sound)));
      stands = tt;
    }

    failed_by : (count event : ℕ) (mount numbers : List ℕ) → count < length all → later ≡ (events ++ take count all) ++ fault owner mount ∷ [] → event ≡ length (events ++ take count all) + 1 → numbers ≡ numbers_of (numbered (length events + 1) (take count all))
        → (0 < count → HasNoDamage fixed events t) → IsAmongOn (events ++ take count all) (write_arrays ws) mount → IsCommitRow fixed owner events later t (Err (refused.StoreFailed event numbers))
    failed_by count event mount numbers fewer added number counted sound among = record {
      own = own;
      added = grown;
      left = left_by count t;
      row =
          inl
          (subst (λ ns. IsCommit fixed owner later t (left_by count t) (body.store_failed event ns None) (numbered (length events + 1) own)) (sym counted)
          (subst (λ n. IsCommit fixed owner later t (left_by count t) (body.store_failed n (numbers_of (numbered (length events + 1) (take count all))) None) (numbered (length events + 1) own)) (sym (number ∙ place))
          (subst (IsCommit fixed owner later t (left_by count t) (body.store_failed (length events + count + 1) (numbers_of (numbered (length events + 1) (take count all))) None)) (sym own_numbers)
          (subst (λ os. IsCommit fixed owner later t (left_by count t) (body.store_failed (length events + count + 1) (numbers_of os) None) (os ++ record { number = length events + count + 1; event = fault owner mount } ∷ [])) (part_is own grown count)
          (is_failed (length events) count mount (part_of own grown count fewer sound) changed)))));
      stands = ap (λ n. left_by n t) (sym long ∙ sym (ap length counted ∙ length_numbers (length events + 1) (take count all)));
    }
      where
        own : List Event
        own = take count all ++ fault owner mount ∷ []

        grown : later ≡ events ++ own
        grown = added ∙ append_assoc events (take count all) (fault owner mount ∷ [])

        long : length (take count all) ≡ count
        long = length_take count all (omega (arith, fewer))

        place : length (events ++ take count all) + 1 ≡ length events + count + 1
        place = let sum = length-append events (take count all) in omega (arith, sum, long)

        own_numbers : numbered (length events + 1) own ≡ numbered (length events + 1) (take count all) ++ record { number = length events + count + 1; event = fault owner mount } ∷ []
        own_numbers =
            numbered_one (length events + 1) (take count all) (fault owner mount) ∙ ap (λ n. numbered (length events + 1) (take count all) ++ record { number = n; event = fault owner mount } ∷ []) (let is = long in omega (arith, is))

        length_numbers : (n : ℕ) (es : List Event) → length (numbers_of (numbered n es)) ≡ length es
        length_numbers n [] = refl
        length_numbers n (e ∷ es) = ap suc (length_numbers (n + 1) es)

        changed : IsChangedOn (take (length events) later) t mount
        changed = subst (λ h. IsChangedOn h t mount) (sym (before_is own grown)) (changed_on events t ws mount are.each (among_same events (events ++ take count all) (write_arrays ws) mount (known count) among))

    -- what was made is a row
    pub made_row : (now : Log) → now.events ≡ later → (result : Result (List ℕ) CommitRefused) → IsMade owner store next log now step ws all result → IsCommitRow fixed owner events later t result
    made_row now same (Ok numbers) made =
        done_row numbers (sym same ∙ made.added) made.counted (no_damage opening start store log fixed t agrees told refl (length events + 1) step ws made.plans are is.ready made.planned)
    made_row now same (Err (refused.Conflict key read n)) made = absurd made
    made_row now same (Err (refused.Shrunk key n)) made = absurd made
    made_row now same (Err (refused.NotAtomic keys)) made = absurd made
    made_row now same (Err (refused.Damaged key cause)) made = record {
      own = [];
      added = sym same ∙ made.0 ∙ sym (append-nil events);
      left = Some t;
      row =
          inl
          (subst (λ h. IsCommit fixed owner h t (Some t) (body.damaged key cause) []) (sym (sym same ∙ made.0))
          (is_damaged may (damaged_of opening start store log fixed t agrees told refl key cause (length events + 1) step ws are is.ready made.1)));
      stands = refl;
    }
    made_row now same (Err (refused.StoreFailed event numbers)) made =
        failed_by made.count event made.failed.mount numbers made.fewer (sym same ∙ made.failed.added) made.failed.number made.counted
        (λ some. let there = made.planned some in no_damage opening start store log fixed t agrees told refl (length events + 1) step ws there.0 are is.ready there.1) made.failed.among
    made_row now same (Err refused.Memory) made =
        wanting_by made.count made.fewer (sym same ∙ made.added) (λ some. let there = made.planned some in no_damage opening start store log fixed t agrees told refl (length events + 1) step ws there.0 are is.ready there.1)

  whole_all : are_together store.prefixes (stored_write_keys events ws) ≡ true → whole_event owner p ∷ [] ≡ commit_events fixed events owner t
  whole_all together = whole_events opening start store log owner t p agrees is.prepared.line is.prepared.mode is.prepared.ops is.prepared.reads are together

  -- made as one event
  pub whole_row : IsOpen log p → are_together store.prefixes (stored_write_keys events ws) ≡ true → (next : StoreSeen) (now : Log) (result : Result (List ℕ) CommitRefused) → IsMade owner store next log now 0 ws (whole_event owner p ∷ []) result
      → IsCommitRow fixed owner events now.events t result
  whole_row is_open together next now result made =
      made_row is_open 0 next now.events (whole_event owner p ∷ []) (whole_all together) (λ asked. together_is true together) (λ given. refl) (known_whole owner p events) now refl result made

  each_all : are_together store.prefixes (stored_write_keys events ws) ≡ false → each_event owner p.line p.mode p.ops (write_keys ws) ≡ commit_events fixed events owner t
  each_all apart = each_events opening start store log owner t p agrees is.prepared.line is.prepared.mode is.prepared.ops is.prepared.reads are apart

  -- made as one event for each key
  pub each_row : IsOpen log p → are_together store.prefixes (stored_write_keys events ws) ≡ false → p.mode.atomic ≡ false → (next : StoreSeen) (now : Log) (result : Result (List ℕ) CommitRefused)
      → IsMade owner store next log now 1 ws (each_event owner p.line p.mode p.ops (write_keys ws)) result → IsCommitRow fixed owner events now.events t result
  each_row is_open apart free next now result made =
      made_row is_open 1 next now.events (each_event owner p.line p.mode p.ops (write_keys ws)) (each_all apart)
      (λ asked. let clash : true ≡ false = sym asked ∙ ap (λ (m : Mode). m.atomic) (sym is.prepared.mode) ∙ free in absurd (cc)) (λ given. let clash : true ≡ false = sym given ∙ together_is false apart in absurd (cc))
      (λ count a. known_each owner p.line p.mode p.ops (write_keys ws) count events a) now refl result made
