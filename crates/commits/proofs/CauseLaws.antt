-- A commit's answer over any store, for its cause.
use Rattle.std.proofs.Common.{◌≡◌, ℕ, suc, ◌+◌, ◌<◌, List, [], ◌∷◌, ◌++◌, length, take, Bool, true, false, Result, Ok, Err, Option, Some, None, inl, inr, refl, sym, ap, subst, ◌∙◌, arith}
use Rattle.std.specs.Prelude.{IsTrue, Contains}
use Rattle.std.specs.FinMap as finmap
use Rattle.std.specs.List.{AllByRecursion}
use Rattle.std.proofs.lemmas.List.{append_assoc, append-nil, length-append}
use Rattle.history.specs.declared.event.Event.{Event}
use Rattle.history.specs.declared.event.Mode.{Mode}
use Rattle.history.specs.Answers as body
use Rattle.history.specs.Arrays.{known_after}
use Rattle.history.specs.Chunks.{Chunk}
use Rattle.history.specs.Commit.{CommitTogether, Fixed, HasNoConflict, Transaction, are_together, commit_events, kept_ops, stored_keys}
use Rattle.history.specs.CommitRows.{IsChangedOn, left_by, own_after, own_part}
use Rattle.history.specs.History.{History}
use Rattle.history.specs.Own.{fault, numbered, numbers_of}
use Rattle.history.specs.Reads.{footprint_of}
use Rattle.chunk_plans.specs.Agreement.{Opening, Agrees}
use Rattle.chunk_plans.specs.Log.{Log}
use Rattle.chunk_plans.specs.Seen.{StoreSeen}
use Rattle.chunk_plans.specs.declared.write.ChunkWrite.{ChunkWrite}
use Rattle.commits.specs.declared.prepared.Prepared.{Prepared}
use Rattle.commits.specs.declared.refused.CommitRefused.{CommitRefused}
use Rattle.commits.specs.declared.refused.CommitRefused.TheVariants as refused
use Rattle.commits.specs.declared.way.Way.{Way}
use Rattle.commits.specs.declared.way.Way.TheVariants.{Whole, ByKeys}
use Rattle.commits.specs.Answers.{IsTold, Leaves, MayAdd, all_of, body_of}
use Rattle.commits.specs.Caused.{IsCausedCommit, IsCommitCaused, IsPartMade, IsUncut, MayBeMade, all_made, for_bytes, for_failure, for_memory, for_memory_first, for_read, for_shape, for_stores}
use Rattle.commits.specs.Outside.{IsFirstOutside}
use Rattle.commits.specs.Planning.{IsAmongOn, write_arrays}
use Rattle.commits.specs.Prepared.{AreMarks, AreWrites, WasReadAt, write_keys}
use Rattle.commits.specs.Ways.{IsUntouched, IsWay}
use Rattle.commits.specs.Writes.{stored_write_keys}
use Rattle.commits.proofs.ChangedKeys.{stored_keys_are}
use Rattle.commits.proofs.Conflicts.{met_of, no_conflict}
use Rattle.commits.proofs.MadeEvents.{among_same, changed_on, each_events, known_each, known_whole, length_take, numbered_one, take_front, take_numbered, together_as, whole_events}
use Rattle.commits.proofs.ShrunkLaws.{not_shrunk, shrunk_of}

module _ (opening : Opening) (store : StoreSeen) (log : Log) (owner : ℕ) (t : Transaction) (p : Prepared) (agrees : Agrees opening store log) (line : p.line ≡ t.line) (mode : p.mode ≡ t.mode) (ops : p.ops ≡ t.ops) (reads : kept_ops t ≡ t.ops)
    (are : AreWrites log.events t.ops p.writes.items) (marks : AreMarks log.events t p.footprint.now)
    (was_read : (c : Chunk) → Contains (footprint_of log.events t.ops) c → WasReadAt log.events t c) where
  abbrev fixed : Fixed
  fixed = record { start = finmap.empty; prefixes = opening.store.prefixes }

  abbrev events : History
  events = log.events

  abbrev ws : List ChunkWrite
  ws = p.writes.items

  together_is : (b : Bool) → are_together store.prefixes (stored_write_keys events ws) ≡ b → are_together opening.store.prefixes (stored_keys events t.ops) ≡ b
  together_is b e = together_as opening finmap.empty store log owner t p agrees line mode ops reads are b e

  uncut_of : IsFirstOutside events ws None → IsUncut events t
  uncut_of none = not_shrunk events t agrees.outline ws are none

  atomic_is : (b : Bool) → p.mode.atomic ≡ b → t.mode.atomic ≡ b
  atomic_is b e = ap (λ (m : Mode). m.atomic) (sym mode) ∙ e

  free_of : IsUntouched log p → HasNoConflict events t
  free_of untouched = no_conflict log t agrees.outline agrees.generations p.footprint.now marks (λ asked. untouched (subst (λ (m : Mode). IsTrue m.repeatable_read) (sym mode) asked))

  -- an answer without an event
  unmade : (later : History) (result : Result (List ℕ) CommitRefused) → later ≡ events → ((left : Option Transaction) → Leaves t result left → IsCausedCommit fixed owner events t left (body_of result) []) → IsCommitCaused fixed owner events later t result
  unmade later result same row = subst (λ h. IsCommitCaused fixed owner events h t result) (sym same) (record { own = []; added = sym (append-nil events); row = row })

  -- these are all the events of the commit, and it may be made
  record AreAll (all : List Event) : Type 0 where
    may : MayBeMade fixed events t
    is_all : all ≡ commit_events fixed events owner t
    one : CommitTogether fixed events t.ops → length all ≡ 1
    known : (count : ℕ) (a : ℕ) → known_after (events ++ take count all) a ≡ known_after events a

  are_all_by : (way : Way) → IsWay store.prefixes log p (Ok way) → AreAll (all_of owner p way)
  are_all_by Whole way = record {
    may = record { no_conflict = free_of way.0.untouched; uncut = uncut_of way.0.within; whole = λ asked. together_is true way.1 };
    is_all = whole_events opening finmap.empty store log owner t p agrees line mode ops reads are way.1;
    one = λ given. refl;
    known = known_whole owner p events;
  }
  are_all_by ByKeys way = record {
    may = record { no_conflict = free_of way.0.untouched; uncut = uncut_of way.0.within; whole = λ asked. let clash : true ≡ false = sym asked ∙ atomic_is false way.2 in absurd (cc) };
    is_all = each_events opening finmap.empty store log owner t p agrees line mode ops reads are way.1;
    one = λ given. let clash : true ≡ false = sym given ∙ together_is false way.1 in absurd (cc);
    known = λ count a. known_each owner p.line p.mode p.ops (write_keys ws) count events a;
  }

  are_all : (all : List Event) → MayAdd store.prefixes log owner p all → AreAll all
  are_all all may = subst AreAll (sym may.2) (are_all_by may.0 may.1)

  module _ (all : List Event) (is : AreAll all) (later : History) where
    module _ (own : List Event) (added : later ≡ events ++ own) where
      before_is : take (length events) later ≡ events
      before_is = ap (take (length events)) added ∙ take_front events own

      own_is : own_after fixed owner later (length events) t ≡ numbered (length events + 1) all
      own_is = ap (λ h. numbered (length events + 1) (commit_events fixed h owner t)) before_is ∙ ap (numbered (length events + 1)) (sym is.is_all)

      part_is : (count : ℕ) → own_part fixed owner later (length events) t count ≡ numbered (length events + 1) (take count all)
      part_is count = ap (take count) own_is ∙ take_numbered (length events + 1) count all

      part_made : (count : ℕ) → count < length all → IsPartMade fixed owner (take (length events) later) t count
      part_made count fewer =
          subst (λ h. IsPartMade fixed owner h t count) (sym before_is)
          (record { may = is.may; fewer = subst (λ n. count < n) (ap length is.is_all) fewer; together = λ together. let single = is.one together in omega (arith, fewer, single) })

    done_caused : (numbers : List ℕ) → later ≡ events ++ all → numbers ≡ numbers_of (numbered (length events + 1) all) → IsCommitCaused fixed owner events later t (Ok numbers)
    done_caused numbers added counted = record {
      own = all;
      added = added;
      row = λ left stands.
          subst (λ l. IsCausedCommit fixed owner later t l (body.committed numbers) (numbered (length events + 1) all)) (sym stands)
          (subst (λ ns. IsCausedCommit fixed owner later t None (body.committed ns) (numbered (length events + 1) all)) (sym counted)
          (subst (λ os. IsCausedCommit fixed owner later t None (body.committed (numbers_of os)) os) (own_is all added) (all_made (length events) (subst (λ h. MayBeMade fixed h t) (sym (before_is all added)) is.may))));
    }

    wanting_caused : (count : ℕ) → count < length all → later ≡ events ++ take count all → IsCommitCaused fixed owner events later t (Err refused.Memory)
    wanting_caused count fewer added = record {
      own = take count all;
      added = added;
      row = λ left stands. subst (IsCausedCommit fixed owner later t left body.memory) (part_is (take count all) added count) (for_memory (length events) count (part_made (take count all) added count fewer));
    }

    failed_caused : (count event : ℕ) (mount numbers : List ℕ) → count < length all → later ≡ (events ++ take count all) ++ fault owner mount ∷ [] → event ≡ length (events ++ take count all) + 1 → numbers ≡ numbers_of (numbered (length events + 1) (take count all))
        → IsAmongOn (events ++ take count all) (write_arrays ws) mount → IsCommitCaused fixed owner events later t (Err (refused.StoreFailed event numbers))
    failed_caused count event mount numbers fewer added number counted among = record {
      own = own;
      added = grown;
      row = λ left stands.
          subst (λ l. IsCausedCommit fixed owner later t l (body.store_failed event numbers None) (numbered (length events + 1) own)) (sym (stands ∙ ap (λ n. left_by n t) size))
          (subst (λ ns. IsCausedCommit fixed owner later t (left_by count t) (body.store_failed event ns None) (numbered (length events + 1) own)) (sym counted)
          (subst (λ n. IsCausedCommit fixed owner later t (left_by count t) (body.store_failed n (numbers_of (numbered (length events + 1) (take count all))) None) (numbered (length events + 1) own)) (sym (number ∙ place))
          (subst (IsCausedCommit fixed owner later t (left_by count t) (body.store_failed (length events + count + 1) (numbers_of (numbered (length events + 1) (take count all))) None)) (sym own_numbers)
          (subst (λ os. IsCausedCommit fixed owner later t (left_by count t) (body.store_failed (length events + count + 1) (numbers_of os) None) (os ++ record { number = length events + count + 1; event = fault owner mount } ∷ [])) (part_is own grown count)
          (for_failure (length events) count mount (part_made own grown count fewer) changed)))));
    }
      where
        own : List Event
        own = take count all ++ fault owner mount ∷ []

        grown : later ≡ events ++ own
        grown = added ∙ append_assoc events (take count all) (fault owner mount ∷ [])

        long : length (take count all) ≡ count
        long = length_take count all (omega (arith, fewer))

        place : length (events ++ take count all) + 1 ≡ length events + count + 1
        place = let sum = length-append events (take count all) in omega (arith, sum, long)

        own_numbers : numbered (length events + 1) own ≡ numbered (length events + 1) (take count all) ++ record { number = length events + count + 1; event = fault owner mount } ∷ []
        own_numbers =
            numbered_one (length events + 1) (take count all) (fault owner mount) ∙ ap (λ n. numbered (length events + 1) (take count all) ++ record { number = n; event = fault owner mount } ∷ []) (let is = long in omega (arith, is))

        length_numbers : (n : ℕ) (es : List Event) → length (numbers_of (numbered n es)) ≡ length es
        length_numbers n [] = refl
        length_numbers n (e ∷ es) = ap suc (length_numbers (n + 1) es)

        size : length numbers ≡ count
        size = ap length counted ∙ length_numbers (length events + 1) (take count all) ∙ long

        changed : IsChangedOn (take (length events) later) t mount
        changed = subst (λ h. IsChangedOn h t mount) (sym (before_is own grown)) (changed_on events t ws mount are.each (among_same events (events ++ take count all) (write_arrays ws) mount (is.known count) among))

  -- whatever is told of a commit, its answer has such a cause
  pub caused : (next : StoreSeen) (later : Log) (result : Result (List ℕ) CommitRefused) → IsTold owner store next log later p result → IsCommitCaused fixed owner events later.events t result
  caused next later (Ok numbers) told = done_caused told.0 (are_all told.0 told.1) later.events numbers told.2 told.3
  caused next later (Err (refused.Conflict key read now)) told =
      unmade later.events (Err (refused.Conflict key read now)) (ap (λ (l : Log). l.events) told.1)
      (λ left stands.
      let met = met_of log t agrees.outline agrees.generations p.footprint.now (record { key = key; read = read; now = now }) marks was_read (subst (λ (m : Mode). IsTrue m.repeatable_read) mode told.2.0) told.2.1 in
      subst (λ l. IsCausedCommit fixed owner events t l (body.conflict key read now) []) (sym stands) (for_read met))
  caused next later (Err (refused.Shrunk key now)) told =
      unmade later.events (Err (refused.Shrunk key now)) (ap (λ (l : Log). l.events) told.1)
      (λ left stands. subst (λ l. IsCausedCommit fixed owner events t l (body.shrunk key now) []) (sym stands) (for_shape (free_of told.2.0) (shrunk_of events t agrees.outline ws are (record { key = key; now = now }) told.2.1)))
  caused next later (Err (refused.NotAtomic keys)) told =
      unmade later.events (Err (refused.NotAtomic keys)) (ap (λ (l : Log). l.events) told.1)
      (λ left stands.
      subst (λ l. IsCausedCommit fixed owner events t l (body.not_atomic keys) []) (sym stands)
      (for_stores (free_of told.2.0.untouched) (uncut_of told.2.0.within)
      (record { asked = atomic_is true told.2.2; apart = together_is false told.2.1; count = told.2.3 ∙ ap length (sym (stored_keys_are events t.ops ws are)) })))
  caused next later (Err (refused.Damaged key cause)) told =
      unmade later.events (Err (refused.Damaged key cause)) told.1
      (λ left stands. subst (λ l. IsCausedCommit fixed owner events t l (body.damaged key cause) []) (sym stands) (for_bytes (are_all told.0.0 told.0.1).may))
  caused next later (Err (refused.StoreFailed event done)) told =
      failed_caused told.0 (are_all told.0 told.1) later.events told.2 event told.5.mount done told.3 told.5.added told.5.number told.4 told.5.among
  caused next later (Err refused.Memory) (inl same) = unmade later.events (Err refused.Memory) same (λ left stands. for_memory_first)
  caused next later (Err refused.Memory) (inr told) = wanting_caused told.0 (are_all told.0 told.1) later.events told.2 told.3 told.4
