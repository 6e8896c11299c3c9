-- The plans of all writes are those of the commit.
use Rattle.std.proofs.Common.{◌≡◌, ℕ, ◌+◌, List, [], ◌∷◌, length, Bool, true, false, cond, Option, Some, None, inl, inr, refl, sym, ap, subst, ◌∙◌, arith, nat_lt}
use Rattle.std.specs.Prelude.{not, ◌||◌}
use Rattle.std.specs.List.{AllByRecursion, IsDistinct, list_any}
use Rattle.std.specs.Str.{bytes_eq}
use Rattle.kv_face.specs.Store.{Contents, keys_of as keys_changed}
use Rattle.kv_face.specs.declared.change.Change.{Change}
use Rattle.history.specs.declared.event.Op.{Op}
use Rattle.history.specs.declared.event.Event.{Event}
use Rattle.history.specs.declared.event.Kind.TheVariants.{Done}
use Rattle.history.specs.History.{History}
use Rattle.history.specs.Arrays.{Known, known_after, is_local}
use Rattle.history.specs.Chunks.{Chunk, cell_at, chunk_of, is_chunk, key_in, key_of}
use Rattle.history.specs.Commit.{Key}
use Rattle.history.specs.Counting.{is_change, is_stored}
use Rattle.history.specs.Legal.{IsLegal}
use Rattle.history.specs.Sessions.{new_transaction}
use Rattle.history.specs.Store.{IsChunkKept, shape_when_touched}
use Rattle.history.specs.Stored.{with_event}
use Rattle.history.specs.Touch.{touches, writes_chunk}
use Rattle.history.specs.Writes.{Put, puts_of}
use Rattle.std.proofs.lemmas.Bool.Decides.{nat_tests}
use Rattle.std.proofs.lemmas.List.{length-map}
use Rattle.history.proofs.Laws.{chunk_array, else_word, last_put, known_good, local_shape, one_key, same_chunks, some_inj, written-is}
use Rattle.chunk_plans.proofs.Laws.{IsStagedBy, right_of_left, held_snapshot}
use Rattle.chunk_plans.specs.declared.Commit.{Commit}
use Rattle.chunk_plans.specs.Recorded.{done_event}
use Rattle.chunk_plans.specs.Agreement.{Opening, Agrees}
use Rattle.chunk_plans.specs.Kept.{IsCurrent}
use Rattle.chunk_plans.specs.Log.{Log}
use Rattle.chunk_plans.specs.Seen.{StoreSeen}
use Rattle.chunk_plans.specs.declared.plan.Left.{Left}
use Rattle.chunk_plans.specs.declared.plan.Left.TheVariants.{Stored, Held}
use Rattle.chunk_plans.specs.declared.plan.Planned.{Planned}
use Rattle.commits.specs.Plans.{IsPlanned, IsRightLeft, IsRightPlan, keys_of, HasPlan, ArePlans, change_of, changes_of}
use Rattle.chunk_plans.specs.Leaving.{HasNumber, IsLeftOf}
use Rattle.chunk_plans.specs.declared.write.ChunkWrite.{ChunkWrite}
use Rattle.chunk_plans.specs.Writes.{IsPlanOf, IsReadyWrite, chunk_of_write}
use Rattle.commits.specs.Keyed.{plan_arrays}
use Rattle.commits.specs.Planning.{ArePlannedBy, IsPlannedBy, write_arrays}
use Rattle.commits.specs.Prepared.{AreWrites, HasWrite, IsPutAmong, IsStagedFor, IsStagedWrite, write_keys}
use Rattle.commits.specs.Writes.{stored_write_keys}
use Rattle.commits.proofs.KeyOrder.{rising_distinct}
use Rattle.commits.proofs.Reaching.{put_in}

-- plans have the keys of the writes
pub planned_keys : (store : StoreSeen) (log : Log) (number step : ℕ) (ws : List ChunkWrite) (ps : List Planned) → ArePlannedBy store log number step ws ps → keys_of ps ≡ write_keys ws
planned_keys store log number step [] [] are = refl
planned_keys store log number step [] (p ∷ ps) are = absurd are
planned_keys store log number step (w ∷ ws) [] are = absurd are
planned_keys store log number step (w ∷ ws) (p ∷ ps) are = ap (λ k. k ∷ keys_of ps) are.0.key ∙ ap (λ ks. w.key ∷ ks) (planned_keys store log (number + step) step ws ps are.1)

-- the changes of plans have the keys of the writes of stored arrays
pub planned_changes : (store : StoreSeen) (log : Log) (ops : List Op) (number step : ℕ) (ws : List ChunkWrite) (ps : List Planned) → AllByRecursion (IsStagedWrite log.events ops) ws → ArePlannedBy store log number step ws ps
    → keys_changed (changes_of ps) ≡ stored_write_keys log.events ws
planned_changes store log ops number step [] [] each are = refl
planned_changes store log ops number step [] (p ∷ ps) each are = absurd are
planned_changes store log ops number step (w ∷ ws) [] each are = absurd are
planned_changes store log ops number step (w ∷ ws) (p ∷ ps) each are =
    by p.left (are.0.left each.0.0 each.0.1.known) ∙ ap (λ ks. cond (is_stored (known_after log.events w.array)) (w.key ∷ ks) ks) (planned_changes store log ops (number + step) step ws ps each.1 are.1)
  where
    rest : List Key
    rest = keys_changed (changes_of ps)

    told : (b : Bool) → is_local each.0.0.info.home ≡ b → is_stored (known_after log.events w.array) ≡ not b
    told b is = ap is_stored each.0.1.known ∙ ap not is

    by : (left : Left) → IsLeftOf each.0.0 (chunk_of_write w) left → keys_changed (change_of left p.key (changes_of ps)) ≡ cond (is_stored (known_after log.events w.array)) (w.key ∷ rest) rest
    by (Stored bytes kept) is = ap (λ k. k ∷ rest) are.0.key ∙ sym (ap (λ b. cond b (w.key ∷ rest) rest) (told false is.0))
    by (Held a cells) is = sym (ap (λ b. cond b (w.key ∷ rest) rest) (told true is.0))

-- a plan is of the chunk of its write, by a log of the same events
module _ (store : StoreSeen) (first log : Log) (owner : ℕ) (commit : Commit) (whole : commit.key ≡ None) (same : log.events ≡ first.events) where
  pub touched_by : (c : Chunk) → touches log.events (done_event owner commit) c ≡ writes_chunk first.events commit.ops c
  touched_by c = ap (λ o. touches log.events (done_event owner (record commit { key = o })) c) whole ∙ ap (λ events. writes_chunk events commit.ops c) same

  abbrev pub planned_one : (number : ℕ) (w : ChunkWrite) (p : Planned) → number ≡ length first.events + 1 → IsStagedWrite first.events commit.ops w → IsPlannedBy store first number w p → IsPlanned log (done_event owner commit) p
  planned_one number w p next staged is = record {
    chunk = chunk_of_write w;
    array = staged.0;
    known = ap (λ events. known_after events w.array) same ∙ staged.1.known;
    valid = staged.1.valid;
    touched = touched_by (chunk_of_write w) ∙ staged.1.written;
    of_array = sym is.array;
    of_index = sym is.chunk;
    named = staged.1.named ∙ sym is.key;
    left = is.left staged.0 staged.1.known;
    numbered = subst (λ n. HasNumber n p.left) (next ∙ ap (λ events. length events + 1) (sym same)) is.numbered;
  }

  each_planned : (number : ℕ) (ws : List ChunkWrite) (ps : List Planned) → number ≡ length first.events + 1 → AllByRecursion (IsStagedWrite first.events commit.ops) ws → ArePlannedBy store first number 0 ws ps → AllByRecursion (IsPlanned log (done_event owner commit)) ps
  each_planned number [] [] next each are = tt
  each_planned number [] (p ∷ ps) next each are = absurd are
  each_planned number (w ∷ ws) [] next each are = absurd are
  each_planned number (w ∷ ws) (p ∷ ps) next each are = (planned_one number w p next each.0 are.0, each_planned (number + 0) ws ps (omega (arith, next)) each.1 are.1)

  has_planned : (c : Chunk) (number : ℕ) (ws : List ChunkWrite) (ps : List Planned) → number ≡ length first.events + 1 → AllByRecursion (IsStagedWrite first.events commit.ops) ws → ArePlannedBy store first number 0 ws ps → HasWrite c ws
      → HasPlan log (done_event owner commit) c ps
  has_planned c number [] ps next each are has = absurd has
  has_planned c number (w ∷ ws) [] next each are has = absurd are
  has_planned c number (w ∷ ws) (p ∷ ps) next each are (inl here) = inl (planned_one number w p next each.0 are.0, here)
  has_planned c number (w ∷ ws) (p ∷ ps) next each are (inr more) = inr (has_planned c (number + 0) ws ps (omega (arith, next)) each.1 are.1 more)

  -- there is one for each chunk that the commit touches
  pub plans_of_writes : (ws : List ChunkWrite) (ps : List Planned) → AreWrites first.events commit.ops ws → ArePlannedBy store first (length first.events + 1) 0 ws ps → ArePlans log (done_event owner commit) ps
  plans_of_writes ws ps are planned = record {
    each = each_planned (length first.events + 1) ws ps refl are.each planned;
    all = λ c k known valid touched.
        let found = put_in (IsPutAmong first.events ws) first.events c (puts_of commit.ops) are.all (sym (touched_by c) ∙ touched) in
        has_planned c (length first.events + 1) ws ps refl are.each planned (subst (λ (d : Chunk). HasWrite d ws) found.in_chunk found.holds.write);
    distinct = subst (IsDistinct bytes_eq) (sym (planned_keys store first (length first.events + 1) 0 ws ps planned)) (rising_distinct (write_keys ws) are.sorted);
  }

-- plans are of the arrays of the writes
pub planned_arrays : (store : StoreSeen) (log : Log) (number step : ℕ) (ws : List ChunkWrite) (ps : List Planned) → ArePlannedBy store log number step ws ps → plan_arrays ps ≡ write_arrays ws
planned_arrays store log number step [] [] are = refl
planned_arrays store log number step [] (p ∷ ps) are = absurd are
planned_arrays store log number step (w ∷ ws) [] are = absurd are
planned_arrays store log number step (w ∷ ws) (p ∷ ps) are = ap (λ a. a ∷ plan_arrays ps) are.0.array ∙ ap (λ rest. w.array ∷ rest) (planned_arrays store log (number + step) step ws ps are.1)

-- what is staged is what the operations put last
pub staged_by : (events : History) (ops : List Op) (w : ChunkWrite) (k : Known) → IsStagedFor events ops w k → IsStagedBy ops k (chunk_of_write w) w.staged.now
staged_by events ops w k is = record { cells = λ index inside present. is.cells index inside ∙ written-is ops (λ y. None) (cell_at k (chunk_of_write w) index) ∙ none_else (last_put (puts_of ops) (cell_at k (chunk_of_write w) index)) }
  where
    none_else : (o : Option ℕ) → else_word o None ≡ o
    none_else None = refl
    none_else (Some x) = refl

-- what is right by one log is right by another of the same events
right_same : (start : Contents) (first log : Log) (e : Event) (k : Known) (c : Chunk) (left : Left) → log.events ≡ first.events → IsRightLeft start first e k c left → IsRightLeft start log e k c left
right_same start first log e k c (Stored bytes kept) same right = (
  subst (λ events. IsChunkKept start (with_event events e) k c (shape_when_touched (with_event events e) c) bytes) (sym same) right.0,
  λ cells is. subst (λ events. IsCurrent start (with_event events e) k c (record { generation = length events + 1; cells = cells })) (sym same) (right.1 cells is),
)
right_same start first log e k c (Held a cells) same right = subst (λ events. IsCurrent start (with_event events e) k c cells) (sym same) right

-- plans are right behind the commit
module _ (opening : Opening) (start : Contents) (store : StoreSeen) (first log : Log) (owner : ℕ) (commit : Commit) (whole : commit.key ≡ None) (same : log.events ≡ first.events) (agrees : Agrees opening store first) (told : opening.store.contents ≡ Some start) where
  legal : IsLegal start first.events
  legal = (agrees.holds start told).legal

  touched_write : (w : ChunkWrite) (k : Known) → IsStagedFor first.events commit.ops w k → touches first.events (done_event owner commit) (chunk_of_write w) ≡ true
  touched_write w k is = ap (λ o. touches first.events (done_event owner (record commit { key = o })) (chunk_of_write w)) whole ∙ is.written

  right_left : (w : ChunkWrite) (k : Known) (left : Left) → IsStagedFor first.events commit.ops w k → IsLeftOf k (chunk_of_write w) left → IsPlanOf start first.events (length first.events + 1) k w left
      → IsRightLeft start first (done_event owner commit) k (chunk_of_write w) left
  right_left w k (Stored bytes kept) is stored plan =
      right_of_left start first.events owner (new_transaction commit.line commit.mode) commit.ops commit.key k (chunk_of_write w) w.staged.now is.known is.valid (touched_write w k is) (staged_by first.events commit.ops w k is) stored.0
      (known_good start w.array first.events legal k is.known).kept bytes kept plan
  right_left w k (Held a cells) is local plan =
      subst (λ n. IsRightLeft start first (done_event owner commit) k (chunk_of_write w) (Held a (record cells { generation = n }))) (sym plan.0)
      (held_snapshot start first.events owner (new_transaction commit.line commit.mode) commit.ops commit.key k (chunk_of_write w) w.staged.now is.known is.valid (touched_write w k is) (staged_by first.events commit.ops w k is) local.0
      (local_shape start w.array first.events legal k is.known local.0) cells.cells plan.1)

  right_one : (w : ChunkWrite) (p : Planned) → IsStagedWrite first.events commit.ops w → ((k : Known) → known_after first.events w.array ≡ Some k → IsReadyWrite start first k w) → IsPlannedBy store first (length first.events + 1) w p
      → IsRightPlan start log (done_event owner commit) p
  right_one w p staged ready planned is =
      let k = staged.0 in
      let right = right_left w k p.left staged.1 (planned.left k staged.1.known) (planned.plan opening start k agrees told staged.1.known (ready k staged.1.known)) in
      let known : known_after first.events is.chunk.array ≡ Some is.array = sym (ap (λ events. known_after events is.chunk.array) same) ∙ is.known in
      let mine : key_of first.events is.chunk ≡ Some p.key = ap (λ o. key_in o is.chunk) known ∙ ap Some is.named in
      let its : key_of first.events (chunk_of_write w) ≡ Some p.key = ap (λ o. key_in o (chunk_of_write w)) staged.1.known ∙ ap Some (staged.1.named ∙ sym planned.key) in
      let chunk : chunk_of_write w ≡ is.chunk = one_key start first.events legal (chunk_of_write w) is.chunk k is.array p.key staged.1.known known staged.1.valid is.valid its mine in
      let array : k ≡ is.array = some_inj k is.array (sym staged.1.known ∙ ap (λ (c : Chunk). known_after first.events c.array) chunk ∙ known) in
      right_same start first log (done_event owner commit) is.array is.chunk p.left same
      (subst (λ (c : Chunk). IsRightLeft start first (done_event owner commit) is.array c p.left) chunk (subst (λ (l : Known). IsRightLeft start first (done_event owner commit) l (chunk_of_write w) p.left) array right))

  pub rights_of : (ws : List ChunkWrite) (ps : List Planned) → AllByRecursion (IsStagedWrite first.events commit.ops) ws
      → AllByRecursion (λ (w : ChunkWrite). (k : Known) → known_after first.events w.array ≡ Some k → IsReadyWrite start first k w) ws → ArePlannedBy store first (length first.events + 1) 0 ws ps
      → AllByRecursion (IsRightPlan start log (done_event owner commit)) ps
  rights_of [] [] each ready are = tt
  rights_of [] (p ∷ ps) each ready are = absurd are
  rights_of (w ∷ ws) [] each ready are = absurd are
  rights_of (w ∷ ws) (p ∷ ps) each ready are = (right_one w p each.0 ready.0 are.0, rights_of ws ps each.1 ready.1 (subst (λ n. ArePlannedBy store first n 0 ws ps) (no_more (length first.events + 1)) are.1))
    where
      no_more : (n : ℕ) → n + 0 ≡ n
      no_more n = omega arith

-- the commit counts as a change of the store exactly where a plan changes it
some_more : (k : Key) (ks : List Key) → nat_lt 0 (length (k ∷ ks)) ≡ true
some_more k ks = grind (arith, nat_tests)

any_stored : (events : History) (ops : List Op) (ws : List ChunkWrite) → AllByRecursion (IsStagedWrite events ops) ws → (ps : List Put) → AllByRecursion (λ (p : Put). IsPutAmong events ws p.0) ps → list_any (λ (p : Put). is_stored (known_after events p.0.array)) ps ≡ true
    → nat_lt 0 (length (stored_write_keys events ws)) ≡ true
any_stored events ops ws each [] among is = absurd (cc)
any_stored events ops ws each (p ∷ ps) among is = by (is_stored (known_after events p.0.array)) refl (λ rest. any_stored events ops ws each ps among.1 rest)
  where
    here : (c : Chunk) (vs : List ChunkWrite) → HasWrite c vs → is_stored (known_after events c.array) ≡ true → nat_lt 0 (length (stored_write_keys events vs)) ≡ true
    here c [] has stored = absurd has
    here c (w ∷ vs) (inl same) stored =
        let is : is_stored (known_after events w.array) ≡ true = ap (λ (d : Chunk). is_stored (known_after events d.array)) same ∙ stored in
        let keys : stored_write_keys events (w ∷ vs) ≡ w.key ∷ stored_write_keys events vs = ap (λ b. cond b (w.key ∷ stored_write_keys events vs) (stored_write_keys events vs)) is in
        ap (λ ks. nat_lt 0 (length ks)) keys ∙ some_more w.key (stored_write_keys events vs)
    here c (w ∷ vs) (inr more) stored = longer (is_stored (known_after events w.array)) (here c vs more stored)
      where
        longer : (b : Bool) → nat_lt 0 (length (stored_write_keys events vs)) ≡ true → nat_lt 0 (length (cond b (w.key ∷ stored_write_keys events vs) (stored_write_keys events vs))) ≡ true
        longer true h = some_more w.key (stored_write_keys events vs)
        longer false h = h

    by : (b : Bool) → is_stored (known_after events p.0.array) ≡ b → (list_any (λ (q : Put). is_stored (known_after events q.0.array)) ps ≡ true → nat_lt 0 (length (stored_write_keys events ws)) ≡ true)
        → nat_lt 0 (length (stored_write_keys events ws)) ≡ true
    by true stored rest = here (chunk_of events p.0) ws among.0.write (ap (λ a. is_stored (known_after events a)) (chunk_array (known_after events p.0.array) p.0) ∙ stored)
    by false other rest = rest (sym (ap (λ b. b || list_any (λ (q : Put). is_stored (known_after events q.0.array)) ps) other) ∙ is)

stored_any : (events : History) (ops : List Op) (ws : List ChunkWrite) → AllByRecursion (IsStagedWrite events ops) ws → nat_lt 0 (length (stored_write_keys events ws)) ≡ true → list_any (λ (p : Put). is_stored (known_after events p.0.array)) (puts_of ops) ≡ true
stored_any events ops [] each is = absurd (cc)
stored_any events ops (w ∷ ws) each is = by (is_stored (known_after events w.array)) refl is (λ rest. stored_any events ops ws each.1 rest)
  where
    put_of : (ps : List Put) → list_any (λ p. is_chunk (chunk_of events p.0) (chunk_of_write w)) ps ≡ true → is_stored (known_after events w.array) ≡ true → list_any (λ (p : Put). is_stored (known_after events p.0.array)) ps ≡ true
    put_of [] any stored = absurd (cc)
    put_of (p ∷ ps) any stored = told (is_chunk (chunk_of events p.0) (chunk_of_write w)) refl (λ rest. put_of ps rest stored)
      where
        first : (a b : Bool) → a ≡ true → (a || b) ≡ true
        first a b h = ap (λ c. c || b) h

        second : (a b : Bool) → b ≡ true → (a || b) ≡ true
        second true b h = refl
        second false b h = h

        told : (b : Bool) → is_chunk (chunk_of events p.0) (chunk_of_write w) ≡ b → (list_any (λ q. is_chunk (chunk_of events q.0) (chunk_of_write w)) ps ≡ true → list_any (λ (q : Put). is_stored (known_after events q.0.array)) ps ≡ true)
            → list_any (λ (q : Put). is_stored (known_after events q.0.array)) (p ∷ ps) ≡ true
        told true same rest =
            first (is_stored (known_after events p.0.array)) (list_any (λ (q : Put). is_stored (known_after events q.0.array)) ps)
            (ap (λ a. is_stored (known_after events a)) (sym (chunk_array (known_after events p.0.array) p.0) ∙ ap (λ (c : Chunk). c.array) (same_chunks (chunk_of events p.0) (chunk_of_write w) same)) ∙ stored)
        told false other rest =
            second (is_stored (known_after events p.0.array)) (list_any (λ (q : Put). is_stored (known_after events q.0.array)) ps)
            (rest (sym (ap (λ b. b || list_any (λ q. is_chunk (chunk_of events q.0) (chunk_of_write w)) ps) other) ∙ any))

    by : (b : Bool) → is_stored (known_after events w.array) ≡ b → nat_lt 0 (length (cond b (w.key ∷ stored_write_keys events ws) (stored_write_keys events ws))) ≡ true
        → (nat_lt 0 (length (stored_write_keys events ws)) ≡ true → list_any (λ (p : Put). is_stored (known_after events p.0.array)) (puts_of ops) ≡ true) → list_any (λ (p : Put). is_stored (known_after events p.0.array)) (puts_of ops) ≡ true
    by true stored some rest = put_of (puts_of ops) each.0.1.written stored
    by false other some rest = rest some

same_tests : (a b : Bool) → (a ≡ true → b ≡ true) → (b ≡ true → a ≡ true) → a ≡ b
same_tests true b to from = sym (to refl)
same_tests false true to from = from refl
same_tests false false to from = refl

pub counted_of : (start : Contents) (store : StoreSeen) (log : Log) (commit : Commit) (number step : ℕ) (ws : List ChunkWrite) (ps : List Planned) → commit.key ≡ None → AreWrites log.events commit.ops ws → ArePlannedBy store log number step ws ps
    → is_change start log.events (Done commit.line commit.mode commit.ops commit.key) ≡ nat_lt 0 (length (changes_of ps))
counted_of start store log commit number step ws ps whole are planned =
    ap (λ o. is_change start log.events (Done commit.line commit.mode commit.ops o)) whole
    ∙ same_tests (list_any (λ (p : Put). is_stored (known_after log.events p.0.array)) (puts_of commit.ops)) (nat_lt 0 (length (stored_write_keys log.events ws))) (any_stored log.events commit.ops ws are.each (puts_of commit.ops) are.all)
    (stored_any log.events commit.ops ws are.each)
    ∙ sym (ap (nat_lt 0) (sym (length-map (changes_of ps) (λ (c : Change). c.key)) ∙ ap length (planned_changes store log commit.ops number step ws ps are.each planned)))
