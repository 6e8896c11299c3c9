-- A commit that is one event for each key.
use Rattle.std.proofs.Common.{◌≡◌, ℕ, ◌+◌, List, [], ◌∷◌, ◌++◌, length, true, false, Some, None, ◌⊎◌, inl, inr, refl, sym, ap, subst, ◌∙◌, nat_lt}
use Rattle.std.specs.Prelude.{not, ◌||◌, filter, fold}
use Rattle.std.specs.List.{AllByRecursion, IsDistinct, list_any}
use Rattle.std.specs.Str.{bytes_eq}
use Rattle.std.proofs.lemmas.Slice.Eq.{bytes_eq-Decides}
use Rattle.std.specs.FinMap as finmap
use Rattle.std.proofs.lemmas.List.{append_assoc}
use Rattle.std.proofs.lemmas.Map.Keys.{IsDistinct-head}
use Rattle.kv_face.specs.Store.{Contents}
use Rattle.cells.proofs.Laws.{true_or_false}
use Rattle.history.specs.declared.event.Event.{Event}
use Rattle.history.specs.declared.event.Mode.{Mode}
use Rattle.history.specs.declared.event.Op.{Op}
use Rattle.history.specs.declared.event.Op.TheVariants.{Write, Read}
use Rattle.history.specs.declared.event.Kind.TheVariants.{Done}
use Rattle.history.specs.History.{History}
use Rattle.history.specs.Arrays.{Known, known_after}
use Rattle.history.specs.Chunks.{Chunk, IsIndexOf, cell_at, chunk_key, chunk_of, chunk_in, is_chunk, key_in, key_of}
use Rattle.history.specs.Commit.{Key, is_write}
use Rattle.history.specs.Counting.{is_change, is_local_key}
use Rattle.history.specs.Legal.{IsLegal, IsLegalDone}
use Rattle.history.specs.Sessions.{new_transaction}
use Rattle.history.specs.Touch.{is_key, touches}
use Rattle.history.specs.Writes.{Put, puts_of, puts_of_op, put}
use Rattle.history.proofs.Laws.{IsLegal-front, generation_untouched, known_after-more, known_good, legal_step, length-more, local_shape, one_key, some_inj}
use Rattle.chunk_plans.specs.Log.{Log}
use Rattle.chunk_plans.specs.Outline.{outline}
use Rattle.chunk_plans.proofs.Laws.{known-outline}
use Rattle.chunk_plans.specs.declared.plan.Left.{Left}
use Rattle.chunk_plans.specs.declared.plan.Left.TheVariants.{Stored, Held}
use Rattle.chunk_plans.specs.declared.plan.Planned.{Planned}
use Rattle.commits.specs.Plans.{IsRightLeft, keys_of, change_of, changes_of}
use Rattle.chunk_plans.specs.Leaving.{IsLeftOf}
use Rattle.chunk_plans.specs.declared.write.ChunkWrite.{ChunkWrite}
use Rattle.chunk_plans.specs.Writes.{IsPlanOf, chunk_of_write}
use Rattle.chunk_plans.proofs.Laws.{held_longer, held_snapshot, left_longer, right_of_left}
use Rattle.commits.specs.Keyed.{AreRightKeys, AreRightPlans, IsKeyPlan, IsRightKey, each_event, key_event}
use Rattle.commits.specs.Prepared.{IsStagedFor, IsStagedWrite}
use Rattle.commits.proofs.LocalKeys.{local_key, stored_key}
use Rattle.commits.proofs.Plans.{staged_by}

-- the writes among operations put what these put
pub puts_writes : (ops : List Op) → puts_of (filter is_write ops) ≡ puts_of ops
puts_writes [] = refl
puts_writes (Write view words ∷ ops) = ap (λ ps. puts_of_op (Write view words) ++ ps) (puts_writes ops)
puts_writes (Read view words ∷ ops) = puts_writes ops

-- what is staged for the operations is staged for the writes among them
abbrev pub staged_writes : (events : History) (ops : List Op) (w : ChunkWrite) → IsStagedWrite events ops w → IsStagedWrite events (filter is_write ops) w
staged_writes events ops w (k, is) = (
  k,
  record {
    known = is.known;
    valid = is.valid;
    named = is.named;
    written = ap (λ ps. list_any (λ (p : Put). is_chunk (chunk_of events p.0) (chunk_of_write w)) ps) (puts_writes ops) ∙ is.written;
    size = is.size;
    words = is.words;
    cells = λ index inside. is.cells index inside ∙ sym (ap (λ ps. fold put (λ x. None) ps (cell_at k (chunk_of_write w) index)) (puts_writes ops));
  },
)

module _ (owner line : ℕ) (mode : Mode) (ops : List Op) where
  -- the event of a key touches the chunk of the key, and no other
  pub touches_own : (events : History) (c : Chunk) (k : Known) (key : Key) → known_after events c.array ≡ Some k → chunk_key k c.index ≡ key → touches events (key_event owner line mode ops key) c ≡ true
  touches_own events c k key known named = ap (λ o. is_key key (key_in o c)) known ∙ (bytes_eq-Decides (chunk_key k c.index) key).1 named

  pub touches_key : (events : History) (c : Chunk) (k : Known) (key : Key) → known_after events c.array ≡ Some k → touches events (key_event owner line mode ops key) c ≡ true → chunk_key k c.index ≡ key
  touches_key events c k key known is = (bytes_eq-Decides (chunk_key k c.index) key).0 (sym (ap (λ o. is_key key (key_in o c)) known) ∙ is)

  pub touches_other : (events : History) (c : Chunk) (k : Known) (key other : Key) → known_after events c.array ≡ Some k → chunk_key k c.index ≡ other → bytes_eq key other ≡ false → touches events (key_event owner line mode ops key) c ≡ false
  touches_other events c k key other known named apart = by (true_or_false (touches events (key_event owner line mode ops key) c))
    where
      by : (touches events (key_event owner line mode ops key) c ≡ true) ⊎ (touches events (key_event owner line mode ops key) c ≡ false) → touches events (key_event owner line mode ops key) c ≡ false
      by (inl is) = let clash : true ≡ false = sym ((bytes_eq-Decides key other).1 (sym (touches_key events c k key known is) ∙ named)) ∙ apart in absurd (cc)
      by (inr isnt) = isnt

-- arrays and chunks are the same behind the event of a key
module _ (events : History) (e : Event) (same : (a : ℕ) → known_after (events ++ e ∷ []) a ≡ known_after events a) where
  pub chunk_same : (x : _) → chunk_of (events ++ e ∷ []) x ≡ chunk_of events x
  chunk_same x = ap (λ o. chunk_in o x) (same x.array)

  pub any_same : (c : Chunk) (ps : List Put) → list_any (λ (p : Put). is_chunk (chunk_of (events ++ e ∷ []) p.0) c) ps ≡ list_any (λ (p : Put). is_chunk (chunk_of events p.0) c) ps
  any_same c [] = refl
  any_same c (p ∷ ps) = ap (λ d. is_chunk d c || list_any (λ (q : Put). is_chunk (chunk_of (events ++ e ∷ []) q.0) c) ps) (chunk_same p.0) ∙ ap (λ b. is_chunk (chunk_of events p.0) c || b) (any_same c ps)

  abbrev pub staged_longer : (ops : List Op) (w : ChunkWrite) (k : Known) → IsStagedFor events ops w k → IsStagedFor (events ++ e ∷ []) ops w k
  staged_longer ops w k is = record {
    known = same w.array ∙ is.known;
    valid = is.valid;
    named = is.named;
    written = any_same (chunk_of_write w) (puts_of ops) ∙ is.written;
    size = is.size;
    words = is.words;
    cells = is.cells;
  }

  key_plan_longer : (p : Planned) → IsKeyPlan events p → IsKeyPlan (events ++ e ∷ []) p
  key_plan_longer p is = record { chunk = is.chunk; array = is.array; known = same is.chunk.array ∙ is.known; valid = is.valid; of_array = is.of_array; of_index = is.of_index; named = is.named; left = is.left }

  pub key_plans_longer : (ps : List Planned) → AllByRecursion (IsKeyPlan events) ps → AllByRecursion (IsKeyPlan (events ++ e ∷ [])) ps
  key_plans_longer [] each = tt
  key_plans_longer (p ∷ ps) each = (key_plan_longer p each.0, key_plans_longer ps each.1)

-- the event of a key changes no array
abbrev pub key_known : (owner line : ℕ) (mode : Mode) (ops : List Op) (key : Key) (events : History) (a : ℕ) → known_after (events ++ key_event owner line mode ops key ∷ []) a ≡ known_after events a
key_known owner line mode ops key events a = known_after-more events (key_event owner line mode ops key) a

module _ (start : Contents) (owner line : ℕ) (mode : Mode) where
  -- a right plan is right behind the event of its key
  head_right : (log : Log) (ops : List Op) (w : ChunkWrite) (k : Known) (key : Key) (left : Left) → IsLegal start log.events → IsStagedFor log.events ops w k → key ≡ w.key → IsLeftOf k (chunk_of_write w) left
      → IsPlanOf start log.events (length log.events + 1) k w left → IsRightLeft start log (key_event owner line mode ops key) k (chunk_of_write w) left
  head_right log ops w k key (Stored bytes kept) legal is named stored plan =
      right_of_left start log.events owner (new_transaction line mode) ops (Some key) k (chunk_of_write w) w.staged.now is.known is.valid (touches_own owner line mode ops log.events (chunk_of_write w) k key is.known (is.named ∙ sym named))
      (staged_by log.events ops w k is) stored.0 (known_good start w.array log.events legal k is.known).kept bytes kept plan
  head_right log ops w k key (Held a cells) legal is named local plan =
      subst (λ n. IsRightLeft start log (key_event owner line mode ops key) k (chunk_of_write w) (Held a (record cells { generation = n }))) (sym plan.0)
      (held_snapshot start log.events owner (new_transaction line mode) ops (Some key) k (chunk_of_write w) w.staged.now is.known is.valid (touches_own owner line mode ops log.events (chunk_of_write w) k key is.known (is.named ∙ sym named))
      (staged_by log.events ops w k is) local.0 (local_shape start w.array log.events legal k is.known local.0) cells.cells plan.1)

  legal_front : (events : History) (ops : List Op) (p : Planned) (ps : List Planned) → IsLegal start (events ++ each_event owner line mode ops (keys_of (p ∷ ps))) → IsLegal start (events ++ key_event owner line mode ops p.key ∷ [])
  legal_front events ops p ps legal =
      IsLegal-front start (events ++ key_event owner line mode ops p.key ∷ []) (each_event owner line mode (filter is_write ops) (keys_of ps))
      (subst (IsLegal start) (sym (append_assoc events (key_event owner line mode ops p.key ∷ []) (each_event owner line mode (filter is_write ops) (keys_of ps)))) legal)

  -- the first of right plans
  pub first_right : (log : Log) (ops : List Op) (p : Planned) (ps : List Planned) → AllByRecursion (IsKeyPlan log.events) (p ∷ ps) → AreRightKeys start owner line mode log.events ops (p ∷ ps) → IsRightKey start log owner line mode ops p
  first_right log ops p ps each right = by right.writes right.are
    where
      legal : IsLegal start (log.events ++ key_event owner line mode ops p.key ∷ [])
      legal = legal_front log.events ops p ps right.legal

      parts : IsLegal start log.events × IsLegalDone start log.events ops
      parts = legal_step start log.events (key_event owner line mode ops p.key) legal

      by : (ws : List ChunkWrite) → AreRightPlans start log.events ops (length log.events + 1) ws (p ∷ ps) → IsRightKey start log owner line mode ops p
      by [] are = absurd are
      by (w ∷ ws) are = record {
        legal = parts.1;
        right = λ is.
            let k = are.0.0.0 in
            let staged = are.0.0.1 in
            let mine : key_of log.events is.chunk ≡ Some p.key = ap (λ o. key_in o is.chunk) is.known ∙ ap Some is.named in
            let its : key_of log.events (chunk_of_write w) ≡ Some p.key = ap (λ o. key_in o (chunk_of_write w)) staged.known ∙ ap Some (staged.named ∙ sym are.0.1) in
            let chunk : is.chunk ≡ chunk_of_write w = one_key start log.events parts.0 is.chunk (chunk_of_write w) is.array k p.key is.known staged.known is.valid staged.valid mine its in
            let array : is.array ≡ k = some_inj is.array k (sym is.known ∙ ap (λ (c : Chunk). known_after log.events c.array) chunk ∙ staged.known) in
            let left : IsLeftOf k (chunk_of_write w) p.left = subst (λ (c : Chunk). IsLeftOf k c p.left) chunk (subst (λ (l : Known). IsLeftOf l is.chunk p.left) array is.left) in
            subst (λ (c : Chunk). IsRightLeft start log (key_event owner line mode ops p.key) is.array c p.left) (sym chunk)
            (subst (λ (l : Known). IsRightLeft start log (key_event owner line mode ops p.key) l (chunk_of_write w) p.left) (sym array) (head_right log ops w k p.key p.left parts.0 staged are.0.1 left are.0.2));
      }

  -- and those behind it stay right once its event is there
  module _ (events : History) (ops : List Op) (key : Key) (legal : IsLegal start (events ++ key_event owner line mode ops key ∷ [])) where
    abbrev later : History
    later = events ++ key_event owner line mode ops key ∷ []

    plan_longer : (w : ChunkWrite) (k : Known) (number : ℕ) (left : Left) → known_after events w.array ≡ Some k → chunk_key k w.chunk.now ≡ w.key → bytes_eq key w.key ≡ false → IsPlanOf start events number k w left → IsPlanOf start later number k w left
    plan_longer w k number (Stored bytes kept) known named apart plan = (
      plan.0,
      left_longer start events (key_event owner line mode ops key ∷ []) k (chunk_of_write w) w.staged.now legal (key_known owner line mode ops key events w.array ∙ known)
          (generation_untouched events (key_event owner line mode ops key) (chunk_of_write w) (touches_other owner line mode ops events (chunk_of_write w) k key w.key known named apart)) plan.0 bytes plan.1,
      plan.2,
    )
    plan_longer w k number (Held a cells) known named apart plan = (
      plan.0,
      held_longer start events (key_event owner line mode ops key ∷ []) k (chunk_of_write w) w.staged.now legal (key_known owner line mode ops key events w.array ∙ known)
          (generation_untouched events (key_event owner line mode ops key) (chunk_of_write w) (touches_other owner line mode ops events (chunk_of_write w) k key w.key known named apart)) cells.cells plan.1,
    )

    plans_longer : (number : ℕ) (ws : List ChunkWrite) (ps : List Planned) → AllByRecursion (λ other. bytes_eq key other ≡ false) (keys_of ps) → AreRightPlans start events ops number ws ps → AreRightPlans start later (filter is_write ops) number ws ps
    plans_longer number [] [] apart are = tt
    plans_longer number [] (p ∷ ps) apart are = absurd are
    plans_longer number (w ∷ ws) [] apart are = absurd are
    plans_longer number (w ∷ ws) (p ∷ ps) apart are =
        let staged = are.0.0 in (
          (
            staged_writes later ops w (staged.0, staged_longer events (key_event owner line mode ops key) (key_known owner line mode ops key events) ops w staged.0 staged.1),
            are.0.1,
            plan_longer w staged.0 number p.left staged.1.known staged.1.named (ap (bytes_eq key) (sym are.0.1) ∙ apart.0) are.0.2,
          ),
          plans_longer (number + 1) ws ps apart.1 are.1,
        )

  pub rest_right : (events : History) (ops : List Op) (p : Planned) (ps : List Planned) → IsDistinct bytes_eq (keys_of (p ∷ ps)) → AreRightKeys start owner line mode events ops (p ∷ ps)
      → AreRightKeys start owner line mode (events ++ key_event owner line mode ops p.key ∷ []) (filter is_write ops) ps
  rest_right events ops p ps distinct right = by right.writes right.are
    where
      by : (ws : List ChunkWrite) → AreRightPlans start events ops (length events + 1) ws (p ∷ ps) → AreRightKeys start owner line mode (events ++ key_event owner line mode ops p.key ∷ []) (filter is_write ops) ps
      by [] are = absurd are
      by (w ∷ ws) are = record {
        legal = subst (IsLegal start) (sym (append_assoc events (key_event owner line mode ops p.key ∷ []) (each_event owner line mode (filter is_write ops) (keys_of ps)))) right.legal;
        writes = ws;
        are =
            subst (λ n. AreRightPlans start (events ++ key_event owner line mode ops p.key ∷ []) (filter is_write ops) (n + 1) ws ps) (sym (length-more events (key_event owner line mode ops p.key)))
            (plans_longer events ops p.key (legal_front events ops p ps right.legal) (length events + 1 + 1) ws ps (IsDistinct-head bytes_eq p.key (keys_of ps) distinct) are.1);
      }

  -- the event of a plan's key counts as a change exactly where the plan is one
  pub key_counted : (events : History) (ops : List Op) (p : Planned) → IsLegal start events → IsKeyPlan events p → is_change start events (Done line mode ops (Some p.key)) ≡ nat_lt 0 (length (changes_of (p ∷ [])))
  key_counted events ops p legal is = by p.left is.left
    where
      by : (left : Left) → IsLeftOf is.array is.chunk left → not (is_local_key events p.key) ≡ nat_lt 0 (length (change_of left p.key []))
      by (Stored bytes kept) stored = ap (λ key. not (is_local_key events key)) (sym is.named) ∙ ap not (stored_key start events legal is.chunk.array is.array is.chunk.index is.known stored.0)
      by (Held a cells) local = ap (λ key. not (is_local_key events key)) (sym is.named) ∙ ap not (local_key start events legal is.chunk.array is.array is.chunk.index is.known local.0)

-- in a state two chunks with one key are one, whatever the store told
pub one_key_in : (events : History) → IsLegal finmap.empty (outline events) → (c d : Chunk) (k l : Known) (key : Key) → known_after events c.array ≡ Some k → known_after events d.array ≡ Some l → IsIndexOf k.info c.index → IsIndexOf l.info d.index → chunk_key k c.index ≡ key → chunk_key l d.index ≡ key → c ≡ d
one_key_in events legal c d k l key known other valid right named same =
    one_key finmap.empty (outline events) legal c d k l key (known-outline c.array events ∙ known) (known-outline d.array events ∙ other) valid right
    (ap (λ o. key_in o c) (known-outline c.array events ∙ known) ∙ ap Some named) (ap (λ o. key_in o d) (known-outline d.array events ∙ other) ∙ ap Some same)
