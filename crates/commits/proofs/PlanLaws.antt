-- Plans of a commit are its deed.
use Rattle.std.proofs.Common.{◌≡◌, ℕ, ◌+◌, ◌⊎◌, inl, inr, List, [], ◌∷◌, ◌++◌, length, true, false, Option, Some, refl, sym, ap, subst, ◌∙◌, arith}
use Rattle.std.specs.List.{AllByRecursion, IsDistinct}
use Rattle.std.specs.Str.{bytes_eq}
use Rattle.std.proofs.lemmas.Map.Keys.{IsDistinct-head, IsDistinct-tail}
use Rattle.cells.specs.Dense.{DenseCells}
use Rattle.kv_face.specs.Store.{Contents, keys_of as keys_changed}
use Rattle.kv_face.specs.declared.change.Change.{Change}
use Rattle.history.specs.declared.event.Event.{Event}
use Rattle.history.specs.History.{History}
use Rattle.history.specs.Arrays.{Known, known_after, is_local}
use Rattle.history.specs.Chunks.{Chunk, IsIndexOf, chunk_key, key_in}
use Rattle.history.specs.Generations.{IsKeyTouched}
use Rattle.history.specs.Store.{IsChanged, IsChunkKept, shape_when_touched}
use Rattle.history.specs.Stored.{HasBytes, AreChangesOf}
use Rattle.history.specs.Touch.{touches}
use Rattle.history.proofs.Laws.{known_after-more, some_inj, opened_le, length-more, generation_touched}
use Rattle.chunk_plans.specs.declared.Commit.{Commit}
use Rattle.chunk_plans.specs.Recorded.{done_event}
use Rattle.chunk_plans.specs.Changing.{IsOneOf, AreTouched}
use Rattle.chunk_plans.specs.Log.{Log}
use Rattle.chunk_plans.specs.declared.plan.Left.{Left}
use Rattle.chunk_plans.specs.declared.plan.Left.TheVariants.{Stored, Held}
use Rattle.chunk_plans.specs.declared.plan.Planned.{Planned}
use Rattle.commits.specs.Plans.{IsPlanned, IsRightLeft, IsRightPlan, keys_of, HasPlan, ArePlans, change_of, changes_of}
use Rattle.chunk_plans.specs.Leaving.{IsLeftOf}

-- the plan of a key
pub record HasPlanOf (P : Planned → Type 0) (key : List ℕ) : Type 0 where
  pub plan : Planned
  pub named : plan.key ≡ key
  pub holds : P plan

plan_at : (P : Planned → Type 0) (key : List ℕ) (plans : List Planned) → AllByRecursion P plans → IsOneOf (keys_of plans) key → HasPlanOf P key
plan_at P key [] all one = absurd one
plan_at P key (p ∷ plans) all (inl same) = record { plan = p; named = same; holds = all.0 }
plan_at P key (p ∷ plans) all (inr more) = plan_at P key plans all.1 more

-- keys of changes are some of those of the plans
apart_by : (k key : List ℕ) (left : Left) (changes : List Change) → bytes_eq k key ≡ false → AllByRecursion (λ y. bytes_eq k y ≡ false) (keys_changed changes) → AllByRecursion (λ y. bytes_eq k y ≡ false) (keys_changed (change_of left key changes))
apart_by k key (Stored bytes kept) changes other apart = (other, apart)
apart_by k key (Held a cells) changes other apart = apart

apart_changes : (k : List ℕ) (ps : List Planned) → AllByRecursion (λ y. bytes_eq k y ≡ false) (keys_of ps) → AllByRecursion (λ y. bytes_eq k y ≡ false) (keys_changed (changes_of ps))
apart_changes k [] apart = tt
apart_changes k (p ∷ ps) apart = apart_by k p.key p.left (changes_of ps) apart.0 (apart_changes k ps apart.1)

distinct_by : (key : List ℕ) (left : Left) (changes : List Change) → AllByRecursion (λ y. bytes_eq key y ≡ false) (keys_changed changes) → IsDistinct bytes_eq (keys_changed changes) → IsDistinct bytes_eq (keys_changed (change_of left key changes))
unfolding IsDistinct
distinct_by key (Stored bytes kept) changes apart distinct = (apart, distinct)
distinct_by key (Held a cells) changes apart distinct = distinct

distinct_changes : (ps : List Planned) → IsDistinct bytes_eq (keys_of ps) → IsDistinct bytes_eq (keys_changed (changes_of ps))
distinct_changes [] distinct = distinct
distinct_changes (p ∷ ps) distinct =
    distinct_by p.key p.left (changes_of ps) (apart_changes p.key ps (IsDistinct-head bytes_eq p.key (keys_of ps) distinct)) (distinct_changes ps (IsDistinct-tail bytes_eq p.key (keys_of ps) distinct))

module _ (log : Log) (owner : ℕ) (commit : Commit) (plans : List Planned) (are : ArePlans log (done_event owner commit) plans) where
  abbrev h : History
  h = log.events

  abbrev e : Event
  e = done_event owner commit

  same : (a : ℕ) → known_after (h ++ e ∷ []) a ≡ known_after h a
  same = known_after-more h e

  -- the plan of a chunk has its array and its key
  array_is : (c : Chunk) (k : Known) (p : Planned) (is : IsPlanned log e p) → is.chunk ≡ c → known_after h c.array ≡ Some k → is.array ≡ k
  array_is c k p is chunk known = some_inj is.array k (sym is.known ∙ ap (λ (d : Chunk). known_after h d.array) chunk ∙ known)

  key_is : (c : Chunk) (k : Known) (p : Planned) (is : IsPlanned log e p) → is.chunk ≡ c → known_after h c.array ≡ Some k → p.key ≡ chunk_key k c.index
  key_is c k p is chunk known = sym is.named ∙ ap (λ (l : Known). chunk_key l is.chunk.index) (array_is c k p is chunk known) ∙ ap (λ (d : Chunk). chunk_key k d.index) chunk

  key_planned : (c : Chunk) (k : Known) (ps : List Planned) → known_after h c.array ≡ Some k → HasPlan log e c ps → IsOneOf (keys_of ps) (chunk_key k c.index)
  key_planned c k [] known has = has
  key_planned c k (p ∷ ps) known (inl here) = inl (key_is c k p here.0 here.1 known)
  key_planned c k (p ∷ ps) known (inr more) = inr (key_planned c k ps known more)

  touched_all : (c : Chunk) (key : List ℕ) → IsKeyTouched h e c key → IsOneOf (keys_of plans) key
  touched_all c key it =
      let known = sym (same c.array) ∙ it.has.known in
      let named : chunk_key it.has.array c.index ≡ key = some_inj (chunk_key it.has.array c.index) key (sym (ap (λ o. key_in o c) it.has.known) ∙ it.has.named) in
      subst (IsOneOf (keys_of plans)) named (key_planned c it.has.array plans known (are.all c it.has.array known it.has.valid it.touched))

  key_touched : (p : Planned) (key : List ℕ) → p.key ≡ key → IsPlanned log e p → (c : Chunk) × IsKeyTouched h e c key
  key_touched p key named is = (
    is.chunk,
    record {
      has = record {
        array = is.array;
        known = same is.chunk.array ∙ is.known;
        valid = is.valid;
        named = ap (λ o. key_in o is.chunk) (same is.chunk.array ∙ is.known) ∙ ap Some (is.named ∙ named);
      };
      touched = is.touched;
      opened = opened_le is.chunk.array h is.array is.known;
    },
  )

  -- their keys are those of the chunks that the event touches
  pub plans_touched : AreTouched h e (keys_of plans)
  plans_touched = record {
    all = touched_all;
    only = λ key one. let there = plan_at (IsPlanned log e) key plans are.each one in key_touched there.plan key there.named there.holds;
  }

  length_more : length (h ++ e ∷ []) ≡ length h + 1
  length_more = length-more h e

  -- a stored chunk of a plan is changed behind the event
  changed : (c : Chunk) (k : Known) → known_after h c.array ≡ Some k → IsIndexOf k.info c.index → touches h e c ≡ true → is_local k.info.home ≡ false → IsChanged (h ++ e ∷ []) k c
  changed c k known valid t stored = record {
    known = same c.array ∙ known;
    stored = stored;
    valid = valid;
    touched = let now = generation_touched h e c t in let low = opened_le c.array h k known in omega arith;
  }

  module _ (start : Contents) (right : AllByRecursion (IsRightPlan start log e) plans) where
    -- a change of a key is that of its plan
    bytes_of : (p : Planned) (rest : List Planned) (key : List ℕ) (bytes : Option (List ℕ)) (left : Left) → p.left ≡ left → HasBytes (change_of left p.key (changes_of rest)) key bytes
        → ((p.key ≡ key) × ((kept : Option DenseCells) × (left ≡ Stored bytes kept))) ⊎ HasBytes (changes_of rest) key bytes
    bytes_of p rest key bytes (Stored b kept) is (inl here) = inl (here.0, (kept, ap (λ o. Stored o kept) here.1))
    bytes_of p rest key bytes (Stored b kept) is (inr more) = inr more
    bytes_of p rest key bytes (Held a cells) is more = inr more

    -- there is a stored plan for each change
    change_planned : (ps : List Planned) (key : List ℕ) (bytes : Option (List ℕ)) → AllByRecursion (IsPlanned log e) ps → HasBytes (changes_of ps) key bytes → HasPlanOf (λ p. IsPlanned log e p × ((kept : Option DenseCells) × (p.left ≡ Stored bytes kept))) key
    change_planned [] key bytes all has = absurd has
    change_planned (p ∷ ps) key bytes all has = elim (bytes_of p ps key bytes p.left refl has) [
      | inl here ↦ record { plan = p; named = here.0; holds = (all.0, here.1) }
      | inr more ↦ change_planned ps key bytes all.1 more
    ]

    more_changes : (left : Left) (key other : List ℕ) (bytes : Option (List ℕ)) (changes : List Change) → HasBytes changes other bytes → HasBytes (change_of left key changes) other bytes
    more_changes (Stored b kept) key other bytes changes has = inr has
    more_changes (Held a cells) key other bytes changes has = has

    -- what a chunk of a stored array gets
    pub record HasChange (key : List ℕ) (c : Chunk) (k : Known) (ps : List Planned) : Type 0 where
      pub bytes : Option (List ℕ)
      pub has : HasBytes (changes_of ps) key bytes
      pub kept : IsChunkKept start (h ++ e ∷ []) k c (shape_when_touched (h ++ e ∷ []) c) bytes

    -- the plan of a key is that of the chunk
    change_of_plan : (p : Planned) (ps : List Planned) (key : List ℕ) (c : Chunk) (k : Known) (left : Left) → p.left ≡ left → p.key ≡ key → (is : IsPlanned log e p) → IsRightPlan start log e p → is.chunk ≡ c → is.array ≡ k → is_local k.info.home ≡ false
        → HasChange key c k (p ∷ ps)
    change_of_plan p ps key c k (Stored bytes kept) left named is right chunk array stored = record {
      bytes = bytes;
      has = subst (λ l. HasBytes (change_of l p.key (changes_of ps)) key bytes) (sym left) (inl (named, refl));
      kept =
          subst (λ (d : Chunk). IsChunkKept start (h ++ e ∷ []) k d (shape_when_touched (h ++ e ∷ []) d) bytes) chunk
          (subst (λ l. IsChunkKept start (h ++ e ∷ []) l is.chunk (shape_when_touched (h ++ e ∷ []) is.chunk) bytes) array (subst (IsRightLeft start log e is.array is.chunk) left (right is)).0);
    }
    change_of_plan p ps key c k (Held a cells) left named is right chunk array stored =
        let local : IsLeftOf is.array is.chunk (Held a cells) = subst (IsLeftOf is.array is.chunk) left is.left in
        let clash : true ≡ false = sym local.0 ∙ ap (λ (l : Known). is_local l.info.home) array ∙ stored in
        absurd (cc)

    change_at : (ps : List Planned) (key : List ℕ) (c : Chunk) (k : Known) → AllByRecursion (IsRightPlan start log e) ps → HasPlan log e c ps → known_after h c.array ≡ Some k → chunk_key k c.index ≡ key → is_local k.info.home ≡ false
        → HasChange key c k ps
    change_at [] key c k rights has known named stored = absurd has
    change_at (p ∷ ps) key c k rights (inl here) known named stored =
        change_of_plan p ps key c k p.left refl (key_is c k p here.0 here.1 known ∙ named) here.0 rights.0 here.1 (array_is c k p here.0 here.1 known) stored
    change_at (p ∷ ps) key c k rights (inr more) known named stored =
        let there = change_at ps key c k rights.1 more known named stored in
        record { bytes = there.bytes; has = more_changes p.left p.key key there.bytes (changes_of ps) there.has; kept = there.kept }

    -- the changes of the plans are those of the event
    pub plans_changes : AreChangesOf start h e (changes_of plans)
    plans_changes = record {
      change = tt;
      chunks = λ c k key t is named.
          let known = sym (same c.array) ∙ is.known in
          let text : chunk_key k c.index ≡ key = some_inj (chunk_key k c.index) key (sym (ap (λ o. key_in o c) is.known) ∙ named) in
          let there = change_at plans key c k right (are.all c k known is.valid t) known text is.stored in
          (there.bytes, there.has, there.kept);
      metadata = λ a k key t has. absurd (cc);
      others = λ key free meta bytes has.
          let there = change_planned plans key bytes are.each has in
          let is = there.holds.0 in
          let stored : IsLeftOf is.array is.chunk (Stored bytes there.holds.1.0) = subst (IsLeftOf is.array is.chunk) there.holds.1.1 is.left in
          free is.chunk is.array is.touched (changed is.chunk is.array is.known is.valid is.touched stored.0) (ap (λ o. key_in o is.chunk) (same is.chunk.array ∙ is.known) ∙ ap Some (is.named ∙ there.named));
      distinct = distinct_changes plans are.distinct;
    }
