-- What comes of a resize.
use Rattle.std.proofs.Common.{◌≡◌, ℕ, ◌+◌, ◌<◌, ◌≤◌, List, [], ◌∷◌, ◌++◌, length, map, true, false, Option, Some, refl, sym, ap, subst, ◌∙◌, arith}
use Rattle.std.specs.Prelude.{Result, Ok, Err, IfOk, OnOk, OnErr, slice_index_or}
use Rattle.std.proofs.lemmas.List.{length-map}
use Rattle.chunk_forms.specs.Metadata.{metadata_text}
use Rattle.kv_face.specs.Store.{Contents, keys_of}
use Rattle.kv_face.specs.declared.change.Change.{Change}
use Rattle.history.specs.Arrays.{Known, known_after, chunk_shape}
use Rattle.history.specs.Chunks.{chunk_key, metadata_key}
use Rattle.history.specs.Commit.{are_together}
use Rattle.history.specs.History.{History}
use Rattle.history.specs.Legal.{IsLegalResize, MayTake}
use Rattle.history.specs.Own.{fault, resized_event}
use Rattle.history.specs.ReadRows.{IsOnMount}
use Rattle.history.specs.Refusals.{HasTooManyCut, all_resized_keys, resized_keys}
use Rattle.history.specs.ResizeRows.{MayResize, HasNoDamagedPart}
use Rattle.history.specs.Resizes.{cut_chunks}
use Rattle.history.specs.Stored.{AreChangesOf}
use Rattle.history.proofs.Laws.{some_inj}
use Rattle.chunk_plans.specs.Recorded.{with_numbers}
use Rattle.chunk_plans.specs.Writes.{IsSameButCache}
use Rattle.chunk_plans.proofs.Laws.{valid_ranks}
use Rattle.chunk_plans.specs.Agreement.{Opening, Agrees, IsState, KeepsAgreement}
use Rattle.chunk_plans.specs.Changing.{IsRightShape, KeepsByShape, resized}
use Rattle.chunk_plans.specs.Fetches.{HasFailed}
use Rattle.chunk_plans.specs.Log.{Log}
use Rattle.chunk_plans.specs.Seen.{StoreSeen, IsFrame, IsQuiet, IsRead}
use Rattle.chunk_plans.specs.declared.ChangeError.{ChangeError}
use Rattle.chunk_plans.specs.declared.ChangeError.TheVariants as change
use Rattle.chunk_plans.specs.declared.NewShape.{NewShape}
use Rattle.chunk_plans.specs.declared.FetchError.{FetchError}
use Rattle.chunk_plans.specs.declared.FetchError.TheVariants as fetch
use Rattle.chunk_plans.proofs.Laws.{frame_same, frame_then, good_in}
use Rattle.state_resizes.specs.declared.error.ResizeError.TheVariants as error
use Rattle.state_resizes.specs.declared.keys.Asked.{Asked}
use Rattle.state_resizes.specs.Answers.{IsResize, fixed_by}
use Rattle.state_resizes.specs.Cuts.{AreAsked, AreCut, AreFilled, IsLeftOfCut, bytes_at}
use Rattle.state_resizes.specs.Refusals.{IsUnfilled, answer_by, refusal_by}
use Rattle.state_resizes.proofs.Cut.{keys_are}
use Rattle.state_resizes.proofs.Made.{chunks_of_array, keys_named}
use Rattle.state_resizes.proofs.Right.{changes_right, no_damage}

quiet_same : (store : StoreSeen) → IsQuiet store store
quiet_same store = record { frame = frame_same store; contents = refl; changes = refl }

-- memory was wanting before anything was done
pub nothing_done : (owner a : ℕ) (shape : List ℕ) (store : StoreSeen) (log : Log) → IsResize owner a shape store store log log (Err error.Memory)
nothing_done owner a shape store log = record {
  answer = λ opening start agrees. refl;
  kept = λ opening agrees. agrees;
  frame = frame_same store;
  quiet = quiet_same store;
  rose = λ event is. absurd (cc);
  told = λ rose. absurd (omega (arith, rose));
  numbers = tt;
  generations = refl;
  locals = refl;
}

-- too many chunks are cut
pub too_many : (owner a : ℕ) (shape : List ℕ) (store : StoreSeen) (log : Log) → HasTooManyCut (known_after log.events a) shape → IsResize owner a shape store store log log (Err (error.TooManyChunks (length log.events)))
too_many owner a shape store log many = record {
  answer = λ opening start agrees. record { many = many; after = refl; same = refl };
  kept = λ opening agrees. agrees;
  frame = frame_same store;
  quiet = quiet_same store;
  rose = λ event is. absurd (cc);
  told = λ rose. absurd (omega (arith, rose));
  numbers = tt;
  generations = refl;
  locals = refl;
}

-- the keys of a resize, as the history lists them
pub listed_keys : (k : Known) (a : ℕ) (shape key : List ℕ) → metadata_key k ≡ Some key → all_resized_keys (metadata_key k) (resized_keys k a shape) ≡ key ∷ map (chunk_key k) (cut_chunks k shape)
listed_keys k a shape key named = ap (λ o. all_resized_keys o (resized_keys k a shape)) named ∙ ap (λ ks. key ∷ ks) (keys_are k a (cut_chunks k shape))

few_of : (o : Option Known) (k : Known) (shape : List ℕ) → o ≡ Some k → MayTake k shape → ¬ HasTooManyCut o shape
few_of o k shape is may many =
    let lots : 65536 < length (cut_chunks k shape) = subst (λ p. HasTooManyCut p shape) is many in
    let few = may.few in
    omega arith

module _ (owner : ℕ) (store : StoreSeen) (log : Log) (chunks : List (List ℕ)) (asked : Asked) (state : IsState store log) (are : AreAsked log.events chunks asked) (cut : AreCut log.events asked.plan.array asked.plan.shape chunks) where
  abbrev a : ℕ
  a = asked.plan.array

  abbrev shape : List ℕ
  shape = asked.plan.shape

  abbrev k : Known
  k = are.begun.array

  all_keys : (changes : List Change) → keys_of changes ≡ keys_of asked.changes.items → keys_of changes ≡ all_resized_keys (metadata_key k) (resized_keys k a shape)
  all_keys changes same = keys_named store log chunks asked state are cut changes same ∙ sym (listed_keys k a shape are.key are.named)

  -- the store can't make them together
  pub split_keys : are_together store.prefixes (keys_of asked.changes.items) ≡ false → IsResize owner a shape store store log log (Err (error.NotAtomic (length asked.changes.items)))
  split_keys apart =
      let named = all_keys asked.changes.items refl in
      record {
        answer = λ opening start agrees. record {
          few = few_of (known_after log.events a) k shape are.begun.known are.begun.may;
          apart = record {
            known = k;
            is_known = are.begun.known;
            apart = ap (λ ps. are_together ps (all_resized_keys (metadata_key k) (resized_keys k a shape))) (sym agrees.frame.prefixes) ∙ ap (are_together store.prefixes) (sym named) ∙ apart;
            count = sym (length-map asked.changes.items (λ (c : Change). c.key)) ∙ ap length named;
          };
          same = refl;
        };
        kept = λ opening agrees. agrees;
        frame = frame_same store;
        quiet = quiet_same store;
        rose = λ event is. absurd (cc);
        told = λ rose. absurd (omega (arith, rose));
        numbers = tt;
        generations = refl;
        locals = refl;
      }

  module _ (together : are_together store.prefixes (keys_of asked.changes.items) ≡ true) where
    -- the array may be resized
    pub may_resize : (opening : Opening) (start : Contents) → Agrees opening store log → MayResize (fixed_by opening start) log.events a shape
    may_resize opening start agrees = record {
      legal = subst (λ o. IsLegalResize o shape) (sym are.begun.known) are.begun.may;
      whole = λ keys split.
          let same : split.known ≡ k = some_inj split.known k (sym split.is_known ∙ are.begun.known) in
          let named = all_keys asked.changes.items refl in
          let apart : are_together opening.store.prefixes (all_resized_keys (metadata_key k) (resized_keys k a shape)) ≡ false =
          subst (λ (l : Known). are_together opening.store.prefixes (all_resized_keys (metadata_key l) (resized_keys l a shape)) ≡ false) same split.apart in
          let clash : true ≡ false = sym together ∙ ap (are_together store.prefixes) named ∙ ap (λ ps. are_together ps (all_resized_keys (metadata_key k) (resized_keys k a shape))) agrees.frame.prefixes ∙ apart in
          absurd (cc);
    }

    on_mount : IsOnMount asked.plan.mount (known_after log.events a)
    on_mount = subst (IsOnMount asked.plan.mount) (sym are.begun.known) are.begun.mount

    -- a chunk wasn't read
    pub not_read : (next : StoreSeen) (later : Log) (e : FetchError) → IsRead store next → KeepsAgreement store log next later → (store.faults < next.faults → (event : ℕ) × (e ≡ fetch.StoreFailed event)) → IsUnfilled owner asked.plan store next log later e → IsResize owner a shape store next log later (Err (refusal_by e))
    not_read next later (fetch.StoreFailed event) read keeps told failed = record {
      answer = λ opening start agrees. record { may = may_resize opening start agrees; mount = asked.plan.mount; on_mount = on_mount; number = failed.number; added = failed.events };
      kept = keeps;
      frame = read.frame;
      quiet = record { frame = read.frame; contents = read.contents; changes = read.changes };
      rose = λ n is. failed.rose;
      told = λ rose. (event, refl);
      numbers = tt;
      generations = failed.generations;
      locals = failed.locals;
    }
    not_read next later (fetch.Damaged key cause) read keeps told damaged = record {
      answer = λ opening start agrees. record { may = may_resize opening start agrees; damaged = λ told. damaged.1 opening start agrees told; same = damaged.0.events };
      kept = keeps;
      frame = read.frame;
      quiet = record { frame = read.frame; contents = read.contents; changes = read.changes };
      rose = λ n is. absurd (cc);
      told = λ rose. let why = told rose in let clash = why.1 in absurd (cc);
      numbers = tt;
      generations = damaged.0.generations;
      locals = damaged.0.locals;
    }
    not_read next later fetch.Memory read keeps told same = record {
      answer = λ opening start agrees. same.events;
      kept = keeps;
      frame = read.frame;
      quiet = record { frame = read.frame; contents = read.contents; changes = read.changes };
      rose = λ n is. absurd (cc);
      told = λ rose. let why = told rose in let clash = why.1 in absurd (cc);
      numbers = tt;
      generations = same.generations;
      locals = same.locals;
    }

    module _ (next : StoreSeen) (middle : Log) (full : Asked) (new : full.plan ≡ asked.plan) (keys : keys_of full.changes.items ≡ keys_of asked.changes.items) (meta : bytes_at full.changes.items 0 ≡ bytes_at asked.changes.items 0)
        (filled : AreFilled store log a shape chunks full.changes.items (length chunks)) (same : IsSameButCache log middle) (read : IsRead store next) (steady : next.faults ≤ store.faults) (keeps : KeepsAgreement store log next middle) where
      rank : length (chunk_shape k.info) ≡ length shape
      rank = valid_ranks k.info k.info.home (good_in log.events state.1.outline a k are.begun.known).kept are.begun.may.stored ∙ sym are.begun.may.rank

      filled_by : (opening : Opening) (start : Contents) → Agrees opening store log → opening.store.contents ≡ Some start → (j : ℕ) → j < length (cut_chunks k shape)
          → IsLeftOfCut start log.events k (record { array = a; index = slice_index_or (cut_chunks k shape) j [] }) shape (bytes_at full.changes.items (j + 1))
      filled_by opening start agrees told =
          subst (λ xs. (j : ℕ) → j < length xs → IsLeftOfCut start log.events k (record { array = a; index = slice_index_or xs j [] }) shape (bytes_at full.changes.items (j + 1))) (chunks_of_array store log chunks asked state are cut)
          (λ j low. filled j low opening start k agrees told are.begun.known)

      -- by each opening that told its contents the changes are right
      right_shape : (opening : Opening) → Agrees opening store log → IsRightShape opening log owner asked.plan full.changes.items
      right_shape opening agrees start told =
          changes_right start log.events owner a k shape state.1.outline are.begun.known are.begun.may.stored (good_in log.events state.1.outline a k are.begun.known).kept rank full.changes.items are.key are.named
          (keys_named store log chunks asked state are cut full.changes.items keys) (meta ∙ are.metadata ∙ ap (λ f. Some (metadata_text f)) are.begun.form) (filled_by opening start agrees told)

      undamaged : (opening : Opening) (start : Contents) → Agrees opening store log → opening.store.contents ≡ Some start → HasNoDamagedPart (fixed_by opening start) log.events a shape
      undamaged opening start agrees told =
          no_damage start log.events owner a k shape state.1.outline are.begun.known are.begun.may.stored (good_in log.events state.1.outline a k are.begun.known).kept rank full.changes.items are.key are.named
          (keys_named store log chunks asked state are cut full.changes.items keys) (meta ∙ are.metadata ∙ ap (λ f. Some (metadata_text f)) are.begun.form) (filled_by opening start agrees told) (fixed_by opening start) refl

      right_then : (opening : Opening) → Agrees opening store log → IsRightShape opening middle owner full.plan full.changes.items
      right_then opening agrees =
          subst (λ n. IsRightShape opening middle owner n full.changes.items) (sym new) (subst (λ h. (start : Contents) → opening.store.contents ≡ Some start → AreChangesOf start h (resized_event owner a shape) full.changes.items) (sym same.events) (right_shape opening agrees))

      numbered : with_numbers (length middle.events + 1) middle.generations full.plan.keys.items ≡ with_numbers (length log.events + 1) log.generations (resized_keys k a shape)
      numbered =
          ap (λ (h : History). with_numbers (length h + 1) middle.generations full.plan.keys.items) same.events ∙ ap (λ t. with_numbers (length log.events + 1) t full.plan.keys.items) same.generations
          ∙ ap (with_numbers (length log.events + 1) log.generations)
          (ap (λ (n : NewShape). n.keys.items) new ∙ are.keys ∙ ap (map (chunk_key k)) (chunks_of_array store log chunks asked state are cut) ∙ sym (keys_are k a (cut_chunks k shape)))

      quiet_then : (last : StoreSeen) → IsQuiet next last → IsQuiet store last
      quiet_then last quiet = record {
        frame = frame_then store next last read.frame quiet.frame;
        contents = quiet.contents ∙ read.contents;
        changes = quiet.changes ∙ read.changes;
      }

      -- the shape was given, or the call that gives it failed
      pub made_or_not : (last : StoreSeen) (later : Log) (r : Result ℕ ChangeError) → IfOk r (λ n. n ≡ length middle.events + 1) → OnOk r (later ≡ resized middle owner full.plan)
          → ((event : ℕ) → r ≡ Err (change.StoreFailed event) → HasFailed owner full.plan.mount next last middle later event) → (next.faults < last.faults → (event : ℕ) × (r ≡ Err (change.StoreFailed event))) → (r ≡ Err change.Memory → later ≡ middle) → OnErr r (IsQuiet next last) → IsFrame next last
          → KeepsByShape next middle owner full.plan full.changes.items last later → IsResize owner a shape store last log later (answer_by r)
      made_or_not last later (Ok n) number after failed told memory quiet frame by_shape = record {
        answer = λ opening start agrees. record {
          may = may_resize opening start agrees;
          sound = λ told. undamaged opening start agrees told;
          number = number ∙ ap (λ (h : History). length h + 1) same.events;
          added = ap (λ (l : Log). l.events) after ∙ ap (λ (h : History). h ++ resized_event owner full.plan.array full.plan.shape ∷ []) same.events
              ∙ ap (λ (m : NewShape). log.events ++ resized_event owner m.array m.shape ∷ []) new;
        };
        kept = λ opening agrees. by_shape opening (keeps opening agrees) (right_then opening agrees);
        frame = frame_then store next last read.frame frame;
        quiet = tt;
        rose = λ event is. absurd (cc);
        told = λ rose. let why = told (omega (arith, rose, steady)) in let clash = why.1 in absurd (cc);
        numbers = λ l known. ap (λ (m : Log). m.generations) after ∙ numbered ∙ ap (λ (m : Known). with_numbers (length log.events + 1) log.generations (resized_keys m a shape)) (some_inj k l (sym are.begun.known ∙ known));
        generations = tt;
        locals = ap (λ (l : Log). l.locals) after ∙ same.locals;
      }
      made_or_not last later (Err (change.StoreFailed event)) number after failed told memory quiet frame by_shape =
          let has = failed event refl in record {
            answer = λ opening start agrees. record {
              may = may_resize opening start agrees;
              mount = asked.plan.mount;
              on_mount = on_mount;
              number = has.number ∙ ap (λ (h : History). length h + 1) same.events;
              added = ap (λ (l : Log). l.events) has.added ∙ ap (λ (h : History). h ++ fault owner full.plan.mount ∷ []) same.events ∙ ap (λ (m : NewShape). log.events ++ fault owner m.mount ∷ []) new;
            };
            kept = λ opening agrees. by_shape opening (keeps opening agrees) (right_then opening agrees);
            frame = frame_then store next last read.frame frame;
            quiet = quiet_then last quiet;
            rose = λ n is. let low = read.frame.faults in let high = has.rose in omega arith;
            told = λ rose. (event, refl);
            numbers = tt;
            generations = ap (λ (l : Log). l.generations) has.added ∙ same.generations;
            locals = ap (λ (l : Log). l.locals) has.added ∙ same.locals;
          }
      made_or_not last later (Err change.Memory) number after failed told memory quiet frame by_shape =
          let still = memory refl in record {
            answer = λ opening start agrees. ap (λ (l : Log). l.events) still ∙ same.events;
            kept = λ opening agrees. by_shape opening (keeps opening agrees) (right_then opening agrees);
            frame = frame_then store next last read.frame frame;
            quiet = quiet_then last quiet;
            rose = λ n is. absurd (cc);
            told = λ rose. let why = told (omega (arith, rose, steady)) in let clash = why.1 in absurd (cc);
            numbers = tt;
            generations = ap (λ (l : Log). l.generations) still ∙ same.generations;
            locals = ap (λ (l : Log). l.locals) still ∙ same.locals;
          }
