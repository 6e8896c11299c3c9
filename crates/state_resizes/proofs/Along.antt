-- Chunk after chunk is filled in, while nothing but the cache changes.
use Rattle.std.proofs.Common.{◌≡◌, ◌≢◌, ℕ, ◌+◌, ◌<◌, List, [], ◌∷◌, ◌++◌, length, true, Option, Some, inl, inr, sym, ap, subst, ◌∙◌, arith}
use Rattle.std.specs.Prelude.{Contains, map, slice_index_or}
use Rattle.std.proofs.lemmas.List.{length-map}
use Rattle.cells.specs.Places.{index_vectors}
use Rattle.cells.proofs.Laws.{equal_or_not}
use Rattle.kv_face.specs.Store.{keys_of}
use Rattle.kv_face.specs.declared.change.Change.{Change}
use Rattle.history.specs.Arrays.{Known, known_after, chunk_shape}
use Rattle.history.specs.Grid.{grid_of}
use Rattle.history.specs.History.{History}
use Rattle.history.specs.Own.{fault}
use Rattle.history.specs.Refusals.{IsDamagedResize}
use Rattle.history.specs.Resizes.{cut_chunks, is_cut}
use Rattle.history.proofs.Laws.{kept_among, some_inj}
use Rattle.chunk_plans.specs.Writes.{IsSameButCache}
use Rattle.chunk_plans.specs.Agreement.{KeepsAgreement}
use Rattle.chunk_plans.specs.Log.{Log}
use Rattle.chunk_plans.specs.Seen.{StoreSeen, IsFrame}
use Rattle.chunk_plans.specs.declared.NewShape.{NewShape}
use Rattle.chunk_plans.specs.declared.FetchError.{FetchError}
use Rattle.chunk_plans.specs.declared.FetchError.TheVariants as fetch
use Rattle.state_resizes.specs.Answers.{fixed_by}
use Rattle.state_resizes.specs.Cuts.{AreCut, AreFilled, IsLeftBy, IsLeftOfCut, bytes_at}
use Rattle.state_resizes.specs.Refusals.{IsUnfilled}
use Rattle.state_resizes.proofs.Lists.{any_at}

-- one after another
pub same_then : (a b c : Log) → IsSameButCache a b → IsSameButCache b c → IsSameButCache a c
same_then a b c first second = record {
  events = second.events ∙ first.events;
  generations = second.generations ∙ first.generations;
  locals = second.locals ∙ first.locals;
}

-- each chunk of the list is one that is cut
pub cut_at : (events : History) (a : ℕ) (shape : List ℕ) (chunks : List (List ℕ)) (j : ℕ) (d : List ℕ) → AreCut events a shape chunks → j < length chunks → (k : Known) → known_after events a ≡ Some k
    → is_cut (chunk_shape k.info) k.shape shape (slice_index_or chunks j d) ≡ true
cut_at events a shape chunks j d cut low k known =
    let same : cut.array ≡ k = some_inj cut.array k (sym cut.known ∙ known) in
    let is : chunks ≡ cut_chunks k shape = cut.chunks_are ∙ ap (λ l. cut_chunks l shape) same in
    let there : Contains (cut_chunks k shape) (slice_index_or chunks j d) = subst (λ xs. Contains xs (slice_index_or chunks j d)) is (j, low, any_at chunks j (slice_index_or chunks j d) d low) in
    (kept_among (is_cut (chunk_shape k.info) k.shape shape) (index_vectors (grid_of k.shape (chunk_shape k.info))) (slice_index_or chunks j d) there).1

-- there is a change for each chunk, and one more
pub enough : (changes : List Change) (chunks : List (List ℕ)) (keys : List (List ℕ)) (key : List ℕ) (f : List ℕ → List ℕ) (place : ℕ) → keys_of changes ≡ keys → keys ≡ key ∷ map f chunks → place < length chunks → place + 1 < length changes
enough changes chunks keys key f place same is low =
    let count : length changes ≡ length (key ∷ map f chunks) = sym (length-map changes (λ (c : Change). c.key)) ∙ ap length (same ∙ is) in
    let more = length-map chunks f in
    omega arith

module _ (store next : StoreSeen) (log later : Log) (same : IsSameButCache log later) (keeps : KeepsAgreement store log next later) where
  -- what was right of a chunk behind some looks was right before them
  pub left_before : (a : ℕ) (shape index : List ℕ) (bytes : Option (List ℕ)) → IsLeftBy next later a shape index bytes → IsLeftBy store log a shape index bytes
  left_before a shape index bytes left = λ opening start k agrees told known.
      subst (λ h. IsLeftOfCut start h k (record { array = a; index = index }) shape bytes) same.events (left opening start k (keeps opening agrees) told (ap (λ h. known_after h a) same.events ∙ known))

  pub unfilled_before : (owner : ℕ) (new : NewShape) (last : StoreSeen) (end : Log) (e : FetchError) → IsFrame store next → IsUnfilled owner new next last later end e → IsUnfilled owner new store last log end e
  unfilled_before owner new last end (fetch.StoreFailed event) frame failed = record {
    rose = let low = frame.faults in let high = failed.rose in omega arith;
    events = failed.events ∙ ap (λ h. h ++ fault owner new.mount ∷ []) same.events;
    generations = failed.generations ∙ same.generations;
    locals = failed.locals ∙ same.locals;
    number = failed.number ∙ ap (λ (h : History). length h + 1) same.events;
  }
  unfilled_before owner new last end (fetch.Damaged key cause) frame damaged = (
    same_then log later end same damaged.0,
    λ opening start agrees told. subst (λ h. IsDamagedResize (fixed_by opening start) h new.array new.shape key cause) same.events (damaged.1 opening start (keeps opening agrees) told),
  )
  unfilled_before owner new last end fetch.Memory frame still = same_then log later end same still

-- one chunk more
pub filled_more : (store : StoreSeen) (log : Log) (a : ℕ) (shape : List ℕ) (chunks : List (List ℕ)) (changes more : List Change) (place : ℕ) (bytes : Option (List ℕ)) → AreFilled store log a shape chunks changes place
    → IsLeftBy store log a shape (slice_index_or chunks place []) bytes → bytes_at more (place + 1) ≡ bytes → ((j : ℕ) → j ≢ place + 1 → bytes_at more j ≡ bytes_at changes j) → AreFilled store log a shape chunks more (place + 1)
filled_more store log a shape chunks changes more place bytes filled left here others j low =
    elim (equal_or_not j place) [
      | inl last ↦ subst (λ i. IsLeftBy store log a shape (slice_index_or chunks i []) (bytes_at more (i + 1))) (sym last) (subst (IsLeftBy store log a shape (slice_index_or chunks place [])) (sym here) left)
      | inr other ↦
          (let before : j < place = omega (arith, low, other) in
          subst (IsLeftBy store log a shape (slice_index_or chunks j [])) (sym (others (j + 1) (λ same. other (omega (arith, same))))) (filled j before))
    ]
