-- What a look at a chunk leaves of the log.
use Rattle.std.proofs.Common.{◌≡◌, ℕ, List, Bool, true, false, cond, Option, Some, None, refl, sym, ap, subst, ◌∙◌}
use Rattle.std.specs.Prelude.{◌==◌, IsSome, Result, Ok, Err, IfOk, IfSome}
use Rattle.std.specs.Result.{IsErr, IsErrAnd}
use Rattle.chunk_cache.specs.Cache.{after_hit, after_keep}
use Rattle.chunk_cache.specs.Snapshot.{SnapshotCells}
use Rattle.history.specs.Arrays.{Known, is_local}
use Rattle.shared_state.specs.Fetches.{IsAnswered, generation_in, looked_at, settled}
use Rattle.shared_state.specs.Log.{Log}
use Rattle.shared_state.specs.Seen.{StoreSeen}
use Rattle.chunk_plans.specs.declared.write.ChunkWrite.{ChunkWrite}
use Rattle.chunk_plans.specs.Writes.{IsSameButCache, chunk_of_write}

pub same_log : (log : Log) → IsSameButCache log log
same_log log = record { events = refl; generations = refl; locals = refl }

pub same_by : (old new : Log) → new ≡ old → IsSameButCache old new
same_by old new same = subst (IsSameButCache old) (sym same) (same_log old)

either_log : (b : Bool) (old one other : Log) → IsSameButCache old one → IsSameButCache old other → IsSameButCache old (cond b one other)
either_log true old one other a b = a
either_log false old one other a b = b

looked_same : (log : Log) (k : Known) (key : List ℕ) → IsSameButCache log (looked_at log k key)
looked_same log k key =
    either_log (is_local k.info.home) log log (record log { cache = record log.cache { entries = after_hit key log.cache.entries } }) (same_log log) (record { events = refl; generations = refl; locals = refl })

pub settled_same : (log : Log) (k : Known) (key : List ℕ) (snapshot : SnapshotCells) → IsSameButCache log (settled log k key snapshot)
settled_same log k key snapshot =
    let kept : Log = record log { cache = record log.cache { entries = after_keep log.cache.limit key snapshot log.cache.entries } } in
    either_log (is_local k.info.home) log log (cond (generation_in log k key == snapshot.generation) kept log) (same_log log)
    (either_log (generation_in log k key == snapshot.generation) log kept log (record { events = refl; generations = refl; locals = refl }) (same_log log))

-- a chunk that was fetched was kept, or is now
pub fetched_same : (old new : Log) (k : Known) (key : List ℕ) (snapshot : SnapshotCells) (o : Option SnapshotCells) → (IsSome o → new ≡ looked_at old k key) → (o ≡ None → new ≡ settled old k key snapshot) → IsSameButCache old new
fetched_same old new k key snapshot None hit miss = subst (IsSameButCache old) (sym (miss refl)) (settled_same old k key snapshot)
fetched_same old new k key snapshot (Some kept) hit miss = subst (IsSameButCache old) (sym (hit search)) (looked_same old k key)

-- what holds of an answer gives what follows from it
pub weaken_ok : {A E : Type 0} {P Q : A → Type 0} (r : Result A E) → ((x : A) → P x → Q x) → IfOk r P → IfOk r Q
weaken_ok (Ok x) gives holds = gives x holds
weaken_ok (Err e) gives holds = tt

-- cells that are answered for the index of a write are so for its chunk
pub answered_of : {store : StoreSeen} {log : Log} (w : ChunkWrite) (index : List ℕ) (snapshot : SnapshotCells) → index ≡ w.chunk.now → IsAnswered store log (record { array = w.array; index = index }) snapshot → IsAnswered store log (chunk_of_write w) snapshot
answered_of {store} {log} w index snapshot same = subst (λ i. IsAnswered store log (record { array = w.array; index = i }) snapshot) same

pub answered_some : {store : StoreSeen} {log : Log} (w : ChunkWrite) (index : List ℕ) (o : Option SnapshotCells) (snapshot : SnapshotCells) → index ≡ w.chunk.now → o ≡ Some snapshot → IfSome o (λ s. IsAnswered store log (record { array = w.array; index = index }) s)
    → IsAnswered store log (chunk_of_write w) snapshot
answered_some {store} {log} w index o snapshot same is answered =
    answered_of w index snapshot same (subst (λ (p : Option SnapshotCells). IfSome p (λ s. IsAnswered store log (record { array = w.array; index = index }) s)) is answered)

-- what holds of the error of an answer
pub err_and : {A E : Type 0} (P : E → Type 0) (r : Result A E) (x : E) → r ≡ Err x → IsErrAnd r P → P x
err_and P (Ok a) x is holds = absurd (cc)
err_and {A} {E} P (Err y) x is holds = subst (λ (r : Result A E). IsErrAnd r P) is holds

-- an error that is handed on is the one that was met
pub err_told : {A B E : Type 0} (r : Result A E) (met : Result B E) (x y : E) → IsErr r → IsErrAnd r (λ e. e ≡ x) → met ≡ Err x → met ≡ Err y → r ≡ Err y
err_told (Ok a) met x y is same was told = absurd same
err_told {A} {B} {E} (Err e) met x y is same was told =
    let both = sym was ∙ told in
    let one : x ≡ y = cc in
    ap (λ e. Err e) (same ∙ one)
