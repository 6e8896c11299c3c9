-- The changes of a commit or a resize, made one after another, are what the event does to the store.
use Rattle.std.proofs.Common.{◌≡◌, ℕ, List, [], ◌∷◌, ◌++◌, true, false, cond, take, Option, inl, inr, refl, sym, ap, subst, ◌∙◌}
use Rattle.std.proofs.Math.Seq.{take-length}
use Rattle.std.specs.FinMap as finmap
use Rattle.std.specs.List.{AllByRecursion, IsDistinct}
use Rattle.std.specs.Str.{bytes_eq}
use Rattle.std.proofs.lemmas.Map.Keys.{IsDistinct-head, IsDistinct-tail}
use Rattle.std.proofs.lemmas.Slice.Eq.{bytes_eq-Decides}
use Rattle.kv_face.specs.Store.{Contents, changed, after, keys_of}
use Rattle.kv_face.specs.declared.change.Change.{Change}
use Rattle.kv_face.proofs.Laws.{get-put_bytes}
use Rattle.history.specs.declared.event.Event.{Event}
use Rattle.history.specs.History.{History}
use Rattle.history.specs.Arrays.{known_after}
use Rattle.history.specs.Chunks.{Chunk}
use Rattle.history.specs.Touch.{touches}
use Rattle.history.specs.Content.{present_shape}
use Rattle.history.specs.Stored.{HasBytes, AreChangesOf, IsApplied}
use Rattle.history.specs.Store.{IsChunkKept, shape_when_touched, metadata_bytes}
use Rattle.history.proofs.Known.{length-more}
use Rattle.history.proofs.Tests.{true_or_false}
use Rattle.history.proofs.Untouched.{generation_touched}

-- what is at a key behind changes
last_bytes : List ℕ → List Change → Option (List ℕ) → Option (List ℕ)
last_bytes key [] o = o
last_bytes key (c ∷ cs) o = last_bytes key cs (cond (bytes_eq key c.key) c.bytes o)

get-after : (key : List ℕ) (cs : List Change) (m : Contents) → finmap.get (after m cs) key ≡ last_bytes key cs (finmap.get m key)
unfolding last_bytes
get-after key [] m = refl
get-after key (c ∷ cs) m = get-after key cs (changed m c) ∙ ap (last_bytes key cs) (get-put_bytes m c.key c.bytes key)

-- where each change of the key is to these bytes, they stay
stays : (key : List ℕ) (cs : List Change) (bytes o : Option (List ℕ)) → ((more : Option (List ℕ)) → HasBytes cs key more → bytes ≡ more) → o ≡ bytes → last_bytes key cs o ≡ bytes
unfolding last_bytes
stays key [] bytes o once is = is
stays key (c ∷ cs) bytes o once is =
    stays key cs bytes (cond (bytes_eq key c.key) c.bytes o) (λ more has. once more (inr has))
    (elim (true_or_false (bytes_eq key c.key)) [
      | inl t ↦ ap (λ b. cond b c.bytes o) t ∙ sym (once c.bytes (inl (sym ((bytes_eq-Decides key c.key).0 t), refl)))
      | inr f ↦ ap (λ b. cond b c.bytes o) f ∙ is
    ])

comes : (key : List ℕ) (cs : List Change) (bytes o : Option (List ℕ)) → HasBytes cs key bytes → ((more : Option (List ℕ)) → HasBytes cs key more → bytes ≡ more) → last_bytes key cs o ≡ bytes
unfolding last_bytes
comes key [] bytes o has once = absurd has
comes key (c ∷ cs) bytes o (inl here) once =
    stays key cs bytes (cond (bytes_eq key c.key) c.bytes o) (λ more has. once more (inr has)) (ap (λ b. cond b c.bytes o) ((bytes_eq-Decides key c.key).1 (sym here.0)) ∙ here.1)
comes key (c ∷ cs) bytes o (inr later) once = comes key cs bytes (cond (bytes_eq key c.key) c.bytes o) later (λ more has. once more (inr has))

-- where no change is of the key, all stays
passes : (key : List ℕ) (cs : List Change) (o : Option (List ℕ)) → ((bytes : Option (List ℕ)) → ¬ HasBytes cs key bytes) → last_bytes key cs o ≡ o
unfolding last_bytes
passes key [] o none = refl
passes key (c ∷ cs) o none =
    elim (true_or_false (bytes_eq key c.key)) [
      | inl t ↦ absurd (none c.bytes (inl (sym ((bytes_eq-Decides key c.key).0 t), refl)))
      | inr f ↦ ap (λ b. last_bytes key cs (cond b c.bytes o)) f ∙ passes key cs o (λ bytes has. none bytes (inr has))
    ]

later_key : (k key : List ℕ) (cs : List Change) (bytes : Option (List ℕ)) → AllByRecursion (λ y. bytes_eq k y ≡ false) (keys_of cs) → k ≡ key → HasBytes cs key bytes → ⊥
later_key k key [] bytes apart same has = has
later_key k key (c ∷ cs) bytes apart same (inl here) = let clash : false ≡ true = sym apart.0 ∙ (bytes_eq-Decides k c.key).1 (same ∙ sym here.0) in absurd (cc)
later_key k key (c ∷ cs) bytes apart same (inr has) = later_key k key cs bytes apart.1 same has

-- a key that no two changes have has one change
one_change : (key : List ℕ) (cs : List Change) (bytes more : Option (List ℕ)) → IsDistinct bytes_eq (keys_of cs) → HasBytes cs key bytes → HasBytes cs key more → bytes ≡ more
one_change key [] bytes more distinct has also = absurd has
one_change key (c ∷ cs) bytes more distinct (inl here) (inl there) = sym here.1 ∙ there.1
one_change key (c ∷ cs) bytes more distinct (inl here) (inr later) = absurd (later_key c.key key cs more (IsDistinct-head bytes_eq c.key (keys_of cs) distinct) here.0 later)
one_change key (c ∷ cs) bytes more distinct (inr later) (inl here) = absurd (later_key c.key key cs bytes (IsDistinct-head bytes_eq c.key (keys_of cs) distinct) here.0 later)
one_change key (c ∷ cs) bytes more distinct (inr has) (inr also) = one_change key cs bytes more (IsDistinct-tail bytes_eq c.key (keys_of cs) distinct) has also

pub changes_applied : (start : Contents) (events : History) (e : Event) (store : Contents) (changes : List Change) → AreChangesOf start events e changes → IsApplied start events e store (after store changes)
changes_applied start events e store changes are = record {
  chunks = λ c k key t is named.
      let kept = are.chunks c k key t is named in
      subst (IsChunkKept start (events ++ e ∷ []) k c (shape_when_touched (events ++ e ∷ []) c)) (sym (at key kept.0 kept.1)) kept.2;
  metadata = λ a k key q there. at key (metadata_bytes (events ++ e ∷ []) a k (finmap.get start key)) (are.metadata a k key q there);
  others = λ key free meta. get-after key changes store ∙ passes key changes (finmap.get store key) (are.others key free meta);
} where
  at : (key : List ℕ) (bytes : Option (List ℕ)) → HasBytes changes key bytes → finmap.get (after store changes) key ≡ bytes
  at key bytes has = get-after key changes store ∙ comes key changes bytes (finmap.get store key) has (λ more also. one_change key changes bytes more are.distinct has also)

-- a chunk that the event touches is written by the shape that its array has then
pub shape_now : (events : History) (e : Event) (c : Chunk) → touches events e c ≡ true → shape_when_touched (events ++ e ∷ []) c ≡ present_shape (known_after (events ++ e ∷ []) c.array)
shape_now events e c t =
    ap (λ n. present_shape (known_after (take n (events ++ e ∷ [])) c.array)) (generation_touched events e c t ∙ sym (length-more events e))
    ∙ ap (λ (h : History). present_shape (known_after h c.array)) (take-length (events ++ e ∷ []))
