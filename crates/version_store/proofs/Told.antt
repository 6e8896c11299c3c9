-- What is kept tells of the history.
use Rattle.std.proofs.Common.{◌≡◌, ◌≤◌, ◌⊎◌, inl, inr, ℕ, ◌+◌, List, [], ◌∷◌, length, Bool, true, false, cond, Option, Some, None, refl, sym, ap, subst, ◌∙◌, arith, eqb-true, eq-eqb}
use Rattle.std.specs.Prelude.{◌==◌, ◌↔◌, nat_le, Contains, IsTrue, IfSome, IfNone, option_map, if◌then◌else◌}
use Rattle.std.proofs.lemmas.List.Elements.{Contains-push_cases}
use Rattle.cast_driver.specs.Chain.{word_out}
use Rattle.cast_driver.specs.declared.cast.Cast.{Cast}
use Rattle.history.specs.Arrays.{Known}
use Rattle.history.specs.Chunks.{Chunk}
use Rattle.history.specs.Generations.{IsTouched}
use Rattle.history.specs.History.{History}
use Rattle.history.specs.Targets.{Cell}
use Rattle.history.specs.Writes.{Put}
use Rattle.chunk_versions.specs.Marks.{casts_of, AreShown, IsMark, HasNoMark}
use Rattle.chunk_versions.specs.Moments.{newest}
use Rattle.chunk_versions.specs.Versions.{Versions, IsVersions, word_as_of, word_if}
use Rattle.chunk_versions.specs.declared.asked.AskedCell.{AskedCell}
use Rattle.version_laws.specs.Kept.{ArePartVersionsOf}
use Rattle.version_laws.specs.Shown.{AreAskedOf}
use Rattle.version_laws.proofs.Laws.{mark_shown, never_shown, part_low}
use Rattle.version_store.specs.Asked.{AreShownAt, AreNeverShown, AreShownIn, content_with, TellsShown}
use Rattle.version_store.specs.Ids.{found, IsChunkIn}
use Rattle.version_store.specs.Openings.{IsKeptAs}
use Rattle.version_store.specs.Stores.{opening_under, IsKeptUnder, IsStoreOf}
use Rattle.version_store.specs.declared.opening.Opening.{Opening}
use Rattle.version_store.specs.declared.store.VersionStore.{VersionStore}

-- a fact of what is found, and one of nothing
pub some_map : {X : Type 0} (o : Option X) (P Q : X → Type 0) → ((x : X) → P x → Q x) → IfSome o P → IfSome o Q
some_map None P Q step all = all
some_map (Some x) P Q step all = step x all

pub none_map : {X : Type 0} (o : Option X) (P Q : Type 0) → (P → Q) → IfNone o P → IfNone o Q
none_map None P Q step all = step all
none_map (Some x) P Q step all = all

module _ (s : VersionStore) (id : List ℕ) (casts : List (List Cast)) (asked : List AskedCell) (v : Versions) (is : IsVersions v) (kept : IsKeptUnder s id v) where
  -- a mark that is found in the versions that are kept
  pub shown_at : (from m : ℕ) → IsMark v casts asked from m → AreShownAt s id casts asked from m
  shown_at from m mark h k c cell_of store at all low = mark_shown h k c v casts cell_of asked from m is (store.chunks k c id v at is kept) all low mark

  -- none is found
  pub shown_never : (from : ℕ) → HasNoMark v casts asked from → AreNeverShown s id casts asked from
  shown_never from none h k c cell_of m store at all = never_shown h k c v casts cell_of asked from m (store.chunks k c id v at is kept) all none

  -- what is shown now
  pub tells_shown : (answer : Bool) → ((m : ℕ) → newest v.touches ≤ m → IsTrue answer ↔ AreShown v casts m asked) → TellsShown s id casts asked answer
  tells_shown answer tells h puts k c cell_of store at all =
      let part = store.chunks k c id v at is kept in
      let now = tells (length h + 1) (part_low h k c puts v is part) in
      let same = shown_now h puts k c cell_of part asked all in
      (λ so. same.0 (now.0 so), λ shown. now.1 (same.1 shown)) where
        shown_now : (h : History) (puts : List Put) (k : Known) (c : Chunk) (cell_of : AskedCell → Cell) → ArePartVersionsOf h k c puts v → (cells : List AskedCell) → AreAskedOf h k c cell_of cells
            → AreShown v casts (length h + 1) cells ↔ AreShownIn (content_with h puts) casts cell_of cells
        shown_now h puts k c cell_of part [] all = (λ shown. tt, λ shown. tt)
        shown_now h puts k c cell_of part (a ∷ cells) all =
            let rest = shown_now h puts k c cell_of part cells all.1 in
            let word = ap (word_as_of v (length h + 1)) all.0.place ∙ part.last (cell_of a) all.0.cell in
            let same = ap (option_map (word_out (casts_of casts a))) word in
            (λ shown. (sym same ∙ shown.0, rest.0 shown.1), λ shown. (same ∙ shown.0, rest.1 shown.1))

  -- the events that touched the chunk
  pub tells_touched : (answer : Bool) (n : ℕ) → IsTrue answer ↔ Contains v.touches n → (h : History) (k : Known) (c : Chunk) → IsStoreOf h s → IsChunkIn h k c id → IsTrue answer ↔ IsTouched h c n
  tells_touched answer n tells h k c store at =
      let of = store.chunks k c id v at is kept in
      (λ so. (of.touched n).0 (tells.0 so), λ t. tells.1 ((of.touched n).1 t))

-- one number alone
one_of : (a n : ℕ) → Contains (a ∷ []) n → a ≡ n
one_of a n has = by (Contains-push_cases [] a n has) where
  by : Contains {X = ℕ} [] n ⊎ (a ≡ n) → a ≡ n
  by (inl none) = absurd (let low = none.1 in omega (arith, low))
  by (inr same) = same

-- the versions of a chunk that only its opening touched
abbrev new_of : Opening → Versions
new_of o = record { size = o.size; fill = o.fill; touches = o.opened ∷ []; last = []; puts = [] }

new_words : (o : Opening) (m place : ℕ) → word_as_of (new_of o) m place ≡ (if nat_le o.opened m then Some o.fill else None)
new_words o m place = by (nat_le o.opened m) where
  by : (b : Bool) → word_if (new_of o) place (cond b 1 0) ≡ cond b (Some o.fill) None
  by true = refl
  by false = refl

new_is : (o : Opening) → IsVersions (new_of o)
new_is o = record {
  opened = omega arith;
  rising = record { each = λ i j low within. absurd (omega (arith, low, within)) };
  table = inl refl;
  links = λ place. omega arith;
  linked = record { before = λ k low. absurd (omega (arith, low)); behind = λ k low. absurd (omega (arith, low)) };
}

-- of a chunk of which nothing is kept, the opening alone did
pub new_touched : (s : VersionStore) (id : List ℕ) (answer : Bool) (n : ℕ) → found s.chunks.entries id ≡ None → answer ≡ ((opening_under s id).opened == n) → (h : History) (k : Known) (c : Chunk) → IsStoreOf h s → IsChunkIn h k c id → IsTrue answer ↔ IsTouched h c n
new_touched s id answer n none is =
    let o = opening_under s id in
    let kept : IsKeptUnder s id (new_of o) = subst (λ found_there. IsKeptAs o found_there (new_of o)) (sym none) (record { size = refl; touches = refl; words = new_words o }) in
    tells_touched s id [] [] (new_of o) (new_is o) kept answer n
    (λ so. subst (λ m. Contains (o.opened ∷ []) m) (eqb-true o.opened n (sym is ∙ so)) (0, omega arith, refl), λ has. is ∙ eq-eqb o.opened n (one_of o.opened n has))
