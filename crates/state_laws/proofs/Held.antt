-- A local array's cells say nothing of the arrays.
use Rattle.std.proofs.Common.{◌≡◌, ℕ, zero, suc, ◌<◌, List, [], ◌∷◌, length, Option, Some, None, refl, sym, ap, subst, ◌∙◌, arith}
use Rattle.std.specs.Prelude.{map, set, slice_index_or}
use Rattle.std.specs.List.{slice_get, AllByRecursion}
use Rattle.std.specs.Option.{option_map}
use Rattle.chunk_cache.specs.Snapshot.{SnapshotCells}
use Rattle.history.specs.History.{History}
use Rattle.history.specs.Arrays.{Known, known_after}
use Rattle.history.specs.Legal.{is_opening}
use Rattle.history.proofs.Laws.{some_inj}
use Rattle.state_laws.specs.declared.arrays.Entry.{Entry}
use Rattle.state_laws.specs.Indexed.{known_of, resized_of, IsFormOf, AreArrays}

-- an entry without cells
pub bare : Entry → Entry
bare e = record e { local = None }

bare_at : (es : List Entry) (n : ℕ) → slice_get (map bare es) n ≡ option_map bare (slice_get es n)
bare_at [] n = refl
bare_at (e ∷ es) zero = refl
bare_at (e ∷ es) (suc n) = bare_at es n

known_bare : (h : History) (o : Option Entry) → known_of h (option_map bare o) ≡ known_of h o
unfolding bare
known_bare h None = refl
known_bare h (Some e) = refl

resized_bare : (o : Option Entry) → resized_of (option_map bare o) ≡ resized_of o
unfolding bare
resized_bare None = refl
resized_bare (Some e) = refl

form_bare : (k : Option Known) (e : Entry) → IsFormOf k (bare e) → IsFormOf k e
unfolding bare
form_bare None e is = tt
form_bare (Some k) e is = is

bare_form : (k : Option Known) (e : Entry) → IsFormOf k e → IsFormOf k (bare e)
unfolding bare
bare_form None e is = tt
bare_form (Some k) e is = is

length_bare : (es : List Entry) → length (map bare es) ≡ length es
length_bare [] = refl
length_bare (e ∷ es) = ap suc (length_bare es)

within_bare : (n : ℕ) (es : List Entry) → AllByRecursion (λ (e : Entry). e.place < n) (map bare es) → AllByRecursion (λ (e : Entry). e.place < n) es
unfolding bare
within_bare n [] all = tt
within_bare n (e ∷ es) all = (all.0, within_bare n es all.1)

bare_within : (n : ℕ) (es : List Entry) → AllByRecursion (λ (e : Entry). e.place < n) es → AllByRecursion (λ (e : Entry). e.place < n) (map bare es)
unfolding bare
bare_within n [] all = tt
bare_within n (e ∷ es) all = (all.0, bare_within n es all.1)

-- the arrays are those of the entries without cells
module _ (h : History) (es fs : List Entry) (same : map bare fs ≡ map bare es) (old : AreArrays h es) where
  same_at : (n : ℕ) → option_map bare (slice_get fs n) ≡ option_map bare (slice_get es n)
  same_at n = sym (bare_at fs n) ∙ ap (λ gs. slice_get gs n) same ∙ bare_at es n

  form_by : (a : ℕ) (o : Option Entry) (f : Entry) → slice_get es a ≡ o → option_map bare (Some f) ≡ option_map bare o → IsFormOf (known_after h a) f
  form_by a None f is both = absurd (cc)
  form_by a (Some e) f is both =
      form_bare (known_after h a) f (subst (IsFormOf (known_after h a)) (sym (some_inj (bare f) (bare e) both)) (bare_form (known_after h a) e (old.forms a e is)))

  pub arrays_held : AreArrays h fs
  arrays_held = record {
    known = λ a. old.known a ∙ sym (known_bare h (slice_get es a)) ∙ ap (known_of h) (sym (same_at a)) ∙ known_bare h (slice_get fs a);
    resized = λ a. old.resized a ∙ sym (resized_bare (slice_get es a)) ∙ ap resized_of (sym (same_at a)) ∙ resized_bare (slice_get fs a);
    forms = λ a f is. form_by a (slice_get es a) f refl (ap (option_map bare) (sym is) ∙ same_at a);
    within = within_bare (length h) fs (subst (AllByRecursion (λ (e : Entry). e.place < length h)) (sym same) (bare_within (length h) es old.within));
    count = old.count ∙ sym (length_bare es) ∙ ap length (sym same) ∙ length_bare fs;
    there = old.there;
  }

-- an entry with other cells
abbrev pub with_cells : Entry → SnapshotCells → Entry
with_cells e cells = record e { local = Some cells }

bare_set : (es : List Entry) (n : ℕ) (d : Entry) (cells : SnapshotCells) → map bare (set es n (with_cells (slice_index_or es n d) cells)) ≡ map bare es
unfolding bare
bare_set [] n d cells = refl
bare_set (e ∷ es) zero d cells = refl
bare_set (e ∷ es) (suc n) d cells = ap (λ fs. bare e ∷ fs) (bare_set es n d cells)

pub arrays_with_cells : (h : History) (es : List Entry) (n : ℕ) (d : Entry) (cells : SnapshotCells) → AreArrays h es → AreArrays h (set es n (with_cells (slice_index_or es n d) cells))
arrays_with_cells h es n d cells old = arrays_held h es (set es n (with_cells (slice_index_or es n d) cells)) (bare_set es n d cells) old

pub locals_set : (es : List Entry) (n : ℕ) (e : Entry) → map (λ (f : Entry). f.local) (set es n e) ≡ set (map (λ (f : Entry). f.local) es) n e.local
locals_set [] n e = refl
locals_set (f ∷ es) zero e = refl
locals_set (f ∷ es) (suc n) e = ap (λ ls. f.local ∷ ls) (locals_set es n e)
