-- A history's outline has its arrays, and is legal where the history is.
use Rattle.std.proofs.Common.{◌≡◌, ℕ, ◌+◌, List, [], ◌∷◌, ◌++◌, length, Bool, cond, Some, refl, sym, ap, subst, ◌∙◌}
use Rattle.std.proofs.lemmas.Grind.{fold-append}
use Rattle.std.proofs.lemmas.List.{map-append, length-map}
use Rattle.std.specs.Prelude.{◌==◌, count_by, filter, filter_map}
use Rattle.std.specs.FinMap as finmap
use Rattle.history.specs.declared.array.ArrayInfo.{ArrayInfo}
use Rattle.history.specs.declared.event.Kind.{Kind}
use Rattle.history.specs.declared.event.Kind.TheVariants.{Opened, Done, Resized, Fault}
use Rattle.history.specs.declared.event.Event.{Event}
use Rattle.history.specs.History.{History}
use Rattle.history.specs.Arrays.{Known, known_after, known_step}
use Rattle.history.specs.Chunks.{Chunk, IsIndexOf, home_text, key_in, key_of}
use Rattle.history.specs.Legal.{IsLegal, IsLegalOpening, IsApartFrom, opens, is_opening}
use Rattle.history.specs.Own.{fault, opened_event}
use Rattle.history.specs.Touch.{is_key}
use Rattle.history.specs.Places.{array_at, at_step, location, location_of, locations, clashes, least, opened_array, IsFree}
use Rattle.history.specs.Generations.{Generations, IsGenerationTable, IsNumbered}
use Rattle.history.proofs.Laws.{AlwaysStay, HasOneChunkAKey, each_history, generations_more, legal_stay, known_after-more, legal_more, array_at-more, locations-more, one_key, IsGood, known_good}
use Rattle.history.proofs.Longer.{IsOpenedAs}
use Rattle.state_laws.specs.Outline.{outlined, outlined_event, outline}

pub outline-more : (h : History) (e : Event) → outline (h ++ e ∷ []) ≡ outline h ++ outlined_event e ∷ []
outline-more h e = map-append outlined_event h (e ∷ [])

pub length-outline : (h : History) → length (outline h) ≡ length h
length-outline h = length-map h outlined_event

pub known-outline : (a : ℕ) (h : History) → known_after (outline h) a ≡ known_after h a
known-outline a =
    each_history (λ h. known_after (outline h) a ≡ known_after h a) refl
    (λ h e before. ap (λ g. known_after g a) (outline-more h e) ∙ known_after-more (outline h) (outlined_event e) a ∙ by h e.kind before ∙ sym (known_after-more h e a))
  where
    by : (h : History) (kind : Kind) → known_after (outline h) a ≡ known_after h a → known_step a (outline h) (outlined kind) (known_after (outline h) a) ≡ known_step a h kind (known_after h a)
    by h (Opened info) before =
        ap (known_step a (outline h) (Opened info)) before
        ∙ ap (λ n. cond (info.number == a) (Some (record { info = info; opened = n + 1; shape = info.shape })) (known_after h a)) (length-outline h)
    by h (Done line mode ops key) before = before
    by h (Resized b shape) before = ap (known_step a h (Resized b shape)) before
    by h (Fault mount) before = before

pub array_at-outline : (here : List ℕ) (h : History) → array_at (outline h) here ≡ array_at h here
array_at-outline here =
    each_history (λ h. array_at (outline h) here ≡ array_at h here) refl
    (λ h e before. ap (λ g. array_at g here) (outline-more h e) ∙ array_at-more (outline h) (outlined_event e) here ∙ by h e.kind before ∙ sym (array_at-more h e here))
  where
    by : (h : History) (kind : Kind) → array_at (outline h) here ≡ array_at h here → at_step here (outline h) (outlined kind) (array_at (outline h) here) ≡ at_step here h kind (array_at h here)
    by h (Opened info) before =
        ap (at_step here (outline h) (Opened info)) before
        ∙ ap (λ n. cond (is_key here (location info.home)) (Some (record { info = info; opened = n + 1; shape = info.shape })) (array_at h here)) (length-outline h)
    by h (Done line mode ops key) before = before
    by h (Resized b shape) before = ap (at_step here h (Resized b shape)) before
    by h (Fault mount) before = before

locations-outline : (h : History) → locations (outline h) ≡ locations h
locations-outline =
    each_history (λ h. locations (outline h) ≡ locations h) refl
    (λ h e before. ap locations (outline-more h e) ∙ locations-more (outline h) (outlined_event e) ∙ ap (λ ls. ls ++ filter_map location_of (opened_array (outlined e.kind))) before ∙ ap (λ is. locations h ++ filter_map location_of is) (by e.kind) ∙ sym (locations-more h e))
  where
    by : (kind : Kind) → opened_array (outlined kind) ≡ opened_array kind
    by (Opened info) = refl
    by (Done line mode ops key) = refl
    by (Resized b shape) = refl
    by (Fault mount) = refl

count_more : (f : Event → Bool) (events : History) (e : Event) → count_by f (events ++ e ∷ []) ≡ count_by f events + cond (f e) 1 0
count_more f events e = fold-append (λ a x. a + cond {A = ℕ} (f x) 1 0) 0 events (e ∷ [])

pub count-outline : (h : History) → count_by is_opening (outline h) ≡ count_by is_opening h
count-outline =
    each_history (λ h. count_by is_opening (outline h) ≡ count_by is_opening h) refl
    (λ h e before. ap (count_by is_opening) (outline-more h e) ∙ count_more is_opening (outline h) (outlined_event e) ∙ ap (λ n. n + cond {A = ℕ} (opens (outlined e.kind)) 1 0) before ∙ ap (λ b. count_by is_opening h + cond {A = ℕ} b 1 0) (by e.kind) ∙ sym (count_more is_opening h e))
  where
    by : (kind : Kind) → opens (outlined kind) ≡ opens kind
    by (Opened info) = refl
    by (Done line mode ops key) = refl
    by (Resized b shape) = refl
    by (Fault mount) = refl

pub free_outline : (h : History) (here : List ℕ) → IsFree h here → IsFree (outline h) here
free_outline h here free = record {
  alone = ap (λ ls. least (filter (clashes here) ls)) (locations-outline h) ∙ free.alone;
  empty = array_at-outline here h ∙ free.empty;
}

-- an opening is legal behind a history where it is behind the outline
pub opening_of_outline : (h : History) (info : ArrayInfo) → IsLegalOpening (outline h) info → IsLegalOpening h info
opening_of_outline h info is = record {
  number = is.number ∙ count-outline h;
  alone = λ a. subst (IsApartFrom (home_text info.home (length h + 1))) (known-outline a h) (subst (λ n. IsApartFrom (home_text info.home (n + 1)) (known_after (outline h) a)) (length-outline h) (is.alone a));
  placed = is.placed;
  kept = is.kept;
}

-- and the other way round
pub outline_opening : (h : History) (info : ArrayInfo) → IsLegalOpening h info → IsLegalOpening (outline h) info
outline_opening h info is = record {
  number = is.number ∙ sym (count-outline h);
  alone = λ a. subst (λ n. IsApartFrom (home_text info.home (n + 1)) (known_after (outline h) a)) (sym (length-outline h)) (subst (IsApartFrom (home_text info.home (length h + 1))) (sym (known-outline a h)) (is.alone a));
  placed = is.placed;
  kept = is.kept;
}

-- one event more
pub outline_opened : (h : History) (owner : ℕ) (info : ArrayInfo) → IsLegal finmap.empty (outline h) → IsLegalOpening h info → IsLegal finmap.empty (outline (h ++ opened_event owner info ∷ []))
outline_opened h owner info legal is =
    subst (IsLegal finmap.empty) (sym (outline-more h (opened_event owner info))) (legal_more finmap.empty (outline h) (opened_event owner info) legal (outline_opening h info is))

pub outline_fault : (h : History) (owner : ℕ) (mount : List ℕ) → IsLegal finmap.empty (outline h) → IsLegal finmap.empty (outline (h ++ fault owner mount ∷ []))
outline_fault h owner mount legal =
    subst (IsLegal finmap.empty) (sym (outline-more h (fault owner mount))) (legal_more finmap.empty (outline h) (fault owner mount) legal tt)

-- what a key tells of a history that may be a run's, whatever the store held
pub one_key_in : (h : History) → IsLegal finmap.empty (outline h) → (c d : Chunk) (k l : Known) (key : List ℕ) → known_after h c.array ≡ Some k → known_after h d.array ≡ Some l → IsIndexOf k.info c.index → IsIndexOf l.info d.index
    → key_of h c ≡ Some key → key_of h d ≡ Some key → c ≡ d
one_key_in h legal c d k l key kc kd vc vd nc nd =
    one_key finmap.empty (outline h) legal c d k l key (known-outline c.array h ∙ kc) (known-outline d.array h ∙ kd) vc vd (ap (λ o. key_in o c) (known-outline c.array h) ∙ nc) (ap (λ o. key_in o d) (known-outline d.array h) ∙ nd)

pub one_chunk_in : (h : History) → IsLegal finmap.empty (outline h) → HasOneChunkAKey h
one_chunk_in h legal c d key has other = one_key_in h legal c d has.array other.array key has.known other.known has.valid other.valid has.named other.named

-- an array that was there stays as it was opened
pub stay_in : (h : History) → IsLegal finmap.empty (outline h) → AlwaysStay h
stay_in h legal early late parts a i n opened =
    subst (IsOpenedAs i n) (known-outline a h)
    (legal_stay finmap.empty (outline h) legal (outline early) (outline late) (sym (map-append outlined_event early late) ∙ ap outline parts) a i n (subst (IsOpenedAs i n) (sym (known-outline a early)) opened))

-- a table of generations, one event later
pub numbered_more : (h : History) (e : Event) (table next : Generations) → IsLegal finmap.empty (outline (h ++ e ∷ [])) → IsGenerationTable h table → IsNumbered h e table next → IsGenerationTable (h ++ e ∷ []) next
numbered_more h e table next legal = generations_more h e table next (one_chunk_in (h ++ e ∷ []) legal) (stay_in (h ++ e ∷ []) legal h (e ∷ []) refl)

pub good_in : (h : History) → IsLegal finmap.empty (outline h) → (a : ℕ) (k : Known) → known_after h a ≡ Some k → IsGood a k
good_in h legal a k is = known_good finmap.empty a (outline h) legal k (known-outline a h ∙ is)
