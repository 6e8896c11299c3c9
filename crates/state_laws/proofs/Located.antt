-- What a look into the table of locations tells.
use Rattle.std.proofs.Common.{◌≡◌, ℕ, List, true, false, Bool, cond, Option, Some, None, refl, sym, ap, ◌∙◌}
use Rattle.std.specs.Prelude.{◌==◌}
use Rattle.std.specs.FinMap as finmap
use Rattle.std.specs.Option.{option_map}
use Rattle.std.proofs.lemmas.Slice.Eq.{bytes_eq-Decides}
use Rattle.locations.specs.Paths.{Located, HasNoClash}
use Rattle.stack_driver.specs.References.{IsReference}
use Rattle.array_homes.proofs.Laws.{known_reference}
use Rattle.history.specs.declared.array.ArrayInfo.{ArrayInfo}
use Rattle.history.specs.declared.array.Home.{Home}
use Rattle.history.specs.declared.array.Home.TheVariants.{Zarr, N5, Zarr3, Local}
use Rattle.history.specs.declared.event.Kind.{Kind}
use Rattle.history.specs.declared.event.Kind.TheVariants.{Opened, Done, Resized, Fault}
use Rattle.history.specs.History.{History}
use Rattle.history.specs.Arrays.{Known, known_after, is_local, ref_of}
use Rattle.history.specs.Legal.{IsLegal}
use Rattle.history.specs.Places.{location, array_at, at_step, reshaped_at, IsTable, IsFree}
use Rattle.history.specs.Touch.{is_key}
use Rattle.history.proofs.Laws.{each_history, opened_as, some_inj, none_is_none, array_at-more, array_at-known, not_taken_by_table, array_by_table}
use Rattle.state_laws.specs.Outline.{outline}
use Rattle.state_laws.proofs.Outline.{known-outline, array_at-outline}

key_is : (here : List ℕ) (l : Option (List ℕ)) → is_key here l ≡ true → l ≡ Some here
key_is here None is = absurd (cc)
key_is here (Some t) is = ap Some ((bytes_eq-Decides t here).0 is)

-- an array that lies at a location has it
pub located : (here : List ℕ) (h : History) (k : Known) → array_at h here ≡ Some k → location k.info.home ≡ Some here
located here =
    each_history (λ h. (k : Known) → array_at h here ≡ Some k → location k.info.home ≡ Some here) (λ k at. absurd (none_is_none k at))
    (λ h e before k at. by h e.kind k before (sym (array_at-more h e here) ∙ at))
  where
    opened : (h : History) (info : ArrayInfo) (k : Known) (b : Bool) → is_key here (location info.home) ≡ b → ((l : Known) → array_at h here ≡ Some l → location l.info.home ≡ Some here)
        → cond b (Some (opened_as h info)) (array_at h here) ≡ Some k → location k.info.home ≡ Some here
    opened h info k true test before at = ap (λ (l : Known). location l.info.home) (sym (some_inj (opened_as h info) k at)) ∙ key_is here (location info.home) test
    opened h info k false test before at = before k at

    reshaped : (b : ℕ) (shape : List ℕ) (o : Option Known) (k : Known) → ((l : Known) → o ≡ Some l → location l.info.home ≡ Some here) → reshaped_at b shape o ≡ Some k → location k.info.home ≡ Some here
    reshaped b shape None k before at = absurd (none_is_none k at)
    reshaped b shape (Some l) k before at = same (b == l.info.number) at ∙ before l refl
      where
        same : (t : Bool) → cond t (Some (record l { shape = shape })) (Some l) ≡ Some k → location k.info.home ≡ location l.info.home
        same true at = ap (λ (m : Known). location m.info.home) (sym (some_inj (record l { shape = shape }) k at))
        same false at = ap (λ (m : Known). location m.info.home) (sym (some_inj l k at))

    by : (h : History) (kind : Kind) (k : Known) → ((l : Known) → array_at h here ≡ Some l → location l.info.home ≡ Some here) → at_step here h kind (array_at h here) ≡ Some k → location k.info.home ≡ Some here
    by h (Opened info) k before at = opened h info k (is_key here (location info.home)) refl before at
    by h (Done line mode ops key) k before at = before k at
    by h (Resized b shape) k before at = reshaped b shape (array_at h here) k before at
    by h (Fault mount) k before at = before k at

stored_by : (home : Home) (here : List ℕ) → location home ≡ Some here → is_local home ≡ true → ⊥
stored_by (Zarr mount path meta) here is local = absurd (cc)
stored_by (N5 mount path meta) here is local = absurd (cc)
stored_by (Zarr3 mount path meta) here is local = absurd (cc)
stored_by (Local start) here is local = none_is_none here is

module _ (h : History) (places : Located) (table : IsTable h places) (here : List ℕ) (legal : IsLegal finmap.empty (outline h)) where
  -- the array that the table has there is one of the history
  pub record IsThereOf (n : ℕ) : Type 0 where
    pub array : Known
    pub at : array_at h here ≡ Some array
    pub known : known_after h n ≡ Some array
    pub reference : IsReference (ref_of array)

  pub there_of : (n : ℕ) → finmap.get places here ≡ Some n → IsThereOf n
  there_of n is =
      let there = array_by_table h places table here n is in
      let k = there.0 in
      let at : array_at (outline h) here ≡ Some k = array_at-outline here h ∙ there.1 in
      let known : known_after (outline h) k.info.number ≡ Some k = array_at-known finmap.empty here (outline h) legal k at in
      record {
        array = k;
        at = there.1;
        known = ap (known_after h) (sym there.2) ∙ sym (known-outline k.info.number h) ∙ known;
        reference = known_reference finmap.empty k.info.number (outline h) legal k known (λ local. absurd (stored_by k.info.home here (located here h k there.1) local));
      }

  pub free_of : finmap.get places here ≡ None → HasNoClash places here → IsFree h here
  free_of none clear = record { alone = not_taken_by_table h places table here clear; empty = empty_by (array_at h here) refl (sym (table here) ∙ none) }
    where
      empty_by : (o : Option Known) → array_at h here ≡ o → option_map (λ (k : Known). k.info.number) o ≡ None → array_at h here ≡ None
      empty_by None at e = at
      empty_by (Some k) at e = absurd (cc)
