-- What is told of lines, and what is kept of them: the same outlines.
use Rattle.std.proofs.Common.{◌≡◌, ℕ, zero, suc, List, [], ◌∷◌, ◌++◌, Bool, true, false, cond, Option, Some, None, map, length, refl, sym, ap, subst, ◌∙◌, arith}
use Rattle.std.specs.Prelude.{filter_map}
use Rattle.std.specs.List.{AllByRecursion, cons_option, slice_get}
use Rattle.history.specs.History.{History}
use Rattle.history.specs.Answers.{Text}
use Rattle.history.specs.Leaves.{Leaf}
use Rattle.history.specs.Lines.{SpecLeaf, given, stored}
use Rattle.history.specs.Own as own
use Rattle.history.specs.Own.{Numbered, fault}
use Rattle.transcript_cut.specs.StatedEvents.{IsEvent}
use Rattle.chunk_forms.specs.declared.form.Want.TheVariants as want
use Rattle.transcript_cut.specs.declared.SpecLeaf as spec
use Rattle.transcript_cut.specs.declared.SpecLeaf.TheVariants.{Zarr, N5, Zarr3, Given}
use Rattle.transcript_cut.specs.Openings.{leaf_of}
use Rattle.transcript_cut.specs.Claimed.{opening_of}
use Rattle.transcript_cut.specs.ToldNumbers.{opened_in, single, told_of}
use Rattle.transcript_cut.specs.Stances.{Stance, stance}
use Rattle.transcript_cut.specs.Takings.{Taking, taking, takings, was_opened}
use Rattle.transcript_cut.specs.Transcript.{mount, Told}
use Rattle.transcript_cut.specs.Said.{IsSaid, AreSaid}
use Rattle.transcript_cut.specs.declared.said.Said.{Said}
use Rattle.transcript_cut.proofs.Rising.{same_numbers}
use Rattle.stated_arrays.specs.Lines.{bare, AreLeavesOf, IsKept, AreKept}
use Rattle.stated_arrays.specs.Openings.{AreTakenBy}
use Rattle.stated_arrays.specs.Outlined.{leaves_at, openings_by, AreOpenedBy, undone, IsOutlinedBy, AreOutlinedBy, IsStatedOutline}
use Rattle.stated_arrays.specs.Stating.{IsOutlinedLine, IsOutlineOf, numbers_taken}
use Rattle.stated_arrays.specs.declared.lines.OpenLine.{OpenLine}

module _ (p : History) where
  -- takings that state the same, of leaves of nodes and of none
  record IsAlike (t u : Taking) : Type 0 where
    pub number : t.number ≡ u.number
    pub opens : (owner : ℕ) → opening_of p owner t ≡ opening_of p owner u

  abbrev AreAlike : List Taking → List Taking → Type 0
  AreAlike [] [] = Unit {0}
  AreAlike [] (u ∷ us) = ⊥
  AreAlike (t ∷ ts) [] = ⊥
  AreAlike (t ∷ ts) (u ∷ us) = IsAlike t u × AreAlike ts us

  no_number : (leaf other : SpecLeaf) → IsAlike (taking leaf None) (taking other None)
  no_number leaf other = record { number = refl; opens = λ owner. refl }

  stored_one : (node : Text) (leaf : Leaf) (n : Option ℕ) → IsAlike (taking (stored node leaf) n) (taking (stored [] leaf) n)
  stored_one node leaf None = no_number (stored node leaf) (stored [] leaf)
  stored_one node leaf (Some n) = record { number = refl; opens = λ owner. refl }

  stored_alike : (node : Text) (leaf : Leaf) (leaves others : List SpecLeaf) (ns : List ℕ) → ((ms : List ℕ) → AreAlike (takings p leaves ms) (takings p others ms)) → AreAlike (takings p (stored node leaf ∷ leaves) ns) (takings p (stored [] leaf ∷ others) ns)
  stored_alike node leaf leaves others [] rest = (no_number (stored node leaf) (stored [] leaf), rest [])
  stored_alike node leaf leaves others (n ∷ ns) rest = by (was_opened p n leaf)
    where
      by : (b : Bool) → AreAlike (cond b (taking (stored node leaf) None ∷ takings p leaves (n ∷ ns)) (taking (stored node leaf) (Some n) ∷ takings p leaves ns))
          (cond b (taking (stored [] leaf) None ∷ takings p others (n ∷ ns)) (taking (stored [] leaf) (Some n) ∷ takings p others ns))
      by true = (stored_one node leaf None, rest (n ∷ ns))
      by false = (stored_one node leaf (Some n), rest ns)

  given_alike : (cells : _) (leaves others : List SpecLeaf) (ns : List ℕ) → ((ms : List ℕ) → AreAlike (takings p leaves ms) (takings p others ms)) → AreAlike (takings p (given cells ∷ leaves) ns) (takings p (given cells ∷ others) ns)
  given_alike cells leaves others [] rest = (no_number (given cells) (given cells), rest [])
  given_alike cells leaves others (n ∷ ns) rest = (record { number = refl; opens = λ owner. refl }, rest ns)

  one_alike : (node : Text) (kept : spec.SpecLeaf) (leaves others : List SpecLeaf) (ns : List ℕ) → ((ms : List ℕ) → AreAlike (takings p leaves ms) (takings p others ms))
      → AreAlike (takings p (leaf_of node kept ∷ leaves) ns) (takings p (leaf_of [] kept ∷ others) ns)
  one_alike node (Zarr on at asked may_open may_create) leaves others ns rest =
      stored_alike node (record { mount = on; path = at; want = want.Zarr asked; may_open = may_open; may_create = may_create }) leaves others ns rest
  one_alike node (N5 on at asked may_open may_create) leaves others ns rest =
      stored_alike node (record { mount = on; path = at; want = want.N5 asked; may_open = may_open; may_create = may_create }) leaves others ns rest
  one_alike node (Zarr3 on at asked may_open may_create) leaves others ns rest =
      stored_alike node (record { mount = on; path = at; want = want.Zarr3 asked; may_open = may_open; may_create = may_create }) leaves others ns rest
  one_alike node (Given start) leaves others ns rest = given_alike start leaves others ns rest

  all_alike : (kept : List spec.SpecLeaf) (leaves : List SpecLeaf) → AreLeavesOf kept leaves → (ns : List ℕ) → AreAlike (takings p leaves ns) (takings p (bare kept) ns)
  all_alike [] [] are ns = tt
  all_alike [] (leaf ∷ leaves) are ns = absurd are
  all_alike (k ∷ kept) [] are ns = absurd are
  all_alike (k ∷ kept) (leaf ∷ leaves) are ns =
      subst (λ l. AreAlike (takings p (l ∷ leaves) ns) (takings p (bare (k ∷ kept)) ns)) (sym are.0.1)
      (one_alike are.0.0 k leaves (bare kept) ns (all_alike kept leaves are.1))

  same_openings : (owner : ℕ) (ts us : List Taking) → AreAlike ts us → filter_map (opening_of p owner) ts ≡ filter_map (opening_of p owner) us
  same_openings owner [] [] are = refl
  same_openings owner [] (u ∷ us) are = absurd are
  same_openings owner (t ∷ ts) [] are = absurd are
  same_openings owner (t ∷ ts) (u ∷ us) are =
      ap (λ o. cons_option o (filter_map (opening_of p owner) ts)) ((are.0).opens owner) ∙ ap (λ os. cons_option (opening_of p owner u) os) (same_openings owner ts us are.1)

  same_taken : (ts us : List Taking) → AreAlike ts us → map (λ (t : Taking). t.number) ts ≡ map (λ (t : Taking). t.number) us
  same_taken [] [] are = refl
  same_taken [] (u ∷ us) are = absurd are
  same_taken (t ∷ ts) [] are = absurd are
  same_taken (t ∷ ts) (u ∷ us) are = ap (λ n. n ∷ map (λ (t : Taking). t.number) ts) (are.0).number ∙ ap (λ ns. u.number ∷ ns) (same_taken ts us are.1)

  -- of the leaves of a Spec nodes don't count
  pub bare_openings : (owner : ℕ) (kept : List spec.SpecLeaf) (leaves : List SpecLeaf) (ns : List ℕ) → AreLeavesOf kept leaves → openings_by p owner leaves ns ≡ openings_by p owner (bare kept) ns
  bare_openings owner kept leaves ns are = same_openings owner (takings p leaves ns) (takings p (bare kept) ns) (all_alike kept leaves are ns)

  pub bare_taken : (kept : List spec.SpecLeaf) (leaves : List SpecLeaf) (ns : List ℕ) → AreLeavesOf kept leaves → numbers_taken p leaves ns ≡ numbers_taken p (bare kept) ns
  bare_taken kept leaves ns are = same_taken (takings p leaves ns) (takings p (bare kept) ns) (all_alike kept leaves are ns)

  abbrev AreEvents : List Numbered → Type 0
  AreEvents os = AllByRecursion (λ (o : Numbered). IsEvent p o.number o.event) os

  to_bare : (owner : ℕ) (kept : List spec.SpecLeaf) (leaves : List SpecLeaf) (ns : List ℕ) → AreLeavesOf kept leaves → AreOpenedBy p owner leaves ns → AreOpenedBy p owner (bare kept) ns
  to_bare owner kept leaves ns are is =
      let same = bare_openings owner kept leaves ns are in
      record { numbers = ap own.numbers_of (sym same) ∙ is.numbers; events = subst AreEvents same is.events }

  from_bare : (owner : ℕ) (kept : List spec.SpecLeaf) (leaves : List SpecLeaf) (ns : List ℕ) → AreLeavesOf kept leaves → AreOpenedBy p owner (bare kept) ns → AreOpenedBy p owner leaves ns
  from_bare owner kept leaves ns are is =
      let same = bare_openings owner kept leaves ns are in
      record { numbers = ap own.numbers_of same ∙ is.numbers; events = subst AreEvents (sym same) is.events }

  module _ (scripts : List (List ℕ)) (transcript : List ℕ) where
    line_to : (s : Option Stance) (x : Said) (t : Told) (l : OpenLine) → IsSaid scripts transcript x t → IsKept s t l → IsOutlinedBy p s t → IsOutlinedLine p x l
    line_to s x t l said kept is =
        let prints = said.prints in
        record {
          openings = subst (λ o. AreOpenedBy p o (bare l.rest.items) x.numbers.opened) said.session
              (subst (AreOpenedBy p t.session (bare l.rest.items)) prints.opened (to_bare t.session l.rest.items (leaves_at s t.asked) (opened_in t.answer) kept.leaves is.openings));
          done = subst (λ o. AllByRecursion (λ n. IsEvent p n (undone o)) x.numbers.done) said.session (subst (AllByRecursion (λ n. IsEvent p n (undone t.session))) prints.done is.done);
          failed = subst (λ o. AllByRecursion (λ n. IsEvent p n (fault o mount)) (single x.numbers.failed)) said.session (subst (AllByRecursion (λ n. IsEvent p n (fault t.session mount))) prints.failed is.failed);
        }

    line_from : (s : Option Stance) (x : Said) (t : Told) (l : OpenLine) → IsSaid scripts transcript x t → IsKept s t l → IsOutlinedLine p x l → IsOutlinedBy p s t
    line_from s x t l said kept is =
        let prints = said.prints in
        record {
          openings = from_bare t.session l.rest.items (leaves_at s t.asked) (opened_in t.answer) kept.leaves
              (subst (AreOpenedBy p t.session (bare l.rest.items)) (sym prints.opened) (subst (λ o. AreOpenedBy p o (bare l.rest.items) x.numbers.opened) (sym said.session) is.openings));
          done = subst (AllByRecursion (λ n. IsEvent p n (undone t.session))) (sym prints.done) (subst (λ o. AllByRecursion (λ n. IsEvent p n (undone o)) x.numbers.done) (sym said.session) is.done);
          failed = subst (AllByRecursion (λ n. IsEvent p n (fault t.session mount))) (sym prints.failed) (subst (λ o. AllByRecursion (λ n. IsEvent p n (fault o mount)) (single x.numbers.failed)) (sym said.session) is.failed);
        }

    lines_to : (earlier told : List Told) (said : List Said) (lines : List OpenLine) → AreSaid scripts transcript said told → AreKept earlier told lines → AreOutlinedBy p earlier told
        → (k : ℕ) (x : Said) (l : OpenLine) → slice_get said k ≡ Some x → slice_get lines k ≡ Some l → IsOutlinedLine p x l
    lines_to earlier told [] lines are kept is k x l at now = let no : ⊥ = cc in absurd no
    lines_to earlier [] (y ∷ said) lines are kept is k x l at now = absurd are
    lines_to earlier (t ∷ told) (y ∷ said) [] are kept is k x l at now = absurd kept
    lines_to earlier (t ∷ told) (y ∷ said) (m ∷ lines) are kept is zero x l at now =
        let one : y ≡ x = cc in
        let other : m ≡ l = cc in
        subst (λ (a : Said). IsOutlinedLine p a l) one (subst (λ (a : OpenLine). IsOutlinedLine p y a) other (line_to (stance (told_of t.session earlier)) y t m are.0 kept.0 is.0))
    lines_to earlier (t ∷ told) (y ∷ said) (m ∷ lines) are kept is (suc k) x l at now = lines_to (earlier ++ t ∷ []) told said lines are.1 kept.1 is.1 k x l at now

    lines_from : (earlier told : List Told) (said : List Said) (lines : List OpenLine) → AreSaid scripts transcript said told → AreKept earlier told lines
        → ((k : ℕ) (x : Said) (l : OpenLine) → slice_get said k ≡ Some x → slice_get lines k ≡ Some l → IsOutlinedLine p x l) → AreOutlinedBy p earlier told
    lines_from earlier [] said lines are kept each = tt
    lines_from earlier (t ∷ told) [] lines are kept each = absurd are
    lines_from earlier (t ∷ told) (y ∷ said) [] are kept each = absurd kept
    lines_from earlier (t ∷ told) (y ∷ said) (m ∷ lines) are kept each = (
      line_from (stance (told_of t.session earlier)) y t m are.0 kept.0 (each zero y m refl refl),
      lines_from (earlier ++ t ∷ []) told said lines are.1 kept.1 (λ k x l at now. each (suc k) x l at now),
    )

    -- the outline that is told is the one that is kept
    pub outline_to : (told : List Told) (said : List Said) (lines : List OpenLine) → AreSaid scripts transcript said told → AreKept [] told lines → IsStatedOutline told p → IsOutlineOf said lines p
    outline_to told said lines are kept is = record {
      each = lines_to [] told said lines are kept is.lines;
      count = is.count ∙ ap length (same_numbers scripts transcript said told are);
      legal = is.legal;
    }

    pub outline_from : (told : List Told) (said : List Said) (lines : List OpenLine) → AreSaid scripts transcript said told → AreKept [] told lines → IsOutlineOf said lines p → IsStatedOutline told p
    outline_from told said lines are kept is = record {
      lines = lines_from [] told said lines are kept is.each;
      count = is.count ∙ sym (ap length (same_numbers scripts transcript said told are));
      legal = is.legal;
    }

    -- and the numbers that leaves take
    pub taken_from : (earlier told : List Told) (said : List Said) (lines : List OpenLine) (all : List (List (Option ℕ))) → AreSaid scripts transcript said told → AreKept earlier told lines → length all ≡ length lines
        → ((k : ℕ) (x : Said) (l : OpenLine) → slice_get said k ≡ Some x → slice_get lines k ≡ Some l → slice_get all k ≡ Some (numbers_taken p (bare l.rest.items) x.numbers.opened)) → AreTakenBy p earlier told all
    taken_from earlier [] said [] [] are kept size each = tt
    taken_from earlier [] said [] (ns ∷ all) are kept size each = let no : ⊥ = omega (arith, size) in absurd no
    taken_from earlier [] said (m ∷ lines) all are kept size each = absurd kept
    taken_from earlier (t ∷ told) [] lines all are kept size each = absurd are
    taken_from earlier (t ∷ told) (y ∷ said) [] all are kept size each = absurd kept
    taken_from earlier (t ∷ told) (y ∷ said) (m ∷ lines) [] are kept size each = let no : ⊥ = omega (arith, size) in absurd no
    taken_from earlier (t ∷ told) (y ∷ said) (m ∷ lines) (ns ∷ all) are kept size each =
        let first : Some ns ≡ Some (numbers_taken p (bare m.rest.items) y.numbers.opened) = each zero y m refl refl in
        let here : ns ≡ numbers_taken p (bare m.rest.items) y.numbers.opened = cc in
        let prints = (are.0).prints in (
          here ∙ ap (numbers_taken p (bare m.rest.items)) (sym prints.opened) ∙ sym (bare_taken m.rest.items (leaves_at (stance (told_of t.session earlier)) t.asked) (opened_in t.answer) (kept.0).leaves),
          taken_from (earlier ++ t ∷ []) told said lines all are.1 kept.1 (omega (arith, size)) (λ k x l at now. each (suc k) x l at now),
        )
