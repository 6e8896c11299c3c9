-- From what is kept of a transcript to what is told by it.
use Rattle.std.proofs.Common.{◌≡◌, ℕ, List, [], ◌∷◌, map, Option, Some, None, length, sym, ap, subst, ◌∙◌, arith}
use Rattle.std.proofs.lemmas.List.{length-map}
use Rattle.std.proofs.lemmas.Option.{slice_get-map, slice_get_within}
use Rattle.std.specs.Option.{option_map}
use Rattle.std.specs.List.{AllByRecursion, slice_get}
use Rattle.history.specs.Places.{IsTable}
use Rattle.transcript_cut.specs.Outline.{outline}
use Rattle.transcript_cut.specs.Transcript.{Told}
use Rattle.transcript_cut.specs.Said.{AreSaid}
use Rattle.transcript_cut.specs.Spans.{IsPlaced}
use Rattle.transcript_cut.specs.declared.said.Said.{Said}
use Rattle.stated_arrays.specs.Lines.{AreKept}
use Rattle.stated_arrays.specs.Openings.{IsStating}
use Rattle.stated_arrays.specs.Served.{AreOpenedAt, AreArraysOf}
use Rattle.stated_arrays.specs.Stating.{HaveStated, all_takings, AreOpeningsOf, IsStatingOf}
use Rattle.stated_arrays.specs.Still.{AreStill}
use Rattle.stated_arrays.specs.declared.arrays.StatedArrays.{StatedArrays}
use Rattle.stated_arrays.specs.declared.lines.OpenLine.{OpenLine}
use Rattle.stated_arrays.specs.declared.openings.Openings.{Openings}
use Rattle.stated_arrays.proofs.Bridge.{outline_to, outline_from, taken_from}
use Rattle.stated_arrays.proofs.Claims.{claimed_outlined}
use Rattle.stated_arrays.proofs.StepLaws.{got}

-- each line of what is kept of a cut is placed
pub placed_of : (scripts : List (List ℕ)) (transcript : List ℕ) (said : List Said) (told : List Told) → AreSaid scripts transcript said told → AllByRecursion (λ (s : Said). IsPlaced scripts s.line) said
placed_of scripts transcript [] told are = tt
placed_of scripts transcript (s ∷ said) [] are = absurd are
placed_of scripts transcript (s ∷ said) (t ∷ told) are = (are.0.placed, placed_of scripts transcript said told are.1)

-- the openings of what is kept are stated by all that is told so
pub stated_by_told : (scripts : List (List ℕ)) (said : List Said) (lines : List OpenLine) → ((transcript : List ℕ) (told : List Told) → AreSaid scripts transcript said told → AreKept [] told lines) → (o : Option Openings) → IsStatingOf said lines o → IsStating scripts said o
stated_by_told scripts said lines kept (Some openings) is = record {
  stated = λ transcript told are.
      let all = kept transcript told are in
      record {
        outlined = outline_from openings.events scripts transcript told said lines are all is.outline;
        claimed = λ history claim. is.only (outline history) (outline_to (outline history) scripts transcript told said lines are all (claimed_outlined told history claim));
        takings = taken_from openings.events scripts transcript [] told said lines openings.takings are all is.count is.takings;
      };
  flat = is.flat;
  still = is.still;
  opened = is.opened;
  places = is.places;
}
stated_by_told scripts said lines kept None is = λ transcript told are history claim. is (outline history) (outline_to (outline history) scripts transcript told said lines are (kept transcript told are) (claimed_outlined told history claim))

-- behind the last number
pub openings_are : (said : List Said) (first last : List OpenLine) (openings : Openings) → HaveStated said first last openings.events → openings.takings ≡ map all_takings last → outline openings.events ≡ openings.events → AreStill openings.events → AreOpenedAt openings.events openings.opened → IsTable openings.events openings.places
    → AreOpeningsOf said first openings
openings_are said first last openings is takings flat still opened places = record {
  outline = is.outline;
  only = is.only;
  count = ap length takings ∙ length-map last all_takings ∙ is.count;
  takings = λ k s l at was.
      let m = line_at k l was in
      ap (λ ts. slice_get ts k) takings ∙ slice_get-map all_takings last k ∙ ap (option_map all_takings) m.1 ∙ ap Some (sym (is.takings k s l m.0 at was m.1));
  flat = flat;
  still = still;
  opened = opened;
  places = places;
}
  where
    line_at : (k : ℕ) (l : OpenLine) → slice_get first k ≡ Some l → (m : OpenLine) × (slice_get last k ≡ Some m)
    line_at k l was = let low = slice_get_within first k l was in let count = is.count in got last k (omega (arith, low, count))

-- the same by the arrays that were stated
pub openings_of_arrays : (said : List Said) (first last : List OpenLine) (arrays : StatedArrays) (openings : Openings) → HaveStated said first last arrays.events.items → AreArraysOf arrays → openings.events ≡ arrays.events.items → openings.opened ≡ arrays.opened.items → openings.places ≡ arrays.places → openings.takings ≡ map all_takings last
    → AreOpeningsOf said first openings
openings_of_arrays said first last arrays openings is are events opened places takings =
    openings_are said first last openings (subst (HaveStated said first last) (sym events) is) takings
    (subst (λ h. outline h ≡ h) (sym events) are.flat)
    (subst AreStill (sym events) are.still)
    (subst (λ h. AreOpenedAt h openings.opened) (sym events) (subst (AreOpenedAt arrays.events.items) (sym opened) are.opened))
    (subst (λ h. IsTable h openings.places) (sym events) (subst (IsTable arrays.events.items) (sym places) are.places))
