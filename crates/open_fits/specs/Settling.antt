-- Whether a leaf of an open line was opened.
use Rattle.std.specs.Prelude.{◌≡◌, ◌<◌, ◌≤◌, ◌⊎◌, ℕ, List, true, false, Option, Some, None}
use Rattle.std.specs.List.{slice_get}
use Rattle.read_fits.specs.Homes.{reference_of}
use Rattle.stack_driver.specs.References.{Reference, IsReference}
use Rattle.history.specs.declared.array.ArrayInfo.{ArrayInfo}
use Rattle.history.specs.Answers.{Text}
use Rattle.history.specs.Arrays.{Known, ref_of}
use Rattle.history.specs.History.{History}
use Rattle.history.specs.Outcomes.{there}
use Rattle.history.specs.SingleOpen.{outcome_alone}
use Rattle.read_fits.specs.Asked.{leaf_asked}
use Rattle.read_fits.specs.declared.Tree.{Tree}
use Rattle.read_fits.specs.Outline.{outline}
use Rattle.read_fits.specs.OpenedViews.{paired}
use Rattle.read_fits.specs.Outcomes.{IsOpenedAt}
use Rattle.read_fits.specs.declared.Asked.{Asked}
use Rattle.read_fits.specs.declared.Wanted.{Wanted}
use Rattle.read_fits.specs.declared.LeafOutcome.{LeafOutcome}
use Rattle.read_fits.specs.declared.LeafOutcome.TheVariants.{There}
use Rattle.read_fits.specs.Opening.{IsSettledLeaf}
use Rattle.read_fits.specs.Takings.{Taking, taking, ref_of_leaf}
use Rattle.read_fits.specs.Windows.{Window}
use Rattle.open_fits.specs.Opens.{leaf_at, leaves_at, IsFront}

-- the event of a number opens an array, and views may name it
abbrev pub MayBeNamed : History → ℕ → Type 0
MayBeNamed events number =
    (info : ArrayInfo) × IsOpenedAt events number info × IsReference (reference_of info info.shape)

-- that array is named so
abbrev pub IsNamed : History → ℕ → Option Reference → Type 0
IsNamed events number ref =
    (info : ArrayInfo) → IsOpenedAt events number info → ref ≡ Some (reference_of info info.shape)

-- the same where there is a number
abbrev pub MayBeNamedBy : History → Option ℕ → Type 0
MayBeNamedBy events None = Unit {0}
MayBeNamedBy events (Some number) = MayBeNamed events number

abbrev pub IsNamedBy : History → Option ℕ → Option Reference → Type 0
IsNamedBy events None ref = ref ≡ None
IsNamedBy events (Some number) ref = IsNamed events number ref

-- the same where the array may be made
abbrev pub IsNamedIfMade : History → ℕ → Asked → Option Reference → Type 0
IsNamedIfMade events number asked ref =
    ((asked.may_create ≡ true) × IsNamed events number ref) ⊎ ((asked.may_create ≡ false) × (ref ≡ None))

-- and where it is one of the first events
abbrev pub IsNamedIfEarly : History → ℕ → ℕ → Option Reference → Type 0
IsNamedIfEarly events number upto ref = ((number ≤ upto) × IsNamed events number ref) ⊎ ((upto < number) × (ref ≡ None))

-- where an array is told, the table has the number of its opening
abbrev pub IsNamedOutcome : History → List ℕ → LeafOutcome → Type 0
IsNamedOutcome events opened (There array) =
    (number : ℕ) × (slice_get opened array ≡ Some number) × MayBeNamed events number
IsNamedOutcome events opened outcome = Unit {0}

-- it is named, if it is one of the first
abbrev pub IsNamedByOutcome : History → List ℕ → ℕ → LeafOutcome → Option Reference → Type 0
IsNamedByOutcome events opened upto (There array) ref =
    (number : ℕ) → slice_get opened array ≡ Some number → IsNamedIfEarly events number upto ref
IsNamedByOutcome events opened upto outcome ref = ref ≡ None

-- the array of a leaf that was opened, or that it wasn't
abbrev pub IsSettledAs : History → Window → Taking → Option Reference → Type 0
IsSettledAs history w t None = ¬ IsSettledLeaf history w t.leaf t.number
IsSettledAs history w t (Some ref) = IsSettledLeaf history w t.leaf t.number × (ref_of_leaf history t ≡ Some ref)

-- the array that a leaf finds, if one of the first events opened it
abbrev pub IsFoundAs : History → Asked → ℕ → Option Reference → Type 0
IsFoundAs events asked upto None = (k : Known) → outcome_alone events (leaf_asked asked) ≡ there k → ¬ (k.opened ≤ upto)
IsFoundAs events asked upto (Some ref) =
    (k : Known) × (outcome_alone events (leaf_asked asked) ≡ there k) × (k.opened ≤ upto) × (ref ≡ ref_of k)

-- so it is of a leaf of any node, in each history that has this outline
abbrev pub IsArrayFor : History → ℕ → Wanted → Option ℕ → Option Reference → Type 0
IsArrayFor events upto wanted number ref =
    (history : History) → outline history ≡ events → (w : Window) → w.upto ≡ upto → (node : Text)
    → IsSettledAs history w (taking (leaf_at node wanted) number) ref

-- the first of these leaves were opened, these are their arrays, and the next one, if there is one, wasn't
abbrev pub AreArraysFor : History → ℕ → List Wanted → List (Option ℕ) → List Reference → Type 0
AreArraysFor events upto leaves numbers refs =
    (history : History) → outline history ≡ events → (w : Window) → w.upto ≡ upto → (tree : Tree)
    → IsFront history w (paired (leaves_at tree 0 leaves) numbers) refs
