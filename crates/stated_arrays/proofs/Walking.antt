-- Going over the leaves that are left of a line.
use Rattle.std.proofs.Common.{◌≡◌, ◌<◌, ℕ, ◌+◌, zero, suc, List, [], ◌∷◌, ◌++◌, Some, None, true, length, length-append, take, get_or, refl, sym, ap, subst, ◌∙◌, arith, append_assoc, append-nil}
use Rattle.std.specs.Prelude.{remove}
use Rattle.history.specs.History.{History}
use Rattle.history.specs.Own.{opened_event}
use Rattle.transcript_cut.specs.declared.SpecLeaf as spec
use Rattle.transcript_cut.specs.Openings.{leaf_of}
use Rattle.stated_arrays.specs.Lines.{IsSoundLine}
use Rattle.stated_arrays.specs.Served.{was_there, AreThere, IsNewBy, IsThereAt, IsNeverBy, untaken, HasServed, HasServedNone, AreArraysOf}
use Rattle.stated_arrays.specs.declared.arrays.StatedArrays.{StatedArrays}
use Rattle.stated_arrays.specs.declared.lines.OpenLine.{OpenLine}

-- at the places of the leaves that were passed over arrays lie
pub record HasPassed (o : History) (before now : OpenLine) : Type 0 where
  pub passed : List spec.SpecLeaf
  pub parts : before.rest.items ≡ passed ++ now.rest.items
  pub there : AreThere o passed
  pub takings : now.takings.items ≡ before.takings.items ++ untaken passed
  pub taken : now.taken ≡ before.taken

-- and nothing was opened
pub record IsPassing (old now : StatedArrays) (before line : OpenLine) : Type 0 where
  pub arrays : AreArraysOf now
  pub events : now.events.items ≡ old.events.items
  pub passed : HasPassed old.events.items before line
  pub sound : IsSoundLine line

pub passing_first : (arrays : StatedArrays) (line : OpenLine) → AreArraysOf arrays → IsSoundLine line → IsPassing arrays arrays line line
passing_first arrays line are sound = record {
  arrays = are;
  events = refl;
  passed = record { passed = []; parts = refl; there = tt; takings = sym (append-nil line.takings.items); taken = refl };
  sound = sound;
}

-- what is taken off the front of a list
pub taken_off : {A : Type 0} (xs rest : List A) (x : A) → 0 < length xs → x ≡ get_or xs 0 x → rest ≡ remove xs 0 → xs ≡ x ∷ rest
taken_off [] rest x some is left = let no : ⊥ = omega (arith, some) in absurd no
taken_off (y ∷ xs) rest x some is left = ap (λ z. z ∷ xs) (sym is) ∙ ap (λ zs. x ∷ zs) (sym left)

there_more : (o : History) (passed : List spec.SpecLeaf) (leaf : spec.SpecLeaf) → AreThere o passed → was_there o (leaf_of [] leaf) ≡ true → AreThere o (passed ++ leaf ∷ [])
there_more o [] leaf all is = (is, tt)
there_more o (l ∷ passed) leaf all is = (all.0, there_more o passed leaf all.1 is)

untaken_more : (passed : List spec.SpecLeaf) (leaf : spec.SpecLeaf) → untaken (passed ++ leaf ∷ []) ≡ untaken passed ++ None ∷ []
untaken_more [] leaf = refl
untaken_more (l ∷ passed) leaf = ap (λ ts. None ∷ ts) (untaken_more passed leaf)

module _ (old now : StatedArrays) (before line : OpenLine) (is : IsPassing old now before line) (leaf : spec.SpecLeaf) (rest : List spec.SpecLeaf) (left : line.rest.items ≡ leaf ∷ rest) where
  abbrev o : History
  o = old.events.items

  whole : before.rest.items ≡ is.passed.passed ++ leaf ∷ rest
  whole = (is.passed).parts ∙ ap (λ ls. is.passed.passed ++ ls) left

  -- one leaf more was passed over
  pub passing_more : (later : StatedArrays) (after : OpenLine) → AreArraysOf later → IsThereAt now.events.items later.events.items (leaf_of [] leaf) → IsSoundLine after → after.rest.items ≡ rest → after.takings.items ≡ line.takings.items ++ None ∷ [] → after.taken ≡ line.taken
      → IsPassing old later before after
  passing_more later after are there sound rests takings taken = record {
    arrays = are;
    events = there.same ∙ is.events;
    passed = record {
      passed = is.passed.passed ++ leaf ∷ [];
      parts = whole ∙ sym (append_assoc is.passed.passed (leaf ∷ []) rest) ∙ ap (λ ls. (is.passed.passed ++ leaf ∷ []) ++ ls) (sym rests);
      there = there_more o is.passed.passed leaf (is.passed).there (subst (λ h. was_there h (leaf_of [] leaf) ≡ true) is.events there.there);
      takings = takings ∙ ap (λ ts. ts ++ None ∷ []) (is.passed).takings ∙ append_assoc before.takings.items (untaken is.passed.passed) (None ∷ []) ∙ ap (λ ts. before.takings.items ++ ts) (sym (untaken_more is.passed.passed leaf));
      taken = taken ∙ (is.passed).taken;
    };
    sound = sound;
  }

  -- the leaf takes the number
  pub passing_new : (later : StatedArrays) (owner : ℕ) (after : OpenLine) → IsNewBy now.events.items later.events.items owner (leaf_of [] leaf) → after.rest.items ≡ rest → after.takings.items ≡ line.takings.items ++ Some (length later.events.items) ∷ [] → after.taken ≡ line.taken
      → HasServed o later.events.items owner before after
  passing_new later owner after new rests takings taken =
      let here = subst (λ h. IsNewBy h later.events.items owner (leaf_of [] leaf)) is.events new in
      let count : length later.events.items ≡ length o + 1 = ap length here.events ∙ length-append o (opened_event owner here.info ∷ []) in
      record {
        passed = is.passed.passed;
        leaf = leaf;
        parts = whole ∙ ap (λ ls. is.passed.passed ++ leaf ∷ ls) (sym rests);
        there = (is.passed).there;
        new_by = here;
        takings = takings ∙ ap (λ ts. ts ++ Some (length later.events.items) ∷ []) (is.passed).takings ∙ append_assoc before.takings.items (untaken is.passed.passed) (Some (length later.events.items) ∷ [])
            ∙ ap (λ n. before.takings.items ++ (untaken is.passed.passed ++ Some n ∷ [])) count;
        taken = taken ∙ (is.passed).taken;
      }

  -- it opens nothing
  pub passing_never : IsNeverBy now.events.items (leaf_of [] leaf) → HasServedNone o before
  passing_never never = record {
    passed = is.passed.passed;
    rest = leaf ∷ rest;
    parts = whole;
    there = (is.passed).there;
    never = subst (λ h. IsNeverBy h (leaf_of [] leaf)) is.events never;
  }

-- no leaf is left
pub passing_end : (old now : StatedArrays) (before line : OpenLine) → IsPassing old now before line → line.rest.items ≡ [] → HasServedNone old.events.items before
passing_end old now before line is none = record {
  passed = is.passed.passed;
  rest = [];
  parts = (is.passed).parts ∙ ap (λ ls. is.passed.passed ++ ls) none;
  there = (is.passed).there;
  never = tt;
}

-- one leaf more of those that take no number
pub untaken_take : (leaves : List spec.SpecLeaf) (i : ℕ) → i < length leaves → untaken (take (i + 1) leaves) ≡ untaken (take i leaves) ++ None ∷ []
untaken_take [] i low = let no : ⊥ = omega (arith, low) in absurd no
untaken_take (l ∷ leaves) zero low = refl
untaken_take (l ∷ leaves) (suc i) low =
    let step : suc i + 1 ≡ suc (i + 1) = omega arith in
    ap (λ j. untaken (take j (l ∷ leaves))) step ∙ ap (λ ts. None ∷ ts) (untaken_take leaves i (omega (arith, low)))
