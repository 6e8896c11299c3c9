-- What is kept of lines that open arrays.
use Rattle.std.specs.Prelude.{◌≡◌, ℕ, List, [], ◌∷◌, ◌++◌, map, Bool, false, Option, is_some, slice_set, slice_index_or}
use Rattle.std.specs.List.{AllByRecursion}
use Rattle.history.specs.Lines.{SpecLeaf}
use Rattle.transcript_cut.specs.declared.SpecLeaf as spec
use Rattle.transcript_cut.specs.Openings.{leaf_of}
use Rattle.history.specs.Answers.{Text}
use Rattle.transcript_cut.specs.Leaves.{IsSoundLeaf}
use Rattle.transcript_cut.specs.Transcript.{mount, Told}
use Rattle.transcript_cut.specs.ToldNumbers.{told_of}
use Rattle.transcript_cut.specs.Stances.{Stance, stance, stance_by}
use Rattle.transcript_cut.specs.Said.{IsSaid}
use Rattle.transcript_cut.specs.declared.said.Said.{Said}
use Rattle.stated_arrays.specs.Outlined.{leaves_at}
use Rattle.stated_arrays.specs.declared.lines.OpenLine.{OpenLine}

-- leaves of Specs, each of no node
abbrev pub bare : List spec.SpecLeaf → List SpecLeaf
bare leaves = map (leaf_of []) leaves

-- these leaves are those of a Spec, each of a node
abbrev pub AreLeavesOf : List spec.SpecLeaf → List SpecLeaf → Type 0
AreLeavesOf [] [] = Unit {0}
AreLeavesOf [] (leaf ∷ leaves) = ⊥
AreLeavesOf (kept ∷ more) [] = ⊥
AreLeavesOf (kept ∷ more) (leaf ∷ leaves) = ((node : Text) × (leaf ≡ leaf_of node kept)) × AreLeavesOf more leaves

-- no leaf was given a number
pub record IsFreshLine (line : OpenLine) : Type 0 where
  pub takings : line.takings.items ≡ []
  pub taken : line.taken ≡ 0

-- a line more with these leaves
pub record IsNewLine (leaves : List spec.SpecLeaf) (old new : List OpenLine) : Type 0 where
  pub line : OpenLine
  pub kept : new ≡ old ++ line ∷ []
  pub rest : line.rest.items ≡ leaves
  pub fresh : IsFreshLine line

-- the leaves are as those of a Spec on the one mount
abbrev pub IsSoundLine : OpenLine → Type 0
IsSoundLine line = AllByRecursion (IsSoundLeaf (mount ∷ [])) line.rest.items

-- what a line opens is kept of it, where this transaction stands
pub record IsKept (s : Option Stance) (told : Told) (line : OpenLine) : Type 0 where
  pub leaves : AreLeavesOf line.rest.items (leaves_at s told.asked)
  pub fresh : IsFreshLine line

-- so it is of each, behind earlier ones
abbrev pub AreKept : List Told → List Told → List OpenLine → Type 0
AreKept earlier [] [] = Unit {0}
AreKept earlier [] (line ∷ lines) = ⊥
AreKept earlier (told ∷ later) [] = ⊥
AreKept earlier (told ∷ later) (line ∷ lines) =
    IsKept (stance (told_of told.session earlier)) told line × AreKept (earlier ++ told ∷ []) later lines

-- a line was kept, and whether a transaction of its session stands behind it
pub record IsKeptBehind (scripts : List (List ℕ)) (said : Said) (old new : List Bool) (lines more : List OpenLine) : Type 0 where
  pub line : OpenLine
  pub kept : more ≡ lines ++ line ∷ []
  pub sound : IsSoundLine line
  pub stands : Bool
  pub standing : new ≡ slice_set old said.line.session stands
  pub told : (transcript : List ℕ) (told : Told) (s : Option Stance) → IsSaid scripts transcript said told
      → slice_index_or old said.line.session false ≡ is_some s
      → IsKept s told line × (stands ≡ is_some (stance_by told.number told.answer told.asked s))
