use Rattle.std.proofs.Common.{take}
use Rattle.std.specs.Prelude.{All}
use Rattle.std.specs.Str.{IsCharBoundary}
use Rattle.kv_face.specs.declared.change.Change.{Change}
use Rattle.state_laws.proofs.applying.are_texts.Given as goal

-- the first keys begin with a character
abbrev pub invariant-loop-change : goal.invariant-loop-change
invariant-loop-change l = All (λ (c : Change). IsCharBoundary c.key 0) (take l.change-index l.changes)
