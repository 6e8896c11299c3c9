-- The commits that lines state may be swept over.
use Rattle.std.proofs.Common.{List, [], ◌∷◌}
use Rattle.std.specs.List.{AllByRecursion}
use Rattle.transcript_fits.specs.Sweeps.{IsStatedKind, IsOpIn, HasItsWrites}
use Rattle.transcript_fits.specs.declared.Event.{Event}
use Rattle.transcript_fits.specs.declared.Kind.{Kind}
use Rattle.transcript_fits.specs.declared.Kind.TheVariants.{Opened, Done, Resized, Fault}
use Rattle.transcript_fits.specs.declared.Op.{Op}
use Rattle.transcript_fits.specs.declared.Op.TheVariants.{Write, Read}
use Rattle.transcript_fits.specs.History.{History}
use Rattle.transcript_fits.specs.Legal.{AreWritten}
use Rattle.transcript_fits.specs.StatedCommits.{IsSoundOp, IsSoundKind, IsSoundEvent, IsCounted}
use Rattle.transcript_fits.proofs.Laws.{stated_commits_are_sound}
use Rattle.transcript_check.specs.Stated.{StatedMayBeSwept}

writes_of : (op : Op) → IsCounted op → AreWritten op → HasItsWrites op
writes_of (Write view words) count words_are = (count, words_are)
writes_of (Read view words) count words_are = tt

op_in : (h : History) (op : Op) → IsSoundOp h op → IsOpIn h op
op_in h op is = record {
  view = record { valid = is.view; finite = is.finite; few = is.few; refs = is.refs; targets = is.targets };
  writes = writes_of op is.count is.words;
}

ops_in : (h : History) (ops : List Op) → AllByRecursion (IsSoundOp h) ops → AllByRecursion (IsOpIn h) ops
ops_in h [] are = tt
ops_in h (op ∷ ops) are = (op_in h op are.0, ops_in h ops are.1)

kind_in : (h : History) (k : Kind) → IsSoundKind h k → IsStatedKind h k
kind_in h (Opened info) is = tt
kind_in h (Done line mode ops key) is = (is.0, ops_in h ops is.1)
kind_in h (Resized a shape) is = absurd is
kind_in h (Fault mount) is = tt

kinds_in : (h : History) (es : History) → AllByRecursion (IsSoundEvent h) es → AllByRecursion (λ (e : Event). IsStatedKind h e.kind) es
kinds_in h [] are = tt
kinds_in h (e ∷ es) are = (kind_in h e.kind are.0, kinds_in h es are.1)

pub stated_may_be_swept : StatedMayBeSwept
stated_may_be_swept = λ scripts told history are checked numbered stated legal.
    record { openings = legal; each = kinds_in history history (stated_commits_are_sound scripts told history are checked numbered stated.sessions stated.count legal) }
