use Rattle.std.proofs.Common.{List, Some, sym, subst}
use Rattle.transcript_fits.specs.Kept.{AreKeptActs}
use Rattle.transcript_fits.specs.Walks.{AreToldIn, outlined, TellsCommits}
use Rattle.transcript_fits.specs.Transcript.{Told}
use Rattle.transcript_check.proofs.checking.check_lines.Goals as goal

pub check_commits-requires-clause-commits : goal.check_commits-requires-clause-commits
check_commits-requires-clause-commits c =
    let s = c.args.source.now in
    subst (λ each. (told : List Told) → AreToldIn s told → TellsCommits (outlined s) told (Some each)) (sym c.items-commits.ensures) c.requires.lines.0

pub check_commits-requires-clause-acts : goal.check_commits-requires-clause-acts
check_commits-requires-clause-acts c = subst (AreKeptActs c.args.source.now) (sym c.items.ensures) c.requires.lines.1
