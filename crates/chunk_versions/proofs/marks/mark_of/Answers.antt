use Rattle.std.proofs.Common.{ap, ◌∙◌}
use Rattle.chunk_versions.specs.Moments.{up_to}
use Rattle.chunk_versions.proofs.Found.{count_of_mark}
use Rattle.chunk_versions.proofs.marks.mark_of.Goals as goal

pub returns-clause-count : goal.returns-clause-count
returns-clause-count c =
    ap (λ m. up_to m c.args.touches.now) c.max.ensures
    ∙ count_of_mark c.args.touches.now c.args.from c.args.first c.args.k c.requires.rising c.requires.first c.requires.within
