use Rattle.std.proofs.Common.{◌≡◌, ◌+◌, take, length}
use Rattle.chunk_versions.specs.Marks.{AreShownBehind}
use Rattle.chunk_versions.specs.Reach.{AreJudged}
use Rattle.chunk_versions.proofs.versions.ChunkVersions.judge_all.Given as goal

-- the candidates are judged by the first cells
abbrev pub invariant-loop-i : goal.invariant-loop-i
invariant-loop-i l = record {
  size : length l.reach ≡ length l.fn.reach;
  judged : AreJudged l.fn.reach l.reach (λ k. AreShownBehind l.self l.casts (l.first + k + 1) (take l.i l.asked));
}
