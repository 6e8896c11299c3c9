use Rattle.std.proofs.Common.{◌≡◌, ◌≤◌, ◌+◌, length}
use Rattle.cast_driver.specs.Chain.{word_out}
use Rattle.chunk_versions.proofs.Judging.{IsJudgedTo}
use Rattle.chunk_versions.proofs.walks.rule_out.Given as goal

abbrev pub invariant-versions : goal.invariant-versions
invariant-versions l = record {
  within : l.link ≤ length l.puts;
  size : length l.reach ≡ length l.fn.reach;
  judged : IsJudgedTo (λ kept. word_out l.casts kept ≡ l.word) l.fill l.first l.puts l.newest l.fn.reach l.reach l.link l.until;
}

-- where there is no put, all that are left are judged
abbrev pub decreases-versions : goal.decreases-versions
decreases-versions l = l.link + l.until
