use Rattle.chunk_versions.proofs.Counts.{count_at_ok, count_at_err}
use Rattle.chunk_versions.proofs.touches.up_to.Goals as goal

pub returns-in-Ok-clause-value : goal.returns-in-Ok-clause-value
returns-in-Ok-clause-value c = count_at_ok c.args.moment c.args.numbers.now c.requires c.binary_search.result c.binary_search.ensures.position c.in-Ok.place c.in-Ok.is

pub returns-in-Err-clause-value : goal.returns-in-Err-clause-value
returns-in-Err-clause-value c = count_at_err c.args.moment c.args.numbers.now c.requires c.binary_search.result c.binary_search.ensures.position c.in-Err.place c.in-Err.is
