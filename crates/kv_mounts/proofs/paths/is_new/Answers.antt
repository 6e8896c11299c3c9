use Rattle.std.proofs.Common.{codes}
use Rattle.std.proofs.lemmas.Str.Pattern.{ends_text}
use Rattle.kv_mounts.proofs.paths.is_new.Goals as goal

pub returns : goal.returns
returns c = ends_text c.ends_with.result (codes "~new") c.args.part.now c.ends_with.ensures.cases
