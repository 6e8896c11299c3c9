use Rattle.std.proofs.Common.{rules, ◌≡◌, true, false, refl, sym, ap, subst, ◌∙◌}
use Rattle.indexmap.specs.IndexMap.{get_by_text}
use Rattle.std.specs.Prelude.{None, string_bytes}
use Rattle.std.specs.Str.{bytes_eq}
use Rattle.std.specs.Map.{lookup}
use Rattle.session_runs.specs.Session.{session_with}
use Rattle.session_runs.proofs.StepLaws.{session_first}
use Rattle.session_runs.proofs.session.Session.new.Goals as goal

pub returns-clause-on : goal.returns-clause-on
returns-clause-on g c = λ book rested none.
    session_first book _ rested none (λ i name. ap (λ es. lookup (λ k. bytes_eq name (string_bytes k)) es) c.new.ensures.empty i) refl (search rules)
