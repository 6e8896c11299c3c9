use Rattle.std.proofs.Common.{◌∙◌, ◌++◌, ◌∷◌, ◌<◌, [], ap, subst}
use Rattle.transaction_cases.proofs.SessionLaws.{two_passes}
use Rattle.transaction_cases.proofs.session_lines.last.Goals as goal

pub close-requires-clause-each : goal.close-requires-clause-each
close-requires-clause-each c k less = two_passes c.push-2.new.self.items c.args.one c.args.other (c.in_ok-push-2.ensures.items ∙ ap (λ l. l ++ c.args.other ∷ []) (c.in_ok-push.ensures.items ∙ ap (λ l. l ++ c.args.one ∷ []) c.in_ok-passes.ensures.items)) c.requires.first c.requires.second k (subst (λ n. k < n) c.requires.two less)
