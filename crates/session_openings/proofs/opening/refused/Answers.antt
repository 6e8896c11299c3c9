use Rattle.std.proofs.Common.{◌≡◌, ◌∙◌, ◌⊎◌, [], length, ap, subst}
use Rattle.std.specs.Prelude.{unwrap_or}
use Rattle.sessions.specs.declared.Body.TheVariants as body
use Rattle.sessions.specs.AnswerBodies.{body_of}
use Rattle.sessions.specs.MeaningOpenings.{node_of}
use Rattle.sessions.specs.Asked.{asked_leaf}
use Rattle.sessions.specs.Opening.{open_answer, IsUnseen}
use Rattle.session_openings.proofs.opening.refused.Goals as goal

pub returns : goal.returns
returns c =
    subst (λ n. ((c.unopened.result ≡ body.Memory) × IsUnseen c.args.e) ⊎ (c.unopened.result ≡ body_of (open_answer (unwrap_or (node_of n c.args.tree.now) []) (asked_leaf c.args.asked.now) c.args.opened.events.items c.args.e)))
    (ap length c.as_slice.ensures.value) c.unopened.ensures
