use Rattle.std.proofs.lemmas.Result.{IfOk-weaker}
use Rattle.history.specs.Lines.{viewing}
use Rattle.indexmap.specs.IndexMap.{get_by_text}
use Rattle.line_acts.specs.Changes.{changes_of}
use Rattle.stated_acts.specs.Acts.{IsActAmong, IsSoundAct}
use Rattle.stated_acts.proofs.ActLaws.{refused_asked, refused_sound}
use Rattle.stated_acts.proofs.acts.bound_by.Goals as goal

pub returns-in-Ok-clause-act : goal.returns-in-Ok-clause-act
returns-in-Ok-clause-act c = λ t. c.in-Ok.ensures.value c.args.name t

pub returns-in-Err-clause-act : goal.returns-in-Err-clause-act
returns-in-Err-clause-act c =
    IfOk-weaker c.refused.result _ (IsActAmong (get_by_text c.args.names.now) (viewing c.args.name c.args.of.now (changes_of c.args.transform.now c.args.steps.now)))
    (λ act told t. refused_asked _ c.in-Err.body t act told (c.in-Err.ensures.err c.args.name t)) c.refused.ensures

pub returns-in-Err-clause-sound : goal.returns-in-Err-clause-sound
returns-in-Err-clause-sound c = IfOk-weaker c.refused.result _ IsSoundAct (λ act told. refused_sound c.in-Err.body act told) c.refused.ensures
