use Rattle.std.proofs.Common.{None}
use Rattle.std.proofs.lemmas.Result.{IfOk-weaker}
use Rattle.history.specs.Acts.{act_of}
use Rattle.history.specs.Lines.{writing}
use Rattle.indexmap.specs.IndexMap.{get_by_text}
use Rattle.line_acts.specs.Changes.{changes_of}
use Rattle.line_acts.specs.Numbers.{values_of}
use Rattle.serde_json.specs.View.{view}
use Rattle.stated_acts.specs.Acts.{IsActAmong, IsSoundAct}
use Rattle.stated_acts.proofs.ActLaws.{refused_asked, refused_sound}
use Rattle.stated_acts.proofs.acts.written_by.Goals as goal

pub returns-in-Ok-clause-act : goal.returns-in-Ok-clause-act
returns-in-Ok-clause-act c =
    let line = writing c.args.name.now (changes_of None c.args.steps.now) (values_of (view c.args.values)) in
    IfOk-weaker c.written_cells.result _ (IsActAmong (get_by_text c.args.names.now) line)
    (λ act each t. each t (act_of (get_by_text c.args.names.now) t line) (c.in-Ok.ensures.act t)) c.written_cells.ensures.act

pub returns-in-Err-clause-act : goal.returns-in-Err-clause-act
returns-in-Err-clause-act c =
    IfOk-weaker c.refused.result _ (IsActAmong (get_by_text c.args.names.now) (writing c.args.name.now (changes_of None c.args.steps.now) (values_of (view c.args.values))))
    (λ act told t. refused_asked _ c.in-Err.body t act told (c.in-Err.ensures.err t)) c.refused.ensures

pub returns-in-Err-clause-sound : goal.returns-in-Err-clause-sound
returns-in-Err-clause-sound c = IfOk-weaker c.refused.result _ IsSoundAct (λ act told. refused_sound c.in-Err.body act told) c.refused.ensures
