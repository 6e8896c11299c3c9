use Rattle.std.proofs.Common.{[], ◌∷◌, cond, IfOk, sym, ap, subst, ◌∙◌}
use Rattle.std.proofs.lemmas.Result.{IfOk-weaker}
use Rattle.line_acts.specs.Form.{form_of, IsSound}
use Rattle.line_acts.specs.Meanings.{line_of}
use Rattle.line_acts.specs.declared.Body.TheVariants as body
use Rattle.stated_arrays.specs.Transcript.{mount}
use Rattle.stated_arrays.specs.declared.Command.{Command}
use Rattle.stated_arrays.specs.declared.Command.TheVariants as command
use Rattle.stated_acts.specs.Acts.{IsActAt}
use Rattle.stated_acts.specs.Standings.{standing_of}
use Rattle.stated_acts.specs.declared.acts.Act.TheVariants.{Refused, Opens, Begins, Commits, Aborts}
use Rattle.stated_acts.proofs.ActLaws.{IsActOfCommand, opens_outside, begins_outside, commits_inside, aborts_inside, opened_sound, begun_sound, commits_sound, plain_down, act_among}
use Rattle.stated_acts.proofs.acts.act_in.Goals as goal

pub returns-in-Open-clause-act : goal.returns-in-Open-clause-act
returns-in-Open-clause-act c =
    subst (λ (k : Command). IsActOfCommand c.args.standing.now k c.opened.result) (sym c.in-Open.is)
    (opens_outside c.args.standing.now c.in-Open.name c.in-Open.plan c.opened.result
    (c.opened.ensures ∙ ap (λ b. cond b (Refused body.InTransaction) (Opens c.in-Open.name c.in-Open.plan)) c.is_some-stands.ensures))

pub returns-in-Open-clause-sound : goal.returns-in-Open-clause-sound
returns-in-Open-clause-sound c =
    opened_sound c.is_some-stands.result c.in-Open.name c.in-Open.plan c.opened.result c.opened.ensures (subst (IsSound (mount ∷ [])) c.in-Open.is c.requires.command)

pub shown-requires-clause-plain : goal.shown-requires-clause-plain
shown-requires-clause-plain c = plain_down c.args.command c.in-Read.name c.in-Read.steps c.in-Read.down c.in-Read.is c.requires.checked

pub returns-in-View-clause-act : goal.returns-in-View-clause-act
returns-in-View-clause-act c =
    subst (λ (k : Command). IfOk c.bound.result (IsActAt (standing_of c.args.standing.now) (line_of (form_of k)))) (sym c.in-View.is)
    (IfOk-weaker c.bound.result _ (IsActAt (standing_of c.args.standing.now) (line_of (form_of (command.View c.in-View.name c.in-View.of c.in-View.transform c.in-View.steps))))
    (λ act each. act_among c.args.standing.now (line_of (form_of (command.View c.in-View.name c.in-View.of c.in-View.transform c.in-View.steps))) act each) c.bound.ensures.act)

pub returns-in-Read-clause-act : goal.returns-in-Read-clause-act
returns-in-Read-clause-act c =
    subst (λ (k : Command). IfOk c.shown.result (IsActAt (standing_of c.args.standing.now) (line_of (form_of k)))) (sym c.in-Read.is)
    (IfOk-weaker c.shown.result _ (IsActAt (standing_of c.args.standing.now) (line_of (form_of (command.Read c.in-Read.name c.in-Read.steps c.in-Read.down))))
    (λ act each. act_among c.args.standing.now (line_of (form_of (command.Read c.in-Read.name c.in-Read.steps c.in-Read.down))) act each) c.shown.ensures.act)

pub returns-in-Write-clause-act : goal.returns-in-Write-clause-act
returns-in-Write-clause-act c =
    subst (λ (k : Command). IfOk c.written.result (IsActAt (standing_of c.args.standing.now) (line_of (form_of k)))) (sym c.in-Write.is)
    (IfOk-weaker c.written.result _ (IsActAt (standing_of c.args.standing.now) (line_of (form_of (command.Write c.in-Write.name c.in-Write.steps c.in-Write.values))))
    (λ act each. act_among c.args.standing.now (line_of (form_of (command.Write c.in-Write.name c.in-Write.steps c.in-Write.values))) act each) c.written.ensures.act)

pub returns-in-Begin-clause-act : goal.returns-in-Begin-clause-act
returns-in-Begin-clause-act c =
    subst (λ (k : Command). IsActOfCommand c.args.standing.now k c.begun.result) (sym c.in-Begin.is)
    (begins_outside c.args.standing.now c.in-Begin.atomic c.in-Begin.repeatable_read c.begun.result
    (c.begun.ensures ∙ ap (λ b. cond b (Refused body.InTransaction) (Begins (record { atomic = c.in-Begin.atomic; repeatable_read = c.in-Begin.repeatable_read }))) c.is_some-stands.ensures))

pub returns-in-Begin-clause-sound : goal.returns-in-Begin-clause-sound
returns-in-Begin-clause-sound c = begun_sound c.is_some-stands.result c.in-Begin.atomic c.in-Begin.repeatable_read c.begun.result c.begun.ensures

pub returns-in-Commit-clause-act : goal.returns-in-Commit-clause-act
returns-in-Commit-clause-act c =
    subst (λ (k : Command). IsActOfCommand c.args.standing.now k c.ended.result) (sym c.in-Commit.is)
    (commits_inside c.args.standing.now c.ended.result (c.ended.ensures ∙ ap (λ b. cond b Commits (Refused body.NoTransaction)) c.is_some-stands.ensures))

pub returns-in-Commit-clause-sound : goal.returns-in-Commit-clause-sound
returns-in-Commit-clause-sound c = commits_sound c.is_some-stands.result c.ended.result c.ended.ensures

pub returns-in-Abort-clause-act : goal.returns-in-Abort-clause-act
returns-in-Abort-clause-act c =
    subst (λ (k : Command). IsActOfCommand c.args.standing.now k c.ended-in-Abort.result) (sym c.in-Abort.is)
    (aborts_inside c.args.standing.now c.ended-in-Abort.result (c.ended-in-Abort.ensures ∙ ap (λ b. cond b Aborts (Refused body.NoTransaction)) c.is_some-stands.ensures))
