use Rattle.std.proofs.Common.{[], ◌∷◌, None, Some, IfOk, sym, ap, subst, ◌∙◌}
use Rattle.line_acts.specs.Meanings.{line_in}
use Rattle.stated_arrays.specs.Keeping.{IsCommandIn}
use Rattle.stated_arrays.specs.Unchecked.{is_unchecked_in}
use Rattle.stated_acts.specs.Acts.{IsActAt}
use Rattle.stated_acts.specs.Standings.{standing_of}
use Rattle.stated_acts.proofs.ActLaws.{sound_other}
use Rattle.stated_acts.proofs.acts.act_of.Goals as goal

pub act_in-requires-clause-command : goal.act_in-requires-clause-command
act_in-requires-clause-command c = let read = subst (IsCommandIn c.args.bytes.now) c.in-Some.is c.requires.kept in sound_other _ c.in-Some.command read.other

pub act_in-requires-clause-checked : goal.act_in-requires-clause-checked
act_in-requires-clause-checked c = let read = subst (IsCommandIn c.args.bytes.now) c.in-Some.is c.requires.kept in sym (ap is_unchecked_in read.form) ∙ c.requires.checked

pub returns-in-Some-clause-act : goal.returns-in-Some-clause-act
returns-in-Some-clause-act c =
    let read = subst (IsCommandIn c.args.bytes.now) c.in-Some.is c.requires.kept in
    subst (λ l. IfOk c.act_in.result (IsActAt (standing_of c.args.standing.now) l)) (sym (ap line_in read.form)) c.act_in.ensures.act
