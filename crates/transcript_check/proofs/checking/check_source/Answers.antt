use Rattle.std.proofs.Common.{subst}
use Rattle.transcript_fits.specs.Kept.{TellsLines}
use Rattle.transcript_check.proofs.PartLaws.{told_in, none_claimed}
use Rattle.transcript_check.proofs.checking.check_source.Goals as goal

pub check_lines-requires-clause-lines : goal.check_lines-requires-clause-lines
check_lines-requires-clause-lines c = subst (TellsLines c.args.source.now) c.in-Ok-Some.field-0-is c.in-Ok-Some.ensures

pub returns-in-Ok-None : goal.returns-in-Ok-None
returns-in-Ok-None c =
    let s = c.args.source.now in
    let is = c.requires.source.source in
    let tells = subst (TellsLines s) c.in-Ok-None.field-0-is c.in-Ok-None.ensures in
    none_claimed s is c.requires.source.numbered (c.commits_complete_the_history.ensures.none s is.cut.told is (told_in s is) (tells is.cut.told (told_in s is)))
