use Rattle.std.proofs.Common.{◌∙◌, Err, ap, sym}
use Rattle.transcript_cut.specs.Standings.{words_given}
use Rattle.stated_arrays.proofs.told_words.nested.Goals as goal

pub returns-in-Ok : goal.returns-in-Ok
returns-in-Ok c = sym (ap words_given c.in-Ok.ensures.ok)

pub returns-in-Err-Bad : goal.returns-in-Err-Bad
returns-in-Err-Bad c =
    c.new.ensures.items ∙ sym (ap words_given (c.in-Err-Bad.ensures.bad c.in-Err-Bad.field-0-0 (ap Err c.in-Err-Bad.field-0-is)))
