use Rattle.std.proofs.Common.{◌≡◌, true, sym, subst}
use Rattle.std.specs.Prelude.{◌↔◌}
use Rattle.history.specs.Own.{numbers_of}
use Rattle.stated_arrays.specs.Claimed.{stated_asked}
use Rattle.stated_arrays.specs.ToldNumbers.{numbers_in}
use Rattle.stated_acts.proofs.PrintingLaws.{may_is}
use Rattle.stated_acts.proofs.printing.may_print.Goals as goal

pub returns : goal.returns
returns c = λ h owner line t asked answer is so prints all.
    subst (λ b. (b ≡ true) ↔ (numbers_of (stated_asked h owner line asked answer) ≡ numbers_in answer)) (sym c.may_by.ensures)
    (may_is h owner line t asked answer c.args.numbers.now prints c.args.act.now c.args.stands is so all)
