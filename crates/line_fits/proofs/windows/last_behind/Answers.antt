use Rattle.std.proofs.Common.{◌∙◌, ◌++◌, ap, ap₂, sym}
use Rattle.transcript_cut.specs.ToldNumbers.{single}
use Rattle.line_fits.specs.Walls.{last_from}
use Rattle.line_fits.proofs.Walls.{last_from-append}
use Rattle.line_fits.proofs.windows.last_behind.Goals as goal

pub returns : goal.returns
returns c =
    let numbers = c.args.numbers.now in
    c.last_failed.ensures
    ∙ ap (λ n. last_from n (single numbers.failed)) (c.last_in-seen-2.ensures ∙ ap₂ last_from (c.last_in-seen.ensures ∙ ap (last_from c.args.seen) c.items.ensures) c.items-2.ensures)
    ∙ sym (last_from-append (last_from c.args.seen numbers.opened) numbers.done (single numbers.failed))
    ∙ sym (last_from-append c.args.seen numbers.opened (numbers.done ++ single numbers.failed))
