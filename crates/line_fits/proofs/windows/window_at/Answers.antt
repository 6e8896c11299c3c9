use Rattle.std.proofs.Common.{◌∙◌, ◌<◌, ℕ, length, sym, ap, ap₂, arith}
use Rattle.transcript_cut.specs.declared.said.Said.{Said}
use Rattle.transcript_cut.specs.Windows.{Window}
use Rattle.line_fits.specs.Walls.{last_from}
use Rattle.line_fits.proofs.Walls.{window_is}
use Rattle.line_fits.proofs.windows.window_at.Goals as goal

pub returns : goal.returns
returns c = λ total told t transaction ends printed lines.
    let said = c.args.said.now in
    let s = c.said_at.result.now in
    let low : c.args.at < length said = c.requires.at in
    let before : c.args.begun < length said = omega (arith, c.requires.at, c.requires.begun) in
    let make : ℕ → ℕ → Window = λ x y. record { from = x; upto = y } in
    let from = c.last_in.ensures ∙ ap₂ last_from (c.requires.lasts.last c.args.begun before) (c.items-opened.ensures ∙ ap (λ (y : Said). y.numbers.opened) (c.said_at.ensures s)) in
    window_is total said told c.args.at c.args.begun s t transaction low printed lines ∙ ap₂ make (sym from) (sym (ends.end c.args.at s low))
