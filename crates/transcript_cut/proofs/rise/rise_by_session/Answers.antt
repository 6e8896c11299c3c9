use Rattle.std.proofs.Common.{◌≡◌, ◌<◌, ◌+◌, ◌∷◌, true, false, length, drop, sym, ap, subst, ◌∙◌, arith}
use Rattle.std.proofs.lemmas.List.{drop_more, drop_all}
use Rattle.transcript_cut.specs.Numbers.{all_numbers}
use Rattle.transcript_cut.specs.Risen.{IsRiseAt}
use Rattle.transcript_cut.specs.declared.said.Said.{Said}
use Rattle.transcript_cut.proofs.Rising.{session_within, rising_first, rising_last, rising_at, rising_stops}
use Rattle.transcript_cut.proofs.rise.rise_by_session.Goals as goal

pub loop-line-init : goal.loop-line-init
loop-line-init c = rising_first c.args.last.now c.args.said.now c.requires.none

pub rise_at-rises-requires : goal.rise_at-rises-requires
rise_at-rises-requires c =
    let low : c.loop-line.line-index < length c.args.said.now = omega arith in
    let within = session_within (length c.args.last.now) c.args.said.now c.loop-line.line-index c.line-item.result c.requires.sessions low c.line-item.is in
    omega (arith, within)

pub loop-line-preserved : goal.loop-line-preserved
loop-line-preserved c =
    let said = c.args.said.now in
    let i = c.loop-line.line-index in
    let x = c.line-item.result in
    let low : i < length said = omega arith in
    let within : x.line.session < length c.args.last.now = session_within (length c.args.last.now) said i x c.requires.sessions low c.line-item.is in
    let parts : drop i said ≡ x ∷ drop (i + 1) said = drop_more said i x low ∙ ap (λ (y : Said). y ∷ drop (i + 1) said) (sym c.line-item.is) in
    let up : c.rise_at-rises.result ≡ true = cc in
    rising_at c.loop-line.last said (drop i said) (drop (i + 1) said) x c.loop-line.invariant parts c.rise_at-rises.new.last (omega (arith, within))
    (subst (IsRiseAt c.loop-line.last c.rise_at-rises.new.last x.line.session (all_numbers x.numbers)) up c.rise_at-rises.ensures)

pub returns-then-not-rises : goal.returns-then-not-rises
returns-then-not-rises c =
    let said = c.args.said.now in
    let i = c.loop-line.line-index in
    let x = c.line-item.result in
    let low : i < length said = omega arith in
    let parts : drop i said ≡ x ∷ drop (i + 1) said = drop_more said i x low ∙ ap (λ (y : Said). y ∷ drop (i + 1) said) (sym c.line-item.is) in
    let down : c.rise_at-rises.result ≡ false = cc in
    rising_stops c.loop-line.last said (drop i said) (drop (i + 1) said) x c.loop-line.invariant parts
    (subst (IsRiseAt c.loop-line.last c.rise_at-rises.new.last x.line.session (all_numbers x.numbers)) down c.rise_at-rises.ensures)

pub returns : goal.returns
returns c =
    let said = c.args.said.now in
    let i = c.loop-line.line-index in
    rising_last c.loop-line.last said (drop i said) (drop_all i said (omega arith)) c.loop-line.invariant
