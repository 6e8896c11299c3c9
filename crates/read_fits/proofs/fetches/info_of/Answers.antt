use Rattle.std.proofs.Common.{◌≡◌, ◌∙◌, ℕ, List, Some, ap, sym, subst}
use Rattle.std.specs.List.{slice_get}
use Rattle.history.specs.History.{History}
use Rattle.stated_arrays.specs.Outcomes.{IsOpenedAt}
use Rattle.read_fits.proofs.fetches.info_of.Goals as goal

pub number_at-number-requires : goal.number_at-number-requires
number_at-number-requires c = (c.requires.1.0, ap (λ (ns : List ℕ). slice_get ns c.args.array) c.items.ensures ∙ c.requires.1.1)

pub array_opened-requires : goal.array_opened-requires
array_opened-requires c =
    let there : slice_get c.args.openings.now.opened c.args.array ≡ Some c.number_at-number.result = sym (ap (λ (ns : List ℕ). slice_get ns c.args.array) c.items.ensures) ∙ c.number_at-number.ensures in
    let both : Some c.requires.1.0 ≡ Some c.number_at-number.result = sym c.requires.1.1 ∙ there in
    let same : c.requires.1.0 ≡ c.number_at-number.result = cc in
    (c.requires.0, subst (λ (events : History). IsOpenedAt events c.number_at-number.result c.requires.0) (sym c.items-2.ensures) (subst (λ n. IsOpenedAt c.args.openings.now.events n c.requires.0) same c.requires.1.2))

pub returns : goal.returns
returns c = λ info is.
    let there : slice_get c.args.openings.now.opened c.args.array ≡ Some c.number_at-number.result = sym (ap (λ (ns : List ℕ). slice_get ns c.args.array) c.items.ensures) ∙ c.number_at-number.ensures in
    let both : Some is.0 ≡ Some c.number_at-number.result = sym is.1 ∙ there in
    let same : is.0 ≡ c.number_at-number.result = cc in
    c.array_opened.ensures info (subst (λ (events : History). IsOpenedAt events c.number_at-number.result info) (sym c.items-2.ensures) (subst (λ n. IsOpenedAt c.args.openings.now.events n info) same is.2))
