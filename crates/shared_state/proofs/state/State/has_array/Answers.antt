use Rattle.std.proofs.Common.{◌≡◌, sym, ap, ◌∙◌}
use Rattle.std.specs.Prelude.{count_by, nat_lt}
use Rattle.state_laws.specs.Legal.{is_opening}
use Rattle.state_laws.specs.Log.{StateOf}
use Rattle.state_laws.proofs.Laws.{known_test, test_known}
use Rattle.shared_state.proofs.state.State.has_array.Goals as goal

pub returns : goal.returns
returns g c =
    let h = c.args.self.now.log.events in
    let legal = c.requires.agrees.1.outline in
    let same : c.array_count.result ≡ count_by is_opening h = c.array_count.ensures.value ∙ ap (λ (st : StateOf g.row.K.Denot). count_by is_opening st.log.events) c.self.view_is in (
      λ test. known_test h c.args.array legal (ap (nat_lt c.args.array) (sym same) ∙ test),
      λ is. ap (nat_lt c.args.array) same ∙ test_known h c.args.array legal is,
    )
