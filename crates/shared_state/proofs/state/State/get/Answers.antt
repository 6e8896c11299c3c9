use Rattle.std.proofs.Common.{◌≡◌, ◌<◌, sym, subst}
use Rattle.state_laws.specs.Log.{StateOf}
use Rattle.shared_state.proofs.state.State.get.Goals as goal

pub returns-in-Ok-clause-told : goal.returns-in-Ok-clause-told
returns-in-Ok-clause-told g c = λ more.
    let seen = g.K.KvStore.seen in
    let risen = subst (λ (st : StateOf g.row.K.Denot). (seen st.store).faults < (seen c.get_shared.new.self).faults) (sym c.self.view_is) more in
    let no = c.in-Ok.ensures.cause.told risen in
    absurd (cc)

pub returns-in-Err-Memory-clause-told : goal.returns-in-Err-Memory-clause-told
returns-in-Err-Memory-clause-told g c = λ more.
    let seen = g.K.KvStore.seen in
    let risen = subst (λ (st : StateOf g.row.K.Denot). (seen st.store).faults < (seen c.get_shared.new.self).faults) (sym c.self.view_is) more in
    let no = c.in-Err-Memory.ensures.cause.told risen in
    absurd (cc)
