use Rattle.std.proofs.Common.{sym, ap, ◌∙◌}
use Rattle.std.specs.Option.{option_copied}
use Rattle.state_laws.proofs.Laws.{none_is_none}
use Rattle.state_laws.specs.Log.{StateOf, cells_held}
use Rattle.shared_state.proofs.state.State.share_held.Goals as goal

pub unreachable-requires : goal.unreachable-requires
unreachable-requires g c =
    let local = c.requires.local in
    let held = c.requires.agrees.1.held c.args.array local.0 local.1 local.2 in
    none_is_none held.snapshot (sym (ap option_copied c.in_default.is) ∙ c.held.ensures ∙ ap (λ (st : StateOf g.row.K.Denot). cells_held st.log c.args.array) c.self.view_is ∙ held.held)
