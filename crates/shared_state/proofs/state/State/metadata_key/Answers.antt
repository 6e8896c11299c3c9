use Rattle.std.proofs.Common.{◌≡◌, ◌++◌, Some, None, string_bytes, sym, ap, ◌∙◌}
use Rattle.std.specs.Option.{option_map}
use Rattle.state_laws.specs.FormNames.{metadata_name}
use Rattle.state_laws.specs.declared.ArrayInfo.{ArrayInfo}
use Rattle.state_laws.specs.Arrays.{Known, known_after, form_of, is_local}
use Rattle.state_laws.specs.Chunks.{home_text}
use Rattle.state_laws.proofs.Laws.{some_inj}
use Rattle.state_laws.specs.Log.{StateOf}
use Rattle.shared_state.proofs.Keys.{named_if_stored}
use Rattle.shared_state.proofs.state.State.metadata_key.Goals as goal

pub unreachable-requires : goal.unreachable-requires
unreachable-requires g c =
    let k = c.requires.0 in
    let events = ap (λ (st : StateOf g.row.K.Denot). known_after st.log.events c.args.array) c.self.view_is in
    let same : c.info.result.now ≡ k.info = some_inj c.info.result.now k.info (c.info.ensures.value ∙ ap (option_map (λ (l : Known). l.info)) (events ∙ c.requires.1)) in
    let home = c.info.result.now.home in
    let none : option_map (λ name. home_text home k.opened ++ name) (metadata_name (form_of home)) ≡ None = sym (c.in_ok-key.ensures k.opened) ∙ ap (option_map string_bytes) c.in_default.is in
    named_if_stored home (λ name. home_text home k.opened ++ name) (ap (λ (i : ArrayInfo). is_local i.home) same ∙ c.requires.2) none

pub returns : goal.returns
returns g c = λ k known.
    let events = ap (λ (st : StateOf g.row.K.Denot). known_after st.log.events c.args.array) c.self.view_is in
    let same : c.info.result.now ≡ k.info = some_inj c.info.result.now k.info (c.info.ensures.value ∙ ap (option_map (λ (l : Known). l.info)) (events ∙ known)) in
    ap (λ (i : ArrayInfo). option_map (λ name. home_text i.home k.opened ++ name) (metadata_name (form_of i.home))) (sym same) ∙ sym (c.in_ok-key.ensures k.opened)
    ∙ ap (option_map string_bytes) c.in-Some.is ∙ ap Some (sym c.wrap.ensures)
