use Rattle.std.proofs.Common.{◌≡◌, true, false, refl, sym, ap, subst, ◌∙◌}
use Rattle.std.specs.Prelude.{IsSome}
use Rattle.std.specs.Option.{option_map}
use Rattle.state_laws.specs.Names.{IsChunkName}
use Rattle.state_laws.specs.declared.ArrayInfo.{ArrayInfo}
use Rattle.state_laws.specs.Arrays.{Known, known_after}
use Rattle.state_laws.specs.Places.{IsTable, location}
use Rattle.state_laws.proofs.Laws.{some_inj}
use Rattle.state_laws.specs.Log.{StateOf}
use Rattle.state_laws.proofs.Laws.{of_table, places_apart, stored_some, nothing_above, not_named}
use Rattle.shared_state.proofs.state.State.stored_of.Goals as goal

pub returns-in_err-number-clause-none : goal.returns-in_err-number-clause-none
returns-in_err-number-clause-none g c = λ e.
    let h = c.args.self.now.log.events in
    let same = ap (λ (st : StateOf g.row.K.Denot). st.log.events) c.self.view_is in
    let table = subst (λ es. IsTable es c.self.inside.places) same c.self.invariant in
    nothing_above h c.self.inside.places table c.requires.agrees.1.outline c.args.key.now c.requires.stored c.requires.few (c.above.ensures.none c.in_err-number.was)

pub info-info-requires : goal.info-info-requires
info-info-requires g c =
    let h = c.args.self.now.log.events in
    let same = ap (λ (st : StateOf g.row.K.Denot). st.log.events) c.self.view_is in
    let table = subst (λ es. IsTable es c.self.inside.places) same c.self.invariant in
    let first = c.in_ok-number.ensures.some in
    let k = of_table h c.self.inside.places table c.requires.agrees.1.outline first.upper c.in_ok-number.number first.there in
    subst (λ es. IsSome (known_after es c.in_ok-number.number)) (sym same) (subst IsSome (sym k.1) refl)

pub name_in-name-requires : goal.name_in-name-requires
name_in-name-requires g c =
    let h = c.args.self.now.log.events in
    let same = ap (λ (st : StateOf g.row.K.Denot). st.log.events) c.self.view_is in
    let table = subst (λ es. IsTable es c.self.inside.places) same c.self.invariant in
    let first = c.in_ok-number.ensures.some in
    let k = of_table h c.self.inside.places table c.requires.agrees.1.outline first.upper c.in_ok-number.number first.there in
    let info : c.info-info.result.now ≡ k.0.info = some_inj c.info-info.result.now k.0.info (c.info-info.ensures.value ∙ ap (λ es. option_map (λ (l : Known). l.info) (known_after es c.in_ok-number.number)) same ∙ ap (option_map (λ (l : Known). l.info)) k.1) in
    (first.upper, first.rest, ap (λ (i : ArrayInfo). location i.home) info ∙ k.2, first.parts)

pub returns-then-is_chunk_name-clause-some : goal.returns-then-is_chunk_name-clause-some
returns-then-is_chunk_name-clause-some g c =
    let h = c.args.self.now.log.events in
    let same = ap (λ (st : StateOf g.row.K.Denot). st.log.events) c.self.view_is in
    let table = subst (λ es. IsTable es c.self.inside.places) same c.self.invariant in
    let first = c.in_ok-number.ensures.some in
    let k = of_table h c.self.inside.places table c.requires.agrees.1.outline first.upper c.in_ok-number.number first.there in
    let info : c.info-info.result.now ≡ k.0.info = some_inj c.info-info.result.now k.0.info (c.info-info.ensures.value ∙ ap (λ es. option_map (λ (l : Known). l.info) (known_after es c.in_ok-number.number)) same ∙ ap (option_map (λ (l : Known). l.info)) k.1) in
    let rest = c.name_in-name.ensures first.upper first.rest (ap (λ (i : ArrayInfo). location i.home) info ∙ k.2) first.parts in
    let name = c.is_chunk_name.ensures.0 c.if-is_chunk_name.true in
    stored_some h c.self.inside.places table c.requires.agrees.1.outline c.in_ok-number.number k.0 c.args.key.now first.upper first.rest k.1 k.2 first.parts
    (subst (λ t. IsChunkName k.0.info t) rest (subst (λ (i : ArrayInfo). IsChunkName i c.name_in-name.result.now) info name))

pub returns-else-is_chunk_name-clause-none : goal.returns-else-is_chunk_name-clause-none
returns-else-is_chunk_name-clause-none g c = λ e.
    let h = c.args.self.now.log.events in
    let same = ap (λ (st : StateOf g.row.K.Denot). st.log.events) c.self.view_is in
    let table = subst (λ es. IsTable es c.self.inside.places) same c.self.invariant in
    let first = c.in_ok-number.ensures.some in
    let legal = c.requires.agrees.1.outline in
    let k = of_table h c.self.inside.places table legal first.upper c.in_ok-number.number first.there in
    let info : c.info-info.result.now ≡ k.0.info = some_inj c.info-info.result.now k.0.info (c.info-info.ensures.value ∙ ap (λ es. option_map (λ (l : Known). l.info) (known_after es c.in_ok-number.number)) same ∙ ap (option_map (λ (l : Known). l.info)) k.1) in
    let rest = c.name_in-name.ensures first.upper first.rest (ap (λ (i : ArrayInfo). location i.home) info ∙ k.2) first.parts in
    not_named h c.self.inside.places table legal c.in_ok-number.number k.0 c.args.key.now first.upper first.rest c.requires.stored c.requires.few k.1 k.2 first.parts
    (λ above more m parts there. some_inj c.in_ok-number.number m (c.in_ok-number.ensures.only (places_apart h c.self.inside.places table legal) above more m parts there))
    (λ is.
    let name : IsChunkName c.info-info.result.now c.name_in-name.result.now = subst (λ (i : ArrayInfo). IsChunkName i c.name_in-name.result.now) (sym info) (subst (λ t. IsChunkName k.0.info t) (sym rest) is) in
    let yes : true ≡ c.is_chunk_name.result = sym (c.is_chunk_name.ensures.1 name) in
    let clash : true ≡ false = yes ∙ c.if-is_chunk_name.false in
    absurd (cc))
