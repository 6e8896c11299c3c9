use Rattle.std.proofs.Common.{refl, sym, ap, subst, ◌∙◌}
use Rattle.std.specs.Prelude.{IsSome}
use Rattle.state_laws.specs.Arrays.{known_after}
use Rattle.state_laws.proofs.Laws.{generation_by_table, one_chunk_in}
use Rattle.state_laws.specs.Keyed.{IsKeyIn, IsNobodys}
use Rattle.state_laws.proofs.Laws.{key_known}
use Rattle.shared_state.proofs.state.State.generation.Goals as goal

pub generation_at-requires : goal.generation_at-requires
generation_at-requires g c =
    let there = c.in-Some.ensures.some in
    subst IsSome (sym (ap (known_after c.args.self.now.log.events) (sym there.of_array) ∙ there.has.known)) refl

pub returns-in-Some-clause-by_table : goal.returns-in-Some-clause-by_table
returns-in-Some-clause-by_table g c = λ d has.
    let h = c.args.self.now.log.events in
    let there = subst (λ key. IsKeyIn h key c.in-Some.array) c.as_bytes.ensures.value c.in-Some.ensures.some in
    c.generation_at.ensures has.array (key_known h c.requires.agrees.1.outline c.in-Some.array c.args.key.now there d has)

pub returns-in-Some-clause-history : goal.returns-in-Some-clause-history
returns-in-Some-clause-history g c =
    let h = c.args.self.now.log.events in
    let there = subst (λ key. IsKeyIn h key c.in-Some.array) c.as_bytes.ensures.value c.in-Some.ensures.some in
    let state = c.requires.agrees.1 in
    record {
      of_chunk = λ d has.
          c.generation_at.ensures has.array (key_known h state.outline c.in-Some.array c.args.key.now there d has)
          ∙ sym (generation_by_table h c.args.self.now.log.generations d c.args.key.now (one_chunk_in h state.outline) state.generations has);
      of_none = λ nobody. absurd (nobody there.chunk there.has);
    }

pub returns-in-None-clause-by_table : goal.returns-in-None-clause-by_table
returns-in-None-clause-by_table g c = λ d has.
    let nobody = subst (IsNobodys c.args.self.now.log.events) c.as_bytes.ensures.value (c.array_of.ensures.none c.in-None.is) in
    absurd (nobody d has)

pub returns-in-None-clause-history : goal.returns-in-None-clause-history
returns-in-None-clause-history g c =
    let nobody = subst (IsNobodys c.args.self.now.log.events) c.as_bytes.ensures.value (c.array_of.ensures.none c.in-None.is) in
    record { of_chunk = λ d has. absurd (nobody d has); of_none = λ none. refl }
