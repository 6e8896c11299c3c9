use Rattle.std.proofs.Common.{◌≡◌, ◌∙◌, ◌+◌, ap, sym, ◌++◌, ◌∷◌, [], List, Option, Vec, Global, length, refl, arith, append_assoc}
use Rattle.std.proofs.lemmas.List.{length-append, append-nil}
use Rattle.cells.specs.Places.{c_index}
use Rattle.chunk_grid.specs.declared.piece.RunPiece.{RunPiece}
use Rattle.strided_runs.specs.Growing.{Grown}
use Rattle.chunk_grid.specs.Slots.{pieces_from}
use Rattle.chunk_grid.proofs.SlotLaws.{pieces_from-more}
use Rattle.chunk_grid.proofs.slots.pieces_of_slots.Goals as goal
use Rattle.chunk_grid.proofs.slots.pieces_of_slots.Goals.{in-Some-slot+in_ok-chunk+in_ok-runs+in_ok-push, in_default}

pub chunk_at-requires : goal.chunk_at-requires
chunk_at-requires c =
    let steps = c.in-Some.ensures.steps in
    let long = sym (length-append c.loop-slot.yielded c.loop-slot.slot-iterator.rest.items) ∙ ap length c.loop-slot.invariant.whole in
    let some = ap length steps.0 in
    omega (arith, long, some, c.loop-slot.invariant.number, c.requires)

pub loop-slot-preserved : goal.loop-slot-preserved
loop-slot-preserved c =
    let more = pieces_from-more c.args.counts.now done c.in-Some.slot 0 in
    record {
      number = ap (λ n. n + 1) c.loop-slot.invariant.number ∙ sym (length-append done (c.in-Some.slot ∷ []));
      whole = append_assoc done (c.in-Some.slot ∷ []) c.next.new.self.rest.items ∙ ap (λ xs. done ++ xs) (sym c.in-Some.ensures.steps.0) ∙ c.loop-slot.invariant.whole;
      pieces = pieces_now ∙ sym more;
    }
  where
    done : List (Option Grown)
    done = c.loop-slot.yielded

    pieces_now : c.match-slot.pieces.items ≡ pieces_from c.args.counts.now 0 c.loop-slot.yielded ++ pieces_from c.args.counts.now (0 + length c.loop-slot.yielded) (c.in-Some.slot ∷ [])
    pieces_now =
        let counts = c.args.counts.now in
        let number : c.loop-slot.number ≡ 0 + length c.loop-slot.yielded = omega (arith, c.loop-slot.invariant.number) in
        elim c.match-slot.branch [
          | in-Some-slot+in_ok-chunk+in_ok-runs+in_ok-push w ↦
              ap (λ (v : Vec RunPiece Global). v.items) w.pieces-is ∙ w.in_ok-push.ensures.items
              ∙ (λ i. c.loop-slot.invariant.pieces i ++ record { chunk = (w.in_ok-chunk.ensures ∙ ap (c_index counts) number) i; runs = w.in_ok-runs.ensures i } ∷ [])
              ∙ ap (λ (o : Option Grown). pieces_from counts 0 c.loop-slot.yielded ++ pieces_from counts (0 + length c.loop-slot.yielded) (o ∷ [])) (sym w.in-Some-slot.is)
          | in_default w ↦
              ap (λ (v : Vec RunPiece Global). v.items) w.pieces-is ∙ c.loop-slot.invariant.pieces ∙ sym (append-nil (pieces_from counts 0 c.loop-slot.yielded))
              ∙ ap (λ (o : Option Grown). pieces_from counts 0 c.loop-slot.yielded ++ pieces_from counts (0 + length c.loop-slot.yielded) (o ∷ [])) (sym w.in_default.is)
        ]

-- nothing is left of the slots
none_left : {X : Type 0} (xs : List X) → length xs ≡ 0 → xs ≡ []
none_left [] e = refl
none_left (x ∷ xs) e = absurd (omega (arith, e))

pub returns : goal.returns
returns c =
    let left = none_left c.loop-slot.slot-iterator.rest.items (omega (arith, c.in-None.ensures.steps.0)) in
    let whole : c.loop-slot.yielded ≡ c.args.slots.items = sym (append-nil c.loop-slot.yielded) ∙ ap (λ xs. c.loop-slot.yielded ++ xs) (sym left) ∙ c.loop-slot.invariant.whole in
    c.wrap.ensures ∙ c.loop-slot.invariant.pieces ∙ ap (pieces_from c.args.counts.now 0) whole
