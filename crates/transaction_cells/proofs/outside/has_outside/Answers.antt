use Rattle.std.proofs.Common.{◌≡◌, ◌∙◌, ◌+◌, ◌&&◌, ◌||◌, List, Option, ℕ, [], true, false, not, sym, ap, arith, drop, unwrap_or}
use Rattle.std.specs.Prelude.{is_none}
use Rattle.std.specs.List.{list_any}
use Rattle.std.specs.Option.{option_map}
use Rattle.cells.specs.Runs.{chunk_place, pairs_of}
use Rattle.rebase_writes.specs.Staged.{staged_at}
use Rattle.transaction_cells.specs.Outside.{is_pair_outside, is_place_inside}
use Rattle.transaction_cells.proofs.OutsideLaws.{last_pair, next_pair}
use Rattle.transaction_cells.proofs.outside.has_outside.Goals as goal
use Rattle.transaction_cells.proofs.outside.has_outside.Goals.{else-is_bare_at-via-then-is_bare_at+else-not-is_inside_at, else-is_bare_at-via-else-is_bare_at}

pub returns-then-not-is_inside_at : goal.returns-then-not-is_inside_at
returns-then-not-is_inside_at c =
    let shape = c.args.shape.now in
    let chunk = c.args.chunk.now in
    let index = c.args.index.now in
    let run = c.args.run.now in
    let k = c.loop-k.k in
    let cells : List (Option ℕ) = unwrap_or (option_map (λ s. s.now) c.args.staged) [] in
    let test = is_pair_outside shape chunk index cells in
    let bare : is_none (staged_at cells (chunk_place run k)) ≡ true = ap (λ n. is_none (staged_at cells n)) (sym c.place_at-place.ensures) ∙ sym c.is_bare_at.ensures ∙ c.if-is_bare_at.true in
    let inside : is_place_inside shape chunk index (chunk_place run k) ≡ false = ap (is_place_inside shape chunk index) (sym c.place_at-place.ensures) ∙ sym c.is_inside_at.ensures ∙ c.if-not-is_inside_at.true in
    sym (sym c.loop-k.invariant ∙ next_pair test run k c.loop-k-test.true ∙ (λ i. (bare i && not (inside i)) || list_any test (drop (k + 1) (pairs_of run))))

pub loop-k-preserved : goal.loop-k-preserved
loop-k-preserved c =
    let shape = c.args.shape.now in
    let chunk = c.args.chunk.now in
    let index = c.args.index.now in
    let run = c.args.run.now in
    let k = c.loop-k.k in
    let cells : List (Option ℕ) = unwrap_or (option_map (λ s. s.now) c.args.staged) [] in
    let test = is_pair_outside shape chunk index cells in
    let rest = list_any test (drop (k + 1) (pairs_of run)) in
    let bare : is_none (staged_at cells (chunk_place run k)) ≡ c.is_bare_at.result = ap (λ n. is_none (staged_at cells n)) (sym c.place_at-place.ensures) ∙ sym c.is_bare_at.ensures in
    elim c.else-is_bare_at.branch [
      | else-is_bare_at-via-then-is_bare_at+else-not-is_inside_at w ↦
          let inside : is_place_inside shape chunk index (chunk_place run k) ≡ true = ap (is_place_inside shape chunk index) (sym c.place_at-place.ensures) ∙ sym w.is_inside_at.ensures ∙ w.if-not-is_inside_at.false in
          sym (next_pair test run k c.loop-k-test.true ∙ (λ i. ((bare ∙ w.if-is_bare_at.true) i && not (inside i)) || rest)) ∙ c.loop-k.invariant
      | else-is_bare_at-via-else-is_bare_at w ↦
          sym (next_pair test run k c.loop-k-test.true ∙ (λ i. ((bare ∙ w.if-is_bare_at.false) i && not (is_place_inside shape chunk index (chunk_place run k))) || rest)) ∙ c.loop-k.invariant
    ]

pub returns : goal.returns
returns c =
    let cells : List (Option ℕ) = unwrap_or (option_map (λ s. s.now) c.args.staged) [] in
    sym (last_pair (is_pair_outside c.args.shape.now c.args.chunk.now c.args.index.now cells) c.args.run.now c.loop-k.k (let done = c.loop-k-test.false in omega (arith, done))) ∙ c.loop-k.invariant
