-- A row is a part of the words, of which each is the first.
use Rattle.std.proofs.Common.{◌≡◌, ◌+◌, ◌-◌, ◌<◌, ◌≤◌, ℕ, List, length, get_or, take, drop, sym, ap, ◌∙◌, arith}
use Rattle.std.proofs.lemmas.List.{length-take-le, length-drop}
use Rattle.cells.specs.declared.run.Run.{Run}
use Rattle.cells.specs.Runs.{view_place}
use Rattle.rebase_writes.proofs.RisingLaws.{part_at}
use Rattle.rebase_writes.proofs.rising.is_one_word.Goals as goal

-- the words of a row's pairs, where each of its part is one
row_words : (run : Run) (words : List ℕ) (word : ℕ) → run.view_step ≡ 1 → run.view + run.len ≤ length words
    → ((k : ℕ) → k < length (take (run.view + run.len - run.view) (drop run.view words)) → get_or (take (run.view + run.len - run.view) (drop run.view words)) k 0 ≡ word)
    → (k : ℕ) → k < run.len → get_or words (view_place run k) 0 ≡ word
row_words run words word one end each k less =
    let size : run.view + run.len - run.view ≡ run.len = omega arith in
    let room : run.view + run.len - run.view ≤ length (drop run.view words) = omega (arith, length-drop run.view words, end) in
    let long = length-take-le (run.view + run.len - run.view) (drop run.view words) room in
    let place : view_place run k ≡ run.view + k = rw one (omega arith) in
    ap (λ p. get_or words p 0) place
    ∙ sym (part_at words run.view (run.view + run.len - run.view) k 0 (omega (arith, less, size)) (omega (arith, end, size)))
    ∙ each k (omega (arith, less, long, size))

pub returns-then-run-eq1 : goal.returns-then-run-eq1
returns-then-run-eq1 c is k less =
    let run = c.args.run.now in
    let words = c.args.words.now in
    let last = c.requires.inside (run.len - 1) (omega (arith, c.requires.some)) in
    let end : run.view + run.len ≤ length words = last_within run (length words) c.if-run-eq1.true c.requires.some last in
    let each = row_words run words (get_or words run.view 0) c.if-run-eq1.true end (c.is_each.ensures is) in
    each k less ∙ sym (each 0 (omega (arith, c.requires.some)))
  where
    last_within : (run : Run) (n : ℕ) → run.view_step ≡ 1 → 1 ≤ run.len → view_place run (run.len - 1) < n → run.view + run.len ≤ n
    last_within run n one some less =
        let place : view_place run (run.len - 1) ≡ run.view + (run.len - 1) = rw one (omega arith) in
        omega (arith, less, place, some)

pub returns-then-run-eq0 : goal.returns-then-run-eq0
returns-then-run-eq0 c is k less =
    let run = c.args.run.now in
    let here : view_place run k ≡ view_place run 0 = same_place run k c.if-run-eq0.true in ap (λ p. get_or c.args.words.now p 0) here
  where
    same_place : (run : Run) (k : ℕ) → run.view_step ≡ 0 → view_place run k ≡ view_place run 0
    same_place run k none = rw none (omega arith)
