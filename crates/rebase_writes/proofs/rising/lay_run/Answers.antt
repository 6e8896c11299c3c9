-- Alone its words begin at 0, else the run is the same.
use Rattle.std.proofs.Common.{refl, ◌<◌, ◌≤◌, ◌≡◌, ◌∙◌, ◌+◌, ◌-◌, ◌*◌, List, ℕ, zero, suc, length, get_or, take, drop, ap, sym, subst, arith}
use Rattle.cells.specs.Numbers.{IsWord}
use Rattle.cells.specs.declared.run.Run.{Run}
use Rattle.rebase_writes.specs.Rising.{IsForward}
use Rattle.cells.specs.Runs.{view_place, pairs_of, pairs_put, IsRunInside}
use Rattle.std.proofs.lemmas.List.{length-take-le, get_or_default}
use Rattle.rebase_writes.proofs.RisingLaws.{put_alike, part_at}
use Rattle.rebase_writes.proofs.rising.lay_run.Goals as goal

-- how many words a run has
abbrev words_of : Run → ℕ
words_of run = 1 + run.view_step * (run.len - 1)

-- the words of a run are among them
steps_within : (step k len : ℕ) → step ≤ 1 → k < len → step * k < 1 + step * (len - 1)
steps_within zero k len few less = omega arith
steps_within (suc zero) k len few less = omega (arith, less)
steps_within (suc (suc n)) k len few less = absurd (omega (arith, few))

-- and each of them is a pair's
pair_for : (step len j : ℕ) → step ≤ 1 → 1 ≤ len → j < 1 + step * (len - 1) → (k : ℕ) × (k < len) × (step * k ≡ j)
pair_for zero len j few some less = (0, omega (arith, some), omega (arith, less))
pair_for (suc zero) len j few some less = (j, omega (arith, some, less), omega arith)
pair_for (suc (suc n)) len j few some less = absurd (omega (arith, few))

-- the words alone, one by one
alone_at : (run : Run) (kept : List ℕ) (count k d : ℕ) → count ≡ words_of run → IsForward run → ((k : ℕ) → k < run.len → view_place run k < length kept) → k < run.len
    → get_or (take (run.view + count - run.view) (drop run.view kept)) (run.view_step * k) d ≡ get_or kept (view_place run k) 0
alone_at run kept count k d many forward inside less =
    let last = inside (run.len - 1) (omega (arith, less)) in
    let size : run.view + count - run.view ≡ words_of run = omega (arith, many) in
    ap (λ n. get_or (take n (drop run.view kept)) (run.view_step * k) d) size
    ∙ part_at kept run.view (words_of run) (run.view_step * k) d (steps_within run.view_step k run.len forward.words less) (omega (arith, last))
    ∙ get_or_default kept (view_place run k) d 0 (inside k less)

pub write_run-requires-clause-run : goal.write_run-requires-clause-run
write_run-requires-clause-run c =
    let run = c.args.run.now in
    let kept = c.args.kept.now in
    let count = c.word_count.result in
    let end = c.requires.inside.in_view (run.len - 1) (omega (arith, c.requires.forward.some)) in
    let size = length-take-le (run.view + count - run.view) (drop run.view kept) in
    record {
      in_view = λ k less. omega (arith, steps_within run.view_step k run.len c.requires.forward.words less, c.word_count.ensures.count, end, size);
      from_first = c.requires.inside.from_first;
      to_last = c.requires.inside.to_last;
    }

pub write_run-requires-clause-words : goal.write_run-requires-clause-words
write_run-requires-clause-words c j d inside =
    let run = c.args.run.now in
    let kept = c.args.kept.now in
    let count = c.word_count.result in
    let size = length-take-le (run.view + count - run.view) (drop run.view kept) in
    let pair = pair_for run.view_step run.len j c.requires.forward.words c.requires.forward.some (omega (arith, inside, size, c.word_count.ensures.count)) in
    subst (IsWord c.args.chunk.now.dtype)
    (sym (ap (λ n. get_or (take (run.view + count - run.view) (drop run.view kept)) n d) (sym pair.2) ∙ alone_at run kept count pair.0 d c.word_count.ensures.count c.requires.forward c.requires.inside.in_view pair.1))
    (c.requires.words pair.0 pair.1)

pub returns : goal.returns
returns c =
    let run = c.args.run.now in
    let kept = c.args.kept.now in
    let count = c.word_count.result in
    let alone : Run = record run { view = 0 } in
    let first : (k : ℕ) → view_place alone k ≡ run.view_step * k = λ k. omega arith in
    c.write_run.ensures
    ∙ ap (λ (ws : List ℕ). record c.args.chunk.now { words = ws })
    (put_alike alone run (take (run.view + count - run.view) (drop run.view kept)) kept c.args.chunk.now.words run.len (λ k less. refl)
    (λ k less. ap (λ n. get_or (take (run.view + count - run.view) (drop run.view kept)) n 0) (first k) ∙ alone_at run kept count k 0 c.word_count.ensures.count c.requires.forward c.requires.inside.in_view less))
