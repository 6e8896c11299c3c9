-- The words of the run stand behind those that were kept, and the run behind the others.
use Rattle.std.proofs.Common.{◌≡◌, ◌∙◌, ◌+◌, ◌*◌, ◌-◌, ◌<◌, ◌≤◌, ◌^◌, pos, ◌≤ℤ◌, ◌<ℤ◌, ℕ, List, Option, length, get_or, refl, sym, ap, subst, arith}
use Rattle.std.proofs.lemmas.Int.{ints}
use Rattle.cells.specs.declared.run.Run.{Run}
use Rattle.cells.specs.Runs.{view_place, chunk_place, chunk_number, pairs_of, first_pairs, IsRunInside}
use Rattle.cells.proofs.Laws.{first_pairs-all}
use Rattle.rebase_writes.specs.Runs.{pairs_written}
use Rattle.rebase_writes.specs.Rising.{AreRising, IsBehind, runs_staged}
use Rattle.rebase_writes.proofs.RisingLaws.{no_run, alike, runs_alike}
use Rattle.rebase_writes.proofs.PutLaws.{number_is, words_behind}
use Rattle.rebase_writes.proofs.rising.add_run.Goals as goal

-- the run as it is kept lies inside, over the words behind
kept_inside : (runs : List Run) (view words all cells : ℕ) (run next : Run) → IsBehind runs view run next → IsRunInside run words cells → all ≡ view + run.len → IsRunInside next all cells
kept_inside runs view words all cells run next is inside size = record {
  in_view = λ k less. omega (arith, less, size, words_behind runs view run next k is, is.as_many);
  from_first = λ k less. omega (arith, ints, number_is next k is.forward.places);
  to_last = λ k less.
      let fewer : k < run.len = omega (arith, less, is.as_many) in
      omega (arith, ints, number_is next k is.forward.places, is.places k fewer, inside.from_first k fewer, inside.to_last k fewer);
}

pub returns-clause-rising : goal.returns-clause-rising
returns-clause-rising c =
    let is = c.in-Some.ensures in
    let count = c.gather.ensures.count in
    let begins : c.in-Some.next.view ≡ length c.args.kept.now.items = omega (arith, is.begins, c.len-count.ensures, c.args.kept.now.ok) in
    c.put.ensures.rising (length c.args.kept.now.items) (length c.gather.new.kept.items) c.args.cells (omega (arith, count))
    (kept_inside _ _ _ _ c.args.cells c.args.run.now c.in-Some.next is c.requires.inside (omega (arith, count, begins, is.begins)))
    c.requires.rising

pub returns-clause-added : goal.returns-clause-added
returns-clause-added c is_true staged =
    let run = c.args.run.now in
    let next = c.in-Some.next in
    let new = c.gather.new.kept.items in
    let old = c.args.kept.now.items in
    let is = c.in-Some.ensures in
    let begins : next.view ≡ length old = omega (arith, is.begins, c.len-count.ensures, c.args.kept.now.ok) in
    let before : runs_staged c.args.runs.now.items new staged ≡ runs_staged c.args.runs.now.items old staged =
    runs_alike c.args.runs.now.items new old staged (λ i d inside k less. c.gather.ensures.front _ ((c.requires.rising.inside i d inside).in_view k less)) in
    c.put.ensures.staged new staged
    ∙ ap (λ (r : Run). pairs_written (pairs_of r) new (runs_staged c.args.runs.now.items new staged)) (sym (first_pairs-all next run.len (sym is.as_many)))
    ∙ alike next run new c.args.words.now (runs_staged c.args.runs.now.items new staged) run.len is.places
    (λ k less. ap (λ n. get_or new n 0) (words_behind _ _ run next k is ∙ ap (λ n. n + k) (sym is.begins ∙ begins)) ∙ c.gather.ensures.behind k less)
    ∙ ap (pairs_written (pairs_of run) c.args.words.now) before
