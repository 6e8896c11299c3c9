-- The one word stands at the place, and the run behind the others.
use Rattle.std.proofs.Common.{◌≡◌, ◌∙◌, ◌+◌, ◌*◌, ◌<◌, ℕ, List, Option, length, get_or, sym, ap, arith}
use Rattle.std.proofs.lemmas.Int.{ints}
use Rattle.cells.specs.declared.run.Run.{Run}
use Rattle.cells.specs.Runs.{view_place, pairs_of, IsRunInside}
use Rattle.cells.proofs.Laws.{first_pairs-all}
use Rattle.rebase_writes.specs.Runs.{pairs_written}
use Rattle.rebase_writes.specs.Rising.{IsBehind, runs_staged}
use Rattle.rebase_writes.proofs.RisingLaws.{alike, runs_alike}
use Rattle.rebase_writes.proofs.PutLaws.{number_is}
use Rattle.rebase_writes.proofs.rising.add_one.Goals as goal

-- the run with one word lies inside, where the word does
one_inside : (runs : List Run) (view words all cells at : ℕ) (run next : Run) → IsBehind runs view run next → IsRunInside run words cells → at < all → IsRunInside (record next { view = at; view_step = 0 }) all cells
one_inside runs view words all cells at run next is inside within = record {
  in_view = λ k less. omega (arith, within);
  from_first = λ k less. omega (arith, ints, number_is next k is.forward.places);
  to_last = λ k less.
      let fewer : k < run.len = omega (arith, less, is.as_many) in
      omega (arith, ints, number_is next k is.forward.places, is.places k fewer, inside.from_first k fewer, inside.to_last k fewer);
}

pub put-requires-clause-ahead : goal.put-requires-clause-ahead
put-requires-clause-ahead c = omega (arith, c.requires.behind.begins, c.requires.behind.ahead, c.place_for-view.ensures.inside, c.place_for-view.ensures.few)

pub returns-clause-rising : goal.returns-clause-rising
returns-clause-rising c cells inside are =
    let new = length c.place_for-view.new.kept.items in
    c.put.ensures.rising (length c.args.kept.now.items) new cells c.place_for-view.ensures.longer
    (one_inside _ _ _ new cells c.place_for-view.result c.args.run.now c.args.next c.requires.behind inside c.place_for-view.ensures.inside) are

pub returns-clause-added : goal.returns-clause-added
returns-clause-added c staged =
    let run = c.args.run.now in
    let at = c.place_for-view.result in
    let one : Run = record c.args.next { view = at; view_step = 0 } in
    let words = c.args.words.now in
    let new = c.place_for-view.new.kept.items in
    let old = c.args.kept.now.items in
    let is = c.requires.behind in
    let before : runs_staged c.args.runs.now.items new staged ≡ runs_staged c.args.runs.now.items old staged =
    runs_alike c.args.runs.now.items new old staged (λ i d inside k less. c.place_for-view.ensures.front _ ((c.requires.rising.inside i d inside).in_view k less)) in
    let here : (k : ℕ) → view_place one k ≡ at = λ k. omega arith in
    let first : run.view ≡ view_place run 0 = omega arith in
    c.put.ensures.staged new staged
    ∙ ap (λ (r : Run). pairs_written (pairs_of r) new (runs_staged c.args.runs.now.items new staged)) (sym (first_pairs-all one run.len (sym is.as_many)))
    ∙ alike one run new words (runs_staged c.args.runs.now.items new staged) run.len is.places
    (λ k less. ap (λ n. get_or new n 0) (here k) ∙ c.place_for-view.ensures.word ∙ ap (λ n. get_or words n 0) first ∙ sym (c.requires.one k less))
    ∙ ap (pairs_written (pairs_of run) words) before
