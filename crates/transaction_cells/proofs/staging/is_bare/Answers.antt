use Rattle.std.proofs.Common.{◌∙◌, ◌+◌, ◌||◌, ◌↔◌, ℕ, not, sym, ap, subst, arith, drop}
use Rattle.std.specs.Prelude.{IsTrue, IsSome}
use Rattle.std.proofs.lemmas.List.{at_drop_all}
use Rattle.std.specs.List.{list_any}
use Rattle.cells.specs.Runs.{pairs_of}
use Rattle.cells.proofs.Laws.{length-pairs_of}
use Rattle.rebase_writes.specs.Staged.{staged_at}
use Rattle.transaction_cells.specs.Needs.{is_bare}
use Rattle.transaction_cells.proofs.NeedLaws.{bare_from}
use Rattle.transaction_cells.proofs.staging.is_bare.Goals as goal

pub returns-then-not-covers : goal.returns-then-not-covers
returns-then-not-covers c =
    let staged = c.args.staged.now in
    let run = c.args.run.now in
    let k = c.loop-k.k in
    let answer = subst (λ (p : ℕ). IsTrue c.covers.result ↔ IsSome (staged_at staged p)) c.place_at.ensures c.covers.ensures in
    sym (sym c.loop-k.invariant ∙ bare_from staged run k c.covers.result c.loop-k-test.true answer ∙ ap (λ b. not b || list_any (is_bare staged) (drop (k + 1) (pairs_of run))) c.if-not-covers.true)

pub loop-k-preserved : goal.loop-k-preserved
loop-k-preserved c =
    let staged = c.args.staged.now in
    let run = c.args.run.now in
    let k = c.loop-k.k in
    let answer = subst (λ (p : ℕ). IsTrue c.covers.result ↔ IsSome (staged_at staged p)) c.place_at.ensures c.covers.ensures in
    sym (bare_from staged run k c.covers.result c.loop-k-test.true answer ∙ ap (λ b. not b || list_any (is_bare staged) (drop (k + 1) (pairs_of run))) c.if-not-covers.false) ∙ c.loop-k.invariant

pub returns : goal.returns
returns c =
    let long = length-pairs_of c.args.run.now in
    let done = c.loop-k-test.false in
    sym (at_drop_all (list_any (is_bare c.args.staged.now)) (pairs_of c.args.run.now) c.loop-k.k (omega (arith, long, done))) ∙ c.loop-k.invariant
