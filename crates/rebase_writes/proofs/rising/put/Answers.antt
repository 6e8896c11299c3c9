-- The last run goes on, or one more stands behind it.
use Rattle.std.proofs.Common.{◌≡◌, ◌∙◌, ◌+◌, ◌-◌, ◌++◌, ◌∷◌, ◌≤◌, ◌<◌, ◌^◌, [], ℕ, length, get_or, sym, ap, subst, arith, rules}
use Rattle.std.proofs.lemmas.Int.{ints}
use Rattle.std.proofs.lemmas.List.{get_or_default}
use Rattle.cells.specs.Runs.{IsRunInside}
use Rattle.rebase_writes.specs.Rising.{AreRising, IsForward}
use Rattle.rebase_writes.proofs.RisingLaws.{no_run}
use Rattle.rebase_writes.proofs.PutLaws.{GoesOn, wider, rising_more, rising_whole, staged_whole}
use Rattle.rebase_writes.proofs.rising.put.Goals as goal

pub is_joined-requires-clause-last : goal.is_joined-requires-clause-last
is_joined-requires-clause-last c =
    let n = c.len-count.result - 1 in
    let is : c.index.result.now ≡ get_or c.args.runs.now.items n no_run = c.index.ensures ∙ get_or_default c.args.runs.now.items n c.index.result.now no_run (omega (arith, c.if-count-gt0.true, c.len-count.ensures, c.args.runs.now.ok)) in
    let others = c.requires.others in
    subst (λ run. IsRunInside run (2 ^ 24) (2 ^ 24)) (sym is)
    (wider (get_or c.args.runs.now.items n no_run) others.0 (2 ^ 24) (2 ^ 24) others.1.0
    (others.1.1.inside n no_run (omega (arith, c.if-count-gt0.true, c.len-count.ensures, c.args.runs.now.ok))))

pub returns-then-is_joined-clause-rising : goal.returns-then-is_joined-clause-rising
returns-then-is_joined-clause-rising c count words cells more inside are =
    let n = c.len-count.result - 1 in
    let is : c.index.result.now ≡ get_or c.args.runs.now.items n no_run = c.index.ensures ∙ get_or_default c.args.runs.now.items n c.index.result.now no_run (omega (arith, c.if-count-gt0.true, c.len-count.ensures, c.args.runs.now.ok)) in
    let long : length c.args.runs.now.items ≡ n + 1 = omega (arith, c.if-count-gt0.true, c.len-count.ensures, c.args.runs.now.ok) in
    let told = c.is_joined.ensures c.if-is_joined.true in
    let on : GoesOn c.index.result.now c.args.next = record { last_step = told.0; next_step = told.1.0; places = told.1.1.0; words = told.1.1.1 } in
    rising_whole c.args.runs.now.items c.index.result.now c.args.next count words cells n long is c.requires.forward on more inside are

pub returns-then-is_joined-clause-staged : goal.returns-then-is_joined-clause-staged
returns-then-is_joined-clause-staged c words staged =
    let n = c.len-count.result - 1 in
    let is : c.index.result.now ≡ get_or c.args.runs.now.items n no_run = c.index.ensures ∙ get_or_default c.args.runs.now.items n c.index.result.now no_run (omega (arith, c.if-count-gt0.true, c.len-count.ensures, c.args.runs.now.ok)) in
    let long : length c.args.runs.now.items ≡ n + 1 = omega (arith, c.if-count-gt0.true, c.len-count.ensures, c.args.runs.now.ok) in
    let told = c.is_joined.ensures c.if-is_joined.true in
    let on : GoesOn c.index.result.now c.args.next = record { last_step = told.0; next_step = told.1.0; places = told.1.1.0; words = told.1.1.1 } in
    let before : IsForward c.index.result.now = subst IsForward (sym is) (c.requires.others.1.1.forward n no_run (omega (arith, long))) in
    staged_whole c.args.runs.now.items c.index.result.now c.args.next words staged n long is before c.requires.forward on

pub returns-clause-rising : goal.returns-clause-rising
returns-clause-rising c count words cells more inside are =
    let items : c.push.new.self.items ≡ c.args.runs.now.items ++ c.args.next ∷ [] = search rules in
    subst (AreRising words cells) (sym items)
    (rising_more count words cells c.args.runs.now.items c.args.next are more c.requires.forward inside c.requires.behind c.requires.ahead)
