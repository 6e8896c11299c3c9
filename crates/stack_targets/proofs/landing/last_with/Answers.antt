use Rattle.std.proofs.Common.{◌≡◌, ◌<◌, ◌+◌, ◌-◌, ◌∙◌, ℕ, length, map, take, sym, ap, arith}
use Rattle.stack_targets.specs.Landings.{ground_of, last_landing}
use Rattle.stack_targets.proofs.Layers.{found_last, passed_later, passed_one}
use Rattle.stack_targets.proofs.landing.last_with.Goals as goal

all_left : (n : ℕ) → n ≡ n - 0
all_left n = omega arith

pub loop-behind-init : goal.loop-behind-init
loop-behind-init c = λ found.
    passed_later c.args.layers.now c.args.index.now c.args.end c.requires.behind found
    ∙ ap (λ n. last_landing 0 (map ground_of (take n c.args.layers.now)) c.args.index.now found) (all_left c.args.end)

pub returns-then-contains : goal.returns-then-contains
returns-then-contains c =
    let layers = c.args.layers.now in
    let place = c.args.end - 1 - c.loop-behind.behind in
    let less : place < length layers = omega (arith, c.loop-behind-test.true, c.loop-behind.auto.behind-end, c.requires.end) in
    let end : c.args.end - c.loop-behind.behind ≡ place + 1 = omega (arith, c.loop-behind-test.true, c.loop-behind.auto.behind-end) in
    found_last layers c.args.index.now place c.index-layers-place.result less c.index-layers-place.is (sym c.contains.ensures ∙ c.if-contains.true)
    (λ found. c.loop-behind.invariant found ∙ ap (λ n. last_landing 0 (map ground_of (take n layers)) c.args.index.now found) end)

pub loop-behind-preserved : goal.loop-behind-preserved
loop-behind-preserved c =
    let layers = c.args.layers.now in
    let place = c.args.end - 1 - c.loop-behind.behind in
    let less : place < length layers = omega (arith, c.loop-behind-test.true, c.loop-behind.auto.behind-end, c.requires.end) in
    let end : c.args.end - c.loop-behind.behind ≡ place + 1 = omega (arith, c.loop-behind-test.true, c.loop-behind.auto.behind-end) in
    let rest : place ≡ c.args.end - (c.loop-behind.behind + 1) = omega (arith, c.loop-behind-test.true, c.loop-behind.auto.behind-end) in
    λ found.
    c.loop-behind.invariant found ∙ ap (λ n. last_landing 0 (map ground_of (take n layers)) c.args.index.now found) end
    ∙ passed_one layers c.args.index.now place c.index-layers-place.result less c.index-layers-place.is (sym c.contains.ensures ∙ c.if-contains.false) found
    ∙ ap (λ n. last_landing 0 (map ground_of (take n layers)) c.args.index.now found) rest
