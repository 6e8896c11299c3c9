use Rattle.std.proofs.Common.{◌<◌, ℕ, ◌+◌, length, arith}
use Rattle.chunk_versions.specs.Reach.{IsGood}
use Rattle.chunk_versions.specs.Marks.{AreShownBehind}
use Rattle.chunk_versions.proofs.Found.{some_map, none_map}
use Rattle.chunk_versions.proofs.versions.ChunkVersions.first_shown.Goals as goal

pub returns-clause-some : goal.returns-clause-some
returns-clause-some c =
    let count = c.requires.count in
    some_map c.first_good.result (λ k. (k < length c.judge_all.new.reach) × IsGood c.judge_all.new.reach k)
    (λ k. (c.args.first + k < length c.args.self.now.touches) × AreShownBehind c.args.self.now c.args.casts.now (c.args.first + k + 1) c.args.asked.now)
    (λ k both.
    let within : k < length c.args.reach.now = omega (arith, both.0, c.judge_all.auto.reach) in
    (omega (arith, within, count), ((c.judge_all.ensures k within).0 both.1).1)) c.first_good.ensures.some

pub returns-clause-none : goal.returns-clause-none
returns-clause-none c =
    let count = c.requires.count in
    none_map c.first_good.result ((k : ℕ) → k < length c.judge_all.new.reach → ¬ IsGood c.judge_all.new.reach k)
    ((k : ℕ) → c.args.first + k < length c.args.self.now.touches → ¬ AreShownBehind c.args.self.now c.args.casts.now (c.args.first + k + 1) c.args.asked.now)
    (λ none k inside shown.
    let within : k < length c.args.reach.now = omega (arith, inside, count) in
    none k (omega (arith, within, c.judge_all.auto.reach)) ((c.judge_all.ensures k within).1 (c.requires.zeros k, shown))) c.first_good.ensures.none
