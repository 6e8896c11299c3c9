-- A step and a run stay what they are over every longer history.
use Rattle.std.proofs.Common.{ℕ, ◌+◌, List, ◌++◌, drop, Option, sym, subst, length-append, arith}
use Rattle.std.proofs.lemmas.List.{take-append-le}
use Rattle.history.specs.History.{History}
use Rattle.history.specs.Acts.{act_of}
use Rattle.history.specs.Answers as body
use Rattle.history.specs.Answers.{Body, Answer}
use Rattle.history.specs.Commit.{Fixed}
use Rattle.history.specs.Lines.{Line}
use Rattle.history.specs.Own.{own_events}
use Rattle.history.specs.Sessions.{SessionState}
use Rattle.history.specs.Steps.{IsAnswered, SessionStep, IsSessionRun, no_line, blank_line, next_line, last_line}

pub step_longer : (fixed : Fixed) (owner : ℕ) (events more : History) (s : SessionState) (line : ℕ) (asked : Line) (next : SessionState) (answer : Body) → SessionStep fixed owner events s line asked next answer
    → SessionStep fixed owner (events ++ more) s line asked next answer
step_longer fixed owner events more s line asked next answer step = record {
  rises = step.rises;
  within = let h = step.within in omega (arith, length-append events more);
  row =
      subst (λ seen. IsAnswered fixed owner seen s line (act_of s.names s.transaction asked) next.names next.transaction answer (own_events owner (s.seen + 1) (drop s.seen seen)))
      (sym (take-append-le next.seen events more step.within)) step.row;
}

-- what a session did stays so, whatever happens later
pub run_longer : {fixed : Fixed} {owner : ℕ} (events more : History) {s : SessionState} {line : ℕ} {lines : List (Option Line)} {answers : List Answer} {last : SessionState} → IsSessionRun fixed owner events s line lines answers last
    → IsSessionRun fixed owner (events ++ more) s line lines answers last
run_longer events more no_line = no_line
run_longer events more (blank_line rest) = blank_line (run_longer events more rest)
run_longer {fixed = fixed} {owner = owner} events more (next_line {s} {m} {last} {line} {asked} {answer} step goes_on rest) =
    next_line (step_longer fixed owner events more s line asked m answer step) goes_on (run_longer events more rest)
run_longer {fixed = fixed} {owner = owner} events more (last_line {s} {last} {line} {asked} step) = last_line (step_longer fixed owner events more s line asked last body.memory step)
