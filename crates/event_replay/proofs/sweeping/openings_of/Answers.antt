use Rattle.std.proofs.Common.{ℕ, cond, sym, ap}
use Rattle.history.specs.declared.event.Kind.{Kind}
use Rattle.history.specs.Legal.{opens}
use Rattle.event_replay.proofs.sweeping.openings_of.Goals as goal

pub returns-in-Opened-clause-value : goal.returns-in-Opened-clause-value
returns-in-Opened-clause-value c = sym (ap (λ (kind : Kind). cond {A = ℕ} (opens kind) 1 0) c.in-Opened.is)

pub returns-in-Done-clause-value : goal.returns-in-Done-clause-value
returns-in-Done-clause-value c = sym (ap (λ (kind : Kind). cond {A = ℕ} (opens kind) 1 0) c.in-Done.is)

pub returns-in-Resized-clause-value : goal.returns-in-Resized-clause-value
returns-in-Resized-clause-value c = sym (ap (λ (kind : Kind). cond {A = ℕ} (opens kind) 1 0) c.in-Resized.is)

pub returns-in-Fault-clause-value : goal.returns-in-Fault-clause-value
returns-in-Fault-clause-value c = sym (ap (λ (kind : Kind). cond {A = ℕ} (opens kind) 1 0) c.in-Fault.is)
