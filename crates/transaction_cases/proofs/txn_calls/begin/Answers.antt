use Rattle.session_runs.proofs.Laws.{on_ok_any}
use Rattle.transaction_cases.proofs.SeatLaws.{sound_begun}
use Rattle.transaction_cases.proofs.txn_calls.begin.Goals as goal

pub returns : goal.returns
returns c = λ opening events legal. on_ok_any c.told_line.result (sound_begun opening events c.begin.result _ _ c.begin.ensures legal)
