use Rattle.std.proofs.Common.{Some, rules, sym, subst}
use Rattle.sessions.specs.Commits.{HasSoundTxn}
use Rattle.sessions.proofs.SoundLaws.{sound_begun}
use Rattle.sessions.proofs.BeginLaws.{told_begun, told_standing}
use Rattle.sessions.proofs.beginning.begin.Goals as goal

pub returns-then-is_some-clause-told : goal.returns-then-is_some-clause-told
returns-then-is_some-clause-told c = told_standing c.args.line c.args.mode c.args.txn.now (search rules)

pub returns-clause-told : goal.returns-clause-told
returns-clause-told c = told_begun c.args.line c.args.mode c.args.txn.now _ (search rules) c.begin.ensures

pub returns-clause-txn : goal.returns-clause-txn
returns-clause-txn c opening events legal sound = subst (λ t. HasSoundTxn opening events (Some t)) (sym c.begin.ensures) (sound_begun opening events c.args.line c.args.mode legal)
