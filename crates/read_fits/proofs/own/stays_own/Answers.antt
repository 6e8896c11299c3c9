use Rattle.read_fits.proofs.Laws.{own_later}
use Rattle.read_fits.proofs.own.stays_own.Goals as goal

pub returns : goal.returns
returns c = λ h upto later ops staged ids legal order own. own_later h legal upto later order ops staged ids own
