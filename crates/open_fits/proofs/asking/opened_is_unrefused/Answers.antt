use Rattle.open_fits.proofs.Opened as laws
use Rattle.open_fits.proofs.asking.opened_is_unrefused.Goals as goal

pub returns : goal.returns
returns c = laws.opened_is_unrefused
