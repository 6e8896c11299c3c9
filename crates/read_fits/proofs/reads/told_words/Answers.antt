use Rattle.serde_json.specs.View.{view as data_in}
use Rattle.read_fits.proofs.Rooms.{no_room}
use Rattle.read_fits.proofs.reads.told_words.Goals as goal

pub returns-then-not-branch : goal.returns-then-not-branch
returns-then-not-branch c = no_room c.args.view.now c.args.line c.args.text.now (data_in c.args.values.now) (c.in_ok-has_room.ensures c.if-not-branch.true)
