use lib.Utf8.{encode}
use Rattle.spec_forms.proofs.Slashes.{without_slash-none}
use Rattle.spec_forms.proofs.paths.without_slash.Goals as goal

pub returns-in-None : goal.returns-in-None
unfolding encode
returns-in-None c = without_slash-none c.args.text.now c.in-None.ensures.cases
