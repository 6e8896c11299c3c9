-- Copies of acts.
use Rattle.std.proofs.Common.{◌≡◌, Some, sym}
use Rattle.history.proofs.Laws.{some_inj}
use Rattle.stated_acts.specs.Acts.{kept_act}
use Rattle.stated_acts.specs.declared.acts.Act.{Act}
use Rattle.stated_acts.specs.declared.acts.Act.TheVariants.{Refused, Opens, Binds, Reads, Writes, Begins, Commits, Aborts}

-- what is copied of an act is the act
pub kept_is : (act copy : Act) → kept_act act ≡ Some copy → copy ≡ act
kept_is (Refused body) copy is = absurd (cc)
kept_is (Opens name plan) copy is = absurd (cc)
kept_is (Binds name view) copy is = sym (some_inj (Binds name view) copy is)
kept_is (Reads view) copy is = sym (some_inj (Reads view) copy is)
kept_is (Writes view words) copy is = sym (some_inj (Writes view words) copy is)
kept_is (Begins mode) copy is = sym (some_inj (Begins mode) copy is)
kept_is Commits copy is = sym (some_inj Commits copy is)
kept_is Aborts copy is = sym (some_inj Aborts copy is)
