-- The verdict of a check.
use Rattle.transcript_check.specs.declared.verdict.Verdict.{Verdict}
use Rattle.transcript_check.specs.declared.verdict.Verdict.TheVariants.{Yes, No, NotChecked}
use Rattle.transcript_fits.specs.Verdicts as told
use Rattle.transcript_fits.specs.Verdicts.{yes, no, not_checked}

-- what it says
abbrev pub verdict_of : Verdict → told.Verdict
verdict_of (Yes events) = yes events
verdict_of (No part) = no part
verdict_of (NotChecked session line) = not_checked session line
