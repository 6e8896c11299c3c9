use Rattle.std.proofs.Common.{sym}
use Rattle.chunk_plans.proofs.asking.ask.Goals as goal

pub returns-clause-asked : goal.returns-clause-asked
returns-clause-asked g c opening agrees =
    let k = c.requires.part.0 in
    let is = c.requires.part.1 in
    record {
      array = k;
      part = is;
      named = sym (c.in_ok-key.ensures k is.known);
      form_is = c.in_ok-form.ensures k is.known;
      resized = c.resized-resized.ensures k is.known;
      under = c.in_ok-under.ensures.under opening k agrees is.known;
    }
