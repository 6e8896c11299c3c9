use Rattle.std.proofs.Common.{subst}
use Rattle.transcript_check.specs.Verdicts.{verdict_of}
use Rattle.transcript_fits.specs.Verdicts.{IsVerdict}
use Rattle.transcript_check.proofs.running.check_files.Goals as goal

pub returns-in-Ok-clause-told : goal.returns-in-Ok-clause-told
returns-in-Ok-clause-told g c = λ has.
    let v = verdict_of c.in-Ok.verdict in
    record {
      verdict = v;
      right = subst (λ s. IsVerdict s c.args.files.transcript v) c.items.ensures (subst (λ t. IsVerdict c.items.result.now t v) c.items-2.ensures c.in-Ok.ensures);
      status_is = (c.tell.ensures.told has).0;
      put = (c.tell.ensures.told has).1;
    }

pub returns-in-Ok-clause-untold : goal.returns-in-Ok-clause-untold
returns-in-Ok-clause-untold g c = λ is.
    let v = verdict_of c.in-Ok.verdict in
    record {
      verdict = v;
      right = subst (λ s. IsVerdict s c.args.files.transcript v) c.items.ensures (subst (λ t. IsVerdict c.items.result.now t v) c.items-2.ensures c.in-Ok.ensures);
      put = c.tell.ensures.untold is;
    }
