use Rattle.std.proofs.Common.{sym, subst, Option}
use Rattle.std.proofs.lemmas.Result.{on_ok_weaker}
use Rattle.chunk_versions.specs.Versions.{Versions}
use Rattle.version_store.specs.Openings.{IsKeptAs}
use Rattle.version_store.proofs.putting.put_new.Goals as goal

pub put_all-requires : goal.put_all-requires
put_all-requires c = c.requires.room c.in_ok-chunk.chunk (subst (λ (o : Option Versions). IsKeptAs c.args.opening o c.in_ok-chunk.chunk) (sym c.requires.none) c.in_ok-chunk.ensures)

pub returns : goal.returns
returns c =
    let kept = subst (λ (o : Option Versions). IsKeptAs c.args.opening o c.in_ok-chunk.chunk) (sym c.requires.none) c.in_ok-chunk.ensures in
    on_ok_weaker c.enter.result (λ table. record {
      before = c.in_ok-chunk.chunk;
      after = c.put_all.new.chunk;
      valid = c.in_ok-put_all.ensures.valid;
      kept = kept;
      over = c.in_ok-put_all.ensures.over;
      table = table;
    }) c.enter.ensures.ok
