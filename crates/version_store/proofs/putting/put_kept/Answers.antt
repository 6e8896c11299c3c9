use Rattle.std.proofs.Common.{◌∙◌, refl, sym, ap, subst, Option}
use Rattle.std.proofs.lemmas.Result.{on_ok_weaker}
use Rattle.chunk_versions.specs.Versions.{Versions}
use Rattle.version_store.specs.Ids.{found}
use Rattle.version_store.specs.Openings.{IsKeptAs}
use Rattle.version_store.proofs.Tables.{found-set, not_none}
use Rattle.version_store.proofs.putting.put_kept.Goals as goal

pub unreachable-requires : goal.unreachable-requires
unreachable-requires c = not_none (found c.args.table.now.entries c.args.id.now) c.requires.there (sym c.in_default.ensures.value)

pub put_all-requires : goal.put_all-requires
put_all-requires c =
    c.requires.room c.in-Some.chunk.now (subst (λ (o : Option Versions). IsKeptAs c.args.opening o c.in-Some.chunk.now) c.in-Some.ensures.value refl)

pub returns : goal.returns
returns c =
    let old = c.args.table.now.entries in
    let id = c.args.id.now in
    let after = c.put_all.new.chunk in
    let kept = subst (λ (o : Option Versions). IsKeptAs c.args.opening o c.in-Some.chunk.now) c.in-Some.ensures.value refl in
    on_ok_weaker c.put_all.result (λ over. record {
      before = c.in-Some.chunk.now;
      after = after;
      valid = c.put_all.ensures.valid;
      kept = kept;
      over = over;
      table = λ other. ap (λ es. found es other) (c.get_mut.follows.holds after).0 ∙ found-set id after other old c.requires.there;
    }) c.put_all.ensures.over
