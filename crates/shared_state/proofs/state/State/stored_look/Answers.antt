use Rattle.std.proofs.Common.{◌≡◌, None, Some, Ok, Err, false, refl, sym, ap, subst, ◌∙◌}
use Rattle.std.specs.Prelude.{OnErr}
use Rattle.std.proofs.lemmas.Result.{IfOk-weaker}
use Rattle.chunk_cache.specs.Cache.{kept}
use Rattle.state_laws.specs.Arrays.{Known, known_after, is_local}
use Rattle.state_laws.specs.Chunks.{Chunk}
use Rattle.state_laws.specs.Log.{Log}
use Rattle.state_laws.specs.Looks.{IsLook}
use Rattle.state_laws.specs.Fetches.{HasFailed}
use Rattle.state_laws.specs.declared.error.FetchError.TheVariants as fetch
use Rattle.state_laws.specs.declared.error.GetError.TheVariants as get
use Rattle.state_laws.proofs.Laws.{not_risen}
use Rattle.shared_state.proofs.Looked.{look_back, stored_mount, kept_none}
use Rattle.shared_state.proofs.state.State.stored_look.Goals as goal

pub described-requires-clause-unkept : goal.described-requires-clause-unkept
described-requires-clause-unkept g c =
    subst (λ (l : Log). (k : Known) → known_after l.events c.args.array ≡ Some k → (is_local k.info.home ≡ false) × (kept c.args.key.now l.cache.entries ≡ None)) (sym c.in-Ok.ensures.ok) c.requires.unkept

pub returns-in-Ok-clause-looked : goal.returns-in-Ok-clause-looked
returns-in-Ok-clause-looked g c =
    let chunk : Chunk = record { array = c.args.array; index = c.args.chunk.now } in
    let seen = g.K.KvStore.seen in
    let steady = not_risen (seen c.args.self.now.store).faults (seen c.bytes_at.new.self.store).faults (λ rose. let was = c.bytes_at.ensures.told rose in let no : Ok c.in-Ok.bytes ≡ Err (get.Failed was.0) = sym c.in-Ok.is ∙ was.1 in cc) in
    IfOk-weaker c.described.result _ _
    (λ l is. look_back (seen c.args.self.now.store) (seen c.bytes_at.new.self.store) c.args.self.now.log chunk l c.bytes_at.ensures.read steady (subst (λ log. IsLook (seen c.bytes_at.new.self.store) log chunk l) c.in-Ok.ensures.ok is)) c.described.ensures.looked

pub returns-in-Ok-clause-left : goal.returns-in-Ok-clause-left
returns-in-Ok-clause-left g c = record {
  read = c.bytes_at.ensures.read;
  failed = λ event e. let no = subst (λ r. OnErr r (r ≡ Err fetch.Memory)) e c.described.ensures.err in absurd (cc);
  told = λ more. let was = c.bytes_at.ensures.told more in let no : Ok c.in-Ok.bytes ≡ Err (get.Failed was.0) = sym c.in-Ok.is ∙ was.1 in absurd (cc);
  memory = λ e. c.in-Ok.ensures.ok;
  kept = c.bytes_at.ensures.kept;
}

pub returns-in-Err-Failed-clause-left : goal.returns-in-Err-Failed-clause-left
returns-in-Err-Failed-clause-left g c =
    let named = c.requires.named in
    let k = named.array in
    let unkept = c.requires.unkept k named.known in
    let mount = stored_mount k.info.home unkept.0 in
    let was = c.in-Err-Failed.is ∙ ap Err c.in-Err-Failed.field-0-is in
    record {
      read = c.bytes_at.ensures.read;
      failed = λ event e. let same : c.in-Err-Failed.event ≡ event = cc in record {
        array = k;
        known = named.known;
        unkept = kept_none c.args.self.now.log c.args.array k _ unkept.0 (ap (λ key. kept key c.args.self.now.log.cache.entries) named.named ∙ unkept.1);
        mount = mount.0;
        on_mount = mount.1;
        failed = subst (HasFailed c.args.owner mount.0 _ _ c.args.self.now.log _) same (c.bytes_at.ensures.failed c.in-Err-Failed.event k mount.0 was named.known mount.1);
      };
      told = λ more. (c.in-Err-Failed.event, refl);
      memory = λ e. absurd (cc);
      kept = c.bytes_at.ensures.kept;
    }
