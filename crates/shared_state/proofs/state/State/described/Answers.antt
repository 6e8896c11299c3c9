use Rattle.std.proofs.Common.{sym, ap, ◌∙◌}
use Rattle.std.specs.FinMap as finmap
use Rattle.chunk_cache.specs.Cache.{kept}
use Rattle.state_laws.specs.Fetches.{generation_in}
use Rattle.shared_state.proofs.state.State.described.Goals as goal

pub returns-clause-looked : goal.returns-clause-looked
returns-clause-looked g c =
    let named = c.requires.named in
    let k = named.array in
    let unkept = c.requires.unkept k named.known in (
      record {
        array = k;
        known = named.known;
        valid = named.valid;
        stored = unkept.0;
        unkept = ap (λ key. kept key c.args.self.now.log.cache.entries) named.named ∙ unkept.1;
        form_is = c.in_ok-form.ensures k named.known;
        generation_is = c.generation_at-generation.ensures k named.known ∙ ap (generation_in c.args.self.now.log k) (sym named.named);
        held = λ m told. c.requires.bytes m told ∙ ap (finmap.get m) (sym named.named);
      },
      c.requires.bounds,
    )
