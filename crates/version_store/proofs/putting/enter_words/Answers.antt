use Rattle.std.proofs.lemmas.Result.{on_ok_weaker}
use Rattle.version_store.proofs.putting.enter_words.Goals as goal

pub returns : goal.returns
returns c =
    on_ok_weaker c.enter.result (λ table. record {
      versions = c.in_ok-chunk.chunk;
      size = c.in_ok-chunk.ensures.size;
      touches = c.in_ok-chunk.ensures.touches;
      words = c.in_ok-chunk.ensures.words;
      table = table;
    }) c.enter.ensures.ok
