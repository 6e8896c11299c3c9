-- What a look told may be settled.
use Rattle.std.proofs.Common.{◌≡◌, [], sym, ◌∙◌}
use Rattle.std.proofs.lemmas.List.{append-nil}
use Rattle.history.specs.Chunks.{Chunk}
use Rattle.state_laws.specs.declared.reading.Look.{Look}
use Rattle.state_laws.specs.declared.reading.Look.TheVariants as look
use Rattle.state_laws.specs.Seen.{StoreSeen}
use Rattle.state_laws.specs.Log.{Log}
use Rattle.state_laws.specs.Agreement.{Agrees, IsState}
use Rattle.state_laws.specs.Looks.{IsLook}
use Rattle.state_laws.proofs.Laws.{look_answered, answered_later, form_stored, form_fill}
use Rattle.state_cases.specs.Ready.{IsReady}
use Rattle.state_cases.specs.Usable.{IsUsable}

pub usable_of : (store next : StoreSeen) (log later : Log) (c : Chunk) (found : Look) (ready : IsReady store log) → later.events ≡ log.events → Agrees ready.opening next later → IsLook store log c found → IsUsable ready.opening later c found
usable_of store next log later c (look.Kept snapshot bounds) ready same late is = tt
usable_of store next log later c (look.Bytes generation form bytes bounds) ready same late is =
    let stored = is.0 in
    let state : IsState store log = (ready.opening, ready.agrees) in
    record {
      stored = form_stored store log c.array stored.array form state stored.known stored.stored stored.form_is;
      fill = form_fill store log c.array stored.array form state stored.known stored.stored stored.form_is;
      settles = λ snapshot spelled.
          answered_later ready.opening store next log later [] c stored.array snapshot (same ∙ sym (append-nil log.events)) ready.agrees late stored.known
          (look_answered store log c generation form bytes snapshot state stored spelled.same spelled.dtype spelled.shape spelled.words);
    }
