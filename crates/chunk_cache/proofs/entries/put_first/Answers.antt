-- What `put` says, by the keys' bytes.
use Rattle.std.proofs.Common.{Some, None, ◌∙◌, sym, ap, subst, IsSome, string_bytes, arith}
use Rattle.chunk_cache.specs.Kept.{entries_of}
use Rattle.chunk_cache.proofs.KeptLaws.{lookup-entries, entries_of-put_entries, cells_of-put_first}
use Rattle.chunk_cache.proofs.entries.put_first.Goals as goal

pub returns-in-Ok-Some-clause-entries : goal.returns-in-Ok-Some-clause-entries
returns-in-Ok-Some-clause-entries c =
    ap (λ cache. entries_of cache.entries) c.in-Ok-Some.ensures.entries
    ∙ entries_of-put_entries c.args.key c.args.snapshot c.args.entries.now.cap c.args.entries.now.entries c.requires.room c.requires.apart

pub returns-in-Ok-Some-clause-cells : goal.returns-in-Ok-Some-clause-cells
returns-in-Ok-Some-clause-cells c =
    let law = cells_of-put_first (string_bytes c.args.key) c.args.snapshot c.args.entries.now.entries (Some c.in-Ok-Some.old) (entries_of c.put.new.self.entries)
    c.requires.apart (sym c.in-Ok-Some.field-0-is ∙ c.in-Ok-Some.ensures.old) (returns-in-Ok-Some-clause-entries c) in
    omega (arith, law, c.size.ensures)

pub returns-in-Ok-None-clause-entries : goal.returns-in-Ok-None-clause-entries
returns-in-Ok-None-clause-entries c =
    ap (λ cache. entries_of cache.entries) c.in-Ok-None.ensures.entries
    ∙ entries_of-put_entries c.args.key c.args.snapshot c.args.entries.now.cap c.args.entries.now.entries c.requires.room c.requires.apart

pub returns-in-Ok-None-clause-cells : goal.returns-in-Ok-None-clause-cells
returns-in-Ok-None-clause-cells c =
    cells_of-put_first (string_bytes c.args.key) c.args.snapshot c.args.entries.now.entries None (entries_of c.put.new.self.entries)
    c.requires.apart (sym c.in-Ok-None.field-0-is ∙ c.in-Ok-None.ensures.old) (returns-in-Ok-None-clause-entries c)

pub returns-in-Err-clause-succeeds : goal.returns-in-Err-clause-succeeds
returns-in-Err-clause-succeeds c some =
    c.in-Err.ensures.succeeds (subst (λ o. IsSome o) (sym (lookup-entries (string_bytes c.args.key) c.args.entries.now.entries)) some)
