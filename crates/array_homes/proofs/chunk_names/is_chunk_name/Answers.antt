use Rattle.array_homes.proofs.NameLaws.{name_from, name_in}
use Rattle.array_homes.proofs.chunk_names.is_chunk_name.Goals as goal

pub returns : goal.returns
returns c =
    (λ t. name_from c.args.info.now c.args.name.now c.is_name.ensures.valid (c.is_name.ensures.value.0 t), λ n. c.is_name.ensures.value.1 (name_in c.args.info.now c.args.name.now c.is_name.ensures.valid n))
