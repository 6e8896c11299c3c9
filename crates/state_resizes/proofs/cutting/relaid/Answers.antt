use Rattle.state_resizes.proofs.cutting.relaid.Goals as goal

pub bytes_of_cut-requires-clause-stored : goal.bytes_of_cut-requires-clause-stored
bytes_of_cut-requires-clause-stored c = c.requires.may.stored

pub bytes_of_cut-requires-clause-fill : goal.bytes_of_cut-requires-clause-fill
bytes_of_cut-requires-clause-fill c = c.requires.may.fill

pub bytes_of_cut-requires-clause-chunk : goal.bytes_of_cut-requires-clause-chunk
bytes_of_cut-requires-clause-chunk c = c.requires.may.chunk
