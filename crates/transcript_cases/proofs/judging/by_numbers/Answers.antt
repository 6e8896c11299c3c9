use Rattle.transcript_cases.proofs.judging.by_numbers.Goals as goal

pub by_spots-requires-clause-numbered : goal.by_spots-requires-clause-numbered
by_spots-requires-clause-numbered c =
    let whole = c.requires.cut.1 in
    let numbering = rw c.in-Ok-Some.field-0-is at c.in-Ok-Some.ensures in
    record {
      transcript = c.requires.cut.0;
      told = whole.told;
      said_of = whole.said;
      numbered = numbering.1 c.args.scripts.now c.requires.cut.0 whole.told whole.said;
      table = rw c.items.ensures numbering.0;
    }
