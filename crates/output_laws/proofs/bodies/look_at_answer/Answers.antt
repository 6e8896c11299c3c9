use Rattle.output_laws.proofs.bodies.look_at_answer.Goals as goal

pub returns : goal.returns
returns c = c.look_at_body.ensures.at_line c.args.answer.now.line c.look_at_number.ensures
