use Rattle.std.proofs.Common.{refl}
use Rattle.stated_arrays.specs.declared.arrays.StatedArrays.{StatedArrays}
use Rattle.stated_arrays.proofs.TableLaws.{with_both, opening_arrays, nowhere}
use Rattle.stated_arrays.proofs.arrays.StatedArrays.add_opened.Goals as goal

pub returns-clause-arrays : goal.returns-clause-arrays
returns-clause-arrays c =
    let new : StatedArrays = record { events = c.push_opened.new.events; opened = c.push_opened.new.opened; places = c.args.self.now.places } in
    with_both c.push_opened.result
    (λ events opened. opening_arrays c.args.self.now new c.args.owner c.args.info c.requires.arrays c.requires.legal events opened (nowhere c.args.self.now new c.args.owner c.args.info c.requires.arrays c.requires.location refl))
    c.push_opened.ensures.events c.push_opened.ensures.opened
