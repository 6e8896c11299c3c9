use Rattle.std.proofs.lemmas.Option.{IfSome_then}
use Rattle.std.proofs.lemmas.Slice.Eq.{bytes_eq-Decides}
use Rattle.array_homes.proofs.NumberLaws.{IsBetween, number_is, local_from, local_into}
use Rattle.array_homes.proofs.chunk_names.local_number.Goals as goal

pub returns-clause-some : goal.returns-clause-some
returns-clause-some c =
    let before = c.in-Some.ensures.cases in
    let behind = c.in-Some-strip_suffix.ensures.cases in
    let parts : IsBetween c.args.key.now c.in-Some.behind.now c.in-Some-strip_suffix.digits.now = ((bytes_eq-Decides _ _).0 before.0, before.1, (bytes_eq-Decides _ _).0 behind.0, behind.1) in
    IfSome_then c.number.result c.number.ensures.some (λ n told. (told.0, local_from c.args.key.now c.in-Some.behind.now c.in-Some-strip_suffix.digits.now n parts told.1))

pub returns-clause-each : goal.returns-clause-each
returns-clause-each c = λ n small is.
    let before = c.in-Some.ensures.cases in
    let behind = c.in-Some-strip_suffix.ensures.cases in
    let parts : IsBetween c.args.key.now c.in-Some.behind.now c.in-Some-strip_suffix.digits.now = ((bytes_eq-Decides _ _).0 before.0, before.1, (bytes_eq-Decides _ _).0 behind.0, behind.1) in
    number_is c.number.result c.in-Some-strip_suffix.digits.now c.number.ensures.some c.number.ensures.none n small (local_into c.args.key.now c.in-Some.behind.now c.in-Some-strip_suffix.digits.now n parts is)
