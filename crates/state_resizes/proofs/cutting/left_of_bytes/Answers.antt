use Rattle.std.proofs.Common.{◌≡◌, Some, refl, ap, ◌∙◌}
use Rattle.std.proofs.lemmas.Result.{IfOk-weaker}
use Rattle.state_resizes.proofs.Looks.{may_of, bytes_stored, bytes_fill, absent_left, bytes_damaged, bytes_dtype, bytes_shape, bytes_left, memory_alone, unlaid_by, damaged_cause}
use Rattle.state_resizes.proofs.cutting.left_of_bytes.Goals as goal

pub returns-then-is_absent-clause-left : goal.returns-then-is_absent-clause-left
returns-then-is_absent-clause-left c = λ store log generation bounds h.
    absent_left store log c.args.new.now c.args.chunk.now c.args.key generation c.args.form.now c.args.bytes.now bounds h (c.is_absent.ensures.0 c.if-is_absent.true)

pub decode-requires-clause-stored : goal.decode-requires-clause-stored
decode-requires-clause-stored c = let r = c.requires in bytes_stored r.0 r.1 c.args.new.now c.args.chunk.now c.args.key r.2 c.args.form.now c.args.bytes.now r.3 r.4

pub decode-requires-clause-fill : goal.decode-requires-clause-fill
decode-requires-clause-fill c = let r = c.requires in bytes_fill r.0 r.1 c.args.new.now c.args.chunk.now c.args.key r.2 c.args.form.now c.args.bytes.now r.3 r.4

pub relaid-requires-clause-may : goal.relaid-requires-clause-may
relaid-requires-clause-may c = let r = c.requires in may_of r.0 r.1 c.args.new.now c.args.chunk.now c.args.key _ r.4

pub relaid-requires-clause-reached : goal.relaid-requires-clause-reached
relaid-requires-clause-reached c = c.requires.4.reached

pub relaid-requires-clause-dtype : goal.relaid-requires-clause-dtype
relaid-requires-clause-dtype c =
    let r = c.requires in
    bytes_dtype r.0 r.1 c.args.new.now c.args.chunk.now c.args.key r.2 c.args.form.now c.args.bytes.now r.3 r.4 c.in-Ok.cells c.in-Ok.ensures.dtype c.in-Ok.ensures.shape c.in-Ok.ensures.words

pub relaid-requires-clause-shape : goal.relaid-requires-clause-shape
relaid-requires-clause-shape c =
    let r = c.requires in
    bytes_shape r.0 r.1 c.args.new.now c.args.chunk.now c.args.key r.2 c.args.form.now c.args.bytes.now r.3 r.4 c.in-Ok.cells c.in-Ok.ensures.dtype c.in-Ok.ensures.shape c.in-Ok.ensures.words

pub returns-in-Ok-clause-left : goal.returns-in-Ok-clause-left
returns-in-Ok-clause-left c =
    IfOk-weaker c.relaid.result _ _
    (λ left is store log generation bounds h.
    bytes_left store log c.args.new.now c.args.chunk.now c.args.key generation c.args.form.now c.args.bytes.now bounds h c.in-Ok.cells c.in-Ok.ensures.dtype c.in-Ok.ensures.shape c.in-Ok.ensures.words left is)
    c.relaid.ensures.left

pub returns-in-Ok-clause-refused : goal.returns-in-Ok-clause-refused
returns-in-Ok-clause-refused c = memory_alone _ c.args.new.now c.relaid.result c.relaid.ensures.err

pub returns-in-Err-clause-refused : goal.returns-in-Err-clause-refused
returns-in-Err-clause-refused c = λ store log generation bounds h.
    unlaid_by store log c.args.new.now c.args.key c.in-Err.e c.undecoded.result c.undecoded.ensures.damaged c.undecoded.ensures.memory
    (λ cause is. bytes_damaged store log c.args.new.now c.args.chunk.now c.args.key generation c.args.form.now c.args.bytes.now bounds h c.args.key cause refl
    (damaged_cause c.in-Err.e _ cause is c.in-Err.ensures.causes))
