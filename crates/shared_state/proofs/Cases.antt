-- What follows from both answers of a call.
use Rattle.std.specs.Prelude.{Result, Ok, Err, OnOk, OnErr}

-- what follows from either answer follows
pub either_way : {T E P Q X : Type 0} (r : Result T E) → OnOk r P → OnErr r Q → (P → X) → (Q → X) → X
either_way (Ok x) done failed f g = f done
either_way (Err e) done failed f g = g failed

-- three facts of an answer, and two of a refusal
pub either_ok : {T E P Q R X : Type 0} (r : Result T E) → OnOk r P → OnOk r Q → OnOk r R → (P → Q → R → X) → OnOk r X
either_ok (Ok x) p q s f = f p q s
either_ok (Err e) p q s f = tt

pub both_err : {T E P Q X : Type 0} (r : Result T E) → OnErr r P → OnErr r Q → (P → Q → X) → OnErr r X
both_err (Ok x) p q f = tt
both_err (Err e) p q f = f p q
