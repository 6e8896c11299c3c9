use Rattle.std.proofs.Common.{◌≡◌, ◌≤◌, ℕ, List, sym, ap, subst, ◌∙◌, arith, cond, Some, None}
use Rattle.std.specs.Prelude.{nat_le, slice_index, ◌&&◌, ◌==◌, if◌then◌else◌}
use Rattle.chunk_versions.specs.Moments.{newest, touched}
use Rattle.chunk_versions.specs.Versions.{word_as_of}
use Rattle.version_store.proofs.Written.{same_touch, local_none, local_more}
use Rattle.version_store.proofs.filling.local_chunk.Goals as goal

pub loop-place-init : goal.loop-place-init
loop-place-init c = record {
  size = c.in_ok-chunk.ensures.size ∙ c.count.ensures.value;
  touches = c.in_ok-chunk.ensures.touches;
  words = λ m q low. absurd (omega (arith, low));
  none = λ m q early. c.in_ok-chunk.ensures.words m q ∙ ap (λ b. cond b (Some 0) None) early;
}

pub get-requires : goal.get-requires
get-requires c = let count = c.count-place-end.ensures.value in let low = c.loop-place-test.true in omega (arith, count, low)

pub put-requires-clause-number : goal.put-requires-clause-number
put-requires-clause-number c = subst (λ (ts : List ℕ). newest ts ≤ c.args.number) (sym c.loop-place.invariant.touches) (omega arith)

pub put-requires-clause-place : goal.put-requires-clause-place
put-requires-clause-place c =
    let count = c.count-place-end.ensures.value in
    let low = c.loop-place-test.true in
    let size = c.loop-place.invariant.size in
    omega (arith, count, low, size)

pub loop-place-preserved : goal.loop-place-preserved
loop-place-preserved c =
    let words = c.args.start.now.words in
    let place = c.loop-place.place in
    let put : (m q : ℕ) → word_as_of c.put.new.self m q ≡ (if nat_le c.args.number m && q == place then Some (slice_index words place) else word_as_of c.loop-place.chunk m q) =
    λ m q. c.in_ok-put.ensures.words m q ∙ ap (λ w. cond (nat_le c.args.number m && q == place) (Some w) (word_as_of c.loop-place.chunk m q)) c.get.ensures.value in
    record {
      size = c.in_ok-put.ensures.size ∙ c.loop-place.invariant.size;
      touches = c.in_ok-put.ensures.touches ∙ ap (touched c.args.number) c.loop-place.invariant.touches ∙ same_touch c.args.number;
      words = local_more c.args.number place words c.loop-place.chunk c.put.new.self put c.loop-place.invariant.none c.loop-place.invariant.words;
      none = local_none c.args.number place words c.loop-place.chunk c.put.new.self put c.loop-place.invariant.none;
    }

pub returns-clause-words : goal.returns-clause-words
returns-clause-words c =
    let count = c.count-place-end.ensures.value in
    let past = c.loop-place-test.false in
    λ m place low. c.loop-place.invariant.words m place (omega (arith, low, past, count))
