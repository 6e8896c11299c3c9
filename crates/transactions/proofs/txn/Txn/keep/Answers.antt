use Rattle.std.proofs.Common.{◌≡◌, ◌∙◌, ◌++◌, List, sym, ap, subst, arith, length, take}
use Rattle.std.proofs.Math.Seq.{take-append_seam}
use Rattle.chunk_fetches.specs.Found.{found}
use Rattle.transactions.specs.Keeping.{AreNewTo, placed}
use Rattle.transactions.specs.Txn.{TxnSeen, counting}
use Rattle.chunk_fetches.specs.Kept.{place_from}
use Rattle.chunk_fetches.specs.declared.kept.Kept.{Kept}
use Rattle.transactions.proofs.KeepLaws.{all_placed, counts_unspoilt}
use Rattle.transactions.proofs.txn.Txn.keep.Goals as goal

pub invariant_of-self : goal.invariant_of-self
invariant_of-self c id =
    let kept = c.self.inside.kept.items in
    let new : AreNewTo kept c.args.fetched.items = subst (λ (t : TxnSeen). AreNewTo t.kept c.args.fetched.items) (sym c.self.view_is) c.requires.new in
    let count = c.len-count.ensures in
    counts_unspoilt kept c.args.fetched.items new id (found c.self.inside.places.entries id) (found c.prepare.new.places.entries id) (c.self.invariant id)
    (λ ks long unkept. c.prepare.ensures.unspoilt ks (omega (arith, long, count)) (rw c.deref.ensures.value unkept) id)

pub invariant_of-self-in_err-append : goal.invariant_of-self-in_err-append
invariant_of-self-in_err-append c id =
    let kept = c.self.inside.kept.items in
    let new : AreNewTo kept c.args.fetched.items = subst (λ (t : TxnSeen). AreNewTo t.kept c.args.fetched.items) (sym c.self.view_is) c.requires.new in
    let count = c.len-count.ensures in
    subst (λ (ks : List Kept). counting ks id (found c.prepare.new.places.entries id) ≡ place_from 0 ks id) (sym c.in_err-append.ensures.items)
    (counts_unspoilt kept c.args.fetched.items new id (found c.self.inside.places.entries id) (found c.prepare.new.places.entries id) (c.self.invariant id)
    (λ ks long unkept. c.prepare.ensures.unspoilt ks (omega (arith, long, count)) (rw c.deref.ensures.value unkept) id))

pub invariant_of-self-in-Ok : goal.invariant_of-self-in-Ok
invariant_of-self-in-Ok c id =
    let kept = c.self.inside.kept.items in
    let fetched = c.args.fetched.items in
    let new : AreNewTo kept fetched = subst (λ (t : TxnSeen). AreNewTo t.kept fetched) (sym c.self.view_is) c.requires.new in
    let long : c.len-count.result ≡ length kept = (let count = c.len-count.ensures in omega (arith, count)) in
    let told : found c.prepare.new.places.entries id ≡ placed (length kept) fetched id (found c.self.inside.places.entries id) =
    c.in_ok-prepare.ensures.ok id ∙ (λ i. placed (long i) (c.deref.ensures.value i) id (found c.self.inside.places.entries id)) in
    subst (λ (ks : List Kept). counting ks id (found c.prepare.new.places.entries id) ≡ place_from 0 ks id) (sym c.in_ok-append.ensures.items)
    (ap (counting (kept ++ fetched) id) told ∙ all_placed kept fetched id (found c.self.inside.places.entries id) (c.self.invariant id) new)

pub invariant_of-self-in-Err : goal.invariant_of-self-in-Err
invariant_of-self-in-Err c id =
    let kept = c.self.inside.kept.items in
    let fetched = c.args.fetched.items in
    let new : AreNewTo kept fetched = subst (λ (t : TxnSeen). AreNewTo t.kept fetched) (sym c.self.view_is) c.requires.new in
    let count = c.len-count.ensures in
    let long : c.len-count.result ≡ length kept = omega (arith, count) in
    let back : c.truncate.new.self.items ≡ kept = c.truncate.ensures.items ∙ (λ i. take (long i) (c.in_ok-append.ensures.items i)) ∙ take-append_seam kept fetched in
    subst (λ (ks : List Kept). counting ks id (found c.prepare.new.places.entries id) ≡ place_from 0 ks id) (sym back)
    (counts_unspoilt kept fetched new id (found c.self.inside.places.entries id) (found c.prepare.new.places.entries id) (c.self.invariant id)
    (λ ks same unkept. c.prepare.ensures.unspoilt ks (omega (arith, same, count)) (rw c.deref.ensures.value unkept) id))
