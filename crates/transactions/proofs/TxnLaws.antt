-- A transaction beside what its pass has seen, from one line to the next.
use Rattle.std.proofs.Common.{◌≡◌, ℕ, List, [], ◌∷◌, ◌++◌, length, Some, sym, subst, arith}
use Rattle.std.specs.Prelude.{OnOk, Result, Ok, Err}
use Rattle.std.specs.FinMap as finmap
use Rattle.std.specs.List.{AllByRecursion}
use Rattle.std.proofs.Math.Seq.{take-append_seam, take-length}
use Rattle.std.proofs.lemmas.List.{take-append-le, length-append}
use Rattle.history.specs.Chunks.{key_of}
use Rattle.history.specs.History.{History}
use Rattle.history.specs.Legal.{IsLegal, viewed}
use Rattle.history.specs.Refs.{HasKnownRefs}
use Rattle.history.specs.declared.event.Op.{Op}
use Rattle.history.specs.declared.event.Op.TheVariants.{Write}
use Rattle.history.proofs.Laws.{view_later}
use Rattle.stack_driver.specs.declared.view.View.{View}
use Rattle.stack_targets.specs.Landings.{leaves_of}
use Rattle.chunk_fetches.specs.Agreement.{Opening}
use Rattle.chunk_fetches.specs.Outline.{outline}
use Rattle.chunk_fetches.specs.Operations.{AreStaged, IsLeafIn}
use Rattle.chunk_fetches.proofs.Laws.{staged_later}
use Rattle.chunk_fetches.specs.Kept.{IsChunkThen, IsKeptIn, chunk_at}
use Rattle.transactions.specs.Conditions.{IsKnownOp, IsTxnIn}
use Rattle.transactions.specs.Txn.{TxnSeen}
use Rattle.chunk_fetches.specs.declared.kept.Kept.{Kept}
use Rattle.chunk_fetches.proofs.Laws.{keeps_front}
use Rattle.transactions.proofs.ViewLaws.{leaves_of_known}

pub on_ok_two : {T E A B C : Type 0} (r : Result T E) → OnOk r A → OnOk r B → (A → B → C) → OnOk r C
on_ok_two (Ok x) a b f = f a b
on_ok_two (Err e) a b f = tt

pub all_with : {A : Type 0} (P : A → Type 0) (xs ys : List A) → AllByRecursion P xs → AllByRecursion P ys → AllByRecursion P (xs ++ ys)
all_with P [] ys all rest = rest
all_with P (x ∷ xs) ys all rest = (all.0, all_with P xs ys all.1 rest)

-- one write more
pub txn_written : (opening : Opening) (events : History) (old new : TxnSeen) (v : View) (words : List ℕ) → IsTxnIn opening events old → HasKnownRefs events v → new.ops ≡ old.ops ++ Write v words ∷ [] → new.kept ≡ old.kept
    → (AllByRecursion (IsLeafIn events) (leaves_of v) → AreStaged events old.ops old.staged → AreStaged events new.ops new.staged) → IsTxnIn opening events new
txn_written opening events old new v words txn refs ops kept staged = record {
  outline = txn.outline;
  known = subst (AllByRecursion (IsKnownOp events)) (sym ops) (all_with (IsKnownOp events) old.ops (Write v words ∷ []) txn.known (refs, tt));
  staged = staged (leaves_of_known events v txn.outline refs) txn.staged;
  kept = subst (AllByRecursion (IsKeptIn opening events)) (sym kept) txn.kept;
}

-- what holds of a transaction holds as others' events follow
module _ (opening : Opening) (early more : History) where
  ops_later : (ops : List Op) → AllByRecursion (IsKnownOp early) ops → AllByRecursion (IsKnownOp (early ++ more)) ops
  ops_later [] known = tt
  ops_later (op ∷ ops) known =
      let sum = length-append early more in
      let front = subst (λ h. HasKnownRefs h (viewed op)) (sym (take-append_seam early more)) known.0 in (
        subst (λ h. HasKnownRefs h (viewed op)) (take-length (early ++ more)) (view_later (early ++ more) (length early) (length (early ++ more)) (omega (arith, sum)) (viewed op) front),
        ops_later ops known.1,
      )

  kept_later : (ks : List Kept) → AllByRecursion (IsKeptIn opening early) ks → AllByRecursion (IsKeptIn opening (early ++ more)) ks
  kept_later [] kept = tt
  kept_later (k ∷ ks) kept =
      let sum = length-append early more in
      let within = kept.0.within in
      let front = sym (take-append-le k.mark early more within) in (
        record {
          within = omega (arith, sum, within);
          named = kept.0.named;
          key = subst (λ h. key_of h (chunk_at k.id) ≡ Some k.key) front kept.0.key;
          chunk = subst (λ h. IsChunkThen opening h (chunk_at k.id) k.snapshot k.bounds) front kept.0.chunk;
        },
        kept_later ks kept.1,
      )

  pub txn_later : (t : TxnSeen) → IsLegal finmap.empty (outline (early ++ more)) → IsTxnIn opening early t → IsTxnIn opening (early ++ more) t
  txn_later t legal txn = record {
    outline = legal;
    known = ops_later t.ops txn.known;
    staged = staged_later early (early ++ more) (keeps_front early more legal) t.ops t.staged txn.staged;
    kept = kept_later t.kept txn.kept;
  }
