use Rattle.std.proofs.Common.{◌≡◌, ◌∙◌, ◌+◌, ℕ, List, Some, sym, ap, subst, arith, drop, get_or, cond}
use Rattle.std.specs.Str.{bytes_eq}
use Rattle.std.proofs.lemmas.List.{at_drop_more}
use Rattle.chunk_fetches.specs.Found.{found}
use Rattle.transactions.specs.Keeping.{IsUnkept, IsUnspoilt, placed}
use Rattle.chunk_fetches.specs.declared.kept.Kept.{Kept}
use Rattle.transactions.proofs.KeepLaws.{kept_at, unspoilt_more}
use Rattle.transactions.proofs.keeping.prepare.Goals as goal

pub loop-k-preserved : goal.loop-k-preserved
loop-k-preserved c =
    let fetched = c.args.fetched.now in
    let from = c.args.from in
    let k = c.loop-k.k in
    let x = c.index-fetched-k.result in
    let old = c.loop-k.places.entries in
    let first = get_or fetched k x in
    let named : c.items.result.now ≡ first.id = c.items.ensures ∙ ap (λ (j : Kept). j.id) c.index-fetched-k.is in
    let told : (id : List ℕ) → found c.insert.new.places.entries id ≡ cond (bytes_eq first.id id) (Some (from + k)) (found old id) =
    λ id. c.in_ok-insert.ensures.ok id ∙ ap (λ xs. cond (bytes_eq xs id) (Some (from + k)) (found old id)) named in
    record {
      rest = λ id.
          (λ i. placed (next from k i) (drop (k + 1) fetched) id (told id i))
          ∙ sym (at_drop_more (λ ks. placed (from + k) ks id (found old id)) fetched k x c.loop-k-test.true)
          ∙ c.loop-k.invariant.rest id;
      unspoilt = λ kept long unkept id.
          subst (λ o. IsUnspoilt kept id (found c.args.places.now.entries id) o) (sym (told id))
          (unspoilt_more kept first id (found c.args.places.now.entries id) (found old id) (from + k) (omega (arith, long)) (kept_at (IsUnkept kept) fetched k x unkept c.loop-k-test.true) (c.loop-k.invariant.unspoilt kept long unkept id));
    }
  where
    next : (from k : ℕ) → from + (k + 1) ≡ from + k + 1
    next from k = omega arith
