-- Chunks by their ids, with the runs of the pairs so far.
use Rattle.std.proofs.Common.{◌≡◌, ◌∙◌, ℕ, ◌+◌, Bool, true, false, cond, List, [], ◌∷◌, ◌++◌, length, Some, None, refl, sym, ap, subst, arith, IfSome}
use Rattle.std.specs.Prelude.{IsSome}
use Rattle.std.specs.Map.{set_value}
use Rattle.std.specs.BTreeMap.{insert_entry}
use Rattle.std.specs.Str.{bytes_eq}
use Rattle.std.specs.Ordering.{is_eq, nat_cmp}
use Rattle.std.specs.Cmp.Lexicographic.{slice_cmp}
use Rattle.std.proofs.lemmas.Slice.Eq.{bytes_eq-Decides}
use Rattle.std.proofs.lemmas.List.{append-nil, length-append}
use Rattle.cells.specs.Runs.{Pair}
use Rattle.strided_runs.specs.Growing.{Grown, first_run, grown}
use Rattle.strided_runs.proofs.Laws.{grown_of-more, up_to-more, up_to-later}
use Rattle.transaction_cells.specs.Found.{Id, by_id, found}
use Rattle.transaction_cells.specs.Cuts.{Cuts, with_pair, grown_of, IsUpTo, AreCuts}
use Rattle.transaction_cells.specs.Sites.{Site, pairs_at}
use Rattle.transaction_cells.proofs.TableLaws.{found-insert, found-set}

abbrev Entries : Type 0
Entries = List (Id × Grown)

-- a pair put behind those of its chunk
module _ (old new : Entries) (ids : List ℕ) (p : Pair) where
  -- what each look-up finds then
  abbrev pub IsPut : Type 0
  IsPut = (q : List ℕ) → found new q ≡ cond (bytes_eq ids q) (Some (with_pair p (found old q))) (found old q)

  put_at : (g : Grown) (q : List ℕ) → g ≡ with_pair p (found old ids) → (b : Bool) → bytes_eq ids q ≡ b
      → cond b (Some g) (found old q) ≡ cond b (Some (with_pair p (found old q))) (found old q)
  put_at g q is true e = let same : ids ≡ q = (bytes_eq-Decides ids q).0 e in ap Some (is ∙ ap (λ xs. with_pair p (found old xs)) same)
  put_at g q is false e = refl

  pub written-runs : (g w : Grown) → Some g ≡ found old ids → w ≡ grown g p → new ≡ set_value (λ (k : Id). is_eq (slice_cmp nat_cmp ids k.items)) old w → IsPut
  written-runs g w there is entries q =
      let some : IsSome (found old ids) = subst IsSome there refl in
      ap (λ es. found es q) entries ∙ found-set ids w q old some ∙ put_at w q (is ∙ ap (with_pair p) there) (bytes_eq ids q) refl

  pub inserted-runs : (mid : Entries) (made : Id) (g : Grown) → mid ≡ old → made.items ≡ ids → found old ids ≡ None → g ≡ first_run p
      → new ≡ insert_entry by_id mid made g → IsPut
  inserted-runs mid made g same named absent is entries q =
      ap (λ es. found es q) entries ∙ found-insert made g q mid
      ∙ (λ i. cond (bytes_eq (named i) q) (Some g) (found (same i) q))
      ∙ put_at g q (is ∙ sym (ap (with_pair p) absent)) (bytes_eq ids q) refl

-- the pairs with a site more
pub pairs_at-more : (id : List ℕ) (k : ℕ) (sites : List Site) (s : Site)
    → pairs_at id k (sites ++ s ∷ []) ≡ pairs_at id k sites ++ cond (bytes_eq s.id id) (record { view = k + length sites; chunk = s.place } ∷ []) []
pairs_at-more id k [] s = let z : k ≡ k + 0 = omega arith in (λ i. cond (bytes_eq s.id id) (record { view = z i; chunk = s.place } ∷ []) [])
pairs_at-more id k (t ∷ sites) s = told (bytes_eq t.id id) (pairs_at-more id (k + 1) sites s)
  where
    z : (k + 1) + length sites ≡ k + length (t ∷ sites)
    z = omega arith

    last : ℕ → List Pair
    last n = cond (bytes_eq s.id id) (record { view = n; chunk = s.place } ∷ []) []

    told : (b : Bool) → pairs_at id (k + 1) (sites ++ s ∷ []) ≡ pairs_at id (k + 1) sites ++ cond (bytes_eq s.id id) (record { view = (k + 1) + length sites; chunk = s.place } ∷ []) []
        → cond b (record { view = k; chunk = t.place } ∷ pairs_at id (k + 1) (sites ++ s ∷ [])) (pairs_at id (k + 1) (sites ++ s ∷ []))
        ≡ cond b (record { view = k; chunk = t.place } ∷ pairs_at id (k + 1) sites) (pairs_at id (k + 1) sites) ++ cond (bytes_eq s.id id) (record { view = k + length (t ∷ sites); chunk = s.place } ∷ []) []
    told true e = ap (λ ps. record { view = k; chunk = t.place } ∷ ps) (e ∙ (λ i. pairs_at id (k + 1) sites ++ cond (bytes_eq s.id id) (record { view = z i; chunk = s.place } ∷ []) []))
    told false e = e ∙ (λ i. pairs_at id (k + 1) sites ++ cond (bytes_eq s.id id) (record { view = z i; chunk = s.place } ∷ []) [])

-- one site more
module _ (sites : List Site) (s : Site) (ids : List ℕ) (p : Pair) (old new : Cuts) where
  more_at : (q : List ℕ) (b : Bool) → found old.entries q ≡ grown_of (pairs_at q 0 sites)
      → cond b (Some (with_pair p (found old.entries q))) (found old.entries q) ≡ grown_of (pairs_at q 0 sites ++ cond b (p ∷ []) [])
  more_at q true e = ap (λ g. Some (with_pair p g)) e ∙ sym (grown_of-more (pairs_at q 0 sites) p)
  more_at q false e = e ∙ ap grown_of (sym (append-nil (pairs_at q 0 sites)))

  later_at : (q : List ℕ) (b : Bool) → p.view ≡ length sites → IfSome (found old.entries q) (IsUpTo (length sites))
      → IfSome (cond b (Some (with_pair p (found old.entries q))) (found old.entries q)) (IsUpTo (length sites + 1))
  later_at q true e h = subst (λ n. IsUpTo (n + 1) (with_pair p (found old.entries q))) e (up_to-more (found old.entries q) p (subst (λ n. IfSome (found old.entries q) (IsUpTo n)) (sym e) h))
  later_at q false e h = up_to-later (found old.entries q) (length sites) h

  from_zero : 0 + length sites ≡ length sites
  from_zero = omega arith

  pub AreCuts-more : ids ≡ s.id → p ≡ record { view = length sites; chunk = s.place } → IsPut old.entries new.entries ids p
      → AreCuts sites old → AreCuts (sites ++ s ∷ []) new
  AreCuts-more is pair puts h = record {
    runs = λ q.
        puts q ∙ more_at q (bytes_eq ids q) (h.runs q)
        ∙ ap grown_of (sym (pairs_at-more q 0 sites s ∙ (λ i. pairs_at q 0 sites ++ cond (bytes_eq s.id q) (record { view = from_zero i; chunk = s.place } ∷ []) []) ∙ (λ i. pairs_at q 0 sites ++ cond (bytes_eq (sym is i) q) (sym pair i ∷ []) [])));
    before = λ q.
        let one : length (sites ++ s ∷ []) ≡ length sites + 1 = length-append sites (s ∷ []) in
        let there : IfSome (cond (bytes_eq ids q) (Some (with_pair p (found old.entries q))) (found old.entries q)) (IsUpTo (length sites + 1)) = later_at q (bytes_eq ids q) (ap (λ (r : Pair). r.view) pair) (h.before q) in
        subst (λ n. IfSome (found new.entries q) (IsUpTo n)) (sym one) (subst (λ o. IfSome o (IsUpTo (length sites + 1))) (sym (puts q)) there);
  }

-- no cuts are those of no sites
pub no_cuts : (cuts : Cuts) → cuts.entries ≡ [] → AreCuts [] cuts
no_cuts cuts none = record {
  runs = λ id. ap (λ es. found es id) none;
  before = λ id. subst (λ (es : Entries). IfSome (found es id) (IsUpTo 0)) (sym none) tt;
}
