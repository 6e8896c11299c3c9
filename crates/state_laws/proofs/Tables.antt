-- The table of locations behind an array that entered the run, and behind one that didn't.
use Rattle.std.proofs.Common.{◌≡◌, ℕ, List, cond, Some, None, inl, inr, sym, ap, ◌∙◌}
use Rattle.std.specs.FinMap as finmap
use Rattle.std.specs.FinMap.{get-insert, get-remove}
use Rattle.std.specs.Ordering.{is_eq, nat_cmp}
use Rattle.std.specs.Cmp.Lexicographic.{slice_cmp, nat_list_cmp_total}
use Rattle.std.specs.Option.{option_map}
use Rattle.std.proofs.lemmas.Map.Text.{is_eq-slice_cmp}
use Rattle.std.proofs.lemmas.Slice.Eq.{bytes_eq-Decides}
use Rattle.cells.proofs.Laws.{true_or_false}
use Rattle.locations.specs.Paths.{Located}
use Rattle.history.specs.History.{History}
use Rattle.history.specs.Arrays.{Known}
use Rattle.history.specs.Places.{IsTable, IsFree, array_at}

-- what was put in at a free location is taken out again
pub table_back : (h : History) (places : Located) (l : List ℕ) (n : ℕ) → IsFree h l → IsTable h places → IsTable h (finmap.remove (finmap.insert places l n) l)
table_back h places l n free table here =
    get-remove nat_list_cmp_total (finmap.insert places l n) l here
    ∙ elim (true_or_false (is_eq (slice_cmp nat_cmp here l))) [
      | inl t ↦
          let same : here ≡ l = (bytes_eq-Decides here l).0 (sym (is_eq-slice_cmp here l) ∙ t) in
          ap (λ b. cond b None (finmap.get (finmap.insert places l n) here)) t
          ∙ sym (ap (λ o. option_map (λ (k : Known). k.info.number) o) (ap (array_at h) same ∙ free.empty))
      | inr f ↦
          ap (λ b. cond b None (finmap.get (finmap.insert places l n) here)) f
          ∙ get-insert nat_list_cmp_total places l n here ∙ ap (λ b. cond b (Some n) (finmap.get places here)) f ∙ table here
    ]
