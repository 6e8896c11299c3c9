-- Operations through views whose cells all have targets.
use Rattle.std.proofs.Common.{◌≡◌, ◌∙◌, ℕ, List, [], ◌∷◌, length, map, Result, Ok, Err, sym, ap, subst}
use Rattle.std.specs.Prelude.{IfErr, OnOk, IsTrue}
use Rattle.std.specs.List.{AllByRecursion, list_all}
use Rattle.std.proofs.lemmas.List.{length-map}
use Rattle.cells.specs.Numbers.{IsWord}
use Rattle.history.specs.Staged.{IsFound, IsStaged}
use Rattle.history.specs.declared.event.Op.TheVariants.{Write, Read}
use Rattle.index_transform.specs.Cells.{count_answer, is_finite}
use Rattle.stack_driver.specs.Views.{look_of, targets_of}
use Rattle.stack_driver.specs.declared.view.View.{View}
use Rattle.chunk_fetches.specs.Operations.{HasSites}
use Rattle.chunk_fetches.specs.Pieces.{AreCells}
use Rattle.chunk_fetches.specs.Sites.{Site, sites_of}
use Rattle.chunk_fetches.specs.declared.ViewCells.{ViewCells}
use Rattle.chunk_fetches.proofs.Laws.{count_of}
use Rattle.transactions.specs.Reading.{IsFoundUnless, as_read_fault}
use Rattle.chunk_fetches.specs.declared.error.ReadError.{ReadError}
use Rattle.chunk_fetches.specs.declared.error.ReadError.TheVariants as read
use Rattle.transactions.specs.declared.error.WriteError.{WriteError}
use Rattle.transactions.specs.declared.error.WriteError.TheVariants as write
use Rattle.transactions.proofs.ViewLaws.{counted_view}

found_all : (ss : List Site) → AllByRecursion IsFound (map (λ (s : Site). Ok s.target) ss)
found_all [] = tt
found_all (s ∷ ss) = (tt, found_all ss)

-- each cell has a target where it has a site
pub sites_found : (v : View) → HasSites v → AllByRecursion IsFound (targets_of v)
sites_found v has = subst (AllByRecursion IsFound) (sym has.targets) (found_all (sites_of v))

-- what refuses a read, be it what it may
pub found_unless : (v : View) → HasSites v → (e : ReadError) → IsFoundUnless v e
found_unless v has (read.View fault) = tt
found_unless v has (read.StoreFailed event) = sites_found v has
found_unless v has (read.Damaged key cause) = sites_found v has
found_unless v has (read.Shrunk key now) = sites_found v has
found_unless v has read.Memory = tt

pub found_unlocated : (v : View) (e : WriteError) → IsFoundUnless v (as_read_fault e)
found_unlocated v (write.View fault) = tt
found_unlocated v write.Memory = tt

pub if_err_any : {A E : Type 0} {P : E → Type 0} (r : Result A E) → ((e : E) → P e) → IfErr r P
if_err_any (Ok a) all = tt
if_err_any (Err e) all = all e

module _ (v : View) (cells : ViewCells) (words : List ℕ) (has : HasSites v) (are : AreCells (sites_of v) cells) (counted : count_answer (look_of v).dims ≡ Ok (length cells.leaves)) (count : length words ≡ length cells.leaves) where
  is_finite_view : IsTrue (list_all is_finite (look_of v).dims)
  is_finite_view = (counted_view (look_of v).dims (length cells.leaves) counted).0

  are_found : AllByRecursion IsFound (targets_of v)
  are_found = sites_found v has

  as_many : length words ≡ length (targets_of v)
  as_many = count ∙ sym (count_of (sites_of v) cells.lanes cells.leaves are.casts) ∙ sym (length-map (sites_of v) (λ (s : Site). Ok s.target)) ∙ sym (ap length has.targets)

  -- a write of words of the view's dtype
  pub write_staged : AllByRecursion (IsWord (look_of v).dtype) words → IsStaged (Write v words)
  write_staged typed = record { finite = is_finite_view; targets = are_found; count = as_many; words = typed }

  -- a read
  pub read_staged : IsStaged (Read v words)
  read_staged = record { finite = is_finite_view; targets = are_found; count = as_many; words = tt }

pub on_ok_any : {A E P : Type 0} (r : Result A E) → P → OnOk r P
on_ok_any (Ok a) p = p
on_ok_any (Err e) p = tt
