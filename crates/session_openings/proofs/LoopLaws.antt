-- A line's leaves one after another.
use Rattle.std.proofs.Common.{◌≡◌, ◌∙◌, ◌+◌, ℕ, suc, List, [], ◌∷◌, length, Option, sym, ap, subst, arith}
use Rattle.std.specs.Prelude.{unwrap_or}
use Rattle.std.specs.List.{AllByRecursion}
use Rattle.sessions.specs.declared.Body.{Body}
use Rattle.history.specs.declared.event.Event.{Event}
use Rattle.history.specs.Answers.{Text}
use Rattle.history.specs.Lines as history
use Rattle.sessions.specs.MeaningOpenings.{leaf_of, node_of, leaves_from}
use Rattle.session_openings.specs.Openings.{AreAllOpened, OpensOne, IsLeafRefused, RefusesOne}
use Rattle.session_openings.specs.declared.leaves.Wanted.{Wanted}
use Rattle.session_openings.specs.Wanted.{wanted_leaf, MayBeAsked}
use Rattle.session_openings.proofs.LineLaws.{none_opened}
use Rattle.sessions.specs.Turns.{IsRested}
use Rattle.spec_forms.specs.declared.leaf.SpecLeaf.{SpecLeaf}
use Rattle.spec_open.specs.declared.tree.Tree.{Tree}
use Rattle.stack_driver.specs.References.{Reference}
use Rattle.sessions.specs.Agreement.{Opening}
use Rattle.turn_book.specs.Passes.{BookView, PassView}

module _ (book : BookView Opening) (first : PassView Event Opening) (tree : Tree) (all : List SpecLeaf) where
  -- so many arrays were opened, and these leaves are left
  abbrev pub IsUnderWay : PassView Event Opening → List SpecLeaf → List Reference → List ℕ → Type 0
  IsUnderWay now left arrays events = AreAllOpened book first now (leaves_from tree 0 all) (leaves_from tree (length arrays) left) arrays events

  pub under_way : (left : List SpecLeaf) (arrays : List Reference) (events : List ℕ) → IsRested book first → left ≡ all → arrays ≡ [] → events ≡ [] → IsUnderWay first left arrays events
  under_way left arrays events rested whole no_array no_event =
      subst (λ ls. IsUnderWay first ls arrays events) (sym whole)
      (subst (λ rs. IsUnderWay first all rs events) (sym no_array)
      (subst (λ es. IsUnderWay first all [] es) (sym no_event) (none_opened book first (leaves_from tree 0 all) rested)))

  -- all of them may be asked
  pub asked_start : (names : Option (List (List ℕ))) (left : List SpecLeaf) (arrays : List Reference) → left ≡ all → arrays ≡ [] → AllByRecursion (MayBeAsked names) (leaves_from tree 0 all) → AllByRecursion (MayBeAsked names) (leaves_from tree (length arrays) left)
  asked_start names left arrays whole none may =
      subst (λ ls. AllByRecursion (MayBeAsked names) (leaves_from tree (length arrays) ls)) (sym whole)
      (subst (λ rs. AllByRecursion (MayBeAsked names) (leaves_from tree (length rs) all)) (sym none) may)

  module _ (old new : PassView Event Opening) (left : List SpecLeaf) (leaf : SpecLeaf) (rest : List SpecLeaf) (steps : left ≡ leaf ∷ rest) (arrays : List Reference) (events : List ℕ) (so : IsUnderWay old left arrays events) where
    had : AreAllOpened book first old (leaves_from tree 0 all) (leaf_of (unwrap_or (node_of (length arrays) tree) []) leaf ∷ leaves_from tree (suc (length arrays)) rest) arrays events
    had = subst (λ ls. IsUnderWay old ls arrays events) steps so

    -- the next may be asked, and those behind it
    pub asked_next : (names : Option (List (List ℕ))) → AllByRecursion (MayBeAsked names) (leaves_from tree (length arrays) left) → AllByRecursion (MayBeAsked names) (leaf_of (unwrap_or (node_of (length arrays) tree) []) leaf ∷ leaves_from tree (suc (length arrays)) rest)
    asked_next names may = subst (λ ls. AllByRecursion (MayBeAsked names) (leaves_from tree (length arrays) ls)) steps may

    -- one leaf more
    module _ (more : List Reference) (numbers : List ℕ) (opens : OpensOne book old new (leaf_of (unwrap_or (node_of (length arrays) tree) []) leaf) arrays events more numbers) where
      opened : AreAllOpened book first new (leaves_from tree 0 all) (leaves_from tree (suc (length arrays)) rest) more numbers
      opened = opens first (leaves_from tree 0 all) (leaves_from tree (suc (length arrays)) rest) had

      pub one_more : suc (length arrays) ≡ length more
      one_more = let one = had.opened.count in let other = opened.opened.count in omega (arith, one, other)

      pub leaf_more : IsUnderWay new rest more numbers
      leaf_more = subst (λ k. AreAllOpened book first new (leaves_from tree 0 all) (leaves_from tree k rest) more numbers) one_more opened

      pub asked_more : (names : Option (List (List ℕ))) → AllByRecursion (MayBeAsked names) (leaves_from tree (length arrays) left) → AllByRecursion (MayBeAsked names) (leaves_from tree (length more) rest)
      asked_more names may = subst (λ k. AllByRecursion (MayBeAsked names) (leaves_from tree k rest)) one_more (asked_next names may).1

    -- one that isn't
    pub leaf_refused : (answer : Body) → RefusesOne book old new (leaf_of (unwrap_or (node_of (length arrays) tree) []) leaf) arrays events answer → IsLeafRefused book first new (leaves_from tree 0 all) answer
    leaf_refused answer refuses = refuses first (leaves_from tree 0 all) (leaves_from tree (suc (length arrays)) rest) had

  -- no leaf is left
  pub all_opened : (now : PassView Event Opening) (left : List SpecLeaf) (arrays : List Reference) (events : List ℕ) → length left ≡ 0 → IsUnderWay now left arrays events → AreAllOpened book first now (leaves_from tree 0 all) [] arrays events
  all_opened now [] arrays events none so = so
  all_opened now (leaf ∷ left) arrays events none so = absurd (omega (arith, none))

-- a leaf as it is asked, behind the arrays and numbers that there are
module _ (tree : Tree) (wanted : Wanted) (leaf : SpecLeaf) (is : (node : Text) → wanted_leaf node wanted ≡ leaf_of node leaf) (arrays later : List Reference) (events numbers : List ℕ) (same_arrays : later ≡ arrays) (same_events : numbers ≡ events) where
  leaf_same : wanted_leaf (unwrap_or (node_of (length later) tree) []) wanted ≡ leaf_of (unwrap_or (node_of (length arrays) tree) []) leaf
  leaf_same = is (unwrap_or (node_of (length later) tree) []) ∙ ap (λ rs. leaf_of (unwrap_or (node_of (length rs) tree) []) leaf) same_arrays

  -- it may be asked where the leaf may
  pub asked_same : (names : Option (List (List ℕ))) → MayBeAsked names (leaf_of (unwrap_or (node_of (length arrays) tree) []) leaf) → MayBeAsked names (wanted_leaf (unwrap_or (node_of (length later) tree) []) wanted)
  asked_same names may = subst (MayBeAsked names) (sym leaf_same) may

  -- what holds of it holds of the leaf
  pub leaf_carried : (P : history.SpecLeaf → List Reference → List ℕ → Type 0) → P (wanted_leaf (unwrap_or (node_of (length later) tree) []) wanted) later numbers → P (leaf_of (unwrap_or (node_of (length arrays) tree) []) leaf) arrays events
  leaf_carried P p =
      subst (λ l. P l arrays events) leaf_same
      (subst (λ es. P (wanted_leaf (unwrap_or (node_of (length later) tree) []) wanted) arrays es) same_events (subst (λ rs. P (wanted_leaf (unwrap_or (node_of (length later) tree) []) wanted) rs numbers) same_arrays p))
