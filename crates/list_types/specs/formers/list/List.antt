-- How a `List` holds its values, so that a type may reach itself through one.
--     the_former      a value is the list of what it holds
--     the_items       what it holds, in order
--     the_places      it lies in memory, owns and lends as its `Vec` does
use mathlib.Core.Path.{◌≡◌, refl, sym}
use mathlib.Core.List.{List, []}
use mathlib.Core.Former.{Former, this, list, via, children}
use base.Stored.{code_map}
use denote.RattleType.{RattleType}
use denote.HoleLaws.{Alike}
use denote.HolePlaces.{Recodes, struct_places, laid}
use denote.Hole.Carrier.{listed, list-listed}
use denote.Hole.Fix.{over}
use denote.Param.Weighed.{Weighed, w_list}
use denote.Model.Placed.{view_places}
use Rattle.std.specs.formers.vec.Vec as vec
use Rattle.std.specs.declared.alloc.Global.{Global}
use Rattle.std.specs.contracts.alloc.Global as heap
use Rattle.std.specs.contracts.impls.GlobalAllocator.TheImpl.{ghosts}
use Rattle.list_types.specs.declared.list.List.TheInside.{Inside}
use Rattle.list_types.specs.declared.list.List.TheView.{view, invariant}
use Rattle.list_types.specs.contracts.list.List as typed
use Rattle.list_types.specs.contracts.list.List.TheInside as inside

-- a value splits as a list does
abbrev pub the_former : Former {0} → Former {0}
the_former held = list held

-- the largest measure among what it holds
abbrev pub the_weighed : {held : Former {0}} → Weighed held → Weighed (the_former held)
the_weighed measure = w_list measure

-- a list that holds nothing
pub the_empty : List ⊥
the_empty = []

-- what it holds, in order
abbrev pub the_items : (X : Type 0) → List X → List X
the_items X values = values

pub the_items_listed : (X : Type 0) (values : List X) → listed _ (children (the_former this) X values) ≡ the_items X values
the_items_listed X values = list-listed X values

-- the field's own way of holding, seen as the struct's
abbrev of_field : Former {0}
of_field = via (vec.the_former this Global) Inside (λ X a. a.values) (λ X v. record { values = v }) (λ X a. refl) (λ X v. refl)

module _ (R S : RattleType) (h : R.Denot → S.Denot) where
  -- one layout, one ownership and one loan, whatever it holds
  pub the_places : Alike R S h → Alike (typed.the_row R) (typed.the_row S) ((the_former this).map R.Denot S.Denot h)
  the_places alike = view_places of_field (list this) view (λ X Y k u. refl) (λ X u. refl) R.Denot S.Denot h
      (typed.the_row R).coded (typed.the_row S).coded (invariant R.Denot) (invariant S.Denot)
      (λ u p q. refl) (λ u p q. refl) (λ u e. tt) (λ u e. tt) (over (inside.the_row R)) (over (inside.the_row S))
      (struct_places (inside.the_type R) (inside.the_type S) (vec.mapped h, tt) _ (λ d. refl) refl
      (laid _ _ _ (vec.the_places heap.the_row ghosts R S h alike), tt))

  -- its code is the list of the codes of what it holds
  pub the_codes_placed : Recodes R S h → Recodes (typed.the_row R) (typed.the_row S) ((the_former this).map R.Denot S.Denot h)
  the_codes_placed same values = sym (code_map R.coded.code S.coded.code h (λ x. sym (same x)) values)
