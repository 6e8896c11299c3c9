-- How a `Boxed` holds its value, so that a type may reach itself through one.
--     the_former      a value is what it holds
--     the_places      it lies in memory, owns and lends as its `Box` does
use mathlib.Core.Path.{refl}
use mathlib.Core.Former.{Former, this, const, pair, via}
use base.Stored.{gnil}
use base.Fml.{ftrue}
use denote.RattleType.{RattleType}
use denote.Memory.{part_of}
use denote.RawPtr.{Ptr}
use denote.Sharing.{nothing}
use denote.HoleLaws.{Alike}
use denote.HolePlaces.{Recodes, struct_places, laid, one_value}
use denote.Hole.Fix.{over}
use denote.Param.Weighed.{Weighed}
use denote.Model.Placed.{view_places}
use Rattle.std.specs.declared.boxed.Box.{Box}
use Rattle.std.specs.contracts.boxed.Box as box
use Rattle.std.specs.declared.alloc.Global.{Global}
use Rattle.std.specs.contracts.alloc.Global as heap
use Rattle.std.specs.contracts.impls.GlobalAllocator.TheImpl.{ghosts}
use Rattle.list_types.specs.declared.boxed.Boxed.TheInside.{Inside}
use Rattle.list_types.specs.declared.boxed.Boxed.TheView.{view, invariant}
use Rattle.list_types.specs.contracts.boxed.Boxed as typed
use Rattle.list_types.specs.contracts.boxed.Boxed.TheInside as inside

-- a value is what it holds
abbrev pub the_former : Former {0} → Former {0}
the_former held = held

-- its measure is that of what it holds
abbrev pub the_weighed : {held : Former {0}} → Weighed held → Weighed (the_former held)
the_weighed measure = measure

-- the field as a pointer and an allocator beside the value, seen as the struct's
abbrev of_field : Former {0}
of_field = via (pair (const (Ptr × Global)) this) Inside (λ X a. ((a.inner.ptr, a.inner.alloc), a.inner.value))
    (λ X v. record { inner = record { ptr = v.0.0; alloc = v.0.1; value = v.1 } }) (λ X a. refl) (λ X v. refl)

-- the same box round another value
abbrev round : {X Y : Type 0} → Box X Global → Y → Box Y Global
round b y = record { ptr = b.ptr; alloc = b.alloc; value = y }

abbrev box_of : RattleType → RattleType
box_of R = box.the_row R heap.the_row ghosts

module _ (R S : RattleType) (h : R.Denot → S.Denot) where
  -- two boxes lie, own and lend alike where their values do
  boxes_alike : Alike R S h → Alike (box_of R) (box_of S) (λ b. round b (h b.value))
  unfolding part_of
  boxes_alike alike = record {
    mir_same = λ i. (box_of (one_value R (alike.mir_same i) (λ _. ftrue) (λ _ _. nothing) gnil)).mir;
    own_same = λ b i. (box_of (one_value R (alike.mir_same i) (alike.own_same b.value i) (alike.shr_same b.value i) gnil)).own_val (round b tt);
    shr_same = λ b i. (box_of (one_value R (alike.mir_same i) (alike.own_same b.value i) (alike.shr_same b.value i) gnil)).shr_at (round b tt);
  }

  -- one layout, one ownership and one loan, whatever it holds
  pub the_places : Alike R S h → Alike (typed.the_row R) (typed.the_row S) ((the_former this).map R.Denot S.Denot h)
  the_places alike = view_places of_field this view (λ X Y k u. refl) (λ X u. refl) R.Denot S.Denot h
      (typed.the_row R).coded (typed.the_row S).coded (invariant R.Denot) (invariant S.Denot)
      (λ u p q. refl) (λ u p q. refl) (λ u e. tt) (λ u e. tt) (over (inside.the_row R)) (over (inside.the_row S))
      (struct_places (inside.the_type R) (inside.the_type S) ((λ b. round b (h b.value)), tt) _ (λ d. refl) refl
      (laid _ _ _ (boxes_alike alike), tt))

  -- its code is that of what it holds
  pub the_codes_placed : Recodes R S h → Recodes (typed.the_row R) (typed.the_row S) ((the_former this).map R.Denot S.Denot h)
  the_codes_placed same value = same value
