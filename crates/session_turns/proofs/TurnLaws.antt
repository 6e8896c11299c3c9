-- What a turn of a line does to a pass.
use Rattle.std.proofs.Common.{◌≡◌, ◌∙◌, ℕ, zero, suc, ◌+◌, ◌<◌, ◌==◌, true, cond, List, [], ◌∷◌, ◌++◌, length, get_or, Option, Some, None, Result, Ok, Err, refl, sym, ap, subst, arith, append-nil}
use Rattle.std.proofs.lemmas.Bool.Decides.{nat_tests}
use Rattle.std.specs.Prelude.{IfOk, OnOk, OnErr}
use mathlib.Core.List.{IsPrefix}
use Rattle.cells.specs.Dense.{DenseCells}
use Rattle.history.specs.declared.array.ArrayInfo.{ArrayInfo}
use Rattle.history.specs.declared.event.Event.{Event}
use Rattle.history.specs.Commit.{Fixed}
use Rattle.history.specs.History.{History}
use Rattle.history.specs.Leaves.{Leaf}
use Rattle.history.specs.OpenRows.{next_array, given_info, new_ref}
use Rattle.history.specs.Own.{fault, opened_event, resized_event}
use Rattle.kv_face.specs.Store.{Contents}
use Rattle.session_turns.specs.Opening.{IsGivenTurn}
use Rattle.session_turns.specs.Turns.{IsTurn}
use Rattle.state_resizes.specs.Agreement.{Opening}
use Rattle.state_resizes.specs.Openings.{IsOpening, IsOpenedBy}
use Rattle.state_resizes.specs.declared.OpenError.{OpenError}
use Rattle.state_resizes.specs.declared.OpenError.TheVariants as open_error
use Rattle.state_resizes.specs.declared.Opened.{Opened}
use Rattle.state_resizes.specs.Answers.{IsAnswer}
use Rattle.state_resizes.specs.declared.error.ResizeError.{ResizeError}
use Rattle.state_resizes.specs.declared.error.ResizeError.TheVariants as error
use Rattle.transactions.specs.Turns.{owner_of, IsPast}
use Rattle.transactions.proofs.Laws.{has_turned}
use Rattle.turn_book.specs.History.{entries_of, Continues}
use Rattle.turn_book.specs.Passes.{BookView, PassView, IsIdle, with_turn, without_turn}

-- one event of an owner is its own
pub one_own : (owner : ℕ) (e : Event) → e.owner ≡ owner → entries_of owner_of owner (e ∷ []) ≡ e ∷ []
one_own owner e is = let test : (e.owner == owner) ≡ true = grind (arith, nat_tests, is) in ap (λ b. cond b (e ∷ []) []) test

-- events behind a history, which are an owner's own
pub record AreAdded (owner : ℕ) (before later : History) : Type 0 where
  pub added : History
  pub later_is : later ≡ before ++ added
  pub own : entries_of owner_of owner added ≡ added
  pub goes_on : Continues owner_of owner before later

pub none_more : (owner : ℕ) (before later : History) → later ≡ before → AreAdded owner before later
none_more owner before later same =
    let is = same ∙ sym (append-nil before) in
    record { added = []; later_is = is; own = refl; goes_on = ([], is, λ k d lt. absurd (omega (arith, lt))) }

pub one_more : (owner : ℕ) (before later : History) (e : Event) → e.owner ≡ owner → later ≡ before ++ e ∷ [] → AreAdded owner before later
one_more owner before later e mine is = record { added = e ∷ []; later_is = is; own = one_own owner e mine; goes_on = (e ∷ [], is, by) }
  where
    by : (k : ℕ) (d : Event) → k < 1 → (get_or (e ∷ []) k d).owner ≡ owner
    by zero d lt = mine
    by (suc k) d lt = absurd (omega (arith, lt))

-- what a resize adds
pub resize_adds : (fixed : Fixed) (told : Option Contents) (owner a : ℕ) (shape : List ℕ) (before later : History) (r : Result ℕ ResizeError) → IsAnswer fixed told before owner a shape r later → AreAdded owner before later
resize_adds fixed told owner a shape before later (Ok n) is = one_more owner before later (resized_event owner a shape) refl is.added
resize_adds fixed told owner a shape before later (Err (error.TooManyChunks at)) is = none_more owner before later is.same
resize_adds fixed told owner a shape before later (Err (error.NotAtomic keys)) is = none_more owner before later is.same
resize_adds fixed told owner a shape before later (Err (error.Damaged key cause)) is = none_more owner before later is.same
resize_adds fixed told owner a shape before later (Err (error.StoreFailed event)) is = one_more owner before later (fault owner is.mount) refl is.added
resize_adds fixed told owner a shape before later (Err error.Memory) is = none_more owner before later is

-- a turn that is taken and given back
pub is_turn : (book : BookView Opening) (old mid new : PassView Event Opening) (h later : History) → IsIdle book old → mid ≡ with_turn h old → new ≡ without_turn owner_of later mid → IsPrefix old.seen h
    → entries_of owner_of old.number h ≡ old.mine → (adds : AreAdded old.number h later) → IsPast book.fixed later → IsTurn book old new h adds.added
is_turn book old mid new h later idle taken given grown mine adds past = record {
  grown = grown;
  others = mine;
  later = ap (λ (p : PassView Event Opening). p.seen) given ∙ adds.later_is;
  added_own = adds.own;
  turned = has_turned book old mid new h later adds.added idle taken given grown mine adds.later_is adds.own past;
}

-- one in which nothing is added
pub turn_alone : (book : BookView Opening) (old mid new : PassView Event Opening) (h : History) → IsIdle book old → mid ≡ with_turn h old → new ≡ without_turn owner_of h mid → IsPrefix old.seen h → entries_of owner_of old.number h ≡ old.mine → IsPast book.fixed h
    → IsTurn book old new new.seen []
unfolding none_more
turn_alone book old mid new h idle taken given grown mine past =
    subst (λ b. IsTurn book old new b []) (sym (ap (λ (p : PassView Event Opening). p.seen) given)) (is_turn book old mid new h h idle taken given grown mine (none_more old.number h h refl) past)

-- what the opening of a leaf adds
pub open_adds : (told : Option Contents) (owner : ℕ) (leaf : Leaf) (before later : History) (r : Result Opened OpenError) → IsOpening told before owner leaf r later → AreAdded owner before later
open_adds told owner leaf before later (Ok opened) is = by opened.event is
  where
    by : (number : Option ℕ) → IsOpenedBy told before later owner leaf opened number → AreAdded owner before later
    by None there = none_more owner before later there.same
    by (Some event) new = one_more owner before later _ refl new.added
open_adds told owner leaf before later (Err (open_error.PathTaken path at)) is = none_more owner before later is.same
open_adds told owner leaf before later (Err (open_error.StoreFailed event)) is = one_more owner before later (fault owner leaf.mount) refl is.added
open_adds told owner leaf before later (Err (open_error.BadMeta key cause)) is = none_more owner before later is.2.same
open_adds told owner leaf before later (Err (open_error.Exists at)) is = none_more owner before later is.same
open_adds told owner leaf before later (Err (open_error.Mismatch member at)) is = none_more owner before later is.same
open_adds told owner leaf before later (Err (open_error.NotFound at)) is = none_more owner before later is.same
open_adds told owner leaf before later (Err (open_error.BadWant member)) is = none_more owner before later is.same
open_adds told owner leaf before later (Err open_error.Memory) is = none_more owner before later is

-- what the opening of an array with numbers of its own adds
pub given_adds : {E : Type 0} (owner : ℕ) (info : ArrayInfo) (before later : History) (r : Result Opened E) → OnOk r (later ≡ before ++ opened_event owner info ∷ []) → OnErr r (later ≡ before) → AreAdded owner before later
given_adds owner info before later (Ok opened) ok err = one_more owner before later (opened_event owner info) refl ok
given_adds owner info before later (Err e) ok err = none_more owner before later err

pub on_ok_map : {T E A B : Type 0} (r : Result T E) → (A → B) → OnOk r A → OnOk r B
on_ok_map (Ok x) f a = f a
on_ok_map (Err e) f a = tt

pub on_err_map : {T E A B : Type 0} (r : Result T E) → (A → B) → OnErr r A → OnErr r B
on_err_map (Ok x) f a = tt
on_err_map (Err e) f a = f a

-- such an array is opened in a turn, or none is
pub given_turn : {E : Type 0} (book : BookView Opening) (old new : PassView Event Opening) (h later : History) (numbers : DenseCells) (r : Result Opened E)
    → IfOk r (λ o. o.array ≡ new_ref h (given_info (next_array h) numbers)) → IfOk r (λ o. o.event ≡ Some (length h + 1)) → OnOk r (later ≡ h ++ opened_event old.number (given_info (next_array h) numbers) ∷ [])
    → ((adds : AreAdded old.number h later) → IsTurn book old new h adds.added) → IfOk r (IsGivenTurn book old new numbers)
unfolding one_more
given_turn book old new h later numbers (Ok opened) array event after turn =
    record { before = h; turn = turn (one_more old.number h later (opened_event old.number (given_info (next_array h) numbers)) refl after); array = array; number = event }
given_turn book old new h later numbers (Err e) array event after turn = tt

pub turn_of_none : {E : Type 0} (book : BookView Opening) (old new : PassView Event Opening) (h later : History) (r : Result Opened E) → OnErr r (later ≡ h) → new.seen ≡ later → ((adds : AreAdded old.number h later) → IsTurn book old new h adds.added)
    → OnErr r (IsTurn book old new new.seen [])
unfolding none_more
turn_of_none book old new h later (Ok opened) err seen turn = tt
turn_of_none book old new h later (Err e) err seen turn = subst (λ b. IsTurn book old new b []) (sym err ∙ sym seen) (turn (none_more old.number h later err))
