-- What the answer to a leaf that isn't opened tells.
use Rattle.std.proofs.Common.{◌≡◌, ℕ, List, false, ◌⊎◌, inl, inr, Option, Some, None, refl, sym, subst}
use Rattle.std.specs.Prelude.{◌≢◌}
use Rattle.sessions.specs.declared.Body.{Body}
use Rattle.sessions.specs.declared.Body.TheVariants as body
use Rattle.array_homes.specs.declared.read.MetaCause.TheVariants as cause
use Rattle.history.specs.Answers as old
use Rattle.history.specs.Answers.{Text}
use Rattle.history.specs.Leaves.{Leaf}
use Rattle.sessions.specs.AnswerBodies.{body_of}
use Rattle.sessions.specs.Caused.{IsOpenRefusal}
use Rattle.sessions.specs.Causes.{metadata_body}
use Rattle.meta_forms.specs.declared.error.MetaError.{MetaError}
use Rattle.meta_forms.specs.declared.error.MetaError.TheVariants as meta
use Rattle.sessions.specs.OpenEvents.{openings_in, TellsOpenings}
use Rattle.session_openings.specs.Events.{IsRefusalWith}
use Rattle.sessions.specs.Opening.{open_answer, IsUnseen}
use Rattle.sessions.specs.Status.{is_ok_body}
use Rattle.sessions.specs.declared.OpenError.{OpenError}
use Rattle.sessions.specs.declared.OpenError.TheVariants as error

-- numbers that are told are the ones that are
these : (numbers events : List ℕ) → Some numbers ≡ Some events → events ≡ numbers
these numbers events is = cc

no_numbers : {A : Type 0} (events : List ℕ) → None ≡ Some events → A
no_numbers events is = absurd (let no_such : ⊥ = cc in no_such)

-- want of memory tells none
pub memory_with : (numbers : List ℕ) → IsRefusalWith numbers body.Memory
memory_with numbers = record { refused = (old.memory, refl, tt); none = refl; told = λ events is. no_numbers events is }

module _ (numbers : List ℕ) where
  metadata_with : (key : List ℕ) (why : MetaError) → IsRefusalWith numbers (metadata_body key why numbers)
  metadata_with key meta.NotJson = record { refused = (old.bad_metadata key meta.NotJson numbers, refl, tt); none = refl; told = λ events is. these numbers events is }
  metadata_with key (meta.BadMember name) = record { refused = (old.bad_metadata key (meta.BadMember name) numbers, refl, tt); none = refl; told = λ events is. these numbers events is }
  metadata_with key (meta.Unsupported name) = record { refused = (old.bad_metadata key (meta.Unsupported name) numbers, refl, tt); none = refl; told = λ events is. these numbers events is }
  metadata_with key meta.Memory = memory_with numbers

  -- each refusal but a failed call tells the line's openings
  pub unseen_with : (node : Text) (leaf : Leaf) (e : OpenError) → IsUnseen e → IsRefusalWith numbers (body_of (open_answer node leaf numbers e))
  unseen_with node leaf (error.PathTaken path at) unseen = record { refused = (open_answer node leaf numbers (error.PathTaken path at), refl, tt); none = refl; told = λ events is. these numbers events is }
  unseen_with node leaf (error.StoreFailed event) unseen = absurd unseen
  unseen_with node leaf (error.BadMeta key (cause.Zarr why)) unseen = metadata_with key why
  unseen_with node leaf (error.BadMeta key (cause.N5 why)) unseen = metadata_with key why
  unseen_with node leaf (error.Exists at) unseen = record { refused = (open_answer node leaf numbers (error.Exists at), refl, tt); none = refl; told = λ events is. these numbers events is }
  unseen_with node leaf (error.Mismatch member at) unseen = record { refused = (open_answer node leaf numbers (error.Mismatch member at), refl, tt); none = refl; told = λ events is. these numbers events is }
  unseen_with node leaf (error.NotFound at) unseen = record { refused = (open_answer node leaf numbers (error.NotFound at), refl, tt); none = refl; told = λ events is. these numbers events is }
  unseen_with node leaf (error.BadWant member) unseen = record { refused = (open_answer node leaf numbers (error.BadWant member), refl, tt); none = refl; told = λ events is. these numbers events is }
  unseen_with node leaf error.Memory unseen = memory_with numbers

-- no event tells of the refusal, or it is a failed call
pub unseen_or : (e : OpenError) → IsUnseen e ⊎ ((event : ℕ) × (e ≡ error.StoreFailed event))
unseen_or (error.PathTaken path at) = inl tt
unseen_or (error.StoreFailed event) = inr (event, refl)
unseen_or (error.BadMeta key why) = inl tt
unseen_or (error.Exists at) = inl tt
unseen_or (error.Mismatch member at) = inl tt
unseen_or (error.NotFound at) = inl tt
unseen_or (error.BadWant member) = inl tt
unseen_or error.Memory = inl tt

-- bytes that are no metadata are no conflict
pub metadata_no_conflict : (key : List ℕ) (why : MetaError) (events : List ℕ) (other : List ℕ) (was now : ℕ) → body_of (old.bad_metadata key why events) ≢ body.Conflict other was now
metadata_no_conflict key meta.NotJson events other was now = λ is. let no_such : ⊥ = cc in no_such
metadata_no_conflict key (meta.BadMember name) events other was now = λ is. let no_such : ⊥ = cc in no_such
metadata_no_conflict key (meta.Unsupported name) events other was now = λ is. let no_such : ⊥ = cc in no_such
metadata_no_conflict key meta.Memory events other was now = λ is. let no_such : ⊥ = cc in no_such

-- an answer that binds no name isn't Ok
pub unbound_not_ok : (refusal : old.Body) → IsOpenRefusal refusal → is_ok_body (body_of refusal) ≡ false
unbound_not_ok (old.bad_spec path events) is = refl
unbound_not_ok (old.refused_spec path why events) is = refl
unbound_not_ok (old.not_found at path events) is = refl
unbound_not_ok (old.exists at path events) is = refl
unbound_not_ok (old.path_taken at path events) is = refl
unbound_not_ok (old.mismatch at member path events) is = refl
unbound_not_ok (old.bad_metadata key meta.NotJson events) is = refl
unbound_not_ok (old.bad_metadata key (meta.BadMember name) events) is = refl
unbound_not_ok (old.bad_metadata key (meta.Unsupported name) events) is = refl
unbound_not_ok (old.bad_metadata key meta.Memory events) is = refl
unbound_not_ok (old.store_failed event done events) is = refl
unbound_not_ok old.memory is = refl
unbound_not_ok answer is = absurd is
