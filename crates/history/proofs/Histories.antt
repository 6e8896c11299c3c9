-- A history and one event more.
use Rattle.std.proofs.Common.{◌≡◌, ℕ, ◌+◌, List, [], ◌∷◌, ◌++◌, length, reverse, take, zero, suc, add-one, Some, None, sym, ap, subst, ◌∙◌}
use Rattle.std.specs.Prelude.{if◌then◌else◌}
use Rattle.std.specs.List.{slice_get}
use Rattle.std.proofs.lemmas.List.{reverse-append, reverse-reverse}
use Rattle.kv_face.specs.Store.{Contents}
use Rattle.stack_driver.specs.Targets.{Cell}
use Rattle.history.specs.declared.event.Event.{Event}
use Rattle.history.specs.History.{History, along, after}
use Rattle.history.specs.Arrays.{known_after, known_step}
use Rattle.history.specs.Chunks.{Chunk, chunk_of}
use Rattle.history.specs.Touch.{touches, generation_of}
use Rattle.history.specs.Content.{content_after, word_by}
use Rattle.history.specs.Legal.{IsLegal, IsLegalKind}
use Rattle.history.specs.Store.{resized_after, resized_step}
use Rattle.history.specs.Counting.{store_changes, is_change}
use Rattle.history.specs.Joint.{IsJoint, IsJointKind}
use Rattle.history.specs.Plain.{PlainArrays, plain_after, plain_by, no_arrays}

-- the value after one event more is a step from the value before
pub after-more {ℓ} : {A : Type ℓ} (step : History → Event → A → A) (a : A) (events : History) (e : Event) → after step a (events ++ e ∷ []) ≡ step events e (after step a events)
after-more step a events e = ap (along step a) (reverse-append events (e ∷ [])) ∙ ap (λ before. step before e (after step a events)) (reverse-reverse events)

each_newest {ℓ} : (P : History → Type ℓ) → P [] → ((events : History) (e : Event) → P events → P (events ++ e ∷ [])) → (newest : List Event) → P (reverse newest)
each_newest P none more [] = none
each_newest P none more (e ∷ es) = subst P (sym (reverse-append (e ∷ []) es)) (more (reverse es) e (each_newest P none more es))

-- what holds of no event, and of one event more, holds of each history
pub each_history {ℓ} : (P : History → Type ℓ) → P [] → ((events : History) (e : Event) → P events → P (events ++ e ∷ [])) → (events : History) → P events
each_history P none more events = subst P (reverse-reverse events) (each_newest P none more (reverse events))

take_more_is : (events : History) (i : ℕ) (e : Event) → slice_get events i ≡ Some e → take (i + 1) events ≡ take i events ++ e ∷ []
take_more_is [] i e is = absurd (cc)
take_more_is (x ∷ xs) zero e is = let same : x ≡ e = cc in ap (λ y. y ∷ []) same
take_more_is (x ∷ xs) (suc i) e is = rw add-one (ap (λ ys. x ∷ ys) (rw add-one at (take_more_is xs i e is)))

-- the step of a loop over a history
pub after-take {ℓ} : {A : Type ℓ} (step : History → Event → A → A) (a : A) (events : History) (i : ℕ) (e : Event) → slice_get events i ≡ Some e → after step a (take (i + 1) events) ≡ step (take i events) e (after step a (take i events))
after-take step a events i e is = ap (after step a) (take_more_is events i e is) ∙ after-more step a (take i events) e

pub known_after-more : (events : History) (e : Event) (a : ℕ) → known_after (events ++ e ∷ []) a ≡ known_step a events e.kind (known_after events a)
known_after-more events e a = after-more (λ before e known. known_step a before e.kind known) None events e

pub generation_of-more : (events : History) (e : Event) (c : Chunk) → generation_of (events ++ e ∷ []) c ≡ (if touches events e c then length events + 1 else generation_of events c)
generation_of-more events e c = after-more (λ before e g. if touches before e c then length before + 1 else g) 0 events e

pub content_after-more : (start : Contents) (events : History) (e : Event) (x : Cell) → content_after start (events ++ e ∷ []) x ≡ (if touches events e (chunk_of events x) then word_by start events e.kind x (content_after start events x) else content_after start events x)
content_after-more start events e x = after-more (λ before e word. if touches before e (chunk_of before x) then word_by start before e.kind x word else word) None events e

pub IsLegal-more : (start : Contents) (events : History) (e : Event) → IsLegal start (events ++ e ∷ []) ≡ (IsLegal start events × IsLegalKind start events e.kind)
IsLegal-more start events e = after-more {A = Type 0} (λ before f legal. legal × IsLegalKind start before f.kind) (Unit {0}) events e

pub resized_after-more : (events : History) (e : Event) (a : ℕ) → resized_after (events ++ e ∷ []) a ≡ resized_step a events e.kind (resized_after events a)
resized_after-more events e a = after-more (λ before e n. resized_step a before e.kind n) 0 events e

pub store_changes-more : (start : Contents) (events : History) (e : Event) → store_changes start (events ++ e ∷ []) ≡ (if is_change start events e.kind then store_changes start events + 1 else store_changes start events)
store_changes-more start events e = after-more (λ before e n. if is_change start before e.kind then n + 1 else n) 0 events e

pub plain-more : (events : History) (e : Event) → plain_after (events ++ e ∷ []) ≡ plain_by e.kind (plain_after events)
plain-more events e = after-more {A = PlainArrays} (λ before f arrays. plain_by f.kind arrays) no_arrays events e

pub IsJoint-more : (events : History) (e : Event) → IsJoint (events ++ e ∷ []) ≡ (IsJoint events × IsJointKind e.kind)
IsJoint-more events e = after-more {A = Type 0} (λ before f joint. joint × IsJointKind f.kind) (Unit {0}) events e

pub joint_step : (events : History) (e : Event) → IsJoint (events ++ e ∷ []) → IsJoint events × IsJointKind e.kind
joint_step events e = subst (λ (P : Type 0). P) (IsJoint-more events e)

pub joint_more : (events : History) (e : Event) → IsJoint events → IsJointKind e.kind → IsJoint (events ++ e ∷ [])
joint_more events e joint next = subst (λ (P : Type 0). P) (sym (IsJoint-more events e)) (joint, next)

pub legal_step : (start : Contents) (events : History) (e : Event) → IsLegal start (events ++ e ∷ []) → IsLegal start events × IsLegalKind start events e.kind
legal_step start events e = subst (λ (P : Type 0). P) (IsLegal-more start events e)

pub legal_more : (start : Contents) (events : History) (e : Event) → IsLegal start events → IsLegalKind start events e.kind → IsLegal start (events ++ e ∷ [])
legal_more start events e legal next = subst (λ (P : Type 0). P) (sym (IsLegal-more start events e)) (legal, next)
