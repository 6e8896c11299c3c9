-- What crates above rest on.
use Rattle.std.proofs.Common.{◌≡◌, ℕ, zero, suc, ◌<◌, List, [], ◌∷◌, ◌++◌, length, Option, Some, refl, sym, subst, arith}
use Rattle.std.specs.List.{AllByRecursion, slice_get}
use Rattle.std.specs.FinMap as finmap
use Rattle.kv_face.specs.Store.{Contents}
use Rattle.history.specs.declared.event.Event.{Event}
use Rattle.history.specs.declared.event.Kind.{Kind}
use Rattle.history.specs.History.{History}
use Rattle.history.specs.Alone.{single_store, AreOnMount, IsOn}
use Rattle.history.specs.Answers.{Text, Answer}
use Rattle.history.specs.Bound.{IsWithin}
use Rattle.history.specs.Joint.{IsJointKind}
use Rattle.history.specs.Legal.{IsLegal}
use Rattle.history.specs.Own.{own_events}
use Rattle.history.specs.Store.{RepresentsHistory}
use Rattle.history.proofs.AloneMount.{IsKindOn}
use Rattle.serial_runs.specs.Runs.{Script, IsLog, AreLogs, IsRunOf, IsWholeRunOf, AreOfMount}
use Rattle.serial_runs.specs.Held.{HoldsArrays}
use Rattle.serial_runs.specs.Serial.{IsSerialSession, IsSerial, IsWholeSerial}
use Rattle.serial_runs.proofs.Commits.{AreJoint, joint_history}
use Rattle.serial_runs.proofs.Held.{holds_arrays}
use Rattle.serial_runs.proofs.Together.{AreOwn, own_on, all_on, own_joint}
use Rattle.serial_runs.proofs.Numbers.{all_of_owned}
use Rattle.serial_runs.proofs.Sessions.{session_serial}
-- what a line is refused with before anything is done
pub use Rattle.serial_runs.proofs.Refused.{IsRefusedAsked, IsFaultBody, act_of-refused, cell_refused, without_refused}
-- a run is one over every store that starts alike and by whose prefixes the same keys go together
pub use Rattle.serial_runs.proofs.Alike.{run_alike}
-- each conflict of a run is with another session, over whatever store
pub use Rattle.serial_runs.proofs.Foreign.{logs_foreign}

-- the item at a place below the length
got : {A : Type 0} (xs : List A) (k : ℕ) → k < length xs → (x : A) × (slice_get xs k ≡ Some x)
got [] k low = absurd (omega (arith, low))
got (x ∷ xs) zero low = (x, refl)
got (x ∷ xs) (suc k) low = got xs k (omega (arith, low))

-- what holds of all items holds of the one at a place
among : {A : Type 0} (P : A → Type 0) (xs : List A) (k : ℕ) (x : A) → AllByRecursion P xs → slice_get xs k ≡ Some x → P x
among P [] k x all is = absurd (cc)
among P (y ∷ ys) zero x all is = let same : y ≡ x = cc in subst P same all.0
among P (y ∷ ys) (suc k) x all is = among P ys k x all.1 is

front_of : {A : Type 0} (P : A → Type 0) (all xs ys : List A) → all ≡ xs ++ ys → AllByRecursion P all → AllByRecursion P xs
front_of P all xs ys parts each = first xs (subst (AllByRecursion P) parts each)
  where
    first : (zs : List _) → AllByRecursion P (zs ++ ys) → AllByRecursion P zs
    first [] each = tt
    first (z ∷ zs) each = (each.0, first zs each.1)

module _ (mount : Text) (scripts : List Script) (history : History) (logs : List (List Answer)) (good : AreOfMount mount scripts) (run : AreLogs (single_store mount) history scripts logs) where
  -- what holds of the events of each session's run holds of all events
  of_sessions : (Q : Kind → Type 0) → ((k : ℕ) (script : Script) (log : List Answer) → AllByRecursion (IsOn mount) script → AllByRecursion IsWithin script → IsLog (single_store mount) history k script log → AreOwn Q (own_events k 1 history))
      → AllByRecursion (λ (e : Event). Q e.kind) history
  of_sessions Q each =
      all_of_owned Q (length scripts) 1 history run.owners
      (λ k low.
      let script = got scripts k low in
      let log = got logs k (subst (λ n. k < n) (sym run.count) low) in
      each k script.0 log.0 (among (AllByRecursion (IsOn mount)) scripts k script.0 good.on_mount script.1) (among (AllByRecursion IsWithin) scripts k script.0 good.within script.1) (run.each k script.0 log.0 script.1 log.1))

  module _ (legal : IsLegal finmap.empty history) where
    arrays_on : AreOnMount mount history
    arrays_on =
        all_on mount history
        (of_sessions (IsKindOn mount)
        (λ k script log on within is. own_on mount k history legal (front_of (IsOn mount) script is.ran is.left is.parts on) (front_of IsWithin script is.ran is.left is.parts within) is.run is.no_more))

    commits_joint : AreJoint history
    commits_joint =
        of_sessions IsJointKind
        (λ k script log on within is. own_joint mount k history legal arrays_on (front_of (IsOn mount) script is.ran is.left is.parts on) (front_of IsWithin script is.ran is.left is.parts within) is.run is.no_more)

  -- the log of each session shows serial transactions; the history being legal, this needs nothing of the store
  pub serial_session : IsLegal finmap.empty history → (k : ℕ) (script : Script) (log : List Answer) → slice_get scripts k ≡ Some script → slice_get logs k ≡ Some log → IsSerialSession history k script log
  serial_session legal k script log is are =
      session_serial mount k history legal (commits_joint legal) (arrays_on legal) script log (among (AllByRecursion (IsOn mount)) scripts k script good.on_mount is) (among (AllByRecursion IsWithin) scripts k script good.within is) (run.each k script log is are)

  -- a store that represents the history holds exactly the plain arrays
  pub store_holds : (store : Contents) → IsLegal finmap.empty history → RepresentsHistory store finmap.empty history → HoldsArrays store history
  store_holds store legal represents = holds_arrays store history legal (joint_history history (commits_joint legal)) represents

-- serial transactions: what a run hands back over one mount, whose store starts empty and makes all changes of a commit together
pub serial : (mount : Text) (scripts : List Script) (history : History) (logs : List (List Answer)) (store : Contents) (changes changes_now : Option ℕ) → AreOfMount mount scripts → IsRunOf (single_store mount) scripts history logs (Some store) changes changes_now
    → IsSerial scripts history logs store
serial mount scripts history logs store changes changes_now good run =
    let legal = run.consistent.legal in
    record {
      sessions = serial_session mount scripts history logs good run.sessions legal;
      count = run.sessions.count;
      owners = run.sessions.owners;
      store_is = store_holds mount scripts history logs good run.sessions store legal (run.consistent.represents store refl);
    }

-- and where each session was given all lines of its script, every line that isn't blank has its answer, but behind want of memory
pub serial_whole : (mount : Text) (scripts : List Script) (history : History) (logs : List (List Answer)) (store : Contents) (changes changes_now : Option ℕ) → AreOfMount mount scripts → IsWholeRunOf (single_store mount) scripts history logs (Some store) changes changes_now
    → IsWholeSerial scripts history logs store
serial_whole mount scripts history logs store changes changes_now good run = record { serial = serial mount scripts history logs store changes changes_now good run.run; whole = run.whole }
