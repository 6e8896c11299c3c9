-- A pass, a view and a transaction behind an opening, a write and a commit.
use Rattle.std.proofs.Common.{◌≡◌, ◌≢◌, ◌∙◌, inl, inr, ℕ, ◌<◌, List, [], ◌∷◌, ◌++◌, length, codes, true, false, Option, Some, None, Result, Ok, Err, refl, sym, ap, subst, arith, eq-eqb}
use Rattle.std.specs.Prelude.{◌==◌, ◌-◌, slice_index_or, IfOk}
use Rattle.std.specs.FinMap as finmap
use Rattle.session_turns.specs.declared.CommitRefused.{CommitRefused}
use Rattle.history.specs.Commit.{Transaction}
use Rattle.history.specs.History.{History}
use Rattle.history.specs.Leaves.{Leaf}
use Rattle.history.specs.Legal.{IsLegal, IsMount}
use Rattle.history.specs.Lines.{SpecLeaf, stored}
use Rattle.history.specs.OpenRows.{AreOpened, no_leaf}
use Rattle.history.specs.Own.{numbers_of}
use Rattle.history.specs.Refs.{HasKnownRef, HasKnownRefs, IsKnownRef}
use Rattle.history.specs.Staged.{IsStaged}
use Rattle.history.specs.declared.event.Event.{Event}
use Rattle.history.specs.declared.event.Mode.{Mode}
use Rattle.history.specs.declared.event.Op.TheVariants.{Write}
use Rattle.index_transform.specs.Transforms.{DomainAndMaps}
use Rattle.kv_face.specs.Store.{takes}
use Rattle.session_turns.specs.Opening.{AreOpenedBy, IsLeafTurn}
use Rattle.session_turns.specs.Turns.{IsRested, HasPassed}
use Rattle.session_turns.proofs.Laws.{none_added, passed_of_turn, passed_alone, opens_stored, recorded_begun, recorded_written}
use Rattle.stack_driver.specs.Conditions.{IsNode, IsView}
use Rattle.stack_driver.specs.References.{Reference}
use Rattle.stack_driver.specs.declared.view.View.{View, every_made-View}
use Rattle.stack_driver.specs.declared.view.View.TheOpen.{View-F}
use Rattle.stack_driver.specs.declared.view.View.TheVariants as view
use Rattle.state_laws.specs.Agreement.{Opening, TakesMount}
use Rattle.state_laws.specs.Outline.{outline}
use Rattle.state_laws.specs.declared.opening.Opened.{Opened}
use Rattle.transaction_cells.proofs.Laws.{none_staged}
use Rattle.session_turns.specs.Committing.{HasCommitted}
use Rattle.session_turns.specs.Conditions.{IsTxnIn}
use Rattle.session_turns.specs.Recording.{IsRecorded}
use Rattle.session_turns.specs.Txn.{TxnSeen, transaction_of, marks_of}
use Rattle.bench.specs.Ready.{IsReady}
use Rattle.turn_book.specs.Passes.{AreNew, BookView, PassView, new_pass}

clear : (b : ℕ) → (b == 47) ≡ false → b ≢ 47
clear b e is = let clash : true ≡ false = sym (eq-eqb b 47 is) ∙ e in absurd (cc)

-- the store's name is one that a mount may have, and a store that tells no names takes its keys
pub memory_mount : (name : List ℕ) → name ≡ codes "memory" → IsMount name
memory_mount name is = subst IsMount (sym is) (record {
  one_part = (clear 109 refl, (clear 101 refl, (clear 109 refl, (clear 111 refl, (clear 114 refl, (clear 121 refl, tt))))));
  not_local = λ e. let head : ◌≡◌ {A = ℕ} 109 97 = cc in absurd (omega (arith, head));
})

pub takes_all : (names : Option (List (List ℕ))) (mount : List ℕ) → names ≡ None → TakesMount names mount
takes_all names mount none rest = ap (λ n. takes n (mount ++ 47 ∷ rest)) none

inside : PassView Event Opening → Option (PassView Event Opening) → PassView Event Opening
inside d None = d
inside d (Some p) = p

-- the one pass of a new book rests
pub pass_rested : (book : BookView Opening) (passes : List (PassView Event Opening)) (n : ℕ) (r : Option (PassView Event Opening)) (a : PassView Event Opening) → AreNew book passes → book.passes ≡ 1 → n ≡ 1
    → ((d : PassView Event Opening) → 0 < n → r ≡ Some (slice_index_or passes (n - 1) d)) → r ≡ Some a → IsRested book a
unfolding inside
pass_rested book passes n r a new one is value some =
    let first : a ≡ new_pass book 0 =
    ap (inside a) (sym some ∙ value a (omega (arith, is))) ∙ (ap (λ (k : ℕ). slice_index_or passes (k - 1) a) is ∙ new 0 a (omega (arith, one))) in
    subst (IsRested book) (sym first) (record { idle = ((refl, refl), refl); own = refl; past = record { outline = tt; legal = λ start told. tt } })

-- a view of one array
pub leaf_view : (r : Reference) (t : DomainAndMaps) → length t.maps ≡ length r.shape → IsView (view.Leaf r t)
leaf_view r t same = subst IsView (view.rolls-Leaf r t) (every_made-View IsNode (View-F.Leaf r t) (View-F.Leaf r t) refl same)

pub leaf_known : (events : History) (r : Reference) (t : DomainAndMaps) → IsKnownRef events r → HasKnownRefs events (view.Leaf r t)
leaf_known events r t known = subst (HasKnownRefs events) (view.rolls-Leaf r t) (every_made-View (HasKnownRef events) (View-F.Leaf r t) (View-F.Leaf r t) refl known)

-- what follows of a result
pub if_ok_map : {A E : Type 0} {P Q : A → Type 0} (r : Result A E) → IfOk r P → ((a : A) → P a → Q a) → IfOk r Q
if_ok_map (Ok a) p f = f a p
if_ok_map (Err e) p f = tt

-- behind a commit the pass rests
pub commit_passed : (book : BookView Opening) (old new : PassView Event Opening) (t : Transaction) (result : Result (List ℕ) CommitRefused) → IsRested book old → HasCommitted book old new t result → HasPassed book old new
commit_passed book old new t result rested (inl none) = subst (HasPassed book old) (sym none.0) (passed_alone book old rested)
commit_passed book old new t result rested (inr turn) = passed_of_turn book old new turn.own turn.turned

-- a transaction that is begun
pub begun : (opening : Opening) (events : History) (t : TxnSeen) (line : ℕ) (mode : Mode) → t ≡ record { line = line; mode = mode; ops = []; staged = []; kept = [] } → IsLegal finmap.empty (outline events) → IsReady opening events t
begun opening events t line mode is legal =
    let new : TxnSeen = record { line = line; mode = mode; ops = []; staged = []; kept = [] } in
    subst (IsReady opening events) (sym is)
    (record { right = record { outline = legal; known = tt; staged = none_staged events; kept = tt }; recorded = recorded_begun opening events (transaction_of new) refl refl })

-- behind a write
pub written : (opening : Opening) (events : History) (t later : TxnSeen) (v : View) (words : List ℕ) → IsView v → IsStaged (Write v words) → IsReady opening events t → IsTxnIn opening events later
    → (later.ops ≡ t.ops ++ Write v words ∷ []) × (later ≡ record t { ops = later.ops; staged = later.staged }) → IsReady opening events later
written opening events t later v words view staged ready txn wrote =
    let more : transaction_of later ≡ record (transaction_of t) { ops = t.ops ++ Write v words ∷ [] } =
    ap transaction_of wrote.1 ∙ ap (λ ops. record { line = t.line; mode = t.mode; ops = ops; marks = marks_of t.kept }) wrote.0 in
    record { right = txn; recorded = subst (IsRecorded opening events) (sym more) (recorded_written opening events (transaction_of t) v words ready.recorded view staged) }

none_opened : (book : BookView Opening) (old : PassView Event Opening) (leaf : SpecLeaf) → IsRested book old → AreOpenedBy book old old (leaf ∷ []) (leaf ∷ []) [] []
none_opened book old leaf rested = record {
  passed = passed_alone book old rested;
  count = refl;
  known = tt;
  events_are = ap numbers_of (none_added old);
  told = λ start told. (length old.seen, omega arith, subst (λ own. AreOpened start old.number old.seen (length old.seen) (leaf ∷ []) [] own (length old.seen) (leaf ∷ [])) (sym (none_added old)) no_leaf);
}

-- an array that was opened is known
pub opened_known : (book : BookView Opening) (old new : PassView Event Opening) (leaf : Leaf) (opened : Opened) → IsRested book old → IsLeafTurn book old new leaf (Ok opened) → IsKnownRef new.seen opened.array
opened_known book old new leaf opened rested turn =
    (opens_stored book old new [] leaf opened [] [] rested turn old (stored [] leaf ∷ []) [] (none_opened book old (stored [] leaf) rested)).known.0

pub opened_passed : (book : BookView Opening) (old new : PassView Event Opening) (leaf : Leaf) (opened : Opened) → IsLeafTurn book old new leaf (Ok opened) → HasPassed book old new
opened_passed book old new leaf opened turn = passed_of_turn book old new turn.added turn.turn.turned
