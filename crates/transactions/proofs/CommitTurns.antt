-- Turns of a commit, one after another.
use Rattle.std.proofs.Common.{◌≡◌, ◌∙◌, inl, inr, ℕ, List, [], ◌∷◌, ◌++◌, Option, Some, Result, Ok, Err, refl, sym, ap, subst, append-nil, append_assoc, ◌⊎◌}
use Rattle.std.specs.Prelude.{IsErrAnd}
use Rattle.std.specs.FinMap as finmap
use mathlib.Core.List.{IsPrefix}
use Rattle.commits.specs.Answers.{IsCommitRow, IsTold}
use Rattle.commits.specs.declared.prepared.Prepared.{Prepared}
use Rattle.commits.specs.declared.refused.CommitRefused.{CommitRefused}
use Rattle.commits.specs.declared.refused.CommitRefused.TheVariants as refused
use Rattle.history.specs.Commit.{Transaction}
use Rattle.history.specs.History.{History}
use Rattle.history.specs.Legal.{IsLegal}
use Rattle.history.specs.declared.event.Event.{Event}
use Rattle.kv_face.specs.Store.{Contents}
use Rattle.chunk_fetches.specs.Agreement.{Opening, Agrees}
use Rattle.chunk_fetches.specs.Log.{Log}
use Rattle.chunk_fetches.specs.Outline.{outline}
use Rattle.chunk_fetches.specs.Seen.{StoreSeen}
use Rattle.turn_book.specs.History.{entries_of}
use Rattle.turn_book.specs.Passes.{BookView, PassView, IsIdle, with_turn, without_turn}
use Rattle.transactions.specs.Committing.{HasCommitted, IsCommitTurn, IsCommittedIn, MayCommitLater}
use Rattle.chunk_fetches.specs.Turns.{owner_of, HasTurned}
use Rattle.commits.proofs.Laws.{HasAdded, told_added}
use Rattle.transactions.proofs.OwnLaws.{own_all}
use Rattle.chunk_fetches.proofs.Laws.{has_turned, past_of}

prefix_then : (xs ys zs : History) → IsPrefix xs ys → IsPrefix ys zs → IsPrefix xs zs
prefix_then xs ys zs one other = (one.0 ++ other.0, sym (append_assoc xs one.0 other.0) ∙ ap (λ h. h ++ other.0) one.1 ∙ other.1)

-- a turn without an event of its own, and then turns with some
pub turned_then : (book : BookView Opening) (old mid new : PassView Event Opening) (added : List Event) → HasTurned book old mid [] → HasTurned book mid new added → HasTurned book old new added
turned_then book old mid new added one other = record {
  idle = other.idle;
  number = other.number ∙ one.number;
  before = prefix_then old.seen mid.seen new.seen one.before other.before;
  mine = other.mine ∙ ap (λ xs. xs ++ added) (one.mine ∙ append-nil old.mine);
  own = other.own;
  past = other.past;
}

-- a turn in which nothing was asked yet, and then the commit's
pub commit_behind : (book : BookView Opening) (old mid new : PassView Event Opening) (t : Transaction) (result : Result (List ℕ) CommitRefused) → HasTurned book old mid [] → IsCommitTurn book mid new t result → IsCommitTurn book old new t result
commit_behind book old mid new t result one other = record {
  before = other.before;
  grown = prefix_then old.seen mid.seen other.before one.before other.grown;
  others = ap (λ n. entries_of owner_of n other.before) (sym one.number) ∙ other.others ∙ one.mine ∙ append-nil old.mine;
  own = other.own;
  seen = other.seen;
  turned = turned_then book old mid new other.own one other.turned;
  committed = subst (λ n. IsCommittedIn book.fixed n t other.before other.own result ⊎ ((result ≡ Err refused.Memory) × (other.own ≡ []))) one.number other.committed;
}

-- memory was wanting behind a turn in which nothing was added
pub wanting_behind : (book : BookView Opening) (old new : PassView Event Opening) (t : Transaction) → HasTurned book old new [] → IsCommitTurn book old new t (Err refused.Memory)
wanting_behind book old new t turned = record {
  before = new.seen;
  grown = turned.before;
  others = ap (λ n. entries_of owner_of n new.seen) (sym turned.number) ∙ turned.own ∙ turned.mine ∙ append-nil old.mine;
  own = [];
  seen = sym (append-nil new.seen);
  turned = turned;
  committed = inr (refl, refl);
}

-- the turn in which a transaction was committed
pub commit_turn : (book : BookView Opening) (old mid new : PassView Event Opening) (h : History) (store next : StoreSeen) (log later : Log) (t : Transaction) (p : Prepared) (result : Result (List ℕ) CommitRefused) → IsIdle book old
    → mid ≡ with_turn h old → new ≡ without_turn owner_of later.events mid → IsPrefix old.seen h → entries_of owner_of old.number h ≡ old.mine → log.events ≡ h → Agrees book.fixed store log → Agrees book.fixed next later
    → MayCommitLater book.fixed old.seen t p → IsTold old.number store next log later p result
    → ((start : Contents) → book.fixed.store.contents ≡ Some start → IsCommitRow (record { start = start; prefixes = book.fixed.store.prefixes }) old.number log.events later.events t result) → IsCommitTurn book old new t result
commit_turn book old mid new h store next log later t p result idle taken given before mine is agrees agrees_then may told row =
    let has : HasAdded old.number log.events later.events = told_added old.number store next log later p result told in
    let added : later.events ≡ h ++ has.own = has.added ∙ ap (λ g. g ++ has.own) is in
    let own = own_all old.number has.own has.are_own in
    record {
      before = h;
      grown = before;
      others = mine;
      own = has.own;
      seen = ap (λ (q : PassView Event Opening). q.seen) given ∙ added;
      turned = has_turned book old mid new h later.events has.own idle taken given before mine added own (past_of book.fixed next later agrees_then);
      committed =
          inl (record {
            store = store;
            next = next;
            log = log;
            later = later;
            prepared = p;
            agrees = agrees;
            at = is;
            added = added;
            of = may.prepared h before (subst (λ g. IsLegal finmap.empty (outline g)) is agrees.outline);
            told = told;
            row = λ start contents.
                subst (λ g. IsCommitRow (record { start = start; prefixes = book.fixed.store.prefixes }) old.number h g t result) added
                (subst (λ g. IsCommitRow (record { start = start; prefixes = book.fixed.store.prefixes }) old.number g later.events t result) is (row start contents));
          });
    }

-- what is answered where memory was wanting behind such a turn
pub wanting_answer : (book : BookView Opening) (old new : PassView Event Opening) (t : Transaction) (r : Result (List ℕ) CommitRefused) → HasTurned book old new [] → IsErrAnd r (λ e. e ≡ refused.Memory) → HasCommitted book old new t r
wanting_answer book old new t (Ok numbers) turned is = absurd is
wanting_answer book old new t (Err e) turned is = subst (λ f. HasCommitted book old new t (Err f)) (sym is) (inr (wanting_behind book old new t turned))
