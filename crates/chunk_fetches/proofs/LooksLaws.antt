-- Looks one after another.
use Rattle.std.proofs.Common.{◌≡◌, ◌∙◌, inl, inr, ℕ, zero, suc, ◌+◌, ◌<◌, cond, List, [], ◌∷◌, ◌++◌, length, drop, get_or, refl, sym, ap, subst, arith, append_assoc, append-nil}
use Rattle.history.specs.History.{History}
use Rattle.shared_state.specs.Agreement.{Opening, Agrees, KeepsAgreement}
use Rattle.shared_state.specs.Fetches.{IsChunkOf}
use Rattle.shared_state.specs.Log.{Log}
use Rattle.shared_state.specs.Seen.{StoreSeen}
use Rattle.transaction_cells.specs.declared.view_cells.Piece.{Piece}
use Rattle.chunk_fetches.specs.Looking.{IsLookedAt, AreLookedAt, HasFailedAt, HasFailedAmong, AreChunks}
use Rattle.chunk_fetches.specs.Sources.{is_new, new_pieces}
use Rattle.chunk_fetches.specs.Kept.{chunk_at}
use Rattle.chunk_fetches.specs.declared.looked.Looked.{Looked}
use Rattle.chunk_fetches.specs.declared.source.Source.{Source}

-- the chunks so far have been looked at, and no event was added
pub record AreLookedUpTo (store next : StoreSeen) (log later : Log) (rest all : List Piece) (looks : List Looked) : Type 0 where
  pub kept : KeepsAgreement store log next later
  pub events : later.events ≡ log.events
  pub done : List Piece
  pub split : all ≡ done ++ rest
  pub looked : (opening : Opening) → Agrees opening store log → AreLookedAt opening log.events done looks

pub none_looked : (store : StoreSeen) (log : Log) (all : List Piece) → AreLookedUpTo store store log log all all []
none_looked store log all = record { kept = λ opening agrees. agrees; events = refl; done = []; split = refl; looked = λ opening agrees. tt }

looked_more : (opening : Opening) (events : History) (done : List Piece) (looks : List Looked) (p : Piece) (l : Looked) → AreLookedAt opening events done looks → IsLookedAt opening events (chunk_at p.id) l → AreLookedAt opening events (done ++ p ∷ []) (looks ++ l ∷ [])
looked_more opening events [] [] p l are is = (is, tt)
looked_more opening events [] (m ∷ looks) p l are is = absurd are
looked_more opening events (q ∷ done) [] p l are is = absurd are
looked_more opening events (q ∷ done) (m ∷ looks) p l are is = (are.0, looked_more opening events done looks p l are.1 is)

-- one more
pub looked_next : (store next last : StoreSeen) (log later end : Log) (rest all : List Piece) (looks : List Looked) (p : Piece) (l : Looked) → AreLookedUpTo store next log later (p ∷ rest) all looks
    → ((opening : Opening) → Agrees opening next later → IsLookedAt opening later.events (chunk_at p.id) l) → end.events ≡ later.events → KeepsAgreement next later last end
    → AreLookedUpTo store last log end rest all (looks ++ l ∷ [])
looked_next store next last log later end rest all looks p l h is events kept = record {
  kept = λ opening agrees. kept opening (h.kept opening agrees);
  events = events ∙ h.events;
  done = h.done ++ p ∷ [];
  split = h.split ∙ sym (append_assoc h.done (p ∷ []) rest);
  looked = λ opening agrees. looked_more opening log.events h.done looks p l (h.looked opening agrees) (subst (λ x. IsLookedAt opening x (chunk_at p.id) l) h.events (is opening (h.kept opening agrees)));
}

pub looked_same : (store next : StoreSeen) (log later : Log) (rest other all : List Piece) (looks : List Looked) → rest ≡ other → AreLookedUpTo store next log later rest all looks → AreLookedUpTo store next log later other all looks
looked_same store next log later rest other all looks same h = subst (λ r. AreLookedUpTo store next log later r all looks) same h

-- all of them
pub looked_all : (store next : StoreSeen) (log later : Log) (all : List Piece) (looks : List Looked) → AreLookedUpTo store next log later [] all looks → (opening : Opening) → Agrees opening store log → AreLookedAt opening log.events all looks
looked_all store next log later all looks h opening agrees = subst (λ ps. AreLookedAt opening log.events ps looks) (sym (h.split ∙ append-nil h.done)) (h.looked opening agrees)

-- the next piece is one of all
chunk_among : (events : History) (done : List Piece) (p : Piece) (rest : List Piece) → AreChunks events (done ++ p ∷ rest) → IsChunkOf events (chunk_at p.id)
chunk_among events [] p rest all = all.0
chunk_among events (q ∷ done) p rest all = chunk_among events done p rest all.1

pub chunk_next : (store next : StoreSeen) (log later : Log) (rest all : List Piece) (looks : List Looked) (p : Piece) → AreLookedUpTo store next log later (p ∷ rest) all looks → AreChunks log.events all → IsChunkOf later.events (chunk_at p.id)
chunk_next store next log later rest all looks p h chunks = subst (λ x. IsChunkOf x (chunk_at p.id)) (sym h.events) (chunk_among log.events h.done p rest (subst (AreChunks log.events) h.split chunks))

failed_among : (owner event : ℕ) (old new : History) (done : List Piece) (p : Piece) (rest : List Piece) → HasFailedAt owner (chunk_at p.id) old new event → HasFailedAmong owner (done ++ p ∷ rest) old new event
failed_among owner event old new [] p rest failed = inl failed
failed_among owner event old new (q ∷ done) p rest failed = inr (failed_among owner event old new done p rest failed)

pub failed_next : (owner event : ℕ) (store next : StoreSeen) (log later : Log) (new : History) (rest all : List Piece) (looks : List Looked) (p : Piece) → AreLookedUpTo store next log later (p ∷ rest) all looks → HasFailedAt owner (chunk_at p.id) later.events new event
    → HasFailedAmong owner all log.events new event
failed_next owner event store next log later new rest all looks p h failed =
    subst (λ ps. HasFailedAmong owner ps log.events new event) (sym h.split) (failed_among owner event log.events new h.done p rest (subst (λ x. HasFailedAt owner (chunk_at p.id) x new event) h.events failed))

-- a piece of no chunk
abbrev pub no_piece : Piece
no_piece = record { id = []; size = 0; runs = [] }

-- the pieces from one on
module _ (d : Source) (e : Piece) where
  later_by : (k : ℕ) → suc k + 1 ≡ suc (k + 1)
  later_by k = omega arith

  pub next_piece : (sources : List Source) (pieces : List Piece) (k : ℕ) → k < length sources → k < length pieces → new_pieces (drop k sources) (drop k pieces)
      ≡ cond (is_new (get_or sources k d)) (get_or pieces k e ∷ new_pieces (drop (k + 1) sources) (drop (k + 1) pieces)) (new_pieces (drop (k + 1) sources) (drop (k + 1) pieces))
  next_piece [] pieces k lt below = absurd (omega (arith, lt))
  next_piece (s ∷ sources) [] k lt below = absurd (omega (arith, below))
  next_piece (s ∷ sources) (p ∷ pieces) zero lt below = refl
  next_piece (s ∷ sources) (p ∷ pieces) (suc k) lt below =
      next_piece sources pieces k (omega (arith, lt)) (omega (arith, below))
      ∙ ap (λ n. cond (is_new (get_or sources k d)) (get_or pieces k e ∷ new_pieces (drop n (s ∷ sources)) (drop n (p ∷ pieces))) (new_pieces (drop n (s ∷ sources)) (drop n (p ∷ pieces)))) (sym (later_by k))

-- none is left behind the last
pub none_left : (n : ℕ) (sources : List Source) (pieces : List Piece) → length sources ≡ n → new_pieces (drop n sources) (drop n pieces) ≡ []
none_left zero [] pieces long = refl
none_left zero (s ∷ sources) pieces long = absurd (omega (arith, long))
none_left (suc n) [] pieces long = absurd (omega (arith, long))
none_left (suc n) (s ∷ sources) [] long = none_of (drop n sources)
  where
    none_of : (ss : List Source) → new_pieces ss [] ≡ []
    none_of [] = refl
    none_of (s ∷ ss) = refl
none_left (suc n) (s ∷ sources) (p ∷ pieces) long = none_left n sources pieces (omega (arith, long))
