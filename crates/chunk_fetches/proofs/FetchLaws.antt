-- Chunks that were fetched, and passes from one turn to the next.
use Rattle.std.proofs.Common.{◌≡◌, ◌∙◌, inl, inr, ℕ, ◌+◌, ◌||◌, Bool, true, false, cond, List, [], ◌∷◌, ◌++◌, length, take, Result, Ok, Err, Some, refl, sym, ap, subst, arith, append_assoc, append-nil, length-append}
use Rattle.std.specs.Prelude.{IfOk, IfErr}
use Rattle.std.specs.List.{AllByRecursion, list_any}
use Rattle.std.proofs.Math.Seq.{take-append_seam}
use mathlib.Core.List.{IsPrefix}
use Rattle.history.specs.Chunks.{key_of}
use Rattle.history.specs.History.{History}
use Rattle.history.specs.declared.event.Event.{Event}
use Rattle.shared_state.specs.Agreement.{Opening}
use Rattle.transaction_cells.specs.Sites.{id_of}
use Rattle.transaction_cells.specs.declared.view_cells.Piece.{Piece}
use Rattle.chunk_fetches.specs.Kept.{IsChunkThen, chunk_at}
use Rattle.chunk_fetches.specs.Decoding.{HasDamagedAmong}
use Rattle.chunk_fetches.specs.Fetching.{IsDecodeRefusal, IsFetchError}
use Rattle.chunk_fetches.specs.Fetched.{AreFetched, AreFetchedAt, kept_from}
use Rattle.chunk_fetches.specs.Looking.{AreFresh}
use Rattle.chunk_fetches.specs.Sources.{is_new, new_pieces}
use Rattle.chunk_fetches.specs.Turns.{HasPassed, HasTurned}
use Rattle.chunk_fetches.specs.declared.error.ReadError.{ReadError}
use Rattle.chunk_fetches.specs.declared.error.ReadError.TheVariants.{View, StoreFailed, Damaged, Shrunk, Memory}
use Rattle.chunk_fetches.specs.declared.kept.Kept.{Kept}
use Rattle.chunk_fetches.specs.declared.looked.Fresh.{Fresh}
use Rattle.chunk_fetches.specs.declared.source.Source.{Source}
use Rattle.turn_book.specs.Passes.{BookView, PassView}

-- an id is that of a chunk
abbrev pub IsNamed : List ℕ → Type 0
IsNamed id = id ≡ id_of (chunk_at id)

-- chunks as they were are kept as they were
pub fetched_all : (opening : Opening) (events early more : History) (mark : ℕ) (pieces : List Piece) (fresh : List Fresh) → early ++ more ≡ events → mark ≡ length early → AllByRecursion (λ (p : Piece). IsNamed p.id) pieces → AreFresh opening early pieces fresh
    → AreFetchedAt opening events mark pieces (kept_from mark pieces fresh)
fetched_all opening events early more mark [] [] grown at names are = tt
fetched_all opening events early more mark [] (f ∷ fresh) grown at names are = absurd are
fetched_all opening events early more mark (p ∷ pieces) [] grown at names are = absurd are
fetched_all opening events early more mark (p ∷ pieces) (f ∷ fresh) grown at names are =
    let front : take mark events ≡ early = (λ i. take (at i) (sym grown i)) ∙ take-append_seam early more in
    let long = ap (λ (h : History). length h) (sym grown) ∙ length-append early more in (
      record {
        same = refl;
        at_mark = refl;
        kept = record {
          within = omega (arith, at, long);
          named = names.0;
          key = subst (λ h. key_of h (chunk_at p.id) ≡ Some f.key) (sym front) are.0.key;
          chunk = subst (λ h. IsChunkThen opening h (chunk_at p.id) f.snapshot f.bounds) (sym front) are.0.chunk;
        };
      },
      fetched_all opening events early more mark pieces fresh grown at names.1 are.1,
    )

-- nothing is to be fetched
pub none_new : (sources : List Source) (pieces : List Piece) → list_any is_new sources ≡ false → new_pieces sources pieces ≡ []
none_new [] pieces none = refl
none_new (s ∷ sources) [] none = refl
none_new (s ∷ sources) (p ∷ pieces) none = by (is_new s) none (λ h. none_new sources pieces h)
  where
    by : (b : Bool) → (b || list_any is_new sources) ≡ false → (list_any is_new sources ≡ false → new_pieces sources pieces ≡ []) → cond b (p ∷ new_pieces sources pieces) (new_pieces sources pieces) ≡ []
    by true is rest = absurd (let no_such : ⊥ = cc in no_such)
    by false is rest = rest is

pub none_fetched : (opening : Opening) (events : History) (pieces : List Piece) (fetched : List Kept) → pieces ≡ [] → fetched ≡ [] → AreFetched opening (length events) events pieces fetched
none_fetched opening events pieces fetched none nothing = record {
  mark = length events;
  since = omega arith;
  each = subst (λ (p : List Piece × List Kept). AreFetchedAt opening events (length events) p.0 p.1) (λ i. (sym none i, sym nothing i)) tt;
}

pub prefix_on : (one other more : History) → IsPrefix one other → IsPrefix other more → IsPrefix one more
prefix_on one other more first second = (first.0 ++ second.0, sym (append_assoc one first.0 second.0) ∙ ap (λ h. h ++ second.0) first.1 ∙ second.1)

pub prefix_same : (one other : History) → other ≡ one → IsPrefix one other
prefix_same one other same = ([], append-nil one ∙ sym same)

-- one turn after another
pub turned_twice : (book : BookView Opening) (old mid new : PassView Event Opening) (added : List Event) → HasTurned book old mid [] → HasTurned book mid new added → HasTurned book old new added
turned_twice book old mid new added first second = record {
  idle = second.idle;
  number = second.number ∙ first.number;
  before = prefix_on old.seen mid.seen new.seen first.before second.before;
  mine = second.mine ∙ ap (λ ms. ms ++ added) (first.mine ∙ append-nil old.mine);
  own = second.own;
  past = second.past;
}

pub passed_turned : (book : BookView Opening) (old mid new : PassView Event Opening) (added : List Event) → HasPassed book old mid [] → HasTurned book mid new added → HasTurned book old new added
passed_turned book old mid new added (inl same) second = subst (λ p. HasTurned book p new added) same second
passed_turned book old mid new added (inr first) second = turned_twice book old mid new added first second

pub passed_twice : (book : BookView Opening) (old mid new : PassView Event Opening) → HasPassed book old mid [] → HasPassed book mid new [] → HasPassed book old new []
passed_twice book old mid new first (inl same) = subst (λ p. HasPassed book old p []) (sym same) first
passed_twice book old mid new first (inr second) = inr (passed_turned book old mid new [] first second)

pub turned_passed : (book : BookView Opening) (old mid new : PassView Event Opening) → HasTurned book old mid [] → HasPassed book mid new [] → HasTurned book old new []
turned_passed book old mid new first (inl same) = subst (λ p. HasTurned book old p []) (sym same) first
turned_passed book old mid new first (inr second) = turned_twice book old mid new [] first second

-- a refusal behind a turn of looks
pub decode_refused : (book : BookView Opening) (old mid new : PassView Event Opening) (pieces : List Piece) (e : ReadError) → HasTurned book old mid [] → IsDecodeRefusal book mid new pieces e → IsFetchError book old new pieces e
decode_refused book old mid new pieces (View fault) first is = absurd is
decode_refused book old mid new pieces (StoreFailed event) first is = absurd is
decode_refused book old mid new pieces (Damaged key cause) first is = (
  subst (λ p. HasTurned book old p []) (sym is.0) first,
  subst (λ (p : PassView Event Opening). HasDamagedAmong book.fixed p.seen pieces key cause) (sym is.0) is.1,
)
decode_refused book old mid new pieces (Shrunk key now) first is = absurd is
decode_refused book old mid new pieces Memory first is = turned_passed book old mid new first is

pub if_ok_map : {T E : Type 0} {P Q : T → Type 0} (r : Result T E) → IfOk r P → ((x : T) → P x → Q x) → IfOk r Q
if_ok_map (Ok x) p f = f x p
if_ok_map (Err e) p f = tt

pub if_err_map : {T E : Type 0} {P Q : E → Type 0} (r : Result T E) → IfErr r P → ((e : E) → P e → Q e) → IfErr r Q
if_err_map (Ok x) p f = tt
if_err_map (Err e) p f = f e p

pub kept_none : (mark : ℕ) (pieces : List Piece) → kept_from mark pieces [] ≡ []
kept_none mark [] = refl
kept_none mark (p ∷ pieces) = refl
