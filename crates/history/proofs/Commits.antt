-- A commit that no conflict refuses gives a legal history, by one event or by one for each key.
use Rattle.std.proofs.Common.{◌≡◌, ℕ, ◌≤◌, List, [], ◌∷◌, ◌++◌, length, take, Bool, true, false, cond, Option, Some, None, Result, Ok, Err, refl, sym, subst, append_assoc, append-nil, length-take, arith}
use Rattle.std.specs.Prelude.{filter, IsTrue}
use Rattle.std.specs.List.{AllByRecursion}
use Rattle.stack_driver.specs.Targets.{Cell, Target}
use Rattle.stack_driver.specs.Views.{targets_of}
use Rattle.stack_driver.specs.declared.error.TargetError.{TargetError}
use Rattle.history.specs.declared.event.Op.{Op}
use Rattle.history.specs.declared.event.Op.TheVariants.{Write, Read}
use Rattle.history.specs.History.{History}
use Rattle.history.specs.Chunks.{Chunk, chunk_of}
use Rattle.history.specs.Touch.{generation_of}
use Rattle.history.specs.Writes.{Content}
use Rattle.kv_face.specs.Store.{Contents}
use Rattle.history.specs.Content.{world_after}
use Rattle.history.specs.Reads.{Marks, mark_of, first_reads}
use Rattle.history.specs.Legal.{IsLegal, IsLegalDone, IsLegalOp, HasTarget, AreReads, viewed, is_present_in}
use Rattle.history.specs.Commit.{Key, Fixed, Transaction, done, done_each, kept_ops, commit_events, stored_keys, changed_keys, are_together, is_write, HasNoConflict, read_generation}
use Rattle.history.proofs.Generations.{generation_of-le-length}
use Rattle.history.proofs.Histories.{known_after-more, IsLegal-more}
use Rattle.history.specs.Staged.{AreWithin, IsTransaction}
use Rattle.history.proofs.Longer.{mark_of-within}
use Rattle.history.proofs.Serial.{reads_are_present, IsFresh}

module _ {A : Type 0} where
  pub all_to : (P Q : A → Type 0) → ((x : A) → P x → Q x) → (xs : List A) → AllByRecursion P xs → AllByRecursion Q xs
  all_to P Q f [] all = tt
  all_to P Q f (x ∷ xs) all = (f x all.0, all_to P Q f xs all.1)

  kept : (b : Bool) (P : A → Type 0) (x : A) (xs : List A) → P x → AllByRecursion P xs → AllByRecursion P (cond b (x ∷ xs) xs)
  kept true P x xs first rest = (first, rest)
  kept false P x xs first rest = rest

  pub all_filter : (P : A → Type 0) (test : A → Bool) (xs : List A) → AllByRecursion P xs → AllByRecursion P (filter test xs)
  all_filter P test [] all = tt
  all_filter P test (x ∷ xs) all = kept (test x) P x (filter test xs) all.0 (all_filter P test xs all.1)

  pub all_both : (P Q : A → Type 0) (xs : List A) → AllByRecursion P xs → AllByRecursion Q xs → AllByRecursion (λ x. P x × Q x) xs
  all_both P Q [] p q = tt
  all_both P Q (x ∷ xs) p q = ((p.0, q.0), all_both P Q xs p.1 q.1)

pub read_generation-le-mark : (events : History) (marks : Marks) (c : Chunk) → read_generation events marks c ≤ mark_of marks c
read_generation-le-mark events marks c =
    let m = mark_of marks c in
    omega (arith, generation_of-le-length (take m events) c, length-take m events)

-- Writes alone read nothing
no_reads : (f : Content) (before ops : List Op) → AreReads f before (filter is_write ops)
no_reads f before [] = tt
no_reads f before (Write view words ∷ ops) = no_reads f (before ++ Write view words ∷ []) ops
no_reads f before (Read view words ∷ ops) = no_reads f before ops

still_there : (h : History) (owner : ℕ) (t : Transaction) (ops : List Op) (key : Option Key) (target : Result Target TargetError) → HasTarget h target → HasTarget (h ++ done owner t ops key ∷ []) target
still_there h owner t ops key (Ok target) there = subst (λ known. IsTrue (is_present_in known target.cell)) (sym (known_after-more h (done owner t ops key) target.cell.array)) there
still_there h owner t ops key (Err e) there = there

still_legal : (h : History) (owner : ℕ) (t : Transaction) (ops : List Op) (key : Option Key) (op : Op) → IsLegalOp h op → IsLegalOp (h ++ done owner t ops key ∷ []) op
still_legal h owner t ops key op legal = record {
  targets = all_to (HasTarget h) (HasTarget (h ++ done owner t ops key ∷ [])) (still_there h owner t ops key) (targets_of (viewed op)) legal.targets;
  count = legal.count;
  finite = legal.finite;
  words = legal.words;
}

pub done_legal : (start : Contents) (h : History) (owner : ℕ) (t : Transaction) (ops : List Op) (key : Option Key) → IsLegal start h → IsLegalDone start h ops → IsLegal start (h ++ done owner t ops key ∷ [])
done_legal start h owner t ops key legal ok = subst (λ (P : Type 0). P) (sym (IsLegal-more start h (done owner t ops key))) (legal, ok)

pub done_each_legal : (start : Contents) (owner : ℕ) (t : Transaction) (keys : List Key) (h : History) (ops : List Op) → IsLegal start h → IsLegalDone start h ops → IsLegal start (h ++ done_each owner t ops keys)
done_each_legal start owner t [] h ops legal ok = subst (IsLegal start) (sym (append-nil h)) legal
done_each_legal start owner t (k ∷ ks) h ops legal ok =
    let next : History = h ++ done owner t ops (Some k) ∷ [] in
    let writes : IsLegalDone start next (filter is_write ops) = record {
      each = all_to (IsLegalOp h) (IsLegalOp next) (still_legal h owner t ops (Some k)) (filter is_write ops) (all_filter (IsLegalOp h) is_write ops ok.each);
      reads = no_reads (world_after start next) [] ops;
    } in
    subst (IsLegal start) (append_assoc h (done owner t ops (Some k) ∷ []) (done_each owner t (filter is_write ops) ks))
    (done_each_legal start owner t ks next (filter is_write ops) (done_legal start h owner t ops (Some k) legal ok) writes)

fresh_at : (events : History) (t : Transaction) → AreWithin (length events) t.marks → (x : Cell) → generation_of events (chunk_of events x) ≤ read_generation events t.marks (chunk_of events x) → IsFresh events (mark_of t.marks) x
fresh_at events t within x h = record {
  within = mark_of-within (length events) t.marks (chunk_of events x) within;
  same = let m = read_generation-le-mark events t.marks (chunk_of events x) in omega (arith, h);
}

-- the Reads of a transaction without conflict are those of the world that it commits to
pub kept_reads : (start : Contents) (events : History) (t : Transaction) (b : Bool) → b ≡ t.mode.repeatable_read → IsLegal start events → IsTransaction start events t → HasNoConflict events t
    → AreReads (world_after start events) [] (cond b t.ops (filter is_write t.ops))
kept_reads start events t false is legal tx free = no_reads (world_after start events) [] t.ops
kept_reads start events t true is legal tx free =
    let cells = first_reads [] t.ops in
    let untouched = free (sym is) in
    let fresh = all_to (λ x. generation_of events (chunk_of events x) ≤ read_generation events t.marks (chunk_of events x)) (IsFresh events (mark_of t.marks)) (fresh_at events t tx.within) cells untouched in
    reads_are_present start events (mark_of t.marks) legal [] t.ops fresh tx.seen

kept_each : (events : History) (t : Transaction) (b : Bool) → AllByRecursion (IsLegalOp events) t.ops → AllByRecursion (IsLegalOp events) (cond b t.ops (filter is_write t.ops))
kept_each events t true ok = ok
kept_each events t false ok = all_filter (IsLegalOp events) is_write t.ops ok

either : (b : Bool) (start : Contents) (events xs ys : History) → IsLegal start (events ++ xs) → IsLegal start (events ++ ys) → IsLegal start (events ++ cond b xs ys)
either true start events xs ys one many = one
either false start events xs ys one many = many

-- a commit whose kept operations may follow gives a legal history, by one event or by one for each key
pub committed : (fixed : Fixed) (events : History) (owner : ℕ) (t : Transaction) → IsLegal fixed.start events → IsLegalDone fixed.start events (kept_ops t) → IsLegal fixed.start (events ++ commit_events fixed events owner t)
committed fixed events owner t legal ok =
    let one = done_legal fixed.start events owner t (kept_ops t) None legal ok in
    let many = done_each_legal fixed.start owner t (changed_keys events t.ops) events (kept_ops t) legal ok in
    either (are_together fixed.prefixes (stored_keys events t.ops)) fixed.start events _ _ one many

-- a commit without conflict, whose cells lie in the present shapes, gives a legal history
pub commit_legal : (fixed : Fixed) (events : History) (owner : ℕ) (t : Transaction) → IsLegal fixed.start events → IsTransaction fixed.start events t → HasNoConflict events t → AllByRecursion (IsLegalOp events) t.ops
    → IsLegal fixed.start (events ++ commit_events fixed events owner t)
commit_legal fixed events owner t legal tx free ok =
    committed fixed events owner t legal (record { each = kept_each events t t.mode.repeatable_read ok; reads = kept_reads fixed.start events t t.mode.repeatable_read refl legal tx free })

-- Writes alone read nothing first
pub nothing_read : (before ops : List Op) → AllByRecursion (λ op. is_write op ≡ true) ops → first_reads before ops ≡ []
nothing_read before [] all = refl
nothing_read before (Write view words ∷ ops) all = nothing_read (before ++ Write view words ∷ []) ops all.1
nothing_read before (Read view words ∷ ops) all = absurd (let clash : false ≡ true = all.0 in cc)

-- and so a transaction of Writes alone has no conflict
pub no_conflict_of_writes : (events : History) (t : Transaction) → AllByRecursion (λ op. is_write op ≡ true) t.ops → HasNoConflict events t
no_conflict_of_writes events t all asked =
    subst (AllByRecursion (λ x. generation_of events (chunk_of events x) ≤ read_generation events t.marks (chunk_of events x))) (sym (nothing_read [] t.ops all)) tt
