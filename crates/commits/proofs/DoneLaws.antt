-- A commit by keys, as far as it was made.
use Rattle.std.proofs.Common.{◌≡◌, ℕ, suc, ◌+◌, ◌<◌, ◌≤◌, List, [], ◌∷◌, ◌++◌, length, take, Bool, true, false, cond, Result, Ok, Err, Some, refl, sym, ap, subst, ◌∙◌, arith}
use Rattle.std.specs.Prelude.{filter}
use Rattle.std.specs.Str.{bytes_eq}
use Rattle.std.specs.Result.{IsErr, IsErrAnd}
use Rattle.std.proofs.lemmas.List.{append_assoc, append-nil, length-append}
use Rattle.std.proofs.lemmas.Map.Keys.{IsDistinct-tail}
use Rattle.kv_face.specs.Store.{Contents}
use Rattle.history.specs.declared.event.Event.{Event}
use Rattle.history.specs.declared.event.Mode.{Mode}
use Rattle.history.specs.declared.event.Op.{Op}
use Rattle.history.specs.History.{History}
use Rattle.history.specs.Commit.{is_write}
use Rattle.history.specs.Own.{numbered, numbers_of}
use Rattle.chunk_plans.specs.declared.ChangeError.{ChangeError}
use Rattle.chunk_plans.specs.declared.ChangeError.TheVariants as change
use Rattle.chunk_plans.specs.Agreement.{Opening, Agrees}
use Rattle.chunk_plans.specs.Log.{Log}
use Rattle.chunk_plans.specs.Seen.{StoreSeen}
use Rattle.chunk_plans.specs.declared.plan.Planned.{Planned}
use Rattle.commits.specs.Plans.{keys_of}
use Rattle.commits.specs.declared.refused.CommitRefused.{CommitRefused}
use Rattle.commits.specs.declared.refused.CommitRefused.TheVariants as refused
use Rattle.commits.specs.Keyed.{AreNumbered, AreKeyPlans, AreRightKeys, IsMadeEach, KeepsByKey, key_event}
use Rattle.commits.specs.Planning.{HasFailedFor, IsAmongOn}
use Rattle.commits.specs.Refused.{unmade}
use Rattle.commits.proofs.EachLaws.{first_right, key_known, key_plans_longer, rest_right}

-- the events so far are the first of all, with their numbers; the others are left
pub record IsDoneSoFar (first now : History) (all left : List Event) (numbers : List ℕ) : Type 0 where
  pub done : List Event
  pub parts : all ≡ done ++ left
  pub added : now ≡ first ++ done
  pub counted : numbers ≡ numbers_of (numbered (length first + 1) done)

pub done_none : (first : History) (all : List Event) → IsDoneSoFar first first all all []
done_none first all = record { done = []; parts = refl; added = sym (append-nil first); counted = refl }

numbered_more : (n : ℕ) (es : List Event) (e : Event) → numbers_of (numbered n (es ++ e ∷ [])) ≡ numbers_of (numbered n es) ++ (n + length es) ∷ []
numbered_more n [] e = ap (λ m. m ∷ []) (zero_more n)
  where
    zero_more : (n : ℕ) → n ≡ n + 0
    zero_more n = omega arith
numbered_more n (f ∷ es) e = ap (λ ns. n ∷ ns) (numbered_more (n + 1) es e ∙ ap (λ m. numbers_of (numbered (n + 1) es) ++ m ∷ []) (one_more n (length es)))
  where
    one_more : (n m : ℕ) → n + 1 + m ≡ n + suc m
    one_more n m = omega arith

pub done_one : (first now next : History) (all left : List Event) (numbers more : List ℕ) (e : Event) (n : ℕ) → IsDoneSoFar first now all (e ∷ left) numbers → next ≡ now ++ e ∷ [] → n ≡ length now + 1 → more ≡ numbers ++ n ∷ [] → IsDoneSoFar first next all left more
done_one first now next all left numbers more e n is added number grown = record {
  done = is.done ++ e ∷ [];
  parts = is.parts ∙ sym (append_assoc is.done (e ∷ []) left);
  added = added ∙ ap (λ h. h ++ e ∷ []) is.added ∙ append_assoc first is.done (e ∷ []);
  counted = grown ∙ ap (λ ns. ns ++ n ∷ []) is.counted ∙ ap (λ m. numbers_of (numbered (length first + 1) is.done) ++ m ∷ []) (number ∙ ap (λ h. length h + 1) is.added ∙ place) ∙ sym (numbered_more (length first + 1) is.done e);
}
  where
    place : length (first ++ is.done) + 1 ≡ length first + 1 + length is.done
    place = let long = length-append first is.done in omega (arith, long)

take_front : (xs ys : List Event) → take (length xs) (xs ++ ys) ≡ xs
take_front [] [] = refl
take_front [] (y ∷ ys) = refl
take_front (x ∷ xs) ys = ap (λ zs. x ∷ zs) (take_front xs ys)

module _ (owner : ℕ) (arrays : List ℕ) (store middle next : StoreSeen) (first now later : History) (all : List Event) (e : Event) (left : List Event) (numbers : List ℕ) (is : IsDoneSoFar first now all (e ∷ left) numbers) where
  fewer : length is.done < length all
  fewer = let long = ap length is.parts ∙ length-append is.done (e ∷ left) in omega (arith, long)

  front : take (length is.done) all ≡ is.done
  front = ap (take (length is.done)) is.parts ∙ take_front is.done (e ∷ left)

  now_is : now ≡ first ++ take (length is.done) all
  now_is = is.added ∙ ap (λ es. first ++ es) (sym front)

  -- memory is wanting before the next
  pub wanting_then : later ≡ now → IsMadeEach owner arrays store next first later all (Err refused.Memory)
  wanting_then same = record { count = length is.done; fewer = fewer; added = same ∙ now_is }

  -- the next isn't made
  pub unmade_then : (array : ℕ) (error : ChangeError) → store.faults ≤ middle.faults → ((h : History) (mount : List ℕ) → IsAmongOn h (array ∷ []) mount → IsAmongOn h arrays mount)
      → ((event : ℕ) → error ≡ change.StoreFailed event → HasFailedFor owner (array ∷ []) middle next now later event) → (error ≡ change.Memory → later ≡ now) → IsMadeEach owner arrays store next first later all (Err (unmade numbers error))
  unmade_then array (change.StoreFailed event) low among failed memory =
      let there = failed event refl in
      record {
        count = length is.done;
        fewer = fewer;
        counted = is.counted ∙ ap (λ es. numbers_of (numbered (length first + 1) es)) (sym front);
        failed =
            subst (λ h. HasFailedFor owner arrays store next h later event) now_is
            (record { mount = there.mount; among = among now there.mount there.among; rose = let rose = there.rose in omega (arith, rose, low); added = there.added; number = there.number });
      }
  unmade_then array change.Memory low among failed memory = wanting_then (memory refl)

-- all were made
pub all_done : (owner : ℕ) (arrays : List ℕ) (store next : StoreSeen) (first now : History) (all : List Event) (numbers : List ℕ) → IsDoneSoFar first now all [] numbers → IsMadeEach owner arrays store next first now all (Ok numbers)
all_done owner arrays store next first now all numbers is =
    let same : all ≡ is.done = is.parts ∙ append-nil is.done in
    (is.added ∙ ap (λ es. first ++ es) (sym same), is.counted ∙ ap (λ es. numbers_of (numbered (length first + 1) es)) (sym same))

-- the writes among writes are all of them
pub writes_twice : (ops : List Op) → filter is_write (filter is_write ops) ≡ filter is_write ops
writes_twice [] = refl
writes_twice (op ∷ ops) = by (is_write op) refl (writes_twice ops)
  where
    by : (b : Bool) → is_write op ≡ b → filter is_write (filter is_write ops) ≡ filter is_write ops → filter is_write (cond b (op ∷ filter is_write ops) (filter is_write ops)) ≡ cond b (op ∷ filter is_write ops) (filter is_write ops)
    by true is rest = ap (λ b. cond b (op ∷ filter is_write (filter is_write ops)) (filter is_write (filter is_write ops))) is ∙ ap (λ os. op ∷ os) rest
    by false is rest = rest

-- the plans that are left
pub plans_left : (owner line : ℕ) (mode : Mode) (ops : List Op) (now next : History) (p : Planned) (ps : List Planned) → next ≡ now ++ key_event owner line mode ops p.key ∷ [] → AreKeyPlans now (p ∷ ps) → AreKeyPlans next ps
plans_left owner line mode ops now next p ps added are =
    subst (λ h. AreKeyPlans h ps) (sym added)
    (record { each = key_plans_longer now (key_event owner line mode ops p.key) (key_known owner line mode ops p.key now) ps are.each.1; numbered = subst (λ n. AreNumbered n ps) next_number are.numbered.1; distinct = IsDistinct-tail bytes_eq p.key (keys_of ps) are.distinct })
  where
    next_number : length now + 1 + 1 ≡ length (now ++ key_event owner line mode ops p.key ∷ []) + 1
    next_number = let long = length-append now (key_event owner line mode ops p.key ∷ []) in omega (arith, long)

-- what is agreed so far, with what is left to be right
abbrev pub KeepsSoFar : StoreSeen → Log → ℕ → ℕ → Mode → List Op → List Planned → StoreSeen → Log → List Op → List Planned → Type 0
KeepsSoFar store log owner line mode ops plans middle now now_ops left =
    (opening : Opening) → Agrees opening store log → ((start : Contents) → opening.store.contents ≡ Some start → AreRightKeys start owner line mode log.events ops plans)
    → Agrees opening middle now × ((start : Contents) → opening.store.contents ≡ Some start → AreRightKeys start owner line mode now.events now_ops left)

pub keeps_one : (store : StoreSeen) (log : Log) (owner line : ℕ) (mode : Mode) (ops : List Op) (plans : List Planned) (middle : StoreSeen) (now : Log) (now_ops next_ops : List Op) (p : Planned) (ps : List Planned) (next : StoreSeen) (later : Log) → AreKeyPlans now.events (p ∷ ps)
    → next_ops ≡ filter is_write now_ops → later.events ≡ now.events ++ key_event owner line mode now_ops p.key ∷ [] → KeepsByKey middle now owner line mode now_ops p next later
    → KeepsSoFar store log owner line mode ops plans middle now now_ops (p ∷ ps) → KeepsSoFar store log owner line mode ops plans next later next_ops ps
keeps_one store log owner line mode ops plans middle now now_ops next_ops p ps next later are writes added one so_far = λ opening agrees right.
    let there = so_far opening agrees right in (
      one opening there.0 (λ start told. first_right start owner line mode now now_ops p ps are.each (there.1 start told)),
      λ start told.
          subst (λ h. AreRightKeys start owner line mode h next_ops ps) (sym added)
          (subst (λ os. AreRightKeys start owner line mode (now.events ++ key_event owner line mode now_ops p.key ∷ []) os ps) (sym writes) (rest_right start owner line mode now.events now_ops p ps are.distinct (there.1 start told))),
    )

-- memory is wanting before the first
pub none_each : (owner : ℕ) (arrays : List ℕ) (store next : StoreSeen) (events : History) (all : List Event) (result : Result (List ℕ) CommitRefused) → 0 < length all → IsErr result × IsErrAnd result (λ e. e ≡ refused.Memory) → IsMadeEach owner arrays store next events events all result
none_each owner arrays store next events all (Ok numbers) some is = absurd is.1
none_each owner arrays store next events all (Err error) some is =
    subst (λ e. IsMadeEach owner arrays store next events events all (Err e)) (sym is.1) (record { count = 0; fewer = some; added = sym (append-nil events) })

pub keys_of_length : (ps : List Planned) → length (keys_of ps) ≡ length ps
keys_of_length [] = refl
keys_of_length (p ∷ ps) = ap suc (keys_of_length ps)
