-- Links to the demands whose window ends at a number.
use Rattle.std.proofs.Common.{◌≡◌, ◌≢◌, ◌⊎◌, ◌∙◌, ◌<◌, ◌≤◌, inl, inr, ℕ, ◌+◌, ◌-◌, List, [], ◌∷◌, ◌++◌, length, get_or, sym, ap, subst, arith}
use Rattle.std.specs.Prelude.{set}
use Rattle.std.proofs.lemmas.List.{get_or-set_same, get_or-set_other, get_or_default, length-set, length_push}
use Rattle.cells.proofs.Laws.{equal_or_not, less_or_not}
use Rattle.event_replay.specs.Links.{AreLinked, LeadsTo}
use Rattle.event_replay.specs.declared.waiting.Waiting.{Waiting}
use Rattle.event_replay.proofs.Places.{more_at}

-- one demand more: at its number the link leads to it, at any other where it led before
same_link : (waiting : List Waiting) (few : ℕ) (w : Waiting) → few < length waiting → ((d : Waiting) → w ≡ get_or waiting few d) → LeadsTo waiting w.upto (few + 1) (few + 1)
same_link waiting few w low is = record {
  low = omega arith;
  own = λ d some. let one : few + 1 - 1 ≡ few = omega arith in ap (λ n. (get_or waiting n d).upto) one ∙ ap (λ (v : Waiting). v.upto) (sym (is d));
  none = λ i d from less. absurd (omega (arith, from, less));
}

other_link : (waiting : List Waiting) (number few link : ℕ) (w : Waiting) → ((d : Waiting) → w ≡ get_or waiting few d) → number ≢ w.upto → LeadsTo waiting number few link → LeadsTo waiting number (few + 1) link
other_link waiting number few link w is other leads = record {
  low = let low = leads.low in omega (arith, low);
  own = leads.own;
  none = λ i d from less. elim (less_or_not i few) [
    | inl under ↦ leads.none i d from under
    | inr up ↦ λ same. (let here : i ≡ few = omega (arith, less, up) in other (sym same ∙ ap (λ n. (get_or waiting n d).upto) here ∙ ap (λ (v : Waiting). v.upto) (sym (is d))))
  ];
}

-- so the links of one demand more are right
pub linked_more : (waiting : List Waiting) (few : ℕ) (last before next : List ℕ) (w : Waiting) → few < length waiting → ((d : Waiting) → w ≡ get_or waiting few d) → w.upto < length last → next ≡ set last w.upto (few + 1)
    → AreLinked waiting few last before → AreLinked waiting (few + 1) next (before ++ get_or last w.upto 0 ∷ [])
linked_more waiting few last before next w low is within set_is due = record {
  count = length_push before (get_or last w.upto 0) ∙ ap (λ n. n + 1) due.count;
  at_number = λ n less. subst (LeadsTo waiting n (few + 1)) (ap (λ (ls : List ℕ). get_or ls n 0) (sym set_is)) (by n (subst (λ m. n < m) (ap (λ (ls : List ℕ). length ls) set_is ∙ length-set last w.upto (few + 1)) less) (equal_or_not n w.upto));
  at_place = λ i d less. more_at (λ j link. LeadsTo waiting (get_or waiting j d).upto j link) before (get_or last w.upto 0) (λ j e under. subst (LeadsTo waiting (get_or waiting j d).upto j) (get_or_default before j 0 e under) (due.at_place j d (let same = due.count in omega (arith, same, under))))
      (let same = due.count in subst (λ j. LeadsTo waiting (get_or waiting j d).upto j (get_or last w.upto 0)) (sym same) (subst (λ n. LeadsTo waiting n few (get_or last w.upto 0)) (ap (λ (v : Waiting). v.upto) (is d)) (due.at_number w.upto within))) i 0 (let same = due.count in omega (arith, same, less));
}
  where
    by : (n : ℕ) → n < length last → (n ≡ w.upto) ⊎ (n ≢ w.upto) → LeadsTo waiting n (few + 1) (get_or (set last w.upto (few + 1)) n 0)
    by n less (inl same) =
        subst (λ m. LeadsTo waiting m (few + 1) (get_or (set last w.upto (few + 1)) m 0)) (sym same)
        (subst (LeadsTo waiting w.upto (few + 1)) (sym (get_or-set_same last w.upto (few + 1) 0 within)) (same_link waiting few w low is))
    by n less (inr other) = subst (LeadsTo waiting n (few + 1)) (sym (get_or-set_other last w.upto n (few + 1) 0 other)) (other_link waiting n few (get_or last n 0) w is other (due.at_number n less))

-- where the demand that a link leads to has a property, and those behind it that end at the number, so have those behind the next link
pub behind_next : (waiting : List Waiting) (P : Waiting → Type 0) (number link next : ℕ) (w : Waiting) → 0 < link → w ≡ get_or waiting (link - 1) w → P w → LeadsTo waiting number (link - 1) next
    → ((i : ℕ) (d : Waiting) → link ≤ i → i < length waiting → (get_or waiting i d).upto ≡ number → P (get_or waiting i d)) → link ≤ length waiting
    → (i : ℕ) (d : Waiting) → next ≤ i → i < length waiting → (get_or waiting i d).upto ≡ number → P (get_or waiting i d)
behind_next waiting P number link next w some is here leads behind within i d from low same =
    elim (less_or_not i (link - 1)) [
      | inl under ↦ absurd (leads.none i d from under same)
      | inr up ↦ elim (less_or_not i link) [
        | inl at ↦
            let one : link - 1 ≡ i = omega (arith, up, at, some) in
            let there : w ≡ get_or waiting i d = is ∙ ap (λ n. get_or waiting n w) one ∙ get_or_default waiting i w d low in
            subst P there here
        | inr past ↦ behind i d past low same
      ]
    ]
