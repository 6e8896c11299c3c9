-- Slots of events, filled with the spots of the answers that print their numbers.
use Rattle.std.proofs.Common.{◌≡◌, ◌<◌, ◌≤◌, ℕ, ◌+◌, zero, suc, Result, Ok, Err, IfOk, List, [], ◌∷◌, ◌++◌, Bool, true, false, cond, ◌||◌, Option, Some, None, ◌-◌, ◌≢◌, length, set, take, get_or, get_or-set_same, get_or-set_other, length-append, map, refl, sym, ap, subst, ◌∙◌, arith, append_assoc, append-nil, eqb-true, eq-eqb}
use Rattle.std.specs.Prelude.{◌==◌, Contains}
use Rattle.std.specs.List.{slice_get}
use Rattle.std.proofs.lemmas.List.{length-map, take_more, map-append}
use Rattle.transcript_cut.specs.Numbers.{all_numbers}
use Rattle.transcript_cut.specs.Numbered.{said_numbers, is_printed, PrintsAt, IsEventTable, LacksNumber, AreFilled, AreSpots, slot_after}
use Rattle.transcript_cut.specs.Slots.{AreSlots}
use Rattle.transcript_cut.specs.declared.said.Said.{Said}

or_assoc : (a b c : Bool) → (a || (b || c)) ≡ ((a || b) || c)
or_assoc true b c = refl
or_assoc false b c = refl

-- a number among those of two lists
pub printed_append : (number : ℕ) (ns ms : List ℕ) → is_printed number (ns ++ ms) ≡ (is_printed number ns || is_printed number ms)
printed_append number [] ms = refl
printed_append number (n ∷ ns) ms = ap (λ b. (n == number) || b) (printed_append number ns ms) ∙ or_assoc (n == number) (is_printed number ns) (is_printed number ms)

pub slot_append : (ns ms : List ℕ) (spot event : ℕ) (slot : Option ℕ) → slot_after (ns ++ ms) spot event slot ≡ slot_after ms spot event (slot_after ns spot event slot)
slot_append ns ms spot event slot = ap (λ b. cond b (Some spot) slot) (printed_append (event + 1) ns ms) ∙ by (is_printed (event + 1) ns) (is_printed (event + 1) ms)
  where
    by : (a b : Bool) → cond (a || b) (Some spot) slot ≡ cond b (Some spot) (cond a (Some spot) slot)
    by true true = refl
    by true false = refl
    by false b = refl

-- a number that a list contains is among it, and the other way round
pub printed_in : (numbers : List ℕ) (number : ℕ) → Contains numbers number → is_printed number numbers ≡ true
printed_in [] number (k, low, is) = absurd (let no : ⊥ = omega (arith, low) in no)
printed_in (n ∷ ns) number (zero, low, is) = ap (λ b. b || is_printed number ns) (eq-eqb n number is)
printed_in (n ∷ ns) number (suc k, low, is) = ap (λ b. (n == number) || b) (printed_in ns number (k, omega (arith, low), is)) ∙ or_true (n == number)
  where
    or_true : (a : Bool) → (a || true) ≡ true
    or_true true = refl
    or_true false = refl

pub contained : (numbers : List ℕ) (number : ℕ) → is_printed number numbers ≡ true → Contains numbers number
contained [] number is = absurd (let no : ⊥ = cc in no)
contained (n ∷ ns) number is = by (n == number) refl is (λ same. contained ns number same)
  where
    later : Contains ns number → Contains (n ∷ ns) number
    later (k, low, at) = (suc k, lt_suc k (length ns) low, at)
      where
        lt_suc : (k m : ℕ) → k < m → suc k < suc m
        lt_suc k m low = omega (arith, low)

    by : (b : Bool) → (n == number) ≡ b → (b || is_printed number ns) ≡ true → (is_printed number ns ≡ true → Contains ns number) → Contains (n ∷ ns) number
    by true own same rest = (zero, lit_first (length ns), eqb-true n number own)
      where
        lit_first : (m : ℕ) → 0 < suc m
        lit_first m = omega arith
    by false other same rest = later (rest same)

-- an answer at a spot prints what all of them print
pub printed_at : (said : List Said) (spot number : ℕ) → PrintsAt said spot number → is_printed number (said_numbers said) ≡ true
printed_at [] spot number is = absurd (let no : ⊥ = none spot is.line is.there in no)
  where
    none : (k : ℕ) (x : Said) → slice_get {X = Said} [] k ≡ Some x → ⊥
    none zero x is = cc
    none (suc k) x is = cc
printed_at (s ∷ said) zero number is =
    let same : s ≡ is.line = cc in
    printed_append number (all_numbers s.numbers) (said_numbers said) ∙ ap (λ b. b || is_printed number (said_numbers said)) (ap (λ (x : Said). is_printed number (all_numbers x.numbers)) same ∙ is.prints)
printed_at (s ∷ said) (suc spot) number is =
    printed_append number (all_numbers s.numbers) (said_numbers said) ∙ ap (λ b. is_printed number (all_numbers s.numbers) || b) (printed_at said spot number (record { line = is.line; there = is.there; prints = is.prints })) ∙ or_true (is_printed number (all_numbers s.numbers))
  where
    or_true : (a : Bool) → (a || true) ≡ true
    or_true true = refl
    or_true false = refl

pub slots_first : (slots : List (Option ℕ)) (said : List Said) → ((k : ℕ) → get_or slots k None ≡ None) → AreSlots slots said []
slots_first slots said none = record {
  filled = λ k spot low is. absurd (let both : None ≡ Some spot = sym (none k) ∙ is in let no : ⊥ = cc in no);
  empty = λ k low is. refl;
}

numbers_more : (over : List Said) (x : Said) → said_numbers (over ++ x ∷ []) ≡ said_numbers over ++ all_numbers x.numbers
numbers_more [] x = append-nil (all_numbers x.numbers)
numbers_more (y ∷ over) x = ap (λ ns. all_numbers y.numbers ++ ns) (numbers_more over x) ∙ sym (append_assoc (all_numbers y.numbers) (said_numbers over) (all_numbers x.numbers))

pub slots_more : (old new : List (Option ℕ)) (said over : List Said) (x : Said) (spot : ℕ) → length new ≡ length old
    → ((k : ℕ) → k < length old → get_or new k None ≡ slot_after (all_numbers x.numbers) spot k (get_or old k None))
    → slice_get said spot ≡ Some x → AreSlots old said over → AreSlots new said (over ++ x ∷ [])
slots_more old new said over x spot same each there are = record {
  filled = λ k p low is. filled_by k p (omega (arith, low, same)) (is_printed (k + 1) (all_numbers x.numbers)) refl (sym (each k (omega (arith, low, same))) ∙ is);
  empty = λ k low is. empty_by k (omega (arith, low, same)) (is_printed (k + 1) (all_numbers x.numbers)) refl (sym (each k (omega (arith, low, same))) ∙ is);
}
  where
    filled_by : (k p : ℕ) → k < length old → (b : Bool) → is_printed (k + 1) (all_numbers x.numbers) ≡ b → slot_after (all_numbers x.numbers) spot k (get_or old k None) ≡ Some p → PrintsAt said p (k + 1)
    filled_by k p low true own is =
        let here : Some spot ≡ Some p = sym (ap (λ b. cond b (Some spot) (get_or old k None)) own) ∙ is in
        let at : spot ≡ p = cc in
        subst (λ q. PrintsAt said q (k + 1)) at (record { line = x; there = there; prints = own })
    filled_by k p low false other is = are.filled k p low (sym (ap (λ b. cond b (Some spot) (get_or old k None)) other) ∙ is)

    empty_by : (k : ℕ) → k < length old → (b : Bool) → is_printed (k + 1) (all_numbers x.numbers) ≡ b → slot_after (all_numbers x.numbers) spot k (get_or old k None) ≡ None → is_printed (k + 1) (said_numbers (over ++ x ∷ [])) ≡ false
    empty_by k low true own is = absurd (let here : Some spot ≡ None = sym (ap (λ b. cond b (Some spot) (get_or old k None)) own) ∙ is in let no : ⊥ = cc in no)
    empty_by k low false other is =
        ap (is_printed (k + 1)) (numbers_more over x) ∙ printed_append (k + 1) (said_numbers over) (all_numbers x.numbers)
        ∙ ap (λ b. b || is_printed (k + 1) (all_numbers x.numbers)) (are.empty k low (sym (ap (λ b. cond b (Some spot) (get_or old k None)) other) ∙ is)) ∙ other

-- an item of a list
got_or_past : (spots : List ℕ) (n : ℕ) → get_or (map Some spots) n None ≡ slice_get spots n
got_or_past [] n = refl
got_or_past (p ∷ spots) zero = refl
got_or_past (p ∷ spots) (suc n) = got_or_past spots n

got_within : (spots : List ℕ) (n spot : ℕ) → slice_get spots n ≡ Some spot → n < length spots
got_within [] n spot is = absurd (let no : ⊥ = cc in no)
got_within (p ∷ spots) zero spot is = lit_first (length spots)
  where
    lit_first : (m : ℕ) → 0 < suc m
    lit_first m = omega arith
got_within (p ∷ spots) (suc n) spot is = lt_suc n (length spots) (got_within spots n spot is)
  where
    lt_suc : (k m : ℕ) → k < m → suc k < suc m
    lt_suc k m low = omega (arith, low)

got : (spots : List ℕ) (n : ℕ) → n < length spots → (spot : ℕ) × (slice_get spots n ≡ Some spot)
got [] n low = absurd (let no : ⊥ = omega (arith, low) in no)
got (p ∷ spots) zero low = (p, refl)
got (p ∷ spots) (suc n) low = got spots n (omega (arith, low))

-- where all slots are filled they are a table
pub is_table : (slots : List (Option ℕ)) (said : List Said) (spots : List ℕ) → map Some spots ≡ slots → length slots ≡ length (said_numbers said) → AreSlots slots said said → IsEventTable said spots
is_table slots said spots filled count are = record {
  count = sym (length-map spots (λ p. Some p)) ∙ ap length filled ∙ count;
  each = λ n spot is. are.filled n spot (within n spot is) (ap (λ xs. get_or xs n None) (sym filled) ∙ got_or_past spots n ∙ is);
}
  where
    within : (n spot : ℕ) → slice_get spots n ≡ Some spot → n < length slots
    within n spot is = subst (λ m. n < m) (sym (length-map spots (λ p. Some p)) ∙ ap length filled) (got_within spots n spot is)

-- and by a table the numbers are those from 1 up to their count
pub all_contained : (said : List Said) (spots : List ℕ) → IsEventTable said spots → (n : ℕ) → n < length (said_numbers said) → Contains (said_numbers said) (n + 1)
all_contained said spots is n low =
    let found = got spots n (subst (λ m. n < m) (sym is.count) low) in
    contained (said_numbers said) (n + 1) (printed_at said found.0 (n + 1) (is.each n found.0 found.1))

-- a slot that stays empty is that of a number which isn't printed
pub lacks_one : (slots : List (Option ℕ)) (said : List Said) (k : ℕ) → k < length slots → length slots ≡ length (said_numbers said) → get_or slots k None ≡ None → AreSlots slots said said → LacksNumber said
lacks_one slots said k low count none are = record { event = k; within = subst (λ m. k < m) count low; missing = are.empty k low none }

pub not_contained : (said : List Said) → LacksNumber said → ((n : ℕ) → n < length (said_numbers said) → Contains (said_numbers said) (n + 1)) → ⊥
not_contained said lacks all =
    let is : is_printed (lacks.event + 1) (said_numbers said) ≡ true = printed_in (said_numbers said) (lacks.event + 1) (all lacks.event lacks.within) in
    let both : true ≡ false = sym is ∙ lacks.missing in
    cc

-- the slot of an event behind one number more
pub slot_one : (number spot k : ℕ) (slot : Option ℕ) → slot_after (number ∷ []) spot k slot ≡ cond (number == (k + 1)) (Some spot) slot
slot_one number spot k slot = by (number == (k + 1))
  where
    by : (b : Bool) → cond (b || false) (Some spot) slot ≡ cond b (Some spot) slot
    by true = refl
    by false = refl

pub put_more : (numbers : List ℕ) (i spot k : ℕ) (slot now new : Option ℕ) → i < length numbers → now ≡ slot_after (take i numbers) spot k slot → new ≡ cond (get_or numbers i 0 == (k + 1)) (Some spot) now
    → new ≡ slot_after (take (i + 1) numbers) spot k slot
put_more numbers i spot k slot now new low was is =
    is ∙ sym (slot_one (get_or numbers i 0) spot k now) ∙ ap (slot_after (get_or numbers i 0 ∷ []) spot k) was ∙ sym (slot_append (take i numbers) (get_or numbers i 0 ∷ []) spot k slot)
    ∙ ap (λ ns. slot_after ns spot k slot) (sym (take_more numbers i 0 low))

pub put_three : (opened done : List ℕ) (failed : List ℕ) (spot k : ℕ) (slot one two new : Option ℕ) → one ≡ slot_after opened spot k slot → two ≡ slot_after done spot k one → new ≡ slot_after failed spot k two
    → new ≡ slot_after (opened ++ (done ++ failed)) spot k slot
put_three opened done failed spot k slot one two new is are then_ =
    then_ ∙ ap (slot_after failed spot k) are ∙ sym (slot_append done failed spot k one) ∙ ap (slot_after (done ++ failed) spot k) is ∙ sym (slot_append opened (done ++ failed) spot k slot)

not_both : (a b : ℕ) → a ≡ b → (a == b) ≡ false → ⊥
not_both a b is isnt = let both : true ≡ false = sym (eq-eqb a b is) ∙ isnt in cc

-- a number within the slots fills its own, and no other
pub slots_put : (slots : List (Option ℕ)) (number spot : ℕ) → 0 < number → number ≤ length slots → (k : ℕ) → k < length slots
    → get_or (set slots (number - 1) (Some spot)) k None ≡ cond (number == (k + 1)) (Some spot) (get_or slots k None)
slots_put slots number spot some within k low = by (number == (k + 1)) refl
  where
    by : (b : Bool) → (number == (k + 1)) ≡ b → get_or (set slots (number - 1) (Some spot)) k None ≡ cond b (Some spot) (get_or slots k None)
    by true own =
        let same : number ≡ k + 1 = eqb-true number (k + 1) own in
        let here : number - 1 ≡ k = omega (arith, same) in
        ap (λ j. get_or (set slots j (Some spot)) k None) here ∙ get_or-set_same slots k (Some spot) None low
    by false other =
        let apart : k ≢ number - 1 = λ same. not_both number (k + 1) (omega (arith, same, some)) other in
        get_or-set_other slots (number - 1) k (Some spot) None apart

-- one that isn't within them fills none
pub slots_left : (slots : List (Option ℕ)) (number spot : ℕ) → (0 < number → length slots < number) → (k : ℕ) → k < length slots → get_or slots k None ≡ cond (number == (k + 1)) (Some spot) (get_or slots k None)
slots_left slots number spot outside k low = by (number == (k + 1)) refl
  where
    by : (b : Bool) → (number == (k + 1)) ≡ b → get_or slots k None ≡ cond b (Some spot) (get_or slots k None)
    by true own = let same : number ≡ k + 1 = eqb-true number (k + 1) own in absurd (let past : length slots < number = outside (omega (arith, same)) in let no : ⊥ = omega (arith, past, same, low) in no)
    by false other = refl

-- the item at a spot
pub got_at : (said : List Said) (i : ℕ) (x : Said) → i < length said → x ≡ get_or said i x → slice_get said i ≡ Some x
got_at [] i x low is = absurd (let no : ⊥ = omega (arith, low) in no)
got_at (s ∷ said) zero x low is = ap (λ (y : Said). Some y) (sym is)
got_at (s ∷ said) (suc i) x low is = got_at said i x (omega (arith, low)) is

-- one answer more that is gone over
pub taken_more : (said : List Said) (i : ℕ) (x : Said) → i < length said → x ≡ get_or said i x → take (i + 1) said ≡ take i said ++ x ∷ []
taken_more said i x low is = take_more said i x low ∙ ap (λ (y : Said). take i said ++ y ∷ []) (sym is)

pub count_more : (said : List Said) (i : ℕ) (x : Said) → i < length said → x ≡ get_or said i x → length (said_numbers (take (i + 1) said)) ≡ length (said_numbers (take i said)) + length (all_numbers x.numbers)
count_more said i x low is =
    ap (λ ss. length (said_numbers ss)) (taken_more said i x low is) ∙ ap (λ (ns : List ℕ). length ns) (numbers_more (take i said) x) ∙ length-append (said_numbers (take i said)) (all_numbers x.numbers)

-- one slot more that is filled
pub filled_more : (slots : List (Option ℕ)) (spots new : List ℕ) (i spot : ℕ) → i < length slots → map Some spots ≡ take i slots → get_or slots i None ≡ Some spot → new ≡ spots ++ spot ∷ [] → map Some new ≡ take (i + 1) slots
filled_more slots spots new i spot low was here is =
    ap (λ ns. map (λ n. Some n) ns) is ∙ map-append (λ n. Some n) spots (spot ∷ []) ∙ ap (λ os. os ++ Some spot ∷ []) was ∙ ap (λ o. take i slots ++ o ∷ []) (sym here) ∙ sym (take_more slots i None low)

-- slots of which none is filled
pub none_more : (slots : List (Option ℕ)) → ((k : ℕ) → get_or slots k None ≡ None) → (k : ℕ) → get_or (slots ++ None ∷ []) k None ≡ None
none_more [] all zero = refl
none_more [] all (suc k) = refl
none_more (s ∷ slots) all zero = all zero
none_more (s ∷ slots) all (suc k) = none_more slots (λ j. all (suc j)) k

-- what the slots tell where all answers were gone over
pub spots_told : {E : Type 0} (slots : List (Option ℕ)) (said : List Said) (result : Result (Option (List ℕ)) E) → length slots ≡ length (said_numbers said) → AreSlots slots said said → IfOk result (AreFilled slots) → IfOk result (AreSpots said)
spots_told slots said (Ok (Some spots)) count are is = is_table slots said spots is count are
spots_told slots said (Ok None) count are is = lacks_one slots said is.0 is.1 count is.2 are
spots_told slots said (Err e) count are is = tt
