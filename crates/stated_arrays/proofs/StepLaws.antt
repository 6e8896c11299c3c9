-- The events at all numbers, one after another.
use Rattle.std.proofs.Common.{◌≡◌, ◌≢◌, ◌<◌, ◌≤◌, ℕ, ◌+◌, ◌⊎◌, inl, inr, zero, suc, List, [], ◌∷◌, ◌++◌, Bool, true, false, cond, Option, Some, None, take, take_all, take-take, drop, set, length, length-append, refl, sym, ap, subst, ◌∙◌, arith, append_assoc, eqb-true, eq-eqb}
use Rattle.std.proofs.Math.Seq.{take-append_seam}
use Rattle.cells.proofs.Laws.{less_or_not, equal_or_not}
use Rattle.std.specs.Prelude.{◌==◌, ◌||◌}
use Rattle.std.specs.List.{AllByRecursion, slice_get}
use Rattle.std.specs.FinMap as finmap
use Rattle.std.proofs.lemmas.Option.{slice_get_within}
use Rattle.std.proofs.lemmas.List.{take-append-drop}
use Rattle.history.specs.declared.event.Event.{Event}
use Rattle.history.specs.History.{History}
use Rattle.history.specs.Legal.{IsLegal}
use Rattle.history.specs.Lines.{SpecLeaf}
use Rattle.history.specs.Own as own
use Rattle.history.specs.Own.{Numbered, fault, opened_event}
use Rattle.history.proofs.Laws.{legal_more, some_inj}
use Rattle.transcript_cut.specs.StatedEvents.{IsEvent}
use Rattle.transcript_cut.specs.declared.SpecLeaf as spec
use Rattle.transcript_cut.specs.ToldNumbers.{AreRising}
use Rattle.transcript_cut.specs.ToldNumbers as numbers
use Rattle.transcript_cut.specs.Transcript.{mount}
use Rattle.transcript_cut.specs.Numbers.{all_numbers}
use Rattle.transcript_cut.specs.Numbered.{is_printed}
use Rattle.transcript_cut.specs.declared.said.Said.{Said}
use Rattle.stated_arrays.specs.Outlined.{AreOpenedBy, openings_by, undone}
use Rattle.stated_arrays.specs.Lines.{bare, IsFreshLine}
use Rattle.stated_arrays.specs.Served.{HasServed, HasServedNone, untaken}
use Rattle.stated_arrays.specs.Stating.{IsIn, IsExactTable, IsDue, with_taken, is_number, other_event, IsOutlinedLine, IsOutlineOf, numbers_taken, HaveStated}
use Rattle.stated_arrays.specs.declared.lines.OpenLine.{OpenLine}
use Rattle.stated_arrays.proofs.LeafLaws.{to_rest, from_rest, takes_number, none_takes}

-- numbers among others
pub in_front : (ns ms : List ℕ) (m : ℕ) → IsIn m ns → IsIn m (ns ++ ms)
in_front [] ms m is = absurd is
in_front (n ∷ ns) ms m (inl is) = inl is
in_front (n ∷ ns) ms m (inr is) = inr (in_front ns ms m is)

pub in_back : (ns ms : List ℕ) (m : ℕ) → IsIn m ms → IsIn m (ns ++ ms)
in_back [] ms m is = is
in_back (n ∷ ns) ms m is = inr (in_back ns ms m is)

pub in_either : (ns ms : List ℕ) (m : ℕ) → IsIn m (ns ++ ms) → IsIn m ns ⊎ IsIn m ms
in_either [] ms m is = inr is
in_either (n ∷ ns) ms m (inl is) = inl (inl is)
in_either (n ∷ ns) ms m (inr is) = elim (in_either ns ms m is) [ inl a ↦ inl (inr a) | inr b ↦ inr b ]

in_drop : (k : ℕ) (ns : List ℕ) (m : ℕ) → IsIn m (drop k ns) → IsIn m ns
in_drop zero ns m is = is
in_drop (suc k) [] m is = is
in_drop (suc k) (n ∷ ns) m is = inr (in_drop k ns m is)

pub in_printed : (ns : List ℕ) (m : ℕ) → is_printed m ns ≡ true → IsIn m ns
in_printed [] m is = let no : ⊥ = cc in absurd no
in_printed (n ∷ ns) m is = by (n == m) refl is (in_printed ns m)
  where
    by : (b : Bool) → (n == m) ≡ b → (b || is_printed m ns) ≡ true → (is_printed m ns ≡ true → IsIn m ns) → IsIn m (n ∷ ns)
    by true same printed next = inl (eqb-true n m same)
    by false other printed next = inr (next printed)

-- rising numbers
rising_tail : (n : ℕ) (ns : List ℕ) → AreRising (n ∷ ns) → AreRising ns
rising_tail n [] is = tt
rising_tail n (m ∷ ns) is = is.1

pub rising_back : (ns ms : List ℕ) → AreRising (ns ++ ms) → AreRising ms
rising_back [] ms is = is
rising_back (n ∷ ns) ms is = rising_back ns ms (rising_tail n (ns ++ ms) is)

pub rising_front : (ns ms : List ℕ) → AreRising (ns ++ ms) → AreRising ns
rising_front [] ms is = tt
rising_front (n ∷ []) ms is = tt
rising_front (n ∷ m ∷ ns) ms is = (is.0, rising_front (m ∷ ns) ms is.1)

rising_drop : (k : ℕ) (ns : List ℕ) → AreRising ns → AreRising (drop k ns)
rising_drop zero ns is = is
rising_drop (suc k) [] is = is
rising_drop (suc k) (n ∷ ns) is = rising_drop k ns (rising_tail n ns is)

-- each is above a number
abbrev pub AreAbove : ℕ → List ℕ → Type 0
AreAbove n ns = (m : ℕ) → IsIn m ns → n < m

above_tail : (n : ℕ) (ns : List ℕ) → AreRising (n ∷ ns) → AreAbove n ns
above_tail n [] is m there = absurd there
above_tail n (k ∷ ns) is m (inl same) = let low = is.0 in omega (arith, low, same)
above_tail n (k ∷ ns) is m (inr later) = let low = is.0 in let more = above_tail k ns is.1 m later in omega (arith, low, more)

-- rising numbers of which the first lies below no number of two lists lie apart
apart : (ns ms : List ℕ) (m : ℕ) → AreRising (ns ++ ms) → IsIn m ns → IsIn m ms → ⊥
apart [] ms m is one other = one
apart (n ∷ ns) ms m is (inl same) other =
    let low = above_tail n (ns ++ ms) is m (in_back ns ms m other) in
    let no : ⊥ = omega (arith, low, same) in no
apart (n ∷ ns) ms m is (inr later) other = apart ns ms m (rising_tail n (ns ++ ms) is) later other

-- all numbers above n but n + 1 are above n + 1
above_more : (n : ℕ) (ns : List ℕ) → AreAbove n ns → (IsIn (n + 1) ns → ⊥) → AreAbove (n + 1) ns
above_more n ns above never m there = by (above m there) (λ same. never (subst (λ k. IsIn k ns) same there))
  where
    by : n < m → (m ≡ n + 1 → ⊥) → n + 1 < m
    by low other = elim (less_or_not (n + 1) m) [
      | inl less ↦ less
      | inr past ↦ let same : m ≡ n + 1 = omega (arith, low, past) in absurd (other same)
    ]

-- of rising numbers above n, where the first is n + 1, or not
due_at : (ns : List ℕ) (k n : ℕ) → slice_get ns k ≡ Some n → drop k ns ≡ n ∷ drop (k + 1) ns
due_at [] k n is = let no : ⊥ = cc in absurd no
due_at (x ∷ ns) zero n is = let same : x ≡ n = cc in ap (λ y. y ∷ ns) same
due_at (x ∷ ns) (suc k) n is = let step : suc (k + 1) ≡ suc k + 1 = omega arith in due_at ns k n is ∙ ap (λ j. n ∷ drop j (x ∷ ns)) step

not_due : (ns : List ℕ) (k n : ℕ) → AreRising (drop k ns) → AreAbove n (drop k ns) → (slice_get ns k ≡ Some (n + 1) → ⊥) → IsIn (n + 1) (drop k ns) → ⊥
not_due [] zero n rising above never there = there
not_due [] (suc k) n rising above never there = there
not_due (x ∷ ns) zero n rising above never (inl same) = never (ap Some same)
not_due (x ∷ ns) zero n rising above never (inr later) =
    let low = above_tail x ns rising (n + 1) later in
    let first = above x (inl refl) in
    let no : ⊥ = omega (arith, low, first) in no
not_due (x ∷ ns) (suc k) n rising above never there = not_due ns k n rising above never there

-- events stay as others follow
pub event_last : (o : History) (e : Event) (n : ℕ) → length o ≡ n → IsEvent (o ++ e ∷ []) (n + 1) e
event_last o e n size = record { before = o; later = []; parts = refl; numbered = ap (λ k. k + 1) (sym size) }

pub event_more : (o : History) (e f : Event) (m : ℕ) → IsEvent o m e → IsEvent (o ++ f ∷ []) m e
event_more o e f m is = record {
  before = is.before;
  later = is.later ++ f ∷ [];
  parts = ap (λ h. h ++ f ∷ []) is.parts ∙ append_assoc is.before (e ∷ is.later) (f ∷ []);
  numbered = is.numbered;
}

-- the events of a longer history
pub event_front : (p o : History) (e : Event) (n m : ℕ) → take n p ≡ o → IsEvent o m e → IsEvent p m e
event_front p o e n m front is = record {
  before = is.before;
  later = is.later ++ drop n p;
  parts = sym (take-append-drop n p) ∙ ap (λ h. h ++ drop n p) (front ∙ is.parts) ∙ append_assoc is.before (e ∷ is.later) (drop n p);
  numbered = is.numbered;
}

-- the events up to a number, and the one of it
pub grows : (p o : History) (n : ℕ) (e : Event) → length o ≡ n → take n p ≡ o → IsEvent p (n + 1) e → take (n + 1) p ≡ o ++ e ∷ []
grows p o n e size front is =
    let numbered = is.numbered in
    let at : n ≡ length is.before = omega (arith, numbered) in
    let first : is.before ≡ o = sym (take-append_seam is.before (e ∷ is.later)) ∙ ap (take (length is.before)) (sym is.parts) ∙ ap (λ k. take k p) (sym at) ∙ front in
    let more : n + 1 ≡ length (is.before ++ e ∷ []) = numbered ∙ sym (length-append is.before (e ∷ [])) in
    ap (λ j. take j p) more ∙ ap (take (length (is.before ++ e ∷ []))) (is.parts ∙ sym (append_assoc is.before (e ∷ []) is.later)) ∙ take-append_seam (is.before ++ e ∷ []) is.later
    ∙ ap (λ h. h ++ e ∷ []) first

shorter : (p o : History) (n : ℕ) (e : Event) → length o ≡ n → take (n + 1) p ≡ o ++ e ∷ [] → take n p ≡ o
shorter p o n e size front =
    let low : n ≤ n + 1 = omega arith in
    sym (take-take n (n + 1) p low) ∙ ap (take n) front ∙ ap (λ k. take k (o ++ e ∷ [])) (sym size) ∙ take-append_seam o (e ∷ [])

-- an answer's events behind the first n
pub record IsLineTo (s : Said) (first line : OpenLine) (n : ℕ) (o : History) : Type 0 where
  pub above : AreAbove n (drop line.taken s.numbers.opened)
  pub left : (m : ℕ) → IsIn m s.numbers.opened → n < m → IsIn m (drop line.taken s.numbers.opened)
  pub to_left : (p : History) → take n p ≡ o → AreOpenedBy p s.line.session (bare first.rest.items) s.numbers.opened → AreOpenedBy p s.line.session (bare line.rest.items) (drop line.taken s.numbers.opened)
  pub from_left : (p : History) → take n p ≡ o → AreOpenedBy p s.line.session (bare line.rest.items) (drop line.taken s.numbers.opened) → AreOpenedBy p s.line.session (bare first.rest.items) s.numbers.opened
  pub done : (m : ℕ) → IsIn m s.numbers.done → m ≤ n → IsEvent o m (undone s.line.session)
  pub failed : (m : ℕ) → IsIn m (numbers.single s.numbers.failed) → m ≤ n → IsEvent o m (fault s.line.session mount)
  pub takings : (p : History) → take n p ≡ o → numbers_taken p (bare first.rest.items) s.numbers.opened ≡ line.takings.items ++ numbers_taken p (bare line.rest.items) (drop line.taken s.numbers.opened)

-- before the first number
pub line_first : (s : Said) (first : OpenLine) → IsFreshLine first → ((m : ℕ) → IsIn m (all_numbers s.numbers) → 0 < m) → IsLineTo s first first 0 []
line_first s first fresh positive =
    let none : drop first.taken s.numbers.opened ≡ s.numbers.opened = ap (λ k. drop k s.numbers.opened) fresh.taken in
    record {
      above = λ m there. positive m (in_front s.numbers.opened _ m (in_drop first.taken s.numbers.opened m there));
      left = λ m there low. subst (IsIn m) (sym none) there;
      to_left = λ p front all. subst (AreOpenedBy p s.line.session (bare first.rest.items)) (sym none) all;
      from_left = λ p front all. subst (AreOpenedBy p s.line.session (bare first.rest.items)) none all;
      done = λ m there low. absurd (not_zero m (positive m (in_back s.numbers.opened _ m (in_front s.numbers.done _ m there))) low);
      failed = λ m there low. absurd (not_zero m (positive m (in_back s.numbers.opened _ m (in_back s.numbers.done _ m there))) low);
      takings = λ p front. ap (numbers_taken p (bare first.rest.items)) (sym none) ∙ ap (λ ts. ts ++ numbers_taken p (bare first.rest.items) (drop first.taken s.numbers.opened)) (sym fresh.takings);
    }
  where
    not_zero : (m : ℕ) → 0 < m → m ≤ 0 → ⊥
    not_zero m low high = omega (arith, low, high)

module _ (s : Said) (first line : OpenLine) (n : ℕ) (o : History) (e : Event) (size : length o ≡ n) (is : IsLineTo s first line n o) where
  -- an event of another answer
  pub line_other : (IsIn (n + 1) (all_numbers s.numbers) → ⊥) → IsLineTo s first line (n + 1) (o ++ e ∷ [])
  line_other never =
      record {
        above = above_more n (drop line.taken s.numbers.opened) is.above (λ there. never (in_front s.numbers.opened _ (n + 1) (in_drop line.taken s.numbers.opened (n + 1) there)));
        left = λ m there low. is.left m there (omega (arith, low));
        to_left = λ p front. is.to_left p (shorter p o n e size front);
        from_left = λ p front. is.from_left p (shorter p o n e size front);
        done = λ m there low. elim (less_or_not n m) [
          | inl more ↦ let same : m ≡ n + 1 = omega (arith, low, more) in absurd (never (subst (λ k. IsIn k (all_numbers s.numbers)) same (in_back s.numbers.opened _ m (in_front s.numbers.done _ m there))))
          | inr past ↦ event_more o (undone s.line.session) e m (is.done m there past)
        ];
        failed = λ m there low. elim (less_or_not n m) [
          | inl more ↦ let same : m ≡ n + 1 = omega (arith, low, more) in absurd (never (subst (λ k. IsIn k (all_numbers s.numbers)) same (in_back s.numbers.opened _ m (in_back s.numbers.done _ m there))))
          | inr past ↦ event_more o (fault s.line.session mount) e m (is.failed m there past)
        ];
        takings = λ p front. is.takings p (shorter p o n e size front);
      }

  module _ (rising : AreRising (all_numbers s.numbers)) where
    -- a number of its own that isn't that of a new array
    pub line_behind : (IsDue s line (n + 1) → ⊥) → (IsIn (n + 1) s.numbers.done → IsEvent (o ++ e ∷ []) (n + 1) (undone s.line.session)) → (IsIn (n + 1) (numbers.single s.numbers.failed) → IsEvent (o ++ e ∷ []) (n + 1) (fault s.line.session mount))
        → IsLineTo s first line (n + 1) (o ++ e ∷ [])
    line_behind due by_done by_failed =
        record {
          above = above_more n (drop line.taken s.numbers.opened) is.above (not_due s.numbers.opened line.taken n (rising_drop line.taken s.numbers.opened (rising_front s.numbers.opened _ rising)) is.above due);
          left = λ m there low. is.left m there (omega (arith, low));
          to_left = λ p front. is.to_left p (shorter p o n e size front);
          from_left = λ p front. is.from_left p (shorter p o n e size front);
          done = λ m there low. elim (less_or_not n m) [
            | inl more ↦ let same : n + 1 ≡ m = omega (arith, low, more) in subst (λ k. IsEvent (o ++ e ∷ []) k (undone s.line.session)) same (by_done (subst (λ k. IsIn k s.numbers.done) (sym same) there))
            | inr past ↦ event_more o (undone s.line.session) e m (is.done m there past)
          ];
          failed = λ m there low. elim (less_or_not n m) [
            | inl more ↦ let same : n + 1 ≡ m = omega (arith, low, more) in subst (λ k. IsEvent (o ++ e ∷ []) k (fault s.line.session mount)) same (by_failed (subst (λ k. IsIn k (numbers.single s.numbers.failed)) (sym same) there))
            | inr past ↦ event_more o (fault s.line.session mount) e m (is.failed m there past)
          ];
          takings = λ p front. is.takings p (shorter p o n e size front);
        }

-- a number that a leaf takes
module _ (s : Said) (first line : OpenLine) (n : ℕ) (o new : History) (size : length o ≡ n) (is : IsLineTo s first line n o) (rising : AreRising (all_numbers s.numbers)) (after : OpenLine) (due : IsDue s line (n + 1))
    (served : HasServed o new s.line.session (with_taken line) after) where
  abbrev e : Event
  e = opened_event s.line.session served.new_by.info

  abbrev others : List ℕ
  others = drop (line.taken + 1) s.numbers.opened

  left : drop line.taken s.numbers.opened ≡ (n + 1) ∷ others
  left = due_at s.numbers.opened line.taken (n + 1) due

  here : IsIn (n + 1) s.numbers.opened
  here = in_drop line.taken s.numbers.opened (n + 1) (subst (IsIn (n + 1)) (sym left) (inl refl))

  behind : drop after.taken s.numbers.opened ≡ others
  behind = ap (λ k. drop k s.numbers.opened) served.taken

  not_first : (m : ℕ) → n + 1 < m → IsIn m ((n + 1) ∷ others) → IsIn m others
  not_first m low (inl same) = let no : ⊥ = omega (arith, low, same) in absurd no
  not_first m low (inr later) = later

  rising_left : AreRising ((n + 1) ∷ others)
  rising_left = subst AreRising left (rising_drop line.taken s.numbers.opened (rising_front s.numbers.opened _ rising))

  not_other : (m : ℕ) → n < m → m ≤ n + 1 → IsIn m (s.numbers.done ++ numbers.single s.numbers.failed) → ⊥
  not_other m more low there =
      let same : m ≡ n + 1 = omega (arith, more, low) in
      apart s.numbers.opened (s.numbers.done ++ numbers.single s.numbers.failed) (n + 1) rising here (subst (λ k. IsIn k (s.numbers.done ++ numbers.single s.numbers.failed)) same there)

  pub line_served : IsLineTo s first after (n + 1) (o ++ e ∷ [])
  line_served =
      record {
        above = subst (AreAbove (n + 1)) (sym behind) (above_tail (n + 1) others rising_left);
        left = λ m there low. subst (IsIn m) (sym behind) (not_first m low (subst (IsIn m) left (is.left m there (omega (arith, low)))));
        to_left = λ p front all.
            let start = shorter p o n e size front in
            let one = is.to_left p start all in
            let two = subst (AreOpenedBy p s.line.session (bare line.rest.items)) left one in
            let three = subst (λ ls. AreOpenedBy p s.line.session (bare ls) ((n + 1) ∷ others)) served.parts two in
            subst (AreOpenedBy p s.line.session (bare after.rest.items)) (sym behind)
            (to_rest p o n start s.line.session served.passed served.leaf after.rest.items others served.there served.new_by.fresh served.new_by.info served.new_by.opened three).1;
        from_left = λ p front all.
            let start = shorter p o n e size front in
            let there : IsEvent p (n + 1) e = event_front p (o ++ e ∷ []) e (n + 1) (n + 1) front (event_last o e n size) in
            let one = from_rest p o n start s.line.session served.passed served.leaf after.rest.items others served.there served.new_by.fresh served.new_by.info served.new_by.opened (there)
            (subst (AreOpenedBy p s.line.session (bare after.rest.items)) behind all) in
            let two = subst (λ ls. AreOpenedBy p s.line.session (bare ls) ((n + 1) ∷ others)) (sym served.parts) one in
            is.from_left p start (subst (AreOpenedBy p s.line.session (bare line.rest.items)) (sym left) two);
        done = λ m there low. elim (less_or_not n m) [
          | inl more ↦ absurd (not_other m more low (in_front s.numbers.done _ m there))
          | inr past ↦ event_more o (undone s.line.session) e m (is.done m there past)
        ];
        failed = λ m there low. elim (less_or_not n m) [
          | inl more ↦ absurd (not_other m more low (in_back s.numbers.done _ m there))
          | inr past ↦ event_more o (fault s.line.session mount) e m (is.failed m there past)
        ];
        takings = λ p front.
            let start = shorter p o n e size front in
            let takes = takes_number p o n start s.line.session served.passed served.leaf after.rest.items others served.there served.new_by.fresh in
            let same : length o + 1 ≡ n + 1 = ap (λ k. k + 1) size in
            let all : after.takings.items ≡ line.takings.items ++ (untaken served.passed ++ Some (n + 1) ∷ []) =
            served.takings ∙ ap (λ k. line.takings.items ++ (untaken served.passed ++ Some k ∷ [])) same in
            is.takings p start
            ∙ ap (λ ms. line.takings.items ++ numbers_taken p (bare line.rest.items) ms) left
            ∙ ap (λ ls. line.takings.items ++ numbers_taken p (bare ls) ((n + 1) ∷ others)) served.parts
            ∙ ap (λ ts. line.takings.items ++ ts) takes
            ∙ ap (λ ts. line.takings.items ++ ts) (sym (append_assoc (untaken served.passed) (Some (n + 1) ∷ []) (numbers_taken p (bare after.rest.items) others)))
            ∙ sym (append_assoc line.takings.items (untaken served.passed ++ Some (n + 1) ∷ []) (numbers_taken p (bare after.rest.items) others))
            ∙ ap (λ ts. ts ++ numbers_taken p (bare after.rest.items) others) (sym all)
            ∙ ap (λ ms. after.takings.items ++ numbers_taken p (bare after.rest.items) ms) (sym behind);
      }

-- what holds of all numbers
pub all_at : (P : ℕ → Type 0) (ns : List ℕ) (m : ℕ) → AllByRecursion P ns → IsIn m ns → P m
all_at P [] m all there = absurd there
all_at P (n ∷ ns) m all (inl same) = subst P same all.0
all_at P (n ∷ ns) m all (inr later) = all_at P ns m all.1 later

pub all_from : (P : ℕ → Type 0) (ns : List ℕ) → ((m : ℕ) → IsIn m ns → P m) → AllByRecursion P ns
all_from P [] each = tt
all_from P (n ∷ ns) each = (each n (inl refl), all_from P ns (λ m there. each m (inr there)))

none_in : (ns : List ℕ) → ((m : ℕ) → IsIn m ns → ⊥) → ns ≡ []
none_in [] none = refl
none_in (n ∷ ns) none = absurd (none n (inl refl))

-- the number of a failed call
failed_in : (failed : Option ℕ) (n : ℕ) → is_number failed n ≡ true → IsIn n (numbers.single failed)
failed_in None n is = let no : ⊥ = cc in absurd no
failed_in (Some m) n is = inl (eqb-true m n is)

in_failed : (failed : Option ℕ) (n : ℕ) → IsIn n (numbers.single failed) → is_number failed n ≡ true
in_failed None n there = absurd there
in_failed (Some m) n (inl same) = eq-eqb m n same
in_failed (Some m) n (inr none) = absurd none

clash : {b : Bool} → b ≡ true → b ≡ false → ⊥
clash one other = let no : true ≡ false = sym one ∙ other in cc

-- without numbers nothing is opened
nothing_opened : (p : History) (owner : ℕ) (leaves : List SpecLeaf) → AreOpenedBy p owner leaves []
nothing_opened p owner leaves = let none = no_openings leaves in record { numbers = ap own.numbers_of none; events = subst (AllByRecursion (λ (o : Numbered). IsEvent p o.number o.event)) (sym none) tt }
  where
    no_openings : (ls : List SpecLeaf) → openings_by p owner ls [] ≡ []
    no_openings [] = refl
    no_openings (l ∷ ls) = no_openings ls

none_taken : (p : History) (leaves : List spec.SpecLeaf) → numbers_taken p (bare leaves) [] ≡ untaken leaves
none_taken p [] = refl
none_taken p (l ∷ ls) = ap (λ ts. None ∷ ts) (none_taken p ls)

-- the same events of an outline as far as n
pub record IsStatedTo (said : List Said) (first lines : List OpenLine) (n : ℕ) (o : History) : Type 0 where
  pub size : length o ≡ n
  pub legal : IsLegal finmap.empty o
  pub count : length lines ≡ length first
  pub only : (p : History) → IsOutlineOf said first p → take n p ≡ o
  pub each : (k : ℕ) (s : Said) (l m : OpenLine) → slice_get said k ≡ Some s → slice_get first k ≡ Some l → slice_get lines k ≡ Some m → IsLineTo s l m n o

-- an item of a list
pub got : {A : Type 0} (xs : List A) (k : ℕ) → k < length xs → (x : A) × (slice_get xs k ≡ Some x)
got [] k low = let no : ⊥ = omega (arith, low) in absurd no
got (x ∷ xs) zero low = (x, refl)
got (x ∷ xs) (suc k) low = got xs k (omega (arith, low))

-- one item is put in place of another
pub got_same : {A : Type 0} (xs : List A) (k : ℕ) (x : A) → k < length xs → slice_get (set xs k x) k ≡ Some x
got_same [] k x low = let no : ⊥ = omega (arith, low) in absurd no
got_same (y ∷ xs) zero x low = refl
got_same (y ∷ xs) (suc k) x low = got_same xs k x (omega (arith, low))

pub got_other : {A : Type 0} (xs : List A) (k j : ℕ) (x : A) → j ≢ k → slice_get (set xs k x) j ≡ slice_get xs j
got_other [] k j x other = refl
got_other (y ∷ xs) zero zero x other = absurd (other refl)
got_other (y ∷ xs) zero (suc j) x other = refl
got_other (y ∷ xs) (suc k) zero x other = refl
got_other (y ∷ xs) (suc k) (suc j) x other = got_other xs k j x (λ same. other (ap suc same))

length_set : {A : Type 0} (xs : List A) (k : ℕ) (x : A) → length (set xs k x) ≡ length xs
length_set [] k x = refl
length_set (y ∷ xs) zero x = refl
length_set (y ∷ xs) (suc k) x = ap suc (length_set xs k x)

one_of : {A : Type 0} (xs : List A) (k : ℕ) (x y : A) → slice_get xs k ≡ Some x → slice_get xs k ≡ Some y → x ≡ y
one_of xs k x y is other = some_inj x y (sym is ∙ other)

-- before the first number
pub stated_first : (said : List Said) (spots : List ℕ) (first : List OpenLine) → IsExactTable said spots → AllByRecursion IsFreshLine first → IsStatedTo said first first 0 []
stated_first said spots first table fresh = record {
  size = refl;
  legal = tt;
  count = refl;
  only = λ p is. refl;
  each = λ k s l m at was now. subst (λ (x : OpenLine). IsLineTo s l x 0 []) (one_of first k l m was now) (line_first s l (fresh_at first k l fresh was) (λ j there. let found = table.only k j s at there in let same = found.1 in omega (arith, same)));
}
  where
    fresh_at : (lines : List OpenLine) (k : ℕ) (l : OpenLine) → AllByRecursion IsFreshLine lines → slice_get lines k ≡ Some l → IsFreshLine l
    fresh_at [] k l all is = let no : ⊥ = cc in absurd no
    fresh_at (x ∷ lines) zero l all is = let same : x ≡ l = cc in subst IsFreshLine same all.0
    fresh_at (x ∷ lines) (suc k) l all is = fresh_at lines k l all.1 is

module _ (said : List Said) (spots : List ℕ) (first lines : List OpenLine) (n : ℕ) (o : History) (table : IsExactTable said spots) (is : IsStatedTo said first lines n o) (k : ℕ) (s : Said) (l m : OpenLine)
    (spot : slice_get spots n ≡ Some k) (at : slice_get said k ≡ Some s) (was : slice_get first k ≡ Some l) (now : slice_get lines k ≡ Some m) where
  line_is : IsLineTo s l m n o
  line_is = is.each k s l m at was now

  printed : IsIn (n + 1) (all_numbers s.numbers)
  printed =
      let prints = table.each n k spot in
      subst (λ (x : Said). IsIn (n + 1) (all_numbers x.numbers)) (one_of said k prints.line s prints.there at) (in_printed (all_numbers prints.line.numbers) (n + 1) prints.prints)

  -- no other answer prints the number
  alone : (j : ℕ) (t : Said) → slice_get said j ≡ Some t → IsIn (n + 1) (all_numbers t.numbers) → j ≡ k
  alone j t here there =
      let found = table.only j (n + 1) t here there in
      let same : n ≡ found.0 = let number = found.1 in omega (arith, number) in
      some_inj j k (sym found.2 ∙ ap (slice_get spots) (sym same) ∙ spot)

  -- one event more, and what is kept of its line then
  pub stated_more : (e : Event) (after : OpenLine) → IsLegal finmap.empty (o ++ e ∷ []) → ((p : History) → IsOutlineOf said first p → IsEvent p (n + 1) e) → IsLineTo s l after (n + 1) (o ++ e ∷ []) → IsStatedTo said first (set lines k after) (n + 1) (o ++ e ∷ [])
  stated_more e after legal events line = record {
    size = length-append o (e ∷ []) ∙ ap (λ j. j + 1) is.size;
    legal = legal;
    count = length_set lines k after ∙ is.count;
    only = λ p outline. grows p o n e is.size (is.only p outline) (events p outline);
    each = λ j t x y here first_at last_at. elim (equal_or_not j k) [
      | inl same ↦
          let t_is : s ≡ t = one_of said k s t at (ap (slice_get said) (sym same) ∙ here) in
          let x_is : l ≡ x = one_of first k l x was (ap (slice_get first) (sym same) ∙ first_at) in
          let low : k < length lines = slice_get_within lines k m now in
          let y_is : after ≡ y = one_of (set lines k after) k after y (got_same lines k after low) (ap (slice_get (set lines k after)) (sym same) ∙ last_at) in
          subst (λ (a : Said). IsLineTo a x y (n + 1) (o ++ e ∷ [])) t_is (subst (λ (a : OpenLine). IsLineTo s a y (n + 1) (o ++ e ∷ [])) x_is (subst (λ (a : OpenLine). IsLineTo s l a (n + 1) (o ++ e ∷ [])) y_is line))
      | inr other ↦
          line_other t x y n o e is.size (is.each j t x y here first_at (sym (got_other lines k j after other) ∙ last_at)) (λ there. other (alone j t here there))
    ];
  }

  rising : AreRising (all_numbers s.numbers)
  rising = table.rising k s at

  line_of : (p : History) → IsOutlineOf said first p → IsOutlinedLine p s l
  line_of p outline = outline.each k s l at was

  -- a leaf takes the number
  pub stated_served : (new : History) (after : OpenLine) → IsDue s m (n + 1) → HasServed o new s.line.session (with_taken m) after → IsStatedTo said first (set lines k after) (n + 1) new
  stated_served new after due served =
      let e = opened_event s.line.session served.new_by.info in
      subst (IsStatedTo said first (set lines k after) (n + 1)) (sym served.new_by.events)
      (stated_more e after (legal_more finmap.empty o e is.legal served.new_by.legal)
      (λ p outline.
      let start = is.only p outline in
      let left = due_at s.numbers.opened m.taken (n + 1) due in
      let one = subst (AreOpenedBy p s.line.session (bare m.rest.items)) left (line_is.to_left p start (line_of p outline).openings) in
      let two = subst (λ ls. AreOpenedBy p s.line.session (bare ls) ((n + 1) ∷ drop (m.taken + 1) s.numbers.opened)) served.parts one in
      (to_rest p o n start s.line.session served.passed served.leaf after.rest.items (drop (m.taken + 1) s.numbers.opened) served.there served.new_by.fresh served.new_by.info served.new_by.opened two).0)
      (line_served s l m n o new is.size line_is rising after due served))

  -- no leaf takes it
  pub stated_none : IsDue s m (n + 1) → HasServedNone o (with_taken m) → (p : History) → IsOutlineOf said first p → ⊥
  stated_none due none p outline =
      let start = is.only p outline in
      let left = due_at s.numbers.opened m.taken (n + 1) due in
      let one = subst (AreOpenedBy p s.line.session (bare m.rest.items)) left (line_is.to_left p start (line_of p outline).openings) in
      let two = subst (λ ls. AreOpenedBy p s.line.session (bare ls) ((n + 1) ∷ drop (m.taken + 1) s.numbers.opened)) none.parts one in
      none_takes p o n s.line.session none.passed (drop (m.taken + 1) s.numbers.opened) is.size start outline.legal none.there none.rest none.never two

  -- another number of the answer
  not_opened : (IsDue s m (n + 1) → ⊥) → IsIn (n + 1) s.numbers.opened → ⊥
  not_opened due there =
      let low : n < n + 1 = omega arith in
      not_due s.numbers.opened m.taken n (rising_drop m.taken s.numbers.opened (rising_front s.numbers.opened _ rising)) line_is.above due (line_is.left (n + 1) there low)

  done_apart : IsIn (n + 1) s.numbers.done → IsIn (n + 1) (numbers.single s.numbers.failed) → ⊥
  done_apart = apart s.numbers.done (numbers.single s.numbers.failed) (n + 1) (rising_back s.numbers.opened _ rising)

  pub stated_other : (IsDue s m (n + 1) → ⊥) → IsStatedTo said first (set lines k m) (n + 1) (o ++ other_event s (n + 1) ∷ [])
  stated_other due = by (is_number s.numbers.failed (n + 1)) refl
    where
      by : (b : Bool) → is_number s.numbers.failed (n + 1) ≡ b → IsStatedTo said first (set lines k m) (n + 1) (o ++ cond b (fault s.line.session mount) (undone s.line.session) ∷ [])
      by true failed =
          let there : IsIn (n + 1) (numbers.single s.numbers.failed) = failed_in s.numbers.failed (n + 1) failed in
          let e = fault s.line.session mount in
          stated_more e m (legal_more finmap.empty o e is.legal tt) (λ p outline. all_at (λ j. IsEvent p j (fault s.line.session mount)) (numbers.single s.numbers.failed) (n + 1) (line_of p outline).failed there)
          (line_behind s l m n o e is.size line_is rising due (λ other. absurd (done_apart other there)) (λ other. event_last o e n is.size))
      by false failed =
          let e = undone s.line.session in
          let never : IsIn (n + 1) (numbers.single s.numbers.failed) → ⊥ = λ there. clash (in_failed s.numbers.failed (n + 1) there) failed in
          stated_more e m (legal_more finmap.empty o e is.legal tt)
          (λ p outline. elim (in_either s.numbers.opened _ (n + 1) printed) [
            | inl opened ↦ absurd (not_opened due opened)
            | inr other ↦ elim (in_either s.numbers.done _ (n + 1) other) [
              | inl done ↦ all_at (λ j. IsEvent p j (undone s.line.session)) s.numbers.done (n + 1) (line_of p outline).done done
              | inr there ↦ absurd (never there)
            ]
          ])
          (line_behind s l m n o e is.size line_is rising due (λ other. event_last o e n is.size) (λ other. absurd (never other)))

-- behind the last number
module _ (said : List Said) (spots : List ℕ) (first lines : List OpenLine) (n : ℕ) (o : History) (table : IsExactTable said spots) (is : IsStatedTo said first lines n o) (all : length spots ≡ n) where
  whole : take n o ≡ o
  whole = let size = is.size in take_all n o (omega (arith, size))

  line_at : (k : ℕ) (l : OpenLine) → slice_get first k ≡ Some l → (m : OpenLine) × (slice_get lines k ≡ Some m)
  line_at k l was = let low = slice_get_within first k l was in let count = is.count in got lines k (omega (arith, low, count))

  low_number : (k m : ℕ) (s : Said) → slice_get said k ≡ Some s → IsIn m (all_numbers s.numbers) → m ≤ n
  low_number k m s at there =
      let found = table.only k m s at there in
      let low = slice_get_within spots found.0 k found.2 in
      let number = found.1 in
      omega (arith, low, number, all)

  none_left : (k : ℕ) (s : Said) (l m : OpenLine) → slice_get said k ≡ Some s → IsLineTo s l m n o → drop m.taken s.numbers.opened ≡ []
  none_left k s l m at line =
      none_in (drop m.taken s.numbers.opened) (λ j there.
      let low = low_number k j s at (in_front s.numbers.opened _ j (in_drop m.taken s.numbers.opened j there)) in
      let high = line.above j there in
      let no : ⊥ = omega (arith, low, high) in no)

  line_outlined : (k : ℕ) (s : Said) (l m : OpenLine) → slice_get said k ≡ Some s → IsLineTo s l m n o → IsOutlinedLine o s l
  line_outlined k s l m at line = record {
    openings = line.from_left o whole (subst (AreOpenedBy o s.line.session (bare m.rest.items)) (sym (none_left k s l m at line)) (nothing_opened o s.line.session (bare m.rest.items)));
    done = all_from (λ j. IsEvent o j (undone s.line.session)) s.numbers.done (λ j there. line.done j there (low_number k j s at (in_back s.numbers.opened _ j (in_front s.numbers.done _ j there))));
    failed = all_from (λ j. IsEvent o j (fault s.line.session mount)) (numbers.single s.numbers.failed) (λ j there. line.failed j there (low_number k j s at (in_back s.numbers.opened _ j (in_back s.numbers.done _ j there))));
  }

  pub stated_all : HaveStated said first lines o
  stated_all = record {
    outline = record {
      each = λ k s l at was. let m = line_at k l was in line_outlined k s l m.0 at (is.each k s l m.0 at was m.1);
      count = is.size ∙ sym all ∙ table.count;
      legal = is.legal;
    };
    only = λ p outline. let size : length p ≤ n = (let count = outline.count in let those = table.count in omega (arith, count, those, all)) in sym (take_all n p size) ∙ is.only p outline;
    count = is.count;
    takings = λ k s l m at was now.
        let line = is.each k s l m at was now in
        line.takings o whole
        ∙ ap (λ ms. m.takings.items ++ numbers_taken o (bare m.rest.items) ms) (none_left k s l m at line)
        ∙ ap (λ ts. m.takings.items ++ ts) (none_taken o m.rest.items);
  }

-- what the tests of a number say
pub is_due : (found : Option ℕ) (n : ℕ) → is_number found n ≡ true → found ≡ Some n
is_due None n is = let no : ⊥ = cc in absurd no
is_due (Some m) n is = ap Some (eqb-true m n is)

pub not_due_by : (found : Option ℕ) (n : ℕ) → is_number found n ≡ false → found ≡ Some n → ⊥
not_due_by found n is same = clash (ap (λ o. is_number o n) same ∙ eq-eqb n n refl) is
