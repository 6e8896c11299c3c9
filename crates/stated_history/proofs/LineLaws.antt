-- A walk over the lines, behind each of them.
use Rattle.std.proofs.Common.{◌≡◌, ◌≢◌, ◌∙◌, ◌<◌, ◌≤◌, ℕ, ◌+◌, ◌⊎◌, zero, suc, List, [], ◌∷◌, ◌++◌, Bool, true, false, cond, length, map, take, Option, Some, inl, inr, refl, sym, ap, subst, arith, append_assoc, append-nil, eqb-true, eq-eqb}
use Rattle.std.specs.Prelude.{◌==◌}
use Rattle.std.specs.List.{AllByRecursion, slice_get}
use Rattle.std.proofs.lemmas.List.Sums.{fold-append}
use Rattle.std.proofs.lemmas.List.Elements.{filter-append}
use Rattle.cells.proofs.Laws.{true_or_false}
use Rattle.history.specs.History.{History}
use Rattle.stated_acts.specs.Script.{is_blank, lines_of}
use Rattle.stated_acts.specs.Cuttings.{IsWholeCut}
use Rattle.stated_acts.specs.Openings.{AreTakenBy, numbers_told}
use Rattle.stated_acts.specs.Outlined.{IsOutlinedBy, AreOutlinedBy}
use Rattle.stated_acts.specs.Said.{IsSaid, AreSaid}
use Rattle.stated_acts.specs.Spans.{line_at}
use Rattle.stated_acts.specs.Stances.{stance}
use Rattle.stated_acts.specs.ToldStandings.{first_standing, standing, standing_step}
use Rattle.stated_acts.specs.ToldNumbers.{told_of}
use Rattle.stated_acts.specs.Transcript.{ScriptLine, lines_from, lines_of_scripts, Told, IsToldOf, AreToldOf}
use Rattle.stated_acts.specs.Unchecked.{is_unchecked, AreChecked}
use Rattle.stated_acts.specs.declared.Said.{Said}
use Rattle.stated_acts.specs.Standings.{standing_of}
use Rattle.stated_history.specs.Walks.{standing_before, HasItsNumbers, IsWalked, AreWalked, HaveTheirNumbers, IsBehind, AreInOrder}
use Rattle.stated_history.specs.declared.putting.Commit.{Commit}
use Rattle.stated_history.specs.declared.walk.Walk.{Walk}

-- an item, and the items before it with it
pub take_got : {A : Type 0} (xs : List A) (k : ℕ) (x : A) → slice_get xs k ≡ Some x → take (suc k) xs ≡ take k xs ++ x ∷ []
take_got [] k x is = absurd (cc)
take_got (y ∷ xs) zero x is = let same : y ≡ x = cc in ap (λ z. z ∷ []) same
take_got (y ∷ xs) (suc k) x is = ap (λ ys. y ∷ ys) (take_got xs k x is)

pub got_low : {A : Type 0} (xs : List A) (k : ℕ) → k < length xs → (x : A) × (slice_get xs k ≡ Some x)
got_low [] k low = absurd (omega (arith, low))
got_low (x ∷ xs) zero low = (x, refl)
got_low (x ∷ xs) (suc k) low = got_low xs k (omega (arith, low))

pub each_at : {A : Type 0} (P : A → Type 0) (xs : List A) (k : ℕ) (x : A) → AllByRecursion P xs → slice_get xs k ≡ Some x → P x
each_at P [] k x all is = absurd (cc)
each_at P (y ∷ xs) zero x all is = let same : y ≡ x = cc in subst P same all.0
each_at P (y ∷ xs) (suc k) x all is = each_at P xs k x all.1 is

pub map_got : {A B : Type 0} (f : A → B) (xs : List A) (k : ℕ) (x : A) → slice_get xs k ≡ Some x → slice_get (map f xs) k ≡ Some (f x)
map_got f [] k x is = absurd (cc)
map_got f (y ∷ xs) zero x is = let same : y ≡ x = cc in ap (λ z. Some (f z)) same
map_got f (y ∷ xs) (suc k) x is = map_got f xs k x is

-- what is told of a line is told of what is kept of it
pub told_at : (scripts : List (List ℕ)) (transcript : List ℕ) (said : List Said) (told : List Told) (k : ℕ) (s : Said) (t : Told) → AreSaid scripts transcript said told → slice_get said k ≡ Some s → slice_get told k ≡ Some t → IsSaid scripts transcript s t
told_at scripts transcript [] told k s t are at there = absurd (cc)
told_at scripts transcript (r ∷ said) [] k s t are at there = absurd are
told_at scripts transcript (r ∷ said) (u ∷ told) zero s t are at there =
    let one : r ≡ s = cc in
    let two : u ≡ t = cc in
    subst (λ (p : Said × Told). IsSaid scripts transcript p.0 p.1) (λ i. (one i, two i)) are.0
told_at scripts transcript (r ∷ said) (u ∷ told) (suc k) s t are at there = told_at scripts transcript said told k s t are.1 at there

-- and of its line
pub line_told : (lines : List ScriptLine) (told : List Told) (k : ℕ) (l : ScriptLine) (t : Told) → AreToldOf lines told → slice_get lines k ≡ Some l → slice_get told k ≡ Some t → IsToldOf l t
line_told [] told k l t are at there = absurd (cc)
line_told (m ∷ lines) [] k l t are at there = absurd are
line_told (m ∷ lines) (u ∷ told) zero l t are at there =
    let one : m ≡ l = cc in
    let two : u ≡ t = cc in
    subst (λ (p : ScriptLine × Told). IsToldOf p.0 p.1) (λ i. (one i, two i)) are.0
line_told (m ∷ lines) (u ∷ told) (suc k) l t are at there = line_told lines told k l t are.1 at there

pub line_got : (scripts : List (List ℕ)) (transcript : List ℕ) (said : List Said) (k : ℕ) (s : Said) → IsWholeCut scripts transcript said → slice_get said k ≡ Some s → slice_get (lines_of_scripts 0 scripts) k ≡ Some (line_at scripts s.line)
line_got scripts transcript said k s cut at = ap (λ ls. slice_get ls k) (sym cut.lines) ∙ map_got (λ (r : Said). line_at scripts r.line) said k s at

-- a line is checked
pub checked_at : (scripts : List (List ℕ)) (transcript : List ℕ) (said : List Said) (k : ℕ) (s : Said) → IsWholeCut scripts transcript said → AreChecked scripts → slice_get said k ≡ Some s → is_unchecked (line_at scripts s.line) ≡ false
checked_at scripts transcript said k s cut checked at = each_at (λ l. is_unchecked l ≡ false) (lines_of_scripts 0 scripts) k (line_at scripts s.line) checked (line_got scripts transcript said k s cut at)

-- the outline at a line
pub outlined_at : (h : History) (earlier told : List Told) (k : ℕ) (t : Told) → AreOutlinedBy h earlier told → slice_get told k ≡ Some t → IsOutlinedBy h (stance (told_of t.session (earlier ++ take k told))) t
outlined_at h earlier [] k t are is = absurd (cc)
outlined_at h earlier (u ∷ told) zero t are is =
    let same : u ≡ t = cc in
    subst (λ (v : Told). IsOutlinedBy h (stance (told_of v.session (earlier ++ []))) v) same (subst (λ e. IsOutlinedBy h (stance (told_of u.session e)) u) (sym (append-nil earlier)) are.0)
outlined_at h earlier (u ∷ told) (suc k) t are is =
    subst (λ e. IsOutlinedBy h (stance (told_of t.session e)) t) (append_assoc earlier (u ∷ []) (take k told)) (outlined_at h (earlier ++ u ∷ []) told k t are.1 is)

-- and the numbers that its leaves take
pub taken_at : (h : History) (earlier told : List Told) (all : List (List (Option ℕ))) (k : ℕ) (t : Told) → AreTakenBy h earlier told all → slice_get told k ≡ Some t → slice_get all k ≡ Some (numbers_told h (earlier ++ take k told) t)
taken_at h earlier [] all k t are is = absurd (cc)
taken_at h earlier (u ∷ told) [] k t are is = absurd are
taken_at h earlier (u ∷ told) (ns ∷ all) zero t are is =
    let same : u ≡ t = cc in
    ap Some (are.0 ∙ ap (λ e. numbers_told h e u) (sym (append-nil earlier)) ∙ ap (numbers_told h (earlier ++ [])) same)
taken_at h earlier (u ∷ told) (ns ∷ all) (suc k) t are is =
    taken_at h (earlier ++ u ∷ []) told all k t are.1 is ∙ ap (λ e. Some (numbers_told h e t)) (append_assoc earlier (u ∷ []) (take k told))

module _ (h : History) where
  -- one line more
  pub walked_more : (earlier told : List Told) (t : Told) (cs : List (Option Commit)) (c : Option Commit) → AreWalked h earlier told cs → IsWalked h (standing_before h (earlier ++ told) t) t c → AreWalked h earlier (told ++ t ∷ []) (cs ++ c ∷ [])
  walked_more earlier [] t [] c are is = (subst (λ e. IsWalked h (standing_before h e t) t c) (append-nil earlier) is, tt)
  walked_more earlier [] t (d ∷ cs) c are is = absurd are
  walked_more earlier (u ∷ told) t [] c are is = absurd are
  walked_more earlier (u ∷ told) t (d ∷ cs) c are is =
      (are.0, walked_more (earlier ++ u ∷ []) told t cs c are.1 (subst (λ e. IsWalked h (standing_before h e t) t c) (sym (append_assoc earlier (u ∷ []) told)) is))

  pub numbers_at : (earlier told : List Told) (k : ℕ) (t : Told) → HaveTheirNumbers h earlier told → slice_get told k ≡ Some t → HasItsNumbers h (standing_before h (earlier ++ take k told) t) t
  numbers_at earlier [] k t all is = absurd (cc)
  numbers_at earlier (u ∷ told) zero t all is =
      let same : u ≡ t = cc in
      subst (λ (v : Told). HasItsNumbers h (standing_before h (earlier ++ []) v) v) same (subst (λ e. HasItsNumbers h (standing_before h e u) u) (sym (append-nil earlier)) all.0)
  numbers_at earlier (u ∷ told) (suc k) t all is =
      subst (λ e. HasItsNumbers h (standing_before h e t) t) (append_assoc earlier (u ∷ []) (take k told)) (numbers_at (earlier ++ u ∷ []) told k t all.1 is)

  -- nothing is told of a later session
  none_told : (m session : ℕ) (earlier : List Told) → AllByRecursion (λ (t : Told). t.session ≤ m) earlier → m < session → told_of session earlier ≡ []
  none_told m session [] low over = refl
  none_told m session (t ∷ earlier) low over = by (t.session == session) refl (none_told m session earlier low.1 over)
    where
      by : (b : Bool) → (t.session == session) ≡ b → told_of session earlier ≡ [] → cond b (t ∷ told_of session earlier) (told_of session earlier) ≡ []
      by true is none = let same = eqb-true t.session session is in let first = low.0 in absurd (omega (arith, same, first, over))
      by false is none = none

  -- the walk, once it was turned to a line's session
  pub turned : (earlier : List Told) (t : Told) (w v : Walk) → IsBehind h earlier w → w.session ≤ t.session → v.session ≡ t.session → (w.session ≡ t.session → v.standing ≡ w.standing) → (w.session ≢ t.session → standing_of v.standing ≡ first_standing)
      → standing_of v.standing ≡ standing_before h earlier t
  turned earlier t w v is order at same first = by (true_or_false (w.session == t.session))
    where
      by : ((w.session == t.session) ≡ true) ⊎ ((w.session == t.session) ≡ false) → standing_of v.standing ≡ standing_before h earlier t
      by (inl own) =
          let one = eqb-true w.session t.session own in
          ap standing_of (same one) ∙ is.stands ∙ ap (λ s. standing h (told_of s earlier)) one
      by (inr other) =
          let apart : w.session ≢ t.session = λ one. (let yes : true ≡ false = sym (eq-eqb w.session t.session one) ∙ other in cc) in
          first apart ∙ ap (standing h) (sym (none_told w.session t.session earlier is.before (omega (arith, order, apart))))

  pub standing_more : (told : List Told) (t : Told) → standing h (told ++ t ∷ []) ≡ standing_step h (standing h told) t
  standing_more told t = fold-append (standing_step h) first_standing told (t ∷ [])

  own_more : (earlier : List Told) (t : Told) → told_of t.session (earlier ++ t ∷ []) ≡ told_of t.session earlier ++ t ∷ []
  own_more earlier t =
      filter-append (λ (u : Told). u.session == t.session) earlier (t ∷ []) ∙ ap (λ b. told_of t.session earlier ++ cond b (t ∷ []) []) (eq-eqb t.session t.session refl)

  lower : (m n : ℕ) (earlier : List Told) → m ≤ n → AllByRecursion (λ (t : Told). t.session ≤ m) earlier → AllByRecursion (λ (t : Told). t.session ≤ n) earlier
  lower m n [] low all = tt
  lower m n (t ∷ earlier) low all = let first = all.0 in (omega (arith, first, low), lower m n earlier low all.1)

  last_low : (n : ℕ) (earlier : List Told) (t : Told) → AllByRecursion (λ (u : Told). u.session ≤ n) earlier → t.session ≤ n → AllByRecursion (λ (u : Told). u.session ≤ n) (earlier ++ t ∷ [])
  last_low n [] t all low = (low, tt)
  last_low n (u ∷ earlier) t all low = (all.0, last_low n earlier t all.1 low)

  -- and behind the line
  pub gone_on : (earlier : List Told) (t : Told) (w v : Walk) → IsBehind h earlier w → w.session ≤ t.session → v.session ≡ t.session → standing_of v.standing ≡ standing_step h (standing_before h earlier t) t → IsBehind h (earlier ++ t ∷ []) v
  gone_on earlier t w v is order at stands = record {
    stands = stands ∙ sym (ap (λ s. standing h (told_of s (earlier ++ t ∷ []))) at ∙ ap (standing h) (own_more earlier t) ∙ standing_more (told_of t.session earlier) t);
    before = last_low v.session earlier t (lower w.session v.session earlier (omega (arith, order, at)) is.before) (omega (arith, at));
  }

-- the sessions of the lines of scripts don't fall
lines_in_order : (session n : ℕ) (lines : List (List ℕ)) (said : List Said) (scripts : List (List ℕ)) (rest : List ScriptLine) → map (λ (s : Said). line_at scripts s.line) said ≡ lines_from session n lines ++ rest
    → ((later : List Said) → map (λ (s : Said). line_at scripts s.line) later ≡ rest → AreInOrder session later) → AreInOrder session said
lines_in_order session n [] said scripts rest same more = more said same
lines_in_order session n (bytes ∷ lines) said scripts rest same more = by (is_blank bytes) refl (λ later is. lines_in_order session (n + 1) lines later scripts rest is more) said same
  where
    by : (b : Bool) → is_blank bytes ≡ b → ((later : List Said) → map (λ (s : Said). line_at scripts s.line) later ≡ lines_from session (n + 1) lines ++ rest → AreInOrder session later) → (said : List Said)
        → map (λ (s : Said). line_at scripts s.line) said ≡ cond b (lines_from session (n + 1) lines) (record { session = session; number = n; bytes = bytes } ∷ lines_from session (n + 1) lines) ++ rest → AreInOrder session said
    by true is next said same = next said same
    by false is next [] same = absurd (cc)
    by false is next (s ∷ said) same =
        let first : line_at scripts s.line ≡ record { session = session; number = n; bytes = bytes } = cc in
        let own : s.line.session ≡ session = ap (λ (l : ScriptLine). l.session) first in
        let later : map (λ (r : Said). line_at scripts r.line) said ≡ lines_from session (n + 1) lines ++ rest = cc in
        (omega (arith, own), subst (λ m. AreInOrder m said) (sym own) (next said later))

from_lower : (m n : ℕ) (said : List Said) → m ≤ n → AreInOrder n said → AreInOrder m said
from_lower m n [] low are = tt
from_lower m n (s ∷ said) low are = let first = are.0 in (omega (arith, first, low), are.1)

scripts_in_order : (session : ℕ) (left : List (List ℕ)) (said : List Said) (scripts : List (List ℕ)) → map (λ (s : Said). line_at scripts s.line) said ≡ lines_of_scripts session left → AreInOrder session said
scripts_in_order session [] [] scripts same = tt
scripts_in_order session [] (s ∷ said) scripts same = absurd (cc)
scripts_in_order session (script ∷ left) said scripts same =
    lines_in_order session 1 (lines_of script) said scripts (lines_of_scripts (session + 1) left) same (λ later is. from_lower session (session + 1) later (omega arith) (scripts_in_order (session + 1) left later scripts is))

-- so those of what is kept of a cut don't
pub cut_in_order : (scripts : List (List ℕ)) (transcript : List ℕ) (said : List Said) → IsWholeCut scripts transcript said → AreInOrder 0 said
cut_in_order scripts transcript said cut = scripts_in_order 0 scripts said scripts cut.lines

-- the session of a line isn't below that of the line before it
pub order_next : (from : ℕ) (said : List Said) (k : ℕ) (s r : Said) → AreInOrder from said → slice_get said k ≡ Some s → slice_get said (suc k) ≡ Some r → s.line.session ≤ r.line.session
order_next from [] k s r are at next = absurd (cc)
order_next from (q ∷ []) zero s r are at next = absurd (cc)
order_next from (q ∷ p ∷ said) zero s r are at next =
    let one : q ≡ s = cc in
    let two : p ≡ r = cc in
    let low = are.1.0 in
    subst (λ (x : Said × Said). x.0.line.session ≤ x.1.line.session) (λ i. (one i, two i)) low
order_next from (q ∷ said) (suc k) s r are at next = order_next q.line.session said k s r are.1 at next
