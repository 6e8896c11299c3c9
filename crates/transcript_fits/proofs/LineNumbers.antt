-- The lines of a session have rising numbers.
use Rattle.std.proofs.Common.{◌≡◌, ◌≢◌, ◌∙◌, ◌⊎◌, inl, inr, ◌<◌, ◌≤◌, ◌+◌, ℕ, zero, suc, List, [], ◌∷◌, ◌++◌, Bool, true, false, cond, get_or, length, Some, refl, sym, ap, subst, arith, eqb-true, eq-eqb}
use Rattle.std.specs.Prelude.{◌==◌}
use Rattle.std.specs.List.{AllByRecursion, slice_get}
use Rattle.std.proofs.lemmas.List.Elements.{filter-append}
use Rattle.cells.proofs.Laws.{true_or_false}
use Rattle.open_fits.proofs.Laws.{AreBelow}
use Rattle.stated_history.specs.Script.{is_blank, lines_of}
use Rattle.stated_history.specs.ToldNumbers.{told_of}
use Rattle.stated_history.specs.Transcript.{ScriptLine, lines_from, lines_of_scripts, Told, AreToldOf}

-- numbers that rise from this one on
abbrev AreFrom : ℕ → List Told → Type 0
AreFrom n [] = Unit {0}
AreFrom n (t ∷ ts) = (n ≤ t.number) × AreFrom (t.number + 1) ts

from_lower : (m n : ℕ) (ts : List Told) → m ≤ n → AreFrom n ts → AreFrom m ts
from_lower m n [] low are = tt
from_lower m n (t ∷ ts) low are = let first = are.0 in (omega (arith, first, low), are.1)

-- what is told of the lines of one script
record AreOfScript (session n : ℕ) (ts : List Told) : Type 0 where
  rise : AreFrom n ts
  own : AllByRecursion (λ (t : Told). t.session ≡ session) ts

of_script : (session n : ℕ) (lines : List (List ℕ)) (ts : List Told) → AreToldOf (lines_from session n lines) ts → AreOfScript session n ts
of_script session n [] [] are = record { rise = tt; own = tt }
of_script session n [] (t ∷ ts) are = absurd are
of_script session n (bytes ∷ lines) ts are = by (is_blank bytes) (of_script session (n + 1) lines) ts are
  where
    by : (b : Bool) → ((ts : List Told) → AreToldOf (lines_from session (n + 1) lines) ts → AreOfScript session (n + 1) ts) → (ts : List Told) → AreToldOf (cond b (lines_from session (n + 1) lines) (record { session = session; number = n; bytes = bytes } ∷ lines_from session (n + 1) lines)) ts → AreOfScript session n ts
    by true next ts all = let rest = next ts all in record { rise = from_lower n (n + 1) ts (omega arith) rest.rise; own = rest.own }
    by false next [] all = absurd all
    by false next (t ∷ ts) all =
        let rest = next ts all.1 in
        let number = all.0.number in
        record {
          rise = (omega (arith, number), subst (λ m. AreFrom (m + 1) ts) (sym number) rest.rise);
          own = (all.0.session, rest.own);
        }

-- what is told of lines that follow one another
record AreParted (first rest : List ScriptLine) (ts : List Told) : Type 0 where
  front : List Told
  back : List Told
  parts : ts ≡ front ++ back
  of_front : AreToldOf first front
  of_back : AreToldOf rest back

parted : (first rest : List ScriptLine) (ts : List Told) → AreToldOf (first ++ rest) ts → AreParted first rest ts
parted [] rest ts are = record { front = []; back = ts; parts = refl; of_front = tt; of_back = are }
parted (l ∷ first) rest [] are = absurd are
parted (l ∷ first) rest (t ∷ ts) are =
    let more = parted first rest ts are.1 in
    record { front = t ∷ more.front; back = more.back; parts = ap (λ xs. t ∷ xs) more.parts; of_front = (are.0, more.of_front); of_back = more.of_back }

all_own : (session : ℕ) (ts : List Told) → AllByRecursion (λ (t : Told). t.session ≡ session) ts → told_of session ts ≡ ts
all_own session [] all = refl
all_own session (t ∷ ts) all = ap (λ b. cond b (t ∷ told_of session ts) (told_of session ts)) (eq-eqb t.session session all.0) ∙ ap (λ xs. t ∷ xs) (all_own session ts all.1)

none_own : (session other : ℕ) (ts : List Told) → session ≢ other → AllByRecursion (λ (t : Told). t.session ≡ session) ts → told_of other ts ≡ []
none_own session other [] apart all = refl
none_own session other (t ∷ ts) apart all = by (none_own session other ts apart all.1) (true_or_false (t.session == other))
  where
    by : told_of other ts ≡ [] → ((t.session == other) ≡ true) ⊎ ((t.session == other) ≡ false) → cond (t.session == other) (t ∷ told_of other ts) (told_of other ts) ≡ []
    by rest (inl same) = absurd (apart (sym all.0 ∙ eqb-true t.session other same))
    by rest (inr differ) = ap (λ b. cond b (t ∷ told_of other ts) (told_of other ts)) differ ∙ rest

-- of later scripts nothing is told of an earlier session
session_rises : (from session : ℕ) (scripts : List (List ℕ)) (ts : List Told) → AreToldOf (lines_of_scripts from scripts) ts → session < from → told_of session ts ≡ []
session_rises from session [] [] are low = refl
session_rises from session [] (t ∷ ts) are low = absurd are
session_rises from session (script ∷ scripts) ts are low =
    let two = parted (lines_from from 1 (lines_of script)) (lines_of_scripts (from + 1) scripts) ts are in
    let one = of_script from 1 (lines_of script) two.front two.of_front in
    ap (told_of session) two.parts ∙ filter-append (λ (t : Told). t.session == session) two.front two.back
    ∙ ap (λ xs. xs ++ told_of session two.back) (none_own from session two.front (λ same. let no : ⊥ = omega (arith, same, low) in no) one.own)
    ∙ session_rises (from + 1) session scripts two.back two.of_back (omega (arith, low))

nothing_more : (ts : List Told) → ts ++ [] ≡ ts
nothing_more [] = refl
nothing_more (t ∷ ts) = ap (λ xs. t ∷ xs) (nothing_more ts)

-- those of this script, or of a later one
own_by : (from session : ℕ) (script : List ℕ) (scripts : List (List ℕ)) (ts : List Told) (two : AreParted (lines_from from 1 (lines_of script)) (lines_of_scripts (from + 1) scripts) ts) → AreFrom 1 (told_of session two.back)
    → ((from == session) ≡ true) ⊎ ((from == session) ≡ false) → AreFrom 1 (told_of session ts)
own_by from session script scripts ts two later (inl same) =
    let one = of_script from 1 (lines_of script) two.front two.of_front in
    let is = eqb-true from session same in
    let all : told_of session two.front ≡ two.front = ap (λ s. told_of s two.front) (sym is) ∙ all_own from two.front one.own in
    let whole : told_of session ts ≡ two.front =
    ap (told_of session) two.parts ∙ filter-append (λ (t : Told). t.session == session) two.front two.back
    ∙ ap (λ xs. xs ++ told_of session two.back) all ∙ ap (λ xs. two.front ++ xs) (session_rises (from + 1) session scripts two.back two.of_back (omega (arith, is))) ∙ nothing_more two.front in
    subst (AreFrom 1) (sym whole) one.rise
own_by from session script scripts ts two later (inr differ) =
    let one = of_script from 1 (lines_of script) two.front two.of_front in
    let apart : from ≢ session = λ same. (let yes : true ≡ false = sym (eq-eqb from session same) ∙ differ in cc) in
    let whole : told_of session ts ≡ told_of session two.back =
    ap (told_of session) two.parts ∙ filter-append (λ (t : Told). t.session == session) two.front two.back ∙ ap (λ xs. xs ++ told_of session two.back) (none_own from session two.front apart one.own) in
    subst (AreFrom 1) (sym whole) later

own_rises : (from session : ℕ) (scripts : List (List ℕ)) (ts : List Told) → AreToldOf (lines_of_scripts from scripts) ts → AreFrom 1 (told_of session ts)
own_rises from session [] [] are = tt
own_rises from session [] (t ∷ ts) are = absurd are
own_rises from session (script ∷ scripts) ts are =
    let two = parted (lines_from from 1 (lines_of script)) (lines_of_scripts (from + 1) scripts) ts are in
    own_by from session script scripts ts two (own_rises (from + 1) session scripts two.back two.of_back) (true_or_false (from == session))

above : (n : ℕ) (ts : List Told) → AreFrom n ts → (i : ℕ) (d : Told) → i < length ts → n ≤ (get_or ts i d).number
above n [] are i d low = absurd (omega (arith, low))
above n (t ∷ ts) are zero d low = are.0
above n (t ∷ ts) are (suc i) d low = let rest = above (t.number + 1) ts are.1 i d (omega (arith, low)) in let first = are.0 in omega (arith, rest, first)

below_at : (n : ℕ) (ts : List Told) (at : ℕ) (t : Told) → AreFrom n ts → slice_get ts at ≡ Some t → AreBelow t.number ts at
below_at n [] at t are is = absurd (cc)
below_at n (u ∷ ts) zero t are is =
    let same : u ≡ t = cc in
    subst (λ (v : Told). AreBelow v.number (u ∷ ts) 0) same (record {
      before = λ i d few in_list. absurd (omega (arith, few));
      behind = λ i d many in_list. above u.number (u ∷ ts) (omega arith, are.1) i d in_list;
    })
below_at n (u ∷ ts) (suc at) t are is =
    let rest = below_at (u.number + 1) ts at t are.1 is in
    record { before = first rest; behind = later rest }
  where
    low : (at : ℕ) (ts : List Told) (n : ℕ) → AreFrom n ts → slice_get ts at ≡ Some t → n ≤ t.number
    low at [] n are is = absurd (cc)
    low zero (v ∷ ts) n are is = let same : v ≡ t = cc in subst (λ (x : Told). n ≤ x.number) same are.0
    low (suc at) (v ∷ ts) n are is = let rest = low at ts (v.number + 1) are.1 is in let one = are.0 in omega (arith, rest, one)

    first : AreBelow t.number ts at → (i : ℕ) (d : Told) → i < suc at → i < length (u ∷ ts) → (get_or (u ∷ ts) i d).number < t.number
    first rest zero d few in_list = let over = low at ts (u.number + 1) are.1 is in omega (arith, over)
    first rest (suc i) d few in_list = rest.before i d (omega (arith, few)) (omega (arith, in_list))

    later : AreBelow t.number ts at → (i : ℕ) (d : Told) → suc at ≤ i → i < length (u ∷ ts) → t.number ≤ (get_or (u ∷ ts) i d).number
    later rest zero d many in_list = absurd (omega (arith, many))
    later rest (suc i) d many in_list = rest.behind i d (omega (arith, many)) (omega (arith, in_list))

-- the numbers of a session's lines before one of them are below its own, and no others
pub below_line : (scripts : List (List ℕ)) (told : List Told) (session at : ℕ) (t : Told) → AreToldOf (lines_of_scripts 0 scripts) told → slice_get (told_of session told) at ≡ Some t → AreBelow t.number (told_of session told) at
below_line scripts told session at t are is = below_at 1 (told_of session told) at t (own_rises 0 session scripts told are) is
