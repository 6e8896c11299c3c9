-- Where a line's window begins and ends.
use Rattle.std.proofs.Common.{◌≡◌, ℕ, ◌<◌, ◌≤◌, List, [], ◌∷◌, ◌++◌, Bool, true, false, cond, Option, Some, None, ap, ◌∙◌, arith, append-nil, le-ltb}
use Rattle.std.specs.Prelude.{nat_lt, unwrap_or}
use Rattle.std.specs.List.{AllByRecursion, last_or}
use Rattle.std.proofs.lemmas.List.Elements.{filter-append}
use Rattle.history.specs.Commit.{Transaction}
use Rattle.history.proofs.Quiet.{all_parts}
use Rattle.history.proofs.Transactions.{all_with}
use Rattle.transcript_laws.specs.Transcript.{Told}
use Rattle.transcript_laws.specs.Numbers.{numbers_in, numbers_of}
use Rattle.transcript_laws.specs.Windows.{last_of, before_first, lines_up_to, lines_before}

-- no number is above this one
abbrev pub AreUpTo : ℕ → List ℕ → Type 0
AreUpTo x ns = AllByRecursion (λ n. n ≤ x) ns

-- each number is above this one
abbrev pub AreAbove : ℕ → List ℕ → Type 0
AreAbove x ns = AllByRecursion (λ n. x < n) ns

last_up_to : (x : ℕ) (o : Option ℕ) (ns : List ℕ) → unwrap_or o 0 ≤ x → AreUpTo x ns → unwrap_or (last_or o ns) 0 ≤ x
last_up_to x o [] low all = low
last_up_to x o (n ∷ ns) low all = last_up_to x (Some n) ns all.0 all.1

pub last_of_le : (x : ℕ) (ns : List ℕ) → AreUpTo x ns → last_of ns ≤ x
last_of_le x ns all = last_up_to x None ns (omega arith) all

pub before_first_ge : (m total : ℕ) (ns : List ℕ) → m ≤ total → AreAbove m ns → m ≤ before_first total ns
before_first_ge m total [] low all = low
before_first_ge m total (n ∷ ns) low all = let first = all.0 in omega (arith, first)

pub up_to_later : (x y : ℕ) (ns : List ℕ) → x ≤ y → AreUpTo x ns → AreUpTo y ns
up_to_later x y [] low all = tt
up_to_later x y (n ∷ ns) low all = (let first = all.0 in omega (arith, low, first), up_to_later x y ns low all.1)

pub up_to_with : (x : ℕ) (ns ms : List ℕ) → AreUpTo x ns → AreUpTo x ms → AreUpTo x (ns ++ ms)
up_to_with x ns ms one other = all_with (λ n. n ≤ x) ns ms one other

-- numbers of some of the lines
chosen_up_to : (x begun : ℕ) (told : List Told) → AreUpTo x (numbers_of told) → AreUpTo x (numbers_of (lines_up_to begun told))
chosen_up_to x begun [] all = tt
chosen_up_to x begun (t ∷ told) all =
    let parts = all_parts (λ n. n ≤ x) (numbers_in t.answer) (numbers_of told) all in
    by (nat_lt t.number begun) parts.0 (chosen_up_to x begun told parts.1)
  where
    by : (b : Bool) → AreUpTo x (numbers_in t.answer) → AreUpTo x (numbers_of (lines_up_to begun told)) → AreUpTo x (numbers_of (cond b (t ∷ lines_up_to begun told) (lines_up_to begun told)))
    by true one rest = up_to_with x (numbers_in t.answer) (numbers_of (lines_up_to begun told)) one rest
    by false one rest = rest

pub before_up_to : (x : ℕ) (t : Option Transaction) (told : List Told) → AreUpTo x (numbers_of told) → AreUpTo x (numbers_of (lines_before t told))
before_up_to x None told all = all
before_up_to x (Some t) told all = by t.mode.repeatable_read
  where
    by : (b : Bool) → AreUpTo x (numbers_of (cond b (lines_up_to t.line told) told))
    by true = chosen_up_to x t.line told all
    by false = all

-- a line behind the beginning of a transaction isn't one before it
pub up_to_more : (begun : ℕ) (earlier : List Told) (told : Told) → begun ≤ told.number → lines_up_to begun (earlier ++ told ∷ []) ≡ lines_up_to begun earlier
up_to_more begun earlier told late =
    filter-append (λ (t : Told). nat_lt t.number begun) earlier (told ∷ [])
    ∙ ap (λ b. lines_up_to begun earlier ++ cond b (told ∷ []) []) (le-ltb told.number begun late)
    ∙ append-nil (lines_up_to begun earlier)
