-- Numbers that answers print, and what is told by them.
use Rattle.std.proofs.Common.{◌≡◌, ◌<◌, ℕ, ◌+◌, List, length, true, false, Option, Some, None, Result, Ok, Err, IfOk, sym, subst}
use Rattle.std.specs.Prelude.{Contains}
use Rattle.transcript_laws.specs.Transcript.{Told}
use Rattle.transcript_laws.specs.Numbers.{AreRising, AreNumbered, numbers_of}
use Rattle.transcript_cut.specs.Numbered.{said_numbers, session_numbers, IsEventTable, LacksNumber, AreSpots, IsNumbering}
use Rattle.transcript_cut.specs.Risen.{TellsRise}
use Rattle.transcript_cut.specs.Said.{AreSaid}
use Rattle.transcript_cut.specs.declared.said.Said.{Said}
use Rattle.transcript_cut.proofs.Rising.{same_numbers, same_of_session}
use Rattle.transcript_cut.proofs.Slots.{all_contained, not_contained}

module _ (scripts : List (List ℕ)) (transcript : List ℕ) (said : List Said) (told : List Told) (are : AreSaid scripts transcript said told) where
  same : numbers_of told ≡ said_numbers said
  same = same_numbers scripts transcript said told are

  pub are_numbered : (spots : List ℕ) → ((session : ℕ) → AreRising (session_numbers session said)) → IsEventTable said spots → AreNumbered told
  are_numbered spots rising table = record {
    each = λ n low. subst (λ ns. Contains ns (n + 1)) (sym same) (all_contained said spots table n (subst (λ ns. n < length ns) same low));
    rising = λ session. subst AreRising (sym (same_of_session scripts transcript session said told are)) (rising session);
  }

  pub fall_somewhere : (session : ℕ) → (¬ AreRising (session_numbers session said)) → AreNumbered told → ⊥
  fall_somewhere session falls is = falls (subst AreRising (same_of_session scripts transcript session said told are) (is.rising session))

  pub lack_one : LacksNumber said → AreNumbered told → ⊥
  lack_one lacks is = not_contained said lacks (λ n low. subst (λ ns. Contains ns (n + 1)) same (is.each n (subst (λ ns. n < length ns) (sym same) low)))

-- where the numbers of each session rise, the spots tell whether they are all
pub numbering : {E : Type 0} (said : List Said) (result : Result (Option (List ℕ)) E) → TellsRise said true → IfOk result (AreSpots said) → IfOk result (IsNumbering said)
numbering said (Ok (Some spots)) rising is = (is, λ scripts transcript told are. are_numbered scripts transcript said told are spots rising is)
numbering said (Ok None) rising is = λ scripts transcript told are. lack_one scripts transcript said told are is
numbering said (Err e) rising is = tt

-- where those of one don't, they aren't numbered
pub falling : (said : List Said) → TellsRise said false → IsNumbering said None
falling said falls = λ scripts transcript told are. fall_somewhere scripts transcript said told are falls.0 falls.1
