-- The spots of events.
use Rattle.std.proofs.Common.{◌≡◌, ◌∙◌, ◌<◌, ℕ, zero, suc, List, [], ◌∷◌, ◌++◌, length, take, drop, Option, Some, refl, sym, ap, arith, append-nil}
use Rattle.std.proofs.Math.Seq.{take-length, drop-length}
use Rattle.std.specs.List.{AllByRecursion, flat_map, slice_get}
use Rattle.transcript_fits.specs.History.{History}
use Rattle.transcript_fits.specs.AnswerNumbers.{PrintsNumbers, all_numbers}
use Rattle.transcript_fits.specs.StatedOpenings.{IsNumberedCut}
use Rattle.transcript_fits.specs.Said.{AreSaid}
use Rattle.transcript_fits.specs.declared.Said.{Said}
use Rattle.transcript_fits.specs.Walks.{AreWalked}
use Rattle.transcript_fits.specs.declared.Commit.{Commit}
use Rattle.transcript_fits.specs.ToldNumbers.{numbers_in, numbers_of}
use Rattle.transcript_fits.specs.Transcript.{Told}

same_in : (t : Told) (s : Said) → PrintsNumbers t.answer s.numbers → numbers_in t.answer ≡ all_numbers s.numbers
same_in t s is = let one = is.opened in let two = is.done in let three = is.failed in cc

-- what is told prints the numbers that are kept
same_numbers : (scripts : List (List ℕ)) (transcript : List ℕ) (said : List Said) (told : List Told) → AreSaid scripts transcript said told → numbers_of told ≡ flat_map (λ (s : Said). all_numbers s.numbers) said
same_numbers scripts transcript [] [] are = refl
same_numbers scripts transcript [] (t ∷ told) are = absurd are
same_numbers scripts transcript (s ∷ said) [] are = absurd are
same_numbers scripts transcript (s ∷ said) (t ∷ told) are =
    ap (λ ns. ns ++ numbers_of told) (same_in t s are.0.prints) ∙ ap (λ ns. all_numbers s.numbers ++ ns) (same_numbers scripts transcript said told are.1)

same_count : (scripts : List (List ℕ)) (transcript : List ℕ) (said : List Said) (told : List Told) → AreSaid scripts transcript said told → length said ≡ length told
same_count scripts transcript [] [] are = refl
same_count scripts transcript [] (t ∷ told) are = absurd are
same_count scripts transcript (s ∷ said) [] are = absurd are
same_count scripts transcript (s ∷ said) (t ∷ told) are = ap suc (same_count scripts transcript said told are.1)

-- one commit or none of each line
walked_count : (h : History) (earlier told : List Told) (commits : List (Option Commit)) → AreWalked h earlier told commits → length commits ≡ length told
walked_count h earlier [] [] are = refl
walked_count h earlier [] (commit ∷ commits) are = absurd are
walked_count h earlier (t ∷ told) [] are = absurd are
walked_count h earlier (t ∷ told) (commit ∷ commits) are = ap suc (walked_count h (earlier ++ t ∷ []) told commits are.1)

got_low : (said : List Said) (k : ℕ) (s : Said) → slice_get said k ≡ Some s → k < length said
got_low [] k s is = absurd (cc)
got_low (d ∷ said) zero s is = omega arith
got_low (d ∷ said) (suc k) s is = let low = got_low said k s is in omega (arith, low)

all_low : (bound : ℕ) (spots : List ℕ) → ((n spot : ℕ) → slice_get spots n ≡ Some spot → spot < bound) → AllByRecursion (λ spot. spot < bound) spots
all_low bound [] each = tt
all_low bound (spot ∷ spots) each = (each 0 spot refl, all_low bound spots (λ n spot. each (suc n) spot))

-- there is a spot for each event, and what is told of it is kept at its spot
pub spots_count : (scripts : List (List ℕ)) (said : List Said) (spots : List ℕ) (transcript : List ℕ) (told : List Told) → IsNumberedCut scripts said spots → AreSaid scripts transcript said told → length spots ≡ length (numbers_of told)
spots_count scripts said spots transcript told is are = is.table.count ∙ ap length (sym (same_numbers scripts transcript said told are))

pub spots_within : (scripts : List (List ℕ)) (said : List Said) (spots : List ℕ) (transcript : List ℕ) (told : List Told) (h : History) (commits : List (Option Commit)) → IsNumberedCut scripts said spots → AreSaid scripts transcript said told → AreWalked h [] told commits
    → AllByRecursion (λ spot. spot < length commits) spots
spots_within scripts said spots transcript told h commits is are walked =
    let many = same_count scripts transcript said told are in
    let each = walked_count h [] told commits walked in
    all_low (length commits) spots (λ n spot at. let prints = is.table.each n spot at in let low = got_low said spot prints.line prints.there in omega (arith, low, many, each))

-- the events of a vector after they were lent as a slice
pub lent : (n : ℕ) (items new : History) → length items ≡ n → length new ≡ length items → take n (new ++ drop (length new) items) ≡ new
lent n items new a b =
    let none : drop (length new) items ≡ drop (length items) items = ap (λ k. drop k items) b in
    ap (λ l. take n (new ++ l)) (none ∙ drop-length items) ∙ (ap (take n) (append-nil new) ∙ (ap (λ k. take k new) (sym (b ∙ a)) ∙ take-length new))
