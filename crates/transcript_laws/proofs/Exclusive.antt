-- A transcript fits by one history at most, it doesn't fit where a part fails, and one part is the least that fails.
use Rattle.std.proofs.Common.{◌≡◌, ℕ, List, refl, subst}
use Rattle.history.specs.History.{History}
use Rattle.transcript_laws.specs.Transcript.{Told, IsCut}
use Rattle.transcript_laws.specs.Numbers.{AreNumbered}
use Rattle.transcript_laws.specs.Claimed.{IsClaimed}
use Rattle.transcript_laws.specs.Fitting.{IsAnswered, ArePlain, Fits}
use Rattle.transcript_laws.specs.Verdicts.{IsFirstFailing, part_1, part_2, part_3, part_4, part_5}
use Rattle.transcript_laws.proofs.Cuts.{cut_is_one}
use Rattle.transcript_laws.proofs.OneHistory.{history_is_one}

module _ (scripts : List (List ℕ)) (transcript : List ℕ) where
  -- what holds of one cut, or of what it states, holds of another
  recut : (P : List Told → Type 0) (told other : List Told) → IsCut scripts transcript told → IsCut scripts transcript other → P other → P told
  recut P told other cut again p = subst P (cut_is_one scripts transcript other told again cut) p

  retold : (P : List Told → History → Type 0) (told other : List Told) (h k : History) → IsCut scripts transcript told → IsCut scripts transcript other → AreNumbered told → IsClaimed told h → IsClaimed other k → P other k → P told h
  retold P told other h k cut again numbered claimed claims p =
      let so : IsClaimed told k = recut (λ ts. IsClaimed ts k) told other cut again claims in
      subst (P told) (history_is_one told k h numbered so claimed) (recut (λ ts. P ts k) told other cut again p)

  pub fits_once : (h k : History) → Fits scripts transcript h → Fits scripts transcript k → h ≡ k
  fits_once h k is are =
      history_is_one is.told h k is.fit.numbered is.fit.claimed (recut (λ ts. IsClaimed ts k) is.told are.told is.cut are.cut are.fit.claimed)

  pub fits_or_fails : (h : History) (part : ℕ) → Fits scripts transcript h → IsFirstFailing scripts transcript part → ⊥
  fits_or_fails h part is (part_1 fails) = fails is.told is.cut
  fits_or_fails h part is (part_2 fails) = fails.fails (recut AreNumbered fails.told is.told fails.cut is.cut is.fit.numbered)
  fits_or_fails h part is (part_3 fails) = fails.fails h (recut (λ ts. IsClaimed ts h) fails.told is.told fails.cut is.cut is.fit.claimed)
  fits_or_fails h part is (part_4 fails) =
      fails.fails (retold IsAnswered fails.told is.told fails.history h fails.stated.cut is.cut fails.stated.numbered fails.stated.claimed is.fit.claimed is.fit.answered)
  fits_or_fails h part is (part_5 fails) = fails.fails (recut ArePlain fails.told is.told fails.stated.cut is.cut is.fit.plain)

  pub part_is_one : (p q : ℕ) → IsFirstFailing scripts transcript p → IsFirstFailing scripts transcript q → p ≡ q
  part_is_one p q (part_1 f) (part_1 g) = refl
  part_is_one p q (part_1 f) (part_2 g) = absurd (f g.told g.cut)
  part_is_one p q (part_1 f) (part_3 g) = absurd (f g.told g.cut)
  part_is_one p q (part_1 f) (part_4 g) = absurd (f g.told g.stated.cut)
  part_is_one p q (part_1 f) (part_5 g) = absurd (f g.told g.stated.cut)
  part_is_one p q (part_2 f) (part_1 g) = absurd (g f.told f.cut)
  part_is_one p q (part_2 f) (part_2 g) = refl
  part_is_one p q (part_2 f) (part_3 g) = absurd (f.fails (recut AreNumbered f.told g.told f.cut g.cut g.numbered))
  part_is_one p q (part_2 f) (part_4 g) = absurd (f.fails (recut AreNumbered f.told g.told f.cut g.stated.cut g.stated.numbered))
  part_is_one p q (part_2 f) (part_5 g) = absurd (f.fails (recut AreNumbered f.told g.told f.cut g.stated.cut g.stated.numbered))
  part_is_one p q (part_3 f) (part_1 g) = absurd (g f.told f.cut)
  part_is_one p q (part_3 f) (part_2 g) = absurd (g.fails (recut AreNumbered g.told f.told g.cut f.cut f.numbered))
  part_is_one p q (part_3 f) (part_3 g) = refl
  part_is_one p q (part_3 f) (part_4 g) = absurd (f.fails g.history (recut (λ ts. IsClaimed ts g.history) f.told g.told f.cut g.stated.cut g.stated.claimed))
  part_is_one p q (part_3 f) (part_5 g) = absurd (f.fails g.history (recut (λ ts. IsClaimed ts g.history) f.told g.told f.cut g.stated.cut g.stated.claimed))
  part_is_one p q (part_4 f) (part_1 g) = absurd (g f.told f.stated.cut)
  part_is_one p q (part_4 f) (part_2 g) = absurd (g.fails (recut AreNumbered g.told f.told g.cut f.stated.cut f.stated.numbered))
  part_is_one p q (part_4 f) (part_3 g) = absurd (g.fails f.history (recut (λ ts. IsClaimed ts f.history) g.told f.told g.cut f.stated.cut f.stated.claimed))
  part_is_one p q (part_4 f) (part_4 g) = refl
  part_is_one p q (part_4 f) (part_5 g) =
      absurd (f.fails (retold IsAnswered f.told g.told f.history g.history f.stated.cut g.stated.cut f.stated.numbered f.stated.claimed g.stated.claimed g.answered))
  part_is_one p q (part_5 f) (part_1 g) = absurd (g f.told f.stated.cut)
  part_is_one p q (part_5 f) (part_2 g) = absurd (g.fails (recut AreNumbered g.told f.told g.cut f.stated.cut f.stated.numbered))
  part_is_one p q (part_5 f) (part_3 g) = absurd (g.fails f.history (recut (λ ts. IsClaimed ts f.history) g.told f.told g.cut f.stated.cut f.stated.claimed))
  part_is_one p q (part_5 f) (part_4 g) =
      absurd (g.fails (retold IsAnswered g.told f.told g.history f.history g.stated.cut f.stated.cut g.stated.numbered g.stated.claimed f.stated.claimed f.answered))
  part_is_one p q (part_5 f) (part_5 g) = refl
