-- Walking back over the versions of a place, and ruling out the candidates at which it isn't shown as it was asked for.
use Rattle.std.proofs.Common.{◌≡◌, ◌<◌, ◌≤◌, ◌⊎◌, inl, inr, ℕ, zero, suc, ◌+◌, ◌-◌, min, List, length, Bool, true, false, cond, refl, sym, ap, subst, ◌∙◌, arith, lt-ltb, le-ltb}
use Rattle.std.specs.Prelude.{◌↔◌, nat_lt}
use Rattle.cells.proofs.Laws.{less_or_not, true_or_false, not_both}
use Rattle.chunk_versions.specs.Versions.{word_from, put_at, AreLinked}
use Rattle.chunk_versions.specs.Reach.{IsGood, AreJudged}
use Rattle.chunk_versions.proofs.Chains.{word_step, before_low, before_less}
use Rattle.chunk_versions.specs.declared.put.Put.{Put}

-- a step leads to an earlier put, or leaves no candidate
pub step_less : (fill : ℕ) (puts : List Put) (touches link until left first : ℕ) (p : Put) → p ≡ put_at fill puts link → AreLinked puts touches → link ≤ length puts → 0 < until → left ≡ min (p.touch - first) until → p.before + left < link + until
step_less fill puts touches zero until left first p at linked within some is =
    let low = before_low fill puts touches zero linked within in
    let before = ap (λ (q : Put). q.before) at in
    let touch = ap (λ (q : Put). q.touch) at in
    omega (arith, low, before, touch, some, is)
step_less fill puts touches (suc i) until left first p at linked within some is =
    let less = before_less fill puts touches (suc i) linked within (omega arith) in
    let before = ap (λ (q : Put). q.before) at in
    omega (arith, less, before, some, is)

module _ (Fits : ℕ → Type 0) (fill first : ℕ) (puts : List Put) where
  -- the candidates from `until` on are judged, and those before it have the words that are found from the link back
  pub record IsJudgedTo (newest : ℕ) (old new : List ℕ) (link until : ℕ) : Type 0 where
    pub upto : until ≤ length old
    pub same : (k : ℕ) → k < until → word_from fill puts link (first + k + 1) ≡ word_from fill puts newest (first + k + 1)
    pub waiting : (k : ℕ) → k < until → IsGood new k ↔ IsGood old k
    pub judged : (k : ℕ) → until ≤ k → k < length old → IsGood new k ↔ (IsGood old k × Fits (word_from fill puts newest (first + k + 1)))

  pub judged_first : (newest until : ℕ) (old : List ℕ) → until ≡ length old → IsJudgedTo newest old old newest until
  judged_first newest until old all = record {
    upto = omega (arith, all);
    same = λ k low. refl;
    waiting = λ k low. (λ good. good, λ good. good);
    judged = λ k high within. absurd (omega (arith, high, within, all));
  }

  pub judged_all : (newest : ℕ) (old new : List ℕ) (link until : ℕ) → until ≡ 0 → IsJudgedTo newest old new link until → AreJudged old new (λ k. Fits (word_from fill puts newest (first + k + 1)))
  judged_all newest old new link until none is k within = is.judged k (omega (arith, none)) within

  module _ (touches newest : ℕ) (old new next : List ℕ) (link until begin : ℕ) (p : Put) (at : p ≡ put_at fill puts link) (start : begin ≡ p.touch - first) (linked : AreLinked puts touches) (within : link ≤ length puts)
      (is : IsJudgedTo newest old new link until) where
    step : (k : ℕ) → word_from fill puts link (first + k + 1) ≡ cond (nat_lt p.touch (first + k + 1)) p.word (word_from fill puts p.before (first + k + 1))
    step k =
        word_step fill puts touches link (first + k + 1) linked within (omega arith)
        ∙ ap (λ (q : Put). cond (nat_lt q.touch (first + k + 1)) q.word (word_from fill puts q.before (first + k + 1))) (sym at)

    -- before the put the words are those behind it
    earlier : (k : ℕ) → k < begin → word_from fill puts p.before (first + k + 1) ≡ word_from fill puts link (first + k + 1)
    earlier k low = sym (step k ∙ ap (λ b. cond b p.word (word_from fill puts p.before (first + k + 1))) (le-ltb p.touch (first + k + 1) (omega (arith, low, start))))

    -- from the put on they are its word
    later : (k : ℕ) → begin ≤ k → word_from fill puts link (first + k + 1) ≡ p.word
    later k high = step k ∙ ap (λ b. cond b p.word (word_from fill puts p.before (first + k + 1))) (lt-ltb p.touch (first + k + 1) (omega (arith, high, start)))

    pub judged_step : (left : ℕ) (fits : Bool) → left ≡ min begin until → ((fits ≡ true) ↔ Fits p.word) → length new ≡ length old → AreJudged new next (λ k. fits ≡ false → begin ≤ k → until ≤ k)
        → IsJudgedTo newest old next p.before left
    judged_step left fits left_is test size rules = record { upto = omega (arith, is.upto, left_is); same = sames; waiting = waits; judged = judges } where
      sames : (k : ℕ) → k < left → word_from fill puts p.before (first + k + 1) ≡ word_from fill puts newest (first + k + 1)
      sames k low = earlier k (omega (arith, low, left_is)) ∙ is.same k (omega (arith, low, left_is))

      inner : (k : ℕ) → k < length old → k < length new
      inner k inside = omega (arith, inside, size)

      waits : (k : ℕ) → k < left → IsGood next k ↔ IsGood old k
      waits k low =
          let here = rules k (inner k (omega (arith, low, left_is, is.upto))) in
          let wait = is.waiting k (omega (arith, low, left_is)) in
          (λ good. wait.0 (here.0 good).0, λ good. here.1 (wait.1 good, λ isnt high. absurd (omega (arith, low, high, left_is))))

      judges : (k : ℕ) → left ≤ k → k < length old → IsGood next k ↔ (IsGood old k × Fits (word_from fill puts newest (first + k + 1)))
      judges k high inside = by (less_or_not k until) (true_or_false fits) where
        here : IsGood next k ↔ (IsGood new k × (fits ≡ false → begin ≤ k → until ≤ k))
        here = rules k (inner k inside)

        by : (k < until) ⊎ (until ≤ k) → (fits ≡ true) ⊎ (fits ≡ false) → IsGood next k ↔ (IsGood old k × Fits (word_from fill puts newest (first + k + 1)))
        by (inr past) either =
            let was = is.judged k past inside in
            (λ good. was.0 (here.0 good).0, λ both. here.1 (was.1 both, λ isnt again. past))
        by (inl still) (inl fit) =
            let wait = is.waiting k still in
            let low : begin ≤ k = omega (arith, high, still, left_is) in
            let word : word_from fill puts newest (first + k + 1) ≡ p.word = sym (is.same k still) ∙ later k low in
            (λ good. (wait.0 (here.0 good).0, subst Fits (sym word) (test.0 fit)), λ both. here.1 (wait.1 both.0, λ isnt again. not_both fits fit isnt))
        by (inl still) (inr none) =
            let low : begin ≤ k = omega (arith, high, still, left_is) in
            let word : word_from fill puts newest (first + k + 1) ≡ p.word = sym (is.same k still) ∙ later k low in
            (λ good. absurd (let past = (here.0 good).1 none low in omega (arith, past, still)), λ both. not_both fits (test.1 (subst Fits word both.1)) none)
