-- The versions of a place, from its newest put back.
use Rattle.std.proofs.Common.{◌≡◌, ◌≢◌, ◌<◌, ◌≤◌, ◌⊎◌, inl, inr, ℕ, zero, suc, List, [], ◌∷◌, ◌++◌, length, get_or, cond, refl, sym, ap, ◌∙◌, arith, eq-eqb, ne_eqb, lt-ltb}
use Rattle.std.specs.Prelude.{◌==◌, nat_lt}
use Rattle.std.proofs.lemmas.List.{get_or_append_left, get_or_push}
use Rattle.cells.proofs.Laws.{equal_or_not}
use Rattle.chunk_versions.specs.Versions.{no_put, versions_from, word_behind, word_from, put_at, AreLinked}
use Rattle.chunk_versions.specs.declared.put.Put.{Put}

module _ (puts : List Put) where
  chain_next : (n m link : ℕ) → link ≤ n → n ≤ suc m → (n ≤ m → versions_from puts m link ≡ versions_from puts n link) → (n ≡ suc m) ⊎ (n ≢ suc m) → versions_from puts (suc m) link ≡ versions_from puts n link
  chain_next n m link low few rest (inl same) = ap (λ k. versions_from puts k link) (sym same)
  chain_next n m link low few rest (inr other) =
      ap (λ b. cond b (get_or puts m no_put ∷ versions_from puts m (get_or puts m no_put).before) (versions_from puts m link)) (ne_eqb link (suc m) (λ same. omega (arith, same, low, few, other)))
      ∙ rest (omega (arith, few, other))

  -- a link leads to no later put
  pub chain_low : (n m link : ℕ) → link ≤ n → n ≤ m → versions_from puts m link ≡ versions_from puts n link
  chain_low n zero link low few = ap (λ k. versions_from puts k link) (let same : 0 ≡ n = omega (arith, few) in same)
  chain_low n (suc m) link low few = chain_next n m link low few (chain_low n m link low) (equal_or_not n (suc m))

  chain_here : (i : ℕ) → versions_from puts (suc i) (suc i) ≡ get_or puts i no_put ∷ versions_from puts i (get_or puts i no_put).before
  chain_here i =
      ap (λ b. cond b (get_or puts i no_put ∷ versions_from puts i (get_or puts i no_put).before) (versions_from puts i (suc i))) (eq-eqb (suc i) (suc i) refl)

  -- a link leads to its put, and from there to those before it
  pub chain_at : (n i : ℕ) → i < n → (get_or puts i no_put).before ≤ i → versions_from puts n (suc i) ≡ get_or puts i no_put ∷ versions_from puts n (get_or puts i no_put).before
  chain_at n i within before =
      chain_low (suc i) n (suc i) (omega arith) (omega (arith, within))
      ∙ chain_here i
      ∙ ap (λ older. get_or puts i no_put ∷ older) (sym (chain_low i n (get_or puts i no_put).before before (omega (arith, within))))

  -- no link leads to no put
  pub chain_none : (n : ℕ) → versions_from puts n 0 ≡ []
  chain_none zero = refl
  chain_none (suc n) =
      ap (λ b. cond b (get_or puts n no_put ∷ versions_from puts n (get_or puts n no_put).before) (versions_from puts n 0)) (ne_eqb 0 (suc n) (λ same. omega (arith, same)))
      ∙ chain_none n

  -- a put behind all others changes none of them
  pub chain_push : (p : Put) (n link : ℕ) → n ≤ length puts → versions_from (puts ++ p ∷ []) n link ≡ versions_from puts n link
  chain_push p zero link few = refl
  chain_push p (suc n) link few =
      ap (λ (q : Put). cond (link == suc n) (q ∷ versions_from (puts ++ p ∷ []) n q.before) (versions_from (puts ++ p ∷ []) n link)) (get_or_append_left puts (p ∷ []) no_put n (omega (arith, few)))
      ∙ ap (λ older. cond (link == suc n) (get_or puts n no_put ∷ older) (versions_from (puts ++ p ∷ []) n link)) (chain_push p n (get_or puts n no_put).before (omega (arith, few)))
      ∙ ap (λ older. cond (link == suc n) (get_or puts n no_put ∷ versions_from puts n (get_or puts n no_put).before) older) (chain_push p n link (omega (arith, few)))

-- the word behind some touches is that of the put to which the link leads, if it is by one of these, else it is found behind it
pub word_step : (fill : ℕ) (puts : List Put) (touches link count : ℕ) → AreLinked puts touches → link ≤ length puts → 0 < count
    → word_from fill puts link count ≡ cond (nat_lt (put_at fill puts link).touch count) (put_at fill puts link).word (word_from fill puts (put_at fill puts link).before count)
word_step fill puts touches zero count linked within some =
    ap (λ vs. word_behind fill vs count) (chain_none puts (length puts))
    ∙ sym (ap (λ b. cond b fill (word_from fill puts 0 count)) (lt-ltb 0 count some))
word_step fill puts touches (suc i) count linked within some =
    ap (λ vs. word_behind fill vs count) (chain_at puts (length puts) i (omega (arith, within)) (linked.before i (omega (arith, within))))

-- where a link leads back to
pub before_low : (fill : ℕ) (puts : List Put) (touches link : ℕ) → AreLinked puts touches → link ≤ length puts → (put_at fill puts link).before ≤ link
before_low fill puts touches zero linked within = omega arith
before_low fill puts touches (suc i) linked within = let low = linked.before i (omega (arith, within)) in omega (arith, low)

-- and it isn't the same where there is a put
pub before_less : (fill : ℕ) (puts : List Put) (touches link : ℕ) → AreLinked puts touches → link ≤ length puts → 0 < link → (put_at fill puts link).before < link
before_less fill puts touches zero linked within some = absurd (omega (arith, some))
before_less fill puts touches (suc i) linked within some = let low = linked.before i (omega (arith, within)) in omega (arith, low)

pub touch_low : (fill : ℕ) (puts : List Put) (touches link : ℕ) → AreLinked puts touches → link ≤ length puts → 0 < touches → (put_at fill puts link).touch < touches
touch_low fill puts touches zero linked within some = some
touch_low fill puts touches (suc i) linked within some = linked.behind i (omega (arith, within))

-- where there is no put, the word is by the first touch
pub touch_none : (fill : ℕ) (puts : List Put) (link : ℕ) → link ≡ 0 → (put_at fill puts link).touch ≡ 0
touch_none fill puts link none = ap (λ l. (put_at fill puts l).touch) none

-- behind all touches the word is that of the newest put
pub word_top : (fill : ℕ) (puts : List Put) (touches link count : ℕ) → AreLinked puts touches → link ≤ length puts → 0 < touches → touches ≤ count → word_from fill puts link count ≡ (put_at fill puts link).word
word_top fill puts touches link count linked within some high =
    let low = touch_low fill puts touches link linked within some in
    word_step fill puts touches link count linked within (omega (arith, some, high))
    ∙ ap (λ b. cond b (put_at fill puts link).word (word_from fill puts (put_at fill puts link).before count)) (lt-ltb (put_at fill puts link).touch count (omega (arith, low, high)))

-- with a put behind all others, the words of another place are the same
pub word_other : (fill : ℕ) (puts : List Put) (p : Put) (link count : ℕ) → link ≤ length puts → length (puts ++ p ∷ []) ≡ suc (length puts) → word_from fill (puts ++ p ∷ []) link count ≡ word_from fill puts link count
word_other fill puts p link count within size =
    ap (λ n. word_behind fill (versions_from (puts ++ p ∷ []) n link) count) size
    ∙ ap (λ vs. word_behind fill vs count) (chain_low (puts ++ p ∷ []) (length puts) (suc (length puts)) link within (omega arith) ∙ chain_push puts p (length puts) link (omega arith))

-- and those of its own place are its word from its touch on
pub word_own : (fill : ℕ) (puts : List Put) (p : Put) (count : ℕ) → length (puts ++ p ∷ []) ≡ suc (length puts)
    → word_from fill (puts ++ p ∷ []) (suc (length puts)) count ≡ cond (nat_lt p.touch count) p.word (word_from fill puts p.before count)
word_own fill puts p count size =
    ap (λ n. word_behind fill (versions_from (puts ++ p ∷ []) n (suc (length puts))) count) size
    ∙ ap (λ vs. word_behind fill vs count) (chain_here (puts ++ p ∷ []) (length puts))
    ∙ ap (λ (q : Put). word_behind fill (q ∷ versions_from (puts ++ p ∷ []) (length puts) q.before) count) (get_or_push puts p no_put (length puts) refl)
    ∙ ap (λ vs. word_behind fill (p ∷ vs) count) (chain_push puts p (length puts) p.before (omega arith))
