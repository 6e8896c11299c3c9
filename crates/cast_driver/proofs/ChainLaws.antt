-- Laws of chains of casts: what comes out and what goes back, and to which numbers it is congruent.
use Rattle.std.proofs.Common.{◌≡◌, ℕ, ◌^◌, ◌≤◌, List, [], ◌∷◌, ◌++◌, length, drop, refl, ap, subst, arith}
use Rattle.std.proofs.Math.ListN.{drop_of_length-le}
use Rattle.std.proofs.Math.Nat.{min_comm}
use Rattle.cells.specs.Numbers.{bits_of, number_of, IsWord, IsCongruent, conv_word}
use Rattle.cells.specs.declared.dtype.Dtype.{Dtype}
use Rattle.cells.proofs.Laws.{IsWord-conv_word, IsConverted-conv_word, IsConverted-unique, same_from_number}
use Rattle.cast_driver.specs.declared.cast.Cast.{Cast}
use Rattle.cast_driver.specs.Chain.{BeginsWith, AreJoined, dtype_after, word_out, word_back, fewest_bits_out, fewest_bits_back, NoneNarrower}
use Rattle.cast_driver.proofs.CongruenceLaws.{IsCongruent-refl, IsCongruent-trans, IsCongruent-fewer, IsCongruent-steps}

-- what goes back through one cast more at the end
pub word_back-push : (casts : List Cast) (cast : Cast) (word : ℕ) → word_back (casts ++ cast ∷ []) word ≡ word_back casts (conv_word cast.to word cast.from)
word_back-push [] cast word = refl
word_back-push (next ∷ casts) cast word = ap (λ w. conv_word next.to w next.from) (word_back-push casts cast word)

-- what comes out through one cast more at the end
pub word_out-push : (casts : List Cast) (cast : Cast) (word : ℕ) → word_out (casts ++ cast ∷ []) word ≡ conv_word cast.from (word_out casts word) cast.to
word_out-push [] cast word = refl
word_out-push (next ∷ casts) cast word = word_out-push casts cast (conv_word next.from word next.to)

pub dtype_after-push : (casts : List Cast) (base : Dtype) (cast : Cast) → dtype_after base (casts ++ cast ∷ []) ≡ cast.to
dtype_after-push [] base cast = refl
dtype_after-push (next ∷ casts) base cast = dtype_after-push casts next.to cast

-- a cast that takes up what comes out may be put at the end
pub BeginsWith-push : (casts : List Cast) (base : Dtype) (cast : Cast) → BeginsWith base casts → cast.from ≡ dtype_after base casts → BeginsWith base (casts ++ cast ∷ [])
BeginsWith-push [] base cast begins goes_on = goes_on
BeginsWith-push (next ∷ casts) base cast begins goes_on = begins

pub AreJoined-push : (casts : List Cast) (base : Dtype) (cast : Cast) → AreJoined casts → cast.from ≡ dtype_after base casts → AreJoined (casts ++ cast ∷ [])
AreJoined-push [] base cast are goes_on = (tt, tt)
AreJoined-push (next ∷ casts) base cast are goes_on = (BeginsWith-push casts next.to cast are.0 goes_on, AreJoined-push casts next.to cast are.1 goes_on)

-- where no cast is left, the word stays
pub word_out-done : (casts : List Cast) (i word : ℕ) → length casts ≤ i → word_out (drop i casts) word ≡ word
word_out-done casts i word done = ap (λ left. word_out left word) (drop_of_length-le casts done)

pub word_back-done : (casts : List Cast) (word : ℕ) → length casts ≡ 0 → word_back casts word ≡ word
word_back-done [] word done = refl
word_back-done (cast ∷ casts) word done = absurd (omega (arith, done))

-- a word of the first dtype comes out as one of the last
pub IsWord-word_out : (casts : List Cast) (base : Dtype) (word : ℕ) → IsWord base word → IsWord (dtype_after base casts) (word_out casts word)
IsWord-word_out [] base word is = is
IsWord-word_out (cast ∷ casts) base word is = IsWord-word_out casts cast.to _ (IsWord-conv_word cast.from word cast.to)

-- a word of the last dtype goes back as one of the first
pub IsWord-word_back : (casts : List Cast) (base : Dtype) (word : ℕ) → BeginsWith base casts → IsWord (dtype_after base casts) word → IsWord base (word_back casts word)
IsWord-word_back [] base word begins is = is
IsWord-word_back (cast ∷ casts) base word begins is =
    subst (λ dtype. IsWord dtype (conv_word cast.to (word_back casts word) cast.from)) begins (IsWord-conv_word cast.to (word_back casts word) cast.from)

-- the number that comes out is congruent to the one that is kept
pub IsCongruent-word_out : (casts : List Cast) (base : Dtype) (word : ℕ) → AreJoined casts → BeginsWith base casts
    → IsCongruent (2 ^ fewest_bits_out casts) (number_of base word) (number_of (dtype_after base casts) (word_out casts word))
IsCongruent-word_out [] base word are begins = IsCongruent-refl _ _
IsCongruent-word_out (cast ∷ casts) base word are begins =
    let next = conv_word cast.from word cast.to in
    let first =
    subst (λ dtype. IsCongruent (2 ^ bits_of cast.to) (number_of dtype word) (number_of cast.to next)) begins
    (IsConverted-conv_word cast.from word cast.to next refl).congruent in
    IsCongruent-steps (bits_of cast.to) (fewest_bits_out casts) _ _ _ first (IsCongruent-word_out casts cast.to next are.1 are.0)

-- the number that is kept is congruent to the one that goes back
pub IsCongruent-word_back : (casts : List Cast) (base : Dtype) (word : ℕ) → AreJoined casts → BeginsWith base casts
    → IsCongruent (2 ^ fewest_bits_back casts) (number_of (dtype_after base casts) word) (number_of base (word_back casts word))
IsCongruent-word_back [] base word are begins = IsCongruent-refl _ _
IsCongruent-word_back (cast ∷ casts) base word are begins =
    let next = word_back casts word in
    let kept = conv_word cast.to next cast.from in
    let last =
    subst (λ dtype. IsCongruent (2 ^ bits_of cast.from) (number_of cast.to next) (number_of dtype kept)) begins
    (IsConverted-conv_word cast.to next cast.from kept refl).congruent in
    let outcome =
    IsCongruent-steps (fewest_bits_back casts) (bits_of cast.from) _ _ _ (IsCongruent-word_back casts cast.to word are.1 are.0) last in
    subst (λ fewer. IsCongruent (2 ^ fewer) (number_of (dtype_after cast.to casts) word) (number_of base kept)) (min_comm _ _) outcome

-- what was written comes out again where no dtype on the way is narrower
pub word_out-word_back : (casts : List Cast) (base : Dtype) (word : ℕ) → AreJoined casts → BeginsWith base casts → IsWord (dtype_after base casts) word
    → NoneNarrower (dtype_after base casts) casts → word_out casts (word_back casts word) ≡ word
word_out-word_back casts base word are begins is wide =
    let last = dtype_after base casts in
    let kept = word_back casts word in
    let shown = word_out casts kept in
    let back = IsCongruent-fewer (bits_of last) (fewest_bits_back casts) _ _ wide.1 (IsCongruent-word_back casts base word are begins) in
    let out = IsCongruent-fewer (bits_of last) (fewest_bits_out casts) _ _ wide.0 (IsCongruent-word_out casts base kept are begins) in
    let again = IsWord-word_out casts base kept (IsWord-word_back casts base word begins is) in
    let both = IsCongruent-trans (2 ^ bits_of last) _ _ _ back out in
    let same = IsConverted-unique last (number_of last word) (number_of last shown) (number_of last word)
    (record { in_range = again.held; congruent = both }) (record { in_range = is.held; congruent = IsCongruent-refl _ _ }) in
    same_from_number last shown word again is same
