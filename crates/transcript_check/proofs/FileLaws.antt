-- Files that were read one after another.
use Rattle.std.proofs.Common.{◌≡◌, ◌∙◌, ◌≤◌, ◌<◌, ◌+◌, ◌^◌, ℕ, List, [], ◌∷◌, ◌++◌, inl, inr, length, take, take-take, suc, get_or, Option, Some, refl, sym, ap, subst, arith}
use Rattle.std.specs.Prelude.{map, sum_by, Vec}
use Rattle.std.specs.FinMap as finmap
use Rattle.std.specs.declared.alloc.Global.{Global}
use Rattle.std.proofs.lemmas.List.{map-append, take-append-le, take-map, take_all, take_more}
use Rattle.std.proofs.lemmas.List.Elements.{All-append, All-tail}
use Rattle.std.proofs.lemmas.List.Sums.{sum_by-append, sum_by-take-le}
use Rattle.kv_face.specs.Store.{Contents}
use Rattle.kv_face.specs.Streams.{Rises, WhereTold}
use Rattle.script_streams.specs.Reading.{AreScripts, AreShort, CanBeRead, IsCause, IsFailure, IsPassedAt, texts_in}
use Rattle.script_streams.specs.declared.reading.Unread.{Unread}
use Rattle.script_streams.specs.declared.reading.Unread.TheVariants.{Failed, TooLong, Memory}
use Rattle.script_streams.proofs.Laws.{never_passed}
use Rattle.transcript_check.specs.CheckRuns.{IsCauseBy, IsTooLongBy, PassLimit}

-- scripts of names, and of others behind them
pub scripts_both : (told : Contents) (first rest texts others : List (List ℕ)) → AreScripts told first texts → AreScripts told rest others → AreScripts told (first ++ rest) (texts ++ others)
scripts_both told first rest texts others one other =
    map-append (finmap.get told) first rest ∙ ap (λ xs. xs ++ map (finmap.get told) rest) one ∙ ap (λ xs. map Some texts ++ xs) other ∙ sym (map-append Some texts others)

pub short_both : (texts others : List (List ℕ)) → AreShort texts → AreShort others → sum_by length texts + sum_by length others ≤ 2 ^ 28 → AreShort (texts ++ others)
short_both texts others one other together = record {
  each = All-append (λ text. length text ≤ 2 ^ 26) texts others one.each other.each;
  together = omega (arith, together, sum_by-append length texts others);
}

short_tail : (text : List ℕ) (texts : List (List ℕ)) → AreShort (text ∷ texts) → AreShort texts
short_tail text texts is = record {
  each = All-tail (λ t. length t ≤ 2 ^ 26) text texts is.each;
  together = let all = is.together in omega (arith, all, sum_by-append length (text ∷ []) texts);
}

-- where all can be read, so can those behind the first ones
rest_of_all : (told : Contents) (first rest texts : List (List ℕ)) → AreScripts told (first ++ rest) texts → AreShort texts → CanBeRead told rest
rest_of_all told [] rest texts are short = record { texts = texts; scripts = are; short = short }
rest_of_all told (name ∷ first) rest [] are short = absurd (cc)
rest_of_all told (name ∷ first) rest (text ∷ texts) are short =
    let behind : map (finmap.get told) (first ++ rest) ≡ map Some texts = cc in
    rest_of_all told first rest texts behind (short_tail text texts short)

take_behind : (first rest : List (List ℕ)) (n : ℕ) → take (length first + n) (first ++ rest) ≡ first ++ take n rest
take_behind [] rest n = let e : 0 + n ≡ n = omega arith in ap (λ k. take k rest) e
take_behind (name ∷ first) rest n =
    let e : suc (length first) + n ≡ suc (length first + n) = omega arith in
    ap (λ k. take k (name ∷ (first ++ rest))) e ∙ ap (λ names. name ∷ names) (take_behind first rest n)

-- the one at a place among some first names is the same among all
passed_at : (told : Contents) (names : List (List ℕ)) (place : ℕ) → IsPassedAt told names place → IsPassedAt told (take (place + 1) names) place
passed_at told names place is = record {
  before = is.before;
  text = is.text;
  scripts = subst (λ ns. AreScripts told ns (is.before ++ is.text ∷ [])) (sym (take-take (place + 1) (place + 1) names (omega (arith)))) is.scripts;
  short = is.short;
  passed = is.passed;
}

first_passed : (told : Contents) (first rest : List (List ℕ)) (place : ℕ) → place < length first → IsPassedAt told first place → PassLimit told (first ++ rest)
first_passed told first rest place low is =
    let same : take (place + 1) (first ++ rest) ≡ take (place + 1) first = take-append-le (place + 1) first rest (omega (arith, low)) in
    record {
      count = place + 1;
      texts = is.before ++ is.text ∷ [];
      are = subst (λ ns. AreScripts told ns (is.before ++ is.text ∷ [])) (sym same) is.scripts;
      passed = λ read. never_passed told (take (place + 1) first) place (subst (CanBeRead told) same read) (passed_at told first place is);
    }

rest_passed : (told : Contents) (first rest texts : List (List ℕ)) (place : ℕ) → AreScripts told first texts → IsPassedAt told rest place → PassLimit told (first ++ rest)
rest_passed told first rest texts place one is =
    let same : take (length first + (place + 1)) (first ++ rest) ≡ first ++ take (place + 1) rest = take_behind first rest (place + 1) in
    record {
      count = length first + (place + 1);
      texts = texts ++ (is.before ++ is.text ∷ []);
      are =
          subst (λ ns. AreScripts told ns (texts ++ (is.before ++ is.text ∷ []))) (sym same)
          (scripts_both told first (take (place + 1) rest) texts (is.before ++ is.text ∷ []) one is.scripts);
      passed = λ read.
          let all = subst (CanBeRead told) same read in
          never_passed told (take (place + 1) rest) place (rest_of_all told first (take (place + 1) rest) all.texts all.scripts all.short) (passed_at told rest place is);
    }

-- why some first files weren't read
pub first_cause : (contents : Option Contents) (first rest : List (List ℕ)) (before now : ℕ) (e : Unread) → IsCause contents first e → Rises before now (IsFailure e) → IsCauseBy contents (first ++ rest) before now e
first_cause contents first rest before now (Failed place) cause rises = inl (rises.cause tt)
first_cause contents first rest before now (TooLong place) cause rises = inr (λ told held. first_passed told first rest place cause.0 (cause.1 told held))
first_cause contents first rest before now Memory cause rises = tt

-- why those behind them weren't
pub rest_cause : (contents : Option Contents) (first rest texts : List (List ℕ)) (before now : ℕ) (e : Unread) → WhereTold contents (λ told. AreScripts told first texts) → IsCause contents rest e → Rises before now (IsFailure e)
    → IsCauseBy contents (first ++ rest) before now e
rest_cause contents first rest texts before now (Failed place) one cause rises = inl (rises.cause tt)
rest_cause contents first rest texts before now (TooLong place) one cause rises = inr (λ told held. rest_passed told first rest texts place (one told held) (cause.1 told held))
rest_cause contents first rest texts before now Memory one cause rises = tt

same_texts : (xs ys : List (List ℕ)) → map Some xs ≡ map Some ys → xs ≡ ys
same_texts [] [] is = refl
same_texts [] (y ∷ ys) is = absurd (cc)
same_texts (x ∷ xs) [] is = absurd (cc)
same_texts (x ∷ xs) (y ∷ ys) is =
    let behind : map Some xs ≡ map Some ys = cc in
    let rest : xs ≡ ys = same_texts xs ys behind in
    let first : x ≡ y = cc in
    cc

all_passed : (told : Contents) (first rest texts others : List (List ℕ)) → AreScripts told first texts → AreScripts told rest others → 2 ^ 28 < sum_by length (texts ++ others) → PassLimit told (first ++ rest)
all_passed told first rest texts others one other too =
    let whole : take (length (first ++ rest)) (first ++ rest) ≡ first ++ rest = take_all (length (first ++ rest)) (first ++ rest) (omega (arith)) in
    let both = scripts_both told first rest texts others one other in
    record {
      count = length (first ++ rest);
      texts = texts ++ others;
      are = subst (λ ns. AreScripts told ns (texts ++ others)) (sym whole) both;
      passed = λ read.
          let all = subst (CanBeRead told) whole read in
          let same : texts ++ others ≡ all.texts = same_texts (texts ++ others) all.texts (sym both ∙ all.scripts) in
          omega (arith, subst (λ ts. 2 ^ 28 < sum_by length ts) same too, all.short.together);
    }

-- texts that pass the limit together weren't read within it
pub too_long_cause : (contents : Option Contents) (first rest texts others : List (List ℕ)) (before now : ℕ) (e : Unread) → WhereTold contents (λ told. AreScripts told first texts) → WhereTold contents (λ told. AreScripts told rest others) → IsTooLongBy (texts ++ others) e → IsCauseBy contents (first ++ rest) before now e
too_long_cause contents first rest texts others before now (Failed place) one other too = absurd too
too_long_cause contents first rest texts others before now (TooLong place) one other too =
    inr (λ told held. all_passed told first rest texts others (one told held) (other told held) too)
too_long_cause contents first rest texts others before now Memory one other too = tt

-- what failed behind a first call failed behind what was before it
pub cause_later : (contents : Option Contents) (words : List (List ℕ)) (before middle now : ℕ) (e : Unread) → before ≤ middle → IsCauseBy contents words middle now e → IsCauseBy contents words before now e
cause_later contents words before middle now (Failed place) later (inl (inl less)) = inl (inl (omega (arith, later, less)))
cause_later contents words before middle now (Failed place) later (inl (inr last)) = inl (inr last)
cause_later contents words before middle now (Failed place) later (inr none) = inr none
cause_later contents words before middle now (TooLong place) later (inl (inl less)) = inl (inl (omega (arith, later, less)))
cause_later contents words before middle now (TooLong place) later (inl (inr last)) = inl (inr last)
cause_later contents words before middle now (TooLong place) later (inr none) = inr none
cause_later contents words before middle now Memory later is = tt

-- the bytes of a text more, which are within the limit of all
pub counted_more : (texts : List (Vec ℕ Global)) (i : ℕ) (text d : Vec ℕ Global) → i < length texts → text ≡ get_or texts i d → sum_by length (texts_in (take i texts)) + length text.items ≡ sum_by length (texts_in (take (i + 1) texts))
counted_more texts i text d low is =
    ap (λ (t : Vec ℕ Global). sum_by length (texts_in (take i texts)) + length t.items) is
    ∙ sym (
    ap (λ ts. sum_by length (texts_in ts)) (take_more texts i d low)
    ∙ ap (sum_by length) (map-append (λ v. v.items) (take i texts) (get_or texts i d ∷ []))
    ∙ omega (arith, sum_by-append length (texts_in (take i texts)) ((get_or texts i d).items ∷ []))
    )

pub counted_within : (texts : List (Vec ℕ Global)) (i : ℕ) → AreShort (texts_in texts) → sum_by length (texts_in (take i texts)) ≤ 2 ^ 28
counted_within texts i short = omega (arith, short.together, ap (sum_by length) (take-map (λ v. v.items) i texts), sum_by-take-le length (texts_in texts) i)
