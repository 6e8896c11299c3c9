-- Scripts of names, one after another.
use Rattle.std.proofs.Common.{◌≡◌, ◌<◌, ◌≤◌, ◌+◌, ◌^◌, ◌++◌, ◌∷◌, [], ℕ, List, Option, Some, None, inl, inr, length, take, get_or, sym, ap, subst, refl, ◌∙◌, arith, length-append}
use Rattle.std.specs.Prelude.{All, Contains, sum_by, map, String, string_bytes, Vec}
use Rattle.std.specs.declared.alloc.Global.{Global}
use Rattle.std.specs.FinMap as finmap
use Rattle.std.proofs.lemmas.List.{length-map, map_more, map_push, get_or-map, get_or_push, take-map}
use Rattle.std.proofs.lemmas.List.Elements.{All-push, All-same, All-take, All-get_or}
use Rattle.std.proofs.lemmas.List.Sums.{sum_by-append, sum_by-take-le}
use Rattle.kv_face.specs.Store.{Contents}
use Rattle.kv_face.specs.Streams.{WhereTold, IsMissing}
use Rattle.script_streams.specs.Places.{IsCauseAt}
use Rattle.script_streams.specs.Reading.{AreScripts, AreShort, CanBeRead, IsPassedAt, IsCause, names_in, texts_in}
use Rattle.script_streams.specs.declared.reading.Unread.{Unread}
use Rattle.script_streams.specs.declared.reading.Unread.TheVariants.{Failed, TooLong, Memory}

-- the script of one name more
pub one_read : (told : Contents) (names texts : List (List ℕ)) (place : ℕ) (text : List ℕ) → place < length names → AreScripts told (take place names) texts → finmap.get told (get_or names place []) ≡ Some text → AreScripts told (take (place + 1) names) (texts ++ text ∷ [])
one_read told names texts place text within scripts is =
    map_more (finmap.get told) names place [] within ∙ ap (λ ts. ts ++ finmap.get told (get_or names place []) ∷ []) scripts ∙ ap (λ t. map Some texts ++ t ∷ []) is ∙ sym (map_push Some texts text)

-- one text more is within the limits
pub short_more : (texts : List (List ℕ)) (text : List ℕ) → AreShort texts → length text ≤ 2 ^ 26 → sum_by length texts + length text ≤ 2 ^ 28 → AreShort (texts ++ text ∷ [])
short_more texts text short single both = record {
  each = All-push (λ text. length text ≤ 2 ^ 26) texts text short.each single;
  together = omega (arith, both, sum_by-append length texts (text ∷ []));
}

-- why the script at a place was not read, behind those that were
pub cause_at : (contents : Option Contents) (names texts : List (List ℕ)) (room place : ℕ) (e : Unread) → place < length names → WhereTold contents (λ told. AreScripts told (take place names) texts) → AreShort texts → room + sum_by length texts ≡ 2 ^ 28 → IsCauseAt contents (get_or names place []) room place e → IsCause contents names e
cause_at contents names texts room place (Failed at) within scripts short all is =
    subst (λ n. IsCause contents names (Failed n)) (sym is) (within, λ told held. record { texts = texts; scripts = scripts told held; short = short })
cause_at contents names texts room place (TooLong at) within scripts short all is =
    subst (λ n. IsCause contents names (TooLong n)) (sym is.0) (
      within,
      λ told held.
          let long = is.1 told held in
          record {
            before = texts;
            text = long.text;
            scripts = one_read told names texts place long.text within (scripts told held) long.script;
            short = short;
            passed = elim long.passed [ inl single ↦ inl single | inr both ↦ inr (omega (arith, both, all)) ];
          },
    )
cause_at contents names texts room place Memory within scripts short all is = tt

-- as many lists of bytes as names
pub names_count : (names : List (String Global)) → length (names_in names) ≡ length names
names_count names = length-map names (λ n. string_bytes n)

-- the bytes of the name at a place
pub name_at : (names : List (String Global)) (place : ℕ) (name : String Global) (bytes : List ℕ) → place < length names → name ≡ get_or names place name → bytes ≡ string_bytes name → bytes ≡ get_or (names_in names) place []
name_at names place name bytes within is text = text ∙ ap (λ n. string_bytes n) is ∙ sym (get_or-map (λ n. string_bytes n) names place name [] within)

-- the texts of what was read, and of one script more
pub texts_push : (read grown : List (Vec ℕ Global)) (bytes : Vec ℕ Global) → grown ≡ read ++ bytes ∷ [] → texts_in grown ≡ texts_in read ++ bytes.items ∷ []
texts_push read grown bytes is = ap (λ vs. texts_in vs) is ∙ map_push (λ v. v.items) read bytes

-- the script at a place stands behind those of the names before it
pub read_more : (then contents : Option Contents) (names texts grown : List (List ℕ)) (name text : List ℕ) (place : ℕ) → place < length names → then ≡ contents → name ≡ get_or names place [] → grown ≡ texts ++ text ∷ [] → WhereTold contents (λ told. AreScripts told (take place names) texts) → WhereTold then (λ told. finmap.get told name ≡ Some text) → WhereTold contents (λ told. AreScripts told (take (place + 1) names) grown)
read_more then contents names texts grown name text place within stays named more scripts is = λ told held.
    subst (λ ts. AreScripts told (take (place + 1) names) ts) (sym more) (one_read told names texts place text within (scripts told held) (ap (finmap.get told) (sym named) ∙ is told (stays ∙ held)))

-- the texts with one more are within the limits
pub limits_more : (texts grown : List (List ℕ)) (text : List ℕ) → grown ≡ texts ++ text ∷ [] → AreShort texts → length text ≤ 2 ^ 26 → sum_by length texts + length text ≤ 2 ^ 28 → AreShort grown
limits_more texts grown text more short single both = subst (λ ts. AreShort ts) (sym more) (short_more texts text short single both)

-- how long the texts are together with one more
pub sum_more : (texts grown : List (List ℕ)) (text : List ℕ) → grown ≡ texts ++ text ∷ [] → sum_by length grown ≡ sum_by length texts + length text
sum_more texts grown text more = ap (sum_by length) more ∙ omega (arith, sum_by-append length texts (text ∷ []))

-- why the script of the name that stands at the place was not read
pub cause_of : (then contents : Option Contents) (names texts : List (List ℕ)) (name : List ℕ) (room place : ℕ) (e : Unread) → place < length names → then ≡ contents → name ≡ get_or names place [] → WhereTold contents (λ told. AreScripts told (take place names) texts) → AreShort texts → room + sum_by length texts ≡ 2 ^ 28 → IsCauseAt then name room place e → IsCause contents names e
cause_of then contents names texts name room place e within stays named scripts short all is =
    cause_at contents names texts room place e within scripts short all
    (subst (λ n. IsCauseAt contents n room place e) named (subst (λ k. IsCauseAt k name room place e) stays is))

-- the texts of names are as many as the names
texts_count : (told : Contents) (names texts : List (List ℕ)) → AreScripts told names texts → length texts ≡ length names
texts_count told names texts scripts = sym (length-map texts Some) ∙ sym (ap length scripts) ∙ length-map names (finmap.get told)

-- two lists are the same where they are so with each item told to be there
same_somes : (xs ys : List (List ℕ)) → map Some xs ≡ map Some ys → xs ≡ ys
same_somes [] [] is = refl
same_somes [] (y ∷ ys) is = absurd (cc)
same_somes (x ∷ xs) [] is = absurd (cc)
same_somes (x ∷ xs) (y ∷ ys) is =
    let rest : map Some xs ≡ map Some ys = cc in
    let behind = same_somes xs ys rest in
    cc

-- names have one list of texts
pub one_text : (told : Contents) (names texts others : List (List ℕ)) → AreScripts told names texts → AreScripts told names others → texts ≡ others
one_text told names texts others one other = same_somes texts others (sym one ∙ other)

-- a name that is missing has no text
pub never_missing : (contents : Option Contents) (names texts : List (List ℕ)) (name : List ℕ) → WhereTold contents (λ told. AreScripts told names texts) → Contains names name → IsMissing contents name → ⊥
never_missing None names texts name scripts held missing = missing
never_missing (Some told) names texts name scripts (k, within, is) missing =
    let all = scripts told refl in
    let count = texts_count told names texts all in
    let there : get_or (map (finmap.get told) names) k None ≡ None = get_or-map (finmap.get told) names k name None within ∙ ap (finmap.get told) is ∙ missing in
    let text : get_or (map Some texts) k None ≡ Some (get_or texts k []) = get_or-map Some texts k [] None (omega (arith, count, within)) in
    absurd (cc (ap (λ ts. get_or ts k None) all, there, text))

-- where names can be read, no place passes a limit
pub never_passed : (told : Contents) (names : List (List ℕ)) (place : ℕ) → CanBeRead told names → IsPassedAt told names place → ⊥
never_passed told names place read passed =
    let front : AreScripts told (take (place + 1) names) (take (place + 1) read.texts) = sym (take-map (finmap.get told) (place + 1) names) ∙ ap (take (place + 1)) read.scripts ∙ take-map Some (place + 1) read.texts in
    let same : take (place + 1) read.texts ≡ passed.before ++ passed.text ∷ [] = one_text told (take (place + 1) names) _ _ front passed.scripts in
    elim passed.passed [
      | inl single ↦
          let each : All (λ text. length text ≤ 2 ^ 26) (passed.before ++ passed.text ∷ []) = All-same (λ text. length text ≤ 2 ^ 26) _ _ (sym same) (All-take (λ text. length text ≤ 2 ^ 26) (place + 1) read.texts read.short.each) in
          let last : length passed.text ≤ 2 ^ 26 = subst (λ (t : List ℕ). length t ≤ 2 ^ 26) (get_or_push passed.before passed.text [] (length passed.before) refl) (All-get_or (λ text. length text ≤ 2 ^ 26) _ (length passed.before) [] (omega (arith, length-append passed.before (passed.text ∷ []))) each) in
          absurd (omega (arith, single, last))
      | inr both ↦ absurd (omega (arith, both, ap (sum_by length) same, sum_by-append length passed.before (passed.text ∷ []), sum_by-take-le length read.texts (place + 1), read.short.together))
    ]
