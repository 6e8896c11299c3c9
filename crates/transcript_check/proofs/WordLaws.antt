-- The words of a check.
use Rattle.std.proofs.Common.{◌≤◌, suc, Bool, List, [], ◌∷◌, length, arith}
use Rattle.std.specs.Prelude.{◌↔◌, All, IsTrue, String, string_bytes}
use Rattle.std.specs.List.{AllByRecursion}
use Rattle.std.specs.declared.alloc.Global.{Global}
use Rattle.std.proofs.lemmas.List.{length-map}
use Rattle.std.proofs.lemmas.List.Elements.{All-from_recursion}
use Rattle.script_streams.specs.Reading.{names_in}
use Rattle.transcript_check.specs.CheckWords.{AreCheckWords, IsFileWord}

-- files, word by word and by their bytes
files_by : (words : List (String Global)) → All (λ word. IsFileWord (string_bytes word)) words → AllByRecursion IsFileWord (names_in words)
files_by [] all = tt
files_by (word ∷ words) all = (all 0 word (omega arith), files_by words (λ k d low. all (suc k) d (omega (arith, low))))

each_by : (words : List (String Global)) → AllByRecursion IsFileWord (names_in words) → AllByRecursion (λ word. IsFileWord (string_bytes word)) words
each_by [] all = tt
each_by (word ∷ words) all = (all.0, each_by words all.1)

-- words of which each is a file
pub told_words : (words : List (String Global)) (b : Bool) → 2 ≤ length words → length words ≤ 1025 → (IsTrue b ↔ All (λ word. IsFileWord (string_bytes word)) words)
    → IsTrue b ↔ AreCheckWords (names_in words)
told_words words b least most tells = (
  λ is. record {
    least = omega (arith, least, length-map words (λ n. string_bytes n));
    most = omega (arith, most, length-map words (λ n. string_bytes n));
    files = files_by words (tells.0 is);
  },
  λ are. tells.1 (All-from_recursion (λ word. IsFileWord (string_bytes word)) words (each_by words are.files)),
)

-- too few or too many words are none of a check
pub few_words : (words : List (String Global)) → AreCheckWords (names_in words) → (2 ≤ length words) × (length words ≤ 1025)
few_words words are = (omega (arith, are.least, length-map words (λ n. string_bytes n)), omega (arith, are.most, length-map words (λ n. string_bytes n)))
