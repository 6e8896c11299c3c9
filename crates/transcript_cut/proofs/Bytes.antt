-- Compact JSON, byte by byte.
use Rattle.std.proofs.Common.{◌≡◌, ℕ, List, ◌∷◌, Bool, true, false, cond, Option, Some, None, refl, sym, subst}
use Rattle.std.specs.Prelude.{◌==◌}
use Rattle.transcript_laws.specs.AnswerLines as json
use Rattle.transcript_laws.specs.AnswerLines.{is_white, is_compact}
use Rattle.transcript_cut.specs.Readings.{reading_of, reading_after}
use Rattle.transcript_cut.specs.declared.compact.Reading.{Reading}
use Rattle.transcript_cut.specs.declared.compact.Reading.TheVariants.{Outside, Inside, Escaped}

-- the answer is that of the rest behind the next reading, and no behind none
abbrev pub IsRest : List ℕ → Bool → Option Reading → Type 0
IsRest bytes answer None = answer ≡ false
IsRest bytes answer (Some next) = answer ≡ is_compact (reading_of next) bytes

outside_by : (bytes : List ℕ) (white quote : Bool) → IsRest bytes (cond white false (is_compact (cond quote json.inside json.outside) bytes)) (cond white None (cond quote (Some Inside) (Some Outside)))
outside_by bytes true quote = refl
outside_by bytes false true = refl
outside_by bytes false false = refl

inside_by : (bytes : List ℕ) (slash quote : Bool) → IsRest bytes (is_compact (cond slash json.escaped (cond quote json.outside json.inside)) bytes) (cond slash (Some Escaped) (cond quote (Some Outside) (Some Inside)))
inside_by bytes true quote = refl
inside_by bytes false true = refl
inside_by bytes false false = refl

-- one byte
pub one_byte : (reading : Reading) (b : ℕ) (bytes : List ℕ) → IsRest bytes (is_compact (reading_of reading) (b ∷ bytes)) (reading_after reading b)
one_byte Outside b bytes = outside_by bytes (is_white b) (b == 34)
one_byte Inside b bytes = inside_by bytes (b == 92) (b == 34)
one_byte Escaped b bytes = refl

-- the same, where it is known which reading is next
pub goes_on : (reading next : Reading) (b : ℕ) (bytes : List ℕ) → Some next ≡ reading_after reading b → is_compact (reading_of reading) (b ∷ bytes) ≡ is_compact (reading_of next) bytes
goes_on reading next b bytes is = subst (IsRest bytes (is_compact (reading_of reading) (b ∷ bytes))) (sym is) (one_byte reading b bytes)

pub stops : (reading : Reading) (b : ℕ) (bytes : List ℕ) → None ≡ reading_after reading b → is_compact (reading_of reading) (b ∷ bytes) ≡ false
stops reading b bytes is = subst (IsRest bytes (is_compact (reading_of reading) (b ∷ bytes))) (sym is) (one_byte reading b bytes)
