-- A line with the answer to a line of a script.
use Rattle.std.specs.Prelude.{◌≡◌, ℕ, pos, List, [], ◌∷◌, ◌++◌, Bool, true, false, ◌||◌, ◌==◌, Some, option_and_then, codes, IsTrue, if◌then◌else◌}
use Rattle.std.specs.List.{list_any}
use Rattle.serde_json.specs.Data.{Data, Members}
use Rattle.serde_json.specs.Find.{get, as_object}
use Rattle.json_forms.specs.Bytes.{data_of}
use Rattle.json_forms.specs.Numbers.{whole_number}

-- what a byte of JSON is read in: outside of texts, in a text, or behind a backslash in one
pub data Reading : Type 0 where
  outside : Reading
  inside : Reading
  escaped : Reading

-- a space, a tab, an LF or a CR
abbrev pub is_white : ℕ → Bool
is_white b = b == 32 || (b == 9 || (b == 10 || b == 13))

-- from there on, no white space stands outside of texts
abbrev pub is_compact : Reading → List ℕ → Bool
is_compact reading [] = true
is_compact outside (b ∷ bytes) = if is_white b then false else is_compact (if b == 34 then inside else outside) bytes
is_compact inside (b ∷ bytes) = is_compact (if b == 92 then escaped else (if b == 34 then outside else inside)) bytes
is_compact escaped (b ∷ bytes) = is_compact inside bytes

-- the bytes are an object, without white space between its tokens; of a repeated member the last counts
pub record IsCompactObject (bytes : List ℕ) (data_is : Data) : Type 0 where
  pub json : data_of bytes ≡ Some data_is
  pub members : Members
  pub object : as_object data_is ≡ Some members
  pub compact : IsTrue (is_compact outside bytes)

-- an LF stands among the bytes
abbrev pub has_lf : List ℕ → Bool
has_lf bytes = list_any (λ b. b == 10) bytes

-- the text is one line, with its LF: a compact object that has the number of a script's line
pub record IsAnswerText (number : ℕ) (text : List ℕ) (data_is : Data) : Type 0 where
  pub bytes : List ℕ
  pub line : text ≡ bytes ++ 10 ∷ []
  pub one_line : has_lf bytes ≡ false
  pub object : IsCompactObject bytes data_is
  pub numbered : option_and_then whole_number (get (codes "line") data_is) ≡ Some (pos number)
