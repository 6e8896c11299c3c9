-- What words ask for, and the scripts that are read of it.
use Rattle.std.proofs.Common.{◌≡◌, ◌≤◌, ◌<◌, ◌-◌, ◌^◌, ℕ, List, Option, Ok, Err, length, drop, take, get_or, sym, ap, subst, ◌∙◌, arith}
use Rattle.std.specs.Prelude.{All, Result, String, string_bytes, Vec}
use Rattle.std.specs.declared.alloc.Global.{Global}
use Rattle.std.proofs.lemmas.List.{take_rest, length-map, length-drop, drop-map, get_or-map}
use Rattle.std.proofs.lemmas.List.FromFn.{length-map-range_with_len}
use Rattle.kv_face.specs.Store.{Contents}
use Rattle.made_scripts.specs.Scripts.{made, script_of}
use Rattle.made_scripts.proofs.Laws.{made_short}
use Rattle.run_words.specs.Options.{Text, texts_of}
use Rattle.run_words.specs.Words.{IsSettings, KeepsLimits, HasFilesFrom}
use Rattle.run_words.specs.declared.settings.Input.{Input}
use Rattle.run_words.specs.declared.settings.Input.TheVariants.{Files, Made}
use Rattle.run_words.specs.declared.settings.Settings.{Settings}
use Rattle.run_words.specs.declared.error.WordsError.{WordsError}
use Rattle.script_runner.specs.Asked.{AskFor, AskToMake, AreRefused, HasAsked, IsAnsweredBy, IsUnread, IsUnreadFile}
use Rattle.script_runner.specs.declared.outcome.Outcome.{Outcome}
use Rattle.script_streams.specs.Asking.{Gives}
use Rattle.script_streams.specs.Reading.{AreShort, texts_in}
use Rattle.script_streams.specs.declared.reading.Unread.{Unread}
use Rattle.script_streams.specs.declared.reading.Unread.TheVariants.{Failed, TooLong, Memory}

-- the texts of the words from a place on, as a slice has them
pub texts_from : (ws : List (String Global)) (n : ℕ) → texts_of (take (length ws - n) (drop n ws)) ≡ drop n (texts_of ws)
texts_from ws n = ap texts_of (take_rest ws n) ∙ sym (drop-map string_bytes n ws)

-- words that have settings with files ask for these files
pub ask_for : (ws : List (String Global)) (s : Settings) (first : ℕ) → IsSettings (texts_of ws) s → s.input ≡ Files first → AskFor (texts_of ws) (texts_of (take (length ws - first) (drop first ws)))
ask_for ws s first is from = record { settings = s; asked = is; first = first; from = from; are = texts_from ws first }

-- words that have settings with a number ask for the scripts that are made from it
pub ask_to_make : (words : List Text) (s : Settings) (number : ℕ) → IsSettings words s → s.input ≡ Made number → AskToMake words number
ask_to_make words s number is from = record { settings = s; asked = is; from = from }

same_input : (r : Result Settings WordsError) (s t : Settings) → r ≡ Ok s → r ≡ Ok t → s.input ≡ t.input
same_input r s t is other = let same : s ≡ t = cc in ap (λ (x : Settings). x.input) same

-- what holds of the input that was read holds of that of all settings that the words have
pub of_input : (P : Input → Type 0) (words : List Text) (r : Result Settings WordsError) (t : Settings) (input : Input) → ((s : Settings) → IsSettings words s → r ≡ Ok s) → r ≡ Ok t → t.input ≡ input → P input → (s : Settings) → IsSettings words s → P s.input
of_input P words r t input only is at holds s has = subst P (sym (same_input r s t (only s has) is ∙ at)) holds

files_none : (s t : Settings) (r : Result Settings WordsError) (number first : ℕ) → r ≡ Ok s → r ≡ Ok t → s.input ≡ Made number → t.input ≡ Files first → ⊥
files_none s t r number first is other made files = let two : Files first ≡ Made number = sym files ∙ same_input r t s other is ∙ made in let no_such : ⊥ = cc in no_such

-- words that ask for files ask for no scripts that are made
pub files_asked : (words : List Text) (r : Result Settings WordsError) (t : Settings) (first number : ℕ) → ((s : Settings) → IsSettings words s → r ≡ Ok s) → r ≡ Ok t → t.input ≡ Files first → AskToMake words number → ⊥
files_asked words r t first number only is files asked = files_none asked.settings t r number first (only asked.settings asked.asked) is asked.from files

-- words that ask for scripts that are made ask for no files
pub made_asked : (words files : List Text) (r : Result Settings WordsError) (t : Settings) (number : ℕ) → ((s : Settings) → IsSettings words s → r ≡ Ok s) → r ≡ Ok t → t.input ≡ Made number → AskFor words files → ⊥
made_asked words files r t number only is made asked = files_none t asked.settings r number asked.first is (only asked.settings asked.asked) made asked.from

one_first : (a b : ℕ) → Files a ≡ Files b → a ≡ b
one_first a b is = cc

-- the files that words ask for are those from the place that was read
pub same_files : (ws : List (String Global)) (r : Result Settings WordsError) (t : Settings) (first : ℕ) (files : List Text) → ((s : Settings) → IsSettings (texts_of ws) s → r ≡ Ok s) → r ≡ Ok t → t.input ≡ Files first → AskFor (texts_of ws) files
    → files ≡ texts_of (take (length ws - first) (drop first ws))
same_files ws r t first files only is at asked =
    let place : asked.first ≡ first = one_first asked.first first (sym asked.from ∙ same_input r asked.settings t (only asked.settings asked.asked) is ∙ at) in
    asked.are ∙ ap (λ n. drop n (texts_of ws)) place ∙ sym (texts_from ws first)

error_none : (s : Settings) (e : WordsError) (r : Result Settings WordsError) → r ≡ Ok s → r ≡ Err e → ⊥
error_none s e r is other = let two : Ok s ≡ Err e = sym is ∙ other in let no_such : ⊥ = cc in no_such

-- words that are refused ask for nothing
pub error_asks : (words : List Text) (r : Result Settings WordsError) (e : WordsError) → ((s : Settings) → IsSettings words s → r ≡ Ok s) → r ≡ Err e → AreRefused words
error_asks words r e only is = λ s asked. error_none s e r (only s asked) is

-- the files of settings are 1 to 1,024
pub count_of_files : (ws : List (String Global)) (s : Settings) (first : ℕ) → KeepsLimits (texts_of ws) s → s.input ≡ Files first → (0 < length (take (length ws - first) (drop first ws))) × (length (take (length ws - first) (drop first ws)) ≤ 1024)
count_of_files ws s first limits from =
    let within : HasFilesFrom (texts_of ws) (Files first) = subst (HasFilesFrom (texts_of ws)) from limits.files in
    let whole = length-map ws string_bytes in
    let slice = ap length (take_rest ws first) ∙ length-drop first ws in
    (omega (arith, within.0, whole, slice), omega (arith, within.1, whole, slice))

-- where these files are asked for, a script of theirs that is unread is one of the words
pub unread_asked : (contents : Option Contents) (words files : List Text) (before now : ℕ) (place : Option ℕ) → AskFor words files → IsUnreadFile contents files before now place → IsUnread contents words before now place
unread_asked contents words files before now place asked unread = record { files = files; asked = asked; unread = unread }

-- as many texts as were read
pub texts_count : (read : List (Vec ℕ Global)) → length (texts_in read) ≡ length read
texts_count read = length-map read (λ v. v.items)

-- short texts are short enough to be run
pub short_each : (read : List (Vec ℕ Global)) → AreShort (texts_in read) → All (λ s. length s.items < 2 ^ 62) read
short_each read short k d within =
    let at = short.each k (d.items) (omega (arith, within, texts_count read)) in
    let is = get_or-map (λ v. v.items) read k d d.items within in
    omega (arith, at, ap length is)

-- nine scripts are made
pub made_count : (number : ℕ) (texts : List (Vec ℕ Global)) → texts_in texts ≡ made number → length texts ≡ 9
made_count number texts are = sym (texts_count texts) ∙ ap length are ∙ length-map-range_with_len (script_of number) 0 9

-- and they are short enough to be run
pub made_each : (number : ℕ) (texts : List (Vec ℕ Global)) → texts_in texts ≡ made number → All (λ s. length s.items < 2 ^ 62) texts
made_each number texts are k d within =
    let low : k < length (made number) = subst (λ ts. k < length ts) are (subst (λ n. k < n) (sym (texts_count texts)) within) in
    let at = made_short number k (d.items) low in
    let is = sym (ap (λ ts. get_or ts k (d.items)) are) ∙ get_or-map (λ v. v.items) texts k d d.items within in
    omega (arith, at, ap length is)

answered_more : (outcome : Outcome) (ran other : List (List ℕ) → Type 0) (answer : Result (Vec (Vec ℕ Global) Global) Unread) → ((texts : List (List ℕ)) → ran texts → other texts) → IsAnsweredBy outcome ran answer → IsAnsweredBy outcome other answer
answered_more outcome ran other (Ok texts) more is = (is.0, λ some. more (texts_in texts.items) (is.1 some))
answered_more outcome ran other (Err (Failed place)) more is = is
answered_more outcome ran other (Err (TooLong place)) more is = is
answered_more outcome ran other (Err Memory) more is = is

-- scripts that were asked for, where more holds of what was run
pub asked_more : {X : Type 0} (gives : Gives X) (from : X) (files : List (List ℕ)) (outcome : Outcome) (ran other : List (List ℕ) → Type 0) (to : X) → ((texts : List (List ℕ)) → ran texts → other texts) → HasAsked gives from files outcome ran to
    → HasAsked gives from files outcome other to
asked_more gives from files outcome ran other to more is = record { answer = is.answer; asked = is.asked; answered = answered_more outcome ran other is.answer more is.answered }
