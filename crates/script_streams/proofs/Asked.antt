-- Scripts that are asked for one after another.
use Rattle.std.proofs.Common.{◌≡◌, ◌<◌, ◌≤◌, ◌+◌, ◌^◌, ◌++◌, ◌∷◌, [], ℕ, List, Ok, Err, inl, inr, length, take, get_or, sym, subst, refl, arith}
use Rattle.std.specs.Prelude.{sum_by, Vec}
use Rattle.std.specs.declared.alloc.Global.{Global}
use Rattle.std.proofs.lemmas.List.{take_more, take_all}
use Rattle.kv_face.specs.declared.reading.ReadError.TheVariants as read
use Rattle.script_streams.specs.Asking.{Gives, AreGiven, IsRun, IsAnswerAt}
use Rattle.script_streams.specs.Reading.{texts_in}
use Rattle.script_streams.specs.declared.reading.Unread.{Unread}
use Rattle.script_streams.specs.declared.reading.Unread.TheVariants.{Failed, TooLong, Memory}

module _ {X : Type 0} (gives : Gives X) where
  -- one text more
  more_given : (from between to : X) (names : List (List ℕ)) (name : List ℕ) (texts : List (Vec ℕ Global)) (text : Vec ℕ Global)
      → AreGiven gives from names texts between → gives between name (Ok text) to → AreGiven gives from (names ++ name ∷ []) (texts ++ text ∷ []) to
  more_given from between to [] name [] text given last = (to, subst (λ x. gives x name (Ok text) to) (sym given) last, refl)
  more_given from between to [] name (t ∷ texts) text given last = absurd given
  more_given from between to (n ∷ names) name [] text given last = absurd given
  more_given from between to (n ∷ names) name (t ∷ texts) text given last =
      (given.0, given.1, more_given given.0 between to names name texts text given.2 last)

  -- the text at a place stands behind those of the names before it
  pub given_more : (from between to : X) (names : List (List ℕ)) (name : List ℕ) (texts grown : List (Vec ℕ Global)) (text : Vec ℕ Global) (place : ℕ)
      → place < length names → name ≡ get_or names place [] → grown ≡ texts ++ text ∷ []
      → AreGiven gives from (take place names) texts between → gives between name (Ok text) to → AreGiven gives from (take (place + 1) names) grown to
  given_more from between to names name texts grown text place within named is given last =
      subst (λ ts. AreGiven gives from (take (place + 1) names) ts to) (sym is)
      (subst (λ ns. AreGiven gives from ns (texts ++ text ∷ []) to) (sym (take_more names place [] within))
      (more_given from between to (take place names) (get_or names place []) texts text given (subst (λ n. gives between n (Ok text) to) named last)))

  -- all texts were given
  pub all_given : (from to : X) (names : List (List ℕ)) (texts : List (Vec ℕ Global)) (place : ℕ) → length names ≤ place
      → AreGiven gives from (take place names) texts to → AreGiven gives from names texts to
  all_given from to names texts place past given = subst (λ ns. AreGiven gives from ns texts to) (take_all place names past) given

  -- the answer where one name had no text
  pub run_ended : (from between to : X) (names : List (List ℕ)) (name : List ℕ) (texts : List (Vec ℕ Global)) (room place : ℕ) (e : Unread)
      → name ≡ get_or names place [] → room + sum_by length (texts_in texts) ≡ 2 ^ 28
      → AreGiven gives from (take place names) texts between → IsAnswerAt gives between name room place (Err e) to → IsRun gives from names (Err e) to
  run_ended from between to names name texts room place (Failed at) named all given answer =
      subst (λ n. IsRun gives from names (Err (Failed n)) to) (sym answer.0)
      (texts, record { before = between; given = given; last = subst (λ n. gives between n (Err read.Failed) to) named answer.1 })
  run_ended from between to names name texts room place (TooLong at) named all given answer =
      subst (λ n. IsRun gives from names (Err (TooLong n)) to) (sym answer.0) (
        texts,
        elim answer.1 [
          | inl single ↦ inl (record { before = between; given = given; last = subst (λ n. gives between n (Err read.TooLong) to) named single })
          | inr (text, came, long) ↦ inr (text, record { before = between; given = given; last = subst (λ n. gives between n (Ok text) to) named came }, omega (arith, long, all))
        ],
      )
  run_ended from between to names name texts room place Memory named all given answer =
      (place, texts, inr (record { before = between; given = given; last = subst (λ n. gives between n (Err read.Memory) to) named answer }))
