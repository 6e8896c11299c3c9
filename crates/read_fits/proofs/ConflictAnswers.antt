-- What a text tells of a conflict.
use Rattle.std.proofs.Common.{◌≡◌, ◌∙◌, ℕ, List, Bool, true, false, Some, None, sym, ap, subst}
use Rattle.std.specs.Prelude.{◌↔◌, IsTrue, codes}
use Rattle.serde_json.specs.Data.{Data}
use Rattle.serde_json.specs.Find.{get}
use Rattle.history.specs.Commit.{Key}
use Rattle.history.proofs.Laws.{some_inj}
use Rattle.line_fits.specs.Answers.{answer_data, conflict_data}
use Rattle.line_fits.specs.Text.{answer_text}
use Rattle.line_fits.specs.declared.Body.TheVariants as printed
use Rattle.read_fits.specs.Conflicts.{IsConflictText, TellsConflict, key_in, number_in}
use Rattle.read_fits.specs.declared.conflicts.Conflict.{Conflict}

-- an answer without a conflict tells of none
pub without : (line : ℕ) (text : List ℕ) (d : Data) → get (codes "conflict") d ≡ None → TellsConflict line text d None
without line text d none key read now is =
    let some : get (codes "conflict") d ≡ Some (conflict_data key read now) = ap (get (codes "conflict")) is.object in
    absurd (cc)

module _ (line : ℕ) (text : List ℕ) (d found : Data) (there : get (codes "conflict") d ≡ Some found) where
  found_is : (key : Key) (read now : ℕ) → IsConflictText line text d key read now → found ≡ conflict_data key read now
  found_is key read now is = some_inj found (conflict_data key read now) (sym there ∙ ap (get (codes "conflict")) is.object)

  key_told : (key : Key) (read now : ℕ) → IsConflictText line text d key read now → key_in found ≡ Some key
  key_told key read now is = ap key_in (found_is key read now is)

  read_told : (key : Key) (read now : ℕ) → IsConflictText line text d key read now → number_in (codes "read") found ≡ Some read
  read_told key read now is = ap (number_in (codes "read")) (found_is key read now is)

  now_told : (key : Key) (read now : ℕ) → IsConflictText line text d key read now → number_in (codes "now") found ≡ Some now
  now_told key read now is = ap (number_in (codes "now")) (found_is key read now is)

  -- without one of the three it tells of none
  pub no_key : key_in found ≡ None → TellsConflict line text d None
  no_key none key read now is = let clash : None ≡ Some key = sym none ∙ key_told key read now is in absurd (cc)

  pub no_read : number_in (codes "read") found ≡ None → TellsConflict line text d None
  no_read none key read now is = let clash : None ≡ Some read = sym none ∙ read_told key read now is in absurd (cc)

  pub no_now : number_in (codes "now") found ≡ None → TellsConflict line text d None
  no_now none key read now is = let clash : None ≡ Some now = sym none ∙ now_told key read now is in absurd (cc)

  -- a text of these three
  abbrev pub IsTextOf : Key → ℕ → ℕ → Type 0
  IsTextOf key read now =
      (text ≡ answer_text (record { line = line; body = printed.Conflict key read now })) × (d ≡ answer_data (record { line = line; body = printed.Conflict key read now }))

  module _ (key : Key) (read now : ℕ) (key_is : key_in found ≡ Some key) (read_is : number_in (codes "read") found ≡ Some read) (now_is : number_in (codes "now") found ≡ Some now) where
    same_key : (k : Key) (r n : ℕ) → IsConflictText line text d k r n → k ≡ key
    same_key k r n is = some_inj k key (sym (key_told k r n is) ∙ key_is)

    same_read : (k : Key) (r n : ℕ) → IsConflictText line text d k r n → r ≡ read
    same_read k r n is = some_inj r read (sym (read_told k r n is) ∙ read_is)

    same_now : (k : Key) (r n : ℕ) → IsConflictText line text d k r n → n ≡ now
    same_now k r n is = some_inj n now (sym (now_told k r n is) ∙ now_is)

    -- the text is another one
    pub none_told : (is : Bool) → is ≡ false → IsTrue is ↔ IsTextOf key read now → TellsConflict line text d None
    none_told is so test k r n told =
        let moved = subst (λ (m : Key). IsTextOf m r n) (same_key k r n told) (told.printed, told.object) in
        let turned = subst (λ m. IsTextOf key m n) (same_read k r n told) moved in
        let whole = subst (λ m. IsTextOf key read m) (same_now k r n told) turned in
        let clash : true ≡ false = sym (test.1 whole) ∙ so in
        absurd (cc)

    -- the text is this one
    pub one_told : (c : Conflict) (is : Bool) → is ≡ true → c.key ≡ key → c.read ≡ read → c.touch ≡ now → IsTrue is ↔ IsTextOf key read now → TellsConflict line text d (Some c)
    one_told c is so key_same read_same now_same test =
        let whole = test.0 so in
        let by_now = subst (λ m. IsTextOf key read m) (sym now_same) whole in
        let by_read = subst (λ m. IsTextOf key m c.touch) (sym read_same) by_now in
        let by_key = subst (λ (m : Key). IsTextOf m c.read c.touch) (sym key_same) by_read in (
          record { printed = by_key.0; object = by_key.1 },
          λ k r n told. (same_key k r n told ∙ sym key_same, same_read k r n told ∙ sym read_same, same_now k r n told ∙ sym now_same),
        )
