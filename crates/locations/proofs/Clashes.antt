-- What a table says of a location: the least one that clashes with it.
use Rattle.std.proofs.Common.{◌≡◌, ℕ, suc, ◌<◌, List, [], ◌∷◌, ◌++◌, length, Bool, true, false, cond, Option, Some, None, ◌⊎◌, inl, inr, refl, sym, ap, subst, ◌∙◌, arith, eqb-true, eq-eqb, append_assoc}
use Rattle.std.specs.Prelude.{◌==◌, ◌||◌}
use Rattle.std.specs.Ordering.{is_lt}
use Rattle.std.specs.FinMap as finmap
use Rattle.locations.specs.Paths.{Located, begins, is_below, clashes, IsLeastClash, HasNoClash, IsFirstAbove, HasNoneAbove, AreApart}
use Rattle.locations.specs.Tables.{Table, place_at, numbers_of, AreNamed, first_or, first_above, IsLeastBelow}
use Rattle.locations.specs.declared.table.Place.{Place}
use Rattle.locations.proofs.Tables.{number_some, number_none, place_of}
use Rattle.locations.proofs.Texts.{true_or_false, less_or_not, cmp, behind, begins_split, begins_whole, longer}

-- the part that was found, and that no shorter one is there
pub record IsFirst (at : List ℕ → Option Place) (before rest : List ℕ) (text : Place) : Type 0 where
  pub more : List ℕ
  pub tail : List ℕ
  pub parts : rest ≡ more ++ 47 ∷ tail
  pub there : at (before ++ more) ≡ Some text
  pub first : (less other : List ℕ) → rest ≡ less ++ 47 ∷ other → length less < length more → at (before ++ less) ≡ None

module _ (at : List ℕ → Option Place) where
  shifted : (before : List ℕ) (b : ℕ) (more : List ℕ) → (before ++ b ∷ []) ++ more ≡ before ++ b ∷ more
  shifted before b more = append_assoc before (b ∷ []) more

  nothing_more : (before : List ℕ) → before ++ [] ≡ before
  nothing_more [] = refl
  nothing_more (x ∷ xs) = ap (λ ys. x ∷ ys) (nothing_more xs)

  -- one byte further
  past : (before rest : List ℕ) (text : Place) (b : ℕ) → ((b == 47) ≡ true → at before ≡ None) → IsFirst at (before ++ b ∷ []) rest text → IsFirst at before (b ∷ rest) text
  past before rest text b none f = record {
    more = b ∷ f.more;
    tail = f.tail;
    parts = ap (λ r. b ∷ r) f.parts;
    there = ap at (sym (shifted before b f.more)) ∙ f.there;
    first = λ less other e shorter. here less other e shorter;
  } where
    here : (less other : List ℕ) → b ∷ rest ≡ less ++ 47 ∷ other → length less < suc (length f.more) → at (before ++ less) ≡ None
    here [] other e shorter = let slash : b ≡ 47 = cc in ap at (nothing_more before) ∙ none (eq-eqb b 47 slash)
    here (x ∷ less) other e shorter =
        let same : b ≡ x = cc in
        let behind : rest ≡ less ++ 47 ∷ other = cc in
        ap (λ y. at (before ++ y ∷ less)) (sym same) ∙ ap at (sym (shifted before b less)) ∙ f.first less other behind (omega arith)

  found_at : (before rest : List ℕ) (text : Place) (b : ℕ) (o : Option Place) → at before ≡ o → first_or o (first_above at (before ++ b ∷ []) rest) ≡ Some text → b ≡ 47
      → (first_above at (before ++ b ∷ []) rest ≡ Some text → IsFirst at (before ++ b ∷ []) rest text) → IsFirst at before (b ∷ rest) text
  found_at before rest text b None h found is further = past before rest text b (λ t. h) (further found)
  found_at before rest text b (Some s) h found is further = record {
    more = [];
    tail = rest;
    parts = ap (λ y. y ∷ rest) is;
    there = ap at (nothing_more before) ∙ h ∙ found;
    first = λ less other e shorter. absurd (omega arith);
  }

  pub above_some : (before rest : List ℕ) (text : Place) → first_above at before rest ≡ Some text → IsFirst at before rest text
  above_some before [] text e = absurd (cc)
  above_some before (b ∷ rest) text e =
      let next = first_above at (before ++ b ∷ []) rest in
      elim (true_or_false (b == 47)) [
        | inr no_slash ↦
            let later : next ≡ Some text = sym (ap (λ t. first_or (cond t (at before) None) next) no_slash) ∙ e in
            past before rest text b (λ slash. let clash : true ≡ false = sym slash ∙ no_slash in absurd (cc)) (above_some (before ++ b ∷ []) rest text later)
        | inl slash ↦ found_at before rest text b (at before) refl (sym (ap (λ t. first_or (cond t (at before) None) next) slash) ∙ e) (eqb-true b 47 slash) (λ later. above_some (before ++ b ∷ []) rest text later)
      ]

  none_at : (before rest less other : List ℕ) (b : ℕ) → b ∷ rest ≡ less ++ 47 ∷ other → (b ≡ 47 → at before ≡ None)
      → ((fewer : List ℕ) → rest ≡ fewer ++ 47 ∷ other → at ((before ++ b ∷ []) ++ fewer) ≡ None) → at (before ++ less) ≡ None
  none_at before rest [] other b p none further = let slash : b ≡ 47 = cc in ap at (nothing_more before) ∙ none slash
  none_at before rest (x ∷ less) other b p none further =
      let same : b ≡ x = cc in
      let behind : rest ≡ less ++ 47 ∷ other = cc in
      ap (λ y. at (before ++ y ∷ less)) (sym same) ∙ ap at (sym (shifted before b less)) ∙ further less behind

  or_none : (o p : Option Place) → first_or o p ≡ None → (o ≡ None) × (p ≡ None)
  or_none None p e = (refl, e)
  or_none (Some s) p e = absurd (cc)

  pub above_none : (before rest : List ℕ) → first_above at before rest ≡ None → (less other : List ℕ) → rest ≡ less ++ 47 ∷ other → at (before ++ less) ≡ None
  above_none before [] e [] other p = absurd (cc)
  above_none before [] e (x ∷ less) other p = absurd (cc)
  above_none before (b ∷ rest) e less other p =
      let next = first_above at (before ++ b ∷ []) rest in
      let parts = or_none (cond (b == 47) (at before) None) next e in
      none_at before rest less other b p (λ is. sym (ap (λ t. cond t (at before) None) (eq-eqb b 47 is)) ∙ parts.0) (λ fewer q. above_none (before ++ b ∷ []) rest parts.1 fewer other q)

-- a table of named places
module _ (table : Table) (named : AreNamed table) (here : List ℕ) where
  abbrev at : List ℕ → Option Place
  at = place_at table

  abbrev numbers : Located
  numbers = numbers_of table.entries

  -- a location above this one
  is_above : (t : List ℕ) → is_below t here ≡ true → (other : List ℕ) × (here ≡ t ++ 47 ∷ other)
  is_above t e = let parts = begins_split (t ++ 47 ∷ []) here e in (parts.0, parts.1 ∙ append_assoc t (47 ∷ []) parts.0)

  or_cases : (a b : Bool) → (a || b) ≡ true → (a ≡ true) ⊎ (b ≡ true)
  or_cases true b e = inl refl
  or_cases false b e = inr e

  or_right : (a b : Bool) → b ≡ true → (a || b) ≡ true
  or_right true b e = refl
  or_right false b e = e

  clash_above : (t other : List ℕ) → here ≡ t ++ 47 ∷ other → clashes here t ≡ true
  clash_above t other e =
      or_right (is_below here t) (is_below t here)
      (ap (begins (t ++ 47 ∷ [])) (e ∙ sym (append_assoc t (47 ∷ []) other)) ∙ begins_whole (t ++ 47 ∷ []) other)

  clash_below : (t : List ℕ) → begins (here ++ 47 ∷ []) t ≡ true → clashes here t ≡ true
  clash_below t e = ap (λ b. b || is_below t here) e

  not_less : (t u : List ℕ) (more : List ℕ) → u ≡ t ++ more → is_lt (cmp u t) ≡ false
  not_less t u more e = ap (λ w. is_lt (cmp w t)) e ∙ behind t more

  pub taken_above : (place : Place) → first_above at [] here ≡ Some place → IsLeastClash (numbers_of table.entries) here place.text
  taken_above place e =
      let f = above_some at [] here place e in
      let same : place.text ≡ f.more = named f.more place f.there in
      subst (IsLeastClash (numbers_of table.entries) here) (sym same)
      (record {
        clash = clash_above f.more f.tail f.parts;
        number = place.number;
        there = number_some table f.more place f.there;
        least = λ s n clash there.
            let p = place_of table s n there in
            elim (or_cases (is_below here s) (is_below s here) clash) [
              | inl below ↦
                  let rest = begins_split (here ++ 47 ∷ []) s below in
                  let whole : s ≡ f.more ++ (47 ∷ f.tail ++ 47 ∷ rest.0) = rest.1 ∙ append_assoc here (47 ∷ []) rest.0 ∙ ap (λ w. w ++ 47 ∷ rest.0) f.parts ∙ append_assoc f.more (47 ∷ f.tail) (47 ∷ rest.0) in
                  not_less f.more s (47 ∷ f.tail ++ 47 ∷ rest.0) whole
              | inr above ↦
                  let up = is_above s above in
                  elim (less_or_not (length s) (length f.more)) [
                    | inl shorter ↦ let clash_of : None ≡ Some p.0 = sym (f.first s up.0 up.1 shorter) ∙ p.1 in absurd (cc)
                    | inr longer_one ↦ let l = longer f.more s (47 ∷ f.tail) (47 ∷ up.0) (sym f.parts ∙ up.1) longer_one in not_less f.more s l.0 l.1
                  ]
            ];
      })

  pub taken_below : (place : Place) → first_above at [] here ≡ None → IsLeastBelow at (here ++ 47 ∷ []) place → IsLeastClash (numbers_of table.entries) here place.text
  taken_below place none f =
      let same : place.text ≡ f.location = named f.location place f.there in
      subst (IsLeastClash (numbers_of table.entries) here) (sym same)
      (record {
        clash = clash_below f.location f.below;
        number = place.number;
        there = number_some table f.location place f.there;
        least = λ s n clash there.
            let p = place_of table s n there in
            elim (or_cases (is_below here s) (is_below s here) clash) [
              | inl below ↦ f.least s p.0 below p.1
              | inr above ↦ let up = is_above s above in let gone : None ≡ Some p.0 = sym (above_none at [] here none s up.0 up.1) ∙ p.1 in absurd (cc)
            ];
      })

  pub not_taken : first_above at [] here ≡ None → ((t : List ℕ) → begins (here ++ 47 ∷ []) t ≡ true → at t ≡ None) → HasNoClash (numbers_of table.entries) here
  not_taken none no_below s clash =
      number_none table s
      (elim (or_cases (is_below here s) (is_below s here) clash) [
        | inl below ↦ no_below s below
        | inr above ↦ let up = is_above s above in above_none at [] here none s up.0 up.1
      ])

  pub first_number : (place : Place) → first_above at [] here ≡ Some place → IsFirstAbove (numbers_of table.entries) here place.number
  first_number place e =
      let f = above_some at [] here place e in
      record {
        upper = f.more;
        rest = f.tail;
        parts = f.parts;
        there = number_some table f.more place f.there;
        shortest = λ other more parts shorter. number_none table other (f.first other more parts shorter);
      }

  pub none_number : first_above at [] here ≡ None → HasNoneAbove (numbers_of table.entries) here
  none_number e upper rest parts = number_none table upper (above_none at [] here e upper rest parts)

behind_same : (us xs ys : List ℕ) → us ++ xs ≡ us ++ ys → xs ≡ ys
behind_same [] xs ys e = e
behind_same (u ∷ us) xs ys e = behind_same us xs ys (cc)

whole : (us : List ℕ) → us ++ [] ≡ us
whole [] = refl
whole (u ∷ us) = ap (λ ys. u ∷ ys) (whole us)

-- where no two locations clash, the first array above a text is the only one
pub only_above : (places : Located) (text : List ℕ) (first : ℕ) → AreApart places → IsFirstAbove places text first → (upper rest : List ℕ) (number : ℕ) → text ≡ upper ++ 47 ∷ rest → finmap.get places upper ≡ Some number → first ≡ number
only_above places text first are_apart f upper rest number parts there =
    elim (less_or_not (length upper) (length f.upper)) [
      | inl shorter ↦ let clash : None ≡ Some number = sym (f.shortest upper rest parts shorter) ∙ there in absurd (cc)
      | inr longer_one ↦
          let more = longer f.upper upper (47 ∷ f.rest) (47 ∷ rest) (sym f.parts ∙ parts) longer_one in
          by_more more.0 more.1
    ]
  where
    some_same : (n m : ℕ) → Some n ≡ Some m → n ≡ m
    some_same n m e = cc

    by_more : (more : List ℕ) → upper ≡ f.upper ++ more → first ≡ number
    by_more [] e = some_same first number (sym f.there ∙ ap (finmap.get places) (sym (whole f.upper) ∙ sym e) ∙ there)
    by_more (x ∷ more) e =
        let behind : 47 ∷ f.rest ≡ x ∷ more ++ 47 ∷ rest = behind_same f.upper (47 ∷ f.rest) (x ∷ more ++ 47 ∷ rest) (sym f.parts ∙ parts ∙ ap (λ w. w ++ 47 ∷ rest) e ∙ append_assoc f.upper (x ∷ more) (47 ∷ rest)) in
        let slash : x ≡ 47 = cc in
        let on : upper ≡ (f.upper ++ 47 ∷ []) ++ more = e ∙ ap (λ y. f.upper ++ y ∷ more) slash ∙ sym (append_assoc f.upper (47 ∷ []) more) in
        let below : is_below f.upper upper ≡ true = ap (begins (f.upper ++ 47 ∷ [])) on ∙ begins_whole (f.upper ++ 47 ∷ []) more in
        let clash : clashes f.upper upper ≡ true = ap (λ b. b || is_below upper f.upper) below in
        let no_clash = are_apart f.upper upper first number f.there there in
        let both : true ≡ false = sym clash ∙ no_clash in
        absurd (cc)
