-- What scripts in memory hold once one more was added.
use Rattle.std.proofs.Common.{◌≡◌, ℕ, ◌+◌, ◌<◌, zero, suc, List, [], ◌∷◌, ◌++◌, length, take, Option, Some, None, true, false, cond, refl, sym, ap, subst, ◌∙◌, bytes_eq, get_or, arith}
use Rattle.std.specs.Prelude.{IfSome, option_map, slice_get, drop}
use Rattle.std.specs.FinMap as finmap
use Rattle.std.proofs.lemmas.Grind.{fold-append}
use Rattle.std.proofs.lemmas.List.{take_more}
use Rattle.std.proofs.lemmas.Option.{slice_get-get_or}
use Rattle.kv_face.proofs.Changes.{get-put_bytes}
use Rattle.kv_face.specs.Added.{with_script, scripts_of, bytes_of, left_of}
use Rattle.kv_face.specs.declared.scripts.Script.{Script}

pub scripts_more : (scripts : List Script) (s : Script) → scripts_of (scripts ++ s ∷ []) ≡ with_script (scripts_of scripts) s
scripts_more scripts s = fold-append with_script finmap.empty scripts (s ∷ [])

get_before : (scripts : List Script) (s : Script) (place : ℕ) → place < length scripts → slice_get (scripts ++ s ∷ []) place ≡ slice_get scripts place
get_before [] s place lt = absurd (omega arith)
get_before (x ∷ scripts) s zero lt = refl
get_before (x ∷ scripts) s (suc place) lt = get_before scripts s place (omega arith)

-- a script that is being read stays as it is
pub left_stays : (scripts : List Script) (s : Script) (reading : Option ℕ) (at : ℕ) → IfSome reading (λ place. place < length scripts) → left_of (scripts ++ s ∷ []) reading at ≡ left_of scripts reading at
left_stays scripts s None at within = refl
left_stays scripts s (Some place) at within = ap (λ o. drop at (bytes_of o)) (get_before scripts s place within)

-- the script at a place is the last of its name so far, or doesn't matter for a name
pub one_script_more : (scripts : List Script) (i : ℕ) (s : Script) (name : List ℕ) → i < length scripts
    → finmap.get (scripts_of (take (i + 1) scripts)) name ≡ cond (bytes_eq name (get_or scripts i s).name) (Some (get_or scripts i s).bytes) (finmap.get (scripts_of (take i scripts)) name)
one_script_more scripts i s name lt =
    let here = get_or scripts i s in
    ap (λ all. finmap.get (scripts_of all) name) (take_more scripts i s lt)
    ∙ ap (λ m. finmap.get m name) (scripts_more (take i scripts) here)
    ∙ get-put_bytes (scripts_of (take i scripts)) here.name (Some here.bytes) name

-- the place of the last script of a name among the first ones
pub record IsLastOf (scripts : List Script) (name : List ℕ) (i : ℕ) (place : Option ℕ) : Type 0 where
  pub bytes : option_map (λ p. bytes_of (slice_get scripts p)) place ≡ finmap.get (scripts_of (take i scripts)) name
  pub within : IfSome place (λ p. p < length scripts)

module _ (scripts : List Script) (name : List ℕ) (i : ℕ) (s : Script) where
  here : i < length scripts → s ≡ get_or scripts i s
      → finmap.get (scripts_of (take (i + 1) scripts)) name ≡ cond (bytes_eq name s.name) (Some s.bytes) (finmap.get (scripts_of (take i scripts)) name)
  here lt is = one_script_more scripts i s name lt ∙ ap (λ (x : Script). cond (bytes_eq name x.name) (Some x.bytes) (finmap.get (scripts_of (take i scripts)) name)) (sym is)

  pub last_here : (place : Option ℕ) → place ≡ Some i → i < length scripts → s ≡ get_or scripts i s → bytes_eq name s.name ≡ true → IsLastOf scripts name (i + 1) place
  last_here place at lt is same =
      let one : IsLastOf scripts name (i + 1) (Some i) = record {
        bytes = ap (λ o. Some (bytes_of o)) (slice_get-get_or scripts i s lt) ∙ ap (λ (x : Script). Some x.bytes) (sym is)
            ∙ sym (here lt is ∙ ap (λ b. cond b (Some s.bytes) (finmap.get (scripts_of (take i scripts)) name)) same);
        within = lt;
      } in
      subst (IsLastOf scripts name (i + 1)) (sym at) one

  pub last_before : (before place : Option ℕ) → place ≡ before → i < length scripts → s ≡ get_or scripts i s → bytes_eq name s.name ≡ false
      → IsLastOf scripts name i before → IsLastOf scripts name (i + 1) place
  last_before before place at lt is other old =
      let one : IsLastOf scripts name (i + 1) before = record {
        bytes = old.bytes ∙ sym (here lt is ∙ ap (λ b. cond b (Some s.bytes) (finmap.get (scripts_of (take i scripts)) name)) other);
        within = old.within;
      } in
      subst (IsLastOf scripts name (i + 1)) (sym at) one
