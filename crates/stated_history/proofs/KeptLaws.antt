-- What is kept of lines.
use Rattle.std.proofs.Common.{◌≡◌, ◌∙◌, ◌≤◌, ◌+◌, ◌⊎◌, ℕ, zero, suc, List, [], ◌∷◌, ◌++◌, Option, Some, Result, Ok, Err, inl, inr, length, refl, sym, ap, subst, arith, length-append}
use Rattle.std.specs.Prelude.{OnOk}
use Rattle.std.specs.List.{slice_get}
use Rattle.history.proofs.Laws.{some_inj}
use Rattle.stated_acts.specs.Acts.{IsActAt, IsSoundAct, kept_act}
use Rattle.stated_acts.specs.Standings.{standing_of, IsSoundStanding}
use Rattle.stated_acts.specs.ToldStandings.{Standing, first_standing}
use Rattle.stated_acts.specs.declared.Act.{Act}
use Rattle.stated_acts.proofs.Laws.{kept_is}
use Rattle.stated_history.specs.Kept.{IsActOfLine, IsKeptAct, HasKept}
use Rattle.stated_history.specs.Walks.{IsFacingLine}
use Rattle.stated_history.specs.declared.commits.Source.{Source}
use Rattle.stated_history.specs.declared.putting.Commit.{Commit}
use Rattle.stated_history.specs.declared.walk.Walk.{Walk}
use Rattle.stated_history.proofs.SourceLaws.{AreWalkedUpTo, walked_first}

-- what a walk faces is what the line does
act_of_line : (s : Source) (place : ℕ) (w : Walk) (act : Act) → IsFacingLine s place w act → IsActOfLine s place act
act_of_line s place w act faces = λ told t of_it there.
    let is = faces told t of_it there in
    subst (λ (x : Standing). IsActAt x t.asked act) is.before.stands is.does

-- what is kept of a line that a walk faces
pub act_kept : (s : Source) (place : ℕ) (w : Walk) (act : Act) → IsFacingLine s place w act → IsSoundAct act → IsKeptAct s place (kept_act act)
act_kept s place w act faces sound = λ copy is.
    let same : copy ≡ act = kept_is act copy is in
    (subst (λ (x : Act). IsActOfLine s place x) (sym same) (act_of_line s place w act faces), subst IsSoundAct (sym same) sound)

-- what is kept of one that is kept itself
pub whole_kept : (s : Source) (place : ℕ) (w : Walk) (act : Act) → IsFacingLine s place w act → IsSoundAct act → IsKeptAct s place (Some act)
whole_kept s place w act faces sound = λ copy is.
    let same : act ≡ copy = some_inj act copy is in
    (subst (λ (x : Act). IsActOfLine s place x) same (act_of_line s place w act faces), subst IsSoundAct same sound)

-- of the first lines
pub record AreKeptUpTo (s : Source) (place : ℕ) (w : Walk) (commits : List (Option Commit)) (acts : List (Option Act)) : Type 0 where
  pub walked : AreWalkedUpTo s place w commits
  pub within : place ≤ length s.said.now
  pub count : length acts ≡ place
  pub each : (k : ℕ) (kept : Option Act) → slice_get acts k ≡ Some kept → IsKeptAct s k kept

none_got : {A : Type 0} (k : ℕ) (x : A) → slice_get [] k ≡ Some x → ⊥
none_got k x is = cc

-- of none of them
pub kept_first : (s : Source) (w : Walk) (commits : List (Option Commit)) (acts : List (Option Act)) → w.session ≡ 0 → standing_of w.standing ≡ first_standing → IsSoundStanding w.standing → commits ≡ [] → acts ≡ [] → AreKeptUpTo s 0 w commits acts
kept_first s w commits acts session stands sound none no_acts = record {
  walked = subst (AreWalkedUpTo s 0 w) (sym none) (walked_first s w session stands sound);
  within = omega arith;
  count = ap length no_acts;
  each = λ k kept is. absurd (none_got k kept (ap (λ all. slice_get all k) (sym no_acts) ∙ is));
}

got_more : {A : Type 0} (xs : List A) (y : A) (k : ℕ) (x : A) → slice_get (xs ++ y ∷ []) k ≡ Some x → (slice_get xs k ≡ Some x) ⊎ ((k ≡ length xs) × (y ≡ x))
got_more [] y zero x is = inr (refl, cc)
got_more [] y (suc k) x is = absurd (cc)
got_more (z ∷ xs) y zero x is = inl is
got_more (z ∷ xs) y (suc k) x is = by (got_more xs y k x is)
  where
    by : (slice_get xs k ≡ Some x) ⊎ ((k ≡ length xs) × (y ≡ x)) → (slice_get xs k ≡ Some x) ⊎ ((suc k ≡ suc (length xs)) × (y ≡ x))
    by (inl one) = inl one
    by (inr last) = inr (ap suc last.0, last.1)

-- one line more
pub kept_more : (s : Source) (place : ℕ) (before behind : List (Option Act)) → length before ≡ place → ((k : ℕ) (kept : Option Act) → slice_get before k ≡ Some kept → IsKeptAct s k kept) → HasKept s place before behind
    → (length behind ≡ place + 1) × ((k : ℕ) (kept : Option Act) → slice_get behind k ≡ Some kept → IsKeptAct s k kept)
kept_more s place before behind count each has = (ap length has.1 ∙ length-append before (has.0 ∷ []) ∙ ap (λ n. n + 1) count, λ k kept is. by k kept (got_more before has.0 k kept (sym (ap (λ all. slice_get all k) has.1) ∙ is)))
  where
    by : (k : ℕ) (kept : Option Act) → (slice_get before k ≡ Some kept) ⊎ ((k ≡ length before) × (has.0 ≡ kept)) → IsKeptAct s k kept
    by k kept (inl one) = each k kept one
    by k kept (inr both) = subst (λ (n : ℕ). IsKeptAct s n kept) (sym (both.0 ∙ count)) (subst (λ (x : Option Act). IsKeptAct s place x) both.1 has.2)

-- what was kept of a line stays kept
pub kept_on : {X E : Type 0} (r : Result X E) (s : Source) (place : ℕ) (before behind : List (Option Act)) → HasKept s place before behind → OnOk r (HasKept s place before behind)
kept_on (Ok x) s place before behind has = has
kept_on (Err e) s place before behind has = tt
