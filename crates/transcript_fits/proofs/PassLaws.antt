-- A session behind one of its lines.
use Rattle.std.proofs.Common.{◌≡◌, ◌∙◌, ◌<◌, ◌+◌, ℕ, List, [], ◌∷◌, ◌++◌, Bool, true, false, cond, Option, Some, take, length, sym, ap, subst, add-one, eq-eqb}
use Rattle.std.specs.Prelude.{◌==◌}
use Rattle.std.specs.List.{slice_get}
use Rattle.std.proofs.lemmas.List.Elements.{filter-append}
use Rattle.history.specs.declared.event.Op.TheVariants.{Read}
use Rattle.history.specs.Commit.{Transaction}
use Rattle.history.specs.ReadRows.{with_read}
use Rattle.history.proofs.Laws.{some_inj, none_is_none}
use Rattle.stack_driver.specs.declared.view.View.{View}
use Rattle.stated_history.specs.Outline.{outline}
use Rattle.stated_history.specs.Standings.{standing_of}
use Rattle.stated_history.specs.ToldNumbers.{told_of}
use Rattle.stated_history.specs.ToldStandings.{left_told, standing, standing_step}
use Rattle.stated_history.specs.Transcript.{Told}
use Rattle.stated_history.specs.Walks.{AreToldIn, IsBehind, IsGoneOnAt, IsInSession, IsReached, outlined}
use Rattle.stated_history.specs.declared.putting.Commit.{Commit}
use Rattle.stated_history.specs.declared.walk.Walk.{Walk}
use Rattle.stated_history.proofs.Laws.{got_low, kept_outline, said_is, standing_more, step_same, take_got, told_there}
use Rattle.transcript_fits.specs.Judges.{IsJudge, history_of}
use Rattle.transcript_fits.specs.declared.judge.Judge.{Judge}

own_more : (session : ℕ) (earlier : List Told) (t : Told) → t.session ≡ session → told_of session (earlier ++ t ∷ []) ≡ told_of session earlier ++ t ∷ []
own_more session earlier t same =
    filter-append (λ (u : Told). u.session == session) earlier (t ∷ []) ∙ ap (λ b. told_of session earlier ++ cond b (t ∷ []) []) (eq-eqb t.session session same)

next_taken : (told : List Told) (place : ℕ) (t : Told) → slice_get told place ≡ Some t → take (place + 1) told ≡ take place told ++ t ∷ []
next_taken told place t there = ap (λ n. take n told) (add-one place) ∙ take_got told place t there

module _ (j : Judge) (is : IsJudge j) (place : ℕ) (low : place < length j.source.now.said.now) (old new : Walk) (commit : Option Commit) (same : new.session ≡ old.session) (gone : IsGoneOnAt j.source.now place new commit) where
  -- the walk stands behind the line
  pub reached_next : IsReached j.source.now (place + 1) new
  reached_next = λ told of_it.
      let line = told_there j.source.now told place of_it low in
      subst (λ ts. IsBehind (outlined j.source.now) ts new) (sym (next_taken told place line.0 line.1)) (gone told line.0 of_it line.1).behind

  -- how it stands then is how it stood, behind what is told of the line
  pub stands_next : IsReached j.source.now place old → IsInSession j.source.now place old → (told : List Told) (t : Told) → AreToldIn j.source.now told → slice_get told place ≡ Some t
      → standing_of new.standing ≡ standing_step (history_of j) (standing_of old.standing) t
  stands_next reached session told t of_it there =
      let o = outlined j.source.now in
      let kept = got_low j.source.now.said.now place low in
      let own : t.session ≡ new.session = (said_is j.source.now told place kept.0 t of_it kept.1 there).session ∙ sym (session kept.0 kept.1) ∙ sym same in
      let behind = (gone told t of_it there).behind in
      let before : standing_of old.standing ≡ standing o (told_of new.session (take place told)) = (reached told of_it).stands ∙ ap (λ n. standing o (told_of n (take place told))) (sym same) in
      let whole : outline o ≡ outline (history_of j) = (kept_outline j.source.now is.source).flat ∙ sym is.outlined in
      behind.stands ∙ ap (standing o) (own_more new.session (take place told) t own) ∙ standing_more o (told_of new.session (take place told)) t
      ∙ ap (λ s. standing_step o s t) (sym before) ∙ step_same o (history_of j) whole (standing_of old.standing) t

-- a transaction that is left behind a commit is the one that stood
pub left_same : (t u : Transaction) (done failed : List ℕ) (damaged : Bool) → left_told t done failed damaged ≡ Some u → t ≡ u
left_same t u [] [] true is = some_inj t u is
left_same t u [] [] false is = absurd (none_is_none u is)
left_same t u [] (n ∷ failed) damaged is = some_inj t u is
left_same t u (m ∷ done) failed damaged is = absurd (none_is_none u is)

-- the operations of a transaction behind a read
pub with_read_ops : (t u : Transaction) (view : View) (words : List ℕ) → t.mode.repeatable_read ≡ true → with_read (Some t) view words [] ≡ Some u → u.ops ≡ t.ops ++ Read view words ∷ []
with_read_ops t u view words asked is =
    let one : Some (record t { ops = t.ops ++ Read view words ∷ []; marks = [] }) ≡ Some u =
    sym (ap (λ b. Some (cond b (record t { ops = t.ops ++ Read view words ∷ []; marks = [] }) t)) asked) ∙ is in
    ap (λ (x : Transaction). x.ops) (sym (some_inj _ u one))

pub without_read_ops : (t u : Transaction) (view : View) (words : List ℕ) → t.mode.repeatable_read ≡ false → with_read (Some t) view words [] ≡ Some u → t ≡ u
without_read_ops t u view words asked is = some_inj t u (sym (ap (λ b. Some (cond b (record t { ops = t.ops ++ Read view words ∷ []; marks = [] }) t)) asked) ∙ is)
