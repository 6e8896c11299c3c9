-- What a transaction has behind an act, by its operations.
use Rattle.std.proofs.Common.{◌≡◌, ◌∙◌, ◌≤◌, ◌-◌, ℕ, List, [], ◌∷◌, ◌++◌, true, false, cond, Option, Some, None, Ok, take, refl, sym, ap, subst, arith}
use Rattle.std.specs.Prelude.{codes}
use Rattle.serde_json.specs.Data.{Data}
use Rattle.serde_json.specs.Find.{get}
use Rattle.history.specs.declared.event.Op.TheVariants.{Read}
use Rattle.history.specs.declared.event.Mode.{Mode}
use Rattle.history.specs.Acts.{Asked, reads, write_act, begins}
use Rattle.history.specs.Commit.{Transaction}
use Rattle.history.specs.History.{History}
use Rattle.history.proofs.Laws.{some_inj, none_is_none}
use Rattle.open_fits.specs.Windows.{lines_before, lines_up_to}
use Rattle.open_fits.specs.declared.Own.{Own}
use Rattle.stack_driver.specs.declared.view.View.{View}
use Rattle.stated_history.specs.Acts.{IsActBy}
use Rattle.stated_history.specs.Standings.{standing_of, transaction_in, transaction_of}
use Rattle.stated_history.specs.ToldStandings.{Standing, read_told}
use Rattle.stated_history.specs.Transcript.{Told}
use Rattle.stated_history.specs.declared.Act.{Act}
use Rattle.stated_history.specs.declared.Act.TheVariants.{Refused, Opens, Binds, Reads, Writes, Begins, Commits, Aborts}
use Rattle.stated_history.specs.declared.Ongoing.{Ongoing}
use Rattle.transcript_fits.specs.LineFits.{answer_of_line}
use Rattle.transcript_fits.specs.Stands.{AreOwnBehind, HasReadOf, HasWrittenOf, IsBegunAt, IsFollowing, IsOwnOf, IsReadingOf, IsWritingOf, ops_in}
use Rattle.transcript_fits.specs.declared.line_fit.ToldLine.{ToldLine}
use Rattle.transcript_fits.specs.declared.stand.Stand.{Stand}
use Rattle.transcript_fits.proofs.PassLaws.{left_same, with_read_ops, without_read_ops}

-- a transaction that is kept, and the one that it is
module _ (o : Option Ongoing) where
  pub stands_some : (t : Ongoing) → o ≡ Some t → transaction_in o ≡ Some (transaction_of t)
  stands_some t is = ap transaction_in is

  pub same_some : (t : Ongoing) (u : Transaction) → o ≡ Some t → transaction_in o ≡ Some u → transaction_of t ≡ u
  same_some t u is here = some_inj (transaction_of t) u (sym (stands_some t is) ∙ here)

  pub none_stands : (u : Transaction) → o ≡ None → transaction_in o ≡ Some u → ⊥
  none_stands u is here = none_is_none u (sym (ap transaction_in is) ∙ here)

-- a read without values, or outside of repeatable read, is no operation
module _ (view : View) where
  pub read_left : (t : Option Transaction) (values : Option Data) (u : Transaction) → ((v : Transaction) → t ≡ Some v → v.mode.repeatable_read ≡ false) → read_told t view values ≡ Some u → ops_in t ≡ u.ops
  read_left t None u plain is = ap ops_in is
  read_left None (Some values) u plain is = absurd (none_is_none u is)
  read_left (Some t) (Some values) u plain is = ap (λ (x : Transaction). x.ops) (without_read_ops t u view _ (plain t refl) is)

  -- another one is
  pub read_joined : (t : Option Transaction) (values : Data) (v u : Transaction) → t ≡ Some v → v.mode.repeatable_read ≡ true → read_told t view (Some values) ≡ Some u → (words : List ℕ) × (u.ops ≡ ops_in t ++ Read view words ∷ [])
  read_joined None values v u some asked is = absurd (none_is_none v some)
  read_joined (Some t) values v u some asked is = (_, with_read_ops t u view _ (ap (λ (x : Transaction). x.mode.repeatable_read) (some_inj t v some) ∙ asked) is)

module _ (h : History) (old new : Stand) (view : View) (answer : Data) where
  -- where nothing is kept of the read
  pub has_left : new.own ≡ old.own → new.upto ≡ old.upto → ((v : Transaction) → (standing_of old.walk.standing).transaction ≡ Some v → v.mode.repeatable_read ≡ false) → IsReadingOf h old view → HasReadOf h old new answer view
  has_left own upto plain reading = λ u is.
      subst (λ ops. IsOwnOf h new.upto ops new.own) (read_left view (standing_of old.walk.standing).transaction (get (codes "values") answer) u plain is)
      (subst (λ (p : ℕ × Own). IsOwnOf h p.0 (ops_in (standing_of old.walk.standing).transaction) p.1) (λ i. (sym upto i, sym own i)) reading.own)

  -- where the answer has no values
  pub has_same : new.own ≡ old.own → new.upto ≡ old.upto → get (codes "values") answer ≡ None → IsReadingOf h old view → HasReadOf h old new answer view
  has_same own upto none reading = λ u is.
      let same : (standing_of old.walk.standing).transaction ≡ Some u = sym (ap (read_told (standing_of old.walk.standing).transaction view) none) ∙ is in
      subst (λ ops. IsOwnOf h new.upto ops new.own) (ap ops_in same)
      (subst (λ (p : ℕ × Own). IsOwnOf h p.0 (ops_in (standing_of old.walk.standing).transaction) p.1) (λ i. (sym upto i, sym own i)) reading.own)

  -- where the read joins the transaction
  pub has_joined : (values : Data) → get (codes "values") answer ≡ Some values → ((v : Transaction) × ((standing_of old.walk.standing).transaction ≡ Some v) × (v.mode.repeatable_read ≡ true))
      → ((words : List ℕ) → IsOwnOf h new.upto (ops_in (standing_of old.walk.standing).transaction ++ Read view words ∷ []) new.own) → HasReadOf h old new answer view
  has_joined values some kept own = λ u is.
      let t = (standing_of old.walk.standing).transaction in
      let joined = read_joined view t values kept.0 u kept.1 kept.2 (sym (ap (read_told t view) some) ∙ is) in
      subst (λ ops. IsOwnOf h new.upto ops new.own) (sym joined.1) (own joined.0)

-- an act that changes no operations of its transaction but by its end
abbrev IsNoOperation : Act → Type 0
IsNoOperation (Refused body) = Unit {0}
IsNoOperation (Opens name plan) = Unit {0}
IsNoOperation (Binds name view) = Unit {0}
IsNoOperation (Reads view) = ⊥
IsNoOperation (Writes view words) = ⊥
IsNoOperation (Begins mode) = ⊥
IsNoOperation Commits = Unit {0}
IsNoOperation Aborts = Unit {0}

-- an act's operation
module _ (h : History) (old new : Stand) (line : ToldLine) (place : ℕ) (upto : new.upto ≡ old.upto) (walk : new.walk ≡ old.walk) where
  abbrev s : Standing
  s = standing_of old.walk.standing

  abbrev Behind : Asked → Type 0
  Behind asked = AreOwnBehind h old new line asked place

  pub behind_read : (asked : Asked) (view : View) → new.begun ≡ old.begun → HasReadOf h old new (answer_of_line line) view → asked ≡ Ok (reads view None) → Behind asked
  behind_read asked view begun has is = subst Behind (sym is) (record { own = λ number u here. has u here; begun = begun; upto = upto; walk = walk })

  pub behind_write : (asked : Asked) (view : View) (words : List ℕ) → new.begun ≡ old.begun → HasWrittenOf h old new view words → IsFollowing h old line asked (Writes view words) → asked ≡ Ok (write_act s.transaction view words) → Behind asked
  behind_write asked view words begun has following is = subst Behind (sym is) (by s.transaction refl)
    where
      by : (t : Option Transaction) → s.transaction ≡ t → Behind (Ok (write_act t view words))
      by None none = record { own = λ number u here. absurd (none_is_none u (sym none ∙ here)); begun = begun; upto = upto; walk = walk }
      by (Some t) some = record {
        own = λ number u here. subst (λ (x : Transaction). IsOwnOf h new.upto x.ops new.own) (some_inj _ u here) (has t some);
        begun = begun;
        upto = upto;
        walk = walk;
      }

  -- where nothing was done yet
  pub behind_begin : (asked : Asked) (mode : Mode) → new.begun ≡ place → IsOwnOf h new.upto [] new.own → asked ≡ Ok (begins mode) → Behind asked
  behind_begin asked mode begun own is =
      subst Behind (sym is)
      (record { own = λ number u here. subst (λ (x : Transaction). IsOwnOf h new.upto x.ops new.own) (some_inj _ u here) own; begun = begun; upto = upto; walk = walk })

  module _ (begun : new.begun ≡ old.begun) (kept : IsOwnOf h old.upto (ops_in s.transaction) old.own) (same : new.own ≡ old.own) where
    -- the operations are those from before
    own_same : (u : Transaction) → s.transaction ≡ Some u → IsOwnOf h new.upto u.ops new.own
    own_same u is =
        subst (λ ops. IsOwnOf h new.upto ops new.own) (ap ops_in is)
        (subst (λ (p : ℕ × Own). IsOwnOf h p.0 (ops_in s.transaction) p.1) (λ i. (sym upto i, sym same i)) kept)

    pub behind_other : (asked : Asked) (act : Act) → IsActBy s.transaction asked act → IsNoOperation act → Behind asked
    behind_other asked (Refused body) is other = subst Behind (sym is.1) (record { own = λ number u here. own_same u here; begun = begun; upto = upto; walk = walk })
    behind_other asked (Opens name plan) is other = subst Behind (sym is) (record { own = λ number u here. own_same u here; begun = begun; upto = upto; walk = walk })
    behind_other asked (Binds name view) is other = subst Behind (sym is) (record { own = λ number u here. own_same u here; begun = begun; upto = upto; walk = walk })
    behind_other asked (Reads view) is other = absurd other
    behind_other asked (Writes view words) is other = absurd other
    behind_other asked (Begins mode) is other = absurd other
    behind_other asked Commits is other =
        subst Behind (sym is.2)
        (record { own = λ number u here. own_same u (is.1 ∙ ap Some (left_same is.0 u _ _ _ here)); begun = begun; upto = upto; walk = walk })
    behind_other asked Aborts is other = subst Behind (sym is) (record { own = λ number u here. absurd (none_is_none u here); begun = begun; upto = upto; walk = walk })

-- what an act may read or write
module _ (h : History) (old : Stand) (line : ToldLine) (asked : Asked) (act : Act) (is : IsFollowing h old line asked act) where
  pub reading_of : (view : View) → act ≡ Reads view → IsReadingOf h old view
  reading_of view same = let f = subst (IsFollowing h old line asked) same is in record { there = f.can; own = f.own }

  pub writing_of : (view : View) (words : List ℕ) → act ≡ Writes view words → IsWritingOf h old view words
  writing_of view words same =
      let f = subst (IsFollowing h old line asked) same is in
      record { reading = record { there = f.can.0; own = f.own }; count = f.can.1; typed = f.can.2 }

  module _ (new : Stand) (place : ℕ) (upto : new.upto ≡ old.upto) (walk : new.walk ≡ old.walk) where
    pub follow_read : (view : View) → act ≡ Reads view → new.begun ≡ old.begun → (IsReadingOf h old view → HasReadOf h old new (answer_of_line line) view) → AreOwnBehind h old new line asked place
    follow_read view same begun has =
        let f = subst (IsFollowing h old line asked) same is in
        behind_read h old new line place upto walk asked view begun (has (reading_of view same)) f.does

    pub follow_write : (view : View) (words : List ℕ) → act ≡ Writes view words → new.begun ≡ old.begun → (IsWritingOf h old view words → HasWrittenOf h old new view words) → AreOwnBehind h old new line asked place
    follow_write view words same begun has =
        let f = subst (IsFollowing h old line asked) same is in
        behind_write h old new line place upto walk asked view words begun (has (writing_of view words same)) f f.does

    pub follow_begin : (mode : Mode) → act ≡ Begins mode → new.begun ≡ place → IsOwnOf h new.upto [] new.own → AreOwnBehind h old new line asked place
    follow_begin mode same begun own =
        let f = subst (IsFollowing h old line asked) same is in
        behind_begin h old new line place upto walk asked mode begun own f.does.1

  -- where nothing changes
  pub follow_other : (place : ℕ) (a : Act) → act ≡ a → IsNoOperation a → AreOwnBehind h old old line asked place
  follow_other place a same other =
      let f = subst (IsFollowing h old line asked) same is in
      behind_other h old old line place refl refl refl f.own refl asked a f.does other

-- where a session's lines before the window of a line begin
module _ (told : List Told) (begin place begun : ℕ) where
  pub before_reads : (t : Option Transaction) (u : Transaction) → t ≡ Some u → u.mode.repeatable_read ≡ true → begin ≤ place → IsBegunAt told begin place begun t → lines_before t (take (place - begin) told) ≡ take (begun - begin) told
  before_reads t u some asked low is = ap (λ x. lines_before x (take (place - begin) told)) some ∙ ap (λ b. cond b (lines_up_to u.line (take (place - begin) told)) (take (place - begin) told)) asked ∙ rest
    where
      rest : lines_up_to u.line (take (place - begin) told) ≡ take (begun - begin) told
      rest = let one = is u some in let order = one.1 in one.2 (place - begin) (omega (arith, order))

  pub before_plain : (t : Option Transaction) → ((u : Transaction) → t ≡ Some u → u.mode.repeatable_read ≡ false) → (ts : List Told) → lines_before t ts ≡ ts
  before_plain None plain ts = refl
  before_plain (Some u) plain ts = ap (λ b. cond b (lines_up_to u.line ts) ts) (plain u refl)
