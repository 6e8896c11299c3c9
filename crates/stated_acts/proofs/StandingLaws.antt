-- How a session stands behind an act.
use Rattle.std.proofs.Common.{◌≡◌, ◌∙◌, inl, ℕ, List, [], ◌∷◌, ◌++◌, codes, Bool, true, false, cond, Option, Some, None, Result, Ok, Err, IfOk, OnOk, refl, sym, ap, subst}
use Rattle.std.specs.Prelude.{filter}
use Rattle.std.proofs.lemmas.List.Elements.{filter-append}
use Rattle.serde_json.specs.Data.{Data}
use Rattle.serde_json.specs.Find.{get}
use Rattle.history.specs.declared.event.Mode.{Mode}
use Rattle.history.specs.declared.event.Op.{Op}
use Rattle.history.specs.declared.event.Op.TheVariants.{Write}
use Rattle.history.specs.Acts.{Asked, write_act}
use Rattle.history.specs.Answers.{Text}
use Rattle.history.specs.Commit.{Transaction, kept_ops, is_write}
use Rattle.history.specs.History.{History}
use Rattle.history.specs.Sessions.{Names, bind, new_transaction}
use Rattle.history.specs.Shown.{after_read}
use Rattle.history.specs.Steps.{with_write}
use Rattle.line_acts.specs.Bound.{AreViews}
use Rattle.line_acts.specs.declared.Body.{Body}
use Rattle.line_acts.specs.declared.Body.TheVariants as body
use Rattle.line_acts.proofs.Laws.{kept_bound}
use Rattle.stated_arrays.specs.declared.OpenPlan.{OpenPlan}
use Rattle.stack_driver.specs.Conditions.{IsView}
use Rattle.stack_driver.specs.declared.view.View.{View}
use Rattle.stated_arrays.specs.AnswerNumbers.{PrintsNumbers}
use Rattle.stated_arrays.specs.Standings.{Standing, first_standing, names_opened, read_told, left_told, standing_asked}
use Rattle.stated_arrays.specs.ToldNumbers.{single, done_in, failed_in}
use Rattle.stated_arrays.specs.declared.EventNumbers.{EventNumbers}
use Rattle.stated_acts.specs.Acts.{IsActBy}
use Rattle.stated_acts.specs.Standings.{transaction_in, standing_of, IsSoundStanding, written_in, left_in, IsOpenedBy}
use Rattle.stated_acts.specs.declared.acts.Act.{Act}
use Rattle.stated_acts.specs.declared.acts.Act.TheVariants.{Refused, Opens, Binds, Reads, Writes, Begins, Commits, Aborts}
use Rattle.stated_acts.specs.declared.standing.Standing as kept

module _ (s later : Standing) (line : ℕ) (answer : Data) where
  -- it stands behind what is asked as the history's words say
  abbrev pub StandsBehind : History → Asked → Type 0
  StandsBehind history asked = later ≡ standing_asked history s line asked answer

  -- and so behind an act, whatever it was asked by
  abbrev pub StepsTo : Act → Option View → Type 0
  StepsTo act opened = (h : History) (asked : Asked) → IsActBy s.transaction asked act → IsOpenedBy h answer act opened → StandsBehind h asked

  pub steps_refused : (act : Act) (opened : Option View) (b : Body) → act ≡ Refused b → later ≡ s → StepsTo act opened
  steps_refused act opened b is same =
      subst (λ a. StepsTo a opened) (sym is) (λ h asked by built. subst (StandsBehind h) (sym by.1) same)

  pub steps_opens : (act : Act) (opened : Option View) (name : Text) (plan : OpenPlan) → act ≡ Opens name plan → later.names ≡ names_opened s.names name (get (codes "open") answer) opened → later.transaction ≡ s.transaction → StepsTo act opened
  steps_opens act opened name plan is names transaction =
      subst (λ a. StepsTo a opened) (sym is)
      (λ h asked by built. subst (StandsBehind h) (sym by)
      (λ i. record { names = (names ∙ ap (names_opened s.names name (get (codes "open") answer)) (sym built)) i; transaction = transaction i }))

  pub steps_binds : (act : Act) (opened : Option View) (name : Text) (view : View) → act ≡ Binds name view → later.names ≡ bind s.names name view → later.transaction ≡ s.transaction → StepsTo act opened
  steps_binds act opened name view is names transaction =
      subst (λ a. StepsTo a opened) (sym is) (λ h asked by built. subst (StandsBehind h) (sym by) (λ i. record { names = names i; transaction = transaction i }))

  pub steps_reads : (act : Act) (opened : Option View) (view : View) → act ≡ Reads view → later.names ≡ s.names → later.transaction ≡ read_told s.transaction view (get (codes "values") answer) → StepsTo act opened
  steps_reads act opened view is names transaction =
      subst (λ a. StepsTo a opened) (sym is) (λ h asked by built. subst (StandsBehind h) (sym by) (λ i. record { names = names i; transaction = transaction i }))

  written_so : (view : View) (words : List ℕ) → later.names ≡ s.names → later.transaction ≡ written_in s.transaction view words → (h : History) (t : Option Transaction) → s.transaction ≡ t → StandsBehind h (Ok (write_act t view words))
  written_so view words names transaction h None none =
      (λ i. record { names = names i; transaction = (transaction ∙ ap (λ t. written_in t view words) none ∙ sym none) i })
  written_so view words names transaction h (Some u) some =
      (λ i. record { names = names i; transaction = (transaction ∙ ap (λ t. written_in t view words) some) i })

  pub steps_writes : (act : Act) (opened : Option View) (view : View) (words : List ℕ) → act ≡ Writes view words → later.names ≡ s.names → later.transaction ≡ written_in s.transaction view words → StepsTo act opened
  steps_writes act opened view words is names transaction =
      subst (λ a. StepsTo a opened) (sym is) (λ h asked by built. subst (StandsBehind h) (sym by) (written_so view words names transaction h s.transaction refl))

  pub steps_begins : (act : Act) (opened : Option View) (mode : Mode) → act ≡ Begins mode → later.names ≡ s.names → later.transaction ≡ Some (new_transaction line mode) → StepsTo act opened
  steps_begins act opened mode is names transaction =
      subst (λ a. StepsTo a opened) (sym is) (λ h asked by built. subst (StandsBehind h) (sym by.1) (λ i. record { names = names i; transaction = transaction i }))

  pub steps_commits : (act : Act) (opened : Option View) (numbers : EventNumbers) → act ≡ Commits → later.names ≡ s.names → later.transaction ≡ left_in s.transaction numbers.done (single numbers.failed) numbers.damaged → PrintsNumbers answer numbers → StepsTo act opened
  steps_commits act opened numbers is names transaction prints =
      subst (λ a. StepsTo a opened) (sym is)
      (λ h asked by built. subst (StandsBehind h) (sym by.2)
      (λ i. record {
        names = names i;
        transaction = (transaction ∙ ap (λ t. left_in t numbers.done (single numbers.failed) numbers.damaged) by.1
            ∙ ap (λ d. left_told by.0 d (single numbers.failed) numbers.damaged) (sym prints.done) ∙ ap (λ f. left_told by.0 (done_in answer) f numbers.damaged) (sym prints.failed)
            ∙ ap (left_told by.0 (done_in answer) (failed_in answer)) (sym prints.damaged)) i;
      }))

  pub steps_aborts : (act : Act) (opened : Option View) → act ≡ Aborts → later.names ≡ s.names → later.transaction ≡ None → StepsTo act opened
  steps_aborts act opened is names transaction =
      subst (λ a. StepsTo a opened) (sym is) (λ h asked by built. subst (StandsBehind h) (sym by) (λ i. record { names = names i; transaction = transaction i }))

-- names keep the rules of views
pub views_bound : (names later : Names) (name : Text) (view : View) → AreViews names → IsView view → later ≡ bind names name view → AreViews later
views_bound names later name view all is same = kept_bound IsView body.Memory body.Memory names later name view (inl (refl, same)) is all

pub views_same : (names later : Names) → AreViews names → later ≡ names → AreViews later
views_same names later all same = subst AreViews (sym same) all

pub views_opened : (names later : Names) (name : Text) (said : Option Data) (view : Option View) → AreViews names → ((v : View) → view ≡ Some v → IsView v) → later ≡ names_opened names name said view → AreViews later
views_opened names later name None view all is same = views_same names later all same
views_opened names later name (Some d) None all is same = views_same names later all same
views_opened names later name (Some d) (Some v) all is same = views_bound names later name v all (is v refl) same

-- operations are those that an event has
pub record IsKept (t : Option Transaction) : Type 0 where
  pub each : (u : Transaction) → t ≡ Some u → kept_ops u ≡ u.ops

kept_one : (u : Transaction) → kept_ops u ≡ u.ops → IsKept (Some u)
kept_one u is = record { each = λ w same. let it : u ≡ w = cc in subst (λ (x : Transaction). kept_ops x ≡ x.ops) it is }

kept_none : IsKept None
kept_none = record { each = λ w same. let no : ⊥ = cc in absurd no }

read_kept : (t : Transaction) (view : View) (words : List ℕ) → kept_ops t ≡ t.ops → kept_ops (after_read t view words []) ≡ (after_read t view words []).ops
read_kept t view words kept = by t.mode.repeatable_read refl
  where
    by : (b : Bool) → t.mode.repeatable_read ≡ b → kept_ops (after_read t view words []) ≡ (after_read t view words []).ops
    by true is = rw is refl
    by false is = rw is (subst (λ b. cond b t.ops (filter is_write t.ops) ≡ t.ops) is kept)

write_kept : (t : Transaction) (view : View) (words : List ℕ) → kept_ops t ≡ t.ops → kept_ops (with_write t view words) ≡ (with_write t view words).ops
write_kept t view words kept = by t.mode.repeatable_read refl
  where
    by : (b : Bool) → t.mode.repeatable_read ≡ b → kept_ops (with_write t view words) ≡ (with_write t view words).ops
    by true is = ap (λ b. cond b (t.ops ++ Write view words ∷ []) (filter is_write (t.ops ++ Write view words ∷ []))) is
    by false is =
        ap (λ b. cond b (t.ops ++ Write view words ∷ []) (filter is_write (t.ops ++ Write view words ∷ []))) is
        ∙ filter-append is_write t.ops (Write view words ∷ [])
        ∙ ap (λ os. os ++ Write view words ∷ []) (subst (λ b. cond b t.ops (filter is_write t.ops) ≡ t.ops) is kept)

begun_kept : (line : ℕ) (mode : Mode) → kept_ops (new_transaction line mode) ≡ (new_transaction line mode).ops
begun_kept line mode = by mode.repeatable_read
  where
    by : (b : Bool) → cond {A = List Op} b [] [] ≡ []
    by true = refl
    by false = refl

-- behind each act
pub told_kept : (t later : Option Transaction) (view : View) (values : Option Data) → IsKept t → later ≡ read_told t view values → IsKept later
told_kept t later view values is same = subst IsKept (sym same) (by t values is)
  where
    by : (t : Option Transaction) (values : Option Data) → IsKept t → IsKept (read_told t view values)
    by t None is = is
    by None (Some d) is = kept_none
    by (Some u) (Some d) is = kept_one _ (read_kept u view _ (is.each u refl))

pub written_kept : (t later : Option Transaction) (view : View) (words : List ℕ) → IsKept t → later ≡ written_in t view words → IsKept later
written_kept t later view words is same = subst IsKept (sym same) (by t is)
  where
    by : (t : Option Transaction) → IsKept t → IsKept (written_in t view words)
    by None is = kept_none
    by (Some u) is = kept_one _ (write_kept u view words (is.each u refl))

pub begins_kept : (later : Option Transaction) (line : ℕ) (mode : Mode) → later ≡ Some (new_transaction line mode) → IsKept later
begins_kept later line mode same = subst IsKept (sym same) (kept_one _ (begun_kept line mode))

pub left_kept : (t later : Option Transaction) (done failed : List ℕ) (damaged : Bool) → IsKept t → later ≡ left_in t done failed damaged → IsKept later
left_kept t later done failed damaged is same = subst IsKept (sym same) (by t done failed damaged is)
  where
    by : (t : Option Transaction) (done failed : List ℕ) (damaged : Bool) → IsKept t → IsKept (left_in t done failed damaged)
    by None done failed damaged is = kept_none
    by (Some u) [] [] true is = is
    by (Some u) [] [] false is = kept_none
    by (Some u) [] (n ∷ failed) damaged is = is
    by (Some u) (m ∷ done) failed damaged is = kept_none

pub ended_kept : (later : Option Transaction) → later ≡ None → IsKept later
ended_kept later same = subst IsKept (sym same) kept_none

pub same_kept : (t later : Option Transaction) → IsKept t → later ≡ t → IsKept later
same_kept t later is same = subst IsKept (sym same) is

-- before the first line
pub sound_first : (s : kept.Standing) → standing_of s ≡ first_standing → IsSoundStanding s
sound_first s is = record {
  views = subst AreViews (sym (ap (λ (t : Standing). t.names) is)) (λ name view at. let no : ⊥ = cc in absurd no);
  kept = (subst IsKept (sym (ap (λ (t : Standing). t.transaction) is)) kept_none).each;
}

-- what holds whatever was answered, and of a call that hands nothing back
pub on_ok_of : {X E : Type 0} (r : Result X E) (P : Type 0) → P → OnOk r P
on_ok_of (Ok x) P holds = holds
on_ok_of (Err e) P holds = tt

pub none_ended : {X E : Type 0} (r : Result (Option X) E) (P : Option X → Type 0) → r ≡ Ok None → P None → IfOk r P
none_ended r P is holds = subst (λ s. IfOk s P) (sym is) holds

-- both together
pub sound_of : (s : kept.Standing) → AreViews (standing_of s).names → IsKept (transaction_in s.transaction) → IsSoundStanding s
sound_of s views is = record { views = views; kept = is.each }

pub kept_of : (s : kept.Standing) → IsSoundStanding s → IsKept (transaction_in s.transaction)
kept_of s is = record { each = is.kept }
