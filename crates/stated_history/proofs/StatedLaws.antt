-- The history that is told, by its outline and the commits of its lines.
use Rattle.std.proofs.Common.{◌≡◌, ◌∙◌, ◌<◌, ℕ, ◌+◌, zero, suc, List, [], ◌∷◌, ◌++◌, Bool, true, false, cond, length, map, Option, Some, None, Ok, Err, inl, inr, refl, sym, ap, subst, arith, append-nil, eqb-true, eq-eqb}
use Rattle.std.specs.Prelude.{◌==◌, filter_map, slice_index_or, option_map, unwrap_or}
use Rattle.std.specs.List.{AllByRecursion, slice_get, cons_option, fold}
use Rattle.serde_json.specs.Data.{Data}
use Rattle.history.specs.declared.array.ArrayInfo.{ArrayInfo}
use Rattle.history.specs.declared.event.Event.{Event}
use Rattle.history.specs.declared.event.Kind.{Kind}
use Rattle.history.specs.declared.event.Kind.TheVariants.{Opened, Done, Resized, Fault}
use Rattle.history.specs.Acts.{Asked, opens, binds, reads, stages, writes, begins, commits, aborts, resizes, resolves}
use Rattle.history.specs.Answers.{Text}
use Rattle.history.specs.Commit.{Transaction, kept_ops, done}
use Rattle.history.specs.History.{History}
use Rattle.history.specs.Lines.{SpecLeaf, Build}
use Rattle.history.specs.OpenRows.{next_array}
use Rattle.history.specs.Own.{Numbered, opened_event, fault}
use Rattle.history.specs.Own as own
use Rattle.history.specs.Steps.{write_alone}
use Rattle.history.proofs.Laws.{some_inj}
use Rattle.stated_acts.specs.AnswerNumbers.{PrintsNumbers, all_numbers}
use Rattle.stated_acts.specs.Claimed.{at_number, opening_of, commits_at, faults_at, stated_asked, stated, IsStated, AreStated}
use Rattle.stated_acts.specs.Outline.{outline, outlined_event}
use Rattle.stated_acts.specs.Outlined.{leaves_at, undone, IsOutlinedBy, AreOutlinedBy}
use Rattle.stated_acts.specs.Said.{AreSaid}
use Rattle.stated_acts.specs.Stances.{stance}
use Rattle.stated_acts.specs.ToldStandings.{Standing, first_standing, standing, standing_step, act_at}
use Rattle.stated_acts.specs.StatedEvents.{IsEvent}
use Rattle.stated_acts.specs.Stating.{IsIn, IsExactTable}
use Rattle.stated_acts.specs.Takings.{before, Taking, takings, opened_info}
use Rattle.stated_acts.specs.ToldNumbers.{opened_in, done_in, failed_in, single, told_of}
use Rattle.stated_acts.specs.Transcript.{mount, Told}
use Rattle.stated_acts.specs.declared.Said.{Said}
use Rattle.stated_acts.proofs.Laws.{exact_table}
use Rattle.stated_acts.proofs.Laws.{in_front, in_back}
use Rattle.stated_acts.proofs.Laws.{step_same, stated_same}
use Rattle.stated_acts.proofs.Laws.{standing_stance}
use Rattle.stated_history.specs.Commits.{commit_of, kind_in, is_undone, event_with, commit_at}
use Rattle.stated_history.specs.StatedHistories.{ArePutIn, AreStatedWithCommits, NoneIsClaimed}
use Rattle.stated_history.specs.Walks.{outlined, commit_by, standing_before, HasItsNumbers, IsWalked, AreWalked, HaveTheirNumbers}
use Rattle.stated_history.specs.declared.putting.Commit.{Commit}
use Rattle.stated_history.proofs.LineLaws.{standing_more}
use Rattle.stated_history.proofs.OpenLines.{leaves_opened}

-- events by their numbers
got_event : (h : History) (k : ℕ) (e : Event) → slice_get h k ≡ Some e → IsEvent h (k + 1) e
got_event [] k e is = absurd (cc)
got_event (x ∷ h) zero e is = let same : x ≡ e = cc in record { before = []; later = h; parts = ap (λ y. y ∷ h) same; numbered = refl }
got_event (x ∷ h) (suc k) e is =
    let rest = got_event h k e is in
    record { before = x ∷ rest.before; later = rest.later; parts = ap (λ g. x ∷ g) rest.parts; numbered = let n = rest.numbered in omega (arith, n) }

item_at : (xs : History) (e : Event) (ys : History) → slice_get (xs ++ e ∷ ys) (length xs) ≡ Some e
item_at [] e ys = refl
item_at (x ∷ xs) e ys = item_at xs e ys

event_got : (h : History) (n : ℕ) (e : Event) → IsEvent h n e → (k : ℕ) × (n ≡ k + 1) × (slice_get h k ≡ Some e)
event_got h n e is = (length is.before, is.numbered, ap (λ g. slice_get g (length is.before)) is.parts ∙ item_at is.before e is.later)

got_or : {A : Type 0} (xs : List A) (k : ℕ) (x d : A) → slice_get xs k ≡ Some x → slice_index_or xs k d ≡ x
got_or [] k x d is = absurd (cc)
got_or (y ∷ xs) zero x d is = let same : y ≡ x = cc in same
got_or (y ∷ xs) (suc k) x d is = got_or xs k x d is

some_in : (ns : List ℕ) (m : ℕ) → IsIn m ns → 0 < length ns
some_in [] m is = absurd is
some_in (n ∷ ns) m is = omega arith

each_in : (P : ℕ → Type 0) (ns : List ℕ) (m : ℕ) → AllByRecursion P ns → IsIn m ns → P m
each_in P [] m all is = absurd is
each_in P (n ∷ ns) m all (inl is) = subst P is all.0
each_in P (n ∷ ns) m all (inr is) = each_in P ns m all.1 is

abbrev AreEvents : History → List Numbered → Type 0
AreEvents h os = AllByRecursion (λ (o : Numbered). IsEvent h o.number o.event) os

events_append : (h : History) (os ps : List Numbered) → AreEvents h os → AreEvents h ps → AreEvents h (os ++ ps)
events_append h [] ps are more = more
events_append h (o ∷ os) ps are more = (are.0, events_append h os ps are.1 more)

-- lists with the same items
lists_same : {A : Type 0} (xs ys : List A) → ((k : ℕ) → slice_get xs k ≡ slice_get ys k) → xs ≡ ys
lists_same [] [] same = refl
lists_same [] (y ∷ ys) same = absurd (let no : None ≡ Some y = same 0 in cc)
lists_same (x ∷ xs) [] same = absurd (let no : Some x ≡ None = same 0 in cc)
lists_same (x ∷ xs) (y ∷ ys) same =
    let first : x ≡ y = let one = same 0 in cc in
    let rest = lists_same xs ys (λ k. same (suc k)) in
    (λ i. first i ∷ rest i)

mapped_at : {A B : Type 0} (f : A → B) (xs : List A) (k : ℕ) → slice_get (map f xs) k ≡ option_map f (slice_get xs k)
mapped_at f [] k = refl
mapped_at f (x ∷ xs) zero = refl
mapped_at f (x ∷ xs) (suc k) = mapped_at f xs k

undone_kind : (k : Kind) → is_undone k ≡ true → k ≡ Fault []
undone_kind (Opened info) is = absurd (cc)
undone_kind (Done line mode ops key) is = absurd (cc)
undone_kind (Resized a shape) is = absurd (cc)
undone_kind (Fault []) is = refl
undone_kind (Fault (b ∷ mount)) is = absurd (cc)

-- a commit stands for what it did
with_outlined : (c : Option Commit) (e : Event) → outlined_event e ≡ e → outlined_event (event_with c e) ≡ e
with_outlined c e flat = by (is_undone e.kind) refl
  where
    of_one : (o : Option Commit) → e.kind ≡ Fault [] → outlined_event (record { owner = e.owner; kind = unwrap_or (option_map kind_in o) e.kind }) ≡ e
    of_one None is = flat
    of_one (Some d) is = (λ i. record { owner = e.owner; kind = sym is i })

    by : (b : Bool) → is_undone e.kind ≡ b → outlined_event (cond b (record { owner = e.owner; kind = unwrap_or (option_map kind_in c) e.kind }) e) ≡ e
    by true is = of_one c (undone_kind e.kind is)
    by false is = flat

-- the lines of a session, with one line more
module _ (session : ℕ) (t : Told) where
  more_or : (b : Bool) (u : Told) (us : List Told) → cond b (u ∷ (told_of session us ++ cond (t.session == session) (t ∷ []) [])) (told_of session us ++ cond (t.session == session) (t ∷ []) []) ≡ cond b (u ∷ told_of session us) (told_of session us) ++ cond (t.session == session) (t ∷ []) []
  more_or true u us = refl
  more_or false u us = refl

  filter_more : (us : List Told) → told_of session (us ++ t ∷ []) ≡ told_of session us ++ cond (t.session == session) (t ∷ []) []
  filter_more [] = refl
  filter_more (u ∷ us) = ap (λ ts. cond (u.session == session) (u ∷ ts) ts) (filter_more us) ∙ more_or (u.session == session) u us

module _ (outlined_is h : History) (said : List Said) (spots : List ℕ) (all : List (Option Commit)) (flat : outline outlined_is ≡ outlined_is) (table : IsExactTable said spots) (put : ArePutIn outlined_is h all spots) where
  outline_same : outline h ≡ outlined_is
  outline_same = lists_same (outline h) outlined_is (λ k. mapped_at outlined_event h k ∙ ap (option_map outlined_event) (put.each k) ∙ by k (slice_get outlined_is k) refl)
    where
      by : (k : ℕ) (o : Option Event) → slice_get outlined_is k ≡ o → option_map outlined_event (option_map (event_with (commit_at all spots k)) o) ≡ o
      by k None is = refl
      by k (Some e) is =
          let own : Some (outlined_event e) ≡ Some e = sym (mapped_at outlined_event outlined_is k ∙ ap (option_map outlined_event) is) ∙ ap (λ (g : History). slice_get g k) flat ∙ is in
          ap Some (with_outlined (commit_at all spots k) e (some_inj (outlined_event e) e own))

  -- an event that isn't a commit stays
  stays : (n : ℕ) (e : Event) → IsEvent outlined_is n e → is_undone e.kind ≡ false → IsEvent h n e
  stays n e is other =
      let got = event_got outlined_is n e is in
      let at : slice_get h got.0 ≡ Some e = put.each got.0 ∙ ap (option_map (event_with (commit_at all spots got.0))) got.2 ∙ ap Some (kept (commit_at all spots got.0)) in
      subst (λ m. IsEvent h m e) (sym got.1) (got_event h got.0 e at)
    where
      kept : (c : Option Commit) → event_with c e ≡ e
      kept c = ap (λ b. cond b (record { owner = e.owner; kind = unwrap_or (option_map kind_in c) e.kind }) e) other

  -- at a number of a commit stands that of the line that prints it
  comes : (p n owner : ℕ) (d : Said) (c : Commit) → slice_get said p ≡ Some d → IsIn n (all_numbers d.numbers) → slice_get all p ≡ Some (Some c) → IsEvent outlined_is n (undone owner) → IsEvent h n (record { owner = owner; kind = kind_in c })
  comes p n owner d c at prints commit is =
      let got = event_got outlined_is n (undone owner) is in
      let only = table.only p n d at prints in
      let place : only.0 ≡ got.0 = let one = only.1 in let two = got.1 in omega (arith, one, two) in
      let spot : slice_index_or spots got.0 0 ≡ p = got_or spots got.0 p 0 (ap (slice_get spots) (sym place) ∙ only.2) in
      let found : commit_at all spots got.0 ≡ Some c = ap (λ q. slice_index_or all q None) spot ∙ got_or all p (Some c) None commit in
      let there : slice_get h got.0 ≡ Some (record { owner = owner; kind = kind_in c }) = put.each got.0 ∙ ap (option_map (event_with (commit_at all spots got.0))) got.2 ∙ ap (λ o. Some (event_with o (undone owner))) found in
      subst (λ m. IsEvent h m (record { owner = owner; kind = kind_in c })) (sym got.1) (got_event h got.0 _ there)

  -- openings of leaves stay
  opening_stays : (owner : ℕ) (t : Taking) (o : Numbered) → opening_of outlined_is owner t ≡ Some o → is_undone o.event.kind ≡ false
  opening_stays owner t o is = by t.number is
    where
      one : (n : ℕ) (i : Option ArrayInfo) → option_map (λ info. at_number n (opened_event owner info)) i ≡ Some o → is_undone o.event.kind ≡ false
      one n None told = absurd (cc)
      one n (Some info) told = let same : at_number n (opened_event owner info) ≡ o = some_inj _ o told in ap (λ (x : Numbered). is_undone x.event.kind) (sym same)

      by : (number : Option ℕ) → opening_of outlined_is owner (record { leaf = t.leaf; number = number }) ≡ Some o → is_undone o.event.kind ≡ false
      by None told = absurd (cc)
      by (Some n) told = one n (opened_info (next_array (before outlined_is n)) t.leaf) told

  openings_stay : (owner : ℕ) (ts : List Taking) → AreEvents outlined_is (filter_map (opening_of outlined_is owner) ts) → AreEvents h (filter_map (opening_of outlined_is owner) ts)
  openings_stay owner [] are = tt
  openings_stay owner (t ∷ ts) are = by (opening_of outlined_is owner t) refl (openings_stay owner ts) are
    where
      by : (o : Option Numbered) → opening_of outlined_is owner t ≡ o → (AreEvents outlined_is (filter_map (opening_of outlined_is owner) ts) → AreEvents h (filter_map (opening_of outlined_is owner) ts)) → AreEvents outlined_is (cons_option o (filter_map (opening_of outlined_is owner) ts)) → AreEvents h (cons_option o (filter_map (opening_of outlined_is owner) ts))
      by None is rest told = rest told
      by (Some x) is rest told = (stays x.number x.event told.0 (opening_stays owner t x is), rest told.1)

  faults_stay : (owner : ℕ) (ns : List ℕ) → AllByRecursion (λ n. IsEvent outlined_is n (fault owner mount)) ns → AreEvents h (faults_at owner ns)
  faults_stay owner [] are = tt
  faults_stay owner (n ∷ ns) are = (stays n (fault owner mount) are.0 refl, faults_stay owner ns are.1)

  commits_come : (owner : ℕ) (t : Transaction) (ns : List ℕ) → ((n : ℕ) → IsIn n ns → IsEvent h n (done owner t (kept_ops t) None)) → AreEvents h (commits_at owner t ns)
  commits_come owner t [] each = tt
  commits_come owner t (n ∷ ns) each = (each n (inl refl), commits_come owner t ns (λ m is. each m (inr is)))

  -- so all events that a line states are there
  asked_events : (owner line : ℕ) (asked : Asked) (answer : Data)
      → ((name : Text) (leaves : List SpecLeaf) (build : Build) → asked ≡ Ok (opens name leaves build) → AreEvents outlined_is (filter_map (opening_of outlined_is owner) (takings outlined_is leaves (opened_in answer))))
      → AllByRecursion (λ n. IsEvent outlined_is n (fault owner mount)) (failed_in answer)
      → ((n : ℕ) (k : Kind) → IsIn n (done_in answer) → commit_by line asked ≡ Some k → IsEvent h n (record { owner = owner; kind = k }))
      → AreEvents h (stated_asked outlined_is owner line asked answer)
  asked_events owner line (Err refusal) answer opened failed did = tt
  asked_events owner line (Ok (opens name leaves build)) answer opened failed did =
      events_append h _ _ (openings_stay owner (takings outlined_is leaves (opened_in answer)) (opened name leaves build refl)) (faults_stay owner (failed_in answer) failed)
  asked_events owner line (Ok (binds name view)) answer opened failed did = tt
  asked_events owner line (Ok (reads view down)) answer opened failed did = faults_stay owner (failed_in answer) failed
  asked_events owner line (Ok (stages t view words)) answer opened failed did = tt
  asked_events owner line (Ok (writes view words)) answer opened failed did =
      events_append h _ _ (commits_come owner (write_alone line view words) (done_in answer) (λ n is. did n (commit_of (write_alone line view words)) is refl)) (faults_stay owner (failed_in answer) failed)
  asked_events owner line (Ok (begins mode)) answer opened failed did = tt
  asked_events owner line (Ok (commits t)) answer opened failed did =
      events_append h _ _ (commits_come owner t (done_in answer) (λ n is. did n (commit_of t) is refl)) (faults_stay owner (failed_in answer) failed)
  asked_events owner line (Ok aborts) answer opened failed did = tt
  asked_events owner line (Ok (resizes array shape)) answer opened failed did = tt
  asked_events owner line (Ok (resolves name view array)) answer opened failed did = tt

  whole : outline h ≡ outline outlined_is
  whole = outline_same ∙ sym flat

  -- of one line
  line_stated : (p : ℕ) (earlier : List Told) (t : Told) (d : Said) (c : Option Commit) → slice_get said p ≡ Some d → slice_get all p ≡ Some c → PrintsNumbers t.answer d.numbers → IsOutlinedBy outlined_is (stance (told_of t.session earlier)) t
      → IsWalked outlined_is (standing_before outlined_is earlier t) t c → IsStated h (standing_before outlined_is earlier t) t
  line_stated p earlier t d c at commit prints line is = record {
    numbers = ap own.numbers_of (stated_same h outlined_is whole s t) ∙ is.numbers;
    events = subst (AreEvents h) (sym (stated_same h outlined_is whole s t)) (asked_events t.session t.number (act_at s t) t.answer opened line.failed did);
  }
    where
      s : Standing
      s = standing_before outlined_is earlier t

      opened : (name : Text) (leaves : List SpecLeaf) (build : Build) → act_at s t ≡ Ok (opens name leaves build) → AreEvents outlined_is (filter_map (opening_of outlined_is t.session) (takings outlined_is leaves (opened_in t.answer)))
      opened name leaves build does =
          let same : leaves_at (stance (told_of t.session earlier)) t.asked ≡ leaves =
          ap (λ x. leaves_at x t.asked) (sym (standing_stance outlined_is (told_of t.session earlier))) ∙ leaves_opened s.names s.transaction t.asked name leaves build does in
          subst (λ ls. AreEvents outlined_is (filter_map (opening_of outlined_is t.session) (takings outlined_is ls (opened_in t.answer)))) same line.openings.events

      by : (o : Option Commit) → slice_get all p ≡ Some o → (n : ℕ) (k : Kind) → IsIn n (done_in t.answer) → option_map kind_in o ≡ Some k → IsEvent h n (record { owner = t.session; kind = k })
      by None there n k among told = absurd (cc)
      by (Some x) there n k among told =
          let in_done : IsIn n d.numbers.done = subst (IsIn n) prints.done among in
          subst (λ (y : Kind). IsEvent h n (record { owner = t.session; kind = y })) (some_inj (kind_in x) k told)
          (comes p n t.session d x at (in_back d.numbers.opened _ n (in_front d.numbers.done (single d.numbers.failed) n in_done)) there (each_in (λ m. IsEvent outlined_is m (undone t.session)) (done_in t.answer) n line.done among))

      did : (n : ℕ) (k : Kind) → IsIn n (done_in t.answer) → commit_by t.number (act_at s t) ≡ Some k → IsEvent h n (record { owner = t.session; kind = k })
      did n k among told = by c commit n k among (is.event (some_in (done_in t.answer) n among) ∙ told)

  -- of the lines of a session behind earlier ones
  lines_stated : (scripts : List (List ℕ)) (transcript : List ℕ) (session p : ℕ) (earlier told : List Told) (rest : List Said) (cs : List (Option Commit)) → AreSaid scripts transcript rest told
      → ((k : ℕ) (d : Said) → slice_get rest k ≡ Some d → slice_get said (p + k) ≡ Some d) → ((k : ℕ) (c : Option Commit) → slice_get cs k ≡ Some c → slice_get all (p + k) ≡ Some c)
      → AreOutlinedBy outlined_is earlier told → AreWalked outlined_is earlier told cs → AreStated h (standing outlined_is (told_of session earlier)) (told_of session told)
  lines_stated scripts transcript session p earlier [] rest cs are here there lines walked = tt
  lines_stated scripts transcript session p earlier (t ∷ told) [] cs are here there lines walked = absurd are
  lines_stated scripts transcript session p earlier (t ∷ told) (d ∷ rest) [] are here there lines walked = absurd walked
  lines_stated scripts transcript session p earlier (t ∷ told) (d ∷ rest) (c ∷ cs) are here there lines walked =
      by (t.session == session) refl
      (lines_stated scripts transcript session (p + 1) (earlier ++ t ∷ []) told rest cs are.1 (λ k e at. ap (slice_get said) (step k) ∙ here (suc k) e at) (λ k e at. ap (slice_get all) (step k) ∙ there (suc k) e at) lines.1 walked.1)
    where
      step : (k : ℕ) → (p + 1) + k ≡ p + suc k
      step k = omega arith

      start : p + 0 ≡ p
      start = omega arith

      one : IsStated h (standing_before outlined_is earlier t) t
      one = line_stated p earlier t d c (ap (slice_get said) (sym start) ∙ here 0 d refl) (ap (slice_get all) (sym start) ∙ there 0 c refl) are.0.prints lines.0 walked.0

      others : (b : Bool) → (t.session == session) ≡ b → told_of session (earlier ++ t ∷ []) ≡ told_of session earlier ++ cond b (t ∷ []) []
      others b is = filter_more session t earlier ∙ ap (λ x. told_of session earlier ++ cond x (t ∷ []) []) is

      by : (b : Bool) → (t.session == session) ≡ b → AreStated h (standing outlined_is (told_of session (earlier ++ t ∷ []))) (told_of session told)
          → AreStated h (standing outlined_is (told_of session earlier)) (cond b (t ∷ told_of session told) (told_of session told))
      by true is later =
          let own = eqb-true t.session session is in
          let before : standing_before outlined_is earlier t ≡ standing outlined_is (told_of session earlier) = ap (λ n. standing outlined_is (told_of n earlier)) own in
          let behind : standing outlined_is (told_of session (earlier ++ t ∷ [])) ≡ standing_step h (standing outlined_is (told_of session earlier)) t =
          ap (standing outlined_is) (others true is) ∙ standing_more outlined_is (told_of session earlier) t ∙ sym (step_same h outlined_is whole (standing outlined_is (told_of session earlier)) t) in
          (subst (λ x. IsStated h x t) before one, subst (λ x. AreStated h x (told_of session told)) behind later)
      by false is later = subst (λ ts. AreStated h (standing outlined_is ts) (told_of session told)) (others false is ∙ append-nil (told_of session earlier)) later

from_first : (k : ℕ) → 0 + k ≡ k
from_first k = omega arith

pub stated_with_commits : AreStatedWithCommits
stated_with_commits = λ s spots told commits events is cut of_it walked put.
    let by = is.stated.stated s.transcript.now told of_it.said_of in
    let table = exact_table s.scripts.now cut.transcript s.said.now cut.told spots cut.said_of cut.numbered cut.table in (
      record {
        sessions = λ session. lines_stated (outlined s) events s.said.now spots commits is.stated.flat table put s.scripts.now s.transcript.now session 0 [] told s.said.now commits of_it.said_of (λ k d at. ap (slice_get s.said.now) (from_first k) ∙ at) (λ k c at. ap (slice_get commits) (from_first k) ∙ at) by.outlined.lines walked;
        count = put.count ∙ by.outlined.count;
      },
      outline_same (outlined s) events s.said.now spots commits is.stated.flat table put,
    )

-- a claimed history has, at each line, the numbers of its events over its outline too
numbers_claimed : (h o : History) (same : outline h ≡ outline o) (earlier told : List Told) → ((session : ℕ) → AreStated h (standing h (told_of session earlier)) (told_of session told)) → HaveTheirNumbers o earlier told
numbers_claimed h o same earlier [] each = tt
numbers_claimed h o same earlier (t ∷ told) each = (first, numbers_claimed h o same (earlier ++ t ∷ []) told rest)
  where
    standing_over : (ts : List Told) (s : Standing) → fold (standing_step h) s ts ≡ fold (standing_step o) s ts
    standing_over [] s = refl
    standing_over (u ∷ ts) s = ap (λ x. fold (standing_step h) x ts) (step_same h o same s u) ∙ standing_over ts (standing_step o s u)

    mine : AreStated h (standing h (told_of t.session earlier)) (t ∷ told_of t.session told)
    mine = subst (λ b. AreStated h (standing h (told_of t.session earlier)) (cond b (t ∷ told_of t.session told) (told_of t.session told))) (eq-eqb t.session t.session refl) (each t.session)

    first : HasItsNumbers o (standing_before o earlier t) t
    first =
        ap (λ x. own.numbers_of (stated o x t)) (sym (standing_over (told_of t.session earlier) first_standing))
        ∙ ap own.numbers_of (sym (stated_same h o same (standing h (told_of t.session earlier)) t)) ∙ mine.0.numbers

    rest : (session : ℕ) → AreStated h (standing h (told_of session (earlier ++ t ∷ []))) (told_of session told)
    rest session = by (t.session == session) refl (each session)
      where
        by : (b : Bool) → (t.session == session) ≡ b → AreStated h (standing h (told_of session earlier)) (cond b (t ∷ told_of session told) (told_of session told)) → AreStated h (standing h (told_of session (earlier ++ t ∷ []))) (told_of session told)
        by true is told_so =
            subst (λ x. AreStated h x (told_of session told))
            (sym (ap (standing h) (filter_more session t earlier ∙ ap (λ b. told_of session earlier ++ cond b (t ∷ []) []) is) ∙ standing_more h (told_of session earlier) t)) told_so.1
        by false is told_so =
            subst (λ ts. AreStated h (standing h ts) (told_of session told)) (sym (filter_more session t earlier ∙ ap (λ b. told_of session earlier ++ cond b (t ∷ []) []) is ∙ append-nil (told_of session earlier))) told_so

pub none_is_claimed : NoneIsClaimed
none_is_claimed = λ s told is of_it lacks history claimed.
    let by = is.stated.stated s.transcript.now told of_it.said_of in
    lacks (numbers_claimed history (outlined s) (by.claimed history claimed ∙ sym is.stated.flat) [] told claimed.sessions)
