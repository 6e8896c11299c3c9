-- What a line's commit is, by the session before it and behind it.
use Rattle.std.proofs.Common.{◌≡◌, ◌∙◌, ◌<◌, ℕ, List, [], ◌∷◌, length, Bool, Option, Some, None, Ok, refl, sym, ap, subst, arith}
use Rattle.serde_json.specs.Data.{Data}
use Rattle.history.specs.declared.event.Kind.{Kind}
use Rattle.history.specs.Acts.{Asked, write_act}
use Rattle.history.specs.Commit.{Transaction}
use Rattle.history.specs.History.{History}
use Rattle.history.specs.Steps.{write_alone}
use Rattle.history.proofs.Laws.{none_is_none, some_inj}
use Rattle.stack_driver.specs.declared.view.View.{View}
use Rattle.stated_acts.specs.ToldStandings.{Standing, left_told, standing_asked}
use Rattle.stated_acts.specs.ToldNumbers.{done_in, failed_in, damaged_in}
use Rattle.stated_acts.specs.declared.Act.{Act}
use Rattle.stated_acts.specs.declared.Act.TheVariants.{Refused, Opens, Binds, Reads, Writes, Begins, Commits, Aborts}
use Rattle.stated_acts.specs.declared.Ongoing.{Ongoing}
use Rattle.stated_acts.specs.Acts.{IsActBy}
use Rattle.stated_history.specs.Walks.{IsNoWrite}
use Rattle.stated_acts.specs.Standings.{transaction_of, ended_by, IsEnded}
use Rattle.stated_history.specs.Commits.{commit_of}
use Rattle.stated_history.specs.Walks.{commit_by}

-- a commit ended this transaction
pub record HasEnded (act : Act) (before : Option Transaction) (t : Ongoing) : Type 0 where
  pub commit : act ≡ Commits
  pub stood : before ≡ Some (transaction_of t)

ended_stood : (before after : Option Transaction) (t : Transaction) → Some t ≡ ended_by before after → before ≡ Some t
ended_stood before None t is = sym is
ended_stood before (Some u) t is = absurd (none_is_none t (sym is))

some_none : (t : Ongoing) → Some t ≡ None → ⊥
some_none t is = cc

pub has_ended : (act : Act) (before after : Option Transaction) (t : Ongoing) → IsEnded act before after (Some t) → HasEnded act before t
has_ended (Refused body) before after t is = absurd (some_none t is)
has_ended (Opens name plan) before after t is = absurd (some_none t is)
has_ended (Binds name view) before after t is = absurd (some_none t is)
has_ended (Reads view) before after t is = absurd (some_none t is)
has_ended (Writes view words) before after t is = absurd (some_none t is)
has_ended (Begins mode) before after t is = absurd (some_none t is)
has_ended Commits before after t is = record { commit = refl; stood = ended_stood before after (transaction_of t) is }
has_ended Aborts before after t is = absurd (some_none t is)

-- the event of the transaction that a commit ended is that of the act
pub event_ended : (line : ℕ) (asked : Asked) (act : Act) (before : Option Transaction) (t : Ongoing) (e : Kind) → HasEnded act before t → IsActBy before asked act → e ≡ commit_of (transaction_of t) → Some e ≡ commit_by line asked
event_ended line asked act before t e ended is event =
    let by : IsActBy before asked Commits = subst (IsActBy before asked) ended.commit is in
    let same : by.0 ≡ transaction_of t = some_inj by.0 (transaction_of t) (sym by.1 ∙ ended.stood) in
    ap Some (event ∙ ap commit_of (sym same)) ∙ ap (commit_by line) (sym by.2)

left_none : (t : Transaction) (ds ns : List ℕ) (damaged : Bool) → 0 < length ds → left_told t ds ns damaged ≡ None
left_none t [] ns damaged some = absurd (omega (arith, some))
left_none t (d ∷ ds) ns damaged some = refl

-- where a number of a commit is printed and none was ended, the act is none of a commit
pub no_event : (history : History) (s next : Standing) (line : ℕ) (asked : Asked) (act : Act) (answer : Data) → IsNoWrite act → IsActBy s.transaction asked act → next ≡ standing_asked history s line asked answer → 0 < length (done_in answer) → IsEnded act s.transaction next.transaction None
    → None ≡ commit_by line asked
no_event history s next line asked (Refused body) answer other is stands some ended = sym (ap (commit_by line) is.1)
no_event history s next line asked (Opens name plan) answer other is stands some ended = sym (ap (commit_by line) is)
no_event history s next line asked (Binds name view) answer other is stands some ended = sym (ap (commit_by line) is)
no_event history s next line asked (Reads view) answer other is stands some ended = sym (ap (commit_by line) is)
no_event history s next line asked (Writes view words) answer other is stands some ended = absurd other
no_event history s next line asked (Begins mode) answer other is stands some ended = sym (ap (commit_by line) is.1)
no_event history s next line asked Commits answer other is stands some ended =
    let behind : next.transaction ≡ None = ap (λ (n : Standing). n.transaction) (stands ∙ ap (λ a. standing_asked history s line a answer) is.2) ∙ left_none is.0 (done_in answer) (failed_in answer) (damaged_in answer) some in
    let stood : None ≡ Some is.0 = ended ∙ ap (ended_by s.transaction) behind ∙ is.1 in
    absurd (none_is_none is.0 stood)
no_event history s next line asked Aborts answer other is stands some ended = sym (ap (commit_by line) is)

-- a write outside of a transaction changes nothing of its session, and its event is its own
pub write_outside : (history : History) (s : Standing) (line : ℕ) (asked : Asked) (view : View) (words : List ℕ) (answer : Data) → s.transaction ≡ None → IsActBy s.transaction asked (Writes view words) → s ≡ standing_asked history s line asked answer
write_outside history s line asked view words answer none is = sym (ap (λ a. standing_asked history s line a answer) (is ∙ ap (λ t. Ok (write_act t view words)) none))

pub event_outside : (t : Option Transaction) (line : ℕ) (asked : Asked) (view : View) (words : List ℕ) (e : Kind) → t ≡ None → IsActBy t asked (Writes view words) → e ≡ commit_of (write_alone line view words) → Some e ≡ commit_by line asked
event_outside t line asked view words e none is event = ap Some event ∙ sym (ap (commit_by line) (is ∙ ap (λ u. Ok (write_act u view words)) none))

-- one inside states no commit
pub no_event_inside : (t : Option Transaction) (u : Transaction) (line : ℕ) (asked : Asked) (view : View) (words : List ℕ) → t ≡ Some u → IsActBy t asked (Writes view words) → None ≡ commit_by line asked
no_event_inside t u line asked view words some is = sym (ap (commit_by line) (is ∙ ap (λ v. Ok (write_act v view words)) some))
