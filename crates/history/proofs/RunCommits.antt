-- A session's run keeps what its commit asks for: the history is legal behind the commit, with premises on the lines alone.
use Rattle.std.proofs.Common.{◌≡◌, ℕ, zero, suc, ◌+◌, ◌<◌, ◌≤◌, List, [], ◌∷◌, ◌++◌, length, map, take, take-take, drop, Bool, true, false, cond, Option, Some, None, Ok, refl, sym, ap, subst, ◌∙◌, append_assoc, append-nil, length-append, length-take, arith}
use Rattle.std.specs.Prelude.{◌==◌}
use Rattle.std.specs.List.{AllByRecursion}
use Rattle.std.proofs.lemmas.List.{take-append-drop, length-take-le}
use Rattle.kv_face.specs.Store.{Contents}
use Rattle.history.specs.declared.event.Event.{Event}
use Rattle.history.specs.declared.event.Op.{Op}
use Rattle.history.specs.History.{History}
use Rattle.history.specs.Acts.{Act, Asked, opens, binds, reads, stages, writes, begins, commits, aborts, resizes, resolves, inside, changed, write_act, write_of, act_of}
use Rattle.history.specs.Answers as body
use Rattle.history.specs.Answers.{Body, Text, Answer}
use Rattle.history.specs.Bound.{AreKnownOps, IsWithin}
use Rattle.history.specs.Commit.{Key, Fixed, Transaction, commit_events, HasNoConflict}
use Rattle.history.specs.CommitRows.{MayCommit, IsCommit, conflicts, is_shrunk, is_split, is_damaged, is_done, is_failed, is_wanting}
use Rattle.history.specs.Legal.{IsLegal, viewed}
use Rattle.history.specs.Lines.{Line, Change, Values, writing, committing}
use Rattle.history.specs.Own.{Numbered, numbered, own_events, fault}
use Rattle.history.specs.Refs.{HasKnownRefs}
use Rattle.history.specs.Refusals.{IsShrunkCommit}
use Rattle.history.specs.Sessions.{Names, SessionState, at_first}
use Rattle.history.specs.Staged.{IsStaged, AreFitting, AreStaged, FitsInLine, IsTransaction, HasTransaction}
use Rattle.history.specs.Steps.{write_alone, IsRow, open_done, open_refused, open_unbuilt, open_failed, open_wanting, view_done, read_done, read_shrunk, read_damaged, read_failed, write_staged, write_done, begin_done, commit_done, abort_done, resize_done, resize_many, resize_split, resize_damaged, resize_failed, resolve_done, resolve_refused, IsAnswered, refused_line, wanting, done_line, SessionStep, IsSessionRun, no_line, blank_line, next_line, last_line}
use Rattle.history.specs.Viewing.{shape_of, view_fault, cell_fault}
use Rattle.history.specs.declared.event.Op.TheVariants.{Write}
use Rattle.stack_driver.specs.Views.{look_of}
use Rattle.stack_driver.specs.declared.view.View.{View}
use Rattle.history.proofs.Asking.{IsAskedBy, named_by, changes_by, without_by, values_by}
use Rattle.history.proofs.Alone.{first_number, numbered_events, numbered_same, numbered_first}
use Rattle.history.proofs.Commits.{all_to}
use Rattle.history.proofs.Histories.{legal_more}
use Rattle.history.proofs.Known.{none_is_none}
use Rattle.history.proofs.KnownViews.{view_later}
use Rattle.history.proofs.Presence.{IsLegal-front}
use Rattle.history.proofs.Shrinks.{unshrunk_keeps_legal}
use Rattle.history.proofs.Staged.{commit_keeps_legal}
use Rattle.history.proofs.StepsKept.{kept_later, run_keeps}
use Rattle.history.proofs.StepsKnown.{run_known}
use Rattle.history.proofs.StepsStaged.{run_staged, whole_view, staged_write}

-- a step is one over any events that hold what it has seen
pub step_shorter : (fixed : Fixed) (owner : ℕ) (events : History) (n : ℕ) (s : SessionState) (line : ℕ) (asked : Line) (next : SessionState) (answer : Body) → next.seen ≤ n → SessionStep fixed owner events s line asked next answer → SessionStep fixed owner (take n events) s line asked next answer
step_shorter fixed owner events n s line asked next answer low step = record {
  rises = step.rises;
  within = let h = step.within in omega (arith, h, low, length-take n events);
  row =
      subst (λ seen. IsAnswered fixed owner seen s line (act_of s.names s.transaction asked) next.names next.transaction answer (own_events owner (s.seen + 1) (drop s.seen seen)))
      (sym (take-take next.seen n events low)) step.row;
}

-- what a session has seen grows
pub run_rises : {fixed : Fixed} {owner : ℕ} {events : History} {s : SessionState} {line : ℕ} {lines : List (Option Line)} {answers : List Answer} {last : SessionState} → IsSessionRun fixed owner events s line lines answers last → s.seen ≤ last.seen
run_rises no_line = omega arith
run_rises (blank_line rest) = run_rises rest
run_rises (next_line step goes_on rest) = let a = step.rises in let b = run_rises rest in omega (arith, a, b)
run_rises (last_line step) = step.rises

-- so is a run
pub run_shorter : {fixed : Fixed} {owner : ℕ} (events : History) (n : ℕ) {s : SessionState} {line : ℕ} {lines : List (Option Line)} {answers : List Answer} {last : SessionState} → last.seen ≤ n → IsSessionRun fixed owner events s line lines answers last
    → IsSessionRun fixed owner (take n events) s line lines answers last
run_shorter events n low no_line = no_line
run_shorter events n low (blank_line rest) = blank_line (run_shorter events n low rest)
run_shorter {fixed = fixed} {owner = owner} events n low (next_line {s} {m} {last} {line} {asked} {answer} step goes_on rest) =
    let more = run_rises rest in
    next_line (step_shorter fixed owner events n s line asked m answer (omega (arith, low, more)) step) goes_on (run_shorter events n low rest)
run_shorter {fixed = fixed} {owner = owner} events n low (last_line {s} {last} {line} {asked} step) = last_line (step_shorter fixed owner events n s line asked last body.memory low step)

-- behind a run, over n events that hold all that the session has seen: what its transaction has read stands by its marks, and its operations are staged
record IsReadied (start : Contents) (h : History) (t : Transaction) : Type 0 where
  reads : IsTransaction start h t
  staged : AllByRecursion IsStaged t.ops

module _ {fixed : Fixed} {owner : ℕ} (events : History) (n : ℕ) {lines : List (Option Line)} {answers : List Answer} {last : SessionState} (legal : IsLegal fixed.start (take n events)) (run : IsSessionRun fixed owner events at_first 1 lines answers last) (low : last.seen ≤ n) where
  abbrev here : History
  here = take n events

  all_here : take n here ≡ here
  all_here = take-take n n events (omega arith)

  readied : (t : Transaction) → AllByRecursion FitsInLine lines → last.transaction ≡ Some t → IsReadied fixed.start here t
  readied t fitting is =
      let short = run_shorter events n low run in
      let stands : HasTransaction fixed.start (take last.seen here) last.transaction = run_keeps here legal short tt in
      let later : HasTransaction fixed.start (take n here) last.transaction = kept_later fixed.start here last.seen n last.transaction legal low stands in
      let now : HasTransaction fixed.start here last.transaction = subst (λ h. HasTransaction fixed.start h last.transaction) all_here later in
      let staged : AreStaged last.transaction = run_staged here fitting short tt in
      record { reads = subst (HasTransaction fixed.start here) is now; staged = subst AreStaged is staged }

  known_here : (t : Transaction) → AllByRecursion IsWithin lines → last.transaction ≡ Some t → AllByRecursion (λ op. HasKnownRefs here (viewed op)) t.ops
  known_here t parts is =
      let short = run_shorter events n low run in
      let known = run_known here legal parts short ((λ name view never. absurd (none_is_none view never)), tt) in
      let ops : AreKnownOps (take last.seen here) (Some t) = subst (AreKnownOps (take last.seen here)) is known.1 in
      all_to (λ (op : Op). HasKnownRefs (take last.seen here) (viewed op)) (λ op. HasKnownRefs here (viewed op)) (λ op refs. subst (λ h. HasKnownRefs h (viewed op)) all_here (view_later here last.seen n low (viewed op) refs)) t.ops ops

  -- behind any events that hold what its run has seen, a session's commit keeps the history legal, where it meets no conflict and
  -- isn't shrunk
  pub run_keeps_legal : (t : Transaction) → AllByRecursion FitsInLine lines → AllByRecursion IsWithin lines → last.transaction ≡ Some t → HasNoConflict here t → ((key : Key) (now : ℕ) → ¬ IsShrunkCommit here t key now) → IsLegal fixed.start (here ++ commit_events fixed here owner t)
  run_keeps_legal t fitting parts is free never =
      let ready = readied t fitting is in
      unshrunk_keeps_legal fixed here owner t legal ready.reads free ready.staged (known_here t parts is) never

-- the first so many events of a legal history with them keep it legal
part_legal : (start : Contents) (h es : History) (count : ℕ) → IsLegal start (h ++ es) → IsLegal start (h ++ take count es)
part_legal start h es count legal =
    let whole : (h ++ take count es) ++ drop count es ≡ h ++ es = append_assoc h (take count es) (drop count es) ∙ ap (λ xs. h ++ xs) (take-append-drop count es) in
    IsLegal-front start (h ++ take count es) (drop count es) (subst (IsLegal start) (sym whole) legal)

nothing_legal : (start : Contents) (h : History) (k : ℕ) (new : List Event) → [] ≡ numbered k new → IsLegal start h → IsLegal start (h ++ new)
nothing_legal start h k [] none legal = subst (IsLegal start) (sym (append-nil h)) legal
nothing_legal start h k (e ∷ es) none legal = absurd (cc)

part_events : (count k : ℕ) (es : List Event) (rest : List Numbered) → map (λ (o : Numbered). o.event) (take count (numbered k es) ++ rest) ≡ take count es ++ map (λ (o : Numbered). o.event) rest
part_events zero k es rest = refl
part_events (suc c) k [] rest = refl
part_events (suc c) k (e ∷ es) rest = ap (λ xs. e ∷ xs) (part_events c (k + 1) es rest)

part_first : (count m : ℕ) (es : List Event) (f : Numbered) → f.number ≡ m + count + 1 → count < length es → first_number (take count (numbered (m + 1) es) ++ f ∷ []) ≡ m + 1
part_first zero m es f is fewer = omega (arith, is)
part_first (suc c) m [] f is fewer = absurd (omega (arith, fewer))
part_first (suc c) m (e ∷ es) f is fewer = refl

part_starts : (count m n : ℕ) (es : List Event) (e : Event) (new : List Event) → take count (numbered (m + 1) es) ≡ numbered (n + 1) (e ∷ new) → m ≡ n
part_starts zero m n es e new same = absurd (cc)
part_starts (suc c) m n [] e new same = absurd (cc)
part_starts (suc c) m n (x ∷ es) e new same = let number : m + 1 ≡ n + 1 = ap first_number same in omega (arith, number)

module _ (fixed : Fixed) (owner : ℕ) (now : History) (t : Transaction) (n : ℕ) (legal : IsLegal fixed.start (take n now)) (ready : IsReadied fixed.start (take n now) t) where
  -- a commit that may be done keeps the history legal
  whole_legal : MayCommit fixed (take n now) t → IsLegal fixed.start (take n now ++ commit_events fixed (take n now) owner t)
  whole_legal may = commit_keeps_legal fixed (take n now) owner t legal ready.reads may.no_conflict ready.staged may.in_shapes

  done_legal : (m : ℕ) (new : List Event) → MayCommit fixed (take m now) t → numbered (m + 1) (commit_events fixed (take m now) owner t) ≡ numbered (n + 1) new → IsLegal fixed.start (take n now ++ new)
  done_legal m [] may same = subst (IsLegal fixed.start) (sym (append-nil (take n now))) legal
  done_legal m (e ∷ es) may same =
      let ces : List Event = commit_events fixed (take m now) owner t in
      let number : n + 1 ≡ m + 1 = numbered_first (n + 1) (m + 1) e es ces (sym same) in
      let at : m ≡ n = omega (arith, number) in
      let events_are : ces ≡ e ∷ es = numbered_same (m + 1) (n + 1) ces (e ∷ es) same in
      let may_here : MayCommit fixed (take n now) t = subst (λ k. MayCommit fixed (take k now) t) at may in
      let here_are : commit_events fixed (take n now) owner t ≡ e ∷ es = ap (λ k. commit_events fixed (take k now) owner t) (sym at) ∙ events_are in
      subst (λ xs. IsLegal fixed.start (take n now ++ xs)) here_are (whole_legal may_here)

  failed_legal : (m count : ℕ) (mount : List ℕ) (new : List Event) → MayCommit fixed (take m now) t → count < length (commit_events fixed (take m now) owner t)
      → take count (numbered (m + 1) (commit_events fixed (take m now) owner t)) ++ record { number = m + count + 1; event = fault owner mount } ∷ [] ≡ numbered (n + 1) new → IsLegal fixed.start (take n now ++ new)
  failed_legal m count mount [] may fewer same = subst (IsLegal fixed.start) (sym (append-nil (take n now))) legal
  failed_legal m count mount (e ∷ es) may fewer same =
      let last : Numbered = record { number = m + count + 1; event = fault owner mount } in
      let ces : List Event = commit_events fixed (take m now) owner t in
      let number : m + 1 ≡ n + 1 = sym (part_first count m ces last refl fewer) ∙ ap first_number same in
      let at : m ≡ n = omega (arith, number) in
      let events_are : take count ces ++ fault owner mount ∷ [] ≡ e ∷ es = sym (part_events count (m + 1) ces (last ∷ [])) ∙ ap (map (λ (o : Numbered). o.event)) same ∙ numbered_events (n + 1) (e ∷ es) in
      let may_here : MayCommit fixed (take n now) t = subst (λ k. MayCommit fixed (take k now) t) at may in
      let front : IsLegal fixed.start (take n now ++ take count (commit_events fixed (take n now) owner t)) = part_legal fixed.start (take n now) (commit_events fixed (take n now) owner t) count (whole_legal may_here) in
      let with_fault : IsLegal fixed.start ((take n now ++ take count (commit_events fixed (take n now) owner t)) ++ fault owner mount ∷ []) = legal_more fixed.start (take n now ++ take count (commit_events fixed (take n now) owner t)) (fault owner mount) front tt in
      let parted : IsLegal fixed.start (take n now ++ (take count (commit_events fixed (take n now) owner t) ++ fault owner mount ∷ [])) = subst (IsLegal fixed.start) (append_assoc (take n now) (take count (commit_events fixed (take n now) owner t)) (fault owner mount ∷ [])) with_fault in
      let here_are : take count (commit_events fixed (take n now) owner t) ++ fault owner mount ∷ [] ≡ e ∷ es = ap (λ k. take count (commit_events fixed (take k now) owner t) ++ fault owner mount ∷ []) (sym at) ∙ events_are in
      subst (λ xs. IsLegal fixed.start (take n now ++ xs)) here_are parted

  wanting_legal : (m count : ℕ) (new : List Event) → MayCommit fixed (take m now) t → take count (numbered (m + 1) (commit_events fixed (take m now) owner t)) ≡ numbered (n + 1) new → IsLegal fixed.start (take n now ++ new)
  wanting_legal m count [] may same = subst (IsLegal fixed.start) (sym (append-nil (take n now))) legal
  wanting_legal m count (e ∷ es) may same =
      let ces : List Event = commit_events fixed (take m now) owner t in
      let at : m ≡ n = part_starts count m n ces e es same in
      let events_are : take count ces ≡ e ∷ es =
      sym (append-nil (take count ces)) ∙ sym (part_events count (m + 1) ces []) ∙ ap (map (λ (o : Numbered). o.event)) (append-nil (take count (numbered (m + 1) ces)) ∙ same) ∙ numbered_events (n + 1) (e ∷ es) in
      let may_here : MayCommit fixed (take n now) t = subst (λ k. MayCommit fixed (take k now) t) at may in
      let here_are : take count (commit_events fixed (take n now) owner t) ≡ e ∷ es = ap (λ k. take count (commit_events fixed (take k now) owner t)) (sym at) ∙ events_are in
      subst (λ xs. IsLegal fixed.start (take n now ++ xs)) here_are (part_legal fixed.start (take n now) (commit_events fixed (take n now) owner t) count (whole_legal may_here))

  -- the events that a commit adds keep the history legal, whatever it answers
  row_legal : {left : Option Transaction} {answer : Body} {own : List Numbered} (new : List Event) → IsCommit fixed owner now t left answer own → own ≡ numbered (n + 1) new → IsLegal fixed.start (take n now ++ new)
  row_legal new (conflicts conflict) same = nothing_legal fixed.start (take n now) (n + 1) new same legal
  row_legal new (is_shrunk free shrunk) same = nothing_legal fixed.start (take n now) (n + 1) new same legal
  row_legal new (is_split free present split) same = nothing_legal fixed.start (take n now) (n + 1) new same legal
  row_legal new (is_damaged may damage) same = nothing_legal fixed.start (take n now) (n + 1) new same legal
  row_legal new (is_done m may undamaged) same = done_legal m new may same
  row_legal new (is_failed m count mount part changed) same = failed_legal m count mount new part.may part.fewer same
  row_legal new (is_wanting m count part) same = wanting_legal m count new part.may same

-- the session's events among some lie within their numbers
own_within : (owner k : ℕ) (es : List Event) (o : Numbered) (os : List Numbered) → own_events owner k es ≡ o ∷ os → (k ≤ o.number) × (o.number < k + length es)
own_within owner k [] o os is = absurd (cc)
own_within owner k (e ∷ es) o os is = told (e.owner == owner) is (own_within owner (k + 1) es o os)
  where
    told : (b : Bool) → cond b (record { number = k; event = e } ∷ own_events owner (k + 1) es) (own_events owner (k + 1) es) ≡ o ∷ os → (own_events owner (k + 1) es ≡ o ∷ os → (k + 1 ≤ o.number) × (o.number < k + 1 + length es)) → (k ≤ o.number) × (o.number < k + length (e ∷ es))
    told true here rest = let number : k ≡ o.number = ap first_number here in (omega (arith, number), omega (arith, number))
    told false here rest = let low = (rest here).0 in let high = (rest here).1 in (omega (arith, low), omega (arith, high))

-- the events that a step adds come behind those that were seen before it, and among those that are seen in the end
added_between : (fixed : Fixed) (owner : ℕ) (events : History) (n : ℕ) (s : SessionState) (line : ℕ) (asked : Line) (next : SessionState) (answer : Body) (e : Event) (es : List Event) → SessionStep fixed owner events s line asked next answer
    → own_events owner (s.seen + 1) (drop s.seen (take next.seen events)) ≡ numbered (n + 1) (e ∷ es) → (s.seen ≤ n) × (n ≤ next.seen)
added_between fixed owner events n s line asked next answer e es step own =
    let bounds = own_within owner (s.seen + 1) (drop s.seen (take next.seen events)) (record { number = n + 1; event = e }) (numbered (n + 1 + 1) es) own in
    let low = bounds.0 in
    let high = bounds.1 in
    let rises = step.rises in
    let size : length (take next.seen events) ≡ next.seen = length-take-le next.seen events step.within in
    let early : length (take s.seen (take next.seen events)) ≡ s.seen = length-take-le s.seen (take next.seen events) (omega (arith, rises, size)) in
    let parts : length (take s.seen (take next.seen events)) + length (drop s.seen (take next.seen events)) ≡ length (take next.seen events) =
    sym (length-append (take s.seen (take next.seen events)) (drop s.seen (take next.seen events))) ∙ ap length (take-append-drop s.seen (take next.seen events)) in
    (omega (arith, low), omega (arith, high, size, early, parts))

-- what a line that commits adds to the history, from its event n + 1 on, keeps it legal: one event, one for each key, the first of
-- them with a failed store call behind, or none
pub commit_line_legal : {fixed : Fixed} {owner : ℕ} (events : History) (n : ℕ) {lines : List (Option Line)} {answers : List Answer} {s : SessionState} {line : ℕ} {next : SessionState} {answer : Body} (new : List Event) → IsLegal fixed.start (take n events) → AllByRecursion FitsInLine lines
    → IsSessionRun fixed owner events at_first 1 lines answers s → SessionStep fixed owner events s line committing next answer → own_events owner (s.seen + 1) (drop s.seen (take next.seen events)) ≡ numbered (n + 1) new → IsLegal fixed.start (take n events ++ new)
commit_line_legal {fixed = fixed} events n [] legal fitting run step own = subst (IsLegal fixed.start) (sym (append-nil (take n events))) legal
commit_line_legal {fixed = fixed} {owner = owner} events n {s = s} {line = line} {next = next} {answer = answer} (e ∷ es) legal fitting run step own = by s.transaction refl step.row own
  where
    between : (s.seen ≤ n) × (n ≤ next.seen)
    between = added_between fixed owner events n s line committing next answer e es step own

    same : take n (take next.seen events) ≡ take n events
    same = take-take n next.seen events between.1

    by : (o : Option Transaction) → s.transaction ≡ o → {names : Names} {left : Option Transaction} {reply : Body} {added : List Numbered} → IsAnswered fixed owner (take next.seen events) s line (inside o commits) names left reply added → added ≡ numbered (n + 1) (e ∷ es)
        → IsLegal fixed.start (take n events ++ e ∷ es)
    by None is refused_line numbers_are = absurd (cc)
    by None is wanting numbers_are = absurd (cc)
    by (Some t) is wanting numbers_are = absurd (cc)
    by (Some t) is (done_line (commit_done row)) numbers_are =
        let legal_now : IsLegal fixed.start (take n (take next.seen events)) = subst (IsLegal fixed.start) (sym same) legal in
        let ready : IsReadied fixed.start (take n events) t = readied events n legal run between.0 t fitting is in
        let ready_now : IsReadied fixed.start (take n (take next.seen events)) t = subst (λ h. IsReadied fixed.start h t) (sym same) ready in
        subst (λ h. IsLegal fixed.start (h ++ e ∷ es)) same (row_legal fixed owner (take next.seen events) t n legal_now ready_now (e ∷ es) row numbers_are)

-- an act is a write, and its words fit
abbrev IsWriting : Act → Type 0
IsWriting (opens name leaves build) = ⊥
IsWriting (binds name view) = ⊥
IsWriting (reads view down) = ⊥
IsWriting (stages t view words) = IsStaged (Write view words)
IsWriting (writes view words) = IsStaged (Write view words)
IsWriting (begins mode) = ⊥
IsWriting (commits t) = ⊥
IsWriting aborts = ⊥
IsWriting (resizes array shape) = ⊥
IsWriting (resolves name view array) = ⊥

writing_act : (t : Option Transaction) (view : View) (words : List ℕ) → IsStaged (Write view words) → IsWriting (write_act t view words)
writing_act None view words staged = staged
writing_act (Some t) view words staged = staged

act_of-writing : (names : Names) (t : Option Transaction) (name : Text) (changes : List Change) (values : Values) → AreFitting values → IsAskedBy IsWriting (act_of names t (writing name changes values))
act_of-writing names t name changes values fitting =
    named_by IsWriting name (names name) _
    (λ v there. changes_by IsWriting (changed (Ok v) changes) (write_of t values)
    (λ w of_these. without_by IsWriting (view_fault w) _ (λ fits. values_by IsWriting (values (look_of w).dtype (shape_of w)) _
    (λ words given. without_by IsWriting (cell_fault w) (Ok (write_act t w words)) (λ found. writing_act t w words (staged_write w values words fitting given (whole_view w fits found)))))))

module _ (fixed : Fixed) (owner : ℕ) (now : History) (s : SessionState) (line n : ℕ) (legal : IsLegal fixed.start (take n now)) where
  write_row : {act : Act} {names : Names} {left : Option Transaction} {answer : Body} {own : List Numbered} (new : List Event) → IsRow fixed owner now s line act names left answer own → IsWriting act → own ≡ numbered (n + 1) new → IsLegal fixed.start (take n now ++ new)
  write_row new write_staged fits same = nothing_legal fixed.start (take n now) (n + 1) new same legal
  write_row new (write_done {view = view} {words = words} commit) fits same =
      row_legal fixed owner now (write_alone line view words) n legal (record { reads = record { seen = tt; within = tt }; staged = (fits, tt) }) new commit same
  write_row new (open_done opened built) fits same = absurd fits
  write_row new (open_refused opened refusal) fits same = absurd fits
  write_row new (open_unbuilt opened built) fits same = absurd fits
  write_row new (open_failed before opened failed) fits same = absurd fits
  write_row new (open_wanting opened) fits same = absurd fits
  write_row new view_done fits same = absurd fits
  write_row new (read_done read) fits same = absurd fits
  write_row new (read_shrunk shrunk) fits same = absurd fits
  write_row new (read_damaged damaged) fits same = absurd fits
  write_row new (read_failed before fetched) fits same = absurd fits
  write_row new begin_done fits same = absurd fits
  write_row new (commit_done commit) fits same = absurd fits
  write_row new abort_done fits same = absurd fits
  write_row new (resize_done m may undamaged) fits same = absurd fits
  write_row new (resize_many many) fits same = absurd fits
  write_row new (resize_split few split_is) fits same = absurd fits
  write_row new (resize_damaged may damaged) fits same = absurd fits
  write_row new (resize_failed m may on_mount) fits same = absurd fits
  write_row new (resolve_done m low high is_made) fits same = absurd fits
  write_row new (resolve_refused m low high refused) fits same = absurd fits

  write_answered : {asked : Asked} {names : Names} {left : Option Transaction} {answer : Body} {own : List Numbered} (new : List Event) → IsAnswered fixed owner now s line asked names left answer own → IsAskedBy IsWriting asked → own ≡ numbered (n + 1) new → IsLegal fixed.start (take n now ++ new)
  write_answered new refused_line fits same = nothing_legal fixed.start (take n now) (n + 1) new same legal
  write_answered new wanting fits same = nothing_legal fixed.start (take n now) (n + 1) new same legal
  write_answered new (done_line row) fits same = write_row new row fits same

-- so does what a write adds outside a transaction, of whatever session
pub write_line_legal : {fixed : Fixed} {owner : ℕ} (events : History) (n : ℕ) {s : SessionState} {line : ℕ} {name : Text} {changes : List Change} {values : Values} {next : SessionState} {answer : Body} (new : List Event) → IsLegal fixed.start (take n events) → AreFitting values
    → SessionStep fixed owner events s line (writing name changes values) next answer → own_events owner (s.seen + 1) (drop s.seen (take next.seen events)) ≡ numbered (n + 1) new → IsLegal fixed.start (take n events ++ new)
write_line_legal {fixed = fixed} events n [] legal fitting step own = subst (IsLegal fixed.start) (sym (append-nil (take n events))) legal
write_line_legal {fixed = fixed} {owner = owner} events n {s = s} {line = line} {name = name} {changes = changes} {values = values} {next = next} {answer = answer} (e ∷ es) legal fitting step own =
    let between = added_between fixed owner events n s line (writing name changes values) next answer e es step own in
    let same : take n (take next.seen events) ≡ take n events = take-take n next.seen events between.1 in
    subst (λ h. IsLegal fixed.start (h ++ e ∷ es)) same
    (write_answered fixed owner (take next.seen events) s line n (subst (IsLegal fixed.start) (sym same) legal) (e ∷ es) step.row (act_of-writing s.names s.transaction name changes values fitting) own)
