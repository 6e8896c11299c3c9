-- Leaves of a line can be opened one after another, up to the first that is refused.
use Rattle.std.proofs.Common.{◌≡◌, ◌≢◌, ℕ, ◌+◌, ◌<◌, ◌≤◌, ◌^◌, List, [], ◌∷◌, ◌++◌, length, take, Bool, true, false, cond, Option, Some, None, Result, Ok, Err, refl, sym, ap, subst, ◌∙◌, append_assoc, append-nil, length-append, arith}
use Rattle.std.specs.FinMap as finmap
use Rattle.std.specs.List.{AllByRecursion}
use Rattle.std.proofs.Math.Seq.{take-length, take-append_seam}
use Rattle.cells.specs.Dense.{DenseCells}
use Rattle.cells.specs.declared.dtype.Dtype.{Dtype}
use Rattle.chunk_forms.specs.Made.{form_made, zarr_made, n5_made, zarr3_made, with_chunks}
use Rattle.chunk_forms.specs.Wants.{mismatch_of}
use Rattle.chunk_forms.specs.declared.form.Form.{Form}
use Rattle.chunk_forms.specs.declared.form.Want.{Want}
use Rattle.chunk_forms.specs.declared.form.Want.TheVariants as want
use Rattle.stack_driver.specs.References.{Reference}
use Rattle.history.specs.declared.array.ArrayInfo.{ArrayInfo}
use Rattle.history.specs.declared.event.Event.{Event}
use Rattle.history.specs.History.{History}
use Rattle.history.specs.Alone.{AreAlone, IsLeafOn, IsLeafSound}
use Rattle.history.specs.Answers as body
use Rattle.history.specs.Answers.{Body, Text}
use Rattle.history.specs.Arrays.{Known, ref_of, form_of}
use Rattle.history.specs.Leaves.{Leaf, nothing, location_of_leaf, metadata_key_asked}
use Rattle.history.specs.Legal.{IsLegal, IsMount}
use Rattle.history.specs.Lines.{SpecLeaf, given, stored, member_of_node}
use Rattle.history.specs.OpenRows.{AreOpened, no_leaf, known_leaf, new_leaf, given_leaf, IsNew, made_here, IsRefusal, IsRefusedLeaf, next_array, new_ref, given_info}
use Rattle.history.specs.Outcomes.{Outcome, path_taken, bad_metadata, exists, mismatch, there, found, not_found, bad_want, made, IsOutcome, unless_differs, making_outcome, outcome_at, unless_taken, home_of, new_info}
use Rattle.history.specs.Own.{Numbered, numbered, opened_event}
use Rattle.history.specs.Places.{array_at, taken, location}
use Rattle.history.specs.SingleOpen.{outcome_alone}
use Rattle.history.specs.Steps.{is_memory}
use Rattle.history.proofs.AloneOpens.{never_bad}
use Rattle.history.proofs.Histories.{legal_more}
use Rattle.history.proofs.Known.{length-more}
use Rattle.history.proofs.Openings.{free_of_made, local_opening, opening_legal}

-- the outcome alone is one over a store that starts empty
is_outcome : (events : History) (leaf : Leaf) (outcome : Outcome) → outcome_alone events leaf ≡ outcome → IsOutcome finmap.empty events leaf outcome
is_outcome events leaf outcome is = record { stored = nothing; read = λ none. finmap.get-empty _ (metadata_key_asked leaf); same = sym is }

-- no metadata is found where the store starts empty
pub never_found : (events : History) (leaf : Leaf) (meta : Form) → outcome_alone events leaf ≢ found meta
never_found events leaf meta = by (taken events (location_of_leaf leaf)) (array_at events (location_of_leaf leaf))
  where
    making : (r : Result Form (List ℕ)) → making_outcome r ≢ found meta
    making (Ok other) = λ is. absurd (cc)
    making (Err member) = λ is. absurd (cc)

    there_or : (o : Option (List ℕ)) (k : Known) → unless_differs o (there k) ≢ found meta
    there_or None k = λ is. absurd (cc)
    there_or (Some member) k = λ is. absurd (cc)

    either : (b : Bool) (x y : Outcome) → x ≢ found meta → y ≢ found meta → cond b x y ≢ found meta
    either true x y p q = p
    either false x y p q = q

    by : (t : Option (List ℕ)) (o : Option Known) → unless_taken t (outcome_at leaf nothing o) ≢ found meta
    by (Some other) o = λ is. absurd (cc)
    by None None = either leaf.may_create (making_outcome (form_made leaf.want)) not_found (making (form_made leaf.want)) (λ is. absurd (cc))
    by None (Some k) = either leaf.may_open (unless_differs (mismatch_of leaf.want (form_of k.info.home) k.shape) (there k)) exists (there_or (mismatch_of leaf.want (form_of k.info.home) k.shape) k) (λ is. absurd (cc))

-- what is made is what is asked
pub made_is : (events : History) (leaf : Leaf) (meta : Form) → outcome_alone events leaf ≡ made meta → form_made leaf.want ≡ Ok meta
made_is events leaf meta = by (taken events (location_of_leaf leaf)) (array_at events (location_of_leaf leaf))
  where
    making : (r : Result Form (List ℕ)) → making_outcome r ≡ made meta → r ≡ Ok meta
    making (Ok other) is = let same : other ≡ meta = cc in ap Ok same
    making (Err member) is = absurd (cc)

    there_or : (o : Option (List ℕ)) (k : Known) → unless_differs o (there k) ≢ made meta
    there_or None k = λ is. absurd (cc)
    there_or (Some member) k = λ is. absurd (cc)

    at_none : (b : Bool) → cond b (making_outcome (form_made leaf.want)) not_found ≡ made meta → form_made leaf.want ≡ Ok meta
    at_none true is = making (form_made leaf.want) is
    at_none false is = absurd (cc)

    at_some : (b : Bool) (k : Known) → cond b (unless_differs (mismatch_of leaf.want (form_of k.info.home) k.shape) (there k)) exists ≢ made meta
    at_some true k = there_or (mismatch_of leaf.want (form_of k.info.home) k.shape) k
    at_some false k = λ is. absurd (cc)

    by : (t : Option (List ℕ)) (o : Option Known) → unless_taken t (outcome_at leaf nothing o) ≡ made meta → form_made leaf.want ≡ Ok meta
    by (Some other) o is = absurd (cc)
    by None None is = at_none leaf.may_create is
    by None (Some k) is = absurd (at_some leaf.may_open k is)

abbrev IsAt : Text → Text → Form → Type 0
IsAt mount path meta = location (home_of mount path meta) ≡ Some (mount ++ 47 ∷ path)

chunks_at : (mount path : Text) (make : List ℕ → Form) (r : Result (List ℕ) (List ℕ)) (meta : Form) → ((chunks : List ℕ) → IsAt mount path (make chunks)) → with_chunks make r ≡ Ok meta → IsAt mount path meta
chunks_at mount path make (Ok chunks) meta each is = let same : make chunks ≡ meta = cc in subst (IsAt mount path) same (each chunks)
chunks_at mount path make (Err member) meta each is = absurd (cc)

-- what is made lies at the leaf's place
made_at : (mount path : Text) (w : Want) (meta : Form) → form_made w ≡ Ok meta → IsAt mount path meta
made_at mount path (want.Zarr w) meta = by w.shape w.dtype
  where
    by : (s : Option (List ℕ)) (d : Option Dtype) → zarr_made w s d ≡ Ok meta → IsAt mount path meta
    by None d is = absurd (cc)
    by (Some shape) None is = absurd (cc)
    by (Some shape) (Some dtype) is = chunks_at mount path _ _ meta (λ chunks. refl) is
made_at mount path (want.N5 w) meta = by w.dimensions w.dtype
  where
    by : (s : Option (List ℕ)) (d : Option Dtype) → n5_made w s d ≡ Ok meta → IsAt mount path meta
    by None d is = absurd (cc)
    by (Some shape) None is = absurd (cc)
    by (Some shape) (Some dtype) is = chunks_at mount path _ _ meta (λ chunks. refl) is
made_at mount path (want.Zarr3 w) meta = by w.shape w.dtype
  where
    by : (s : Option (List ℕ)) (d : Option Dtype) → zarr3_made w s d ≡ Ok meta → IsAt mount path meta
    by None d is = absurd (cc)
    by (Some shape) None is = absurd (cc)
    by (Some shape) (Some dtype) is = chunks_at mount path _ _ meta (λ chunks. refl) is

-- a leaf is refused at the end of these events, whatever the line added
abbrev pub IsStopped : History → List SpecLeaf → Type 0
IsStopped events [] = Unit {0}
IsStopped events (given numbers ∷ rest) = ⊥
IsStopped events (stored node leaf ∷ rest) = (numbers : List ℕ) → (answer : Body) × IsRefusedLeaf finmap.empty events (length events) node leaf numbers answer × (is_memory answer ≡ false)

-- leaves behind some events: the events that they add, the arrays, and the leaves that are left from the first refused one on
pub record CanOpen (owner : ℕ) (past : History) (leaves : List SpecLeaf) : Type 0 where
  pub new : List Event
  pub refs : List Reference
  pub rest : List SpecLeaf
  pub opened : AreOpened finmap.empty owner (past ++ new) (length past) leaves refs (numbered (length past + 1) new) (length (past ++ new)) rest
  pub alone : AreAlone owner new
  pub legal : length (past ++ new) < 2 ^ 64 → IsLegal finmap.empty past → IsLegal finmap.empty (past ++ new)
  pub stops : IsStopped (past ++ new) rest
  pub few : length new ≤ length leaves

same_end : (past : History) → past ++ [] ≡ past
same_end past = append-nil past

nothing_opened : (owner : ℕ) (past : History) (leaves : List SpecLeaf) → IsStopped past leaves → CanOpen owner past leaves
nothing_opened owner past leaves stops = record {
  new = [];
  refs = [];
  rest = leaves;
  opened = subst (λ h. AreOpened finmap.empty owner h (length past) leaves [] [] (length h) leaves) (sym (same_end past)) no_leaf;
  alone = tt;
  legal = λ small legal. subst (IsLegal finmap.empty) (sym (same_end past)) legal;
  stops = subst (λ h. IsStopped h leaves) (sym (same_end past)) stops;
  few = omega arith;
}

stops_here : (events : History) (node : Text) (leaf : Leaf) (rest : List SpecLeaf) (outcome : Outcome) → outcome_alone events leaf ≡ outcome → ((numbers : List ℕ) → (answer : Body) × IsRefusal node leaf (length events) numbers outcome answer × (is_memory answer ≡ false)) → IsStopped events (stored node leaf ∷ rest)
stops_here events node leaf rest outcome is refusal numbers =
    let r = refusal numbers in
    (r.0, record { at = length events; not_older = omega arith; within = omega arith; outcome = outcome; comes = subst (λ h. IsOutcome finmap.empty h leaf outcome) (sym (take-length events)) (is_outcome events leaf outcome is); answered = r.1 }, r.2)

-- one event more in front of what the other leaves add
in_front : (past : History) (e : Event) (new : List Event) → (past ++ e ∷ []) ++ new ≡ past ++ e ∷ new
in_front past e new = append_assoc past (e ∷ []) new

past_is : (past : History) (es : List Event) → take (length past) (past ++ es) ≡ past
past_is past es = take-append_seam past es

new_opened : {owner : ℕ} {node : Text} {leaf : Leaf} {leaves rest : List SpecLeaf} {refs : List Reference} {own : List Numbered} {now : ℕ} (events past : History) (meta : Form) → take (length past) events ≡ past → length past ≤ length events → IsNew finmap.empty past leaf meta
    → AreOpened finmap.empty owner events (length past + 1) leaves refs own now rest
    → AreOpened finmap.empty owner events (length past) (stored node leaf ∷ leaves) (new_ref past (new_info (next_array past) leaf meta) ∷ refs) (record { number = length past + 1; event = opened_event owner (new_info (next_array past) leaf meta) } ∷ own) now rest
new_opened {owner} {node} {leaf} {leaves} {rest} {refs} {own} {now} events past meta is low new more =
    subst
    (λ h. AreOpened finmap.empty owner events (length past) (stored node leaf ∷ leaves) (new_ref h (new_info (next_array h) leaf meta) ∷ refs) (record { number = length past + 1; event = opened_event owner (new_info (next_array h) leaf meta) } ∷ own) now rest)
    is (new_leaf (length past) meta (omega arith) low (subst (λ h. IsNew finmap.empty h leaf meta) (sym is) new) more)

given_opened : {owner : ℕ} {numbers : DenseCells} {leaves rest : List SpecLeaf} {refs : List Reference} {own : List Numbered} {now : ℕ} (events past : History) → take (length past) events ≡ past → length past ≤ length events
    → AreOpened finmap.empty owner events (length past + 1) leaves refs own now rest
    → AreOpened finmap.empty owner events (length past) (given numbers ∷ leaves) (new_ref past (given_info (next_array past) numbers) ∷ refs) (record { number = length past + 1; event = opened_event owner (given_info (next_array past) numbers) } ∷ own) now rest
given_opened {owner} {numbers} {leaves} {rest} {refs} {own} {now} events past is low more =
    subst
    (λ h. AreOpened finmap.empty owner events (length past) (given numbers ∷ leaves) (new_ref h (given_info (next_array h) numbers) ∷ refs) (record { number = length past + 1; event = opened_event owner (given_info (next_array h) numbers) } ∷ own) now rest)
    is (given_leaf (length past) (omega arith) low more)

longer : (past : History) (es : List Event) → length past ≤ length (past ++ es)
longer past es = let size = length-append past es in omega arith

-- a new array, and the leaves behind it
one_more : (owner : ℕ) (past : History) (leaf : SpecLeaf) (leaves : List SpecLeaf) (info : ArrayInfo)
    → ((rest : List SpecLeaf) (refs : List Reference) (own : List Numbered) (now : ℕ) (events : History) → take (length past) events ≡ past → length past ≤ length events → AreOpened finmap.empty owner events (length past + 1) leaves refs own now rest
    → AreOpened finmap.empty owner events (length past) (leaf ∷ leaves) (new_ref past info ∷ refs) (record { number = length past + 1; event = opened_event owner info } ∷ own) now rest)
    → (length past + 1 < 2 ^ 64 → IsLegal finmap.empty past → IsLegal finmap.empty (past ++ opened_event owner info ∷ [])) → CanOpen owner (past ++ opened_event owner info ∷ []) leaves → CanOpen owner past (leaf ∷ leaves)
one_more owner past leaf leaves info opens keeps more =
    let e : Event = opened_event owner info in
    let all : History = (past ++ e ∷ []) ++ more.new in
    let parts : all ≡ past ++ e ∷ more.new = in_front past e more.new in
    let size : length (past ++ e ∷ []) ≡ length past + 1 = length-more past e in
    let from : AreOpened finmap.empty owner all (length past + 1) leaves more.refs (numbered (length past + 1 + 1) more.new) (length all) more.rest = subst (λ n. AreOpened finmap.empty owner all n leaves more.refs (numbered (n + 1) more.new) (length all) more.rest) size more.opened in
    let front : take (length past) all ≡ past = ap (take (length past)) parts ∙ past_is past (e ∷ more.new) in
    let low : length past ≤ length all = subst (λ h. length past ≤ length h) (sym parts) (longer past (e ∷ more.new)) in
    record {
      new = e ∷ more.new;
      refs = new_ref past info ∷ more.refs;
      rest = more.rest;
      opened = subst (λ h. AreOpened finmap.empty owner h (length past) (leaf ∷ leaves) (new_ref past info ∷ more.refs) (record { number = length past + 1; event = e } ∷ numbered (length past + 1 + 1) more.new) (length h) more.rest) parts (opens more.rest more.refs (numbered (length past + 1 + 1) more.new) (length all) all front low from);
      alone = ((refl, tt), more.alone);
      legal = λ small legal.
          let under : length all < 2 ^ 64 = subst (λ h. length h < 2 ^ 64) (sym parts) small in
          let first : length past + 1 ≤ length all = subst (λ n. n ≤ length all) size (longer (past ++ e ∷ []) more.new) in
          subst (IsLegal finmap.empty) parts (more.legal under (keeps (omega (arith, first, under)) legal));
      stops = subst (λ h. IsStopped h more.rest) parts more.stops;
      few = let few = more.few in omega (arith, few);
    }

-- a leaf that asks for a stored array, by what comes of it
module _ (owner : ℕ) (past : History) (node : Text) (leaf : Leaf) (leaves : List SpecLeaf) (placed : IsMount leaf.mount) (sound : IsLeafSound (stored node leaf)) (next : (h : History) → CanOpen owner h leaves) where
  can_stored : (o : Outcome) → outcome_alone past leaf ≡ o → CanOpen owner past (stored node leaf ∷ leaves)
  can_stored (path_taken other) is = nothing_opened owner past (stored node leaf ∷ leaves) (stops_here past node leaf leaves (path_taken other) is (λ numbers. (body.path_taken (length past) other numbers, refl, refl)))
  can_stored (bad_metadata bytes) is = absurd (never_bad past leaf bytes is)
  can_stored exists is = nothing_opened owner past (stored node leaf ∷ leaves) (stops_here past node leaf leaves exists is (λ numbers. (body.exists (length past) (location_of_leaf leaf) numbers, refl, refl)))
  can_stored (mismatch member) is = nothing_opened owner past (stored node leaf ∷ leaves) (stops_here past node leaf leaves (mismatch member) is (λ numbers. (body.mismatch (length past) member (location_of_leaf leaf) numbers, refl, refl)))
  can_stored not_found is = nothing_opened owner past (stored node leaf ∷ leaves) (stops_here past node leaf leaves not_found is (λ numbers. (body.not_found (length past) (location_of_leaf leaf) numbers, refl, refl)))
  can_stored (bad_want member) is = nothing_opened owner past (stored node leaf ∷ leaves) (stops_here past node leaf leaves (bad_want member) is (λ numbers. (body.bad_spec (member_of_node node member) (Some numbers), refl, refl)))
  can_stored (found meta) is = absurd (never_found past leaf meta is)
  can_stored (there k) is =
      let more = next past in
      let front : take (length past) (past ++ more.new) ≡ past = past_is past more.new in
      record {
        new = more.new;
        refs = ref_of k ∷ more.refs;
        rest = more.rest;
        opened = known_leaf (length past) k (omega arith) (longer past more.new) (subst (λ h. IsOutcome finmap.empty h leaf (there k)) (sym front) (is_outcome past leaf (there k) is)) more.opened;
        alone = more.alone;
        legal = more.legal;
        stops = more.stops;
        few = let few = more.few in omega (arith, few);
      }
  can_stored (made meta) is =
      let info : ArrayInfo = new_info (next_array past) leaf meta in
      let asked : form_made leaf.want ≡ Ok meta = made_is past leaf meta is in
      one_more owner past (stored node leaf) leaves info (λ rest refs own now events front low more. new_opened events past meta front low (made_here (is_outcome past leaf (made meta) is)) more)
      (λ small legal. opening_legal finmap.empty past owner leaf meta legal (free_of_made past leaf nothing meta is) placed (sound meta asked) (made_at leaf.mount leaf.path leaf.want meta asked)) (next (past ++ opened_event owner info ∷ []))

-- leaves on one mount, what is asked of each being sound
pub can_open : (mount : Text) (owner : ℕ) (leaves : List SpecLeaf) (past : History) → IsMount mount → AllByRecursion (IsLeafOn mount) leaves → AllByRecursion IsLeafSound leaves → CanOpen owner past leaves
can_open mount owner [] past placed on sound = nothing_opened owner past [] tt
can_open mount owner (given numbers ∷ leaves) past placed on sound =
    let info : ArrayInfo = given_info (next_array past) numbers in
    one_more owner past (given numbers) leaves info (λ rest refs own now events is low more. given_opened events past is low more)
    (λ small legal. legal_more finmap.empty past (opened_event owner info) legal (local_opening finmap.empty past info numbers legal small refl refl (record { valid = sound.0; shape = refl; dtype = refl; fill = refl })))
    (can_open mount owner leaves (past ++ opened_event owner info ∷ []) placed on.1 sound.1)
can_open mount owner (stored node leaf ∷ leaves) past placed on sound =
    can_stored owner past node leaf leaves (subst IsMount (sym on.0) placed) sound.0 (λ h. can_open mount owner leaves h placed on.1 sound.1) (outcome_alone past leaf) refl
