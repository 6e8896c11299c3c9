-- What opening a leaf that the history doesn't have answers.
use Rattle.std.proofs.Common.{◌≡◌, ◌≢◌, ℕ, ◌+◌, List, [], ◌∷◌, ◌++◌, length, Option, Some, None, inl, inr, refl, sym, ap, subst, ◌∙◌}
use Rattle.std.specs.Prelude.{Result, Ok, Err, IfOk, OnOk, OnErr, count_by}
use Rattle.state_laws.specs.declared.Form.{Form}
use Rattle.state_laws.specs.Metadata.{shape_of}
use Rattle.kv_face.specs.Store.{Contents}
use Rattle.state_laws.specs.Homes.{info_at, reference_of}
use Rattle.state_laws.specs.Opening.{Tells}
use Rattle.state_laws.specs.declared.Decided.{Decided}
use Rattle.state_laws.specs.declared.OpeningRefusal.{OpeningRefusal}
use Rattle.state_laws.specs.declared.OpeningRefusal.TheVariants as refusal
use Rattle.state_laws.specs.History.{History}
use Rattle.state_laws.specs.Arrays.{Known}
use Rattle.state_laws.specs.Leaves.{Leaf, nothing, location_of_leaf, metadata_key_asked}
use Rattle.state_laws.specs.Legal.{is_opening}
use Rattle.state_laws.specs.Outcomes.{Outcome, exists, mismatch, there, found, made, unless_taken, outcome_at}
use Rattle.state_laws.specs.Own.{opened_event}
use Rattle.state_laws.specs.Places.{IsFree, taken, array_at}
use Rattle.state_laws.proofs.Laws.{none_is_none}
use Rattle.state_laws.specs.Seen.{StoreSeen}
use Rattle.state_laws.specs.Log.{Log}
use Rattle.state_laws.specs.Fetches.{HasFailed}
use Rattle.state_laws.specs.Openings.{IsOutcomeOf, IsNewOf, read_there, made_here, IsOpenedBy, IsOpening, IsStoreError, IsRefusalOf, IsTakenBy, AnswersKnown}
use Rattle.state_laws.specs.declared.opening.Opened.{Opened}
use Rattle.state_laws.specs.declared.opening.OpenError.{OpenError}
use Rattle.state_laws.specs.declared.opening.OpenError.TheVariants as error

-- what is told of a new array
abbrev pub IsToldOf : History → Leaf → Form → Opened → Type 0
IsToldOf events leaf meta o = (o.array ≡ reference_of (info_at (count_by is_opening events) leaf.mount leaf.path meta) (shape_of meta)) × (o.event ≡ Some (length events + 1))

new_answer : (told : Option Contents) (events later : History) (owner : ℕ) (leaf : Leaf) (meta : Form) (o : Opened) → IsNewOf told events leaf meta → IsToldOf events leaf meta o
    → later ≡ events ++ opened_event owner (info_at (count_by is_opening events) leaf.mount leaf.path meta) ∷ [] → IsOpening told events owner leaf (Ok o) later
new_answer told events later owner leaf meta o new is grown =
    subst (IsOpenedBy told events later owner leaf o) (sym is.1) (record { meta = meta; new = new; array = is.0; added = grown; number = refl })

pub found_answer : (told : Option Contents) (events later : History) (owner : ℕ) (leaf : Leaf) (meta : Form) (r : Result Opened OpenError) → IsOutcomeOf told events leaf (found meta) → IfOk r (IsToldOf events leaf meta)
    → OnOk r (later ≡ events ++ opened_event owner (info_at (count_by is_opening events) leaf.mount leaf.path meta) ∷ []) → OnErr r ((r ≡ Err error.Memory) × (later ≡ events)) → IsOpening told events owner leaf r later
found_answer told events later owner leaf meta (Ok o) outcome is grown failed = new_answer told events later owner leaf meta o (read_there outcome) is grown
found_answer told events later owner leaf meta (Err error.Memory) outcome is grown failed = failed.1
found_answer told events later owner leaf meta (Err (error.StoreFailed event)) outcome is grown failed = let no = failed.0 in absurd (cc)
found_answer told events later owner leaf meta (Err (error.PathTaken path at)) outcome is grown failed = let no = failed.0 in absurd (cc)
found_answer told events later owner leaf meta (Err (error.BadMeta key cause)) outcome is grown failed = let no = failed.0 in absurd (cc)
found_answer told events later owner leaf meta (Err (error.Exists at)) outcome is grown failed = let no = failed.0 in absurd (cc)
found_answer told events later owner leaf meta (Err (error.Mismatch member at)) outcome is grown failed = let no = failed.0 in absurd (cc)
found_answer told events later owner leaf meta (Err (error.NotFound at)) outcome is grown failed = let no = failed.0 in absurd (cc)
found_answer told events later owner leaf meta (Err (error.BadWant member)) outcome is grown failed = let no = failed.0 in absurd (cc)

pub made_answer : (told : Option Contents) (store next : StoreSeen) (log later : Log) (owner : ℕ) (leaf : Leaf) (meta : Form) (r : Result Opened OpenError) → IsFree log.events (location_of_leaf leaf) → IsOutcomeOf told log.events leaf (made meta)
    → IfOk r (IsToldOf log.events leaf meta) → OnOk r (later.events ≡ log.events ++ opened_event owner (info_at (count_by is_opening log.events) leaf.mount leaf.path meta) ∷ [])
    → ((event : ℕ) → r ≡ Err (error.StoreFailed event) → HasFailed owner leaf.mount store next log later event) → (r ≡ Err error.Memory → later ≡ log) → OnErr r (IsStoreError r) → IsOpening told log.events owner leaf r later.events
made_answer told store next log later owner leaf meta (Ok o) free outcome is grown failed memory errors = new_answer told log.events later.events owner leaf meta o (made_here outcome) is grown
made_answer told store next log later owner leaf meta (Err (error.StoreFailed event)) free outcome is grown failed memory errors =
    let has = failed event refl in record { free = free; added = ap (λ (l : Log). l.events) has.added; number = has.number }
made_answer told store next log later owner leaf meta (Err error.Memory) free outcome is grown failed memory errors = ap (λ (l : Log). l.events) (memory refl)
made_answer told store next log later owner leaf meta (Err (error.PathTaken path at)) free outcome is grown failed memory errors = absurd errors
made_answer told store next log later owner leaf meta (Err (error.BadMeta key cause)) free outcome is grown failed memory errors = absurd errors
made_answer told store next log later owner leaf meta (Err (error.Exists at)) free outcome is grown failed memory errors = absurd errors
made_answer told store next log later owner leaf meta (Err (error.Mismatch member at)) free outcome is grown failed memory errors = absurd errors
made_answer told store next log later owner leaf meta (Err (error.NotFound at)) free outcome is grown failed memory errors = absurd errors
made_answer told store next log later owner leaf meta (Err (error.BadWant member)) free outcome is grown failed memory errors = absurd errors

-- a refusal is answered as it is told
module _ (told : Option Contents) (events : History) (owner : ℕ) (leaf : Leaf) where
  abbrev pub Told : Option (List ℕ) → Result Decided OpeningRefusal → Type 0
  Told bytes r = (outcome : Outcome) × IsOutcomeOf told events leaf outcome × Tells leaf.want bytes r outcome

  answer_by : (e answer : OpenError) → answer ≡ e → IsOpening told events owner leaf (Err e) events → IsOpening told events owner leaf (Err answer) events
  answer_by e answer same is = subst (λ e. IsOpening told events owner leaf (Err e) events) (sym same) is

  refused_so : (bytes : Option (List ℕ)) (key : List ℕ) (r : OpeningRefusal) (answer : OpenError) → key ≡ metadata_key_asked leaf → Told bytes (Err r) → IsRefusalOf key (length events) r answer → IsOpening told events owner leaf (Err answer) events
  refused_so bytes key (refusal.BadMeta cause) answer at is (inl same) =
      answer_by (error.BadMeta key cause) answer same (is.2.0, is.2.2, record { outcome = subst (IsOutcomeOf told events leaf) is.2.3 is.1; named = at; same = refl })
  refused_so bytes key (refusal.BadMeta cause) answer at is (inr same) = answer_by error.Memory answer same refl
  refused_so bytes key refusal.Exists answer at is same = answer_by (error.Exists (length events)) answer same (record { outcome = subst (IsOutcomeOf told events leaf) is.2 is.1; at = refl; same = refl })
  refused_so bytes key (refusal.Mismatch member) answer at is same =
      answer_by (error.Mismatch member (length events)) answer same (record { outcome = subst (IsOutcomeOf told events leaf) is.2 is.1; at = refl; same = refl })
  refused_so bytes key refusal.NotFound answer at is same = answer_by (error.NotFound (length events)) answer same (record { outcome = subst (IsOutcomeOf told events leaf) is.2 is.1; at = refl; same = refl })
  refused_so bytes key (refusal.BadWant member) answer at is same = answer_by (error.BadWant member) answer same (record { outcome = subst (IsOutcomeOf told events leaf) is.2 is.1; at = refl; same = refl })
  refused_so bytes key refusal.Memory answer at is same = answer_by error.Memory answer same refl

  -- want of memory has no outcome
  pub refused_answer : (bytes : Option (List ℕ)) (key : List ℕ) (r : OpeningRefusal) (answer : OpenError) → key ≡ metadata_key_asked leaf → (r ≢ refusal.Memory → Told bytes (Err r)) → IsRefusalOf key (length events) r answer
      → IsOpening told events owner leaf (Err answer) events
  refused_answer bytes key (refusal.BadMeta cause) answer at is same = refused_so bytes key (refusal.BadMeta cause) answer at (is (λ e. cc)) same
  refused_answer bytes key refusal.Exists answer at is same = refused_so bytes key refusal.Exists answer at (is (λ e. cc)) same
  refused_answer bytes key (refusal.Mismatch member) answer at is same = refused_so bytes key (refusal.Mismatch member) answer at (is (λ e. cc)) same
  refused_answer bytes key refusal.NotFound answer at is same = refused_so bytes key refusal.NotFound answer at (is (λ e. cc)) same
  refused_answer bytes key (refusal.BadWant member) answer at is same = refused_so bytes key (refusal.BadWant member) answer at (is (λ e. cc)) same
  refused_answer bytes key refusal.Memory answer at is same = answer_by error.Memory answer same refl

pub err_inj : {T E : Type 0} (r : Result T E) (x y : E) → r ≡ Err x → r ≡ Err y → x ≡ y
err_inj r x y is too = let same : Err x ≡ Err y = sym is ∙ too in cc

-- an array that clashes with the leaf
pub taken_answer : (events : History) (leaf : Leaf) (other : List ℕ) (n : ℕ) → taken events (location_of_leaf leaf) ≡ Some other → n ≡ length events → IsTakenBy events events leaf other n
taken_answer events leaf other n is at = record {
  outcome = λ stored. ap (λ o. unless_taken o (outcome_at leaf stored (array_at events (location_of_leaf leaf)))) is;
  at = at;
  same = refl;
}

-- an array of the history at the leaf's place
module _ (told : Option Contents) (events : History) (owner : ℕ) (leaf : Leaf) (k : Known) (at : array_at events (location_of_leaf leaf) ≡ Some k) (clear : taken events (location_of_leaf leaf) ≡ None) where
  outcome_known : (outcome : Outcome) → outcome_at leaf nothing (Some k) ≡ outcome → IsOutcomeOf told events leaf outcome
  outcome_known outcome is = record {
    stored = nothing;
    read = λ start is_told empty. absurd (none_is_none k (sym empty ∙ at));
    same = sym is ∙ sym (ap (λ o. unless_taken o (outcome_at leaf nothing (array_at events (location_of_leaf leaf)))) clear ∙ ap (outcome_at leaf nothing) at);
  }

  pub known_answer : (r : Result Opened OpenError) → AnswersKnown k (length events) r (outcome_at leaf nothing (Some k)) → IsOpening told events owner leaf r events
  known_answer (Ok o) is = subst (IsOpenedBy told events events owner leaf o) (sym is.2) (record { array = k; outcome = outcome_known (there k) is.0; named = is.1; same = refl })
  known_answer (Err (error.Exists n)) is = record { outcome = outcome_known exists is.0; at = is.1; same = refl }
  known_answer (Err (error.Mismatch member n)) is = record { outcome = outcome_known (mismatch member.now) is.0; at = is.1; same = refl }
  known_answer (Err error.Memory) is = refl
  known_answer (Err (error.PathTaken path n)) is = absurd is
  known_answer (Err (error.StoreFailed event)) is = absurd is
  known_answer (Err (error.BadMeta key cause)) is = absurd is
  known_answer (Err (error.NotFound n)) is = absurd is
  known_answer (Err (error.BadWant member)) is = absurd is

-- such an array calls no store
pub never_failed : (k : Known) (n : ℕ) (r : Result Opened OpenError) (event : ℕ) (outcome : Outcome) → AnswersKnown k n r outcome → r ≡ Err (error.StoreFailed event) → ⊥
never_failed k n r event outcome is same = subst (λ r. AnswersKnown k n r outcome) same is
