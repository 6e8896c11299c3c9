-- What becomes of a text by the status.
use Rattle.std.proofs.Common.{◌≡◌, ◌≢◌, ℕ, List, [], ◌∷◌, ◌++◌, true, false, inl, inr, refl, sym, ◌∙◌, append-nil}
use Rattle.script_runner.specs.Promises.{HasAnswers, IsPut}
use Rattle.script_streams.specs.Putting.{Takes, IsGoing, IsBroken, IsStopped}

not_answers : (status n : ℕ) → status ≡ n → 0 ≢ n → 1 ≢ n → HasAnswers status → ⊥
not_answers status n is zero one (inl none) = zero (sym none ∙ is)
not_answers status n is zero one (inr some) = one (sym some ∙ is)

-- nothing was given
pub stopped_none : {X : Type 0} (takes : Takes X) (from : X) (text : List ℕ) → IsStopped takes from text from
stopped_none takes from text = (text, record { pieces = []; taken = refl; parts = refl })

pub put_stopped : {X : Type 0} (takes : Takes X) (from : X) (text : List ℕ) (to : X) → IsStopped takes from text to → IsPut takes from text 5 to
put_stopped takes from text to stopped = record {
  whole = λ has. absurd (not_answers 5 5 refl (λ e. let no_such : ⊥ = cc in no_such) (λ e. let no_such : ⊥ = cc in no_such) has);
  refused = λ e. absurd (let no_such : ⊥ = cc in no_such);
  stopped = λ e. stopped;
}

pub put_refused : {X : Type 0} (takes : Takes X) (from : X) (text : List ℕ) (to : X) → IsBroken takes from text to → IsPut takes from text 4 to
put_refused takes from text to broken = record {
  whole = λ has. absurd (not_answers 4 4 refl (λ e. let no_such : ⊥ = cc in no_such) (λ e. let no_such : ⊥ = cc in no_such) has);
  refused = λ e. broken;
  stopped = λ e. absurd (let no_such : ⊥ = cc in no_such);
}

pub put_whole : {X : Type 0} (takes : Takes X) (from : X) (text : List ℕ) (status : ℕ) (to : X) → status ≢ 4 → IsGoing takes from text [] to → IsPut takes from text status to
put_whole takes from text status to other going = record { whole = λ has. going; refused = λ e. absurd (other e); stopped = λ e. ([], going) }

-- a text that was given as one piece
pub one_taken : {X : Type 0} (takes : Takes X) (from : X) (text line : List ℕ) (to : X) → line ≡ text → takes from line true to → IsGoing takes from text [] to
one_taken takes from text line to is taken = record { pieces = line ∷ []; taken = (to, taken, refl); parts = append-nil (line ++ []) ∙ append-nil line ∙ is }

pub one_refused : {X : Type 0} (takes : Takes X) (from : X) (text line : List ℕ) (to : X) → line ≡ text → takes from line false to → IsBroken takes from text to
one_refused takes from text line to is refused = record { pieces = []; before = from; taken = refl; piece = line; refused = refused; rest = []; parts = append-nil line ∙ is }
