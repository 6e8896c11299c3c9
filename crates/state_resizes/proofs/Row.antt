-- What a resize answers is a row of a session's step.
use Rattle.std.proofs.Common.{◌≡◌, ℕ, ◌+◌, List, [], ◌∷◌, ◌++◌, length, take, Some, None, refl, sym, subst, ◌∙◌, append-nil}
use Rattle.std.specs.Prelude.{Result, Ok, Err}
use Rattle.std.proofs.Math.Seq.{take-append_seam}
use Rattle.stack_driver.specs.References.{Reference}
use Rattle.history.specs.declared.event.Event.{Event}
use Rattle.history.specs.Acts.{resizes}
use Rattle.history.specs.Answers as body
use Rattle.history.specs.Answers.{Body}
use Rattle.history.specs.Arrays.{known_after}
use Rattle.history.specs.Commit.{Fixed}
use Rattle.history.specs.History.{History}
use Rattle.history.specs.Own.{fault, numbered, resized_event}
use Rattle.history.specs.ReadRows.{IsOnMount}
use Rattle.history.specs.ResizeRows.{MayResize, HasNoDamagedPart}
use Rattle.history.specs.Sessions.{SessionState}
use Rattle.history.specs.Steps.{IsAnswered, done_line, wanting, resize_done, resize_many, resize_split, resize_damaged, resize_failed}
use Rattle.state_resizes.specs.declared.error.ResizeError.{ResizeError}
use Rattle.state_resizes.specs.declared.error.ResizeError.TheVariants as error
use Rattle.state_resizes.specs.Answers.{IsAnswer}

-- the answer of a resize, as a line has it
abbrev pub body_of : Result ℕ ResizeError → Body
body_of (Ok n) = body.resized n
body_of (Err (error.TooManyChunks at)) = body.too_many_chunks at
body_of (Err (error.NotAtomic keys)) = body.not_atomic keys
body_of (Err (error.Damaged key cause)) = body.damaged key cause
body_of (Err (error.StoreFailed event)) = body.store_failed event [] None
body_of (Err error.Memory) = body.memory

-- the events that a resize adds, each with its number, are those of a row over the events behind it
pub record HasRow (fixed : Fixed) (owner : ℕ) (events later : History) (s : SessionState) (line : ℕ) (array : Reference) (shape : List ℕ) (answer : Body) : Type 0 where
  pub own : List Event
  pub added : later ≡ events ++ own
  pub row : IsAnswered fixed owner later s line (Ok (resizes array shape)) s.names s.transaction answer (numbered (length events + 1) own)

-- the events before one more
front : (events : History) (e : Event) → take (length events) (events ++ e ∷ []) ≡ events
front events e = take-append_seam events (e ∷ [])

none_more : (events : History) → events ≡ events ++ []
none_more events = sym (append-nil events)

-- where the store told its contents at the start, a resize is a row
pub resize_row : (fixed : Fixed) (owner : ℕ) (events later : History) (s : SessionState) (line : ℕ) (array : Reference) (shape : List ℕ) (r : Result ℕ ResizeError) → IsAnswer fixed (Some fixed.start) events owner array.number shape r later
    → HasRow fixed owner events later s line array shape (body_of r)
resize_row fixed owner events later s line array shape (Ok n) is =
    let e = resized_event owner array.number shape in record {
      own = e ∷ [];
      added = is.added;
      row = subst (λ m. IsAnswered fixed owner later s line (Ok (resizes array shape)) s.names s.transaction (body.resized m) (numbered (length events + 1) (e ∷ []))) (sym is.number)
          (subst (λ h. IsAnswered fixed owner h s line (Ok (resizes array shape)) s.names s.transaction (body.resized (length events + 1)) (numbered (length events + 1) (e ∷ []))) (sym is.added)
          (done_line (resize_done (length events) (subst (λ h. MayResize fixed h array.number shape) (sym (front events e)) is.may) (subst (λ h. HasNoDamagedPart fixed h array.number shape) (sym (front events e)) (is.sound refl)))));
    }
resize_row fixed owner events later s line array shape (Err (error.TooManyChunks at)) is = record {
  own = [];
  added = is.same ∙ none_more events;
  row = subst (λ n. IsAnswered fixed owner later s line (Ok (resizes array shape)) s.names s.transaction (body.too_many_chunks n) []) (sym is.after)
      (subst (λ h. IsAnswered fixed owner h s line (Ok (resizes array shape)) s.names s.transaction (body.too_many_chunks (length events)) []) (sym is.same) (done_line (resize_many is.many)));
}
resize_row fixed owner events later s line array shape (Err (error.NotAtomic keys)) is = record {
  own = [];
  added = is.same ∙ none_more events;
  row = subst (λ h. IsAnswered fixed owner h s line (Ok (resizes array shape)) s.names s.transaction (body.not_atomic keys) []) (sym is.same) (done_line (resize_split is.few is.apart));
}
resize_row fixed owner events later s line array shape (Err (error.Damaged key cause)) is = record {
  own = [];
  added = is.same ∙ none_more events;
  row = subst (λ h. IsAnswered fixed owner h s line (Ok (resizes array shape)) s.names s.transaction (body.damaged key cause) []) (sym is.same) (done_line (resize_damaged is.may (is.damaged refl)));
}
resize_row fixed owner events later s line array shape (Err (error.StoreFailed event)) is =
    let e = fault owner is.mount in record {
      own = e ∷ [];
      added = is.added;
      row = subst (λ m. IsAnswered fixed owner later s line (Ok (resizes array shape)) s.names s.transaction (body.store_failed m [] None) (numbered (length events + 1) (e ∷ []))) (sym is.number)
          (subst (λ h. IsAnswered fixed owner h s line (Ok (resizes array shape)) s.names s.transaction (body.store_failed (length events + 1) [] None) (numbered (length events + 1) (e ∷ []))) (sym is.added)
          (done_line (resize_failed (length events) (subst (λ h. MayResize fixed h array.number shape) (sym (front events e)) is.may) (subst (λ h. IsOnMount is.mount (known_after h array.number)) (sym (front events e)) is.on_mount))));
    }
resize_row fixed owner events later s line array shape (Err error.Memory) is = record { own = []; added = is ∙ none_more events; row = wanting }
