-- Bytes that are data, and bytes that are none.
use Rattle.std.proofs.Common.{◌≡◌, ℕ, List, true, false, Some, None, Result, Ok, Err, cond, refl}
use Rattle.std.specs.Prelude.{IfOk}
use Rattle.std.specs.Str.{is_utf8, IsUtf8}
use Rattle.std.proofs.lemmas.Str.{IsUtf8-from_is_utf8, is_utf8-from_IsUtf8}
use Rattle.serde_json.specs.Data.{Data}
use Rattle.serde_json.specs.Read.{read}
use Rattle.json_forms.specs.Bytes.{data_of}

pub data_of-none : (bytes : List ℕ) → (IsUtf8 bytes → read bytes ≡ None) → data_of bytes ≡ None
unfolding data_of
data_of-none bytes none = elim (is_utf8 bytes) as (λ b. is_utf8 bytes ≡ b → cond b (read bytes) None ≡ None) [ true ↦ λ e. none (IsUtf8-from_is_utf8 bytes e) | false ↦ λ e. refl ] refl

pub data_of-utf8 : (bytes : List ℕ) (d : Data) → IsUtf8 bytes → read bytes ≡ Some d → data_of bytes ≡ Some d
unfolding data_of
data_of-utf8 bytes d text reads = rw (is_utf8-from_IsUtf8 bytes text) reads

pub data_of-written : {X E : Type 0} (r : Result X E) (f : X → List ℕ) (d : Data) (P : Type 0) → IfOk r (λ x. IsUtf8 (f x)) → IfOk r (λ x. P → read (f x) ≡ Some d) → IfOk r (λ x. P → data_of (f x) ≡ Some d)
data_of-written (Ok x) f d P text reads = λ p. data_of-utf8 (f x) d text (reads p)
data_of-written (Err e) f d P text reads = tt
