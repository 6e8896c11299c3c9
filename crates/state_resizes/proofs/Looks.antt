-- What a look told of a chunk that a new shape cuts in part, and what is left of it.
use Rattle.std.proofs.Common.{◌≡◌, ◌≢◌, ℕ, List, [], Option, Some, None, false, refl, sym, ap, subst, ◌∙◌}
use Rattle.std.specs.Prelude.{Result, Ok, Err, IfErr, OnOk}
use Rattle.cells.specs.Dense.{DenseCells}
use Rattle.cells.specs.Elements.{word_at}
use Rattle.cells.specs.Numbers.{IsWord}
use Rattle.cells.specs.Places.{IsInside}
use Rattle.chunk_cache.specs.Snapshot.{SnapshotCells}
use Rattle.chunk_forms.specs.declared.form.Damage.{Damage}
use Rattle.chunk_forms.specs.declared.form.Form.{Form}
use Rattle.chunk_forms.specs.declared.form.FormError.{FormError}
use Rattle.chunk_forms.specs.declared.form.FormError.TheVariants as forms
use Rattle.chunk_forms.specs.Metadata.{is_local, chunk_shape_of, dtype_of, fill_of}
use Rattle.chunk_forms.specs.Words.{stored_fault, stored_word}
use Rattle.chunk_plans.specs.Left.{IsLeft}
use Rattle.chunk_plans.specs.Fetches.{IsAnswered}
use Rattle.chunk_plans.specs.Log.{Log}
use Rattle.chunk_plans.specs.Seen.{StoreSeen}
use Rattle.chunk_plans.specs.Writes.{IsSameButCache}
use Rattle.chunk_plans.specs.declared.NewShape.{NewShape}
use Rattle.chunk_plans.specs.declared.FetchError.{FetchError}
use Rattle.chunk_plans.specs.declared.FetchError.TheVariants as fetch
use Rattle.chunk_plans.specs.declared.Bounds.{Bounds}
use Rattle.chunk_plans.specs.declared.Look.{Look}
use Rattle.chunk_plans.specs.declared.Look.TheVariants as look
use Rattle.state_resizes.specs.Cuts.{IsCutLook, IsLeftBy, MayCut}
use Rattle.state_resizes.specs.Refusals.{IsDamagedBy, IsUnfilled, IsUnlaid}
use Rattle.state_resizes.proofs.Reading.{may_cut, read_dtype, read_shape, left_read, look_stored, look_fill, decoded, left_absent, damaged_look}

pub look_as : (store : StoreSeen) (log : Log) (new : NewShape) (index key : List ℕ) (l m : Look) → l ≡ m → IsCutLook store log new index key l → IsCutLook store log new index key m
look_as store log new index key l m same = subst (IsCutLook store log new index key) same

pub may_of : (store : StoreSeen) (log : Log) (new : NewShape) (index key : List ℕ) (l : Look) → IsCutLook store log new index key l → MayCut new.form index
may_of store log new index key l h = may_cut new index h.agrees h.begun h.cut

-- a chunk that was kept
module _ (store : StoreSeen) (log : Log) (new : NewShape) (index key : List ℕ) (snapshot : SnapshotCells) (bounds : Bounds) (h : IsCutLook store log new index key (look.Kept snapshot bounds)) where
  pub kept_dtype : snapshot.cells.dtype ≡ dtype_of new.form
  kept_dtype = read_dtype new index h.agrees h.begun h.cut snapshot h.looked.0

  pub kept_shape : snapshot.cells.shape ≡ chunk_shape_of new.form
  kept_shape = read_shape new index h.agrees h.begun h.cut snapshot h.looked.0

  pub kept_left : (bytes : Option (List ℕ)) → IsLeft new.form index [] (Some snapshot.cells) bytes → IsLeftBy store log new.array new.shape index bytes
  kept_left bytes left = left_read new index h.agrees h.begun h.cut snapshot bytes h.reached h.looked.0 left

-- stored bytes
module _ (store : StoreSeen) (log : Log) (new : NewShape) (index key : List ℕ) (generation : ℕ) (form : Form) (bytes : Option (List ℕ)) (bounds : Bounds) (h : IsCutLook store log new index key (look.Bytes generation form bytes bounds)) where
  pub bytes_stored : is_local form ≡ false
  bytes_stored = look_stored new index h.agrees h.begun h.cut generation form bytes h.looked.0

  pub bytes_fill : IsWord (dtype_of form) (fill_of form)
  bytes_fill = look_fill new index h.agrees h.begun h.cut generation form bytes h.looked.0

  -- none
  pub absent_left : bytes ≡ None → IsLeftBy store log new.array new.shape index None
  absent_left none =
      left_absent new index h.agrees h.begun h.cut generation form h.reached
      (look_as store log new index key (look.Bytes generation form bytes bounds) (look.Bytes generation form None bounds) (ap (λ o. look.Bytes generation form o bounds) none) h).looked.0

  -- no chunk
  pub bytes_damaged : (name : List ℕ) (cause : Damage) → name ≡ key → stored_fault form bytes ≡ Some cause → IsDamagedBy store log new.array new.shape name cause
  bytes_damaged name cause is fault =
      subst (λ n. IsDamagedBy store log new.array new.shape n cause) (sym (is ∙ h.named h.begun.array h.begun.known))
      (damaged_look new index h.agrees h.begun h.cut generation form bytes cause h.begun.array h.reached h.looked.0 h.begun.known fault)

  -- or these cells
  module _ (cells : DenseCells) (dtype : cells.dtype ≡ dtype_of form) (shape : cells.shape ≡ chunk_shape_of form) (words : (at : List ℕ) → IsInside (chunk_shape_of form) at → stored_word form (fill_of form) bytes at ≡ Some (word_at cells at)) where
    answered : IsAnswered store log (record { array = new.array; index = index }) (record { generation = generation; cells = cells })
    answered = decoded new index h.agrees h.begun h.cut generation form bytes cells h.looked.0 dtype shape words

    pub bytes_dtype : cells.dtype ≡ dtype_of new.form
    bytes_dtype = read_dtype new index h.agrees h.begun h.cut (record { generation = generation; cells = cells }) answered

    pub bytes_shape : cells.shape ≡ chunk_shape_of new.form
    bytes_shape = read_shape new index h.agrees h.begun h.cut (record { generation = generation; cells = cells }) answered

    pub bytes_left : (left : Option (List ℕ)) → IsLeft new.form index [] (Some cells) left → IsLeftBy store log new.array new.shape index left
    bytes_left left is = left_read new index h.agrees h.begun h.cut (record { generation = generation; cells = cells }) left h.reached answered is

-- where memory was wanting, nothing is to be told
memory_unlaid : (store : StoreSeen) (log : Log) (new : NewShape) (e : FetchError) → e ≡ fetch.Memory → IsUnlaid store log new e
memory_unlaid store log new e is = subst (IsUnlaid store log new) (sym is) tt

pub memory_only : {A : Type 0} (P : StoreSeen → Log → Type 0) (new : NewShape) (r : Result A FetchError) → IfErr r (λ e. e ≡ fetch.Memory) → IfErr r (λ e. (store : StoreSeen) (log : Log) → P store log → IsUnlaid store log new e)
memory_only P new (Ok x) is = tt
memory_only P new (Err e) is = λ store log h. memory_unlaid store log new e is

pub memory_alone : {A : Type 0} (P : StoreSeen → Log → ℕ → Bounds → Type 0) (new : NewShape) (r : Result A FetchError) → IfErr r (λ e. e ≡ fetch.Memory)
    → IfErr r (λ e. (store : StoreSeen) (log : Log) (generation : ℕ) (bounds : Bounds) → P store log generation bounds → IsUnlaid store log new e)
memory_alone P new (Ok x) is = tt
memory_alone P new (Err e) is = λ store log generation bounds h. memory_unlaid store log new e is

pub err_weaker : {A E : Type 0} {P Q : E → Type 0} (r : Result A E) → ((e : E) → P e → Q e) → IfErr r P → IfErr r Q
err_weaker (Ok x) gives is = tt
err_weaker (Err e) gives is = gives e is

pub same_ok : {A E : Type 0} {P : Type 0} (r : Result A E) → P → OnOk r P
same_ok (Ok x) is = is
same_ok (Err e) is = tt

-- what wasn't laid isn't filled in
pub unfilled_by : (owner : ℕ) (new : NewShape) (store next : StoreSeen) (log later : Log) (e : FetchError) → IsSameButCache log later → IsUnlaid store log new e → IsUnfilled owner new store next log later e
unfilled_by owner new store next log later (fetch.StoreFailed event) same is = absurd is
unfilled_by owner new store next log later (fetch.Damaged key cause) same is = (same, is)
unfilled_by owner new store next log later fetch.Memory same is = same

-- bytes that couldn't be decoded
pub unlaid_by : (store : StoreSeen) (log : Log) (new : NewShape) (key : List ℕ) (e : FormError) (r : FetchError) → ((cause : Damage) → e ≡ forms.Damaged cause → r ≡ fetch.Damaged key cause)
    → (e ≡ forms.Memory → r ≡ fetch.Memory) → ((cause : Damage) → e ≡ forms.Damaged cause → IsDamagedBy store log new.array new.shape key cause) → IsUnlaid store log new r
unlaid_by store log new key (forms.Damaged cause) r damaged memory is = subst (IsUnlaid store log new) (sym (damaged cause refl)) (is cause refl)
unlaid_by store log new key forms.Memory r damaged memory is = subst (IsUnlaid store log new) (sym (memory refl)) tt

abbrev cause_of : FormError → Damage → Damage
cause_of (forms.Damaged cause) other = cause
cause_of forms.Memory other = other

not_memory : (e : FormError) (cause : Damage) → e ≡ forms.Damaged cause → e ≢ forms.Memory
not_memory (forms.Damaged was) cause is = λ no. absurd (cc)
not_memory forms.Memory cause is = λ _. absurd (cc)

-- the one cause that the bytes have
pub damaged_cause : (e : FormError) (fault : Option Damage) (cause : Damage) → e ≡ forms.Damaged cause → (e ≢ forms.Memory → (c : Damage) × (e ≡ forms.Damaged c) × (fault ≡ Some c)) → fault ≡ Some cause
damaged_cause e fault cause is causes =
    let found = causes (not_memory e cause is) in
    found.2 ∙ ap Some (sym (ap (λ x. cause_of x found.0) found.1) ∙ ap (λ x. cause_of x found.0) is)

-- an answer has one error
pub err_same : {A : Type 0} (r : Result A FetchError) (d e : FetchError) → r ≡ Err d → r ≡ Err e → d ≡ e
err_same r d e one other = let both = sym one ∙ other in cc
