-- What is said of the metadata of a Spec is UTF-8, where its texts are.
use Rattle.std.proofs.Common.{◌≡◌, ℕ, Bool, true, false, cond, codes, List, Option, Some, None, is_some, Result, Ok, Err, IsUtf8, refl, subst}
use Rattle.json.proofs.Printed.Utf8.{IsUtf8-are_ascii, are_ascii}
use Rattle.serde_json.specs.Data.{Data}
use Rattle.serde_json.specs.Find.{as_object}
use Rattle.json_forms.specs.Members.{least_unknown}
use Rattle.cells.specs.declared.dtype.Dtype.{Dtype}
use Rattle.history.specs.declared.Want.{Want}
use Rattle.meta_forms.specs.Faults.{named, ◌>>=◌}
use Rattle.meta_forms.specs.Judged.{is_there}
use Rattle.meta_forms.specs.declared.error.Fault.{Fault}
use Rattle.meta_forms.specs.declared.error.Fault.TheVariants as fault
use Rattle.meta_forms.specs.declared.error.MetaError.{MetaError}
use Rattle.meta_forms.specs.declared.error.MetaError.TheVariants as meta
use Rattle.want_forms.specs.Asking.{comes_before, none_before, none_left, asked, in_turn}
use Rattle.want_forms.specs.N5.{n5_members, dimensions_asked, n5_object, n5_want}
use Rattle.want_forms.specs.N5.{members_asked as n5_inner}
use Rattle.want_forms.specs.Zarr.{zarr_members, zarr_object, zarr_want}
use Rattle.want_forms.specs.Zarr.{rest_asked as zarr_rest, shape_asked as zarr_shape, members_asked as zarr_inner}
use Rattle.want_forms.specs.Zarr3.{zarr3_members, zarr3_object, zarr3_want}
use Rattle.want_forms.specs.Zarr3.{rest_asked as zarr3_rest, shape_asked as zarr3_shape, members_asked as zarr3_inner}
use Rattle.want_forms.specs.Wants.{in_form, want_of}
use Rattle.want_forms.specs.declared.format.Format.{Format}
use Rattle.want_forms.specs.declared.format.Format.TheVariants as format
use Rattle.output_laws.specs.Held.{IsHeld}
use Rattle.output_laws.proofs.HeldData.{May, unknown_held}

abbrev pub IsTextMeta : MetaError → Type 0
IsTextMeta meta.NotJson = Unit {0}
IsTextMeta (meta.BadMember name) = IsUtf8 name
IsTextMeta (meta.Unsupported name) = IsUtf8 name
IsTextMeta meta.Memory = Unit {0}

-- a fault is that of a member whose name is UTF-8
pub record Tells {A : Type 0} (r : Result A MetaError) : Type 0 where
  pub fault : (e : MetaError) → r ≡ Err e → IsTextMeta e

right : {A : Type 0} (a : A) → Tells (Ok a)
right a = record { fault = λ x e. absurd (let no_such : ⊥ = cc in no_such) }

wrong : {A : Type 0} (x : MetaError) → IsTextMeta x → Tells {A = A} (Err x)
wrong x is = record { fault = λ y e. let same : x ≡ y = cc in subst IsTextMeta same is }

after : {A B : Type 0} (r : Result A MetaError) (f : A → Result B MetaError) → Tells r → ((a : A) → Tells (f a)) → Tells (r >>= f)
after (Ok a) f is each = each a
after (Err e) f is each = wrong e (is.fault e refl)

closed : (s : List ℕ) → are_ascii s ≡ true → IsUtf8 s
closed s is = IsUtf8-are_ascii s is

named_tells : {A : Type 0} (name : List ℕ) (r : Result A Fault) → IsUtf8 name → Tells (named name r)
named_tells name (Ok a) text = right a
named_tells name (Err fault.Bad) text = wrong (meta.BadMember name) text
named_tells name (Err fault.Unsupported) text = wrong (meta.Unsupported name) text

before_tells : (unknown : Option (List ℕ)) (name : List ℕ) → May IsUtf8 unknown → Tells (none_before unknown name)
unfolding none_before
before_tells None name may = right tt
before_tells (Some k) name may = go (comes_before k name)
  where
    go : (t : Bool) → Tells (cond t (Err (meta.BadMember k)) (Ok (tt {0})))
    go true = wrong (meta.BadMember k) may
    go false = right tt

left_tells : (unknown : Option (List ℕ)) → May IsUtf8 unknown → Tells (none_left unknown)
unfolding none_left
left_tells None may = right tt
left_tells (Some k) may = wrong (meta.BadMember k) may

turn : {A : Type 0} (unknown : Option (List ℕ)) (name : List ℕ) (d : Data) (judged : Result A Fault) → May IsUtf8 unknown → IsUtf8 name → Tells (in_turn unknown name d judged)
unfolding in_turn
turn unknown name d judged may text = after (none_before unknown name) (λ x. named name (asked (is_there name d) judged)) (before_tells unknown name may) (λ x. named_tells name (asked (is_there name d) judged) text)

step : {A B : Type 0} (unknown : Option (List ℕ)) (name : List ℕ) (d : Data) (judged : Result A Fault) (f : Option A → Result B MetaError) → May IsUtf8 unknown → IsUtf8 name → ((a : Option A) → Tells (f a)) → Tells (in_turn unknown name d judged >>= f)
step unknown name d judged f may text each = after (in_turn unknown name d judged) f (turn unknown name d judged may text) each

module _ (unknown : Option (List ℕ)) (may : May IsUtf8 unknown) (d : Data) where
  zarr_rest_tells : (dtype : Option Dtype) → Tells (zarr_rest unknown dtype d)
  unfolding zarr_rest
  zarr_rest_tells dtype =
      step unknown (codes "compressor") d _ _ may (closed (codes "compressor") refl) (λ a.
      step unknown (codes "dimension_separator") d _ _ may (closed (codes "dimension_separator") refl) (λ slash.
      step unknown (codes "dtype") d _ _ may (closed (codes "dtype") refl) (λ b.
      step unknown (codes "fill_value") d _ _ may (closed (codes "fill_value") refl) (λ fill.
      step unknown (codes "filters") d _ _ may (closed (codes "filters") refl) (λ c. step unknown (codes "order") d _ _ may (closed (codes "order") refl) (λ order. right _))))))

  zarr_shape_tells : Tells (zarr_shape unknown d)
  unfolding zarr_shape
  zarr_shape_tells =
      step unknown (codes "shape") d _ _ may (closed (codes "shape") refl) (λ shape. step unknown (codes "zarr_format") d _ _ may (closed (codes "zarr_format") refl) (λ a. after (none_left unknown) _ (left_tells unknown may) (λ b. right _)))

  zarr3_rest_tells : (dtype : Option Dtype) → Tells (zarr3_rest unknown dtype d)
  unfolding zarr3_rest
  zarr3_rest_tells dtype =
      step unknown (codes "chunk_key_encoding") d _ _ may (closed (codes "chunk_key_encoding") refl) (λ dot.
      step unknown (codes "codecs") d _ _ may (closed (codes "codecs") refl) (λ big.
      step unknown (codes "data_type") d _ _ may (closed (codes "data_type") refl) (λ a.
      step unknown (codes "fill_value") d _ _ may (closed (codes "fill_value") refl) (λ fill. step unknown (codes "node_type") d _ _ may (closed (codes "node_type") refl) (λ b. right _)))))

  zarr3_shape_tells : Tells (zarr3_shape unknown d)
  unfolding zarr3_shape
  zarr3_shape_tells =
      step unknown (codes "shape") d _ _ may (closed (codes "shape") refl) (λ shape. step unknown (codes "zarr_format") d _ _ may (closed (codes "zarr_format") refl) (λ a. after (none_left unknown) _ (left_tells unknown may) (λ b. right _)))

  zarr3_inner_tells : (dtype : Option Dtype) → Tells (zarr3_inner unknown dtype d)
  unfolding zarr3_inner
  zarr3_inner_tells dtype = step unknown (codes "chunk_grid") d _ _ may (closed (codes "chunk_grid") refl) (λ chunks. after (zarr3_rest unknown dtype d) _ (zarr3_rest_tells dtype) (λ rest. after (zarr3_shape unknown d) _ zarr3_shape_tells (λ shape. right _)))

  dimensions_tell : Tells (dimensions_asked unknown d)
  unfolding dimensions_asked
  dimensions_tell =
      step unknown (codes "compression") d _ _ may (closed (codes "compression") refl) (λ a.
      step unknown (codes "dataType") d _ _ may (closed (codes "dataType") refl) (λ b.
      step unknown (codes "dimensions") d _ _ may (closed (codes "dimensions") refl) (λ dimensions. after (none_left unknown) _ (left_tells unknown may) (λ c. right _))))

  n5_inner_tells : (dtype : Option Dtype) → Tells (n5_inner unknown dtype d)
  unfolding n5_inner
  n5_inner_tells dtype = step unknown (codes "blockSize") d _ _ may (closed (codes "blockSize") refl) (λ block. after (dimensions_asked unknown d) _ dimensions_tell (λ dimensions. right _))

in_form_tells : {A : Type 0} (f : A → Want) (r : Result A MetaError) → Tells r → Tells (in_form f r)
in_form_tells f (Ok w) is = right (f w)
in_form_tells f (Err e) is = wrong e (is.fault e refl)

either : {A : Type 0} (t : Bool) (r : Result A MetaError) → Tells r → Tells (cond t r (Err meta.NotJson))
either true r is = is
either false r is = wrong meta.NotJson tt

module _ (n : ℕ) (own : Option Dtype) where
  zarr_tells : (o : Option Data) → May (IsHeld n) o → Tells (zarr_want own o)
  unfolding zarr_want zarr_object zarr_inner
  zarr_tells None may = right _
  zarr_tells (Some d) may =
      let unknown = least_unknown zarr_members d in
      let held = unknown_held n zarr_members d may in
      either (is_some (as_object d)) _
      (step unknown (codes "chunks") d _ _ held (closed (codes "chunks") refl) (λ chunks. after (zarr_rest unknown _ d) _ (zarr_rest_tells unknown held d _) (λ rest. after (zarr_shape unknown d) _ (zarr_shape_tells unknown held d) (λ shape. right _))))

  n5_tells : (o : Option Data) → May (IsHeld n) o → Tells (n5_want own o)
  unfolding n5_want n5_object
  n5_tells None may = right _
  n5_tells (Some d) may = either (is_some (as_object d)) _ (n5_inner_tells (least_unknown n5_members d) (unknown_held n n5_members d may) d _)

  zarr3_tells : (o : Option Data) → May (IsHeld n) o → Tells (zarr3_want own o)
  unfolding zarr3_want zarr3_object
  zarr3_tells None may = right _
  zarr3_tells (Some d) may = either (is_some (as_object d)) _ (zarr3_inner_tells (least_unknown zarr3_members d) (unknown_held n zarr3_members d may) d _)

  -- a fault of metadata
  pub want_tells : (f : Format) (o : Option Data) → May (IsHeld n) o → Tells (want_of f own o)
  unfolding want_of
  want_tells format.Zarr o may = in_form_tells _ (zarr_want own o) (zarr_tells o may)
  want_tells format.N5 o may = in_form_tells _ (n5_want own o) (n5_tells o may)
  want_tells format.Zarr3 o may = in_form_tells _ (zarr3_want own o) (zarr3_tells o may)
