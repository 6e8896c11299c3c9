-- The texts of types.
use Rattle.std.proofs.Common.{◌≡◌, ◌⊎◌, inl, inr, ℕ, List, [], ◌∷◌, Bool, true, false, cond, Option, Some, refl, sym, ap, subst, ◌∙◌, arith}
use Rattle.std.specs.Str.{bytes_eq}
use Rattle.std.proofs.lemmas.Slice.Eq.{bytes_eq-Decides}
use Rattle.chunk_elements.specs.Bytes.{byte_count}
use Rattle.chunk_elements.specs.declared.Dtype.{Dtype}
use Rattle.chunk_elements.specs.declared.Dtype.TheVariants.{I8, U8, I16, U16, I32, U32, I64, U64}
use Rattle.zarr_chunks.specs.Described.{NamesType}
use Rattle.zarr_chunks.specs.Written.{byte_order, type_name}
use Rattle.zarr_chunks.specs.Read.{of_type, written_types, beside, type_named}
use Rattle.zarr_chunks.specs.declared.members.ElementType.{ElementType}

-- the text names the type, and an element of one byte has no byte order
abbrev pub Names : List ℕ → ElementType → Type 0
Names text t = NamesType text t.dtype t.big × (byte_count t.dtype ≡ 1 → t.big ≡ false)

abbrev EachNames : List (List ℕ × ElementType) → Type 0
EachNames [] = Unit {0}
EachNames (e ∷ es) = Names e.0 e.1 × EachNames es

found_or : (text : List ℕ) (e : List ℕ × ElementType) (o : Option ElementType) (t : ElementType) (b : Bool) → bytes_eq text e.0 ≡ b
    → Names e.0 e.1 → (o ≡ Some t → Names text t) → cond b (Some e.1) o ≡ Some t → Names text t
found_or text e o t true same names more is =
    let one : e.1 ≡ t = cc in
    subst (Names text) one (subst (λ l. Names l e.1) (sym ((bytes_eq-Decides text e.0).0 same)) names)
found_or text e o t false other names more is = more is

found : (es : List (List ℕ × ElementType)) (text : List ℕ) (t : ElementType) → EachNames es → beside es text ≡ Some t → Names text t
found [] text t each is = absurd (let no_such : ⊥ = cc in no_such)
found (e ∷ es) text t each is = found_or text e (beside es text) t (bytes_eq text e.0) refl each.0 (found es text t each.1) is

named : (dtype : Dtype) (big : Bool) (mark : ℕ) → (mark ≡ byte_order dtype big) ⊎ ((byte_count dtype ≡ 1) × ((mark ≡ 60) ⊎ (mark ≡ 62)))
    → (byte_count dtype ≡ 1 → big ≡ false) → Names (mark ∷ type_name dtype) (of_type dtype big)
named dtype big mark is rule = (record { mark = mark; text_is = refl; mark_is = is }, rule)

each_names : EachNames written_types
each_names = (
  named I8 false 124 (inl refl) (λ _. refl),
  (
    named I8 false 60 (inr (refl, inl refl)) (λ _. refl),
    (
      named I8 false 62 (inr (refl, inr refl)) (λ _. refl),
      (
        named U8 false 124 (inl refl) (λ _. refl),
        (
          named U8 false 60 (inr (refl, inl refl)) (λ _. refl),
          (
            named U8 false 62 (inr (refl, inr refl)) (λ _. refl),
            (
              named I16 false 60 (inl refl) (λ _. refl),
              (
                named I16 true 62 (inl refl) (λ one. absurd (omega (arith, one))),
                (
                  named U16 false 60 (inl refl) (λ _. refl),
                  (
                    named U16 true 62 (inl refl) (λ one. absurd (omega (arith, one))),
                    (
                      named I32 false 60 (inl refl) (λ _. refl),
                      (
                        named I32 true 62 (inl refl) (λ one. absurd (omega (arith, one))),
                        (
                          named U32 false 60 (inl refl) (λ _. refl),
                          (
                            named U32 true 62 (inl refl) (λ one. absurd (omega (arith, one))),
                            (
                              named I64 false 60 (inl refl) (λ _. refl),
                              (
                                named I64 true 62 (inl refl) (λ one. absurd (omega (arith, one))),
                                (
                                  named U64 false 60 (inl refl) (λ _. refl),
                                  (
                                    named U64 true 62 (inl refl) (λ one. absurd (omega (arith, one))),
                                    tt,
                                  ),
                                ),
                              ),
                            ),
                          ),
                        ),
                      ),
                    ),
                  ),
                ),
              ),
            ),
          ),
        ),
      ),
    ),
  ),
)

-- a text that is read as a type names it
pub type_named-names : (text : List ℕ) (t : ElementType) → type_named text ≡ Some t → NamesType text t.dtype t.big × (byte_count t.dtype ≡ 1 → t.big ≡ false)
type_named-names text t is = found written_types text t each_names is

not_one : {P : Type 0} → true ≡ false → P
not_one is = absurd (let no_such : ⊥ = cc in no_such)

marked : (dtype : Dtype) (big : Bool) → (byte_count dtype ≡ 1 → big ≡ false) → type_named (byte_order dtype big ∷ type_name dtype) ≡ Some (of_type dtype big)
marked I8 false rule = refl
marked I8 true rule = not_one (rule refl)
marked U8 false rule = refl
marked U8 true rule = not_one (rule refl)
marked I16 false rule = refl
marked I16 true rule = refl
marked U16 false rule = refl
marked U16 true rule = refl
marked I32 false rule = refl
marked I32 true rule = refl
marked U32 false rule = refl
marked U32 true rule = refl
marked I64 false rule = refl
marked I64 true rule = refl
marked U64 false rule = refl
marked U64 true rule = refl

marked_else : (dtype : Dtype) (big : Bool) (mark : ℕ) → byte_count dtype ≡ 1 → (mark ≡ 60) ⊎ (mark ≡ 62) → (byte_count dtype ≡ 1 → big ≡ false)
    → type_named (mark ∷ type_name dtype) ≡ Some (of_type dtype big)
marked_else I8 false mark one (inl is) rule = ap (λ k. type_named (k ∷ type_name I8)) is
marked_else I8 false mark one (inr is) rule = ap (λ k. type_named (k ∷ type_name I8)) is
marked_else I8 true mark one is rule = not_one (rule refl)
marked_else U8 false mark one (inl is) rule = ap (λ k. type_named (k ∷ type_name U8)) is
marked_else U8 false mark one (inr is) rule = ap (λ k. type_named (k ∷ type_name U8)) is
marked_else U8 true mark one is rule = not_one (rule refl)
marked_else I16 big mark one is rule = absurd (omega (arith, one))
marked_else U16 big mark one is rule = absurd (omega (arith, one))
marked_else I32 big mark one is rule = absurd (omega (arith, one))
marked_else U32 big mark one is rule = absurd (omega (arith, one))
marked_else I64 big mark one is rule = absurd (omega (arith, one))
marked_else U64 big mark one is rule = absurd (omega (arith, one))

-- a text that names a type is read as it
pub names-type_named : (text : List ℕ) (dtype : Dtype) (big : Bool) → NamesType text dtype big → (byte_count dtype ≡ 1 → big ≡ false) → type_named text ≡ Some (of_type dtype big)
names-type_named text dtype big names rule =
    ap type_named names.text_is
    ∙ elim names.mark_is [
      | inl is ↦ ap (λ k. type_named (k ∷ type_name dtype)) is ∙ marked dtype big rule
      | inr else ↦ marked_else dtype big names.mark else.0 else.1 rule
    ]
