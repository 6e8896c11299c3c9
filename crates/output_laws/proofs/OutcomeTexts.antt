-- The texts that refusals say of the history: names of members, locations and keys.
use Rattle.std.proofs.Common.{◌≡◌, ℕ, zero, suc, ◌+◌, ◌/◌, ◌%◌, ◌<◌, ◌^◌, ◌==◌, nat_lt, nat_le, nat_eq, List, [], ◌∷◌, ◌++◌, Bool, true, false, cond, codes, decimal, Option, Some, None, unwrap_or, option_map, Result, Ok, Err, IsUtf8, refl, sym, subst, arith}
use Rattle.std.specs.List.{flat_map}
use Rattle.std.specs.Fmt.{digits, digits_onto, digit_glyph}
use Rattle.std.specs.Str.{bytes_eq}
use Rattle.std.proofs.lemmas.Bool.Decides.{nat_tests}
use Rattle.std.proofs.lemmas.Nat.{mod_below}
use Rattle.std.proofs.lemmas.Str.{IsUtf8-append, IsUtf8-nil}
use Rattle.json.proofs.Printed.Utf8.{IsUtf8-are_ascii, are_ascii}
use Rattle.cells.specs.declared.dtype.Dtype.{Dtype}
use Rattle.history.specs.declared.Form.{Form}
use Rattle.history.specs.declared.Form.TheVariants as form
use Rattle.history.specs.declared.Want.{Want}
use Rattle.history.specs.declared.Want.TheVariants as want
use Rattle.history.specs.declared.array.Home.{Home}
use Rattle.history.specs.declared.array.Home.TheVariants.{Zarr, N5, Zarr3, Local}
use Rattle.history.specs.Answers.{Body, Text}
use Rattle.history.specs.Arrays.{Known, known_after, form_of}
use Rattle.history.specs.Chunks.{Chunk, chunk_key, key_in, key_of, keys_text, metadata_key}
use Rattle.history.specs.Chunks as chunks
use Rattle.history.specs.History.{History}
use Rattle.history.specs.Leaves.{Leaf, location_of_leaf, Stored, nothing, unreadable, readable}
use Rattle.history.specs.Lines.{named_at, member_of_node}
use Rattle.history.specs.Made.{default_chunks, chunks_made, with_chunks, zarr_made, n5_made, zarr3_made, form_made}
use Rattle.history.specs.Metadata.{shape_of}
use Rattle.history.specs.Names.{chunk_name, metadata_name}
use Rattle.history.specs.OpenRows.{IsRefusal}
use Rattle.history.specs.Outcomes.{Outcome, path_taken, bad_metadata, exists, mismatch, there, found, not_found, bad_want, made, unless_differs, making_outcome, outcome_in_store, outcome_at, unless_taken, opening_outcome}
use Rattle.history.specs.Places.{taken, array_at}
use Rattle.history.specs.Refusals.{key_of_array}
use Rattle.history.specs.Wants.{asks_other, same_dtype, same_order, same_flag, asks_other_order, mismatch_of}
use Rattle.transcript_laws.proofs.Bodies.{IsCounted}
use Rattle.output_laws.specs.Parts.{AreNumbers, IsSmallBody}
use Rattle.output_laws.proofs.HeldData.{May}
use Rattle.output_laws.proofs.TextEvents.{IsTextHome, AreTextEvents, known_text, located_text, taken_text}

closed : (s : List ℕ) → are_ascii s ≡ true → IsUtf8 s
closed = IsUtf8-are_ascii

-- ---- decimal numbers

glyph_ascii : (d : ℕ) → d < 10 → digit_glyph false d < 128
glyph_ascii d low = go (nat_lt d 10) refl
  where
    go : (t : Bool) → nat_lt d 10 ≡ t → cond t (48 + d) (cond false (55 + d) (87 + d)) < 128
    go true is = omega (arith, low)
    go false is = omega (arith, low)

one_text : (x : ℕ) (xs : List ℕ) → x < 128 → IsUtf8 xs → IsUtf8 (x ∷ xs)
one_text x xs low text = IsUtf8-append (x ∷ []) xs (closed (x ∷ []) (small x low)) text
  where
    small : (y : ℕ) → y < 128 → are_ascii (y ∷ []) ≡ true
    small y less = grind (arith, nat_tests)

onto_text : (k n : ℕ) (acc : List ℕ) → IsUtf8 acc → IsUtf8 (digits_onto k 10 false n acc)
onto_text zero n acc text = text
onto_text (suc k) n acc text =
    let less = mod_below n 10 (omega arith) in
    let more = one_text (digit_glyph false (n % 10)) acc (glyph_ascii (n % 10) less) text in
    go (n / 10 == 0) more (onto_text k (n / 10) (digit_glyph false (n % 10) ∷ acc) more)
  where
    go : (t : Bool) → IsUtf8 (digit_glyph false (n % 10) ∷ acc) → IsUtf8 (digits_onto k 10 false (n / 10) (digit_glyph false (n % 10) ∷ acc))
        → IsUtf8 (cond t (digit_glyph false (n % 10) ∷ acc) (digits_onto k 10 false (n / 10) (digit_glyph false (n % 10) ∷ acc)))
    go true one two = one
    go false one two = two

pub decimal_text : (n : ℕ) → IsUtf8 (decimal n)
unfolding digits
decimal_text n = onto_text 64 n [] IsUtf8-nil

-- ---- keys

flat_text : (f : ℕ → List ℕ) (xs : List ℕ) → ((x : ℕ) → IsUtf8 (f x)) → IsUtf8 (flat_map f xs)
flat_text f [] each = IsUtf8-nil
flat_text f (x ∷ xs) each = IsUtf8-append (f x) (flat_map f xs) (each x) (flat_text f xs each)

between_text : (slash : Bool) → IsUtf8 (cond slash 47 46 ∷ [])
between_text true = closed (47 ∷ []) refl
between_text false = closed (46 ∷ []) refl

name_text : (f : Form) (index : List ℕ) → IsUtf8 (chunk_name f index)
name_text (form.Zarr meta) [] = closed (codes "0") refl
name_text (form.Zarr meta) (i ∷ index) =
    IsUtf8-append (decimal i) _ (decimal_text i) (flat_text (λ j. (cond meta.slash 47 46 ∷ []) ++ decimal j) index (λ j. IsUtf8-append (cond meta.slash 47 46 ∷ []) (decimal j) (between_text meta.slash) (decimal_text j)))
name_text (form.N5 meta) [] = IsUtf8-nil
name_text (form.N5 meta) (i ∷ index) =
    IsUtf8-append (decimal i) _ (decimal_text i) (flat_text (λ j. codes "/" ++ decimal j) index (λ j. IsUtf8-append (codes "/") (decimal j) (closed (codes "/") refl) (decimal_text j)))
name_text (form.Zarr3 meta) index = one_text 99 _ (omega arith) (flat_text _ index (λ i. dotted meta.dot i))
  where
    dotted : (t : Bool) (i : ℕ) → IsUtf8 (cond t 46 47 ∷ decimal i)
    dotted true i = one_text 46 (decimal i) (omega arith) (decimal_text i)
    dotted false i = one_text 47 (decimal i) (omega arith) (decimal_text i)
name_text form.Local index = closed (codes "0") refl

slash_text : IsUtf8 (47 ∷ [])
slash_text = closed (47 ∷ []) refl

home_text : (home : Home) (n : ℕ) → IsTextHome home → IsUtf8 (chunks.home_text home n)
home_text (Zarr mount path meta) n is = IsUtf8-append _ (47 ∷ []) (located_text mount path is.0 is.1) slash_text
home_text (N5 mount path meta) n is = IsUtf8-append _ (47 ∷ []) (located_text mount path is.0 is.1) slash_text
home_text (Zarr3 mount path meta) n is = IsUtf8-append _ (47 ∷ []) (located_text mount path is.0 is.1) slash_text
home_text (Local start) n is = IsUtf8-append _ (47 ∷ []) (IsUtf8-append (codes "array/") (decimal n) (closed (codes "array/") refl) (decimal_text n)) slash_text

-- the key of a chunk
pub key_text : (events : History) (c : Chunk) (key : List ℕ) → AreTextEvents events → key_of events c ≡ Some key → IsUtf8 key
key_text events c key texts is = go (known_after events c.array) (λ k at. known_text events c.array k texts at) is
  where
    go : (o : Option Known) → ((k : Known) → o ≡ Some k → IsTextHome k.info.home) → key_in o c ≡ Some key → IsUtf8 key
    go None each e = absurd (cc)
    go (Some k) each e =
        let same : chunk_key k c.index ≡ key = cc in
        subst IsUtf8 same (IsUtf8-append (keys_text k) (chunk_name (form_of k.info.home) c.index) (home_text k.info.home k.opened (each k refl)) (name_text (form_of k.info.home) c.index))

-- the key of an array's metadata
pub metadata_text : (events : History) (a : ℕ) (key : List ℕ) → AreTextEvents events → key_of_array (known_after events a) ≡ Some key → IsUtf8 key
metadata_text events a key texts is = go (known_after events a) (λ k at. known_text events a k texts at) is
  where
    with_name : (k : Known) (o : Option (List ℕ)) → IsTextHome k.info.home → May IsUtf8 o → option_map (λ name. keys_text k ++ name) o ≡ Some key → IsUtf8 key
    with_name k None home may e = absurd (cc)
    with_name k (Some name) home may e = let same : keys_text k ++ name ≡ key = cc in subst IsUtf8 same (IsUtf8-append (keys_text k) name (home_text k.info.home k.opened home) may)

    named : (f : Form) → May IsUtf8 (metadata_name f)
    named (form.Zarr meta) = closed (codes ".zarray") refl
    named (form.N5 meta) = closed (codes "attributes.json") refl
    named (form.Zarr3 meta) = closed (codes "zarr.json") refl
    named form.Local = tt

    go : (o : Option Known) → ((k : Known) → o ≡ Some k → IsTextHome k.info.home) → key_of_array o ≡ Some key → IsUtf8 key
    go None each e = absurd (cc)
    go (Some k) each e = with_name k (metadata_name (form_of k.info.home)) (each k refl) (named (form_of k.info.home)) e

-- ---- members

-- a text that there may be
record IsTextOf (o : Option (List ℕ)) : Type 0 where
  text : May IsUtf8 o

pick : (t : Bool) (s : List ℕ) (o : Option (List ℕ)) → IsUtf8 s → IsTextOf o → IsTextOf (cond t (Some s) o)
pick true s o one more = record { text = one }
pick false s o one more = more

none_of : IsTextOf None
none_of = record { text = tt }

driver_text : IsTextOf (Some (codes "driver"))
driver_text = record { text = closed (codes "driver") refl }

differing_text : (w : Want) (f : Form) (shape : List ℕ) → IsTextOf (mismatch_of w f shape)
differing_text (want.Zarr w) (form.Zarr meta) shape =
    pick (asks_other same_dtype w.dtype meta.dtype) (codes "dtype") _ (closed (codes "dtype") refl)
    (pick (asks_other_order meta.dtype w.big meta.big) (codes "dtype") _ (closed (codes "dtype") refl)
    (pick (asks_other bytes_eq w.shape shape) (codes "shape") _ (closed (codes "shape") refl)
    (pick (asks_other bytes_eq w.chunks meta.chunks) (codes "chunks") _ (closed (codes "chunks") refl)
    (pick (asks_other same_order w.order meta.order) (codes "order") _ (closed (codes "order") refl)
    (pick (asks_other nat_eq (option_map (λ f. unwrap_or f 0) w.fill) (unwrap_or meta.fill 0)) (codes "fill_value") _ (closed (codes "fill_value") refl)
    (pick (asks_other same_flag w.slash meta.slash) (codes "dimension_separator") _ (closed (codes "dimension_separator") refl) none_of))))))
differing_text (want.Zarr w) (form.N5 meta) shape = driver_text
differing_text (want.Zarr w) (form.Zarr3 meta) shape = driver_text
differing_text (want.Zarr w) form.Local shape = driver_text
differing_text (want.N5 w) (form.Zarr meta) shape = driver_text
differing_text (want.N5 w) (form.N5 meta) shape =
    pick _ (codes "dtype") _ (closed (codes "dtype") refl) (pick _ (codes "dimensions") _ (closed (codes "dimensions") refl) (pick _ (codes "blockSize") _ (closed (codes "blockSize") refl) none_of))
differing_text (want.N5 w) (form.Zarr3 meta) shape = driver_text
differing_text (want.N5 w) form.Local shape = driver_text
differing_text (want.Zarr3 w) (form.Zarr meta) shape = driver_text
differing_text (want.Zarr3 w) (form.N5 meta) shape = driver_text
differing_text (want.Zarr3 w) (form.Zarr3 meta) shape =
    pick _ (codes "dtype") _ (closed (codes "dtype") refl)
    (pick _ (codes "shape") _ (closed (codes "shape") refl)
    (pick _ (codes "chunk_grid") _ (closed (codes "chunk_grid") refl)
    (pick _ (codes "fill_value") _ (closed (codes "fill_value") refl)
    (pick _ (codes "codecs") _ (closed (codes "codecs") refl) (pick _ (codes "chunk_key_encoding") _ (closed (codes "chunk_key_encoding") refl) none_of)))))
differing_text (want.Zarr3 w) form.Local shape = driver_text

-- a member that differs
mismatch_text : (w : Want) (f : Form) (shape : List ℕ) → May IsUtf8 (mismatch_of w f shape)
mismatch_text w f shape = (differing_text w f shape).text

-- a form, or the name of a member
abbrev IsNamed : {A : Type 0} → Result A (List ℕ) → Type 0
IsNamed (Ok a) = Unit {0}
IsNamed (Err member) = IsUtf8 member

chunks_text : (member : List ℕ) (o : Option (List ℕ)) (shape : List ℕ) → IsUtf8 member → IsNamed (chunks_made member o shape)
chunks_text member (Some cs) shape text = tt
chunks_text member None shape text = go (nat_le _ 16777216)
  where
    go : (t : Bool) → IsNamed (cond t (Ok (default_chunks shape)) (Err member))
    go true = tt
    go false = text

with_text : (make : List ℕ → Form) (r : Result (List ℕ) (List ℕ)) → IsNamed r → IsNamed (with_chunks make r)
with_text make (Ok cs) named = tt
with_text make (Err member) named = named

made_text : (w : Want) → IsNamed (form_made w)
made_text (want.Zarr w) = go w.shape w.dtype
  where
    go : (o : Option (List ℕ)) (p : Option Dtype) → IsNamed (zarr_made w o p)
    go None dtype = closed (codes "shape") refl
    go (Some shape) None = closed (codes "dtype") refl
    go (Some shape) (Some dtype) = with_text _ (chunks_made (codes "chunks") w.chunks shape) (chunks_text (codes "chunks") w.chunks shape (closed (codes "chunks") refl))
made_text (want.N5 w) = go w.dimensions w.dtype
  where
    go : (o : Option (List ℕ)) (p : Option Dtype) → IsNamed (n5_made w o p)
    go None dtype = closed (codes "dimensions") refl
    go (Some shape) None = closed (codes "dtype") refl
    go (Some shape) (Some dtype) = with_text _ (chunks_made (codes "blockSize") w.block shape) (chunks_text (codes "blockSize") w.block shape (closed (codes "blockSize") refl))
made_text (want.Zarr3 w) = go w.shape w.dtype
  where
    go : (o : Option (List ℕ)) (p : Option Dtype) → IsNamed (zarr3_made w o p)
    go None dtype = closed (codes "shape") refl
    go (Some shape) None = closed (codes "dtype") refl
    go (Some shape) (Some dtype) = with_text _ (chunks_made (codes "chunk_grid") w.chunks shape) (chunks_text (codes "chunk_grid") w.chunks shape (closed (codes "chunk_grid") refl))

named_text : (member : List ℕ) → IsUtf8 member → IsUtf8 (named_at member)
named_text member text = go (bytes_eq member (codes "dtype"))
  where
    go : (t : Bool) → IsUtf8 (cond t member (codes "metadata/" ++ member))
    go true = text
    go false = IsUtf8-append (codes "metadata/") member (closed (codes "metadata/") refl) text

node_text : (node member : List ℕ) → IsUtf8 node → IsUtf8 member → IsUtf8 (member_of_node node member)
node_text [] member one two = named_text member two
node_text (c ∷ node) member one two = IsUtf8-append (c ∷ node) (47 ∷ named_at member) one (IsUtf8-append (47 ∷ []) (named_at member) slash_text (named_text member two))

-- ---- outcomes

-- an outcome's own texts
abbrev IsTextOutcome : Outcome → Type 0
IsTextOutcome (path_taken other) = IsUtf8 other
IsTextOutcome (bad_metadata bytes) = Unit {0}
IsTextOutcome exists = Unit {0}
IsTextOutcome (mismatch member) = IsUtf8 member
IsTextOutcome (there array) = Unit {0}
IsTextOutcome (found meta) = Unit {0}
IsTextOutcome not_found = Unit {0}
IsTextOutcome (bad_want member) = IsUtf8 member
IsTextOutcome (made meta) = Unit {0}

choose : (t : Bool) (x y : Outcome) → IsTextOutcome x → IsTextOutcome y → IsTextOutcome (cond t x y)
choose true x y one two = one
choose false x y one two = two

differs_text : (o : Option (List ℕ)) (x : Outcome) → May IsUtf8 o → IsTextOutcome x → IsTextOutcome (unless_differs o x)
differs_text None x may is = is
differs_text (Some member) x may is = may

making_text : (r : Result Form (List ℕ)) → IsNamed r → IsTextOutcome (making_outcome r)
making_text (Ok meta) named = tt
making_text (Err member) named = named

store_text : (leaf : Leaf) (s : Stored) → IsTextOutcome (outcome_in_store leaf s)
store_text leaf nothing = choose leaf.may_create (making_outcome (form_made leaf.want)) not_found (making_text (form_made leaf.want) (made_text leaf.want)) tt
store_text leaf (unreadable bytes) = tt
store_text leaf (readable meta) = choose leaf.may_open (unless_differs (mismatch_of leaf.want meta (shape_of meta)) (found meta)) exists (differs_text (mismatch_of leaf.want meta (shape_of meta)) (found meta) (mismatch_text leaf.want meta (shape_of meta)) tt) tt

at_text : (leaf : Leaf) (s : Stored) (o : Option Known) → IsTextOutcome (outcome_at leaf s o)
at_text leaf s None = store_text leaf s
at_text leaf s (Some k) =
    choose leaf.may_open (unless_differs (mismatch_of leaf.want (form_of k.info.home) k.shape) (there k)) exists
    (differs_text (mismatch_of leaf.want (form_of k.info.home) k.shape) (there k) (mismatch_text leaf.want (form_of k.info.home) k.shape) tt) tt

opening_text : (events : History) (leaf : Leaf) (s : Stored) → AreTextEvents events → IsTextOutcome (opening_outcome events leaf s)
opening_text events leaf s texts = go (taken events (location_of_leaf leaf)) (λ other is. taken_text events (location_of_leaf leaf) other texts is)
  where
    go : (o : Option (List ℕ)) → ((other : List ℕ) → o ≡ Some other → IsUtf8 other) → IsTextOutcome (unless_taken o (outcome_at leaf s (array_at events (location_of_leaf leaf))))
    go None each = at_text leaf s (array_at events (location_of_leaf leaf))
    go (Some other) each = each other refl

-- the answer to a leaf that is refused
pub refusal_small : (node : Text) (leaf : Leaf) (at : ℕ) (numbers : List ℕ) (outcome : Outcome) (answer : Body) → IsUtf8 node → IsUtf8 leaf.mount → IsUtf8 leaf.path → at < 2 ^ 64 → AreNumbers numbers → (events : History) → AreTextEvents events → (s : Stored)
    → outcome ≡ opening_outcome events leaf s → IsCounted answer → IsRefusal node leaf at numbers outcome answer → IsSmallBody answer
refusal_small node leaf at numbers outcome answer node_is mount path low small events texts s same counted refused =
    go outcome (subst IsTextOutcome (sym same) (opening_text events leaf s texts)) refused
  where
    place : IsUtf8 (location_of_leaf leaf)
    place = located_text leaf.mount leaf.path mount path

    go : (o : Outcome) → IsTextOutcome o → IsRefusal node leaf at numbers o answer → IsSmallBody answer
    go (path_taken other) text is = subst IsSmallBody (sym is) (low, text, small)
    go (bad_metadata bytes) text is = absurd (subst IsCounted is.2 counted)
    go exists text is = subst IsSmallBody (sym is) (low, place, small)
    go (mismatch member) text is = subst IsSmallBody (sym is) (low, text, place, small)
    go (there array) text is = absurd is
    go (found meta) text is = absurd is
    go not_found text is = subst IsSmallBody (sym is) (low, place, small)
    go (bad_want member) text is = subst IsSmallBody (sym is) (node_text node member node_is text, small)
    go (made meta) text is = absurd is
