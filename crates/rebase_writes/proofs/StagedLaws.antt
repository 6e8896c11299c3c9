-- Laws of staged cells: what a write does, and what is laid over a chunk.
use Rattle.std.proofs.Common.{◌≡◌, ◌≢◌, ℕ, zero, suc, ◌+◌, ◌<◌, ◌≤◌, ◌↔◌, Bool, true, false, List, [], ◌∷◌, length, get_or, set, replicate, Option, Some, None, IsSome, All, unwrap_or, refl, sym, ◌∙◌, ap, subst, arith, below_more, get_or-set_other, get_or-set_same}
use Rattle.std.proofs.lemmas.Int.{ints}
use Rattle.std.proofs.lemmas.List.{get_or_default, ext_get_or, length-set}
use Rattle.std.proofs.lemmas.Option.{get_or_from_slice_get, slice_get-get_or, slice_get_within}
use Rattle.std.specs.Prelude.{slice_get, if◌then◌else◌}
use Rattle.std.specs.Option.{ForSome}
use Rattle.cells.specs.Dense.{DenseCells, IsDense}
use Rattle.cells.specs.Items.{words_where}
use Rattle.cells.specs.Numbers.{IsWord}
use Rattle.cells.specs.declared.dtype.Dtype.{Dtype}
use Rattle.cells.specs.Runs.{Pair, pair_at, pairs_of, pairs_put, view_place, chunk_place}
use Rattle.rebase_writes.specs.Runs.{shown_at, row_at}
use Rattle.rebase_writes.specs.Staged.{staged_cells, staged_at, AreWords, CoverAll, laid_over}
use Rattle.rebase_writes.proofs.RunLaws.{fold_one}

-- there is a cell for each place
pub length-staged_cells : (mask : List Bool) (words : List ℕ) → length mask ≡ length words → length (staged_cells mask words) ≡ length words
length-staged_cells [] [] same = refl
length-staged_cells [] (word ∷ words) same = absurd (omega (arith, same))
length-staged_cells (covered ∷ mask) [] same = absurd (omega (arith, same))
length-staged_cells (covered ∷ mask) (word ∷ words) same =
    let rest = length-staged_cells mask words (omega (arith, same)) in
    omega (arith, rest)

-- so mask and words have the size of the staged cells
pub IsSized-staged : (mask : List Bool) (words : List ℕ) (cells : List (Option ℕ)) → length mask ≡ length words → staged_cells mask words ≡ cells
    → (length mask ≡ length cells) × (length words ≡ length cells)
IsSized-staged mask words cells same is =
    let size = length-staged_cells mask words same in
    let of_cells = ap length is in
    (omega (arith, size, of_cells, same), omega (arith, size, of_cells))

-- a mark and a word at a place are a staged word there
pub staged_cells-set : (mask : List Bool) (words : List ℕ) (place word : ℕ) → length mask ≡ length words
    → staged_cells (set mask place true) (set words place word) ≡ set (staged_cells mask words) place (Some word)
staged_cells-set [] [] place word same = refl
staged_cells-set [] (w ∷ words) place word same = absurd (omega (arith, same))
staged_cells-set (covered ∷ mask) [] place word same = absurd (omega (arith, same))
staged_cells-set (covered ∷ mask) (w ∷ words) zero word same = refl
staged_cells-set (covered ∷ mask) (w ∷ words) (suc place) word same =
    ap (λ cells. (if covered then Some w else None) ∷ cells) (staged_cells-set mask words place word (omega (arith, same)))

-- at first nothing is staged
pub staged_cells-none : (n word : ℕ) → staged_cells (replicate n false) (replicate n word) ≡ replicate n None
staged_cells-none zero word = refl
staged_cells-none (suc n) word = ap (λ cells. None ∷ cells) (staged_cells-none n word)

-- the staged word at a place
pub staged_at-mask : (mask : List Bool) (words : List ℕ) (place : ℕ) → length mask ≡ length words → place < length mask
    → staged_at (staged_cells mask words) place ≡ (if get_or mask place false then Some (get_or words place 0) else None)
staged_at-mask [] words place same inside = absurd (omega (arith, inside))
staged_at-mask (covered ∷ mask) [] place same inside = absurd (omega (arith, same))
staged_at-mask (covered ∷ mask) (word ∷ words) zero same inside = refl
staged_at-mask (covered ∷ mask) (word ∷ words) (suc place) same inside = staged_at-mask mask words place (omega (arith, same)) (omega (arith, inside))

-- what is shown of a place whose mark is set
pub shown-staged : (mask : List Bool) (words out : List ℕ) (view place : ℕ) → length mask ≡ length words → place < length mask → get_or mask place false ≡ true
    → shown_at out view (staged_at (staged_cells mask words) place) ≡ set out view (get_or words place 0)
shown-staged mask words out view place same inside mark =
    ap (shown_at out view) (staged_at-mask mask words place same inside ∙ ap (λ (b : Bool). if b then Some (get_or words place 0) else None) mark)

-- and of another
pub shown-bare : (mask : List Bool) (words out : List ℕ) (view place : ℕ) → length mask ≡ length words → place < length mask → get_or mask place false ≡ false
    → shown_at out view (staged_at (staged_cells mask words) place) ≡ out
shown-bare mask words out view place same inside mark =
    ap (shown_at out view) (staged_at-mask mask words place same inside ∙ ap (λ (b : Bool). if b then Some (get_or words place 0) else None) mark)

-- whether a word is staged at a place tells its mark
pub IsSome-staged_at : (mask : List Bool) (words : List ℕ) (cells : List (Option ℕ)) (place : ℕ) (covered : Bool) → length mask ≡ length words
    → staged_cells mask words ≡ cells → place < length mask → covered ≡ get_or mask place covered → (covered ≡ true) ↔ IsSome (staged_at cells place)
IsSome-staged_at mask words cells place covered same is inside mark =
    let at : staged_at cells place ≡ (if covered then Some (get_or words place 0) else None) =
    ap (λ all. staged_at all place) (sym is) ∙ staged_at-mask mask words place same inside
    ∙ ap (λ (b : Bool). if b then Some (get_or words place 0) else None) (sym (mark ∙ get_or_default mask place covered false inside)) in
    subst (λ (o : Option ℕ). (covered ≡ true) ↔ IsSome o) (sym at) (by_mark covered (get_or words place 0))
  where
    by_mark : (b : Bool) (word : ℕ) → (b ≡ true) ↔ IsSome (if b then Some word else None)
    by_mark true word = (λ _. refl, λ _. refl)
    by_mark false word = (λ h. cc, λ h. cc)

-- a chunk keeps its size
pub length-laid_over : (cells : List (Option ℕ)) (base : List ℕ) → length cells ≡ length base → length (laid_over cells base) ≡ length base
length-laid_over [] [] same = refl
length-laid_over [] (word ∷ base) same = absurd (omega (arith, same))
length-laid_over (cell ∷ cells) [] same = absurd (omega (arith, same))
length-laid_over (cell ∷ cells) (word ∷ base) same =
    let rest = length-laid_over cells base (omega (arith, same)) in
    omega (arith, rest)

-- cell by cell: the staged word, or the base's
pub get_or-laid_over : (cells : List (Option ℕ)) (base : List ℕ) (place : ℕ) → length cells ≡ length base → place < length cells
    → get_or (laid_over cells base) place 0 ≡ unwrap_or (staged_at cells place) (get_or base place 0)
get_or-laid_over [] base place same inside = absurd (omega (arith, inside))
get_or-laid_over (cell ∷ cells) [] place same inside = absurd (omega (arith, same))
get_or-laid_over (cell ∷ cells) (word ∷ base) zero same inside = refl
get_or-laid_over (cell ∷ cells) (word ∷ base) (suc place) same inside = get_or-laid_over cells base place (omega (arith, same)) (omega (arith, inside))

chosen : (dtype : Dtype) (cell : Option ℕ) (word : ℕ) → ForSome cell (IsWord dtype) → IsWord dtype word → IsWord dtype (unwrap_or cell word)
chosen dtype None word staged base = base
chosen dtype (Some other) word staged base = staged other refl

-- words laid over words are words
pub All-laid_over : (dtype : Dtype) (cells : List (Option ℕ)) (base : List ℕ) → length cells ≡ length base → AreWords dtype cells
    → All (IsWord dtype) base → All (IsWord dtype) (laid_over cells base)
All-laid_over dtype cells base same staged words k d inside =
    let size = length-laid_over cells base same in
    let in_cells : k < length cells = omega (arith, size, same, inside) in
    let is : get_or (laid_over cells base) k d ≡ unwrap_or (staged_at cells k) (get_or base k 0) =
    get_or_default (laid_over cells base) k d 0 inside ∙ get_or-laid_over cells base k same in_cells in
    subst (IsWord dtype) (sym is) (chosen dtype (staged_at cells k) (get_or base k 0) (staged k None in_cells) (words k 0 (omega (arith, same, in_cells))))

-- at a place: the word there, or the base's where the mask isn't set
at_place : (mask : List Bool) (words base : List ℕ) (place : ℕ) → length mask ≡ length words → length words ≡ length base → place < length mask
    → get_or (laid_over (staged_cells mask words) base) place 0 ≡ (if get_or mask place false then get_or words place 0 else get_or base place 0)
at_place mask words base place same sized inside =
    let size = length-staged_cells mask words same in
    get_or-laid_over (staged_cells mask words) base place (omega (arith, size, sized)) (omega (arith, size, same, inside))
    ∙ ap (λ cell. unwrap_or cell (get_or base place 0)) (staged_at-mask mask words place same inside)
    ∙ by_mark (get_or mask place false) (get_or words place 0) (get_or base place 0)
  where
    by_mark : (b : Bool) (x y : ℕ) → unwrap_or (if b then Some x else None) y ≡ (if b then x else y)
    by_mark true x y = refl
    by_mark false x y = refl

-- before a place the words are laid over, from it on they are the base's
pub record IsLaidUpTo (mask : List Bool) (words base laid : List ℕ) (place : ℕ) : Type 0 where
  pub front : (k : ℕ) → k < place → get_or laid k 0 ≡ get_or (laid_over (staged_cells mask words) base) k 0
  pub rest : (k : ℕ) → place ≤ k → get_or laid k 0 ≡ get_or base k 0

-- one place more, where the mask is set
pub IsLaidUpTo-covered : (mask : List Bool) (words base laid : List ℕ) (place : ℕ) → length mask ≡ length words → length words ≡ length base → length laid ≡ length base
    → place < length mask → get_or mask place false ≡ true → IsLaidUpTo mask words base laid place
    → IsLaidUpTo mask words base (set laid place (get_or words place 0)) (place + 1)
IsLaidUpTo-covered mask words base laid place same sized kept inside mark is = record {
  front = below_more _ _
      (λ k below. let apart : k ≢ place = omega (arith, below) in get_or-set_other laid place k (get_or words place 0) 0 apart ∙ is.front k below)
      (get_or-set_same laid place (get_or words place 0) 0 (omega (arith, same, sized, kept, inside))
      ∙ sym (at_place mask words base place same sized inside ∙ ap (λ (b : Bool). if b then get_or words place 0 else get_or base place 0) mark));
  rest = λ k above. let apart : k ≢ place = omega (arith, above) in
      get_or-set_other laid place k (get_or words place 0) 0 apart ∙ is.rest k (omega (arith, above));
}

-- one place more, where it isn't
pub IsLaidUpTo-bare : (mask : List Bool) (words base laid : List ℕ) (place : ℕ) → length mask ≡ length words → length words ≡ length base
    → place < length mask → get_or mask place false ≡ false → IsLaidUpTo mask words base laid place → IsLaidUpTo mask words base laid (place + 1)
IsLaidUpTo-bare mask words base laid place same sized inside mark is = record {
  front = below_more _ _ is.front
      (is.rest place (omega arith) ∙ sym (at_place mask words base place same sized inside ∙ ap (λ (b : Bool). if b then get_or words place 0 else get_or base place 0) mark));
  rest = λ k above. is.rest k (omega (arith, above));
}

-- several places more, where it isn't
pub IsLaidUpTo-many : (mask : List Bool) (words base laid : List ℕ) (place n : ℕ) → length mask ≡ length words → length words ≡ length base
    → place + n ≤ length mask → ((k : ℕ) → k < n → get_or mask (place + k) false ≡ false) → IsLaidUpTo mask words base laid place → IsLaidUpTo mask words base laid (place + n)
IsLaidUpTo-many mask words base laid place zero same sized far bare is = subst (λ p. IsLaidUpTo mask words base laid p) (omega arith) is
IsLaidUpTo-many mask words base laid place (suc n) same sized far bare is =
    subst (λ p. IsLaidUpTo mask words base laid p) (omega arith)
    (IsLaidUpTo-bare mask words base laid (place + n) same sized (omega (arith, far)) (bare n (omega arith))
    (IsLaidUpTo-many mask words base laid place n same sized (omega (arith, far)) (λ k less. bare k (omega (arith, less))) is))

-- the places of a row
pub row_place : (place n k : ℕ) → chunk_place (row_at place n) k ≡ place + k
row_place place n k = omega (arith, ints)

-- a row of one word more
row_more : (place n : ℕ) (words laid : List ℕ) → pairs_put (pairs_of (row_at place (n + 1))) words laid
    ≡ set (pairs_put (pairs_of (row_at place n)) words laid) (place + n) (get_or words (place + n) 0)
row_more place n words laid =
    fold_one (λ (cells : List ℕ) (pair : Pair). set cells pair.chunk (get_or words pair.view 0)) (pair_at (row_at place n)) laid n
    ∙ (λ i. set (pairs_put (pairs_of (row_at place n)) words laid) (row_place place n n i) (get_or words (view i) 0))
  where
    view : view_place (row_at place n) n ≡ place + n
    view = omega arith

-- a row keeps the number of words
pub length-row : (place n : ℕ) (words laid : List ℕ) → length (pairs_put (pairs_of (row_at place n)) words laid) ≡ length laid
length-row place zero words laid = refl
length-row place (suc n) words laid =
    let one : suc n ≡ n + 1 = omega arith in
    ap (λ (m : ℕ). length (pairs_put (pairs_of (row_at place m)) words laid)) one ∙ ap (λ (ws : List ℕ). length ws) (row_more place n words laid)
    ∙ length-set (pairs_put (pairs_of (row_at place n)) words laid) (place + n) (get_or words (place + n) 0) ∙ length-row place n words laid

-- a row of places more, where the mask is set
pub IsLaidUpTo-row : (mask : List Bool) (words base laid : List ℕ) (place n : ℕ) → length mask ≡ length words → length words ≡ length base → length laid ≡ length base
    → place + n ≤ length mask → ((k : ℕ) → k < n → get_or mask (place + k) false ≡ true) → IsLaidUpTo mask words base laid place
    → IsLaidUpTo mask words base (pairs_put (pairs_of (row_at place n)) words laid) (place + n)
IsLaidUpTo-row mask words base laid place zero same sized kept far full is = subst (λ p. IsLaidUpTo mask words base laid p) (omega arith) is
IsLaidUpTo-row mask words base laid place (suc n) same sized kept far full is =
    let one : suc n ≡ n + 1 = omega arith in
    let more : set (pairs_put (pairs_of (row_at place n)) words laid) (place + n) (get_or words (place + n) 0) ≡ pairs_put (pairs_of (row_at place (suc n))) words laid =
    sym (ap (λ (m : ℕ). pairs_put (pairs_of (row_at place m)) words laid) one ∙ row_more place n words laid) in
    subst (λ (ws : List ℕ). IsLaidUpTo mask words base ws (place + suc n)) more
    (subst (λ p. IsLaidUpTo mask words base (set (pairs_put (pairs_of (row_at place n)) words laid) (place + n) (get_or words (place + n) 0)) p) (omega arith)
    (IsLaidUpTo-covered mask words base (pairs_put (pairs_of (row_at place n)) words laid) (place + n) same sized (length-row place n words laid ∙ kept) (omega (arith, far)) (full n (omega arith))
    (IsLaidUpTo-row mask words base laid place n same sized kept (omega (arith, far)) (λ k less. full k (omega (arith, less))) is)))

-- all places
pub IsLaidUpTo-all : (mask : List Bool) (words base laid : List ℕ) (place : ℕ) → length mask ≡ length words → length words ≡ length base → length laid ≡ length base
    → length mask ≤ place → IsLaidUpTo mask words base laid place → laid ≡ laid_over (staged_cells mask words) base
IsLaidUpTo-all mask words base laid place same sized kept all is =
    let size = length-staged_cells mask words same in
    let whole = length-laid_over (staged_cells mask words) base (omega (arith, size, sized)) in
    ext_get_or 0 laid (laid_over (staged_cells mask words) base) (omega (arith, whole, kept)) (λ k inside. is.front k (omega (arith, kept, sized, same, all, inside)))

-- a word is staged exactly where the mask is set
pub CoverAll-mask : (mask : List Bool) (words : List ℕ) (cells : List (Option ℕ)) (inside : List Bool) → length mask ≡ length words → staged_cells mask words ≡ cells
    → length inside ≡ length mask → ((place : ℕ) → slice_get inside place ≡ Some true → slice_get mask place ≡ Some true) ↔ CoverAll cells inside
CoverAll-mask mask words cells inside same is sized = (
  (λ marked place in_array.
      let read : true ≡ get_or mask place true = sym (get_or_from_slice_get mask place true true (marked place in_array)) in
      (IsSome-staged_at mask words cells place true same is (within place in_array) read).0 refl),
  (λ cover place in_array.
      let mark = get_or mask place true in
      let set = (IsSome-staged_at mask words cells place mark same is (within place in_array) (get_or_default mask place true mark (within place in_array))).1 (cover place in_array) in
      slice_get-get_or mask place true (within place in_array) ∙ ap Some set),
)
  where
    within : (place : ℕ) → slice_get inside place ≡ Some true → place < length mask
    within place in_array = omega (arith, sized, slice_get_within inside place true in_array)

-- what is laid over a chunk is a chunk
pub IsDense-laid_over : (base : DenseCells) (cells : List (Option ℕ)) → IsDense base → length cells ≡ length base.words → AreWords base.dtype cells
    → IsDense (record base { words = laid_over cells base.words })
IsDense-laid_over base cells is sized staged = record {
  rank = is.rank;
  small = is.small;
  full = length-laid_over cells base.words sized ∙ is.full;
  of_dtype = All-laid_over base.dtype cells base.words sized staged is.of_dtype;
}

-- words where the mask is set are the staged words laid over
pub words_where-laid_over : (mask : List Bool) (words base : List ℕ) → length mask ≡ length words → length words ≡ length base → words_where mask words base ≡ laid_over (staged_cells mask words) base
words_where-laid_over [] [] [] same sized = refl
words_where-laid_over [] [] (b ∷ base) same sized = absurd (omega (arith, sized))
words_where-laid_over [] (w ∷ words) base same sized = absurd (omega (arith, same))
words_where-laid_over (covered ∷ mask) [] base same sized = absurd (omega (arith, same))
words_where-laid_over (covered ∷ mask) (w ∷ words) [] same sized = absurd (omega (arith, sized))
words_where-laid_over (true ∷ mask) (w ∷ words) (b ∷ base) same sized = ap (λ l. w ∷ l) (words_where-laid_over mask words base (omega (arith, same)) (omega (arith, sized)))
words_where-laid_over (false ∷ mask) (w ∷ words) (b ∷ base) same sized = ap (λ l. b ∷ l) (words_where-laid_over mask words base (omega (arith, same)) (omega (arith, sized)))
