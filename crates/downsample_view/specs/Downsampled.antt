-- A domain's words, downsampled.
use Rattle.std.specs.Prelude.{ℕ, ℤ, int_lt, Bool, if◌then◌else◌, List, [], ◌∷◌, map, fold}
use Rattle.cells.specs.Numbers.{number_of}
use Rattle.cells.specs.declared.dtype.Dtype.{Dtype}
use Rattle.index_intervals.specs.Bounds.{Bounds}
use Rattle.index_transform.specs.Cells.{cells_of}
use Rattle.index_intervals.specs.Members.{size_of}
use Rattle.downsample_view.specs.Groups.{new_dims, is_in_group}
use Rattle.downsample_view.specs.declared.method.Method.{Method}
use Rattle.downsample_view.specs.declared.method.Method.TheVariants.{Stride, Min, Max}
use Rattle.downsample_view.specs.declared.outcome.Down.{Down}

-- the words of those cells that a test lets pass
abbrev pub words_where : (List ℤ → Bool) → List (List ℤ) → List ℕ → List ℕ
words_where test [] words = []
words_where test (cell ∷ cells) [] = []
words_where test (cell ∷ cells) (w ∷ words) = if test cell then w ∷ words_where test cells words else words_where test cells words

-- of two words the one that is kept: the former for a stride, where there is but one, else that of the lesser or the greater number
abbrev pub kept_of : Method → Dtype → ℕ → ℕ → ℕ
kept_of Stride dtype a b = a
kept_of Min dtype a b = if int_lt (number_of dtype b) (number_of dtype a) then b else a
kept_of Max dtype a b = if int_lt (number_of dtype a) (number_of dtype b) then b else a

-- of several words the one that is kept
abbrev pub kept_word : Method → Dtype → List ℕ → ℕ
kept_word method dtype [] = 0
kept_word method dtype (w ∷ words) = fold (kept_of method dtype) w words

-- the word at a new index vector: what is kept of the words of its cells
abbrev pub new_word : Method → Dtype → List ℕ → List Bounds → List ℕ → List ℤ → ℕ
new_word method dtype factors dims words y = kept_word method dtype (words_where (is_in_group method factors y) (cells_of dims) words)

-- origin, shape, and the words in C order of the new domain
abbrev pub downsampled : Method → Dtype → List ℕ → List Bounds → List ℕ → Down
downsampled method dtype factors dims words =
    let news = new_dims method factors dims in
    record {
      origin = map (λ dim. dim.lo) news;
      shape = map size_of news;
      words = map (new_word method dtype factors dims words) (cells_of news);
    }
