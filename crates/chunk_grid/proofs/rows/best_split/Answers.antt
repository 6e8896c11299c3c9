use Rattle.std.proofs.Common.{◌≡◌, Bool, true, false, ◌||◌, refl, List, [], ◌∷◌, arith}
use Rattle.cells.proofs.Laws.{both_true}
use Rattle.std.proofs.lemmas.Bool.Decides.{nat_tests}
use Rattle.index_transform.specs.declared.map.OutMap.{OutMap}
use Rattle.index_transform.specs.declared.map.OutMap.TheVariants.{Constant, Strided, Indexed}
use Rattle.chunk_grid.specs.Rows.{is_of_heads, is_of_rows, is_split}
use Rattle.chunk_grid.proofs.rows.best_split.Goals as goal

-- no output needs a head
or_second : (a b : Bool) → b ≡ true → (a || b) ≡ true
or_second true b e = refl
or_second false b e = e

of_rows : (m : OutMap) → is_of_rows 0 m ≡ true
of_rows (Constant o) = refl
of_rows (Strided o s d) = grind (arith, nat_tests)
of_rows (Indexed o s sizes entries) = refl

all_rows : (maps : List OutMap) → is_split 0 maps ≡ true
all_rows [] = refl
all_rows (m ∷ maps) = both_true (is_of_heads 0 m || is_of_rows 0 m) (is_split 0 maps) (or_second (is_of_heads 0 m) (is_of_rows 0 m) (of_rows m)) (all_rows maps)

pub loop-k-init : goal.loop-k-init
loop-k-init c = record { within = omega arith; split = all_rows c.args.maps.now }
