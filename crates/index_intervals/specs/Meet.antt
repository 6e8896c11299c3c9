-- The meet of intervals, all taken at once: the greatest lower and the least upper bound, each with its flag.
use Rattle.std.specs.Prelude.{◌≡◌, ℤ, pos, ◌-ℤ◌, ◌+ℤ◌, int_lt, Bool, false, ◌&&◌, ◌||◌, IsTrue, ◌↔◌, List, [], ◌∷◌, fold, map, if◌then◌else◌, Option, Some, None}
use Rattle.std.specs.Int.{int_max, int_min}
use Rattle.index_intervals.specs.Bounds.{Bounds}
use Rattle.index_intervals.specs.Edges.{ends_of, interval_of}
use Rattle.index_intervals.specs.declared.edge.Edge.{Edge}
use Rattle.index_intervals.specs.declared.edge.Ends.{Ends}

-- the greater of two lower edges; it is implicit where each of the two that attains it is
abbrev pub greater_at : Edge → Edge → Option ℤ → Option ℤ → Edge
greater_at a b None None = record { at = None; implicit = a.implicit && b.implicit }
greater_at a b None (Some y) = b
greater_at a b (Some x) None = a
greater_at a b (Some x) (Some y) = record {
  at = Some (int_max x y);
  implicit = (int_lt x y || a.implicit) && (int_lt y x || b.implicit);
}

abbrev pub greater_edge : Edge → Edge → Edge
greater_edge a b = greater_at a b a.at b.at

-- the lesser of two upper edges; it is implicit where each of the two that attains it is
abbrev pub lesser_at : Edge → Edge → Option ℤ → Option ℤ → Edge
lesser_at a b None None = record { at = None; implicit = a.implicit && b.implicit }
lesser_at a b None (Some y) = b
lesser_at a b (Some x) None = a
lesser_at a b (Some x) (Some y) = record {
  at = Some (int_min x y);
  implicit = (int_lt y x || a.implicit) && (int_lt x y || b.implicit);
}

abbrev pub lesser_edge : Edge → Edge → Edge
lesser_edge a b = lesser_at a b a.at b.at

-- the greatest lower and the least upper edge
abbrev pub bounds_met : Ends → List Ends → Ends
bounds_met ends more = record {
  lower = fold greater_edge ends.lower (map (λ e. e.lower) more);
  upper = fold lesser_edge ends.upper (map (λ e. e.upper) more);
}

-- the lower edge is more than one above the upper one
abbrev pub cross_at : Option ℤ → Option ℤ → Bool
cross_at None high = false
cross_at (Some x) None = false
cross_at (Some x) (Some y) = int_lt (y +ℤ pos 1) x

abbrev pub cross : Ends → Bool
cross ends = cross_at ends.lower.at ends.upper.at

-- the number below an edge
abbrev pub below : Option ℤ → Option ℤ
below None = None
below (Some x) = Some (x -ℤ pos 1)

-- edges that cross are put right by the upper one, which comes right below the lower one and keeps its flag
abbrev pub uncrossed : Ends → Ends
uncrossed ends =
    record { lower = ends.lower; upper = record { at = (if cross ends then below ends.lower.at else ends.upper.at); implicit = ends.upper.implicit } }

-- the meet of several intervals, all taken at once, so that only the last step moves an upper bound
abbrev pub met_all : Ends → List Ends → Ends
met_all ends more = uncrossed (bounds_met ends more)

-- the meet of two intervals
abbrev pub met : Bounds → Bounds → Bounds
met a b = let m = met_all (ends_of a) (ends_of b ∷ []) in interval_of m.lower m.upper

-- of two bounds that meet at a number, the flag is implicit exactly where each that attains the number is
abbrev pub IsTieFlag : ℤ → Bool → ℤ → Bool → ℤ → Bool → Type 0
IsTieFlag a a_implicit b b_implicit at flag = IsTrue flag ↔ ((a ≡ at → IsTrue a_implicit) × (b ≡ at → IsTrue b_implicit))
