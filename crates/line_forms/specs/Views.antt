-- Views of a view, and joined ones.
use Rattle.std.specs.Prelude.{ℕ, List, [], ◌∷◌, length, Bool, ◌&&◌, nat_le, Option, Some, None, option_and_then, option_map, is_some, Result, Ok, codes, if◌then◌else◌}
use Rattle.serde_json.specs.Data.{Data}
use Rattle.serde_json.specs.Find.{get, as_number, as_u64}
use Rattle.json_forms.specs.Lists.{list_items, all_of}
use Rattle.json_forms.specs.Members.{least_unknown}
use Rattle.index_transform.specs.Transforms.{DomainAndMaps}
use Rattle.line_forms.specs.Form.{Form, viewing, joining}
use Rattle.line_parts.specs.Names.{name_of}
use Rattle.line_parts.specs.Parts.{◌>>=◌, has, earlier, unless_so, no_name, name_in, needed, steps_in}
use Rattle.line_parts.specs.Within.{within, transform_in}
use Rattle.line_forms.specs.declared.command.JoinForm.{JoinForm}
use Rattle.line_forms.specs.declared.command.JoinForm.TheVariants.{Overlay, Concat, Stack}
use Rattle.line_parts.specs.declared.error.LineError.{LineError}

-- the least faulty member of `{"view":NAME,"of":NAME,"transform":TRANSFORM,"steps":STEPS}` but for `transform`
abbrev pub view_fault : Data → Option (List ℕ)
view_fault d =
    earlier (least_unknown (codes "of" ∷ codes "steps" ∷ codes "transform" ∷ codes "view" ∷ []) d)
    (earlier (no_name (codes "of") d) (no_name (codes "view") d))

-- the view of this name, of another
abbrev pub viewed_of : Option DomainAndMaps → Data → List ℕ → List ℕ → Result Form LineError
viewed_of transform d name of = steps_in d >>= (λ steps. Ok (viewing name of transform steps))

-- the view of this name
abbrev pub viewed_as : Option DomainAndMaps → Data → List ℕ → Result Form LineError
viewed_as transform d name = name_in (codes "of") d >>= viewed_of transform d name

-- the view that a line tells, by this transform
abbrev pub viewed : Data → Option DomainAndMaps → Result Form LineError
viewed d transform = name_in (codes "view") d >>= viewed_as transform d

-- `{"view":NAME,"of":NAME,"transform":TRANSFORM,"steps":STEPS}`
unfoldable pub of_form : Data → Result Form LineError
of_form d = within (codes "transform") (view_fault d) (transform_in d) (viewed d)

-- 1 to 256 names
abbrev pub as_layers : List (List ℕ) → Option (List (List ℕ))
as_layers names = if nat_le 1 (length names) && nat_le (length names) 256 then Some names else None

-- the views that a member names
abbrev pub layers_at : List ℕ → Data → Option (List (List ℕ))
layers_at k d = option_and_then as_layers (option_and_then (all_of name_of) (option_and_then list_items (get k d)))

-- the number, where it may be an axis
abbrev pub as_axis : ℕ → Option ℕ
as_axis n = if nat_le n 31 then Some n else None

-- the axis of a line, from 0 to 31
abbrev pub axis_at : Data → Option ℕ
axis_at d = option_and_then as_axis (option_and_then as_u64 (option_and_then as_number (get (codes "axis") d)))

-- the members of a join without an axis
unfoldable pub overlay_members : List (List ℕ)
overlay_members = codes "overlay" ∷ codes "steps" ∷ codes "transform" ∷ codes "view" ∷ []

-- those of one with it
unfoldable pub axis_members : List ℕ → List (List ℕ)
axis_members k = codes "axis" ∷ k ∷ codes "steps" ∷ codes "transform" ∷ codes "view" ∷ []

-- the least faulty member of a join but for `transform`, where a test tells whether its layers have a right form
unfoldable pub overlay_fault : Bool → Data → Option (List ℕ)
overlay_fault layers d = earlier (least_unknown overlay_members d) (earlier (unless_so layers (codes "overlay")) (no_name (codes "view") d))

-- the same of a join with an axis
unfoldable pub axis_fault : List ℕ → Bool → Bool → Data → Option (List ℕ)
axis_fault k axis layers d =
    earlier (least_unknown (axis_members k) d) (earlier (unless_so axis (codes "axis")) (earlier (unless_so layers k) (no_name (codes "view") d)))

-- the join of this name, of these views
abbrev pub join_of : Data → Option DomainAndMaps → List ℕ → JoinForm → List (List ℕ) → Result Form LineError
join_of d transform name kind names = steps_in d >>= (λ steps. Ok (joining name kind names transform steps))

-- the join of this name and kind
abbrev pub join_by : List ℕ → Option (List (List ℕ)) → Data → Option DomainAndMaps → List ℕ → JoinForm → Result Form LineError
join_by k layers d transform name kind = needed k layers >>= join_of d transform name kind

-- the join of this name
abbrev pub join_as : List ℕ → Option JoinForm → Option (List (List ℕ)) → Data → Option DomainAndMaps → List ℕ → Result Form LineError
join_as k form layers d transform name = needed (codes "axis") form >>= join_by k layers d transform name

-- the join that a line tells, by this transform
abbrev pub join_in : List ℕ → Option JoinForm → Option (List (List ℕ)) → Data → Option DomainAndMaps → Result Form LineError
join_in k form layers d transform = name_in (codes "view") d >>= join_as k form layers d transform

-- a join of the views that a member names
unfoldable pub joined : List ℕ → Option (List ℕ) → Option JoinForm → Option (List (List ℕ)) → Data → Result Form LineError
joined k fault form layers d = within (codes "transform") fault (transform_in d) (join_in k form layers d)

-- `{"view":NAME,"overlay":NAMES,..}`
unfoldable pub overlay_form : Data → Result Form LineError
overlay_form d = joined (codes "overlay") (overlay_fault (is_some (layers_at (codes "overlay") d)) d) (Some Overlay) (layers_at (codes "overlay") d) d

-- `{"view":NAME,"concat":NAMES,"axis":AXIS,..}`
unfoldable pub concat_form : Data → Result Form LineError
concat_form d =
    joined (codes "concat") (axis_fault (codes "concat") (is_some (axis_at d)) (is_some (layers_at (codes "concat") d)) d)
    (option_map Concat (axis_at d)) (layers_at (codes "concat") d) d

-- `{"view":NAME,"stack":NAMES,"axis":AXIS,..}`
unfoldable pub stack_form : Data → Result Form LineError
stack_form d =
    joined (codes "stack") (axis_fault (codes "stack") (is_some (axis_at d)) (is_some (layers_at (codes "stack") d)) d)
    (option_map Stack (axis_at d)) (layers_at (codes "stack") d) d

-- the first of `concat`, `of`, `overlay` and `stack` that stands tells which view it is; where none stands, `of` is missing
unfoldable pub view_form : Data → Result Form LineError
view_form d =
    if has (codes "concat") d then concat_form d
    else (if has (codes "of") d then of_form d
    else (if has (codes "overlay") d then overlay_form d
    else (if has (codes "stack") d then stack_form d
    else of_form d)))
