-- Where an array may lie below its mount.
use Rattle.std.specs.Prelude.{ℕ, ◌-◌, List, length, take, codes, Bool, not, ◌&&◌, ◌==◌, nat_eq, nat_le, Option, Some, None, if◌then◌else◌}
use Rattle.std.specs.List.{list_all, ends_with, slice_split}
use Rattle.std.specs.Str.{bytes_eq}

-- neither `/` nor a zero byte
abbrev pub is_segment_byte : ℕ → Bool
is_segment_byte b = not (b == 47) && not (b == 0)

-- a segment: 1 to 255 of these, neither `.` nor `..`, and with no `~new` at its end
abbrev pub is_segment : List ℕ → Bool
is_segment s = nat_le 1 (length s) && (nat_le (length s) 255 && (not (bytes_eq s (codes ".")) && (not (bytes_eq s (codes "..")) && (not (ends_with nat_eq s (codes "~new")) && list_all is_segment_byte s))))

-- what stands between the `/` of a path
abbrev pub segments_of : List ℕ → List (List ℕ)
segments_of path = slice_split (λ b. b == 47) path

-- at most 16 segments
abbrev pub is_path : List ℕ → Bool
is_path path = nat_le (length (segments_of path)) 16 && list_all is_segment (segments_of path)

-- the text without the `/` at its end, if there is one
abbrev pub without_slash : List ℕ → List ℕ
without_slash text = if ends_with nat_eq text (codes "/") then take (length text - 1) text else text

-- the path that a text is: one `/` at its end is dropped
abbrev pub path_of : List ℕ → Option (List ℕ)
path_of text = if is_path (without_slash text) then Some (without_slash text) else None
