-- The lines of a script, given one after another.
use Rattle.std.proofs.Common.{◌≡◌, ◌∙◌, ◌<◌, ◌^◌, ℕ, ◌+◌, Bor, Bool, true, false, cond, List, [], ◌∷◌, ◌++◌, length, map, inl, inr, Option, Some, None, refl, sym, ap, subst, arith, append_assoc, append-nil, length-append}
use Rattle.std.specs.Prelude.{◌⊎◌, IfSome, MatchOption}
use Rattle.std.proofs.lemmas.List.{map-append, length-map}
use Rattle.history.specs.Lines.{Line}
use Rattle.kv_face.specs.Store.{Contents}
use Rattle.session_openings.specs.Meanings.{line_of_bytes}
use Rattle.script_lines.specs.Script.{lines_of, lines_left, is_blank}
use Rattle.session_runs.specs.Scripts.{asked_line, asked_by, HasRunScript, IsGivenMore, IsGivenLast}
use Rattle.session_runs.specs.Session.{SessionSeen, IsSessionOn}
use Rattle.session_runs.proofs.StepLaws.{session_blank}
use Rattle.session_openings.specs.Agreement.{Opening}
use Rattle.turn_book.specs.Passes.{BookView}

-- the first lines of a script were given, as many as this, and these are left
pub record IsUnderWay (book : BookView Opening) (mounts : List (List ℕ)) (script : List ℕ) (rest : Option (List ℕ)) (line : ℕ) (s : SessionSeen) : Type 0 where
  pub given : List (List ℕ)
  pub parts : lines_of script ≡ given ++ lines_left rest
  pub count : length given ≡ line
  pub on : IsSessionOn book s (map (asked_line mounts) given)
  pub going : s.ended ≡ false

module _ (book : BookView Opening) (mounts : List (List ℕ)) (script : List ℕ) where
  -- before the first
  pub at_start : (s : SessionSeen) → IsSessionOn book s [] → s.ended ≡ false → IsUnderWay book mounts script (Some script) 0 s
  at_start s on going = record { given = []; parts = refl; count = refl; on = on; going = going }

  longer : (given : List (List ℕ)) (first : List ℕ) → map (asked_line mounts) (given ++ first ∷ []) ≡ map (asked_line mounts) given ++ asked_line mounts first ∷ []
  longer given first = map-append (asked_line mounts) given (first ∷ [])

  shifted : (given : List (List ℕ)) (bytes first : List ℕ) (after : Option (List ℕ)) → lines_of script ≡ given ++ lines_left (Some bytes) → lines_of bytes ≡ first ∷ lines_left after → lines_of script ≡ (given ++ first ∷ []) ++ lines_left after
  shifted given bytes first after parts cut = parts ∙ ap (λ ls. given ++ ls) cut ∙ sym (append_assoc given (first ∷ []) (lines_left after))

  one_more : (given : List (List ℕ)) (first : List ℕ) (line : ℕ) → length given ≡ line → length (given ++ first ∷ []) ≡ line + 1
  one_more given first line count = length-append given (first ∷ []) ∙ ap (λ n. n + 1) count

  module _ (bytes first : List ℕ) (after : Option (List ℕ)) (line : ℕ) (cut : lines_of bytes ≡ first ∷ lines_left after) where
    number : (given : List (List ℕ)) → length given ≡ line → line + 1 ≡ length (map (asked_line mounts) given) + 1
    number given count = ap (λ n. n + 1) (sym (length-map given (asked_line mounts) ∙ count))

    -- a line that is given
    pub past_line : (was now : SessionSeen) → IsGivenMore book was now (line + 1) (asked_line mounts first) → IsUnderWay book mounts script (Some bytes) line was → IsUnderWay book mounts script after (line + 1) now
    past_line was now more under = record {
      given = under.given ++ first ∷ [];
      parts = shifted under.given bytes first after under.parts cut;
      count = one_more under.given first line under.count;
      on = subst (IsSessionOn book now) (sym (longer under.given first)) (more.on (map (asked_line mounts) under.given) (number under.given under.count) under.on);
      going = more.going;
    }

    split : (given : List (List ℕ)) (behind : List (List ℕ)) → lines_of script ≡ given ++ behind → asked_by mounts script ≡ map (asked_line mounts) given ++ map (asked_line mounts) behind
    split given behind parts = ap (map (asked_line mounts)) parts ∙ map-append (asked_line mounts) given behind

    clash : {P : Type 0} (s : SessionSeen) → s.ended ≡ true → s.ended ≡ false → P
    clash s one other = let t : true ≡ false = sym one ∙ other in absurd (let no_such : ⊥ = cc in no_such)

    -- one with which it ends
    pub ends_at : (was now : SessionSeen) → IsGivenLast book was now (line + 1) (asked_line mounts first) → IsUnderWay book mounts script (Some bytes) line was → HasRunScript book mounts script now
    ends_at was now last under = by (last.on (map (asked_line mounts) under.given) (number under.given under.count) under.on)
      where
        by : (IsSessionOn book now (map (asked_line mounts) under.given) ⊎ IsSessionOn book now (map (asked_line mounts) under.given ++ asked_line mounts first ∷ [])) → HasRunScript book mounts script now
        by (inl on) = record {
          given = map (asked_line mounts) under.given;
          left = map (asked_line mounts) (lines_left (Some bytes));
          parts = split under.given (lines_left (Some bytes)) under.parts;
          on = on;
          whole = λ going. clash now last.ended going;
        }
        by (inr on) = record {
          given = map (asked_line mounts) under.given ++ asked_line mounts first ∷ [];
          left = map (asked_line mounts) (lines_left after);
          parts = split (under.given ++ first ∷ []) (lines_left after) (shifted under.given bytes first after under.parts cut) ∙ ap (λ ls. ls ++ map (asked_line mounts) (lines_left after)) (longer under.given first);
          on = on;
          whole = λ going. clash now last.ended going;
        }

  -- behind the last
  pub at_end : (s : SessionSeen) (line : ℕ) → IsUnderWay book mounts script None line s → HasRunScript book mounts script s
  at_end s line under = record {
    given = map (asked_line mounts) under.given;
    left = [];
    parts = ap (map (asked_line mounts)) (under.parts ∙ append-nil under.given) ∙ sym (append-nil (map (asked_line mounts) under.given));
    on = under.on;
    whole = λ going. refl;
  }

-- a line that is blank or isn't
pub given_blank : (book : BookView Opening) (mounts : List (List ℕ)) (s : SessionSeen) (number : ℕ) (line : List ℕ) → is_blank line ≡ true → s.ended ≡ false → IsGivenMore book s s number (asked_line mounts line)
given_blank book mounts s number line blank going = record {
  going = going;
  on = λ lines at was. subst (λ l. IsSessionOn book s (lines ++ l ∷ [])) (sym (ap (λ b. cond b None (Some (line_of_bytes mounts line))) blank)) (session_blank book s lines going was);
}

pub asked_full : (mounts : List (List ℕ)) (line : List ℕ) → is_blank line ≡ false → asked_line mounts line ≡ Some (line_of_bytes mounts line)
asked_full mounts line full = ap (λ b. cond b None (Some (line_of_bytes mounts line))) full

-- the number of a line stays small
pub short_more : (line n : ℕ) (after : Option (Bor (List ℕ))) → line + n < 2 ^ 62 → IfSome after (λ r. length r.now < n) → MatchOption after (line + 1 < 2 ^ 63) (λ r. line + 1 + length r.now < 2 ^ 62)
short_more line n None h e = omega arith
short_more line n (Some r) h e = omega arith
