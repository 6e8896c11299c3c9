-- What one script alone prints where all answers were written.
use Rattle.std.proofs.Common.{◌≡◌, ◌∙◌, ℕ, suc, ◌+◌, Bool, true, false, List, [], ◌∷◌, length, map, inl, inr, Option, Some, None, refl, sym, ap}
use Rattle.std.specs.Prelude.{filter_map, ◌||◌}
use Rattle.std.specs.List.{AllByRecursion, list_any}
use Rattle.std.proofs.lemmas.List.{length-map}
use Rattle.output_laws.specs.declared.Answer.{Answer}
use Rattle.output_laws.specs.Answers as old
use Rattle.output_laws.specs.Lines.{Line}
use Rattle.output_laws.specs.Steps.{is_memory}
use Rattle.session_workers.specs.Bodies.{body_of, answer_of}
use Rattle.session_workers.specs.Finished.{IsWhole, ends_in_want, asked_by, numbers_from}
use Rattle.script_streams.specs.Standing as standing
use Rattle.script_streams.specs.Standing.{holds_memory, is_memory_body}

-- a body that isn't printed as want of memory is none
good_body : (b : old.Body) → is_memory_body (body_of b) ≡ false → is_memory b ≡ false
good_body old.memory e = absurd (let no_such : ⊥ = cc in no_such)
good_body (old.opened name dtype domain events) e = refl
good_body (old.viewed name dtype transform) e = refl
good_body (old.values origin shape dtype words) e = refl
good_body (old.staged cells) e = refl
good_body (old.written cells events) e = refl
good_body old.begun e = refl
good_body (old.committed events) e = refl
good_body old.aborted e = refl
good_body (old.resized event) e = refl
good_body (old.resolved name dtype transform) e = refl
good_body (old.bad_line text) e = refl
good_body (old.bad_spec path events) e = refl
good_body (old.unsupported path) e = refl
good_body (old.bad_step step) e = refl
good_body (old.unknown_name name) e = refl
good_body old.in_transaction e = refl
good_body old.no_transaction e = refl
good_body (old.unknown_dim step) e = refl
good_body (old.repeated_dim step) e = refl
good_body (old.refused_step step cause) e = refl
good_body (old.refused_view cause) e = refl
good_body (old.refused_join cause) e = refl
good_body (old.refused_spec path cause events) e = refl
good_body (old.not_found at path events) e = refl
good_body (old.exists at path events) e = refl
good_body (old.path_taken at path events) e = refl
good_body (old.mismatch at member path events) e = refl
good_body (old.bad_metadata key why events) e = refl
good_body (old.unbounded dim) e = refl
good_body (old.too_many dim) e = refl
good_body (old.out_of_range cell dim) e = refl
good_body (old.uncovered cell) e = refl
good_body (old.bad_values path) e = refl
good_body (old.conflict key read now) e = refl
good_body (old.shrunk key now) e = refl
good_body (old.not_atomic keys) e = refl
good_body old.not_array e = refl
good_body (old.too_many_chunks at) e = refl
good_body (old.store_failed event done events) e = refl
good_body (old.damaged key cause) e = refl

-- what none of a list passes, neither the first nor one of the others passes
pub none_of : (a b : Bool) → (a || b) ≡ false → (a ≡ false) × (b ≡ false)
none_of true b e = absurd (let no_such : ⊥ = cc in no_such)
none_of false b e = (refl, e)

-- where none is printed as want of memory, none is it
pub all_good : (answers : List old.Answer) → list_any standing.is_memory (map answer_of answers) ≡ false → AllByRecursion (λ (a : old.Answer). is_memory a.body ≡ false) answers
all_good [] e = tt
all_good (a ∷ answers) e = let parts = none_of (standing.is_memory (answer_of a)) (list_any standing.is_memory (map answer_of answers)) e in (good_body a.body parts.0, all_good answers parts.1)

-- and the last one isn't
pub no_want : (log : List Answer) → list_any standing.is_memory log ≡ false → ends_in_want log → ⊥
no_want [] e want = want
no_want (a ∷ []) e want = let parts = none_of (standing.is_memory a) false e in let is : is_memory_body a.body ≡ true = ap is_memory_body want in let no_such : ⊥ = cc in no_such
no_want (a ∷ b ∷ log) e want = let parts = none_of (standing.is_memory a) (list_any standing.is_memory (b ∷ log)) e in no_want (b ∷ log) parts.1 want

count_numbers : (n : ℕ) (lines : List (Option Line)) → length (numbers_from n lines) ≡ length (filter_map (λ line. line) lines)
count_numbers n [] = refl
count_numbers n (None ∷ lines) = count_numbers (n + 1) lines
count_numbers n (Some line ∷ lines) = ap suc (count_numbers (n + 1) lines)

-- as many answers as there are lines that aren't blank
pub as_many : (mounts : List (List ℕ)) (script : List ℕ) (answers : List old.Answer) → list_any standing.is_memory (map answer_of answers) ≡ false → IsWhole mounts script (map answer_of answers) → length answers ≡ length (filter_map (λ line. line) (asked_by mounts script))
as_many mounts script answers e (inl numbers) =
    sym (length-map answers answer_of) ∙ sym (length-map (map answer_of answers) (λ (a : Answer). a.line)) ∙ ap length numbers ∙ count_numbers 1 (asked_by mounts script)
as_many mounts script answers e (inr want) = absurd (no_want (map answer_of answers) e want)
