-- A run is one over every store that starts alike and by whose prefixes the same keys go together.
use Rattle.std.proofs.Common.{◌≡◌, ℕ, ◌+◌, ◌<◌, List, [], ◌∷◌, ◌++◌, length, take, cond, Option, None, sym, ap, subst, ◌∙◌}
use Rattle.std.specs.Prelude.{IsTrue}
use Rattle.kv_face.specs.Store.{Contents}
use Rattle.history.specs.declared.Damage.{Damage}
use Rattle.history.specs.History.{History}
use Rattle.history.specs.Acts.{Act, Asked, act_of}
use Rattle.history.specs.Answers as body
use Rattle.history.specs.Answers.{Body, Answer}
use Rattle.history.specs.Chunks.{Chunk, metadata_key}
use Rattle.history.specs.Commit.{Key, Fixed, Transaction, CommitTogether, are_together, changed_keys, commit_events, done, done_each, kept_ops, stored_keys}
use Rattle.history.specs.CommitRows.{HasNoDamage, IsCommit, IsPart, MayCommit, conflicts, is_damaged, is_done, is_failed, is_shrunk, is_split, is_wanting, left_by}
use Rattle.history.specs.Lines.{Line}
use Rattle.history.specs.Own.{Numbered, numbered, numbers_of, fault}
use Rattle.history.specs.Refusals.{IsDamagedCommit, IsDamagedResize, IsNotAtomic, IsNotAtomicResize, IsSpoiled, all_resized_keys, resized_keys}
use Rattle.history.specs.ResizeRows.{HasNoDamagedPart, MayResize}
use Rattle.history.specs.Sessions.{Names, SessionState}
use Rattle.history.specs.Steps.{IsRow, open_done, open_refused, open_unbuilt, open_failed, open_wanting, view_done, read_done, read_shrunk, read_damaged, read_failed, write_staged, write_done, begin_done, commit_done, abort_done, resize_done, resize_many, resize_split, resize_damaged, resize_failed, resolve_done, resolve_refused, write_alone, IsAnswered, refused_line, wanting, done_line, SessionStep, IsSessionRun, no_line, blank_line, next_line, last_line}
use Rattle.serial_runs.specs.Runs.{Script, IsLog, AreLogs, IsRunOf}

module _ (start : Contents) (ps qs : List Key) (same : (keys : List Key) → are_together ps keys ≡ are_together qs keys) where
  abbrev one : Fixed
  one = record { start = start; prefixes = ps }

  abbrev other : Fixed
  other = record { start = start; prefixes = qs }

  -- a commit
  module _ (events : History) (t : Transaction) where
    together : CommitTogether one events t.ops → CommitTogether other events t.ops
    together is = subst (λ b. IsTrue b) (same (stored_keys events t.ops)) is

    apart_too : CommitTogether other events t.ops → CommitTogether one events t.ops
    apart_too is = subst (λ b. IsTrue b) (sym (same (stored_keys events t.ops))) is

    same_events : (owner : ℕ) → commit_events one events owner t ≡ commit_events other events owner t
    same_events owner = ap (λ b. cond b (done owner t (kept_ops t) None ∷ []) (done_each owner t (kept_ops t) (changed_keys events t.ops))) (same (stored_keys events t.ops))

    may : MayCommit one events t → MayCommit other events t
    may is = record { no_conflict = is.no_conflict; in_shapes = is.in_shapes; whole = λ asked. together (is.whole asked) }

    spoiled : (c : Chunk) (key : Key) (cause : Damage) → IsSpoiled one events t c key cause → IsSpoiled other events t c key cause
    spoiled c key cause is = record { changed = is.changed; partly = is.partly; damaged = is.damaged }

    spoiled_too : (c : Chunk) (key : Key) (cause : Damage) → IsSpoiled other events t c key cause → IsSpoiled one events t c key cause
    spoiled_too c key cause is = record { changed = is.changed; partly = is.partly; damaged = is.damaged }

    undamaged : HasNoDamage one events t → HasNoDamage other events t
    undamaged none c key cause is = none c key cause (spoiled_too c key cause is)

    damaged : (key : Key) (cause : Damage) → IsDamagedCommit one events t key cause → IsDamagedCommit other events t key cause
    damaged key cause is = record { chunk = is.chunk; spoiled = spoiled is.chunk key cause is.spoiled; least = λ c k why there. is.least c k why (spoiled_too c k why there) }

    split : (keys : ℕ) → IsNotAtomic one events t keys → IsNotAtomic other events t keys
    split keys is = record { asked = is.asked; apart = sym (same (stored_keys events t.ops)) ∙ is.apart; count = is.count }

    part : (owner count : ℕ) → IsPart one owner events t count → IsPart other owner events t count
    part owner count is = record {
      may = may is.may;
      fewer = subst (λ es. count < length es) (same_events owner) is.fewer;
      together = λ whole. is.together (apart_too whole);
      undamaged = λ some. undamaged (is.undamaged some);
    }

  commit : (owner : ℕ) (events : History) (t : Transaction) (left : Option Transaction) (answer : Body) (own : List Numbered) → IsCommit one owner events t left answer own → IsCommit other owner events t left answer own
  commit owner events t left answer own (conflicts conflict) = conflicts conflict
  commit owner events t left answer own (is_shrunk free shrunk) = is_shrunk free shrunk
  commit owner events t left answer own (is_split {keys = keys} free present apart) = is_split free present (split events t keys apart)
  commit owner events t left answer own (is_damaged {key = key} {cause = cause} is damage) = is_damaged (may events t is) (damaged events t key cause damage)
  commit owner events t left answer own (is_done n is sound) =
      subst (λ es. IsCommit other owner events t None (body.committed (numbers_of (numbered (n + 1) es))) (numbered (n + 1) es)) (sym (same_events (take n events) t owner)) (is_done n (may (take n events) t is) (undamaged (take n events) t sound))
  commit owner events t left answer own (is_failed n count mount is changed) =
      subst (λ es. IsCommit other owner events t (left_by count t) (body.store_failed (n + count + 1) (numbers_of (take count (numbered (n + 1) es))) None) (take count (numbered (n + 1) es) ++ record { number = n + count + 1; event = fault owner mount } ∷ []))
      (sym (same_events (take n events) t owner)) (is_failed n count mount (part (take n events) t owner count is) changed)
  commit owner events t left answer own (is_wanting n count is) =
      subst (λ es. IsCommit other owner events t (left_by count t) body.memory (take count (numbered (n + 1) es))) (sym (same_events (take n events) t owner)) (is_wanting n count (part (take n events) t owner count is))

  -- a resize
  module _ (events : History) (array : ℕ) (shape : List ℕ) where
    cut_apart : (keys : ℕ) → IsNotAtomicResize one events array shape keys → IsNotAtomicResize other events array shape keys
    cut_apart keys is = record {
      known = is.known;
      is_known = is.is_known;
      apart = sym (same (all_resized_keys (metadata_key is.known) (resized_keys is.known array shape))) ∙ is.apart;
      count = is.count;
    }

    cut_apart_too : (keys : ℕ) → IsNotAtomicResize other events array shape keys → IsNotAtomicResize one events array shape keys
    cut_apart_too keys is = record {
      known = is.known;
      is_known = is.is_known;
      apart = same (all_resized_keys (metadata_key is.known) (resized_keys is.known array shape)) ∙ is.apart;
      count = is.count;
    }

    may_resize : MayResize one events array shape → MayResize other events array shape
    may_resize is = record { legal = is.legal; whole = λ keys apart. is.whole keys (cut_apart_too keys apart) }

    cut_damaged : (key : Key) (cause : Damage) → IsDamagedResize one events array shape key cause → IsDamagedResize other events array shape key cause
    cut_damaged key cause is = record {
      known = is.known;
      is_known = is.is_known;
      index = is.index;
      cut = is.cut;
      is_cut = is.is_cut;
      left = is.left;
      in_chunk = is.in_chunk;
      stays = is.stays;
      damaged = is.damaged;
    }

    cut_damaged_too : (key : Key) (cause : Damage) → IsDamagedResize other events array shape key cause → IsDamagedResize one events array shape key cause
    cut_damaged_too key cause is = record {
      known = is.known;
      is_known = is.is_known;
      index = is.index;
      cut = is.cut;
      is_cut = is.is_cut;
      left = is.left;
      in_chunk = is.in_chunk;
      stays = is.stays;
      damaged = is.damaged;
    }

    cut_sound : HasNoDamagedPart one events array shape → HasNoDamagedPart other events array shape
    cut_sound none key cause is = none key cause (cut_damaged_too key cause is)

  -- any other row says nothing of the prefixes
  row : (owner : ℕ) (events : History) (s : SessionState) (line : ℕ) (act : Act) (names : Names) (left : Option Transaction) (answer : Body) (own : List Numbered) → IsRow one owner events s line act names left answer own → IsRow other owner events s line act names left answer own
  row owner events s line act names left answer own (open_done opened built) = open_done opened built
  row owner events s line act names left answer own (open_refused opened refused) = open_refused opened refused
  row owner events s line act names left answer own (open_unbuilt opened built) = open_unbuilt opened built
  row owner events s line act names left answer own (open_failed before opened failed) = open_failed before opened failed
  row owner events s line act names left answer own (open_wanting opened) = open_wanting opened
  row owner events s line act names left answer own view_done = view_done
  row owner events s line act names left answer own (read_done is) = read_done (record { marked = is.marked; shown = is.shown })
  row owner events s line act names left answer own (read_shrunk shrunk) = read_shrunk shrunk
  row owner events s line act names left answer own (read_damaged is) = read_damaged (record { chunk = is.chunk; needed = is.needed; damaged = is.damaged })
  row owner events s line act names left answer own (read_failed before fetched) = read_failed before fetched
  row owner events s line act names left answer own write_staged = write_staged
  row owner events s line act names left answer own (write_done {view = view} {words = words} {left = rest} {answer = inner} is) = write_done (commit owner events (write_alone line view words) rest inner own is)
  row owner events s line act names left answer own begin_done = begin_done
  row owner events s line act names left answer own (commit_done {t = t} is) = commit_done (commit owner events t left answer own is)
  row owner events s line act names left answer own abort_done = abort_done
  row owner events s line act names left answer own (resize_done {array = array} {shape = shape} n is sound) = resize_done n (may_resize (take n events) array.number shape is) (cut_sound (take n events) array.number shape sound)
  row owner events s line act names left answer own (resize_many many) = resize_many many
  row owner events s line act names left answer own (resize_split {array = array} {shape = shape} {keys = keys} few is) = resize_split few (cut_apart events array.number shape keys is)
  row owner events s line act names left answer own (resize_damaged {array = array} {shape = shape} {key = key} {cause = cause} is damage) = resize_damaged (may_resize events array.number shape is) (cut_damaged events array.number shape key cause damage)
  row owner events s line act names left answer own (resize_failed {array = array} {shape = shape} n is on) = resize_failed n (may_resize (take n events) array.number shape is) on
  row owner events s line act names left answer own (resolve_done m low high is) = resolve_done m low high is
  row owner events s line act names left answer own (resolve_refused m low high is) = resolve_refused m low high is

  answered : (owner : ℕ) (events : History) (s : SessionState) (line : ℕ) (asked : Asked) (names : Names) (left : Option Transaction) (answer : Body) (own : List Numbered) → IsAnswered one owner events s line asked names left answer own
      → IsAnswered other owner events s line asked names left answer own
  answered owner events s line asked names left answer own refused_line = refused_line
  answered owner events s line asked names left answer own wanting = wanting
  answered owner events s line asked names left answer own (done_line {act = act} is) = done_line (row owner events s line act names left answer own is)

  step : (owner : ℕ) (events : History) (s : SessionState) (line : ℕ) (asked : Line) (next : SessionState) (answer : Body) → SessionStep one owner events s line asked next answer → SessionStep other owner events s line asked next answer
  step owner events s line asked next answer is = record {
    rises = is.rises;
    within = is.within;
    row = answered owner (take next.seen events) s line (act_of s.names s.transaction asked) next.names next.transaction answer _ is.row;
  }

  run : {owner : ℕ} {events : History} {s last : SessionState} {line : ℕ} {lines : List (Option Line)} {answers : List Answer} → IsSessionRun one owner events s line lines answers last → IsSessionRun other owner events s line lines answers last
  run no_line = no_line
  run (blank_line rest) = blank_line (run rest)
  run {owner = owner} {events = events} (next_line {s} {m} {last} {line} {asked} {answer} is goes_on rest) = next_line (step owner events s line asked m answer is) goes_on (run rest)
  run {owner = owner} {events = events} (last_line {s} {last} {line} {asked} is) = last_line (step owner events s line asked last body.memory is)

  log_alike : (history : History) (k : ℕ) (script : Script) (log : List Answer) → IsLog one history k script log → IsLog other history k script log
  log_alike history k script log is = record { ran = is.ran; left = is.left; parts = is.parts; last = is.last; run = run is.run; no_more = is.no_more }

  logs_alike : (history : History) (scripts : List Script) (logs : List (List Answer)) → AreLogs one history scripts logs → AreLogs other history scripts logs
  logs_alike history scripts logs are = record { count = are.count; each = λ k script log is has. log_alike history k script log (are.each k script log is has); owners = are.owners }

  pub run_alike : (scripts : List Script) (history : History) (logs : List (List Answer)) (store : Option Contents) (changes changes_now : Option ℕ) → IsRunOf one scripts history logs store changes changes_now → IsRunOf other scripts history logs store changes changes_now
  run_alike scripts history logs store changes changes_now is = record { sessions = logs_alike history scripts logs is.sessions; consistent = is.consistent; counted = is.counted }
