-- A state agrees with its opening behind a call of the store that changed nothing.
use Rattle.std.proofs.Common.{◌≡◌, ◌<◌, ◌≤◌, ℕ, List, [], ◌∷◌, ◌++◌, true, Option, Some, refl, sym, ap, subst, ◌∙◌, arith}
use Rattle.std.specs.Prelude.{Result, Ok, Err, OnOk}
use Rattle.std.proofs.lemmas.List.{append_assoc}
use Rattle.history.specs.Names.{chunk_name}
use Rattle.kv_face.specs.Store.{takes}
use Rattle.history.specs.declared.array.Home.{Home}
use Rattle.history.specs.declared.array.Home.TheVariants.{Zarr, N5, Zarr3, Local}
use Rattle.history.specs.Arrays.{Known, form_of}
use Rattle.history.specs.Chunks.{home_text, chunk_key}
use Rattle.history.specs.Counting.{IsCounted}
use Rattle.history.specs.ReadRows.{mount_of}
use Rattle.state_laws.specs.declared.error.GetError.{GetError}
use Rattle.state_laws.specs.declared.error.GetError.TheVariants as get
use Rattle.state_laws.specs.Seen.{StoreSeen, IsQuiet, IsRead}
use Rattle.state_laws.specs.Log.{Log}
use Rattle.state_laws.specs.Agreement.{Opening, Agrees, TakesMount}
use Rattle.state_laws.specs.Fetches.{HasFailed}
use Rattle.state_laws.proofs.Later.{frame_then, quiet_read, not_risen, agrees_fault}

-- a call that changed nothing and didn't fail
pub agrees_quiet : (opening : Opening) (store next : StoreSeen) (log : Log) → IsQuiet store next → next.faults ≤ store.faults → Agrees opening store log → Agrees opening next log
agrees_quiet opening store next log read steady is = record {
  frame = frame_then opening.store store next is.frame read.frame;
  faults = let old = is.faults in let up = read.frame.faults in omega arith;
  told = λ rose. is.told (omega (arith, rose, steady));
  limit = is.limit;
  count = is.count;
  outline = is.outline;
  generations = is.generations;
  mounts = λ a k m known on. subst (λ names. TakesMount names m) (sym read.frame.names) (is.mounts a k m known on);
  kept = is.kept;
  held = is.held;
  holds = λ start told.
      let was = is.holds start told in
      record {
        legal = was.legal;
        contents = was.contents;
        told = read.contents ∙ was.told;
        represents = was.represents;
        counted = subst (λ n. IsCounted start opening.store.changes n log.events) (sym read.changes) was.counted;
        kept = was.kept;
        held = was.held;
      };
}

pub agrees_read : (opening : Opening) (store next : StoreSeen) (log : Log) → IsRead store next → next.faults ≤ store.faults → Agrees opening store log → Agrees opening next log
agrees_read opening store next log read steady is = agrees_quiet opening store next log (quiet_read store next read) steady is

-- a look that may have failed
pub agrees_got : {A : Type 0} (opening : Opening) (store next : StoreSeen) (log later : Log) (owner : ℕ) (mount : List ℕ) (r : Result A GetError) → IsRead store next → OnOk r (later ≡ log)
    → ((event : ℕ) → r ≡ Err (get.Failed event) → HasFailed owner mount store next log later event) → (store.faults < next.faults → (event : ℕ) × (r ≡ Err (get.Failed event))) → (r ≡ Err get.Memory → later ≡ log) → Agrees opening store log → Agrees opening next later
agrees_got opening store next log later owner mount (Ok x) read ok failed told memory is =
    subst (Agrees opening next) (sym ok) (agrees_read opening store next log read (not_risen store.faults next.faults (λ rose. let why = told rose in let clash = why.1 in cc)) is)
agrees_got opening store next log later owner mount (Err (get.Failed event)) read ok failed told memory is =
    let has = failed event refl in
    subst (Agrees opening next) (sym has.added) (agrees_fault opening store next log owner mount (quiet_read store next read) has.rose is)
agrees_got opening store next log later owner mount (Err get.Memory) read ok failed told memory is =
    subst (Agrees opening next) (sym (memory refl)) (agrees_read opening store next log read (not_risen store.faults next.faults (λ rose. let why = told rose in let clash = why.1 in cc)) is)

-- a stored array's keys lie below its mount
in_folder : (m path name mount : List ℕ) → m ≡ mount → (rest : List ℕ) × ((m ++ 47 ∷ path ++ 47 ∷ []) ++ name ≡ mount ++ 47 ∷ rest)
in_folder m path name mount same =
    let tail : List ℕ = (47 ∷ []) ++ name in
    (path ++ tail, append_assoc (m ++ 47 ∷ path) (47 ∷ []) name ∙ append_assoc m (47 ∷ path) tail ∙ ap (λ n. n ++ 47 ∷ (path ++ tail)) same)

below : (home : Home) (opened : ℕ) (name mount : List ℕ) → mount_of home ≡ Some mount → (rest : List ℕ) × (home_text home opened ++ name ≡ mount ++ 47 ∷ rest)
below (Zarr m path meta) opened name mount is =
    let same : m ≡ mount = cc in in_folder m path name mount same
below (N5 m path meta) opened name mount is =
    let same : m ≡ mount = cc in in_folder m path name mount same
below (Zarr3 m path meta) opened name mount is =
    let same : m ≡ mount = cc in in_folder m path name mount same
below (Local start) opened name mount is = absurd (cc)

pub takes_chunk : (names : Option (List (List ℕ))) (k : Known) (index mount key : List ℕ) → mount_of k.info.home ≡ Some mount → TakesMount names mount → chunk_key k index ≡ key → takes names key ≡ true
takes_chunk names k index mount key on takes_all named =
    let at = below k.info.home k.opened (chunk_name (form_of k.info.home) index) mount on in
    ap (takes names) (sym named ∙ at.1) ∙ takes_all at.0
